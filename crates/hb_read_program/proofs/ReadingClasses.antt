-- What the grammar says of a class, the table says.
use Rattle.std.proofs.Common.{◌≡◌, ℕ, suc, ◌+◌, false, List, [], ◌∷◌, ◌++◌, Option, Some, is_some, refl, sym, ap, ◌∙◌, append_assoc, arith}
use Rattle.hb_base.specs.declared.name.Name.{Name}
use Rattle.hb_base.specs.declared.place.Place.{Place}
use Rattle.hb_tokens.specs.declared.token.Token.{Token}
use Rattle.hb_tokens.specs.declared.word.Word.TheVariants as word
use Rattle.hb_tree.specs.declared.types.NameAt.{NameAt}
use Rattle.hb_tree.specs.declared.types.PredExpr.{PredExpr}
use Rattle.hb_tree.specs.declared.types.Sig.{Sig}
use Rattle.hb_tree.specs.declared.declaration.Depend.{Depend}
use Rattle.hb_tree.specs.declared.declaration.Decl.TheVariants as decl
use Rattle.hb_grammar.specs.Tokens.{IsCon, IsWord}
use Rattle.hb_grammar.specs.Types.{name_at}
use Rattle.hb_grammar.specs.Declarations as grammar
use Rattle.hb_grammar.specs.Declarations.{ReadsVars, no_var, var_more, ReadsDepend, ReadsDependList, ReadsDepends, ReadsMethods, ReadsSupers}
use Rattle.hb_engine.specs.Tables.{row_end, row_null, row_turn}
use Rattle.hb_engine.proofs.EngineLaw.{append_none, rows}
use Rattle.hb_read_types.specs.Nodes.{context_nodes}
use Rattle.hb_read_types.specs.declared.context_reader.ContextReader.{ContextReader}
use Rattle.hb_read_declarations.specs.declared.node.DeclNode.TheVariants as node
use Rattle.hb_read_declarations.specs.Nodes.{named, names_of, counted, typed, depend_of, sig_of}
use Rattle.hb_read_declarations.specs.Readers.{Out, no_context}
use Rattle.hb_read_declarations.specs.Worths.{kind_word, this_word}
use Rattle.hb_read_declarations.proofs.Known.{some_none, if_true, if_false}
use Rattle.hb_read_declarations.proofs.WorthLaws.{var_is, con_is, word_is}
use Rattle.hb_read_declarations.proofs.Lists.{made, head_of}
use Rattle.hb_read_declarations.proofs.Parts.{depend_list_back}
use Rattle.hb_read_program.specs.Rules.{heads, fits}
use Rattle.hb_read_program.specs.declared.symbol.Kind.TheVariants as kind
use Rattle.hb_read_program.specs.declared.symbol.Symbol.TheVariants as symbol
use Rattle.hb_read_program.specs.declared.symbol.Things.TheVariants as things
use Rattle.hb_read_program.specs.declared.symbol.Form.TheVariants as form
use Rattle.hb_read_program.specs.Frames.{a_context, waits, reads_class, turn_to, Heading, first_heading, next_heading, heading_moved, context_moved, still_class, class_turn}
use Rattle.hb_read_program.specs.declared.side.Heading.TheVariants as heading
use Rattle.hb_read_declarations.proofs.Typing.{a_context_known}
use Rattle.hb_read_program.proofs.Finishes.{Rows, rows_as, class_row, still_names, names_nothing}
use Rattle.hb_read_program.proofs.Reading.{by_head, by_nothing, a_con, a_word, var_fits, mark_fits, name_put, vars_read}
use Rattle.hb_read_program.proofs.ReadingLists.{found_at, Puts, things_read}
use Rattle.hb_read_program.proofs.ReadingDecls.{DeclPuts, three_closed}
use Rattle.hb_read_program.proofs.ReadingSigs.{methods_read}

-- varid+
some_vars_read : (p : Place) (n : ℕ) {ts us : List Token} {v : NameAt} {ns : List NameAt} → ReadsVars ts (v ∷ ns) us → Rows (waits symbol.SomeVars p n ∷ []) ts (names_of (v ∷ ns)) us
some_vars_read p n {ns} (var_more {t} e h) =
    rows_as (ap (λ m. m ++ ((counted named ns).nodes ++ node.Names (1 + (counted named ns).count) ∷ [])) (name_put t e.kind refl))
    (by_head symbol.SomeVars p n (if_true (fits kind.Var t) _ _ (var_fits t e)) (vars_read t.place 1 h))

-- the head of a class that has no context, beside a context

counts : (a b : ℕ) → ((a + 1) + 1) + b ≡ (a + 1) + (1 + b)
counts a b = omega arith

none_more : (k : ℕ) → suc k ≡ (k + 1) + 0
none_more k = omega arith

first_count : (b : ℕ) → (0 + 1) + b ≡ 1 + b
first_count b = omega arith

name_turn : (c : Option ContextReader) (h : Heading) (t : Token) (k : ℕ) (out : Out) → is_some (this_word word.DoubleArrow t) ≡ false → heading_moved h t ≡ heading.Names k out → class_turn c h t ≡ Some (turn_to (reads_class (context_moved c t) (heading.Names k out) ∷ []) [])
name_turn c h t k out d e = if_false (is_some (this_word word.DoubleArrow t)) _ _ d ∙ (ap (still_class (context_moved c t)) e ∙ still_names (context_moved c t) k out)

vars_row : (c : Option ContextReader) (k : ℕ) (out : Out) {ts us : List Token} {ns : List NameAt} → ReadsVars ts ns us → Rows (reads_class c (heading.Names (k + 1) out) ∷ []) ts (no_context ++ ((out ++ (counted named ns).nodes) ++ node.Names ((k + 1) + (counted named ns).count) ∷ [])) us
vars_row c k out no_var =
    rows_as (append_none (no_context ++ (out ++ node.Names (suc k) ∷ [])) ∙ (ap (λ m. no_context ++ (out ++ node.Names m ∷ [])) (none_more k) ∙ ap (λ xs. no_context ++ (xs ++ node.Names ((k + 1) + 0) ∷ [])) (sym (append_none out))))
    (row_null (names_nothing k out) row_end)
vars_row c k out (var_more {t} {name} {names} e h) =
    rows_as (ap (λ m. no_context ++ (((out ++ named (name_at t name)) ++ (counted named names).nodes) ++ node.Names m ∷ [])) (counts k (counted named names).count) ∙ ap (λ xs. no_context ++ (xs ++ node.Names ((k + 1) + (1 + (counted named names).count)) ∷ [])) (append_assoc out (named (name_at t name)) (counted named names).nodes))
    (row_turn {n = turn_to (reads_class (context_moved c t) (heading.Names ((k + 1) + 1) (out ++ named (name_at t name))) ∷ []) []}
    (name_turn c (heading.Names (k + 1) out) t ((k + 1) + 1) (out ++ named (name_at t name)) (ap (λ k. is_some (kind_word word.DoubleArrow t.place k)) e.kind) (ap (next_heading (k + 1) out) (var_is t e)))
    (vars_row (context_moved c t) (k + 1) (out ++ named (name_at t name)) h))

params_row : (c : Option ContextReader) (n : NameAt) {ts us : List Token} {v : NameAt} {ns : List NameAt} → ReadsVars ts (v ∷ ns) us → Rows (reads_class c (heading.Names 0 (named n)) ∷ []) ts (no_context ++ (named n ++ names_of (v ∷ ns))) us
params_row c n {v} {ns} (var_more {t} e h) =
    rows_as (ap (λ m. no_context ++ (named n ++ ((named v ++ (counted named ns).nodes) ++ node.Names m ∷ []))) (first_count (counted named ns).count))
    (row_turn {n = turn_to (reads_class (context_moved c t) (heading.Names (0 + 1) (named n ++ named v)) ∷ []) []}
    (name_turn c (heading.Names 0 (named n)) t (0 + 1) (named n ++ named v) (ap (λ k. is_some (kind_word word.DoubleArrow t.place k)) e.kind) (ap (next_heading 0 (named n)) (var_is t e)))
    (vars_row (context_moved c t) 0 (named n ++ named v) h))

bare_row : (c : Option ContextReader) {t : Token} {ts us : List Token} {name : Name} {v : NameAt} {ns : List NameAt} → IsCon name t → ReadsVars ts (v ∷ ns) us → Rows (reads_class c heading.Before ∷ []) (t ∷ ts) (no_context ++ (named (name_at t name) ++ names_of (v ∷ ns))) us
bare_row c {t} {name} d h =
    row_turn {n = turn_to (reads_class (context_moved c t) (heading.Names 0 (named (name_at t name))) ∷ []) []}
    (name_turn c heading.Before t 0 (named (name_at t name)) (ap (λ k. is_some (kind_word word.DoubleArrow t.place k)) d) (ap first_heading (con_is t d)))
    (params_row (context_moved c t) (name_at t name) h)

-- what the frame of a head reads, the head of a class reads
class_top : (p : Place) (n : ℕ) {ts us : List Token} {ms : Out} → Rows (reads_class (Some a_context.start) heading.Before ∷ []) ts ms us → Rows (waits symbol.ClassHead p n ∷ []) ts ms us
class_top p n (row_null e d) = absurd (some_none e refl)
class_top p n (row_turn {n = m} e d) = row_turn {n = m} e d

-- [context "=>"] conid varid+
head_read : (p : Place) (n : ℕ) {s : Token} {ts us vs : List Token} {ps : List PredExpr} {name : Name} {v : NameAt} {ns : List NameAt} → ReadsSupers ts ps (s ∷ us) → IsCon name s → ReadsVars us (v ∷ ns) vs → Rows (waits symbol.ClassHead p n ∷ []) ts (typed (context_nodes ps) ++ (named (name_at s name) ++ names_of (v ∷ ns))) vs
head_read p n grammar.no_supers d h = class_top p n (bare_row (Some a_context.start) d h)
head_read p n (grammar.supers {t} {ps} g e) d h =
    class_top p n (class_row t heading.Before (a_context_known.exact.complete (made ps g)) (ap is_some (word_is t e)) (rows (a_con t.place 0 d) (some_vars_read t.place 0 h)))

-- varid+ "->" varid+
depend_row : (p : Place) (n : ℕ) {ts us vs : List Token} {t : Token} {a b : NameAt} {from to : List NameAt} → ReadsVars ts (a ∷ from) (t ∷ us) → IsWord word.RightArrow t → ReadsVars us (b ∷ to) vs → Rows (waits symbol.Depend p n ∷ []) ts (names_of (a ∷ from) ++ (names_of (b ∷ to) ++ node.Depend ∷ [])) vs
depend_row p n {b} {from} {to} (var_more {t = s} e h) d g =
    rows_as (ap (λ m. m ++ (((counted named from).nodes ++ node.Names (1 + (counted named from).count) ∷ []) ++ (names_of (b ∷ to) ++ node.Depend ∷ []))) (name_put s e.kind refl))
    (by_head symbol.Depend p n (if_true (fits kind.Var s) _ _ (var_fits s e)) (rows (vars_read s.place 1 h) (rows (a_word word.RightArrow s.place 0 d) (rows (some_vars_read s.place 0 g) (by_nothing (symbol.Close form.Depend) s.place 0 refl)))))

depend_read : (p : Place) (n : ℕ) {ts us : List Token} {x : Depend} → ReadsDepend ts x us → Rows (waits symbol.Depend p n ∷ []) ts (depend_of x) us
depend_read p n (grammar.depend h d g) = depend_row p n h d g

depend_puts : Puts symbol.Depend ReadsDepend depend_of
depend_puts p n ts us x h = depend_read p n h

-- ["|" sep(varid+ "->" varid+, ",")]
depends_read : (p : Place) {ts us : List Token} {xs : List Depend} → ReadsDepends ts xs us → Rows (waits symbol.Depends p 0 ∷ []) ts ((counted depend_of xs).nodes ++ node.Depends (counted depend_of xs).count ∷ []) us
depends_read p grammar.no_depends = by_nothing symbol.Depends p 0 refl
depends_read p (grammar.depends {t} d h) = by_head symbol.Depends p 0 (found_at (heads symbol.Depends) t d) (things_read things.Depends depend_of (λ t e. mark_fits 44 t e) depend_puts t.place t.place 0 (head_of (depend_list_back h)))

pub class_puts : {t s : Token} {ts us vs ws xs : List Token} {ps : List PredExpr} {name : Name} {v : NameAt} {params : List NameAt} {ds : List Depend} {sigs : List Sig} → IsWord word.Class t → ReadsSupers ts ps (s ∷ us) → IsCon name s → ReadsVars us (v ∷ params) vs → ReadsDepends vs ds ws → ReadsMethods ws sigs xs → DeclPuts (decl.Class t.place ps (name_at s name) (v ∷ params) ds sigs) (t ∷ ts) xs
class_puts {t} {s} {ps} {name} {v} {params} {ds} {sigs} d g e h k l p n ms vs after =
    rows_as (three_closed (typed (context_nodes ps) ++ (named (name_at s name) ++ names_of (v ∷ params))) ((counted depend_of ds).nodes ++ node.Depends (counted depend_of ds).count ∷ []) ((counted sig_of sigs).nodes ++ node.Sigs (counted sig_of sigs).count ∷ []) (node.Class t.place ∷ []) ms)
    (by_head symbol.Tops p n (found_at (heads symbol.Tops) t d)
    (rows (head_read t.place 0 g e h) (rows (depends_read t.place k) (rows (methods_read t.place l) (rows (by_nothing (symbol.Close form.Class) t.place 0 refl) (after t.place))))))
