-- What the table says of an equation and of a signature, which are read side by side, the grammar says.
use Rattle.std.proofs.Common.{◌≡◌, ℕ, ◌+◌, true, List, [], ◌∷◌, ◌++◌, Option, Some, None, refl, sym, ap, subst, ◌∙◌}
use Rattle.hb_base.specs.declared.name.Name.{Name}
use Rattle.hb_base.specs.declared.place.Place.{Place}
use Rattle.hb_tokens.specs.declared.token.Token.{Token}
use Rattle.hb_tokens.specs.declared.word.Word.TheVariants as word
use Rattle.hb_tree.specs.declared.types.NameAt.{NameAt}
use Rattle.hb_tree.specs.declared.types.Sig.{Sig}
use Rattle.hb_tree.specs.declared.statement.Bind.{Bind}
use Rattle.hb_tree.specs.declared.declaration.Decl.TheVariants as decl
use Rattle.hb_grammar.specs.Reading.{Runs, stop, take}
use Rattle.hb_grammar.specs.Tokens.{IsWord, first_place}
use Rattle.hb_grammar.specs.Expressions as expressions
use Rattle.hb_grammar.specs.Expressions.{ReadsName}
use Rattle.hb_grammar.specs.Declarations as grammar
use Rattle.hb_grammar.specs.Declarations.{ReadsDecl, ReadsDecls}
use Rattle.hb_engine.proofs.Model.{All, nothing, then}
use Rattle.hb_engine.proofs.EngineLaw.{append_none}
use Rattle.hb_read_expressions.specs.declared.state.State.{State}
use Rattle.hb_read_declarations.specs.declared.node.DeclNode.TheVariants as node
use Rattle.hb_read_declarations.specs.Combined.{mapped}
use Rattle.hb_read_declarations.specs.Nodes.{named, names_of, decl_nodes}
use Rattle.hb_read_declarations.specs.Readers.{Out}
use Rattle.hb_read_declarations.specs.Worths.{var, op, mark}
use Rattle.hb_read_declarations.proofs.Known.{some_is, Of, of, mapped_of}
use Rattle.hb_read_declarations.proofs.Lists.{nothing_more, a_thing, behind as behind_mark}
use Rattle.hb_read_declarations.proofs.Names.{NameRead, names_from}
use Rattle.hb_read_declarations.proofs.Typing.{Qualified, qualified_of}
use Rattle.hb_read_declarations.proofs.Equations.{EquationRead, equation_read}
use Rattle.hb_read_declarations.proofs.WorthLaws.{var_of, op_of, mark_of}
use Rattle.hb_read_program.specs.Rules.{item, fits}
use Rattle.hb_read_program.specs.declared.symbol.Kind.TheVariants as kind
use Rattle.hb_read_program.specs.declared.symbol.Symbol.TheVariants as symbol
use Rattle.hb_read_program.specs.declared.symbol.Count.TheVariants as count
use Rattle.hb_read_program.specs.declared.symbol.Leaf.TheVariants as leaf
use Rattle.hb_read_program.specs.Frames.{reads_line, ATurn, frames_of, first_at, Side, Spot, name_spot, operator_spot, close_spot, spot_if, comma_if, side_moved, side_start, sig_behind, expr_moved, line_nothing}
use Rattle.hb_read_program.specs.declared.side.Side.TheVariants as side
use Rattle.hb_read_program.specs.declared.side.Spot.TheVariants as spot
use Rattle.hb_read_program.proofs.Counting.{next_suc}
use Rattle.hb_read_program.proofs.TableLaws.{leaf_known}
use Rattle.hb_read_program.proofs.Fits.{an_eq, LineTurn, line_sig, line_still, SigTurn, sig_at, sig_of as sig_turn_of}
use Rattle.hb_read_program.proofs.Means.{Thing, thing, closes, counted_from, After, LeafMeans, want_names, open_names, operator_names, named_names, SigRest, sig_rest, SideMeans, LineMeans, by_equation, by_signature, Means}
use Rattle.hb_read_program.proofs.MeansLaws.{part, parts, same_parts, thing_as, leaf_means, BehindLine}
use Rattle.hb_read_program.proofs.MeansTokens.{is_word}
use Rattle.hb_read_program.proofs.MeansLists.{counted_zero, counted_none, counted_next, cons_next, with_more}
use Rattle.hb_read_program.proofs.MeansBlocks.{decl_before}

-- where it may end

line_as : {e : Option State} {d : Side} {ts us : List Token} {ms ls : Out} → ms ≡ ls → LineMeans e d ts ms us → LineMeans e d ts ls us
line_as {e} {d} {ts} {us} i h = subst (λ ms. LineMeans e d ts ms us) i h

equation_null : (s : State) (d : Side) {ns : Out} (ts : List Token) → Of (λ v. v ++ node.Equation ∷ []) (an_eq.done s) ns → LineMeans (Some s) d ts ns ts
equation_null s d ts (of v e i) = line_as i (by_equation refl (stop e))

pub line_null : (e : Option State) (d : Side) {ns : Out} (ts : List Token) → line_nothing e ≡ Some ns → LineMeans e d ts ns ts
line_null None d ts e = cc
line_null (Some s) d ts e = equation_null s d ts (mapped_of (λ v. v ++ node.Equation ∷ []) (an_eq.done s) e)

-- `::`

sig_as : {p : Place} {k : ℕ} {out : Out} {s : Spot} {ts us : List Token} {ms ls : Out} → ms ≡ ls → SigRest p k out s ts ms us → SigRest p k out s ts ls us
sig_as {p} {k} {out} {s} {ts} {us} e h = subst (λ ms. SigRest p k out s ts ms us) e h

last_name_nodes : (p : Place) (k : ℕ) (out : Out) (n : NameAt) (q : Qualified) → out ++ (counted_from node.Names named k (n ∷ []) ++ (qualified_of q ++ node.Sig p ∷ [])) ≡ ((out ++ named n) ++ node.Names (k + 1) ∷ []) ++ (qualified_of q ++ node.Sig p ∷ [])
last_name_nodes p k out n q =
    let rest = part (qualified_of q ++ node.Sig p ∷ []) in
    let whole = part (node.Names (k + 1) ∷ []) in
    ap (λ m. out ++ (m ++ (qualified_of q ++ node.Sig p ∷ []))) (counted_next node.Names named k n [] ∙ ap (λ m. named n ++ m) (counted_none node.Names named (k + 1)))
    ∙ same_parts (parts (part out) (parts (parts (part (named n)) whole) rest)) (parts (parts (parts (part out) (part (named n))) whole) rest) refl

colons_back : (p : Place) (k : ℕ) (out : Out) (n : NameAt) (t : Token) {ts us : List Token} {ms : Out} → IsWord word.DoubleColon t → All Means (frames_of sig_behind (first_at k p n) 0 t) ts ms us → SigRest p k out (spot.Named n) (t ∷ ts) (((out ++ named n) ++ node.Names (k + 1) ∷ []) ++ ms) us
colons_back p k out n t f (then (thing {a = q} h) (then closes nothing)) =
    sig_as (last_name_nodes (first_at k p n) k out n q) (sig_rest (named_names nothing_more) f h)

-- a token of the names

var_name : (t : Token) (n : NameAt) {us : List Token} → var t ≡ Some n → NameRead (t ∷ us) n us
var_name t n {us} e =
    let v = var_of {t = t} e in
    subst (λ p. ReadsName (t ∷ us) p n.name us) (sym (ap (λ n. n.place) v.is_at)) (expressions.var v.is_var)

bracket_name : (t : Token) (q : Place) {ts us : List Token} {name : Name} → mark 40 t ≡ Some q → ReadsName (t ∷ ts) t.place name us → ReadsName (t ∷ ts) q name us
bracket_name t q {ts} {us} {name} e h = subst (λ p. ReadsName (t ∷ ts) p name us) (sym (mark_of {m = 40} {t = t} e).1) h

want_back : (p : Place) (k : ℕ) (out : Out) (t : Token) (o : Option NameAt) (b : Option Place) {ts us : List Token} {ms : Out} → var t ≡ o → mark 40 t ≡ b → SideMeans (spot_if (name_spot o b) p k out) ts ms us → SigRest p k out spot.Want (t ∷ ts) ms us
want_back p k out t (Some n) b d e (sig_rest (named_names h) f g) = sig_rest (want_names (var_name t n d) h) f g
want_back p k out t None (Some q) d e (sig_rest (open_names i c h) f g) =
    sig_rest (want_names (bracket_name t q e (expressions.op (mark_of {m = 40} {t = t} e).0 i c)) h) f g
want_back p k out t None None d e h = absurd h

open_back : (p : Place) (k : ℕ) (out : Out) (q : Place) (t : Token) (o : Option NameAt) {ts us : List Token} {ms : Out} → op t ≡ o → SideMeans (spot_if (mapped (operator_spot q) o) p k out) ts ms us → SigRest p k out (spot.Open q) (t ∷ ts) ms us
open_back p k out q t (Some n) d (sig_rest (operator_names c h) f g) = sig_rest (open_names (op_of {t = t} d).0 c h) f g
open_back p k out q t None d h = absurd h

close_back : (p : Place) (k : ℕ) (out : Out) (q : Place) (name : Name) (t : Token) (o : Option Place) {ts us : List Token} {ms : Out} → mark 41 t ≡ o → SideMeans (spot_if (mapped (close_spot q name) o) p k out) ts ms us → SigRest p k out (spot.Operator q name) (t ∷ ts) ms us
close_back p k out q name t (Some r) d (sig_rest (named_names h) f g) =
    sig_rest (operator_names (mark_of {m = 41} {t = t} d).0 h) f g
close_back p k out q name t None d h = absurd h

later_first : (k : ℕ) (p : Place) (n : NameAt) → first_at (k + 1) p n ≡ p
later_first k p n = ap (λ m. first_at m p n) (next_suc k)

next_name_nodes : (p : Place) (k : ℕ) (out : Out) (n m : NameAt) (ns : List NameAt) (q : Qualified) → out ++ (counted_from node.Names named k (n ∷ m ∷ ns) ++ (qualified_of q ++ node.Sig p ∷ [])) ≡ (out ++ named n) ++ (counted_from node.Names named (k + 1) (m ∷ ns) ++ (qualified_of q ++ node.Sig (first_at (k + 1) p m) ∷ []))
next_name_nodes p k out n m ns q =
    let names = counted_from node.Names named (k + 1) (m ∷ ns) in
    let rest = part (qualified_of q ++ node.Sig p ∷ []) in
    ap (λ x. out ++ (x ++ (qualified_of q ++ node.Sig p ∷ []))) (counted_next node.Names named k n (m ∷ ns))
    ∙ (same_parts (parts (part out) (parts (parts (part (named n)) (part names)) rest)) (parts (parts (part out) (part (named n))) (parts (part names) rest)) refl
    ∙ ap (λ x. (out ++ named n) ++ (names ++ (qualified_of q ++ node.Sig x ∷ []))) (sym (later_first k p m)))

comma_back : (p : Place) (k : ℕ) (out : Out) (n : NameAt) (t : Token) (o : Option Place) {ts us : List Token} {ms : Out} → mark 44 t ≡ o → SideMeans (comma_if o p k out n) ts ms us → SigRest p k out (spot.Named n) (t ∷ ts) ms us
comma_back p k out n t (Some r) d (sig_rest {n = m} {ns} {q} (want_names h g) f i) =
    sig_as (next_name_nodes (first_at k p n) k out n m ns q) (sig_rest (named_names (a_thing (behind_mark (mark_of {m = 44} {t = t} d).0 h) g)) f i)
comma_back p k out n t None d h = absurd h

side_back : (d : Side) (t : Token) (ts us : List Token) (ms : Out) → SideMeans (side_moved d t) ts ms us → SideMeans d (t ∷ ts) ms us
side_back side.Gone t ts us ms h = h
side_back (side.Names p k out spot.Want) t ts us ms h = want_back p k out t (var t) (mark 40 t) refl refl h
side_back (side.Names p k out (spot.Open q)) t ts us ms h = open_back p k out q t (op t) refl h
side_back (side.Names p k out (spot.Operator q name)) t ts us ms h = close_back p k out q name t (mark 41 t) refl h
side_back (side.Names p k out (spot.Named n)) t ts us ms h = comma_back p k out n t (mark 44 t) refl h

-- a token of either

equation_back : (e : Option State) (d : Side) (t : Token) {r : State} {ts us : List Token} {v : Out} → expr_moved e t ≡ Some r → Runs an_eq r ts v us → LineMeans e d (t ∷ ts) (v ++ node.Equation ∷ []) us
equation_back None d t i h = cc
equation_back (Some s) d t i h = by_equation refl (take i h)

line_back : (e : Option State) (d : Side) (t : Token) {ts us : List Token} {ms : Out} → LineMeans (expr_moved e t) (side_moved d t) ts ms us → LineMeans e d (t ∷ ts) ms us
line_back e d t (by_equation i h) = equation_back e d t i h
line_back e d t {ts} {us} {ms} (by_signature h) = by_signature (side_back d t ts us ms h)

one_line : {e : Option State} {d : Side} {ts us : List Token} {ms : Out} → All Means (reads_line e d ∷ []) ts ms us → LineMeans e d ts ms us
one_line (then {ms} h nothing) = line_as (sym (append_none ms)) h

colons_line : (e : Option State) (p : Place) (k : ℕ) (out : Out) (n : NameAt) (t : Token) {ts us : List Token} {ms : Out} → fits (kind.Word word.DoubleColon) t ≡ true → All Means (frames_of sig_behind (first_at k p n) 0 t) ts ms us → LineMeans e (side.Names p k out (spot.Named n)) (t ∷ ts) (((out ++ named n) ++ node.Names (k + 1) ∷ []) ++ ms) us
colons_line e p k out n t c a = by_signature (colons_back p k out n t (is_word word.DoubleColon t c) a)

sig_turns : (e : Option State) (d : Side) (t : Token) {x : ATurn} {ts us : List Token} {ms : Out} → SigTurn d t x → All Means x.frames ts ms us → LineMeans e d (t ∷ ts) (x.nodes ++ ms) us
sig_turns e d t {ts} {us} {ms} (sig_at p k out n i c j) =
    let P : ATurn → Type 0 = λ y. All Means y.frames ts ms us → LineMeans e d (t ∷ ts) (y.nodes ++ ms) us in
    let Q : Side → Type 0 = λ d. LineMeans e d (t ∷ ts) (((out ++ named n) ++ node.Names (k + 1) ∷ []) ++ ms) us in
    subst P j (λ a. subst Q (sym i) (colons_line e p k out n t c a))

pub line_turns : (e : Option State) (d : Side) (t : Token) {x : ATurn} {ts us : List Token} {ms : Out} → LineTurn e d t x → All Means x.frames ts ms us → LineMeans e d (t ∷ ts) (x.nodes ++ ms) us
line_turns e d t (line_sig i) = sig_turns e d t (sig_turn_of d t i)
line_turns e d t {ts} {us} {ms} (line_still g i) =
    let P : ATurn → Type 0 = λ y. All Means y.frames ts ms us → LineMeans e d (t ∷ ts) (y.nodes ++ ms) us in
    subst P i (λ a. line_back e d t (one_line a))

-- a line as a declaration

equation_decl : {ts us : List Token} {b : Bind} → EquationRead ts b us → ReadsDecl ts (decl.Equation b) us
equation_decl (equation_read h) = grammar.equation h

tops_equation : (n : ℕ) {ts us vs : List Token} {v ms : Out} → LeafMeans leaf.Equation ts v us → Thing (After ReadsDecls) (counted_from node.Program decl_nodes (n + 1)) us ms vs → Thing ReadsDecls (counted_from node.Program decl_nodes n) ts ((v ++ node.Equation ∷ []) ++ (ms ++ [])) vs
tops_equation n (thing {a = b} h) (thing {a = ds} k) =
    thing_as (decl.Equation b ∷ ds) (decl_before (equation_decl h) k) (cons_next node.Program decl_nodes n (decl.Equation b) ds)

equation_run : {s : State} {ts us : List Token} {v : Out} → Some an_eq.start ≡ Some s → Runs an_eq s ts v us → LeafMeans leaf.Equation ts v us
equation_run {ts} {us} {v} i h =
    leaf_means leaf.Equation ts us v ((leaf_known leaf.Equation).exact.sound (subst (λ s. Runs an_eq s ts v us) (sym (some_is i)) h))

name_place : {ts us : List Token} {p : Place} {name : Name} → ReadsName ts p name us → p ≡ first_place ts
name_place (expressions.var e) = refl
name_place (expressions.op d e f) = refl

sig_line_nodes : (names : List NameAt) (q : Qualified) (p r : Place) (ms : Out) → p ≡ r → ((names_of names ++ qualified_of q) ++ node.Sig r ∷ []) ++ ms ≡ (counted_from node.Names named 0 names ++ (qualified_of q ++ node.Sig p ∷ [])) ++ ms
sig_line_nodes names q p r ms e =
    let ns = part (names_of names) in
    let body = part (qualified_of q) in
    same_parts (parts (parts (parts ns body) (part (node.Sig r ∷ []))) (part ms)) (parts (parts ns (parts body (part (node.Sig r ∷ [])))) (part ms)) refl
    ∙ (ap (λ m. (m ++ (qualified_of q ++ node.Sig r ∷ [])) ++ ms) (sym (counted_zero node.Names named names)) ∙ ap (λ r. (counted_from node.Names named 0 names ++ (qualified_of q ++ node.Sig r ∷ [])) ++ ms) (sym e))

tops_sig : (n : ℕ) (t : Token) {ts us vs : List Token} {v ms : Out} → SideMeans side_start (t ∷ ts) v us → Thing (After ReadsDecls) (counted_from node.Program decl_nodes (n + 1)) us ms vs → Thing ReadsDecls (counted_from node.Program decl_nodes n) (t ∷ ts) (v ++ (ms ++ [])) vs
tops_sig n t (sig_rest {n = x} {ns} {q} (want_names h g) f i) (thing {a = ds} k) =
    let s : Sig = record { place = t.place; names = x ∷ ns; context = q.context; body = q.body } in
    thing_as (decl.Sig s ∷ ds) (decl_before (grammar.signature (grammar.sig (names_from (with_more h g)) f i)) k)
    (cons_next node.Program decl_nodes n (decl.Sig s) ds ∙ sig_line_nodes (x ∷ ns) q x.place t.place (counted_from node.Program decl_nodes (n + 1) ds ++ []) (name_place h))

pub tops_line : BehindLine symbol.Tops (item symbol.AfterTop count.Next ∷ [])
tops_line p n t ts us vs v ms (by_equation i h) (then k nothing) = tops_equation n (equation_run i h) k
tops_line p n t ts us vs v ms (by_signature h) (then k nothing) = tops_sig n t h k
