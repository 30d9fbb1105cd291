-- What the grammar says is what the table says: names with a comma between, a data type, and the block of declarations.
use Rattle.std.proofs.Common.{◌≡◌, ℕ, ◌+◌, List, [], ◌∷◌, ◌++◌, refl, sym, ap, ◌∙◌, append_assoc}
use Rattle.hb_base.specs.declared.name.Name.{Name}
use Rattle.hb_base.specs.declared.place.Place.{Place}
use Rattle.hb_tokens.specs.declared.token.Token.{Token}
use Rattle.hb_tokens.specs.declared.word.Word.TheVariants as word
use Rattle.hb_tree.specs.declared.types.NameAt.{NameAt}
use Rattle.hb_tree.specs.declared.declaration.DataCon.{DataCon}
use Rattle.hb_tree.specs.declared.declaration.Decl.{Decl}
use Rattle.hb_tree.specs.declared.declaration.Decl.TheVariants as decl
use Rattle.hb_grammar.specs.Tokens.{IsCon, IsWord}
use Rattle.hb_grammar.specs.Types.{name_at}
use Rattle.hb_grammar.specs.Declarations as grammar
use Rattle.hb_grammar.specs.Declarations.{ReadsNames, ReadsVars, ReadsDataCons, ReadsDecl, ReadsDecls}
use Rattle.hb_engine.specs.Tables.{row_end}
use Rattle.hb_engine.proofs.EngineLaw.{append_none, rows}
use Rattle.hb_read_declarations.specs.declared.node.DeclNode.TheVariants as node
use Rattle.hb_read_declarations.specs.Nodes.{named, counted, names_of, data_con_of, decl_nodes}
use Rattle.hb_read_declarations.specs.Readers.{Out}
use Rattle.hb_read_declarations.proofs.Names.{NameRead}
use Rattle.hb_read_program.specs.Rules.{heads}
use Rattle.hb_read_program.specs.declared.symbol.Symbol.TheVariants as symbol
use Rattle.hb_read_program.specs.declared.symbol.Form.TheVariants as form
use Rattle.hb_read_program.specs.Frames.{waits}
use Rattle.hb_read_program.proofs.Counting.{none_plus, none_more, one_more, counts}
use Rattle.hb_read_program.proofs.Finishes.{Rows, rows_as}
use Rattle.hb_read_program.proofs.Reading.{by_head, by_nothing, a_con, a_word, vars_read}
use Rattle.hb_read_program.proofs.ReadingLists.{found_at, Puts, name_read, data_cons_read}

-- sep(name, ",")
pub names_of_name : Puts symbol.Name NameRead named
names_of_name p n ts us a h = name_read p n h

-- a declaration, and what stands behind it
abbrev pub DeclPuts : Decl → List Token → List Token → Type 0
DeclPuts d ts us = (p : Place) (n : ℕ) (ms : Out) (vs : List Token) → ((q : Place) → Rows (waits symbol.AfterTop q (n + 1) ∷ []) us ms vs) → Rows (waits symbol.Tops p n ∷ []) ts (decl_nodes d ++ ms) vs

pub three_closed : (a b c d ms : Out) → a ++ (b ++ (c ++ (d ++ ms))) ≡ ((a ++ (b ++ c)) ++ d) ++ ms
three_closed a b c d ms = sym (append_assoc (a ++ (b ++ c)) d ms ∙ (append_assoc a (b ++ c) (d ++ ms) ∙ ap (λ xs. a ++ xs) (append_assoc b c (d ++ ms))))

params_read : (p : Place) {ts us : List Token} {ns : List NameAt} → ReadsVars ts ns us → Rows (waits symbol.Vars p 0 ∷ []) ts (names_of ns) us
params_read p {ns} h = rows_as (ap (λ k. (counted named ns).nodes ++ node.Names k ∷ []) (none_plus (counted named ns).count)) (vars_read p 0 h)

pub data_puts : {t s r : Token} {ts us vs : List Token} {name : Name} {params : List NameAt} {cons : List DataCon} → IsWord word.Data t → IsCon name s → ReadsVars ts params (r ∷ us) → IsWord word.Equals r → ReadsDataCons us cons vs → DeclPuts (decl.Data t.place (name_at s name) params cons) (t ∷ s ∷ ts) vs
data_puts {t} {s} {name} {params} {cons} d e h f g p n ms vs after =
    rows_as (three_closed (named (name_at s name)) (names_of params) ((counted data_con_of cons).nodes ++ node.DataCons (counted data_con_of cons).count ∷ []) (node.Data t.place ∷ []) ms)
    (by_head symbol.Tops p n (found_at (heads symbol.Tops) t d)
    (rows (a_con t.place 0 e) (rows (params_read t.place h) (rows (a_word word.Equals t.place 0 f) (rows (data_cons_read t.place t.place 0 g) (rows (by_nothing (symbol.Close form.Data) t.place 0 refl) (after t.place)))))))

-- block(top) without its `{`

pub decls_read : ((ts us : List Token) (d : Decl) → ReadsDecl ts d us → DeclPuts d ts us) → (p : Place) (n : ℕ) {ts us : List Token} {ds : List Decl} → ReadsDecls ts ds us → Rows (waits symbol.Tops p n ∷ []) ts ((counted decl_nodes ds).nodes ++ node.Program (n + (counted decl_nodes ds).count) ∷ []) us
decls_read puts p n (grammar.no_decl {t} e) = rows_as (ap (λ k. node.Program k ∷ []) (none_more n)) (by_head symbol.Tops p n (found_at (heads symbol.Tops) t e) row_end)
decls_read puts p n (grammar.empty_decl {t} s h) = by_head symbol.Tops p n (found_at (heads symbol.Tops) t s) (decls_read puts t.place n h)
decls_read puts p n (grammar.last_decl {t} {ts} {us} {d} h e) =
    rows_as (ap (λ k. decl_nodes d ++ node.Program k ∷ []) (one_more n) ∙ ap (λ xs. xs ++ node.Program (n + (1 + 0)) ∷ []) (sym (append_none (decl_nodes d))))
    (puts ts (t ∷ us) d h p n (node.Program (n + 1) ∷ []) us (λ q. by_head symbol.AfterTop q (n + 1) (found_at (heads symbol.AfterTop) t e) row_end))
decls_read puts p n (grammar.more_decls {t} {ts} {us} {vs} {d} {ds} h s g) =
    rows_as (ap (λ k. decl_nodes d ++ ((counted decl_nodes ds).nodes ++ node.Program k ∷ [])) (counts n (counted decl_nodes ds).count) ∙ sym (append_assoc (decl_nodes d) (counted decl_nodes ds).nodes (node.Program (n + (1 + (counted decl_nodes ds).count)) ∷ [])))
    (puts ts (t ∷ us) d h p n ((counted decl_nodes ds).nodes ++ node.Program ((n + 1) + (counted decl_nodes ds).count) ∷ []) vs (λ q. by_head symbol.AfterTop q (n + 1) (found_at (heads symbol.AfterTop) t s) (decls_read puts t.place (n + 1) g)))
