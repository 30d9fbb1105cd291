-- What the grammar says of an area, the table says.
use Rattle.std.proofs.Common.{◌≡◌, ℕ, List, ◌∷◌, [], ◌++◌, Option, refl, sym, ap, ◌∙◌, append_assoc}
use Rattle.hb_base.specs.declared.name.Name.{Name}
use Rattle.hb_tokens.specs.declared.token.Token.{Token}
use Rattle.hb_tokens.specs.declared.word.Word.TheVariants as word
use Rattle.hb_tree.specs.Types.{TypeExpr}
use Rattle.hb_tree.specs.Initials.{InitExpr}
use Rattle.hb_tree.specs.declared.declaration.Decl.TheVariants as decl
use Rattle.hb_grammar.specs.Tokens.{IsVar, IsWord}
use Rattle.hb_grammar.specs.Types.{name_at, ReadsType}
use Rattle.hb_grammar.specs.Declarations.{ReadsStart, ReadsAlign}
use Rattle.hb_engine.proofs.EngineLaw.{rows}
use Rattle.hb_read_declarations.specs.declared.node.DeclNode.TheVariants as node
use Rattle.hb_read_declarations.specs.Nodes.{named, type_of, number_of, start_of}
use Rattle.hb_read_declarations.specs.Readers.{Out}
use Rattle.hb_read_program.specs.Rules.{heads}
use Rattle.hb_read_program.specs.declared.symbol.Symbol.TheVariants as symbol
use Rattle.hb_read_program.specs.declared.symbol.Form.TheVariants as form
use Rattle.hb_read_program.proofs.Finishes.{rows_as}
use Rattle.hb_read_program.proofs.Reading.{by_head, by_nothing, a_var, a_word}
use Rattle.hb_read_program.proofs.ReadingLists.{found_at}
use Rattle.hb_read_program.proofs.ReadingDecls.{DeclPuts}
use Rattle.hb_read_program.proofs.ReadingParts.{type_read, align_read}
use Rattle.hb_read_program.proofs.ReadingInits.{start_read}

pub four_closed : (a b c d e ms : Out) → a ++ (b ++ (c ++ (d ++ (e ++ ms)))) ≡ ((a ++ (b ++ (c ++ d))) ++ e) ++ ms
four_closed a b c d e ms =
    sym (append_assoc (a ++ (b ++ (c ++ d))) e ms ∙ (append_assoc a (b ++ (c ++ d)) (e ++ ms) ∙ ap (λ xs. a ++ xs) (append_assoc b (c ++ d) (e ++ ms) ∙ ap (λ xs. b ++ xs) (append_assoc c d (e ++ ms)))))

pub area_puts : {t s r : Token} {ts us vs ws : List Token} {name : Name} {init : Option InitExpr} {a : TypeExpr} {align : Option ℕ} → IsWord word.Area t → IsVar name s → ReadsStart ts init (r ∷ us) → IsWord word.DoubleColon r → ReadsType us a vs → ReadsAlign vs align ws → DeclPuts (decl.Area t.place (name_at s name) init a align) (t ∷ s ∷ ts) ws
area_puts {t} {s} {name} {init} {a} {align} d e h f g l p n ms vs after =
    rows_as (four_closed (named (name_at s name)) (start_of init) (type_of a) (number_of align) (node.Area t.place ∷ []) ms)
    (by_head symbol.Tops p n (found_at (heads symbol.Tops) t d)
    (rows (a_var t.place 0 e) (rows (start_read t.place 0 h) (rows (a_word word.DoubleColon t.place 0 f) (rows (type_read t.place 0 g) (rows (align_read t.place 0 l) (rows (by_nothing (symbol.Close form.Area) t.place 0 refl) (after t.place))))))))
