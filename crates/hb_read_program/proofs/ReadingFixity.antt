-- What the grammar says of a fixity, the table says.
use Rattle.std.proofs.Common.{◌≡◌, ℕ, ◌≤◌, List, [], ◌∷◌, ◌++◌, Some, is_some, refl, ap, ◌∙◌}
use Rattle.hb_base.specs.declared.place.Place.{Place}
use Rattle.hb_tokens.specs.declared.token.Token.{Token}
use Rattle.hb_tree.specs.declared.types.NameAt.{NameAt}
use Rattle.hb_tree.specs.declared.declaration.Fix.{Fix}
use Rattle.hb_tree.specs.declared.declaration.Fix.TheVariants.{Left, Right, Neither}
use Rattle.hb_tree.specs.declared.declaration.Decl.TheVariants as decl
use Rattle.hb_grammar.specs.Tokens.{IsWord, IsNumber}
use Rattle.hb_grammar.specs.Declarations.{fix_word, ReadsInfixes}
use Rattle.hb_engine.proofs.EngineLaw.{rows}
use Rattle.hb_read_declarations.specs.declared.node.DeclNode.TheVariants as node
use Rattle.hb_read_declarations.specs.Nodes.{names_of}
use Rattle.hb_read_declarations.proofs.Known.{if_true}
use Rattle.hb_read_declarations.proofs.WorthLaws.{digit_is}
use Rattle.hb_read_program.specs.Rules.{heads, mute, found, fits, digit_in, number_in}
use Rattle.hb_read_program.specs.declared.symbol.Kind.TheVariants as kind
use Rattle.hb_read_program.specs.declared.symbol.Symbol.TheVariants as symbol
use Rattle.hb_read_program.specs.declared.symbol.Form.TheVariants as form
use Rattle.hb_read_program.specs.declared.symbol.Production.TheVariants as production
use Rattle.hb_read_program.specs.Frames.{waits}
use Rattle.hb_read_program.proofs.Counting.{digit_small}
use Rattle.hb_read_program.proofs.Finishes.{Rows, rows_as}
use Rattle.hb_read_program.proofs.Reading.{by_head, by_nothing}
use Rattle.hb_read_program.proofs.ReadingLists.{found_at}
use Rattle.hb_read_program.proofs.ReadingDecls.{DeclPuts}
use Rattle.hb_read_program.proofs.ReadingParts.{infixes_read}

fix_found : (fix : Fix) (t : Token) → IsWord (fix_word fix) t → found (heads symbol.Tops) t ≡ Some (mute (kind.Word (fix_word fix)) (production.Fixity fix))
fix_found Left t e = found_at (heads symbol.Tops) t e
fix_found Right t e = found_at (heads symbol.Tops) t e
fix_found Neither t e = found_at (heads symbol.Tops) t e

digit_read : (fix : Fix) (p : Place) (n : ℕ) {s : Token} {ts us : List Token} {k : ℕ} {names : List NameAt} → IsNumber k s → k ≤ 9 → ReadsInfixes ts names us → Rows (waits (symbol.Digit fix) p n ∷ []) (s ∷ ts) (names_of names ++ node.Fixity p fix k ∷ []) us
digit_read fix p n {s} {k} {names} e l h =
    rows_as (ap (λ d. names_of names ++ node.Fixity p fix d ∷ []) (ap (λ k. digit_in (number_in k)) e ∙ digit_small k l))
    (by_head (symbol.Digit fix) p n (if_true (fits kind.Digit s) _ _ (ap is_some (digit_is s e l))) (rows (infixes_read p p 0 h) (by_nothing (symbol.Close (form.Fixity fix)) p (number_in s.kind) refl)))

pub fixity_puts : (fix : Fix) {t s : Token} {ts us : List Token} {k : ℕ} {names : List NameAt} → IsWord (fix_word fix) t → IsNumber k s → k ≤ 9 → ReadsInfixes ts names us → DeclPuts (decl.Fixity t.place fix k names) (t ∷ s ∷ ts) us
fixity_puts fix {t} d e l h p n ms vs after = by_head symbol.Tops p n (fix_found fix t d) (rows (digit_read fix t.place 0 e l h) (after t.place))
