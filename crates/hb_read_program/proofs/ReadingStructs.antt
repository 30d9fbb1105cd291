-- What the grammar says of structs, the table says.
use Rattle.std.proofs.Common.{◌≡◌, ℕ, List, [], ◌∷◌, ◌++◌, Option, Some, is_some, refl, ap, ◌∙◌}
use Rattle.hb_base.specs.declared.name.Name.{Name}
use Rattle.hb_base.specs.declared.place.Place.{Place}
use Rattle.hb_tokens.specs.declared.token.Token.{Token}
use Rattle.hb_tokens.specs.declared.word.Word.TheVariants as word
use Rattle.hb_tree.specs.declared.declaration.StructPart.{StructPart}
use Rattle.hb_tree.specs.declared.declaration.Decl.TheVariants as decl
use Rattle.hb_grammar.specs.Tokens.{IsVar, IsCon, IsWord, IsOpenSquare, IsCloseSquare}
use Rattle.hb_grammar.specs.Types.{name_at}
use Rattle.hb_grammar.specs.Declarations as grammar
use Rattle.hb_grammar.specs.Declarations.{ReadsSize, ReadsStructPart, ReadsStructParts}
use Rattle.hb_engine.proofs.EngineLaw.{rows}
use Rattle.hb_read_declarations.specs.declared.node.DeclNode.TheVariants as node
use Rattle.hb_read_declarations.specs.Nodes.{named, counted, number_of, struct_part_of}
use Rattle.hb_read_declarations.proofs.Known.{if_true}
use Rattle.hb_read_declarations.proofs.WorthLaws.{this_con_is}
use Rattle.hb_read_declarations.proofs.Lists.{head_of}
use Rattle.hb_read_declarations.proofs.Parts.{struct_parts_back}
use Rattle.hb_read_program.specs.Rules.{head, heads, found, fits, closing, number_in}
use Rattle.hb_read_program.specs.declared.symbol.Kind.TheVariants as kind
use Rattle.hb_read_program.specs.declared.symbol.Put.TheVariants as put
use Rattle.hb_read_program.specs.declared.symbol.Symbol.TheVariants as symbol
use Rattle.hb_read_program.specs.declared.symbol.Things.TheVariants as things
use Rattle.hb_read_program.specs.declared.symbol.Form.TheVariants as form
use Rattle.hb_read_program.specs.declared.symbol.Production.TheVariants as production
use Rattle.hb_read_program.specs.Frames.{waits}
use Rattle.hb_read_program.proofs.Finishes.{Rows, rows_as}
use Rattle.hb_read_program.proofs.Reading.{by_head, by_nothing, a_token, a_con, a_mark, word_fits, number_fits}
use Rattle.hb_read_program.proofs.ReadingLists.{found_at, Puts, things_read}
use Rattle.hb_read_program.proofs.ReadingDecls.{DeclPuts, three_closed}
use Rattle.hb_read_program.proofs.ReadingParts.{size_read}
use Rattle.hb_read_program.proofs.ReadingFields.{var_token, var_there, fields_read, by_fields}

part_var : {name : Name} (t : Token) → IsVar name t → found (heads symbol.StructPart) t ≡ Some (head kind.Var put.Name production.StructFields)
part_var {name} t v = found_at (heads symbol.StructPart) t v.kind ∙ if_true (fits kind.Var (var_token t.place name)) _ _ (var_there t v)

-- sep(varid, ",") "::" type | "Pad" number

part_read : (p : Place) (n : ℕ) {ts us : List Token} {x : StructPart} → ReadsStructPart ts x us → Rows (waits symbol.StructPart p n ∷ []) ts (struct_part_of x) us
part_read p n (grammar.gap {t} {s} d e) =
    by_head symbol.StructPart p n (if_true (fits kind.Pad t) _ _ (ap is_some (this_con_is t d)))
    (rows_as (ap (λ k. node.Pad (number_in k) ∷ []) e) (a_token kind.Number put.Pad t.place 0 (number_fits s e)))
part_read p n (grammar.struct_fields h) = by_fields symbol.StructPart p n production.StructFields (closing form.StructFields ∷ []) {ls = node.StructFields ∷ []} (λ name t v. part_var t v) (λ q t. refl) (fields_read h) (λ q t. by_nothing (symbol.Close form.StructFields) q 0 refl)

part_puts : Puts symbol.StructPart ReadsStructPart struct_part_of
part_puts p n ts us x h = part_read p n h

parts_read : (p q : Place) (n : ℕ) {ts us : List Token} {xs : List StructPart} → ReadsStructParts ts xs us → Rows (waits symbol.StructPart p n ∷ waits (symbol.More things.StructParts) q 1 ∷ []) ts ((counted struct_part_of xs).nodes ++ node.StructParts (counted struct_part_of xs).count ∷ []) us
parts_read p q n h = things_read things.StructParts struct_part_of (λ t e. word_fits word.Bar t e) part_puts p q n (head_of (struct_parts_back h))

pub struct_puts : {t s r c : Token} {ts us vs : List Token} {name : Name} {bytes : Option ℕ} {parts : List StructPart} → IsWord word.Struct t → IsCon name s → ReadsSize ts bytes (r ∷ us) → IsOpenSquare r → ReadsStructParts us parts (c ∷ vs) → IsCloseSquare c → DeclPuts (decl.Struct t.place (name_at s name) bytes parts) (t ∷ s ∷ ts) vs
struct_puts {t} {s} {name} {bytes} {parts} d e h f g l p n ms vs after =
    rows_as (three_closed (named (name_at s name)) (number_of bytes) ((counted struct_part_of parts).nodes ++ node.StructParts (counted struct_part_of parts).count ∷ []) (node.Struct t.place ∷ []) ms)
    (by_head symbol.Tops p n (found_at (heads symbol.Tops) t d)
    (rows (a_con t.place 0 e) (rows (size_read t.place 0 h) (rows (a_mark 91 t.place 0 f) (rows (parts_read t.place t.place 0 g) (rows (a_mark 93 t.place 0 l) (rows (by_nothing (symbol.Close form.Struct) t.place 0 refl) (after t.place))))))))
