-- What the grammar says of a port, the table says.
use Rattle.std.proofs.Common.{◌≡◌, ℕ, List, [], ◌∷◌, ◌++◌, Some, is_some, ap}
use Rattle.hb_base.specs.declared.name.Name.{Name}
use Rattle.hb_base.specs.declared.place.Place.{Place}
use Rattle.hb_base.specs.declared.port.Dir.{Dir}
use Rattle.hb_base.specs.declared.port.Dir.TheVariants.{In, Out as Outward}
use Rattle.hb_tokens.specs.declared.token.Token.{Token}
use Rattle.hb_tokens.specs.declared.word.Word.TheVariants as word
use Rattle.hb_tree.specs.Types.{TypeExpr}
use Rattle.hb_tree.specs.declared.declaration.Decl.TheVariants as decl
use Rattle.hb_grammar.specs.Tokens.{IsVar, IsCon, IsWord, IsBits}
use Rattle.hb_grammar.specs.Types.{name_at, ReadsAtype}
use Rattle.hb_grammar.specs.Declarations.{dir_name}
use Rattle.hb_engine.proofs.EngineLaw.{rows}
use Rattle.hb_read_declarations.specs.declared.node.DeclNode.TheVariants as node
use Rattle.hb_read_declarations.specs.Nodes.{type_of}
use Rattle.hb_read_declarations.proofs.Lists.{made}
use Rattle.hb_read_declarations.proofs.WorthLaws.{bits_is}
use Rattle.hb_read_program.specs.Rules.{heads, mute, found, width_in, bits_in}
use Rattle.hb_read_program.specs.declared.symbol.Kind.TheVariants as kind
use Rattle.hb_read_program.specs.declared.symbol.Put.TheVariants as put
use Rattle.hb_read_program.specs.declared.symbol.Symbol.TheVariants as symbol
use Rattle.hb_read_program.specs.declared.symbol.Leaf.TheVariants as leaf
use Rattle.hb_read_program.specs.declared.symbol.Production.TheVariants as production
use Rattle.hb_read_program.specs.Frames.{waits}
use Rattle.hb_read_program.proofs.Finishes.{Rows, rows_as}
use Rattle.hb_read_program.proofs.Reading.{by_head, a_token, a_var, a_word}
use Rattle.hb_read_program.proofs.ReadingLists.{found_at}
use Rattle.hb_read_program.proofs.ReadingDecls.{DeclPuts}
use Rattle.hb_read_program.proofs.ReadingParts.{leaf_read}

dir_found : (dir : Dir) (t : Token) → IsCon (dir_name dir) t → found (heads symbol.Direction) t ≡ Some (mute (kind.Toward dir) (production.Address dir))
dir_found In t e = found_at (heads symbol.Direction) t e
dir_found Outward t e = found_at (heads symbol.Direction) t e

address_read : (dir : Dir) (p : Place) {t : Token} {us : List Token} {width k : ℕ} → IsBits width k t → Rows (waits (symbol.One kind.Bits (put.Port dir)) p 0 ∷ []) (t ∷ us) (node.Port p dir width k ∷ []) us
address_read dir p {t} e = rows_as (ap (λ k. node.Port p dir (width_in k) (bits_in k) ∷ []) e) (a_token kind.Bits (put.Port dir) p 0 (ap is_some (bits_is t e)))

-- ("In" | "Out") atype "at" bits, behind the word at this place
direction_read : (dir : Dir) (p : Place) (n : ℕ) {t s r : Token} {ts us : List Token} {a : TypeExpr} {width k : ℕ} → IsCon (dir_name dir) t → ReadsAtype ts a (s ∷ r ∷ us) → IsWord word.At s → IsBits width k r → Rows (waits symbol.Direction p n ∷ []) (t ∷ ts) (type_of a ++ node.Port p dir width k ∷ []) us
direction_read dir p n {t} {a} d h e f = by_head symbol.Direction p n (dir_found dir t d) (rows (leaf_read leaf.Atype p 0 (made a h)) (rows (a_word word.At p 0 e) (address_read dir p f)))

pub port_puts : (dir : Dir) {t s r q o i : Token} {ts us : List Token} {name : Name} {a : TypeExpr} {width k : ℕ} → IsWord word.Port t → IsVar name s → IsWord word.DoubleColon r → IsCon (dir_name dir) q → ReadsAtype ts a (o ∷ i ∷ us) → IsWord word.At o → IsBits width k i → DeclPuts (decl.Port t.place (name_at s name) dir a width k) (t ∷ s ∷ r ∷ q ∷ ts) us
port_puts dir {t} d e f g h i j p n ms vs after =
    by_head symbol.Tops p n (found_at (heads symbol.Tops) t d)
    (rows (a_var t.place 0 e) (rows (a_word word.DoubleColon t.place 0 f) (rows (direction_read dir t.place 0 g h i j) (after t.place))))
