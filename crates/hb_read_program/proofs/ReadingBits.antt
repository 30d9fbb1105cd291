-- What the grammar says of bitdata, the table says.
use Rattle.std.proofs.Common.{◌≡◌, ℕ, ◌+◌, List, [], ◌∷◌, ◌++◌, Option, Some, refl, sym, ap, ◌∙◌, append_assoc}
use Rattle.hb_base.specs.declared.name.Name.{Name}
use Rattle.hb_base.specs.declared.place.Place.{Place}
use Rattle.hb_tokens.specs.declared.token.Token.{Token}
use Rattle.hb_tokens.specs.declared.word.Word.TheVariants as word
use Rattle.hb_tree.specs.declared.declaration.BitPart.{BitPart}
use Rattle.hb_tree.specs.declared.declaration.BitCon.{BitCon}
use Rattle.hb_tree.specs.declared.declaration.Decl.TheVariants as decl
use Rattle.hb_grammar.specs.Tokens.{IsVar, IsCon, IsWord, IsBits, IsMark}
use Rattle.hb_grammar.specs.Types.{name_at}
use Rattle.hb_grammar.specs.Declarations as grammar
use Rattle.hb_grammar.specs.Declarations.{ReadsSize, ReadsBitPart, ReadsBitParts, ReadsBitCon, ReadsBitCons}
use Rattle.hb_engine.specs.Tables.{row_end}
use Rattle.hb_engine.proofs.EngineLaw.{rows}
use Rattle.hb_read_declarations.specs.declared.node.DeclNode.TheVariants as node
use Rattle.hb_read_declarations.specs.Nodes.{named, counted, number_of, bit_part_of, bit_con_of, fields_of}
use Rattle.hb_read_declarations.specs.Readers.{Out}
use Rattle.hb_read_declarations.proofs.Known.{if_true}
use Rattle.hb_read_declarations.proofs.Lists.{Several, nothing_more, a_thing, Behind, behind as behind_mark, HeadTail, head_tail, head_of}
use Rattle.hb_read_declarations.proofs.Parts.{IsBar, bit_parts_back, bit_cons_back}
use Rattle.hb_read_program.specs.Rules.{head, heads, found, fits, item, closing, width_in, bits_in}
use Rattle.hb_read_program.specs.declared.symbol.Kind.TheVariants as kind
use Rattle.hb_read_program.specs.declared.symbol.Put.TheVariants as put
use Rattle.hb_read_program.specs.declared.symbol.Symbol.TheVariants as symbol
use Rattle.hb_read_program.specs.declared.symbol.Things.TheVariants as things
use Rattle.hb_read_program.specs.declared.symbol.Count.TheVariants as count
use Rattle.hb_read_program.specs.declared.symbol.Form.TheVariants as form
use Rattle.hb_read_program.specs.declared.symbol.Production.TheVariants as production
use Rattle.hb_read_program.specs.Frames.{waits}
use Rattle.hb_read_program.proofs.Counting.{none_more, counts}
use Rattle.hb_read_program.proofs.Finishes.{Rows, rows_as}
use Rattle.hb_read_program.proofs.Reading.{by_head, by_nothing, a_con, a_word, a_mark, con_fits, word_fits, name_put}
use Rattle.hb_read_program.proofs.ReadingLists.{found_at, Puts, things_read}
use Rattle.hb_read_program.proofs.ReadingDecls.{DeclPuts, three_closed}
use Rattle.hb_read_program.proofs.ReadingParts.{size_read}
use Rattle.hb_read_program.proofs.ReadingFields.{row_from, var_token, var_there, fields_read, by_fields}

part_var : {name : Name} (t : Token) → IsVar name t → found (heads symbol.BitPart) t ≡ Some (head kind.Var put.Name production.BitFields)
part_var {name} t v = found_at (heads symbol.BitPart) t v.kind ∙ if_true (fits kind.Var (var_token t.place name)) _ _ (var_there t v)

parts_var : {name : Name} (t : Token) → IsVar name t → found (heads symbol.BitParts) t ≡ Some (head kind.Var put.Name production.FirstBitFields)
parts_var {name} t v = found_at (heads symbol.BitParts) t v.kind ∙ if_true (fits kind.Var (var_token t.place name)) _ _ (var_there t v)

-- bits | sep(varid, ",") "::" type

tag_put : {width k : ℕ} (t : Token) → IsBits width k t → node.Tag (width_in t.kind) (bits_in t.kind) ∷ [] ≡ node.Tag width k ∷ []
tag_put t e = ap (λ k. node.Tag (width_in k) (bits_in k) ∷ []) e

bit_part_read : (p : Place) (n : ℕ) {ts us : List Token} {x : BitPart} → ReadsBitPart ts x us → Rows (waits symbol.BitPart p n ∷ []) ts (bit_part_of x) us
bit_part_read p n (grammar.tag {t} e) = rows_as (tag_put t e) (by_head symbol.BitPart p n (found_at (heads symbol.BitPart) t e) row_end)
bit_part_read p n (grammar.bit_fields h) = by_fields symbol.BitPart p n production.BitFields (closing form.BitFields ∷ []) {ls = node.BitFields ∷ []} (λ name t v. part_var t v) (λ q t. refl) (fields_read h) (λ q t. by_nothing (symbol.Close form.BitFields) q 0 refl)

-- the parts up to `]`

more_bits : (p : Place) (n : ℕ) {ts ms : List Token} {xs : List BitPart} → Several (Behind IsBar ReadsBitPart) ts xs ms → (c : Token) (us : List Token) → ms ≡ c ∷ us → IsMark 93 c → Rows (waits symbol.MoreBitParts p n ∷ []) ts ((counted bit_part_of xs).nodes ++ node.BitCon (n + (counted bit_part_of xs).count) ∷ []) us
more_bits p n nothing_more c us e d = row_from e (rows_as (ap (λ k. node.BitCon k ∷ []) (none_more n)) (by_head symbol.MoreBitParts p n (found_at (heads symbol.MoreBitParts) c d) row_end))
more_bits p n (a_thing {a = x} {xs} (behind_mark {t} s h) g) c us e d =
    rows_as (ap (λ m. bit_part_of x ++ ((counted bit_part_of xs).nodes ++ node.BitCon m ∷ [])) (counts n (counted bit_part_of xs).count) ∙ sym (append_assoc (bit_part_of x) (counted bit_part_of xs).nodes (node.BitCon (n + (1 + (counted bit_part_of xs).count)) ∷ [])))
    (by_head symbol.MoreBitParts p n (found_at (heads symbol.MoreBitParts) t s) (rows (bit_part_read t.place 0 h) (more_bits t.place (n + 1) g c us e d)))

first_bits : (p : Place) (n : ℕ) {ts us vs : List Token} {x : BitPart} {ls : Out} → ReadsBitPart ts x us → ((q : Place) → Rows (waits symbol.MoreBitParts q 1 ∷ []) us ls vs) → Rows (waits symbol.BitParts p n ∷ []) ts (bit_part_of x ++ ls) vs
first_bits p n {ls} (grammar.tag {t} e) g = rows_as (ap (λ m. m ++ ls) (tag_put t e)) (by_head symbol.BitParts p n (found_at (heads symbol.BitParts) t e) (g t.place))
first_bits p n {ls} (grammar.bit_fields {f} h) g =
    rows_as (sym (append_assoc (fields_of f) (node.BitFields ∷ []) ls))
    (by_fields symbol.BitParts p n production.FirstBitFields (closing form.BitFields ∷ item symbol.MoreBitParts count.One ∷ []) {ls = node.BitFields ∷ ls} (λ name t v. parts_var t v) (λ q t. refl) (fields_read h) (λ q t. rows (by_nothing (symbol.Close form.BitFields) q 0 refl) (g q)))

bits_row : (p : Place) (n : ℕ) {ts ms : List Token} {xs : List BitPart} → HeadTail IsBar ReadsBitPart ts xs ms → (c : Token) (us : List Token) → ms ≡ c ∷ us → IsMark 93 c → Rows (waits symbol.BitParts p n ∷ []) ts ((counted bit_part_of xs).nodes ++ node.BitCon (counted bit_part_of xs).count ∷ []) us
bits_row p n (head_tail {a = x} {xs} h g) c us e d =
    rows_as (sym (append_assoc (bit_part_of x) (counted bit_part_of xs).nodes (node.BitCon (1 + (counted bit_part_of xs).count) ∷ [])))
    (first_bits p n h (λ q. more_bits q 1 g c us e d))

-- conid "[" parts "]"

bit_con_row : (p : Place) (n : ℕ) {ts us : List Token} {c : BitCon} → ReadsBitCon ts c us → Rows (waits symbol.BitCon p n ∷ []) ts (bit_con_of c) us
bit_con_row p n (grammar.no_bit_parts {t} {r} d e f) =
    rows_as (ap (λ m. m ++ node.BitCon 0 ∷ []) (name_put t d refl))
    (by_head symbol.BitCon p n (if_true (fits kind.Con t) _ _ (con_fits t d)) (rows (a_mark 91 t.place 0 e) (by_head symbol.BitParts t.place 0 (found_at (heads symbol.BitParts) r f) row_end)))
bit_con_row p n (grammar.bit_parts {t} {r} {us} {ps} d e h f) =
    rows_as (ap (λ m. m ++ ((counted bit_part_of ps).nodes ++ node.BitCon (counted bit_part_of ps).count ∷ [])) (name_put t d refl))
    (by_head symbol.BitCon p n (if_true (fits kind.Con t) _ _ (con_fits t d)) (rows (a_mark 91 t.place 0 e) (bits_row t.place 0 (head_of (bit_parts_back h)) r us refl f)))

bit_con_puts : Puts symbol.BitCon ReadsBitCon bit_con_of
bit_con_puts p n ts us c h = bit_con_row p n h

bit_cons_read : (p q : Place) (n : ℕ) {ts us : List Token} {cs : List BitCon} → ReadsBitCons ts cs us → Rows (waits symbol.BitCon p n ∷ waits (symbol.More things.BitCons) q 1 ∷ []) ts ((counted bit_con_of cs).nodes ++ node.BitCons (counted bit_con_of cs).count ∷ []) us
bit_cons_read p q n h = things_read things.BitCons bit_con_of (λ t e. word_fits word.Bar t e) bit_con_puts p q n (head_of (bit_cons_back h))

pub bitdata_puts : {t s r : Token} {ts us vs : List Token} {name : Name} {width : Option ℕ} {cons : List BitCon} → IsWord word.Bitdata t → IsCon name s → ReadsSize ts width (r ∷ us) → IsWord word.Equals r → ReadsBitCons us cons vs → DeclPuts (decl.Bitdata t.place (name_at s name) width cons) (t ∷ s ∷ ts) vs
bitdata_puts {t} {s} {name} {width} {cons} d e h f g p n ms vs after =
    rows_as (three_closed (named (name_at s name)) (number_of width) ((counted bit_con_of cons).nodes ++ node.BitCons (counted bit_con_of cons).count ∷ []) (node.Bitdata t.place ∷ []) ms)
    (by_head symbol.Tops p n (found_at (heads symbol.Tops) t d)
    (rows (a_con t.place 0 e) (rows (size_read t.place 0 h) (rows (a_word word.Equals t.place 0 f) (rows (bit_cons_read t.place t.place 0 g) (rows (by_nothing (symbol.Close form.Bitdata) t.place 0 refl) (after t.place)))))))
