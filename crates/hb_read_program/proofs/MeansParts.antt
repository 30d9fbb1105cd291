-- What the table says of parts of declarations, the grammar says: fields, bits, fixities, ports, dependencies and conditions.
use Rattle.std.proofs.Common.{◌≡◌, ℕ, true, List, [], ◌∷◌, ◌++◌, refl, sym, ap, subst, ◌∙◌}
use Rattle.hb_base.specs.declared.place.Place.{Place}
use Rattle.hb_base.specs.declared.port.Dir.{Dir}
use Rattle.hb_base.specs.declared.port.Dir.TheVariants.{In, Out as Outwards}
use Rattle.hb_tokens.specs.declared.token.Token.{Token}
use Rattle.hb_tokens.specs.declared.word.Word.TheVariants as word
use Rattle.hb_tree.specs.Types.{TypeExpr}
use Rattle.hb_tree.specs.declared.types.NameAt.{NameAt}
use Rattle.hb_tree.specs.declared.declaration.Fix.{Fix}
use Rattle.hb_tree.specs.declared.declaration.FieldDecl.{FieldDecl}
use Rattle.hb_tree.specs.declared.declaration.BitPart.{BitPart}
use Rattle.hb_tree.specs.declared.declaration.BitPart.TheVariants as bit_part
use Rattle.hb_tree.specs.declared.declaration.StructPart.TheVariants as struct_part
use Rattle.hb_grammar.specs.Tokens.{IsComma, IsCloseSquare}
use Rattle.hb_grammar.specs.Types.{name_at, ReadsType}
use Rattle.hb_grammar.specs.Declarations as grammar
use Rattle.hb_grammar.specs.Declarations.{var_more, ReadsFieldDecl, ReadsBitPart}
use Rattle.hb_engine.proofs.Model.{nothing, then}
use Rattle.hb_engine.proofs.EngineLaw.{append_none}
use Rattle.hb_read_declarations.specs.declared.node.DeclNode.{DeclNode}
use Rattle.hb_read_declarations.specs.declared.node.DeclNode.TheVariants as node
use Rattle.hb_read_declarations.specs.Nodes.{counted, closed, named, names_of, type_of, fields_of, bit_part_of, pred_of, depend_of, context_whole}
use Rattle.hb_read_declarations.specs.Readers.{Out}
use Rattle.hb_read_declarations.proofs.Lists.{Several, nothing_more, a_thing, Behind, behind as behind_mark}
use Rattle.hb_read_declarations.proofs.Leaves.{VarRead, var_read}
use Rattle.hb_read_declarations.proofs.Names.{field_names_from, infixes_from, some_vars}
use Rattle.hb_read_declarations.proofs.Parts.{IsBar, bit_parts_from, depend_list_from, preds_from}
use Rattle.hb_read_program.specs.Rules.{head, mute, word_head, close_head, fits, name_in, number_in, width_in, bits_in}
use Rattle.hb_read_program.specs.declared.symbol.Kind.TheVariants as kind
use Rattle.hb_read_program.specs.declared.symbol.Put.TheVariants as put
use Rattle.hb_read_program.specs.declared.symbol.Symbol.TheVariants as symbol
use Rattle.hb_read_program.specs.declared.symbol.Form.TheVariants as form
use Rattle.hb_read_program.specs.declared.symbol.Production.TheVariants as production
use Rattle.hb_read_program.specs.Frames.{waits}
use Rattle.hb_read_program.proofs.Counting.{digit_small}
use Rattle.hb_read_program.proofs.Means.{Thing, thing, counted_from, one_fits, closes, Optional, left_out, not_left_out, FixityRest, fixity_rest, port_rest, BitRest, no_bits, some_bits, MoreBits, more_bits, Means}
use Rattle.hb_read_program.proofs.MeansLaws.{part, parts, same_parts, thing_as, HeadLaw, no_other, and_also, no_leaf_law, never_law, nothing_law, SymbolLaw}
use Rattle.hb_read_program.proofs.MeansTokens.{is_var, is_con, is_number, is_digit, are_bits, is_pad, is_dir, is_word, is_mark}
use Rattle.hb_read_program.proofs.MeansLists.{counted_none, cons_next, cons_first, with_more}

-- sep(varid, ",") "::" type

abbrev field_at : Token → List NameAt → TypeExpr → FieldDecl
field_at t ns a = record { names = name_at t (name_in t.kind) ∷ ns; of = a }

field_of : {t s : Token} {ts us vs : List Token} {ns : List NameAt} {a : TypeExpr} → fits kind.Var t ≡ true → Several (Behind IsComma VarRead) ts ns (s ∷ us) → fits (kind.Word word.DoubleColon) s ≡ true → ReadsType us a vs → ReadsFieldDecl (t ∷ ts) (field_at t ns a) vs
field_of {t} {s} e h f k =
    grammar.field_decl (field_names_from (with_more (var_read (is_var t e)) h)) (is_word word.DoubleColon s f) k

-- fields with a node behind

fields_then : (f : FieldDecl) (b : DeclNode) → fields_of f ++ b ∷ [] ≡ names_of f.names ++ (type_of f.of ++ node.Fields ∷ b ∷ [])
fields_then f b =
    let ns = part (names_of f.names) in
    let a = part (type_of f.of) in
    same_parts (parts (parts ns (parts a (part (node.Fields ∷ [])))) (part (b ∷ []))) (parts ns (parts a (part (node.Fields ∷ b ∷ [])))) refl

fields_before : (f : FieldDecl) (b : DeclNode) (ms : Out) → (fields_of f ++ b ∷ []) ++ ms ≡ names_of f.names ++ (type_of f.of ++ node.Fields ∷ b ∷ ms)
fields_before f b ms =
    let ns = part (names_of f.names) in
    let a = part (type_of f.of) in
    same_parts (parts (parts (parts ns (parts a (part (node.Fields ∷ [])))) (part (b ∷ []))) (part ms)) (parts ns (parts a (part (node.Fields ∷ b ∷ ms)))) refl

-- bits | sep(varid, ",") "::" type

tag_head : HeadLaw symbol.BitPart (head kind.Bits put.Tag production.Nothing)
tag_head p n t ts us ms e nothing = thing_as (bit_part.Tag (width_in t.kind) (bits_in t.kind)) (grammar.tag (are_bits t e)) refl

bit_fields_head : HeadLaw symbol.BitPart (head kind.Var put.Name production.BitFields)
bit_fields_head p n t ts us ms e (then (thing {a = ns} h) (then (one_fits {t = s} f) (then (thing {a} k) (then closes (then closes nothing))))) =
    thing_as (bit_part.Fields (field_at t ns a)) (grammar.bit_fields (field_of e h f k)) (fields_then (field_at t ns a) node.BitFields)

pub bit_part_law : SymbolLaw symbol.BitPart
bit_part_law =
    record { by_head = and_also tag_head (and_also bit_fields_head no_other); by_leaf = no_leaf_law; by_nothing = never_law }

-- parts up to `]`

first_bits : {n : ℕ} {t : Token} {ts us vs : List Token} {ms : Out} (b : BitPart) (bs : List BitPart) → ReadsBitPart ts b us → Several (Behind IsBar ReadsBitPart) us bs (t ∷ vs) → IsCloseSquare t → bit_part_of b ++ (counted_from node.BitCon bit_part_of 1 bs ++ []) ≡ ms → BitRest n ts ms vs
first_bits {n} {ts} {vs} b bs h k c e =
    subst (λ ms. BitRest n ts ms vs) (cons_first node.BitCon bit_part_of b bs ∙ e) (some_bits (bit_parts_from (with_more h k)) c)

bits_close : HeadLaw symbol.BitParts (close_head 93 form.BitCon)
bits_close p n t ts us ms e nothing = no_bits (is_mark 93 t e)

bits_tag : HeadLaw symbol.BitParts (head kind.Bits put.Tag production.FirstBitPart)
bits_tag p n t ts us ms e (then (more_bits {ps} k c) nothing) =
    first_bits (bit_part.Tag (width_in t.kind) (bits_in t.kind)) ps (grammar.tag (are_bits t e)) k c refl

bits_fields : HeadLaw symbol.BitParts (head kind.Var put.Name production.FirstBitFields)
bits_fields p n t ts us ms e (then (thing {a = ns} h) (then (one_fits {t = s} f) (then (thing {a} k) (then closes (then closes (then (more_bits {ps} m c) nothing)))))) =
    first_bits (bit_part.Fields (field_at t ns a)) ps (grammar.bit_fields (field_of e h f k)) m c (fields_before (field_at t ns a) node.BitFields (counted_from node.BitCon bit_part_of 1 ps ++ []))

pub bit_parts_law : SymbolLaw symbol.BitParts
bit_parts_law =
    record { by_head = and_also bits_close (and_also bits_tag (and_also bits_fields no_other)); by_leaf = no_leaf_law; by_nothing = never_law }

more_as : {n : ℕ} {t : Token} {ts us : List Token} {ms : Out} (ps : List BitPart) → Several (Behind IsBar ReadsBitPart) ts ps (t ∷ us) → IsCloseSquare t → counted_from node.BitCon bit_part_of n ps ≡ ms → MoreBits n ts ms us
more_as {n} {ts} {us} ps h c e = subst (λ ms. MoreBits n ts ms us) e (more_bits h c)

more_close : HeadLaw symbol.MoreBitParts (close_head 93 form.BitCon)
more_close p n t ts us ms e nothing = more_as [] nothing_more (is_mark 93 t e) (counted_none node.BitCon bit_part_of n)

more_bar : HeadLaw symbol.MoreBitParts (word_head word.Bar production.MoreBitParts)
more_bar p n t ts us ms e (then (thing {a = b} h) (then (more_bits {ps} k c) nothing)) =
    more_as (b ∷ ps) (a_thing (behind_mark (is_word word.Bar t e) h) k) c (cons_next node.BitCon bit_part_of n b ps)

pub more_bit_parts_law : SymbolLaw symbol.MoreBitParts
more_bit_parts_law =
    record { by_head = and_also more_close (and_also more_bar no_other); by_leaf = no_leaf_law; by_nothing = never_law }

bit_con_head : HeadLaw symbol.BitCon (head kind.Con put.Name production.BitCon)
bit_con_head p n t ts us ms e (then (one_fits {t = s} f) (then (no_bits c) nothing)) =
    thing_as (record { name = name_at t (name_in t.kind); parts = [] }) (grammar.no_bit_parts (is_con t e) (is_mark 91 s f) c) refl
bit_con_head p n t ts us ms e (then (one_fits {t = s} f) (then (some_bits {ps} h c) nothing)) =
    let name : NameAt = name_at t (name_in t.kind) in
    thing_as (record { name = name; parts = ps }) (grammar.bit_parts (is_con t e) (is_mark 91 s f) h c) (ap (λ m. named name ++ m) (sym (append_none (closed node.BitCon (counted bit_part_of ps)))))

pub bit_con_law : SymbolLaw symbol.BitCon
bit_con_law = record { by_head = and_also bit_con_head no_other; by_leaf = no_leaf_law; by_nothing = never_law }

-- sep(varid, ",") "::" type | "Pad" number

gap_head : HeadLaw symbol.StructPart (mute kind.Pad production.Padding)
gap_head p n t ts us ms e (then (one_fits {t = s} f) nothing) =
    thing_as (struct_part.Pad (number_in s.kind)) (grammar.gap (is_pad t e) (is_number s f)) refl

struct_fields_head : HeadLaw symbol.StructPart (head kind.Var put.Name production.StructFields)
struct_fields_head p n t ts us ms e (then (thing {a = ns} h) (then (one_fits {t = s} f) (then (thing {a} k) (then closes (then closes nothing))))) =
    thing_as (struct_part.Fields (field_at t ns a)) (grammar.struct_fields (field_of e h f k)) (fields_then (field_at t ns a) node.StructFields)

pub struct_part_law : SymbolLaw symbol.StructPart
struct_part_law =
    record { by_head = and_also gap_head (and_also struct_fields_head no_other); by_leaf = no_leaf_law; by_nothing = never_law }

-- the digit of a fixity

digit_head : (fix : Fix) → HeadLaw (symbol.Digit fix) (mute kind.Digit (production.Fixed fix))
digit_head fix p n t ts us ms e (then (thing {a = x} h) (then (thing {a = xs} k) (then closes nothing))) =
    let d = is_digit t e in
    subst (λ ms. FixityRest fix p (t ∷ ts) ms us) (ap (λ k. names_of (x ∷ xs) ++ node.Fixity p fix k ∷ []) (sym (digit_small (number_in t.kind) d.small))) (fixity_rest d.is_number d.small (infixes_from (with_more h k)))

pub digit_law : (fix : Fix) → SymbolLaw (symbol.Digit fix)
digit_law fix = record { by_head = and_also (digit_head fix) no_other; by_leaf = no_leaf_law; by_nothing = never_law }

-- a port behind `::`

direction_head : (dir : Dir) → HeadLaw symbol.Direction (mute (kind.Toward dir) (production.Address dir))
direction_head dir p n t ts us ms e (then (thing h) (then (one_fits {t = s} f) (then (one_fits {t = r} g) nothing))) =
    port_rest dir (is_dir dir t e) h (is_word word.At s f) (are_bits r g)

pub direction_law : SymbolLaw symbol.Direction
direction_law =
    record { by_head = and_also (direction_head In) (and_also (direction_head Outwards) no_other); by_leaf = no_leaf_law; by_nothing = never_law }

-- things that may be left out

pub optional_as : {A : Type 0} {whole : ℕ → DeclNode} {f : A → Out} {Reads : List Token → List A → List Token → Type 0} {n : ℕ} {ts us : List Token} {ms : Out} (xs : List A) → Reads ts xs us → closed whole (counted f xs) ≡ ms → Optional whole f Reads n ts ms us
optional_as {whole} {f} {Reads} {n} {ts} {us} xs h e = subst (λ ms. Optional whole f Reads n ts ms us) e (not_left_out h)

pub filled : {A : Type 0} {whole : ℕ → DeclNode} {f : A → Out} {Reads : List Token → List A → List Token → Type 0} {ts us : List Token} {ms : Out} → ((ts : List Token) → Reads ts [] ts) → Optional whole f Reads 0 ts ms us → Thing Reads (λ xs. closed whole (counted f xs)) ts ms us
filled none (left_out {ts}) = thing_as [] (none ts) refl
filled none (not_left_out {xs} h) = thing_as xs h refl

-- dependencies

depend_head : HeadLaw symbol.Depend (head kind.Var put.Name production.Depend)
depend_head p n t ts us ms e (then (thing {a = ns} h) (then (one_fits {t = s} f) (then (thing (some_vars {n = b} {ns = bs} k)) (then closes nothing)))) =
    thing_as (record { from = name_at t (name_in t.kind) ∷ ns; to = b ∷ bs }) (grammar.depend (var_more (is_var t e) h) (is_word word.RightArrow s f) k) refl

pub depend_law : SymbolLaw symbol.Depend
depend_law = record { by_head = and_also depend_head no_other; by_leaf = no_leaf_law; by_nothing = never_law }

depends_head : HeadLaw symbol.Depends (word_head word.Bar production.Depends)
depends_head p n t ts us ms e (then (thing {a = d} h) (then (thing {a = ds} k) nothing)) =
    optional_as (d ∷ ds) (grammar.depends (is_word word.Bar t e) (depend_list_from (with_more h k))) (cons_first node.Depends depend_of d ds)

depends_nothing : (p : Place) (n : ℕ) (ts : List Token) → Means (waits symbol.Depends p n) ts (node.Depends n ∷ []) ts
depends_nothing p n ts = left_out

pub depends_law : SymbolLaw symbol.Depends
depends_law = record { by_head = and_also depends_head no_other; by_leaf = no_leaf_law; by_nothing = nothing_law depends_nothing }

-- conditions

conditions_head : HeadLaw symbol.Conditions (word_head word.If production.Conditions)
conditions_head p n t ts us ms e (then (thing {a} h) (then (thing {a = xs} k) nothing)) =
    optional_as (a ∷ xs) (grammar.conditions (is_word word.If t e) (preds_from (with_more h k))) (cons_first context_whole pred_of a xs)

conditions_nothing : (p : Place) (n : ℕ) (ts : List Token) → Means (waits symbol.Conditions p n) ts (context_whole n ∷ []) ts
conditions_nothing p n ts = left_out

pub conditions_law : SymbolLaw symbol.Conditions
conditions_law =
    record { by_head = and_also conditions_head no_other; by_leaf = no_leaf_law; by_nothing = nothing_law conditions_nothing }
