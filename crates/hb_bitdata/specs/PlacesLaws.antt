-- The fields of parts that stand one after another lie apart, and hold just the bits that are no tag.
use Rattle.std.specs.Prelude.{◌≡◌, ℕ, zero, suc, ◌+◌, ◌-◌, ◌≤◌, Bool, true, false, ◌&&◌, nat_le, List, [], ◌∷◌, ◌++◌, map, replicate, unwrap_or, length}
use Rattle.std.proofs.Common.{refl, sym, ap, ◌∙◌, arith, append_assoc, length-append}
use Rattle.std.proofs.lemmas.List.{map-append, length-map, length-replicate, replicate-append-replicate}
use Rattle.std.proofs.lemmas.Bool.{leb-true, le-leb, and_parts}
use Rattle.hb_bits.specs.Bits.{digits}
use Rattle.hb_bits.specs.BitsLaws.{length-digits}
use Rattle.hb_bits.specs.Members.Member.{Fixed, Free}
use Rattle.hb_bitdata.specs.declared.form.PartForm.{PartForm}
use Rattle.hb_bitdata.specs.declared.form.PartForm.TheVariants.{Tag, Field}
use Rattle.hb_bitdata.specs.declared.place.FieldPlace.{FieldPlace}
use Rattle.hb_bitdata.specs.Widths.{parts_width}
use Rattle.hb_bitdata.specs.Places.{are_below, held, is_free}
use Rattle.hb_bitdata.specs.Layouts.{parts_members, places}

both : (a b : Bool) → a ≡ true → b ≡ true → (a && b) ≡ true
both true b e f = f
both false b e f = e

-- fields within so many bits are within more
pub raised : (top more : ℕ) (fields : List FieldPlace) → are_below top fields ≡ true → are_below (more + top) fields ≡ true
raised top more [] e = refl
raised top more (field ∷ fields) e =
    let within = and_parts (nat_le (field.at + field.width) top) (are_below field.at fields) e in
    let low : field.at + field.width ≤ top = leb-true _ _ within.0 in
    both _ _ (le-leb _ _ (omega arith)) within.1

le_itself : (a b : ℕ) → a + b ≤ b + a
le_itself a b = omega arith

pub are_below-places : (parts : List PartForm) → are_below (parts_width parts) (places parts) ≡ true
are_below-places [] = refl
are_below-places (Tag width number ∷ parts) = raised (parts_width parts) width (places parts) (are_below-places parts)
are_below-places (Field name place width ∷ parts) = both _ _ (le-leb _ _ (le_itself (parts_width parts) (unwrap_or width 0))) (are_below-places parts)

pub length-parts_members : (parts : List PartForm) → length (parts_members parts) ≡ parts_width parts
length-parts_members [] = refl
length-parts_members (Tag width number ∷ parts) =
    length-append (map Fixed (digits width number)) (parts_members parts)
    ∙ ap (λ n. n + length (parts_members parts)) (length-map (digits width number) Fixed ∙ length-digits width number)
    ∙ ap (λ n. width + n) (length-parts_members parts)
length-parts_members (Field name place width ∷ parts) =
    length-append (replicate (unwrap_or width 0) Free) (parts_members parts)
    ∙ ap (λ n. n + length (parts_members parts)) (length-replicate (unwrap_or width 0) Free)
    ∙ ap (λ n. unwrap_or width 0 + n) (length-parts_members parts)

-- more bits above fields are not held
held-raised : (top more : ℕ) (fields : List FieldPlace) → are_below top fields ≡ true → held (more + top) fields ≡ replicate more false ++ held top fields
held-raised top more [] e = sym (replicate-append-replicate more top false)
held-raised top more (field ∷ fields) e =
    let within = and_parts (nat_le (field.at + field.width) top) (are_below field.at fields) e in
    let low : field.at + field.width ≤ top = leb-true _ _ within.0 in
    let gap : more + top - (field.at + field.width) ≡ more + (top - (field.at + field.width)) = omega arith in
    ap (λ n. replicate n false ++ (replicate field.width true ++ held field.at fields)) gap
    ∙ ap (λ l. l ++ (replicate field.width true ++ held field.at fields)) (sym (replicate-append-replicate more (top - (field.at + field.width)) false))
    ∙ append_assoc (replicate more false) (replicate (top - (field.at + field.width)) false) (replicate field.width true ++ held field.at fields)

fixed_bits : (bits : List Bool) → map is_free (map Fixed bits) ≡ replicate (length bits) false
fixed_bits [] = refl
fixed_bits (bit ∷ bits) = ap (λ l. false ∷ l) (fixed_bits bits)

free_bits : (width : ℕ) → map is_free (replicate width Free) ≡ replicate width true
free_bits zero = refl
free_bits (suc width) = ap (λ l. true ∷ l) (free_bits width)

no_gap : (a b : ℕ) → b + a - (a + b) ≡ 0
no_gap a b = omega arith

pub held-places : (parts : List PartForm) → map is_free (parts_members parts) ≡ held (parts_width parts) (places parts)
held-places [] = refl
held-places (Tag width number ∷ parts) =
    map-append is_free (map Fixed (digits width number)) (parts_members parts)
    ∙ ap (λ l. l ++ map is_free (parts_members parts)) (fixed_bits (digits width number) ∙ ap (λ n. replicate n false) (length-digits width number))
    ∙ ap (λ l. replicate width false ++ l) (held-places parts)
    ∙ sym (held-raised (parts_width parts) width (places parts) (are_below-places parts))
held-places (Field name place width ∷ parts) =
    map-append is_free (replicate (unwrap_or width 0) Free) (parts_members parts)
    ∙ ap (λ l. l ++ map is_free (parts_members parts)) (free_bits (unwrap_or width 0))
    ∙ ap (λ l. replicate (unwrap_or width 0) true ++ l) (held-places parts)
    ∙ ap (λ n. replicate n false ++ (replicate (unwrap_or width 0) true ++ held (parts_width parts) (places parts))) (sym (no_gap (parts_width parts) (unwrap_or width 0)))
