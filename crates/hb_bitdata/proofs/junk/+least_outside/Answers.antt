use Rattle.std.proofs.Common.{◌-◌, refl, sym, subst, length}
use Rattle.std.proofs.lemmas.Bool.{eqb-true}
use Rattle.std.proofs.lemmas.List.{nil_from_length}
use Rattle.hb_bits.specs.OfPattern.{bits_of}
use Rattle.hb_bitdata.specs.Junk.{IsLeastOutside}
use Rattle.hb_bitdata.proofs.JunkSteps.{least_of_all, none_of_width, least_zero, least_one, none_outside, none_free, have_bits, answered_some, answered_none, never_some, positive, NoneOutside, width_back, some_cubes}
use Rattle.hb_bitdata.proofs.junk.+least_outside.Goals as goal

pub returns-then-is_empty : goal.returns-then-is_empty
returns-then-is_empty t c = (refl, least_of_all c.args.width c.args.cubes.now (nil_from_length c.args.cubes.now (eqb-true _ _ (sym c.if-is_empty.ensures))))

pub returns-then-width-eq0 : goal.returns-then-width-eq0
returns-then-width-eq0 t c = none_of_width c.args.width c.args.cubes.now c.if-width-eq0.true (some_cubes (length c.args.cubes.now) (sym c.if-is_empty.ensures)) c.requires.widths

pub returns-in-Some : goal.returns-in-Some
returns-in-Some t c =
    let found = answered_some (c.args.width - 1) c.as_slice.result.now c.in_ok-rest.field-0 c.in-Some.rest c.in-Some.is c.in_ok-rest.ensures in
    let above = positive c.args.width c.if-width-eq0.false in
    let least = subst (λ l. IsLeastOutside (c.args.width - 1) l (bits_of c.in-Some.rest)) c.as_slice.ensures.value found.1 in (
      width_back _ _ c.args.width c.with_first.ensures.width found.0 above,
      subst (IsLeastOutside c.args.width c.args.cubes.now) (sym c.with_first.ensures.bits) (least_zero c.args.width c.args.cubes.now c.in_ok-zeros.zeros.items (bits_of c.in-Some.rest) above c.in_ok-zeros.ensures.out least),
    )

pub is_first_free-requires : goal.is_first_free-requires
is_first_free-requires t c = have_bits c.args.width c.args.cubes.now (positive c.args.width c.if-width-eq0.false) c.requires.widths

pub returns-then-is_first_free : goal.returns-then-is_first_free
returns-then-is_first_free t c =
    let none = answered_none (c.args.width - 1) c.as_slice.result.now c.in_ok-rest.field-0 (never_some _ c.in_default.not-Some) c.in_ok-rest.ensures in
    let outside = subst (λ l. NoneOutside (c.args.width - 1) l) c.as_slice.ensures.value none in
    none_free c.args.width c.args.cubes.now c.in_ok-zeros.zeros.items (positive c.args.width c.if-width-eq0.false) c.in_ok-zeros.ensures.out outside (c.is_first_free.ensures c.if-is_first_free.true)

pub returns-in-Some-2 : goal.returns-in-Some-2
returns-in-Some-2 t c =
    let above = positive c.args.width c.if-width-eq0.false in
    let none = answered_none (c.args.width - 1) c.as_slice.result.now c.in_ok-rest.field-0 (never_some _ c.in_default.not-Some) c.in_ok-rest.ensures in
    let zeros = subst (λ l. NoneOutside (c.args.width - 1) l) c.as_slice.ensures.value none in
    let found = answered_some (c.args.width - 1) c.as_slice-2.result.now c.in_ok-rest-2.field-0 c.in-Some-2.rest c.in-Some-2.is c.in_ok-rest-2.ensures in
    let least = subst (λ l. IsLeastOutside (c.args.width - 1) l (bits_of c.in-Some-2.rest)) c.as_slice-2.ensures.value found.1 in (
      width_back _ _ c.args.width c.with_first-in-Some-2.ensures.width found.0 above,
      subst (IsLeastOutside c.args.width c.args.cubes.now) (sym c.with_first-in-Some-2.ensures.bits)
          (least_one c.args.width c.args.cubes.now c.in_ok-zeros.zeros.items c.in_ok-ones.ones.items (bits_of c.in-Some-2.rest) above c.in_ok-zeros.ensures.out zeros c.in_ok-ones.ensures.out least),
    )

pub returns : goal.returns
returns t c =
    let above = positive c.args.width c.if-width-eq0.false in
    let none = answered_none (c.args.width - 1) c.as_slice.result.now c.in_ok-rest.field-0 (never_some _ c.in_default.not-Some) c.in_ok-rest.ensures in
    let zeros = subst (λ l. NoneOutside (c.args.width - 1) l) c.as_slice.ensures.value none in
    let none_one = answered_none (c.args.width - 1) c.as_slice-2.result.now c.in_ok-rest-2.field-0 c.in-None.is c.in_ok-rest-2.ensures in
    let ones = subst (λ l. NoneOutside (c.args.width - 1) l) c.as_slice-2.ensures.value none_one in
    none_outside c.args.width c.args.cubes.now c.in_ok-zeros.zeros.items c.in_ok-ones.ones.items above c.in_ok-zeros.ensures.out zeros c.in_ok-ones.ensures.out ones
