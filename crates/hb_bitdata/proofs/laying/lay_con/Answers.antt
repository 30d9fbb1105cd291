use Rattle.std.proofs.Common.{◌∙◌, sym, ap, map}
use Rattle.std.proofs.lemmas.List.{nil_from_length}
use Rattle.hb_bits.specs.OfCube.{members_of}
use Rattle.hb_bitdata.specs.Widths.{parts_width}
use Rattle.hb_bitdata.specs.Places.{are_below, held, is_free}
use Rattle.hb_bitdata.specs.Layouts.{parts_members, places}
use Rattle.hb_bitdata.specs.PlacesLaws.{are_below-places, held-places}
use Rattle.hb_bitdata.proofs.LayingSteps.{done, same_width}
use Rattle.hb_bitdata.proofs.laying.lay_con.Goals as goal

pub invariant_of-result : goal.invariant_of-result
invariant_of-result c =
    let parts = c.args.con.now.parts in
    let none = nil_from_length c.loop-part.left.now c.in_default.ensures.cases in
    let fields = done c.loop-part.fields (places c.loop-part.left.now) (places parts) c.loop-part.invariant.fields (ap places none) in
    let members = done (members_of c.loop-part.cube) (parts_members c.loop-part.left.now) (parts_members parts) c.loop-part.invariant.members (ap parts_members none) in
    let width = same_width c.loop-part.cube.width (parts_width c.loop-part.left.now) (parts_width parts) c.loop-part.invariant.width (ap parts_width none) in record {
      apart = ap (are_below c.loop-part.cube.width) fields ∙ ap (λ w. are_below w (places parts)) width ∙ are_below-places parts;
      exact =
          ap (map is_free) members ∙ held-places parts
          ∙ ap (λ w. held w (places parts)) (sym width)
          ∙ ap (held c.loop-part.cube.width) (sym fields);
    }
