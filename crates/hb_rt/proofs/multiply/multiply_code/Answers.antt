use Rattle.std.proofs.Common.{◌≡◌, sym, ◌∙◌, refl, subst}
use Rattle.hb_rt.specs.Multiply.{Multiplies}
use Rattle.hb_rt.proofs.Walk.{same_cons}
use Rattle.hb_rt.proofs.MultiplyWalk.{routine, multiplies}
use Rattle.hb_rt.proofs.multiply.multiply_code.Goals as goal

-- the list is the one that was walked through
pub returns : goal.returns
returns c =
    let is : c.in_ok-code.code.items ≡ routine =
    c.in_ok-code.ensures.items
    ∙ (same_cons c.addi.ensures
    (same_cons c.andi.ensures
    (same_cons c.sub.ensures
    (same_cons c.and.ensures
    (same_cons c.add.ensures
    (same_cons c.slli.ensures
    (same_cons c.srli.ensures
    (same_cons c.bne.ensures
    (same_cons c.addi-2.ensures
    refl)))))))))
    in
    subst Multiplies (sym (c.of.ensures ∙ is)) multiplies
