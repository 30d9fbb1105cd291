use Rattle.std.proofs.Common.{◌≡◌, sym, ◌∙◌, refl, subst}
use Rattle.hb_rt.specs.Divide.{Divides}
use Rattle.hb_rt.proofs.Walk.{same_cons}
use Rattle.hb_rt.proofs.DivideWalk.{routine, divides}
use Rattle.hb_rt.proofs.divide.divide_code.Goals as goal

-- the list is the one that was walked through
pub returns : goal.returns
returns c =
    let is : c.in_ok-code.code.items ≡ routine =
    c.in_ok-code.ensures.items
    ∙ (same_cons c.addi.ensures
    (same_cons c.addi-2.ensures
    (same_cons c.addi-3.ensures
    (same_cons c.slli.ensures
    (same_cons c.srli.ensures
    (same_cons c.add.ensures
    (same_cons c.slli-2.ensures
    (same_cons c.slli-3.ensures
    (same_cons c.sltu.ensures
    (same_cons c.addi-4.ensures
    (same_cons c.sub.ensures
    (same_cons c.and.ensures
    (same_cons c.sub-2.ensures
    (same_cons c.addi-5.ensures
    (same_cons c.bne.ensures
    (same_cons c.addi-6.ensures
    (same_cons c.addi-7.ensures
    refl)))))))))))))))))
    in
    subst Divides (sym (c.of.ensures ∙ is)) divides
