use Rattle.std.proofs.Common.{◌∙◌, refl, ap, arith, map}
use Rattle.std.proofs.lemmas.List.{take_all}
use Rattle.hb_base.specs.Names.{with_texts}
use Rattle.hb_base.proofs.NamesLaws.{one_more}
use Rattle.hb_base.proofs.names.Names.intern_all.Goals as goal

pub loop-text-init : goal.loop-text-init
unfolding with_texts
loop-text-init c = (refl, omega arith)

pub intern-requires : goal.intern-requires
intern-requires c = record { room = omega (arith, c.loop-text.invariant.1, c.loop-text-test.true, c.requires.room) }

pub loop-text-preserved : goal.loop-text-preserved
loop-text-preserved c =
    one_more (λ text. text.now) c.args.self.now c.loop-text.self c.intern.new.self c.args.texts.now c.loop-text.text-index _ c.loop-text-test.true c.loop-text.invariant c.in_ok-intern.ensures.texts

pub returns : goal.returns
returns c = record { texts = c.loop-text.invariant.0 ∙ ap (λ texts. with_texts c.args.self.now (map (λ text. text.now) texts)) (take_all c.loop-text.text-index c.args.texts.now c.loop-text-test.false) }
