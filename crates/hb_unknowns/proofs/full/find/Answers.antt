use Rattle.std.proofs.Common.{◌≡◌, sym, ◌∙◌}
use Rattle.hb_unknowns.specs.Joined.{at}
use Rattle.hb_unknowns.specs.declared.node.Node.TheVariants.{Free, Link, Apply}
use Rattle.hb_unknowns.proofs.FullLemmas.{found-free, found-link, found-apply, part-link, part-left, part-right}
use Rattle.hb_unknowns.proofs.full.find.Goals as goal

pub returns-in_ok-place-in-Free-clause-found : goal.returns-in_ok-place-in-Free-clause-found
returns-in_ok-place-in-Free-clause-found c =
    let is : at c.args.entries.now c.args.node ≡ Free = sym c.node_at.ensures ∙ c.in-Free.is in
    found-free c.args.entries.now c.args.types.now c.push.new.self c.args.node c.in_ok-place-in-Free.place c.requires.solution.0 c.requires.graph c.requires.solution.1 c.requires.inside is
    c.in_ok-place-in-Free.ensures.place c.in_ok-place-in-Free.ensures.ok

pub returns-in-Link-clause-found : goal.returns-in-Link-clause-found
returns-in-Link-clause-found c =
    let is : at c.args.entries.now c.args.node ≡ Link c.in-Link.part = sym c.node_at.ensures ∙ c.in-Link.is in
    found-link c.args.entries.now c.args.types.now c.args.node c.in-Link.part c.found_at.result is
    (rw c.found_at.ensures (c.requires.parts c.in-Link.part (part-link (at c.args.entries.now c.args.node) c.in-Link.part is)))

pub returns-in_ok-place-in-Apply-clause-found : goal.returns-in_ok-place-in-Apply-clause-found
returns-in_ok-place-in-Apply-clause-found c =
    let is : at c.args.entries.now c.args.node ≡ Apply c.in-Apply.f c.in-Apply.x = sym c.node_at.ensures ∙ c.in-Apply.is in
    found-apply c.args.entries.now c.args.types.now c.push-in-Apply.new.self c.args.node c.in_ok-place-in-Apply.place c.in-Apply.f c.in-Apply.x c.found_at-function.result c.found_at-argument.result
    c.both-known.result is c.in_ok-place-in-Apply.ensures.place c.in_ok-place-in-Apply.ensures.ok c.both-known.ensures
    (rw c.found_at-function.ensures (c.requires.parts c.in-Apply.f (part-left (at c.args.entries.now c.args.node) c.in-Apply.f c.in-Apply.x is)))
    (rw c.found_at-argument.ensures (c.requires.parts c.in-Apply.x (part-right (at c.args.entries.now c.args.node) c.in-Apply.f c.in-Apply.x is)))
