use Rattle.std.proofs.Common.{◌≡◌, true, rules, arith}
use Rattle.hb_unknowns.proofs.EquationLemmas.{places-below, taken-end, taken-harmless, referred-end}
use Rattle.hb_unknowns.proofs.ReferredLemmas.{referred-if}
use Rattle.hb_unknowns.proofs.taking.attempt.Goals as goal

pub returns-then-harmless-clause-referred : goal.returns-then-harmless-clause-referred
returns-then-harmless-clause-referred c =
    let tracked = rw c.requires.trail at c.in_ok-unify.ensures.tracked in
    referred-end c.args.entries.now.items c.unify.new.entries.items c.args.referred.now.items c.refer_all.new.referred.items c.unify.new.trail.items tracked c.requires.referred
    c.refer_all.ensures.raised (rw (c.deref-5.ensures.value, c.deref-6.ensures.value, c.in_ok-starts.ensures, c.deref-4.ensures.value) at c.refer_all.ensures.parts)

pub returns-then-harmless-clause-end : goal.returns-then-harmless-clause-end
returns-then-harmless-clause-end c =
    let yes : c.in_ok-unify.field-0 ≡ true = first_of (cc, search rules, grind arith) in
    taken-harmless c.args.entries.now.items c.unify.new.entries.items c.args.pending.now.items c.requires.solution (rw yes at c.in_ok-unify.ensures.unified)
    (rw (c.if-harmless.true, c.deref.ensures.value, c.deref-3.ensures.value) at c.is_harmless-harmless.ensures)

pub returns-clause-referred : goal.returns-clause-referred
returns-clause-referred c =
    let tracked = rw c.requires.trail at c.in_ok-unify.ensures.tracked in
    referred-if c.unify.new.entries.items c.refer_all.new.referred.items c.in_ok-ok.ok
    (referred-end c.args.entries.now.items c.unify.new.entries.items c.args.referred.now.items c.refer_all.new.referred.items c.unify.new.trail.items tracked c.requires.referred
    c.refer_all.ensures.raised (rw (c.deref-5.ensures.value, c.deref-6.ensures.value, c.in_ok-starts.ensures, c.deref-4.ensures.value) at c.refer_all.ensures.parts))

pub is_solvable-requires-clause-starts : goal.is_solvable-requires-clause-starts
is_solvable-requires-clause-starts c =
    let tracked = c.in_ok-unify.ensures.tracked in
    rw (c.deref-7.ensures.value, c.deref-8.ensures.value, c.in_ok-starts.ensures, c.deref-4.ensures.value) (places-below _ c.unify.new.trail.items tracked.inside)

pub returns-clause-end : goal.returns-clause-end
returns-clause-end c =
    let yes : c.in_ok-unify.field-0 ≡ true = first_of (cc, search rules, grind arith) in
    let tracked = rw c.requires.trail at c.in_ok-unify.ensures.tracked in
    taken-end c.in_ok-ok.ok c.args.entries.now.items c.unify.new.entries.items c.args.pending.now.items c.unify.new.trail.items c.requires.graph c.requires.solution tracked
    (rw yes at c.in_ok-unify.ensures.unified)
    (rw (c.deref-7.ensures.value, c.deref-8.ensures.value, c.in_ok-starts.ensures, c.deref-4.ensures.value) at c.in_ok-ok.ensures.end)
