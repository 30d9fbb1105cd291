use Rattle.std.proofs.Common.{◌<◌, length, get_or, refl, arith}
use Rattle.hb_types.specs.Types as tree
use Rattle.hb_types.specs.Tables.{type_at}
use Rattle.hb_unknowns.specs.Equations.{equations}
use Rattle.hb_unknowns.specs.Full.{IsFound, IsFull}
use Rattle.hb_unknowns.proofs.FullLemmas.{full-known, full-open, full-apply, placed-last}
use Rattle.hb_unknowns.proofs.full.replace.Goals as goal

pub returns-then-one-clause-full : goal.returns-then-one-clause-full
returns-then-one-clause-full c =
    let inside : c.args.place < length c.args.entries.now = omega (arith, c.requires.place, c.requires.sound.size) in
    let found : IsFound c.args.entries.now c.args.table.now c.args.place c.found_at-one.result = rw c.found_at-one.ensures (c.requires.found.each c.args.place inside) in (
      found.inside,
      full-known c.args.types.now c.args.entries.now c.args.place c.in-Unknown.number (type_at c.args.table.now c.found_at-one.result.place) c.requires.sound c.requires.place c.in-Unknown.ensures.is
          (rw c.if-one.true at found.known) found.means,
    )

pub returns-in_ok-kept-in-Unknown-clause-full : goal.returns-in_ok-kept-in-Unknown-clause-full
returns-in_ok-kept-in-Unknown-clause-full c =
    let inside : c.args.place < length c.args.entries.now = omega (arith, c.requires.place, c.requires.sound.size) in
    let found : IsFound c.args.entries.now c.args.table.now c.args.place c.found_at-one.result = rw c.found_at-one.ensures (c.requires.found.each c.args.place inside) in
    placed-last c.args.table.now c.push.new.self (tree.Unknown c.in-Unknown.number) c.in_ok-kept-in-Unknown.kept
    (IsFull (equations c.args.types.now c.args.entries.now) (type_at c.args.types.now c.args.place)) c.in_ok-kept-in-Unknown.ensures.place c.in_ok-kept-in-Unknown.ensures.ok
    (full-open c.args.types.now c.args.entries.now c.args.place c.in-Unknown.number (tree.Unknown c.in-Unknown.number) c.requires.sound c.requires.place c.in-Unknown.ensures.is
    (rw c.if-one.false at found.known) refl)

pub returns-in_ok-whole-in-Apply-clause-full : goal.returns-in_ok-whole-in-Apply-clause-full
returns-in_ok-whole-in-Apply-clause-full c =
    let left = c.requires.parts.each c.in-Apply.f c.in-Apply.ensures.parts.0 in
    let right = c.requires.parts.each c.in-Apply.x c.in-Apply.ensures.parts.1 in
    let t = type_at c.args.table.now (get_or c.args.full.now c.in-Apply.f 0) in
    let u = type_at c.args.table.now (get_or c.args.full.now c.in-Apply.x 0) in
    placed-last c.args.table.now c.push-in-Apply.new.self (tree.Apply t u) c.in_ok-whole-in-Apply.whole
    (IsFull (equations c.args.types.now c.args.entries.now) (type_at c.args.types.now c.args.place)) c.in_ok-whole-in-Apply.ensures.place c.in_ok-whole-in-Apply.ensures.ok
    (full-apply c.args.types.now c.args.entries.now c.args.place c.in-Apply.f c.in-Apply.x t u (tree.Apply t u) c.in-Apply.ensures.is refl left.1 right.1)
