use Rattle.std.proofs.Common.{◌≡◌}
use Rattle.hb_unknowns.specs.Joined.{entry_at}
use Rattle.hb_unknowns.proofs.TrailLemmas.{written}
use Rattle.hb_unknowns.proofs.trail.write.Goals as goal

pub returns-clause-tracked : goal.returns-clause-tracked
returns-clause-tracked c =
    let before : c.entry_at-before.result ≡ entry_at c.args.entries.now.items c.args.place = cc in
    rw (c.in_ok-push.ensures.items, before)
    (written c.args.entries.now.items c.args.trail.now.items c.args.place c.args.entry c.requires.place c.requires.trail)
