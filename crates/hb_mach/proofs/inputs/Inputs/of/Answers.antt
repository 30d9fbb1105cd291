use Rattle.std.proofs.Common.{◌≡◌, replicate, rules}
use Rattle.hb_mach.proofs.WaitingLaws.{waiting-all}
use Rattle.hb_mach.proofs.inputs.Inputs.of.Goals as goal

pub returns : goal.returns
returns c =
    let zeros : c.in_ok-cursors.cursors.items ≡ replicate 256 0 = search rules in
    waiting-all c.args.lines c.in_ok-cursors.cursors.items 256 zeros
