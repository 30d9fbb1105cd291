use Rattle.std.proofs.Common.{arith}
use Rattle.hb_types.proofs.TableLemmas.{laid-length}
use Rattle.hb_types.proofs.table.Types.len.Goals as goal

pub returns : goal.returns
returns c =
    let same = laid-length c.self.inside.forms.items c.args.self.now c.self.view_is in
    omega (arith, same, c.len.ensures)
