use Rattle.std.proofs.Common.{arith}
use Rattle.hb_types.proofs.KindLemmas.{kinds_laid-length}
use Rattle.hb_types.proofs.kind_table.Kinds.len.Goals as goal

pub returns : goal.returns
returns c =
    let same = kinds_laid-length c.self.inside.forms.items c.args.self.now c.self.view_is in
    omega (arith, same, c.len.ensures)
