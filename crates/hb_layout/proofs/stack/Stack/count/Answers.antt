use Rattle.std.proofs.Common.{◌≡◌, ◌∙◌, ap, sym, length, rules}
use Rattle.hb_layout.specs.Stacks.{open_count}
use Rattle.hb_layout.proofs.ViewLaws.{count_layers}
use Rattle.hb_layout.proofs.stack.Stack.count.Goals as goal

pub returns : goal.returns
returns c =
    let e : c.len.result ≡ length c.self.inside.«open».items = search rules in
    e ∙ (sym (count_layers c.self.inside.«open».items c.self.inside.due) ∙ ap open_count c.self.view_is)
