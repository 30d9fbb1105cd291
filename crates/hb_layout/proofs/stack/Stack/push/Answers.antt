use Rattle.std.proofs.Common.{◌∷◌, ◌∙◌, ap}
use Rattle.hb_layout.specs.Stacks.{opened}
use Rattle.hb_layout.proofs.ViewLaws.{layers_last}
use Rattle.hb_layout.proofs.stack.Stack.push.Goals as goal

pub returns : goal.returns
returns c = rw (c.in_ok-push.ensures.items) (layers_last c.self.inside.«open».items (record { entry = c.args.entry; under = c.self.inside.due }) ∙ ap (λ s. opened c.args.entry ∷ s) c.self.view_is)
