use Rattle.std.proofs.Common.{◌∙◌, ap, refl, sym, subst, length, ◌≤◌}
use Rattle.hb_layout.specs.Stacks.{unmarked}
use Rattle.hb_layout.proofs.ViewLaws.{unmarked_layers}
use Rattle.hb_layout.proofs.StackLaws.{length_unmarked}
use Rattle.hb_layout.proofs.stack.Stack.unmark.Goals as goal

pub returns-clause-unmarked : goal.returns-clause-unmarked
returns-clause-unmarked c = unmarked_layers c.self.inside.«open».items c.self.inside.due 0 refl ∙ ap unmarked c.self.view_is

pub returns-clause-few : goal.returns-clause-few
returns-clause-few c =
    subst (λ s. length s ≤ length c.args.self.now) (sym (unmarked_layers c.self.inside.«open».items c.self.inside.due 0 refl ∙ ap unmarked c.self.view_is)) (length_unmarked c.args.self.now)
