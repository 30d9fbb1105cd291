use Rattle.std.proofs.Common.{◌∙◌, ap, sym, length, ◌-◌}
use Rattle.std.specs.List.{slice_get}
use Rattle.hb_layout.specs.Stacks.{innermost}
use Rattle.hb_layout.proofs.ViewLaws.{innermost_is, entry_of}
use Rattle.hb_layout.proofs.stack.Stack.innermost.Goals as goal

pub returns-in-Some : goal.returns-in-Some
returns-in-Some c =
    ap entry_of (sym c.in-Some.is) ∙ (innermost_is c.self.inside.«open».items c.self.inside.due c.copied.result (c.copied.ensures ∙ (c.last.ensures.value ∙ ap (λ xs. slice_get xs (length xs - 1)) c.as_slice.ensures.value)) ∙ ap innermost c.self.view_is)

pub returns-in-None : goal.returns-in-None
returns-in-None c =
    ap entry_of (sym c.in-None.is) ∙ (innermost_is c.self.inside.«open».items c.self.inside.due c.copied.result (c.copied.ensures ∙ (c.last.ensures.value ∙ ap (λ xs. slice_get xs (length xs - 1)) c.as_slice.ensures.value)) ∙ ap innermost c.self.view_is)
