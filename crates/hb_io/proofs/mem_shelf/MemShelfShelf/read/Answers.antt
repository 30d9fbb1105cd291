use Rattle.std.proofs.Common.{◌≡◌, ◌∙◌, sym, ap, false, rules, take, Some}
use Rattle.std.specs.Option.{option_map, option_copied}
use Rattle.std.specs.FinMap.{get}
use Rattle.hb_io.specs.FakeShelf.{fails}
use Rattle.hb_io.proofs.FakeShelfLemmas.{reads-missing, reads-found, front-found}
use Rattle.hb_io.proofs.mem_shelf.MemShelfShelf.read.Goals as goal

pub returns-in_default-clause-refusal : goal.returns-in_default-clause-refusal
returns-in_default-clause-refusal c =
    reads-missing c.args.self.now c.args.name.now c.args.cap
    (ap (λ s. get s.files c.args.name.now) (sym c.self.view_is) ∙ sym c.find.ensures ∙ ap option_copied c.in_default.is)

found_front : (c : goal.In-Ok) → option_map (take c.args.cap) (get c.args.self.now.files c.args.name.now) ≡ Some c.in-Ok.front.items
found_front c =
    front-found c.args.cap c.in-Some.bytes.now c.in-Ok.front.items _
    (c.in-Some.ensures ∙ ap (λ s. get s.files c.args.name.now) c.self.view_is)
    (c.in-Ok.ensures.items ∙ ap (λ n. take n c.in-Some.bytes.now) c.min.ensures)

pub returns-in-Ok-clause-answer : goal.returns-in-Ok-clause-answer
returns-in-Ok-clause-answer c =
    let passes : fails c.args.self.now ≡ false = search rules in
    reads-found c.args.self.now c.args.name.now c.args.cap c.in-Ok.front.items passes (found_front c)

pub returns-in-Ok-clause-front : goal.returns-in-Ok-clause-front
returns-in-Ok-clause-front c = found_front c
