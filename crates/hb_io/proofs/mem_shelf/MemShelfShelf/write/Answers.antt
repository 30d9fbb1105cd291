use Rattle.std.proofs.Common.{ap, ◌∙◌, Some}
use Rattle.std.specs.FinMap.{remove}
use Rattle.hb_io.specs.FilesLaws.{remove-insert}
use Rattle.hb_io.proofs.mem_shelf.MemShelfShelf.write.Goals as goal

pub returns-in-Ok-clause-others : goal.returns-in-Ok-clause-others
returns-in-Ok-clause-others c =
    ap (λ s. Some (remove s.files c.args.name.now)) c.in-Ok.ensures.ok
    ∙ ap Some (remove-insert _ c.args.name.now c.args.bytes.now)
    ∙ ap (λ s. Some (remove s.files c.args.name.now)) c.self.view_is
