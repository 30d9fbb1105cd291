use Rattle.hb_io.proofs.StoredFilesLemmas.{files_of-insert}
use Rattle.hb_io.proofs.mem_shelf.MemShelf.add.Goals as goal

pub returns-clause-ok : goal.returns-clause-ok
returns-clause-ok c =
    rw (
      ← c.self.view_is,
      ← c.in_ok-name.ensures.ok,
      ← c.in_ok-bytes.ensures.items,
      files_of-insert c.self.inside.files c.insert.new.self c.in_ok-name.name c.in_ok-bytes.bytes c.in_ok-insert.ensures.updates,
    )
