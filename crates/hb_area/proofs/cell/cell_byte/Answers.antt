use Rattle.std.proofs.Common.{◌∙◌, ap, sym, if◌then◌else◌, get_or, reverse}
use Rattle.hb_area.specs.Cells.{bytes_of}
use Rattle.hb_area.proofs.CellSteps.{little, big}
use Rattle.hb_area.proofs.cell.cell_byte.Goals as goal
use Rattle.hb_area.proofs.cell.cell_byte.Goals.{then-form, else-form}

pub returns : goal.returns
returns c =
    let n = c.args.form.bytes in
    elim c.if-form.branch [
      | then-form w ↦
          c.byte_at.ensures
          ∙ big n c.args.index c.args.value c.if-form.place w.place-is c.requires c.args.form.few
          ∙ ap (λ b. get_or (if b then reverse (bytes_of n c.args.value) else bytes_of n c.args.value) c.args.index 0) (sym w.if-form.true)
      | else-form w ↦
          c.byte_at.ensures
          ∙ ap (λ k. get_or (bytes_of 4 c.args.value) k 0) w.place-is
          ∙ little n c.args.index c.args.value c.requires c.args.form.few
          ∙ ap (λ b. get_or (if b then reverse (bytes_of n c.args.value) else bytes_of n c.args.value) c.args.index 0) (sym w.if-form.false)
    ]
