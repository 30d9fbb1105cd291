use Rattle.std.proofs.Common.{◌≤◌, length, sym, subst}
use Rattle.std.specs.Prelude.{All}
use Rattle.hb_runs.specs.Outcome.{SameRuns}
use Rattle.hb_flat.specs.declared.form.Flat.{Flat}
use Rattle.hb_flat.specs.declared.form.FlatBlock.{FlatBlock}
use Rattle.hb_flat.specs.Meaning.{runs}
use Rattle.hb_flat.specs.Rules.{IsFlat}
use Rattle.hb_second.specs.Meaning.{says}
use Rattle.hb_second_code.proofs.Law.{flat_fits, blocks_few, same_runs}
use Rattle.hb_second_code.proofs.lowering.lower.Goals as goal

pub returns-clause-rules : goal.returns-clause-rules
returns-clause-rules c = subst (λ flat. IsFlat flat c.args.source.now.ports) (sym c.in_ok-flat.ensures) (flat_fits c.args.source.now c.requires)

pub returns-clause-few : goal.returns-clause-few
returns-clause-few c =
    subst (λ (flat : Flat). All (λ (block : FlatBlock). length block.steps ≤ 2000) flat.blocks) (sym c.in_ok-flat.ensures)
    (blocks_few c.args.source.now c.requires)

pub returns-clause-runs : goal.returns-clause-runs
returns-clause-runs c lines inputs = subst (λ flat. SameRuns (says c.args.source.now lines) (runs flat c.args.source.now.ports lines)) (sym c.in_ok-flat.ensures) (same_runs c.args.source.now lines c.requires inputs)
