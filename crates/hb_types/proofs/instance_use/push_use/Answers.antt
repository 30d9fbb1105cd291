use Rattle.std.proofs.Common.{◌∙◌, ap}
use Rattle.hb_types.specs.UseTables.{uses_of}
use Rattle.hb_types.proofs.UseLemmas.{uses_of-push, uses-push}
use Rattle.hb_types.proofs.instance_use.push_use.Goals as goal

pub returns-clause-ok : goal.returns-clause-ok
returns-clause-ok c = ap (uses_of c.args.types.now) c.in_ok-push.ensures.ok ∙ uses_of-push c.args.types.now c.args.uses.now c.args.form

pub returns-clause-uses : goal.returns-clause-uses
returns-clause-uses c = rw c.in_ok-push.ensures.ok (uses-push c.args.types.now c.args.uses.now c.args.form c.requires.uses c.requires.types c.requires.context)
