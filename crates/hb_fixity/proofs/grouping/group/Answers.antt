use Rattle.std.proofs.Common.{rules}
use Rattle.hb_fixity.proofs.GroupingLaws.{grouped_right, grouped_only, grouped_clash}
use Rattle.hb_fixity.proofs.grouping.group.Goals as goal

pub returns-clause-right : goal.returns-clause-right
returns-clause-right c = grouped_right c.args.first c.args.rest c.in_ok-tree.tree c.in_ok-reader.reader.clash (search rules) (search rules)

pub returns-clause-only : goal.returns-clause-only
returns-clause-only c = grouped_only c.args.first c.args.rest c.in_ok-tree.tree c.in_ok-reader.reader.clash (search rules) (search rules)

pub returns-clause-clash : goal.returns-clause-clash
returns-clause-clash c = grouped_clash c.args.first c.args.rest c.in_ok-reader.reader.clash (search rules)
