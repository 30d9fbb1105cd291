use Rattle.hb_tree.specs.Patterns.{pat_size, pats_size, fields_size}
use Rattle.hb_tree.specs.PatternViews.{pats, field_pats}
use Rattle.hb_scope.proofs.uses.Uses.+binders.Given as goal

abbrev pub decreases-bind_pat : goal.decreases-bind_pat
decreases-bind_pat l = pat_size l.pat.now

abbrev pub decreases-bind_pats : goal.decreases-bind_pats
decreases-bind_pats l = pats_size (pats l.pats.now)

abbrev pub decreases-bind_fields : goal.decreases-bind_fields
decreases-bind_fields l = fields_size (field_pats l.fields.now)
