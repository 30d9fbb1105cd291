use Rattle.hb_tree.specs.Patterns.{pat_size, pats_size, fields_size}
use Rattle.hb_tree.specs.PatternViews.{pats, field_pats}
use Rattle.hb_settle.proofs.numbering.Numbering.+numbering_patterns.Given as goal

abbrev pub decreases-pat : goal.decreases-pat
decreases-pat l = pat_size l.pat.now

abbrev pub decreases-pats : goal.decreases-pats
decreases-pats l = pats_size (pats l.all.now)

abbrev pub decreases-field_pats : goal.decreases-field_pats
decreases-field_pats l = fields_size (field_pats l.all.now)
