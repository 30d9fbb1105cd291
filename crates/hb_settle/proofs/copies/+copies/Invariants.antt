use Rattle.hb_tree.specs.Patterns.{pat_size, pats_size, fields_size}
use Rattle.hb_tree.specs.PatternViews.{pats, field_pats}
use Rattle.hb_settle.proofs.copies.+copies.Given as goal

abbrev pub decreases-copy_pat : goal.decreases-copy_pat
decreases-copy_pat l = pat_size l.pat.now

abbrev pub decreases-copy_pats : goal.decreases-copy_pats
decreases-copy_pats l = pats_size (pats l.pats.now)

abbrev pub decreases-copy_fields : goal.decreases-copy_fields
decreases-copy_fields l = fields_size (field_pats l.fields.now)
