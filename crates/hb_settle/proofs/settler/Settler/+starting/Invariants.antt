use Rattle.hb_tree.specs.Initials.{init_size, fields_size}
use Rattle.hb_tree.specs.InitialViews.{field_inits}
use Rattle.hb_settle.proofs.settler.Settler.+starting.Given as goal

abbrev pub decreases-init : goal.decreases-init
decreases-init l = init_size l.init.now

abbrev pub decreases-field_inits : goal.decreases-field_inits
decreases-field_inits l = fields_size (field_inits l.all.now)
