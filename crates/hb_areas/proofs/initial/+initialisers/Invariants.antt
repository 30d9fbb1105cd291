use Rattle.hb_tree.specs.Initials.{init_size, fields_size}
use Rattle.hb_tree.specs.InitialViews.{field_inits}
use Rattle.hb_areas.proofs.initial.+initialisers.Given as goal

abbrev pub decreases-is_wrong : goal.decreases-is_wrong
decreases-is_wrong l = init_size l.init.now

abbrev pub decreases-fields_wrong : goal.decreases-fields_wrong
decreases-fields_wrong l = fields_size (field_inits l.fields.now)
