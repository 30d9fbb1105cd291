-- What the first token of a simple pattern gives.
use Rattle.std.specs.Prelude.{Option, Some, None, if◌then◌else◌}
use Rattle.hb_base.specs.declared.place.Place.{Place}
use Rattle.hb_read_patterns.specs.declared.node.PatNode.TheVariants as node
use Rattle.hb_read_patterns.specs.declared.sort.Sort.{Sort}
use Rattle.hb_read_patterns.specs.declared.sort.Sort.TheVariants.{Variable, Wildcard, Number, Bits, Constructor, Open}
use Rattle.hb_read_patterns.specs.declared.start.Start.{Start}
use Rattle.hb_read_patterns.specs.declared.head.Head.{Head}
use Rattle.hb_read_patterns.specs.Heads.{repeats}
use Rattle.hb_read_patterns.specs.declared.start.Start.TheVariants.{Node, Name, Bracket}

abbrev pub start_of : Place → Sort → Option Start
start_of place (Variable name) = Some (Node (node.Var place name))
start_of place Wildcard = Some (Node (node.Any place))
start_of place (Number k) = Some (Node (node.Number place k))
start_of place (Bits width k) = Some (Node (node.Bits place width k))
start_of place (Constructor name) = Some (Name place name)
start_of place Open = Some (Bracket place)
start_of place sort = None

-- where the token is one more simple pattern after others
abbrev pub more_start : Head → Place → Sort → Option Start
more_start head place sort = if repeats head then start_of place sort else None
