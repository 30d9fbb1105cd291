-- What stands around a simple pattern, and what comes of it.
use Rattle.std.specs.Prelude.{◌+◌, Bool, true, false, List, [], ◌∷◌, ◌++◌, Option, Some, None}
use Rattle.hb_base.specs.declared.name.Name.{Name}
use Rattle.hb_base.specs.declared.place.Place.{Place}
use Rattle.hb_read_patterns.specs.declared.node.PatNode.{PatNode}
use Rattle.hb_read_patterns.specs.declared.node.PatNode.TheVariants.{Con, Row}
use Rattle.hb_read_patterns.specs.declared.head.Head.{Head}
use Rattle.hb_read_patterns.specs.declared.head.Head.TheVariants.{Whole, Single, Applied, Many}

-- more simple patterns may come
abbrev pub repeats : Head → Bool
repeats Whole = false
repeats Single = false
repeats (Applied place con count) = true
repeats (Many count) = true

-- the head where one more is begun
abbrev pub more_head : Head → Head
more_head Whole = Whole
more_head Single = Single
more_head (Applied place con count) = Applied place con (count + 1)
more_head (Many count) = Many (count + 1)

-- what is due where no more come
abbrev pub head_node : Head → Option PatNode
head_node Whole = None
head_node Single = None
head_node (Applied place con count) = Some (Con place con count)
head_node (Many count) = Some (Row count)

-- after a constructor's name that no `[` follows: it takes arguments where a whole pattern is read, and is whole elsewhere
abbrev pub named_head : Head → Place → Name → Head
named_head Whole place con = Applied place con 0
named_head Single place con = Single
named_head (Applied place' con' count) place con = Applied place' con' count
named_head (Many count) place con = Many count

abbrev pub named_node : Head → Place → Name → Option PatNode
named_node Whole place con = None
named_node Single place con = Some (Con place con 0)
named_node (Applied place' con' count) place con = Some (Con place con 0)
named_node (Many count) place con = Some (Con place con 0)

-- puts out what is due
abbrev pub put_node : Option PatNode → List PatNode → List PatNode
put_node None nodes = nodes
put_node (Some x) nodes = nodes ++ x ∷ []

abbrev pub end_head : Head → List PatNode → List PatNode
end_head head nodes = put_node (head_node head) nodes

abbrev pub named_nodes : Head → Place → Name → List PatNode → List PatNode
named_nodes head place con nodes = put_node (named_node head place con) nodes
