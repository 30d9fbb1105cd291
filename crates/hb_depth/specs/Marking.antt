-- The first pass over the nodes of a program: it finds for each node how many levels its parts are deeper, where it is a
-- form of its own. It keeps what the forms are whose parts are done, the last one first.
use Rattle.std.specs.Prelude.{ℕ, zero, suc, ◌+◌, ◌-◌, ◌^◌, min, List, [], ◌∷◌, Option, Some, None}
use Rattle.hb_stack.specs.Stacks.{first_of, rest_of}
use Rattle.hb_depth.specs.declared.chain.Chain.{Chain}
use Rattle.hb_depth.specs.declared.chain.Chain.TheVariants as chain
use Rattle.hb_depth.specs.declared.mark.Mark.{Mark}
use Rattle.hb_depth.specs.declared.shape.Kind.{Kind}
use Rattle.hb_depth.specs.declared.shape.Kind.TheVariants.{Levels, Apply, Arrow}
use Rattle.hb_depth.specs.declared.shape.Shape.{Shape}

-- a number of levels, or the greatest one that is told from others
unfoldable pub capped : ℕ → ℕ
capped n = min n (2 ^ 32 - 1)

abbrev pub arguments_in : Option Chain → ℕ
arguments_in None = 0
arguments_in (Some chain.Other) = 0
arguments_in (Some (chain.Apply count)) = count
arguments_in (Some (chain.Arrow count)) = 0

abbrev pub arrows_in : Option Chain → ℕ
arrows_in None = 0
arrows_in (Some chain.Other) = 0
arrows_in (Some (chain.Apply count)) = 0
arrows_in (Some (chain.Arrow count)) = count

-- without the first so many
unfoldable pub dropped : ℕ → List Chain → List Chain
dropped zero chains = chains
dropped (suc n) chains = dropped n (rest_of chains)

-- the levels of an application whose argument and head are the first two, and of an arrow whose parts are

abbrev pub applied : List Chain → ℕ
applied chains = capped (arguments_in (first_of (rest_of chains)) + 1)

abbrev pub arrowed : List Chain → ℕ
arrowed chains = capped (arrows_in (first_of chains) + 1)

abbrev pub levels_by : Kind → List Chain → ℕ
levels_by (Levels n) chains = n
levels_by Apply chains = applied chains
levels_by Arrow chains = arrowed chains

abbrev pub chains_by : Kind → ℕ → List Chain → List Chain
chains_by (Levels n) parts chains = chain.Other ∷ dropped parts chains
chains_by Apply parts chains = chain.Apply (applied chains) ∷ rest_of (rest_of chains)
chains_by Arrow parts chains = chain.Arrow (arrowed chains) ∷ rest_of (rest_of chains)

abbrev pub mark : Shape → ℕ → Mark
mark shape levels = record { shape = shape; levels = levels }

-- the marks of these nodes before those that are there, the last node first
abbrev pub marked : List Chain → List Mark → List Shape → List Mark
marked chains marks [] = marks
marked chains marks (s ∷ rest) = marked (chains_by s.kind s.parts chains) (mark s (levels_by s.kind chains) ∷ marks) rest
