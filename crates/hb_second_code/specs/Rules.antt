-- The rules that a source keeps once it is read: its ports are ports of one byte, and each statement names a port
-- that goes its way and variables that are bound before it.
use Rattle.std.specs.Prelude.{◌≡◌, ℕ, ◌+◌, ◌<◌, ◌≤◌, List, [], ◌∷◌, length, slice_get, All, IsSomeAnd}
use Rattle.hb_base.specs.declared.port.Port.{Port}
use Rattle.hb_base.specs.declared.port.Dir.{Dir}
use Rattle.hb_base.specs.declared.port.Dir.TheVariants.{In, Out}
use Rattle.hb_base.specs.Ports.{ArePorts}
use Rattle.hb_second.specs.declared.source.Atom.{Atom}
use Rattle.hb_second.specs.declared.source.Atom.TheVariants.{Literal, Variable}
use Rattle.hb_second.specs.declared.source.Argument.{Argument}
use Rattle.hb_second.specs.declared.source.Argument.TheVariants.{Atom as OneAtom, Operation}
use Rattle.hb_second.specs.declared.source.Statement.{Statement}
use Rattle.hb_second.specs.declared.source.Statement.TheVariants.{Read, Write}
use Rattle.hb_second.specs.declared.source.Source.{Source}

-- the port of this number goes this way
abbrev pub GoesAt : List Port → ℕ → Dir → Type 0
GoesAt ports number dir = IsSomeAnd (slice_get ports number) (λ port. port.dir ≡ dir)

-- a byte, or one of so many variables
abbrev pub IsAtom : ℕ → Atom → Type 0
IsAtom bound (Literal value) = value < 256
IsAtom bound (Variable number) = number < bound

abbrev pub IsArgument : ℕ → Argument → Type 0
IsArgument bound (OneAtom a) = IsAtom bound a
IsArgument bound (Operation a op b) = IsAtom bound a × IsAtom bound b

-- statements where so many variables are bound
abbrev pub AreStatements : List Port → ℕ → List Statement → Type 0
AreStatements ports bound [] = Unit {0}
AreStatements ports bound (Read port ∷ ss) = GoesAt ports port In × AreStatements ports (bound + 1) ss
AreStatements ports bound (Write port argument ∷ ss) = GoesAt ports port Out × IsArgument bound argument × AreStatements ports bound ss

pub record IsProgram (source : Source) : Type 0 where
  pub rules : ArePorts source.ports
  pub bytes : All (λ (port : Port). port.width ≡ 1) source.ports
  pub few : length source.statements ≤ 1000
  pub statements : AreStatements source.ports 0 source.statements
