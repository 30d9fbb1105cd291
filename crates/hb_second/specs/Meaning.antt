-- What a source of the second form means, step by step. The first step calls `main`, the second runs its `do`. Then
-- each run of a read or a write is a step, and so is an operator before its statement's run; after the last
-- statement comes the end.
use Rattle.std.specs.Prelude.{ℕ, zero, suc, ◌+◌, ◌-◌, ◌%◌, List, [], ◌∷◌, ◌++◌, slice_index, Some, None, bit_and, bit_or, bit_xor}
use Rattle.hb_base.specs.declared.script.ScriptLine.{ScriptLine}
use Rattle.hb_base.specs.declared.step.Step.{Step}
use Rattle.hb_base.specs.declared.step.Step.TheVariants.{Read as ShowsRead, Wrote}
use Rattle.hb_base.specs.declared.step.Stop.{Stop}
use Rattle.hb_base.specs.declared.step.Stop.TheVariants.{Done, InputEnd}
use Rattle.hb_runs.specs.Outcome.{Outcome, nothing_yet}
use Rattle.hb_second.specs.declared.source.Atom.{Atom}
use Rattle.hb_second.specs.declared.source.Atom.TheVariants.{Literal, Variable}
use Rattle.hb_second.specs.declared.source.Operator.{Operator}
use Rattle.hb_second.specs.declared.source.Operator.TheVariants.{Add, Sub, And, Or, Xor}
use Rattle.hb_second.specs.declared.source.Argument.TheVariants.{Atom as OneAtom, Operation}
use Rattle.hb_second.specs.declared.source.Statement.{Statement}
use Rattle.hb_second.specs.declared.source.Statement.TheVariants.{Read, Write}
use Rattle.hb_second.specs.declared.source.Source.{Source}
use Rattle.hb_base.specs.Inputs.{first_value, without_first}

-- on eight bits: sums and differences wrap
abbrev pub operate : Operator → ℕ → ℕ → ℕ
operate Add a b = (a + b) % 256
operate Sub a b = (a + (256 - b)) % 256
operate And a b = bit_and a b
operate Or a b = bit_or a b
operate Xor a b = bit_xor a b

-- the byte of an atom, by the variables' values
abbrev pub value : List ℕ → Atom → ℕ
value values (Literal byte) = byte
value values (Variable number) = slice_index values number

abbrev pub ended : Stop → Outcome Step Stop
ended stop = record { trace = []; end = Some stop }

-- an event, and what is shown after it
abbrev pub after_event : Step → Outcome Step Stop → Outcome Step Stop
after_event event outcome = record { trace = event ∷ outcome.trace; end = outcome.end }

-- what so many steps of these statements show, by the variables' values and the lines that are left
unfoldable pub goes : ℕ → List Statement → List ℕ → List ScriptLine → Outcome Step Stop
goes zero ss values lines = nothing_yet
goes (suc n) [] values lines = ended Done
goes (suc n) (Read port ∷ ss) values lines =
    elim (first_value port lines) [
      | None ↦ ended (InputEnd port)
      | Some v ↦ after_event (ShowsRead port v) (goes n ss (values ++ v ∷ []) (without_first port lines))
    ]
goes (suc n) (Write port (OneAtom a) ∷ ss) values lines = after_event (Wrote port (value values a)) (goes n ss values lines)
goes (suc n) (Write port (Operation a operator b) ∷ ss) values lines =
    goes n (Write port (OneAtom (Literal (operate operator (value values a) (value values b)))) ∷ ss) values lines

-- what so many steps show
unfoldable pub says : Source → List ScriptLine → ℕ → Outcome Step Stop
says source lines steps = goes (steps - 2) source.statements [] lines
