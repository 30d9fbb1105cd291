-- What the lines that wait are: inputs of their ports.
use Rattle.std.proofs.Common.{◌⊎◌, inl, inr, ◌≡◌, ℕ, ◌*◌, ◌^◌, ◌<◌, Bool, true, false, ◌==◌, if◌then◌else◌, List, [], ◌∷◌, slice_get, Option, Some, None, IsSomeAnd}
use Rattle.std.proofs.lemmas.Bool.{cases_Bool, eqb-true}
use Rattle.std.proofs.lemmas.List.Elements.{All-head, All-tail, All-cons}
use Rattle.hb_base.specs.declared.port.Dir.TheVariants.{In}
use Rattle.hb_base.specs.declared.port.Port.{Port}
use Rattle.hb_base.specs.declared.script.ScriptLine.{ScriptLine}
use Rattle.hb_base.specs.Inputs.{IsInput, AreInputs, first_value, without_first}

-- the port is there, and the value has its width
abbrev FitsPort : List Port → ℕ → ℕ → Type 0
FitsPort ports port value = IsSomeAnd (slice_get ports port) (λ p. value < 2 ^ (8 * p.width))

event-input : (ports : List Port) (line : ScriptLine) → IsInput ports line → FitsPort ports line.port line.value
event-input ports line input = at (slice_get ports line.port) input
  where
    at : (o : Option Port) → IsSomeAnd o (λ port. (port.dir ≡ In) × (line.value < 2 ^ (8 * port.width))) → IsSomeAnd o (λ port. line.value < 2 ^ (8 * port.width))
    at None h = h
    at (Some port) h = h.1

some_number : (a b : ℕ) → Some a ≡ Some b → a ≡ b
some_number a b e = cc

no_number : (a : ℕ) → None ≡ Some a → ⊥
no_number a e = cc

-- the line that a port takes first is an input of that port
pub first_value-fits : (ports : List Port) (lines : List ScriptLine) (port value : ℕ) → AreInputs ports lines → first_value port lines ≡ Some value → FitsPort ports port value
first_value-fits ports [] port value inputs e = absurd (no_number value e)
first_value-fits ports (line ∷ lines) port value inputs whole =
    by_port (λ e. first_value-fits ports lines port value (All-tail (IsInput ports) line lines inputs) e) (cases_Bool (line.port == port)) whole
  where
    by_port : (first_value port lines ≡ Some value → FitsPort ports port value) → ((line.port == port) ≡ true) ⊎ ((line.port == port) ≡ false)
        → (if line.port == port then Some line.value else first_value port lines) ≡ Some value → FitsPort ports port value
    by_port later (inl met) e =
        let same : line.value ≡ value = some_number _ _ (rw met at e) in
        let is_port : line.port ≡ port = eqb-true line.port port met in
        let found : FitsPort ports line.port line.value = event-input ports line (All-head (IsInput ports) line lines inputs) in
        rw (← same, ← is_port) found
    by_port later (inr other) e = later (rw other at e)

pub AreInputs-without_first : (ports : List Port) (lines : List ScriptLine) (port : ℕ) → AreInputs ports lines → AreInputs ports (without_first port lines)
AreInputs-without_first ports [] port inputs = inputs
AreInputs-without_first ports (line ∷ lines) port inputs =
    let others = All-tail (IsInput ports) line lines inputs in
    either (line.port == port) (AreInputs-without_first ports lines port others)
  where
    either : (b : Bool) → AreInputs ports (without_first port lines) → AreInputs ports (if b then lines else line ∷ without_first port lines)
    either true later = All-tail (IsInput ports) line lines inputs
    either false later = All-cons (IsInput ports) line (without_first port lines) (All-head (IsInput ports) line lines inputs) later
