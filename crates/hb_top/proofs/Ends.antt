-- A source ends by being done or where its input ends, and in no other way.
use Rattle.std.proofs.Common.{◌≡◌, ◌⊎◌, inl, inr, ℕ, zero, suc, ◌-◌, List, [], ◌∷◌, ◌++◌, Option, Some, None}
use Rattle.hb_base.specs.Inputs.{first_value, without_first}
use Rattle.hb_base.specs.declared.script.ScriptLine.{ScriptLine}
use Rattle.hb_base.specs.declared.step.Step.{Step}
use Rattle.hb_base.specs.declared.step.Step.TheVariants.{Read as ShowsRead}
use Rattle.hb_base.specs.declared.step.Stop.{Stop}
use Rattle.hb_base.specs.declared.step.Stop.TheVariants.{Done, Halt, Stack, InputEnd, Steps, Illegal, Misaligned, Unmapped, Break, Sink}
use Rattle.hb_mach.specs.Run.{stop_of}
use Rattle.hb_runs.specs.Outcome.{Outcome}
use Rattle.hb_second.specs.Meaning.{goes, says, ended, after_event, operate, value}
use Rattle.hb_second.specs.declared.source.Argument.TheVariants.{Atom as OneAtom, Operation}
use Rattle.hb_second.specs.declared.source.Atom.TheVariants.{Literal}
use Rattle.hb_second.specs.declared.source.Source.{Source}
use Rattle.hb_second.specs.declared.source.Statement.{Statement}
use Rattle.hb_second.specs.declared.source.Statement.TheVariants.{Read, Write}
use Rattle.hb_top.specs.Texts.{status_of}

-- an end of a source, or none yet
abbrev pub IsSourceEnd : Option Stop → Type 0
IsSourceEnd None = Unit {0}
IsSourceEnd (Some Done) = Unit {0}
IsSourceEnd (Some (Halt code)) = ⊥
IsSourceEnd (Some Stack) = ⊥
IsSourceEnd (Some (InputEnd port)) = Unit {0}
IsSourceEnd (Some Steps) = ⊥
IsSourceEnd (Some Illegal) = ⊥
IsSourceEnd (Some Misaligned) = ⊥
IsSourceEnd (Some Unmapped) = ⊥
IsSourceEnd (Some Break) = ⊥
IsSourceEnd (Some Sink) = ⊥

-- by the line that is read
read_ends : (n port : ℕ) (ss : List Statement) (values : List ℕ) (lines : List ScriptLine) → ((v : ℕ) → IsSourceEnd (goes n ss (values ++ v ∷ []) (without_first port lines)).end) → (o : Option ℕ)
    → IsSourceEnd (elim o as (λ _. Outcome Step Stop) [ None ↦ ended (InputEnd port) | Some v ↦ after_event (ShowsRead port v) (goes n ss (values ++ v ∷ []) (without_first port lines)) ]).end
read_ends n port ss values lines go None = tt
read_ends n port ss values lines go (Some v) = go v

goes_ends : (n : ℕ) (ss : List Statement) (values : List ℕ) (lines : List ScriptLine) → IsSourceEnd (goes n ss values lines).end
unfolding goes
goes_ends zero ss values lines = tt
goes_ends (suc n) [] values lines = tt
goes_ends (suc n) (Read port ∷ ss) values lines = read_ends n port ss values lines (λ v. goes_ends n ss (values ++ v ∷ []) (without_first port lines)) (first_value port lines)
goes_ends (suc n) (Write port (OneAtom a) ∷ ss) values lines = goes_ends n ss values lines
goes_ends (suc n) (Write port (Operation a o b) ∷ ss) values lines = goes_ends n (Write port (OneAtom (Literal (operate o (value values a) (value values b)))) ∷ ss) values lines

pub says_ends : (source : Source) (inputs : List ScriptLine) (count : ℕ) → IsSourceEnd (says source inputs count).end
unfolding says
says_ends source inputs count = goes_ends (count - 2) source.statements [] inputs

pub which : (end : Option Stop) → IsSourceEnd end → (status : ℕ) → status ≡ status_of (stop_of end) → (status ≡ 0) ⊎ ((status ≡ 8) ⊎ (status ≡ 9))
which None fits status e = inr (inr e)
which (Some Done) fits status e = inl e
which (Some (Halt code)) fits status e = absurd fits
which (Some Stack) fits status e = absurd fits
which (Some (InputEnd port)) fits status e = inr (inl e)
which (Some Steps) fits status e = absurd fits
which (Some Illegal) fits status e = absurd fits
which (Some Misaligned) fits status e = absurd fits
which (Some Unmapped) fits status e = absurd fits
which (Some Break) fits status e = absurd fits
which (Some Sink) fits status e = absurd fits
