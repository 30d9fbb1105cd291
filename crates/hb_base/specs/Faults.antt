-- What is said of a fault.
use Rattle.hb_base.specs.declared.refusal.Refusal.{Refusal}
use Rattle.hb_base.specs.declared.refusal.Fault.{Fault}
use Rattle.hb_base.specs.declared.refusal.Fault.TheVariants.{Refused, Memory}

-- a fact of the refusal, where memory did not run out
abbrev pub IfRefused : (Refusal → Type 0) → Fault → Type 0
IfRefused P (Refused refusal) = P refusal
IfRefused P Memory = Unit {0}
