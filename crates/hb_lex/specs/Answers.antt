-- What an answer may be.
use Rattle.std.specs.Prelude.{◌≡◌, Result, Ok, Err}
use Rattle.hb_base.specs.declared.refusal.Refusal.{Refusal}
use Rattle.hb_base.specs.declared.refusal.Fault.{Fault}
use Rattle.hb_base.specs.declared.refusal.Fault.TheVariants.{Refused, Memory}
use Rattle.hb_tokens.specs.declared.token.Tokens.{Tokens}

-- tokens, or no memory
abbrev pub IsNotRefused : Result Tokens Fault → Type 0
IsNotRefused (Ok tokens) = Unit {0}
IsNotRefused (Err (Refused refusal)) = ⊥
IsNotRefused (Err Memory) = Unit {0}

-- this refusal, or no memory
abbrev pub IsThisRefusal : Refusal → Result Tokens Fault → Type 0
IsThisRefusal refusal (Ok tokens) = ⊥
IsThisRefusal refusal (Err (Refused other)) = other ≡ refusal
IsThisRefusal refusal (Err Memory) = Unit {0}
