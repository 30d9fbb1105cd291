-- From what the passes over a source say to what is said of its bytes.
use Rattle.std.proofs.Common.{◌≡◌, ◌≤◌, ◌<◌, ℕ, List, length, codes, sym, ap, subst, arith}
use Rattle.std.specs.Prelude.{Result, Ok, Err}
use Rattle.hb_base.specs.Names.{fixed_names}
use Rattle.hb_base.specs.declared.place.Place.{Place}
use Rattle.hb_base.specs.declared.refusal.Code.TheVariants.{E05, E30}
use Rattle.hb_base.specs.declared.refusal.Refusal.{Refusal}
use Rattle.hb_base.specs.declared.refusal.Fault.{Fault}
use Rattle.hb_base.specs.declared.refusal.Fault.TheVariants as fault
use Rattle.hb_base.specs.Faults.{IfRefused}
use Rattle.hb_tree.specs.declared.declaration.Program.{Program}
use Rattle.hb_lex.specs.Bytes.{first_place, place_after}
use Rattle.hb_front.specs.Front.{SpellsProgram, FirstFault}
use Rattle.hb_second.specs.declared.source.Source.{Source}
use Rattle.hb_second.specs.Form.{IsForm}
use Rattle.hb_second.specs.declared.reading.FormError.{FormError}
use Rattle.hb_second.specs.declared.reading.FormError.TheVariants.{Form}
use Rattle.hb_second.specs.Wrong.{FirstWrong, IfForm}
use Rattle.hb_top.specs.declared.failure.Failure.{Failure}
use Rattle.hb_top.specs.declared.failure.Failure.TheVariants.{Words, Refused, Script, Image as ImageRefused, Read, Write, Memory}
use Rattle.hb_top.specs.Sources.{most_bytes, Accepts, Breaks, too_long, no_program, other_form, Refuses}
use Rattle.hb_top.specs.Steps.{failure_of, IsOtherForm, JudgesForm, JudgesSource}

-- the program is the only one that the bytes spell
abbrev pub IsOnly : List ℕ → List (List ℕ) → Program → Type 0
IsOnly bytes names program = (table : List (List ℕ)) (p : Program) → SpellsProgram fixed_names bytes table p → (program ≡ p) × (names ≡ table)

pub same_form : {bytes : List ℕ} {names : List (List ℕ)} {program : Program} → IsOnly bytes names program → (source : Source) → Accepts bytes source → IsForm names program source
same_form {names} {program} only source a =
    let same = only a.names a.program a.spelled in
    subst (λ (p : Program). IsForm names p source) (sym same.0) (subst (λ table. IsForm table a.program source) (sym same.1) a.form)

refused_form : {bytes : List ℕ} {names : List (List ℕ)} {program : Program} {refusal : Refusal} → length bytes ≤ most_bytes → SpellsProgram fixed_names bytes names program → IsOnly bytes names program → IsOtherForm names program (place_after first_place bytes) refusal → Refuses bytes refusal
refused_form {bytes} {names} {program} short spelled only other = record {
  nothing = λ source accepted. other.nothing source (same_form only source accepted);
  first = subst (Breaks bytes) (sym other.is) (other_form other.place names program short spelled other.first);
}

pub form_judged : (bytes : List ℕ) (names : List (List ℕ)) (program : Program) (result : Result Source Failure) → length bytes ≤ most_bytes → SpellsProgram fixed_names bytes names program → IsOnly bytes names program → JudgesForm names program (place_after first_place bytes) result → JudgesSource bytes result
form_judged bytes names program (Ok source) short spelled only form = record { short = short; names = names; program = program; spelled = spelled; form = form }
form_judged bytes names program (Err (Refused refusal)) short spelled only other = refused_form short spelled only other
form_judged bytes names program (Err Memory) short spelled only form = tt
form_judged bytes names program (Err Words) short spelled only form = form
form_judged bytes names program (Err (Script number)) short spelled only form = form
form_judged bytes names program (Err (ImageRefused image)) short spelled only form = form
form_judged bytes names program (Err Read) short spelled only form = form
form_judged bytes names program (Err Write) short spelled only form = form

not_memory : {refusal : Refusal} → fault.Refused refusal ≡ fault.Memory → ⊥
not_memory e = cc

pub fault_judged : (bytes : List ℕ) (f : Fault) → length bytes ≤ most_bytes → IfRefused (FirstFault fixed_names bytes) f → ((table : List (List ℕ)) (p : Program) → SpellsProgram fixed_names bytes table p → f ≡ fault.Memory) → JudgesSource bytes (Err (failure_of f))
fault_judged bytes (fault.Refused refusal) short first only = record {
  nothing = λ source accepted. not_memory (only accepted.names accepted.program accepted.spelled);
  first = no_program short first;
}
fault_judged bytes fault.Memory short first only = tt

pub long_judged : (bytes : List ℕ) (f : Fault) → most_bytes < length bytes → IfRefused (λ refusal. refusal ≡ record { code = E30; place = record { line = 1; col = 1 }; detail = codes "-" }) f → JudgesSource bytes (Err (failure_of f))
long_judged bytes (fault.Refused refusal) long is = record {
  nothing = λ source accepted. omega (arith, long, accepted.short);
  first = subst (Breaks bytes) (sym is) (too_long long);
}
long_judged bytes fault.Memory long is = tt

pub form_refused : (names : List (List ℕ)) (program : Program) (end place : Place) (error : FormError) (f : Fault) → error ≡ Form place → IfForm (λ place. (source : Source) → ¬ IsForm names program source) error → IfForm (λ place. FirstWrong names program end place) error → IfRefused (λ refusal. refusal ≡ record { code = E05; place = place; detail = codes "form" }) f → JudgesForm names program end (Err (failure_of f))
form_refused names program end place error (fault.Refused refusal) e nothing first is = record {
  nothing = subst (IfForm (λ place. (source : Source) → ¬ IsForm names program source)) e nothing;
  place = place;
  first = subst (IfForm (λ place. FirstWrong names program end place)) e first;
  is = is;
}
form_refused names program end place error fault.Memory e nothing first is = tt
