-- Which bytes are accepted as a source, and why others are refused.
use Rattle.std.specs.Prelude.{ℕ, ◌<◌, ◌≤◌, List, length, codes}
use Rattle.hb_base.specs.Names.{fixed_names}
use Rattle.hb_base.specs.declared.place.Place.{Place}
use Rattle.hb_base.specs.declared.refusal.Refusal.{Refusal}
use Rattle.hb_base.specs.declared.refusal.Code.TheVariants.{E05, E30}
use Rattle.hb_tree.specs.declared.declaration.Program.{Program}
use Rattle.hb_lex.specs.Bytes.{first_place, place_after}
use Rattle.hb_front.specs.Front.{SpellsProgram, FirstFault}
use Rattle.hb_second.specs.declared.source.Source.{Source}
use Rattle.hb_second.specs.Form.{IsForm}
use Rattle.hb_second.specs.Wrong.{FirstWrong}

-- the most bytes of a source
abbrev pub most_bytes : ℕ
most_bytes = 1048576

-- the bytes spell a program, and the program is this source
pub record Accepts (bytes : List ℕ) (source : Source) : Type 0 where
  pub short : length bytes ≤ most_bytes
  pub names : List (List ℕ)
  pub program : Program
  pub spelled : SpellsProgram fixed_names bytes names program
  pub form : IsForm names program source

-- the first rule that the bytes break: there are too many; they spell no program; or the program is not of the form that is
-- compiled today, first at this place
pub data Breaks (bytes : List ℕ) : Refusal → Type 0 where
  too_long : most_bytes < length bytes → Breaks bytes (record { code = E30; place = record { line = 1; col = 1 }; detail = codes "-" })
  no_program : {refusal : Refusal} → length bytes ≤ most_bytes → FirstFault fixed_names bytes refusal → Breaks bytes refusal
  other_form : (place : Place) (names : List (List ℕ)) (program : Program) → length bytes ≤ most_bytes → SpellsProgram fixed_names bytes names program → FirstWrong names program (place_after first_place bytes) place → Breaks bytes (record { code = E05; place = place; detail = codes "form" })

-- the bytes are no source, and this is the first rule that they break
pub record Refuses (bytes : List ℕ) (refusal : Refusal) : Type 0 where
  pub nothing : (source : Source) → ¬ Accepts bytes source
  pub first : Breaks bytes refusal
