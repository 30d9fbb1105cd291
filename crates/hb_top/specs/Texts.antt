-- The lines that are put, each ended by a line feed.
use Rattle.std.specs.Prelude.{ℕ, zero, suc, List, [], ◌∷◌, ◌++◌, codes, decimal}
use Rattle.hb_image.specs.declared.image.Image.{Image}
use Rattle.hb_image.specs.declared.fault.Field.{Field}
use Rattle.hb_image.specs.declared.fault.Field.TheVariants.{Magic, Version, Ports, Areas, Stack as StackField, Code as CodeField, Kind, Width, Length, Address, Name, Words as WordsField, Tail}
use Rattle.hb_base.specs.declared.script.ScriptLine.{ScriptLine}
use Rattle.hb_base.specs.declared.place.Place.{Place}
use Rattle.hb_base.specs.declared.step.Stop.{Stop}
use Rattle.hb_base.specs.declared.step.Stop.TheVariants.{Done, Halt, Stack, InputEnd, Steps, Illegal, Misaligned, Unmapped, Break, Sink}
use Rattle.hb_runs.specs.Stepping.{after}
use Rattle.hb_script.specs.Lines.{lines_of}
use Rattle.hb_script.specs.Ends.{end_of}
use Rattle.hb_mach.specs.State.{State, start}
use Rattle.hb_mach.specs.Table.{table}
use Rattle.hb_mach.specs.Run.{shown, stop_of}
use Rattle.hb_base.specs.declared.refusal.Refusal.{Refusal}
use Rattle.hb_base.specs.declared.refusal.Code.{Code}
use Rattle.hb_base.specs.declared.refusal.Code.TheVariants.{E01, E02, E03, E04, E05, E06, E07, E08, E09, E10, E11, E12, E13, E14, E15, E16, E17, E18, E19, E20, E21, E22, E23, E24, E25, E26, E27, E28, E29, E30}
use Rattle.hb_top.specs.declared.failure.NoImage.{NoImage}
use Rattle.hb_top.specs.declared.failure.NoImage.TheVariants.{Short, Bad}
use Rattle.hb_top.specs.declared.failure.Failure.{Failure}
use Rattle.hb_top.specs.declared.failure.Failure.TheVariants.{Words, Refused, Script, Image as ImageRefused, Read, Write, Memory}

-- ---- failures

-- the line and the column
abbrev pub place_text : Place → List ℕ
place_text place = decimal place.line ++ 58 ∷ decimal place.col

abbrev pub code_name : Code → List ℕ
code_name E01 = codes "E01"
code_name E02 = codes "E02"
code_name E03 = codes "E03"
code_name E04 = codes "E04"
code_name E05 = codes "E05"
code_name E06 = codes "E06"
code_name E07 = codes "E07"
code_name E08 = codes "E08"
code_name E09 = codes "E09"
code_name E10 = codes "E10"
code_name E11 = codes "E11"
code_name E12 = codes "E12"
code_name E13 = codes "E13"
code_name E14 = codes "E14"
code_name E15 = codes "E15"
code_name E16 = codes "E16"
code_name E17 = codes "E17"
code_name E18 = codes "E18"
code_name E19 = codes "E19"
code_name E20 = codes "E20"
code_name E21 = codes "E21"
code_name E22 = codes "E22"
code_name E23 = codes "E23"
code_name E24 = codes "E24"
code_name E25 = codes "E25"
code_name E26 = codes "E26"
code_name E27 = codes "E27"
code_name E28 = codes "E28"
code_name E29 = codes "E29"
code_name E30 = codes "E30"

-- the line of a refusal up to its detail, and the whole of it
abbrev pub refusal_head : Refusal → List ℕ
refusal_head r = codes "refused " ++ (code_name r.code ++ (32 ∷ (place_text r.place ++ (32 ∷ []))))

abbrev pub refusal_line : Refusal → List ℕ
refusal_line r = refusal_head r ++ (r.detail ++ 10 ∷ [])

-- the name of a field of an image
abbrev pub field_name : Field → List ℕ
field_name Magic = codes "magic"
field_name Version = codes "version"
field_name Ports = codes "ports"
field_name Areas = codes "areas"
field_name StackField = codes "stack"
field_name CodeField = codes "code"
field_name Kind = codes "kind"
field_name Width = codes "width"
field_name Length = codes "length"
field_name Address = codes "address"
field_name Name = codes "name"
field_name WordsField = codes "words"
field_name Tail = codes "tail"

abbrev pub no_image_name : NoImage → List ℕ
no_image_name Short = codes "short"
no_image_name (Bad field) = field_name field

-- the line of a failure; for want of memory there is none
abbrev pub line_of : Failure → List ℕ
line_of Words = codes "words refused" ++ 10 ∷ []
line_of (Refused refusal) = refusal_line refusal
line_of (Script number) = codes "script refused " ++ decimal number ++ 10 ∷ []
line_of (ImageRefused fault) = codes "image refused " ++ no_image_name fault ++ 10 ∷ []
line_of Read = codes "read fault" ++ 10 ∷ []
line_of Write = codes "write fault" ++ 10 ∷ []
line_of Memory = []

abbrev pub status_of_failure : Failure → ℕ
status_of_failure Words = 2
status_of_failure (Refused refusal) = 1
status_of_failure (Script number) = 3
status_of_failure (ImageRefused fault) = 10
status_of_failure Read = 4
status_of_failure Write = 5
status_of_failure Memory = 12

-- ---- runs

-- how the machine stands after so many steps from a state
abbrev pub stop_after : State → ℕ → Stop
stop_after state steps = stop_of (shown state steps).end

-- the text of a run of so many steps: a line for each port event, and the end with the number of steps done
unfoldable pub text_from : State → ℕ → List ℕ
text_from state steps =
    lines_of state.ports (shown state steps).trace ++ end_of state.ports (stop_after state steps) (after table steps state).done

unfoldable pub text_of : Image → List ScriptLine → ℕ → List ℕ
text_of image inputs steps = text_from (start image inputs) steps

-- what a program ends with when its run ends so
abbrev pub status_of : Stop → ℕ
status_of Done = 0
status_of (Halt zero) = 0
status_of (Halt (suc code)) = 6
status_of Stack = 7
status_of (InputEnd port) = 8
status_of Steps = 9
status_of Illegal = 11
status_of Misaligned = 11
status_of Unmapped = 11
status_of Break = 11
status_of Sink = 5
