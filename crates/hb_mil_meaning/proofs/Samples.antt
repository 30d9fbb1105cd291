-- The types, classes and settings that the examples share.
use Rattle.std.specs.Prelude.{ℕ, ◌==◌, ◌&&◌, true, false, cond, List, [], ◌∷◌, Option, Some, None}
use Rattle.hb_base.specs.declared.port.Port.{Port}
use Rattle.hb_base.specs.declared.port.Dir.TheVariants.{In, Out}
use Rattle.hb_base.specs.declared.script.ScriptLine.{ScriptLine}
use Rattle.hb_base.specs.declared.step.Stop.{Stop}
use Rattle.hb_area.specs.declared.form.CellForm.{CellForm}
use Rattle.hb_values.specs.declared.class.Member.TheVariants.{Body, Primitive}
use Rattle.hb_values.specs.declared.class.Class.{Class}
use Rattle.hb_values.specs.declared.form.ValueForm.{ValueForm}
use Rattle.hb_values.specs.declared.form.ValueForm.TheVariants as value_form
use Rattle.hb_mil.specs.declared.form.Operation.{Operation}
use Rattle.hb_mil.specs.declared.form.Step.{Step}
use Rattle.hb_mil.specs.declared.form.Tail.{Tail}
use Rattle.hb_mil.specs.declared.form.Block.{Block}
use Rattle.hb_mil.specs.declared.form.Mil.{Mil}
use Rattle.hb_runs.specs.Outcome.{Outcome}
use Rattle.hb_runs.specs.System.{Finished, By, Stuck}
use Rattle.hb_mil_meaning.specs.Events.{Event}
use Rattle.hb_mil_meaning.specs.States.{Setting}
use Rattle.hb_mil_meaning.specs.Meaning.{runs}

-- ---- types

-- a word, a pair of words, a truth value, a function of words, an action that gives `()`, what is dropped, and `()`
abbrev pub word : ℕ
word = 0

abbrev pub pair : ℕ
pair = 1

abbrev pub truth : ℕ
truth = 2

abbrev pub function : ℕ
function = 3

abbrev pub action : ℕ
action = 4

abbrev pub dropped : ℕ
dropped = 5

abbrev pub unit : ℕ
unit = 6

abbrev pub forms : List ValueForm
forms =
    value_form.Word 0
    ∷ value_form.Data ((word ∷ word ∷ []) ∷ [])
    ∷ value_form.Data ([] ∷ [] ∷ [])
    ∷ value_form.Arrow 0 word word
    ∷ value_form.Action 1 unit
    ∷ value_form.Nothing
    ∷ value_form.Data ([] ∷ [])
    ∷ []

-- the functions: the second body with what it has captured, and `addU` with one argument taken; the actions: a write to a
-- port, with the port and the value, and the third body with what it has captured
abbrev pub classes : List Class
classes =
    record {
      takes = Some word;
      gives = word;
      labels =
          record { member = Body 1; numbers = []; taken = 0; captures = word ∷ [] }
          ∷ record { member = Primitive 0; numbers = []; taken = 1; captures = word ∷ [] }
          ∷ [];
    }
    ∷ record {
      takes = None;
      gives = unit;
      labels =
          record { member = Primitive 35; numbers = 1 ∷ []; taken = 2; captures = word ∷ word ∷ [] }
          ∷ record { member = Body 2; numbers = []; taken = 0; captures = word ∷ [] }
          ∷ [];
    }
    ∷ []

-- ---- programs

abbrev pub step : Operation → ℕ → Step
step operation of = record { operation = operation; of = of }

-- a block of no body with which nothing begins
abbrev pub inside : List ℕ → List Step → Tail → Block
inside params steps tail = record { body = None; begins = false; params = params; steps = steps; tail = tail; result = word }

-- a block with which a body begins, and one inside of it
abbrev pub of_body : ℕ → List ℕ → List Step → Tail → Block
of_body body params steps tail = record { body = Some body; begins = true; params = params; steps = steps; tail = tail; result = word }

abbrev pub inside_of : ℕ → List ℕ → List Step → Tail → Block
inside_of body params steps tail = record { body = Some body; begins = false; params = params; steps = steps; tail = tail; result = word }

-- the labels begin at the blocks 1 to 4; each body has 16 bytes
abbrev pub program : List Block → Mil
program blocks = record {
  types = record { forms = forms; words = 1 ∷ 3 ∷ 1 ∷ 2 ∷ 3 ∷ 0 ∷ 1 ∷ [] };
  blocks = blocks;
  classes = classes;
  labels = (1 ∷ 2 ∷ []) ∷ (3 ∷ 4 ∷ []) ∷ [];
  rooms = 16 ∷ 16 ∷ 16 ∷ [];
  starts = 0 ∷ [];
  entry = 0;
}

-- ---- what it stands in

-- a port that is read and one that is written, each of one byte
abbrev pub ports : List Port
ports =
    record { name = 114 ∷ 120 ∷ []; dir = In; width = 1; address = 2147483648 }
    ∷ record { name = 116 ∷ 120 ∷ []; dir = Out; width = 1; address = 2147483649 }
    ∷ []

-- the second area has one cell, of four bytes, behind its first four
abbrev pub at_cell : Option CellForm → ℕ → ℕ → Option CellForm
at_cell form area offset = cond ((area == 1) && (offset == 4)) form None

abbrev pub setting : Option CellForm → ℕ → List Block → Setting
setting form stack blocks = record { mil = program blocks; stack = stack; ports = ports; form_at = at_cell form }

abbrev pub lines : List ℕ → List ScriptLine
lines [] = []
lines (n ∷ ns) = record { port = 0; value = n } ∷ lines ns

-- ---- outcomes

-- what a program shows whose areas have no cell
abbrev pub outcome : List Block → ℕ → List ℕ → ℕ → Outcome Event (Finished Stop)
outcome blocks stack inputs n = runs (setting None stack blocks) (lines inputs) n

abbrev pub with_cell : CellForm → List Block → ℕ → Outcome Event (Finished Stop)
with_cell form blocks n = runs (setting (Some form) 64 blocks) [] n

abbrev pub so_far : List Event → Outcome Event (Finished Stop)
so_far trace = record { trace = trace; end = None }

abbrev pub ended : List Event → Stop → Outcome Event (Finished Stop)
ended trace stop = record { trace = trace; end = Some (By stop) }

abbrev pub stuck : List Event → Outcome Event (Finished Stop)
stuck trace = record { trace = trace; end = Some Stuck }
