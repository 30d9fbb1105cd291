-- Where the functions and actions of a closure class begin.
use Rattle.std.specs.Prelude.{ℕ, ◌==◌, ◌-◌, ◌&&◌, nat_lt, Bool, true, false, cond, List, [], ◌∷◌, ◌++◌, length, slice_get, position, Option, Some, None, option_map, option_and_then}
use Rattle.hb_values.specs.declared.class.Member.{Member}
use Rattle.hb_values.specs.declared.class.Member.TheVariants.{Body, Primitive, Constructor}
use Rattle.hb_values.specs.declared.class.Label.{Label}
use Rattle.hb_values.specs.declared.form.ValueForm.{ValueForm}
use Rattle.hb_values.specs.declared.form.ValueForm.TheVariants.{Arrow, Action}
use Rattle.hb_mil.specs.declared.form.Atom.{Atom}
use Rattle.hb_mil.specs.declared.form.Atom.TheVariants as atom
use Rattle.hb_mil.specs.declared.form.Step.{Step}
use Rattle.hb_mil.specs.declared.form.Block.{Block}
use Rattle.hb_mil.specs.declared.form.Mil.{Mil}
use Rattle.hb_mil_meaning.specs.Values.{Val, Closed, listed}
use Rattle.hb_mil_meaning.specs.Operations.{value, values}
use Rattle.hb_mil_meaning.specs.States.{Call, Entry}

-- ---- labels of a value

abbrev pub same_member : Member → Member → Bool
same_member (Body i) (Body j) = i == j
same_member (Primitive i) (Primitive j) = i == j
same_member (Constructor i) (Constructor j) = i == j
same_member a b = false

abbrev pub same_numbers : List ℕ → List ℕ → Bool
same_numbers [] [] = true
same_numbers (x ∷ xs) (y ∷ ys) = (x == y) && same_numbers xs ys
same_numbers xs ys = false

-- the label has the member and the numbers, and captures so many
abbrev pub is_label : Member → List ℕ → ℕ → Label → Bool
is_label member numbers count label = same_member label.member member && same_numbers label.numbers numbers && (length label.captures == count)

-- ---- classes of functions and actions

-- the type of a local: parameters come first, then what the steps give
abbrev pub local_type : Block → ℕ → Option ℕ
local_type block n =
    cond (nat_lt n (length block.params)) (slice_get block.params n) (option_map (λ (step : Step). step.of) (slice_get block.steps (n - length block.params)))

abbrev pub form_of : Mil → Block → Atom → Option ValueForm
form_of mil block (atom.Local n) = option_and_then (slice_get mil.types.forms) (local_type block n)
form_of mil block a = None

abbrev pub function_class : ValueForm → Option ℕ
function_class (Arrow class takes result) = Some class
function_class form = None

abbrev pub action_class : ValueForm → Option ℕ
action_class (Action class result) = Some class
action_class form = None

-- ---- entries

abbrev pub entry : Option Block → Option (List Val) → Option Entry
entry (Some block) (Some arguments) = Some (record { block = block; arguments = arguments })
entry block arguments = None

-- the number of the block at which the label of this number begins
abbrev pub label_begins : Mil → ℕ → ℕ → Option ℕ
label_begins mil class label = option_and_then (λ numbers. slice_get numbers label) (slice_get mil.labels class)

-- the block at which a label of a class begins
abbrev pub label_block : Mil → ℕ → Member → List ℕ → ℕ → Option Block
label_block mil class member numbers count =
    option_and_then (slice_get mil.blocks)
    (option_and_then (label_begins mil class)
    (option_and_then (λ c. position (is_label member numbers count) c.labels) (slice_get mil.classes class)))

-- a function or an action of a class begins with what it has captured, and these behind it
abbrev pub begins : Mil → ℕ → List Val → Val → Option Entry
begins mil class more (Closed member numbers captured) =
    entry (label_block mil class member numbers (length (listed captured))) (Some (listed captured ++ more))
begins mil class more v = None

abbrev pub begins_in : Option ℕ → Option (List Val) → Option Val → Mil → Option Entry
begins_in (Some class) (Some more) (Some f) mil = begins mil class more f
begins_in class more f mil = None

-- the block at which the application of a function begins, and the run of an action
abbrev pub applied : Mil → Call → Atom → Atom → Option Entry
applied mil call f a = begins_in (option_and_then function_class (form_of mil call.block f)) (values call.locals (a ∷ [])) (value call.locals f) mil

abbrev pub performed : Mil → Call → Atom → Option Entry
performed mil call f = begins_in (option_and_then action_class (form_of mil call.block f)) (Some []) (value call.locals f) mil
