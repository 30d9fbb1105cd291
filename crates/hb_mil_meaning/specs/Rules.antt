-- The rules that a block program keeps.
use Rattle.std.specs.Prelude.{◌≡◌, ℕ, ◌^◌, ◌<◌, ◌≤◌, ◌⊎◌, IsTrue, IsFalse, List, [], ◌∷◌, ◌++◌, map, take, length, slice_get, All, AllPairs, Option, Some, None, IsSomeAnd, option_to_list}
use Rattle.hb_values.specs.declared.class.Class.{Class}
use Rattle.hb_values.specs.declared.class.Label.{Label}
use Rattle.hb_values.specs.declared.form.ValueForm.{ValueForm}
use Rattle.hb_values.specs.declared.form.ValueForm.TheVariants.{Word, Data, Arrow, Action, Nothing}
use Rattle.hb_mil.specs.declared.form.Atom.{Atom}
use Rattle.hb_mil.specs.declared.form.Atom.TheVariants as atom
use Rattle.hb_mil.specs.declared.form.Operation.{Operation}
use Rattle.hb_mil.specs.declared.form.Operation.TheVariants.{Make, Build, Call, Apply, Perform}
use Rattle.hb_mil.specs.declared.form.Step.{Step}
use Rattle.hb_mil.specs.declared.form.Tail.{Tail}
use Rattle.hb_mil.specs.declared.form.Tail.TheVariants.{Return, Jump, Enter, Run, Switch, Goto}
use Rattle.hb_mil.specs.declared.form.Block.{Block}
use Rattle.hb_mil.specs.declared.form.Mil.{Mil}
use Rattle.hb_mil_meaning.specs.Labels.{is_label}

-- ---- types of atoms

abbrev pub IsForm : (ValueForm → Type 0) → Mil → ℕ → Type 0
IsForm Has mil of = IsSomeAnd (slice_get mil.types.forms of) Has

abbrev pub IsWord : ValueForm → Type 0
IsWord (Word count) = Unit {0}
IsWord form = ⊥

abbrev pub IsNothing : ValueForm → Type 0
IsNothing Nothing = Unit {0}
IsNothing form = ⊥

-- over the types of the locals, an atom has this type
abbrev pub HasType : Mil → List ℕ → Atom → ℕ → Type 0
HasType mil types (atom.Local n) of = slice_get types n ≡ Some of
HasType mil types (atom.Number n) of = IsForm IsWord mil of × (n < 2 ^ 32)
HasType mil types (atom.Area n) of = IsForm IsWord mil of
HasType mil types (atom.Port n) of = IsForm IsWord mil of

abbrev pub HaveTypes : Mil → List ℕ → List Atom → List ℕ → Type 0
HaveTypes mil types [] [] = Unit {0}
HaveTypes mil types (a ∷ atoms) (of ∷ more) = HasType mil types a of × HaveTypes mil types atoms more
HaveTypes mil types atoms more = ⊥

-- a step keeps what is given, or drops it
abbrev pub Keeps : Mil → ℕ → ℕ → Type 0
Keeps mil given of = (of ≡ given) ⊎ IsForm IsNothing mil of

-- ---- steps

-- a block that begins, with these arguments
abbrev pub Begins : Mil → List ℕ → List Atom → (ℕ → Type 0) → Block → Type 0
Begins mil types atoms Gives block = IsTrue block.begins × HaveTypes mil types atoms block.params × Gives block.result

abbrev pub IsRow : Mil → List ℕ → ℕ → List Atom → ValueForm → Type 0
IsRow mil types constructor atoms (Data rows) = IsSomeAnd (slice_get rows constructor) (HaveTypes mil types atoms)
IsRow mil types constructor atoms form = ⊥

abbrev pub IsOfClass : ℕ → ValueForm → Type 0
IsOfClass class (Arrow c takes result) = c ≡ class
IsOfClass class (Action c result) = c ≡ class
IsOfClass class form = ⊥

abbrev pub HasLabel : Mil → List ℕ → ℕ → List Atom → Class → Type 0
HasLabel mil types label atoms class = IsSomeAnd (slice_get class.labels label) (λ l. HaveTypes mil types atoms l.captures)

abbrev pub Takes : Mil → List ℕ → Atom → (ℕ → Type 0) → ValueForm → Type 0
Takes mil types a Gives (Arrow class takes result) = HasType mil types a takes × Gives result
Takes mil types a Gives form = ⊥

abbrev pub Runs : (ℕ → Type 0) → ValueForm → Type 0
Runs Gives (Action class result) = Gives result
Runs Gives form = ⊥

-- a local has a form
abbrev pub IsLocal : Mil → List ℕ → (ValueForm → Type 0) → Atom → Type 0
IsLocal mil types Has (atom.Local n) = IsSomeAnd (slice_get types n) (IsForm Has mil)
IsLocal mil types Has a = ⊥

-- data, functions, actions and calls, over the types of the locals so far; of the other operations nothing is asked here
abbrev pub IsOperation : Mil → List ℕ → Operation → ℕ → Type 0
IsOperation mil types (Make class label atoms) of = IsForm (IsOfClass class) mil of × IsSomeAnd (slice_get mil.classes class) (HasLabel mil types label atoms)
IsOperation mil types (Build constructor atoms) of = IsForm (IsRow mil types constructor atoms) mil of
IsOperation mil types (Call block atoms) of = IsSomeAnd (slice_get mil.blocks block) (Begins mil types atoms (λ given. Keeps mil given of))
IsOperation mil types (Apply f a) of = IsLocal mil types (Takes mil types a (λ given. Keeps mil given of)) f
IsOperation mil types (Perform f) of = IsLocal mil types (Runs (λ given. Keeps mil given of)) f
IsOperation mil types operation of = Unit {0}

abbrev pub AreSteps : Mil → List ℕ → List Step → Type 0
AreSteps mil types [] = Unit {0}
AreSteps mil types (step ∷ steps) = IsOperation mil types step.operation step.of × AreSteps mil (types ++ step.of ∷ []) steps

-- ---- tails

abbrev pub local_types : Block → List ℕ
local_types block = block.params ++ map (λ (step : Step). step.of) block.steps

-- another block of the same body, with these parameters
pub record IsNext (block : Block) (params : List ℕ) (next : Block) : Type 0 where
  pub body : next.body ≡ block.body
  pub params_are : next.params ≡ params
  pub result : next.result ≡ block.result

abbrev pub IsKept : Mil → Block → ℕ → Option Atom → Block → Type 0
IsKept mil block count None next = IsNext block (take count (local_types block)) next
IsKept mil block count (Some a) next = (of : ℕ) × HasType mil (local_types block) a of × IsNext block (take count (local_types block) ++ of ∷ []) next

abbrev pub IsTail : Mil → Block → Tail → Type 0
IsTail mil block (Return a) = HasType mil (local_types block) a block.result
IsTail mil block (Jump n atoms) = IsSomeAnd (slice_get mil.blocks n) (Begins mil (local_types block) atoms (λ given. given ≡ block.result))
IsTail mil block (Enter f a) = IsLocal mil (local_types block) (Takes mil (local_types block) a (λ given. given ≡ block.result)) f
IsTail mil block (Run f) = IsLocal mil (local_types block) (Runs (λ given. given ≡ block.result)) f
IsTail mil block (Switch a targets) = All (λ n. IsSomeAnd (slice_get mil.blocks n) (IsNext block (local_types block))) targets
IsTail mil block (Goto n count a) = (count ≤ length (local_types block)) × IsSomeAnd (slice_get mil.blocks n) (IsKept mil block count a)
IsTail mil block tail = Unit {0}

-- ---- the whole

abbrev pub HasRoom : List ℕ → Option ℕ → Type 0
HasRoom rooms None = Unit {0}
HasRoom rooms (Some body) = body < length rooms

pub record IsBlock (mil : Mil) (block : Block) : Type 0 where
  pub room : HasRoom mil.rooms block.body
  pub steps : AreSteps mil block.params block.steps
  pub tail : IsTail mil block block.tail

-- a label begins at a block whose parameters are what it has captured, and then the argument of a function
pub record IsBegin (class : Class) (label : Label) (block : Block) : Type 0 where
  pub begins : IsTrue block.begins
  pub params_are : block.params ≡ label.captures ++ option_to_list class.takes
  pub result : block.result ≡ class.gives

abbrev pub LabelsBegin : List Block → Class → List Label → List ℕ → Type 0
LabelsBegin blocks class [] [] = Unit {0}
LabelsBegin blocks class (label ∷ labels) (n ∷ numbers) = IsSomeAnd (slice_get blocks n) (IsBegin class label) × LabelsBegin blocks class labels numbers
LabelsBegin blocks class labels numbers = ⊥

abbrev pub ClassesBegin : List Block → List Class → List (List ℕ) → Type 0
ClassesBegin blocks [] [] = Unit {0}
ClassesBegin blocks (class ∷ classes) (numbers ∷ more) = LabelsBegin blocks class class.labels numbers × ClassesBegin blocks classes more
ClassesBegin blocks classes more = ⊥

-- they differ by their member, its numbers, or how many they capture
abbrev pub AreTwo : Label → Label → Type 0
AreTwo a b = IsFalse (is_label a.member a.numbers (length a.captures) b)

-- a type of functions or actions and its class take and give the same
abbrev pub IsClass : Option ℕ → ℕ → Class → Type 0
IsClass takes result class = (class.takes ≡ takes) × (class.gives ≡ result)

abbrev pub HasClass : List Class → ValueForm → Type 0
HasClass classes (Arrow class takes result) = IsSomeAnd (slice_get classes class) (IsClass (Some takes) result)
HasClass classes (Action class result) = IsSomeAnd (slice_get classes class) (IsClass None result)
HasClass classes form = Unit {0}

-- the program begins at a block of no body without parameters
pub record IsFirst (block : Block) : Type 0 where
  pub no_body : block.body ≡ None
  pub no_params : block.params ≡ []

pub record IsMil (mil : Mil) : Type 0 where
  pub types : All (HasClass mil.classes) mil.types.forms
  pub blocks : All (IsBlock mil) mil.blocks
  pub labels : ClassesBegin mil.blocks mil.classes mil.labels
  pub distinct : All (λ (class : Class). AllPairs AreTwo class.labels) mil.classes
  pub entry : IsSomeAnd (slice_get mil.blocks mil.entry) IsFirst
