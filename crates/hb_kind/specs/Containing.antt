-- Which declared types a declared type contains, and when one contains itself.
use Rattle.std.specs.Prelude.{◌≡◌, ℕ, ◌<◌, nat_eq, Bool, true, false, ◌&&◌, ◌||◌, if◌then◌else◌, List, [], ◌∷◌, ◌++◌, slice_get, Some}
use Rattle.std.specs.List.{Contains}
use Rattle.hb_base.specs.declared.name.Name.{Name}
use Rattle.hb_base.specs.declared.place.Place.{Place}
use Rattle.hb_tree.specs.Types as tree
use Rattle.hb_tree.specs.Types.{TypeExpr, AType, TypeKind}
use Rattle.hb_tree.specs.declared.declaration.DataCon.{DataCon}
use Rattle.hb_tree.specs.declared.declaration.BitPart.{BitPart}
use Rattle.hb_tree.specs.declared.declaration.BitPart.TheVariants as bit_part
use Rattle.hb_tree.specs.declared.declaration.BitCon.{BitCon}
use Rattle.hb_tree.specs.declared.declaration.StructPart.{StructPart}
use Rattle.hb_tree.specs.declared.declaration.StructPart.TheVariants as struct_part
use Rattle.hb_tree.specs.declared.declaration.Decl.{Decl}
use Rattle.hb_tree.specs.declared.declaration.Decl.TheVariants as decl

-- a type's name in a declaration, and whether it stands somewhere below a `Ref`
pub record Mention : Type 0 where
  pub name : Name
  pub under_ref : Bool

abbrev mention : Bool → ℕ → Mention
mention under name = record { name = record { 0 = name }; under_ref = under }

-- a type is the name `Ref` by itself
abbrev is_ref : TypeExpr → Bool
is_ref (AType at (tree.Con c)) = nat_eq c.0 14
is_ref t = false

abbrev mutual
  pub mentions : Bool → TypeExpr → List Mention
  mentions under (AType at t) = form_mentions under t

  pub form_mentions : Bool → TypeKind → List Mention
  form_mentions under (tree.Con c) = record { name = c; under_ref = under } ∷ []
  form_mentions under (tree.Var x) = []
  form_mentions under (tree.Number n) = []
  form_mentions under tree.Unit = mention under 23 ∷ []
  form_mentions under (tree.Pair a b) = mention under 24 ∷ (mentions under a ++ mentions under b)
  form_mentions under (tree.Apply f x) = mentions under f ++ mentions (under || is_ref f) x
  form_mentions under (tree.Arrow a b) = mentions under a ++ mentions under b
  form_mentions under (tree.Sum a b) = mentions under a ++ mentions under b

abbrev pub all_mentions : List TypeExpr → List Mention
all_mentions [] = []
all_mentions (t ∷ ts) = mentions false t ++ all_mentions ts

abbrev pub data_mentions : List DataCon → List Mention
data_mentions [] = []
data_mentions (c ∷ cs) = all_mentions c.args ++ data_mentions cs

abbrev pub bit_part_mentions : List BitPart → List Mention
bit_part_mentions [] = []
bit_part_mentions (bit_part.Tag width k ∷ ps) = bit_part_mentions ps
bit_part_mentions (bit_part.Fields f ∷ ps) = mentions false f.of ++ bit_part_mentions ps

abbrev pub bitdata_mentions : List BitCon → List Mention
bitdata_mentions [] = []
bitdata_mentions (c ∷ cs) = bit_part_mentions c.parts ++ bitdata_mentions cs

abbrev pub struct_mentions : List StructPart → List Mention
struct_mentions [] = []
struct_mentions (struct_part.Pad k ∷ ps) = struct_mentions ps
struct_mentions (struct_part.Fields f ∷ ps) = mentions false f.of ++ struct_mentions ps

-- a declared type: where it is declared, its name, whether it is a struct, and what its declaration mentions
pub record Container : Type 0 where
  pub place : Place
  pub name : Name
  pub is_struct : Bool
  pub mentioned : List Mention

abbrev container : Place → Name → Bool → List Mention → Container
container at name is_struct ms = record { place = at; name = name; is_struct = is_struct; mentioned = ms }

abbrev pub containers : List Decl → List Container
containers [] = []
containers (decl.Data at name params cons ∷ ds) = container at name.name false (data_mentions cons) ∷ containers ds
containers (decl.Bitdata at name width cons ∷ ds) = container at name.name false (bitdata_mentions cons) ∷ containers ds
containers (decl.Struct at name bytes parts ∷ ds) = container at name.name true (struct_mentions parts) ∷ containers ds
containers (d ∷ ds) = containers ds

-- the type n's declaration mentions the type m, and this is no struct under a `Ref`
pub record Mentions (cs : List Container) (n m : ℕ) : Type 0 where
  pub whole : Container
  pub part : Container
  pub whole_at : slice_get cs n ≡ Some whole
  pub part_at : slice_get cs m ≡ Some part
  pub first : (k : ℕ) (c : Container) → slice_get cs k ≡ Some c → c.name ≡ part.name → k < m → ⊥
  pub here : Mention
  pub is_mentioned : Contains whole.mentioned here
  pub same : here.name ≡ part.name
  pub counts : (here.under_ref && part.is_struct) ≡ false

-- a type contains what its declaration mentions, and what this contains
pub data Holds (cs : List Container) : ℕ → ℕ → Type 0 where
  directly : {n m : ℕ} → Mentions cs n m → Holds cs n m
  through : {n m k : ℕ} → Mentions cs n m → Holds cs m k → Holds cs n k

-- the first declared type that contains itself, by its number
pub record IsFirstRecursive (ds : List Decl) (n : ℕ) : Type 0 where
  pub recursive : Holds (containers ds) n n
  pub first : (m : ℕ) → m < n → ¬ Holds (containers ds) m m

-- no declared type contains itself
abbrev pub IsFinite : List Decl → Type 0
IsFinite ds = (n : ℕ) → ¬ Holds (containers ds) n n
