-- The whole types of a program in text order, and the kind that each is to have. A whole type is one of a declaration, or one
-- argument of a predicate or of an instance's head.
use Rattle.std.specs.Prelude.{ℕ, ◌+◌, Bool, true, false, not, ◌||◌, ◌&&◌, nat_eq, if◌then◌else◌, List, [], ◌∷◌, ◌++◌, Option, Some, None}
use Rattle.hb_base.specs.declared.name.Name.{Name}
use Rattle.hb_tree.specs.Types as tree
use Rattle.hb_tree.specs.Types.{TypeExpr, AType, TypeKind}
use Rattle.hb_tree.specs.declared.types.NameAt.{NameAt}
use Rattle.hb_tree.specs.declared.types.PredExpr.{PredExpr}
use Rattle.hb_tree.specs.declared.types.PredExpr.TheVariants as pred
use Rattle.hb_tree.specs.declared.types.Sig.{Sig}
use Rattle.hb_tree.specs.declared.declaration.DataCon.{DataCon}
use Rattle.hb_tree.specs.declared.declaration.BitPart.{BitPart}
use Rattle.hb_tree.specs.declared.declaration.BitPart.TheVariants as bit_part
use Rattle.hb_tree.specs.declared.declaration.BitCon.{BitCon}
use Rattle.hb_tree.specs.declared.declaration.StructPart.{StructPart}
use Rattle.hb_tree.specs.declared.declaration.StructPart.TheVariants as struct_part
use Rattle.hb_tree.specs.declared.declaration.Decl.{Decl}
use Rattle.hb_tree.specs.declared.declaration.Decl.TheVariants as decl
use Rattle.hb_types.specs.Kinds.{Kind, Star, Nat, Area}
use Rattle.hb_kind.specs.TypeNames.{DeclaredClass, declared_classes}

-- what kind a whole type is to have: this one, that of a parameter of a class by the class's number and the parameter's place,
-- any, or none, which is so of the last of a wrong number of arguments
pub data Wanted : Type 0 where
  Is : Kind → Wanted
  OfParameter : ℕ → ℕ → Wanted
  AnyKind : Wanted
  NoKind : Wanted

-- whose parameters the variables may be: those of a declared type or class, by its number
pub data Owner : Type 0 where
  OfType : ℕ → List NameAt → Owner
  OfClass : ℕ → List NameAt → Owner
  NoOwner : Owner

pub record Whole : Type 0 where
  pub of : TypeExpr
  pub wanted : Wanted
  -- it stands in a signature, where a sum may stand
  pub signed : Bool

-- whole types that share their variables
pub record Group : Type 0 where
  pub owner : Owner
  pub wholes : List Whole

abbrev whole : Bool → Wanted → TypeExpr → Whole
whole signed wanted t = record { of = t; wanted = wanted; signed = signed }

-- ---- arguments of predicates

-- what the arguments of a built-in predicate are to be: those of Width, Index, NumLit, BitRep and Cell, by the name's number
abbrev pub built_in_wants : ℕ → List Wanted
built_in_wants n =
    if nat_eq n 20 then Is Nat ∷ Is Star ∷ []
    else if nat_eq n 21 then Is Star ∷ Is Nat ∷ []
    else if nat_eq n 22 then Is Area ∷ Is Star ∷ []
    else Is Nat ∷ []

abbrev pub parameter_wants : ℕ → ℕ → List NameAt → List Wanted
parameter_wants c i [] = []
parameter_wants c i (p ∷ ps) = OfParameter c i ∷ parameter_wants c (i + 1) ps

-- the arguments, each with what is wanted of it; where there are too few or too many, the last fits nothing
abbrev pub arguments : Bool → List Wanted → List TypeExpr → List Whole
arguments signed ws [] = []
arguments signed [] (t ∷ []) = whole signed NoKind t ∷ []
arguments signed (w ∷ []) (t ∷ []) = whole signed w t ∷ []
arguments signed (w ∷ v ∷ ws) (t ∷ []) = whole signed NoKind t ∷ []
arguments signed [] (t ∷ u ∷ ts) = whole signed AnyKind t ∷ arguments signed [] (u ∷ ts)
arguments signed (w ∷ ws) (t ∷ u ∷ ts) = whole signed w t ∷ arguments signed ws (u ∷ ts)

-- what the arguments of a declared class are to be, by its number
abbrev class_wants : ℕ → List DeclaredClass → Name → Option (List Wanted)
class_wants c [] name = None
class_wants c (d ∷ ds) name = if nat_eq d.name.0 name.0 then Some (parameter_wants c 0 d.params) else class_wants (c + 1) ds name

abbrev or_built_in : Option (List Wanted) → ℕ → List Wanted
or_built_in (Some ws) n = ws
or_built_in None n = built_in_wants n

-- what the arguments of a predicate are to be, by its name
abbrev pub wants : List DeclaredClass → Name → List Wanted
wants classes name = or_built_in (class_wants 0 classes name) name.0

abbrev nat : Bool → TypeExpr → Whole
nat signed t = whole signed (Is Nat) t

abbrev pub pred_wholes : List DeclaredClass → Bool → PredExpr → List Whole
pred_wholes classes signed (pred.Class at args) = arguments signed (wants classes at.name) args
pred_wholes classes signed (pred.Sum a b c) = nat signed a ∷ nat signed b ∷ nat signed c ∷ []
pred_wholes classes signed (pred.Product a b c) = nat signed a ∷ nat signed b ∷ nat signed c ∷ []
pred_wholes classes signed (pred.Power a b) = nat signed a ∷ nat signed b ∷ []
pred_wholes classes signed (pred.AtMost a b) = nat signed a ∷ nat signed b ∷ []

abbrev pub context_wholes : List DeclaredClass → Bool → List PredExpr → List Whole
context_wholes classes signed [] = []
context_wholes classes signed (p ∷ ps) = pred_wholes classes signed p ++ context_wholes classes signed ps

-- ---- declarations

abbrev pub sig_wholes : List DeclaredClass → Sig → List Whole
sig_wholes classes s = context_wholes classes true s.context ++ whole true (Is Star) s.body ∷ []

abbrev pub argument_wholes : List TypeExpr → List Whole
argument_wholes [] = []
argument_wholes (t ∷ ts) = whole false (Is Star) t ∷ argument_wholes ts

abbrev pub data_wholes : List DataCon → List Whole
data_wholes [] = []
data_wholes (c ∷ cs) = argument_wholes c.args ++ data_wholes cs

abbrev pub bit_part_wholes : List BitPart → List Whole
bit_part_wholes [] = []
bit_part_wholes (bit_part.Tag width k ∷ ps) = bit_part_wholes ps
bit_part_wholes (bit_part.Fields f ∷ ps) = whole false (Is Star) f.of ∷ bit_part_wholes ps

abbrev pub bitdata_wholes : List BitCon → List Whole
bitdata_wholes [] = []
bitdata_wholes (c ∷ cs) = bit_part_wholes c.parts ++ bitdata_wholes cs

abbrev pub struct_wholes : List StructPart → List Whole
struct_wholes [] = []
struct_wholes (struct_part.Pad k ∷ ps) = struct_wholes ps
struct_wholes (struct_part.Fields f ∷ ps) = whole false (Is Area) f.of ∷ struct_wholes ps

abbrev group : Owner → List Whole → Group
group owner ws = record { owner = owner; wholes = ws }

-- each signature has variables of its own beside those of its class
abbrev pub sig_groups : List DeclaredClass → Owner → List Sig → List Group
sig_groups classes owner [] = []
sig_groups classes owner (s ∷ ss) = group owner (sig_wholes classes s) ∷ sig_groups classes owner ss

-- the groups of declarations before which so many types and classes are declared
abbrev pub groups_from : List DeclaredClass → (type class : ℕ) → List Decl → List Group
groups_from classes t c [] = []
groups_from classes t c (decl.Sig s ∷ ds) = group NoOwner (sig_wholes classes s) ∷ groups_from classes t c ds
groups_from classes t c (decl.Data at name params cons ∷ ds) = group (OfType t params) (data_wholes cons) ∷ groups_from classes (t + 1) c ds
groups_from classes t c (decl.Bitdata at name width cons ∷ ds) = group NoOwner (bitdata_wholes cons) ∷ groups_from classes (t + 1) c ds
groups_from classes t c (decl.Struct at name bytes parts ∷ ds) = group NoOwner (struct_wholes parts) ∷ groups_from classes (t + 1) c ds
groups_from classes t c (decl.Area at name init of align ∷ ds) = group NoOwner (whole false (Is Area) of ∷ []) ∷ groups_from classes t c ds
groups_from classes t c (decl.Port at name dir of width k ∷ ds) = group NoOwner (whole false (Is Star) of ∷ []) ∷ groups_from classes t c ds
groups_from classes t c (decl.Class at context name params depends sigs ∷ ds) =
    group (OfClass c params) (context_wholes classes false context) ∷ (sig_groups classes (OfClass c params) sigs ++ groups_from classes t (c + 1) ds)
groups_from classes t c (decl.Instance at name types context rows ∷ ds) =
    group NoOwner (arguments false (wants classes name.name) types ++ context_wholes classes false context) ∷ groups_from classes t c ds
groups_from classes t c (d ∷ ds) = groups_from classes t c ds

-- a whole type with the number of its group
pub record Placed : Type 0 where
  pub group : ℕ
  pub owner : Owner
  pub whole : Whole

abbrev pub placed_in : ℕ → Owner → List Whole → List Placed
placed_in g owner [] = []
placed_in g owner (w ∷ ws) = record { group = g; owner = owner; whole = w } ∷ placed_in g owner ws

abbrev pub placed : ℕ → List Group → List Placed
placed g [] = []
placed g (x ∷ xs) = placed_in g x.owner x.wholes ++ placed (g + 1) xs

-- all whole types, in text order
abbrev pub whole_types : List Decl → List Placed
whole_types ds = placed 0 (groups_from (declared_classes ds) 0 0 ds)

-- ---- sums

abbrev mutual
  pub has_sum : TypeExpr → Bool
  has_sum (AType at t) = form_has_sum t

  pub form_has_sum : TypeKind → Bool
  form_has_sum (tree.Con c) = false
  form_has_sum (tree.Var x) = false
  form_has_sum (tree.Number n) = false
  form_has_sum tree.Unit = false
  form_has_sum (tree.Pair a b) = has_sum a || has_sum b
  form_has_sum (tree.Apply a b) = has_sum a || has_sum b
  form_has_sum (tree.Arrow a b) = has_sum a || has_sum b
  form_has_sum (tree.Sum a b) = true

-- a sum stands where none may
abbrev pub has_wrong_sum : Whole → Bool
has_wrong_sum w = not w.signed && has_sum w.of
