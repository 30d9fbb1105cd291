-- The uses of names that mean nothing, each with its place, over the settled program of the prelude and a source.
use Rattle.std.specs.Prelude.{ℕ, Bool, true, false, ◌||◌, ◌&&◌, not, List, [], ◌∷◌, ◌++◌, nat_eq, nat_lt, map, Option, Some, None, if◌then◌else◌}
use Rattle.std.specs.List.{list_any}
use Rattle.hb_base.specs.declared.name.Name.{Name}
use Rattle.hb_base.specs.declared.place.Place.{Place}
use Rattle.hb_tree.specs.Types as type
use Rattle.hb_tree.specs.Types.{TypeExpr, AType, TypeKind}
use Rattle.hb_tree.specs.Patterns as pattern
use Rattle.hb_tree.specs.Patterns.{Pat, APat, PatKind, Pats, NoPats, MorePats, FieldPats, NoFieldPats, MoreFieldPats}
use Rattle.hb_tree.specs.Expressions.{FieldExprs, NoFieldExprs, MoreFieldExprs, Binds, NoBinds, MoreBinds}
use Rattle.hb_tree.specs.ExpressionViews.{binds}
use Rattle.hb_tree.specs.Initials.{FieldInits, NoFieldInits, MoreFieldInits}
use Rattle.hb_tree.specs.declared.types.NameAt.{NameAt}
use Rattle.hb_tree.specs.declared.types.PredExpr.{PredExpr}
use Rattle.hb_tree.specs.declared.types.PredExpr.TheVariants as pred
use Rattle.hb_tree.specs.declared.types.Sig.{Sig}
use Rattle.hb_tree.specs.declared.declaration.FieldDecl.{FieldDecl}
use Rattle.hb_tree.specs.declared.declaration.DataCon.{DataCon}
use Rattle.hb_tree.specs.declared.declaration.BitPart.{BitPart}
use Rattle.hb_tree.specs.declared.declaration.BitPart.TheVariants as bit_part
use Rattle.hb_tree.specs.declared.declaration.BitCon.{BitCon}
use Rattle.hb_tree.specs.declared.declaration.StructPart.{StructPart}
use Rattle.hb_tree.specs.declared.declaration.StructPart.TheVariants as struct_part
use Rattle.hb_tree.specs.declared.declaration.Depend.{Depend}
use Rattle.hb_tree.specs.declared.declaration.Decl.{Decl}
use Rattle.hb_tree.specs.declared.declaration.Decl.TheVariants as decl
use Rattle.hb_resolved.specs.declared.resolved.Target.{Target}
use Rattle.hb_resolved.specs.declared.resolved.Target.TheVariants as target
use Rattle.hb_resolved.specs.declared.resolved.Use.{Use}
use Rattle.hb_resolved.specs.Scopes.{Scope}
use Rattle.hb_resolved.specs.Things.{sig_names, defined}
use Rattle.hb_resolved.specs.Uses.{decls_uses}
use Rattle.hb_settle.specs.Pieces.{Piece, ARun, ABlock, ARow, ASelection, AConstruction, AnUpdate, AStart, decls_pieces}

abbrev pub is_name : Name → Name → Bool
is_name a b = nat_eq a.0 b.0

abbrev pub is_among : List NameAt → Name → Bool
is_among all x = list_any (λ n. is_name n.name x) all

-- those whose names are not as asked
abbrev pub all_but : (Name → Bool) → List NameAt → List NameAt
all_but is_good [] = []
all_but is_good (at ∷ rest) = if is_good at.name then all_but is_good rest else at ∷ all_but is_good rest

-- ---- variables and constructors

abbrev pub is_none : Target → Bool
is_none target.None = true
is_none t = false

-- a name that is used and means nothing
abbrev pub name_flaws : Place → Option Name → Target → List NameAt
name_flaws at None t = []
name_flaws at (Some x) t = if is_none t then record { place = at; name = x } ∷ [] else []

abbrev pub use_flaws : Use → List NameAt
use_flaws u = name_flaws u.place u.name u.target

abbrev pub uses_flaws : List Use → List NameAt
uses_flaws [] = []
uses_flaws (u ∷ us) = use_flaws u ++ uses_flaws us

-- ---- labels: the fields of all bitdata types and structs

abbrev pub bit_part_fields : List BitPart → List NameAt
bit_part_fields [] = []
bit_part_fields (bit_part.Tag width k ∷ ps) = bit_part_fields ps
bit_part_fields (bit_part.Fields f ∷ ps) = f.names ++ bit_part_fields ps

abbrev pub bit_con_fields : List BitCon → List NameAt
bit_con_fields [] = []
bit_con_fields (c ∷ cs) = bit_part_fields c.parts ++ bit_con_fields cs

abbrev pub struct_fields : List StructPart → List NameAt
struct_fields [] = []
struct_fields (struct_part.Pad k ∷ ps) = struct_fields ps
struct_fields (struct_part.Fields f ∷ ps) = f.names ++ struct_fields ps

abbrev pub labels : List Decl → List NameAt
labels [] = []
labels (decl.Bitdata at name width cons ∷ ds) = bit_con_fields cons ++ labels ds
labels (decl.Struct at name bytes parts ∷ ds) = struct_fields parts ++ labels ds
labels (d ∷ ds) = labels ds

abbrev pub field_names : FieldExprs → List NameAt
field_names NoFieldExprs = []
field_names (MoreFieldExprs at x e fs) = record { place = at; name = x } ∷ field_names fs

abbrev pub start_names : FieldInits → List NameAt
start_names NoFieldInits = []
start_names (MoreFieldInits name i fs) = name ∷ start_names fs

-- the labels that a pattern speaks of
abbrev mutual
  pub pat_labels : Pat → List NameAt
  pat_labels (APat n at k) = pat_kind_labels k

  pub pat_kind_labels : PatKind → List NameAt
  pat_kind_labels pattern.Any = []
  pat_kind_labels (pattern.Var x) = []
  pat_kind_labels (pattern.Number n) = []
  pat_kind_labels (pattern.Bits w n) = []
  pat_kind_labels (pattern.Con c ps) = pats_labels ps
  pat_kind_labels (pattern.Fields c fs) = field_pats_labels fs
  pat_kind_labels (pattern.Pair p q) = pat_labels p ++ pat_labels q
  pat_kind_labels pattern.Unit = []

  pub pats_labels : Pats → List NameAt
  pats_labels NoPats = []
  pats_labels (MorePats p ps) = pat_labels p ++ pats_labels ps

  pub field_pats_labels : FieldPats → List NameAt
  field_pats_labels NoFieldPats = []
  field_pats_labels (MoreFieldPats at x p fs) = record { place = at; name = x } ∷ pat_labels p ++ field_pats_labels fs

abbrev pub row_labels : List Pat → List NameAt
row_labels [] = []
row_labels (p ∷ ps) = pat_labels p ++ row_labels ps

abbrev pub piece_labels : Piece → List NameAt
piece_labels (ARow ps) = row_labels ps
piece_labels (ASelection at f) = record { place = at; name = f } ∷ []
piece_labels (AConstruction fs) = field_names fs
piece_labels (AnUpdate fs) = field_names fs
piece_labels (AStart fs) = start_names fs
piece_labels p = []

abbrev pub pieces_labels : List Piece → List NameAt
pieces_labels [] = []
pieces_labels (p ∷ ps) = piece_labels p ++ pieces_labels ps

-- ---- types and classes

-- the types and the predicates that no declaration makes
abbrev pub is_built_in_type : Name → Bool
is_built_in_type x = nat_eq x.0 1 || (nat_eq x.0 2 || (nat_lt 7 x.0 && nat_lt x.0 18))

abbrev pub is_built_in_fact : Name → Bool
is_built_in_fact x = nat_lt 17 x.0 && nat_lt x.0 23

-- what a name of types and classes is: its first declaration counts
pub data Sort : Type 0 where
  Unknown : Sort
  AsType : Sort
  AsClass : Sort
  AsFact : Sort

abbrev pub declared_sort : List Decl → Name → Sort
declared_sort [] x = Unknown
declared_sort (decl.Data at name params cons ∷ ds) x = if is_name name.name x then AsType else declared_sort ds x
declared_sort (decl.Bitdata at name width cons ∷ ds) x = if is_name name.name x then AsType else declared_sort ds x
declared_sort (decl.Struct at name bytes parts ∷ ds) x = if is_name name.name x then AsType else declared_sort ds x
declared_sort (decl.Class at context name params depends sigs ∷ ds) x = if is_name name.name x then AsClass else declared_sort ds x
declared_sort (d ∷ ds) x = declared_sort ds x

abbrev pub sort_of : List Decl → Name → Sort
sort_of ds x = if is_built_in_type x then AsType else (if is_built_in_fact x then AsFact else declared_sort ds x)

abbrev pub is_type : Sort → Bool
is_type AsType = true
is_type s = false

abbrev pub is_class : Sort → Bool
is_class AsClass = true
is_class s = false

abbrev pub is_predicate : Sort → Bool
is_predicate AsClass = true
is_predicate AsFact = true
is_predicate s = false

abbrev mutual
  -- the constructors of a type
  pub type_cons : TypeExpr → List NameAt
  type_cons (AType at k) = kind_cons at k

  pub kind_cons : Place → TypeKind → List NameAt
  kind_cons at (type.Con c) = record { place = at; name = c } ∷ []
  kind_cons at (type.Var x) = []
  kind_cons at (type.Number n) = []
  kind_cons at type.Unit = []
  kind_cons at (type.Pair a b) = type_cons a ++ type_cons b
  kind_cons at (type.Apply a b) = type_cons a ++ type_cons b
  kind_cons at (type.Arrow a b) = type_cons a ++ type_cons b
  kind_cons at (type.Sum a b) = type_cons a ++ type_cons b

abbrev mutual
  -- the variables of a type
  pub type_vars : TypeExpr → List NameAt
  type_vars (AType at k) = kind_vars at k

  pub kind_vars : Place → TypeKind → List NameAt
  kind_vars at (type.Con c) = []
  kind_vars at (type.Var x) = record { place = at; name = x } ∷ []
  kind_vars at (type.Number n) = []
  kind_vars at type.Unit = []
  kind_vars at (type.Pair a b) = type_vars a ++ type_vars b
  kind_vars at (type.Apply a b) = type_vars a ++ type_vars b
  kind_vars at (type.Arrow a b) = type_vars a ++ type_vars b
  kind_vars at (type.Sum a b) = type_vars a ++ type_vars b

-- those of several
abbrev pub of_all : {A : Type 0} → (A → List NameAt) → List A → List NameAt
of_all f [] = []
of_all f (x ∷ xs) = f x ++ of_all f xs

abbrev pub pred_types : PredExpr → List TypeExpr
pred_types (pred.Class name all) = all
pred_types (pred.Sum a b c) = a ∷ b ∷ c ∷ []
pred_types (pred.Product a b c) = a ∷ b ∷ c ∷ []
pred_types (pred.Power a b) = a ∷ b ∷ []
pred_types (pred.AtMost a b) = a ∷ b ∷ []

abbrev pub pred_classes : PredExpr → List NameAt
pred_classes (pred.Class name all) = name ∷ []
pred_classes p = []

abbrev pub pred_cons : PredExpr → List NameAt
pred_cons p = of_all type_cons (pred_types p)

abbrev pub sig_cons : Sig → List NameAt
sig_cons s = of_all pred_cons s.context ++ type_cons s.body

abbrev pub sig_classes : Sig → List NameAt
sig_classes s = of_all pred_classes s.context

-- the types that fields have
abbrev pub bit_part_types : List BitPart → List TypeExpr
bit_part_types [] = []
bit_part_types (bit_part.Tag width k ∷ ps) = bit_part_types ps
bit_part_types (bit_part.Fields f ∷ ps) = f.of ∷ bit_part_types ps

abbrev pub struct_types : List StructPart → List TypeExpr
struct_types [] = []
struct_types (struct_part.Pad k ∷ ps) = struct_types ps
struct_types (struct_part.Fields f ∷ ps) = f.of ∷ struct_types ps

abbrev pub data_types : List DataCon → List TypeExpr
data_types [] = []
data_types (c ∷ cs) = c.args ++ data_types cs

abbrev pub bit_types : List BitCon → List TypeExpr
bit_types [] = []
bit_types (c ∷ cs) = bit_part_types c.parts ++ bit_types cs

-- the types that a declaration of data, an area or a port is made of
abbrev pub own_types : Decl → List TypeExpr
own_types (decl.Data at name params cons) = data_types cons
own_types (decl.Bitdata at name width cons) = bit_types cons
own_types (decl.Struct at name bytes parts) = struct_types parts
own_types (decl.Area at name init of align) = of ∷ []
own_types (decl.Port at name way of width number) = of ∷ []
own_types d = []

-- the variables that may stand in them
abbrev pub own_params : Decl → List NameAt
own_params (decl.Data at name params cons) = params
own_params (decl.Class at context name params depends sigs) = params
own_params d = []

abbrev pub depend_names : Depend → List NameAt
depend_names d = d.from ++ d.to

abbrev pub depends_of : Decl → List Depend
depends_of (decl.Class at context name params depends sigs) = depends
depends_of d = []

-- type variables that are not in scope
abbrev pub var_flaws : Decl → List NameAt
var_flaws d = all_but (is_among (own_params d)) (of_all type_vars (own_types d) ++ of_all depend_names (depends_of d))

abbrev pub decl_cons : Decl → List NameAt
decl_cons (decl.Sig s) = sig_cons s
decl_cons (decl.Class at context name params depends sigs) = of_all pred_cons context ++ of_all sig_cons sigs
decl_cons (decl.Instance at name all context rows) = of_all type_cons all ++ of_all pred_cons context
decl_cons d = of_all type_cons (own_types d)

abbrev pub decl_classes : Decl → List NameAt
decl_classes (decl.Sig s) = sig_classes s
decl_classes (decl.Class at context name params depends sigs) = of_all pred_classes context ++ of_all sig_classes sigs
decl_classes (decl.Instance at name all context rows) = of_all pred_classes context
decl_classes d = []

-- ---- instances

abbrev pub heads : Decl → List NameAt
heads (decl.Instance at name all context rows) = name ∷ []
heads d = []

-- the methods of the first class of this name
abbrev pub methods_of : List Decl → Name → List NameAt
methods_of [] x = []
methods_of (decl.Class at context name params depends sigs ∷ ds) x = if is_name name.name x then sig_names sigs else methods_of ds x
methods_of (d ∷ ds) x = methods_of ds x

abbrev pub bind_names : Binds → List NameAt
bind_names NoBinds = []
bind_names (MoreBinds x at rows bs) = record { place = at; name = x } ∷ bind_names bs

-- the equations of an instance that are of no method of its class
abbrev pub foreign : List Decl → Decl → List NameAt
foreign ds (decl.Instance at name all context rows) = all_but (is_among (methods_of ds name.name)) (bind_names (binds rows))
foreign ds d = []

-- ---- all of them

abbrev pub start_of_text : Place
start_of_text = record { line = 1; col = 1 }

abbrev pub main_name : Name
main_name = record { 0 = 7 }

-- there is no definition of `main`
abbrev pub main_flaws : List Decl → List NameAt
main_flaws ds = if is_among (defined ds) main_name then [] else record { place = start_of_text; name = main_name } ∷ []

-- where several stand at one place, the first one here is told
abbrev pub unbound : ℕ → Scope → List Decl → List NameAt
unbound nodes scope ds =
    all_but (λ x. is_type (sort_of ds x)) (of_all decl_cons ds)
    ++ all_but (λ x. is_predicate (sort_of ds x)) (of_all decl_classes ds)
    ++ of_all var_flaws ds
    ++ uses_flaws (decls_uses nodes scope ds)
    ++ all_but (is_among (labels ds)) (pieces_labels (decls_pieces ds))
    ++ all_but (λ x. is_class (sort_of ds x)) (of_all heads ds)
    ++ of_all (foreign ds) ds
    ++ main_flaws ds
