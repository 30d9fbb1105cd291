-- When patterns fit their types: one rule a form, on the node and its direct parts.
use Rattle.std.specs.Prelude.{◌≡◌, ℕ, List, [], ◌∷◌, length, Option, Some, None}
use Rattle.hb_types.specs.Types.{Ty}
use Rattle.hb_types.specs.declared.scheme.Pred.{Pred}
use Rattle.hb_types.specs.declared.scheme.Scheme.{Scheme}
use Rattle.hb_tree.specs.Patterns as pat
use Rattle.hb_tree.specs.Patterns.{Pat, PatKind, APat, Pats, NoPats, MorePats, FieldPats, NoFieldPats, MoreFieldPats}
use Rattle.hb_types.specs.Put.{put}
use Rattle.hb_core.specs.TypeForms.{Bit, at_one, number_type, arrows}
use Rattle.hb_core.specs.View.{View, Constructor, Con, DataCon, BitCon, BitField}
use Rattle.hb_core.specs.Matching.{con_of, field_named}
use Rattle.hb_core.specs.Facts.{literal_at}
use Rattle.hb_core.specs.Entailment.{Entails, AllEntailed, put_preds}

-- ---- uses of names

-- the types that are taken are those of a scheme, one for each variable; the node's type is the scheme's at them, and
-- what the scheme asks of them is entailed
pub record Takes (P : View) (givens : List Pred) (scheme : Scheme) (taken : List Ty) (type : Ty) : Type 0 where
  pub as_many : length taken ≡ length scheme.kinds
  pub same : type ≡ put taken scheme.body
  pub met : AllEntailed P givens (put_preds taken scheme.preds)

abbrev pub TakesSome : View → List Pred → Option Scheme → List Ty → Ty → Type 0
TakesSome P givens (Some scheme) taken type = Takes P givens scheme taken type
TakesSome P givens None taken type = ⊥

-- the bits of a literal
abbrev pub bits_type : ℕ → Ty
bits_type width = at_one Bit (number_type width)

-- ---- patterns

abbrev pub pat_node : Pat → ℕ
pat_node (APat n place kind) = n

-- the types of patterns, in order
abbrev pub pat_types : View → Pats → List Ty
pat_types P NoPats = []
pat_types P (MorePats p ps) = P.type_of (pat_node p) ∷ pat_types P ps

abbrev pub row_types : View → List Pat → List Ty
row_types P [] = []
row_types P (p ∷ ps) = P.type_of (pat_node p) ∷ row_types P ps

-- a constructor has as many arguments; a bitdata constructor has none, whatever its fields
abbrev pub HasArguments : Option Con → ℕ → Type 0
HasArguments (Some (DataCon arity)) n = n ≡ arity
HasArguments (Some (BitCon ms fields)) n = n ≡ 0
HasArguments None n = ⊥

-- the field's type where the constructor has the field, and nothing where it has not
abbrev pub HasFieldType : Option BitField → Ty → Type 0
HasFieldType (Some f) t = t ≡ f.of
HasFieldType None t = Unit {0}

-- a bitdata constructor, whose fields are as Q says
abbrev pub WithFields : Option Con → (List BitField → Type 0) → Type 0
WithFields (Some (BitCon ms fields)) Q = Q fields
WithFields (Some (DataCon arity)) Q = ⊥
WithFields None Q = ⊥

-- No given counts in a pattern.
abbrev mutual
  pub FitsPat : View → Pat → Type 0
  FitsPat P (APat n place kind) = FitsPatKind P kind n

  pub FitsPatKind : View → PatKind → ℕ → Type 0
  FitsPatKind P pat.Any n = Unit {0}
  FitsPatKind P (pat.Var x) n = P.type_of n ≡ P.local_type (P.binder n)
  FitsPatKind P (pat.Number k) n = Entails P [] (literal_at k (P.type_of n))
  FitsPatKind P (pat.Bits width k) n = P.type_of n ≡ bits_type width
  FitsPatKind P (pat.Con x ps) n =
      HasArguments (con_of P (P.target n)) (length (pat_types P ps))
      × TakesSome P [] (P.scheme (P.target n)) (P.uses n) (arrows (pat_types P ps) (P.type_of n))
      × FitsPats P ps
  FitsPatKind P (pat.Fields x fs) n =
      TakesSome P [] (P.scheme (P.target n)) (P.uses n) (P.type_of n) × WithFields (con_of P (P.target n)) (λ fields. FitsFieldPats P fs fields)
  FitsPatKind P (pat.Pair p q) n =
      TakesSome P [] (P.scheme (Constructor P.pair)) (P.type_of (pat_node p) ∷ P.type_of (pat_node q) ∷ []) (arrows (P.type_of (pat_node p) ∷ P.type_of (pat_node q) ∷ []) (P.type_of n))
      × FitsPat P p
      × FitsPat P q
  FitsPatKind P pat.Unit n = P.type_of n ≡ P.unit_type

  pub FitsPats : View → Pats → Type 0
  FitsPats P NoPats = Unit {0}
  FitsPats P (MorePats p ps) = FitsPat P p × FitsPats P ps

  pub FitsFieldPats : View → FieldPats → List BitField → Type 0
  FitsFieldPats P NoFieldPats fields = Unit {0}
  FitsFieldPats P (MoreFieldPats place x p fs) fields =
      HasFieldType (field_named x fields) (P.type_of (pat_node p)) × FitsPat P p × FitsFieldPats P fs fields

-- the patterns of a row
abbrev pub FitsRow : View → List Pat → Type 0
FitsRow P [] = Unit {0}
FitsRow P (p ∷ ps) = FitsPat P p × FitsRow P ps
