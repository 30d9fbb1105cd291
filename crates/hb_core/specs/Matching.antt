-- Which patterns a value matches, and what they bind. A value whose form does not fit the pattern's neither matches nor
-- misses: there is no rule for it.
use Rattle.std.specs.Prelude.{ℕ, ◌==◌, ◌&&◌, Bool, true, false, cond, List, [], ◌∷◌, length, Option, Some, None, find}
use Rattle.hb_base.specs.declared.name.Name.{Name}
use Rattle.hb_bits.specs.Bits.{number, cut_at}
use Rattle.hb_bits.specs.Members.{Member, Fixed, Free}
use Rattle.hb_tree.specs.Patterns as pat
use Rattle.hb_tree.specs.Patterns.{Pat, PatKind, APat, Pats, NoPats, MorePats, FieldPats, NoFieldPats, MoreFieldPats}
use Rattle.hb_core.specs.Numbers.{value_at, number_of}
use Rattle.hb_core.specs.Values.{Val, Pattern, Built, Vals, NoVals, MoreVals, Env, Bind}
use Rattle.hb_core.specs.View.{View, Target, Constructor, Con, DataCon, BitCon, BitField}

pub data Match : Type 0 where
  -- with what is bound, on top of what was
  Hits : Env → Match
  Misses : Match
  Unfit : Match

abbrev pub and_then : Match → (Env → Match) → Match
and_then (Hits env) next = next env
and_then Misses next = Misses
and_then Unfit next = Unfit

abbrev pub hits_where : Bool → Env → Match
hits_where test env = cond test (Hits env) Misses

-- ---- bit data

-- whether the bits are those that a constructor fixes where it fixes any
abbrev pub agrees : Member → Bool → Bool
agrees (Fixed fixed) bit = cond fixed bit (cond bit false true)
agrees Free bit = true

abbrev pub has_bits : List Member → List Bool → Bool
has_bits [] [] = true
has_bits (m ∷ ms) (b ∷ bs) = agrees m b && has_bits ms bs
has_bits ms bs = false

abbrev pub field_named : Name → List BitField → Option BitField
field_named name fields = find (λ f. f.name.0 == name.0) fields

-- the value of a field: its bits as a value of the field's type
abbrev pub field_value : View → List Bool → BitField → Option Val
field_value P bits f = value_at P f.of (number (cut_at f.at f.width bits))

-- ---- literals and constructors

abbrev pub number_hits : ℕ → Option ℕ → Env → Match
number_hits k (Some n) env = hits_where (n == k) env
number_hits k None env = Unfit

abbrev pub bits_hit : ℕ → ℕ → Val → Env → Match
bits_hit width k (Pattern bits) env = cond (length bits == width) (hits_where (number bits == k) env) Unfit
bits_hit width k v env = Unfit

-- the constructor that a name stands for
abbrev pub con_of : View → Target → Option Con
con_of P (Constructor c) = P.constructors c
con_of P t = None

abbrev pub con_number : Target → ℕ
con_number (Constructor c) = c
con_number t = 0

-- a constructor's pattern, where `args` says how its arguments match; a bitdata constructor has none
abbrev pub con_hits : ℕ → Option Con → Val → (Vals → Match) → Match
con_hits c (Some (DataCon arity)) (Built d vs) args = cond (d == c) (args vs) Misses
con_hits c (Some (BitCon ms fields)) (Pattern bits) args = cond (has_bits ms bits) (args NoVals) Misses
con_hits c con v args = Unfit

-- a pattern of fields, where `parts` says how they match
abbrev pub fields_hit : Option Con → Val → (List BitField → List Bool → Match) → Match
fields_hit (Some (BitCon ms fields)) (Pattern bits) parts = cond (has_bits ms bits) (parts fields bits) Misses
fields_hit con v parts = Unfit

abbrev pub value_hits : Option Val → (Val → Match) → Match
value_hits (Some v) match = match v
value_hits None match = Unfit

abbrev pub value_of_field : View → List Bool → Option BitField → Option Val
value_of_field P bits (Some f) = field_value P bits f
value_of_field P bits None = None

abbrev pub none_match : Vals → Env → Match
none_match NoVals env = Hits env
none_match (MoreVals v vs) env = Unfit

abbrev pub two_match : Vals → (Val → Match) → (Val → Env → Match) → Match
two_match (MoreVals v (MoreVals w NoVals)) first second = and_then (first v) (λ env. second w env)
two_match vs first second = Unfit

-- ---- patterns

abbrev mutual
  pub matches : View → Pat → Val → Env → Match
  matches P (APat n place kind) v env = kind_matches P kind n v env

  pub kind_matches : View → PatKind → ℕ → Val → Env → Match
  kind_matches P pat.Any n v env = Hits env
  kind_matches P (pat.Var x) n v env = Hits (Bind (P.binder n) v env)
  kind_matches P (pat.Number k) n v env = number_hits k (number_of v) env
  kind_matches P (pat.Bits width k) n v env = bits_hit width k v env
  kind_matches P (pat.Con x ps) n v env = con_hits (con_number (P.target n)) (con_of P (P.target n)) v (λ vs. pats_match P ps vs env)
  kind_matches P (pat.Fields x fs) n v env = fields_hit (con_of P (P.target n)) v (λ fields bits. fields_match P fs fields bits env)
  kind_matches P (pat.Pair p q) n v env = con_hits P.pair (P.constructors P.pair) v (λ vs. two_match vs (λ v. matches P p v env) (λ w more. matches P q w more))
  kind_matches P pat.Unit n v env = con_hits P.unit (P.constructors P.unit) v (λ vs. none_match vs env)

  pub pats_match : View → Pats → Vals → Env → Match
  pats_match P NoPats NoVals env = Hits env
  pats_match P (MorePats p ps) (MoreVals v vs) env = and_then (matches P p v env) (λ more. pats_match P ps vs more)
  pats_match P ps vs env = Unfit

  pub fields_match : View → FieldPats → List BitField → List Bool → Env → Match
  fields_match P NoFieldPats fields bits env = Hits env
  fields_match P (MoreFieldPats place x p fs) fields bits env =
      and_then (value_hits (value_of_field P bits (field_named x fields)) (λ v. matches P p v env)) (λ more. fields_match P fs fields bits more)

-- the patterns of a row against values, one each
abbrev pub row_matches : View → List Pat → Vals → Env → Match
row_matches P [] NoVals env = Hits env
row_matches P (p ∷ ps) (MoreVals v vs) env = and_then (matches P p v env) (λ more. row_matches P ps vs more)
row_matches P ps vs env = Unfit
