-- What the sort of a token says of it, and the other way round.
use Rattle.std.proofs.Common.{◌≡◌, ◌≢◌, ℕ, Bool, true, false, cond, refl, ap, subst, ◌∙◌, arith}
use Rattle.std.specs.Prelude.{◌==◌}
use Rattle.std.proofs.lemmas.Bool.Decides.{nat_tests}
use Rattle.hb_base.specs.declared.name.Name.{Name}
use Rattle.hb_base.specs.declared.place.Place.{Place}
use Rattle.hb_base.specs.Fixed.{plus, times, power, at_most, wildcard}
use Rattle.hb_tokens.specs.declared.token.Token.{Token}
use Rattle.hb_tokens.specs.declared.token.TokenKind.{TokenKind}
use Rattle.hb_tokens.specs.declared.token.TokenKind.TheVariants.{VarId, ConId, Op, Word as AWord, Number, Bits, Mark, Dot, End}
use Rattle.hb_tokens.specs.declared.word.Word.{Word}
use Rattle.hb_tokens.specs.declared.word.Word.TheVariants as word
use Rattle.hb_grammar.specs.Tokens.{IsVar, IsCon, IsOp, IsWord, IsNumber, IsOpen, IsClose, IsComma}
use Rattle.hb_read_types.specs.declared.node.TypeNode.{TypeNode}
use Rattle.hb_read_types.specs.declared.node.TypeNode.TheVariants as node
use Rattle.hb_read_types.specs.declared.sort.Sort.{Sort}
use Rattle.hb_read_types.specs.declared.sort.Sort.TheVariants as sort
use Rattle.hb_read_types.specs.Sorts.{sort_of, kind_sort, op_sort, mark_sort, word_sort}

of_kind : {k : TokenKind} → (t : Token) → t.kind ≡ k → sort_of t ≡ kind_sort t.place k
of_kind t e = ap (kind_sort t.place) e

pub con_sort : {name : Name} → (t : Token) → IsCon name t → sort_of t ≡ sort.Atom (node.Con t.place name)
con_sort t e = of_kind t e

pub number_sort : {k : ℕ} → (t : Token) → IsNumber k t → sort_of t ≡ sort.Atom (node.Number t.place k)
number_sort t e = of_kind t e

pub open_sort : (t : Token) → IsOpen t → sort_of t ≡ sort.Open
open_sort t e = of_kind t e

pub close_sort : (t : Token) → IsClose t → sort_of t ≡ sort.Close
close_sort t e = of_kind t e

pub comma_sort : (t : Token) → IsComma t → sort_of t ≡ sort.Comma
comma_sort t e = of_kind t e

pub arrow_sort : (t : Token) → IsWord word.RightArrow t → sort_of t ≡ sort.Arrow
arrow_sort t e = of_kind t e

pub equals_sort : (t : Token) → IsWord word.Equals t → sort_of t ≡ sort.Equals
equals_sort t e = of_kind t e

pub plus_sort : (t : Token) → IsOp plus t → sort_of t ≡ sort.Plus
plus_sort t e = of_kind t e

pub times_sort : (t : Token) → IsOp times t → sort_of t ≡ sort.Times
times_sort t e = of_kind t e

pub power_sort : (t : Token) → IsOp power t → sort_of t ≡ sort.Power
power_sort t e = of_kind t e

pub at_most_sort : (t : Token) → IsOp at_most t → sort_of t ≡ sort.AtMost
at_most_sort t e = of_kind t e

name_is : (a b : Name) → a.0 ≡ b.0 → a ≡ b
name_is a b e = ap (λ n. let m : Name = record { 0 = n } in m) e

not_wildcard : (place : Place) (name : Name) (b : Bool) → (name.0 == wildcard.0) ≡ b → name ≢ wildcard → cond b sort.Other (sort.Atom (node.Var place name)) ≡ sort.Atom (node.Var place name)
not_wildcard place name false e n = refl
not_wildcard place name true e n = absurd (n (name_is name wildcard (grind (arith, nat_tests, e))))

pub var_sort_is : {name : Name} → (t : Token) → IsVar name t → sort_of t ≡ sort.Atom (node.Var t.place name)
var_sort_is {name} t v = of_kind t v.kind ∙ not_wildcard t.place name (name.0 == wildcard.0) refl v.named

-- a type by itself
pub data AtomIs : Place → TypeNode → TokenKind → Type 0 where
  con_atom : {place : Place} {name : Name} → AtomIs place (node.Con place name) (ConId name)
  var_atom : {place : Place} {name : Name} → name ≢ wildcard → AtomIs place (node.Var place name) (VarId name)
  number_atom : {place : Place} {k : ℕ} → AtomIs place (node.Number place k) (Number k)

-- what a token of each sort is
abbrev pub Is : Place → Sort → TokenKind → Type 0
Is place (sort.Atom n) k = AtomIs place n k
Is place sort.Open k = k ≡ Mark 40
Is place sort.Close k = k ≡ Mark 41
Is place sort.Comma k = k ≡ Mark 44
Is place sort.Arrow k = k ≡ AWord word.RightArrow
Is place sort.Equals k = k ≡ AWord word.Equals
Is place sort.Plus k = k ≡ Op plus
Is place sort.Times k = k ≡ Op times
Is place sort.Power k = k ≡ Op power
Is place sort.AtMost k = k ≡ Op at_most
Is place sort.Other k = Unit {0}

var_is : (place : Place) (name : Name) (b : Bool) → (name.0 == wildcard.0) ≡ b → Is place (cond b sort.Other (sort.Atom (node.Var place name))) (VarId name)
var_is place name true e = tt
var_is place name false e = var_atom (λ h. grind (arith, nat_tests, e, ap (λ n. n.0) h))

op_is : (place : Place) (name : Name) (k : ℕ) (b : Bool) (p s : Sort) → (name.0 == k) ≡ b → (name.0 ≡ k → Is place p (Op name)) → Is place s (Op name) → Is place (cond b p s) (Op name)
op_is place name k true p s e f g = f (grind (arith, nat_tests, e))
op_is place name k false p s e f g = g

ops_are : (place : Place) (name : Name) → Is place (op_sort name) (Op name)
ops_are place name =
    op_is place name 3 (name.0 == 3) sort.Plus _ refl (λ e. ap Op (name_is name plus e))
    (op_is place name 4 (name.0 == 4) sort.Times _ refl (λ e. ap Op (name_is name times e))
    (op_is place name 5 (name.0 == 5) sort.Power _ refl (λ e. ap Op (name_is name power e))
    (op_is place name 6 (name.0 == 6) sort.AtMost sort.Other refl (λ e. ap Op (name_is name at_most e)) tt)))

mark_is : (place : Place) (byte k : ℕ) (b : Bool) (p s : Sort) → (byte == k) ≡ b → (byte ≡ k → Is place p (Mark byte)) → Is place s (Mark byte) → Is place (cond b p s) (Mark byte)
mark_is place byte k true p s e f g = f (grind (arith, nat_tests, e))
mark_is place byte k false p s e f g = g

marks_are : (place : Place) (byte : ℕ) → Is place (mark_sort byte) (Mark byte)
marks_are place byte =
    mark_is place byte 40 (byte == 40) sort.Open _ refl (λ e. ap Mark e)
    (mark_is place byte 41 (byte == 41) sort.Close _ refl (λ e. ap Mark e)
    (mark_is place byte 44 (byte == 44) sort.Comma sort.Other refl (λ e. ap Mark e) tt))

words_are : (place : Place) (w : Word) → Is place (word_sort w) (AWord w)
words_are place word.Equals = refl
words_are place word.RightArrow = refl
words_are place _ = tt

kinds_are : (place : Place) (k : TokenKind) → Is place (kind_sort place k) k
kinds_are place (VarId name) = var_is place name (name.0 == wildcard.0) refl
kinds_are place (ConId name) = con_atom
kinds_are place (Op name) = ops_are place name
kinds_are place (AWord word) = words_are place word
kinds_are place (Number number) = number_atom
kinds_are place (Bits width number) = tt
kinds_are place (Mark byte) = marks_are place byte
kinds_are place Dot = tt
kinds_are place End = tt

-- a token of this sort is this
pub sort_is : (t : Token) (s : Sort) → sort_of t ≡ s → Is t.place s t.kind
sort_is t s e = let P : Sort → Type 0 = λ v. Is t.place v t.kind in subst P e (kinds_are t.place t.kind)
