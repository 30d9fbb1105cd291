-- Types and contexts. `ReadsType ts a us` says that the tokens ts begin with the type a, and us are left; the other
-- families say so of what their names tell. A type stands at its first token, and one in brackets at what is inside.
use Rattle.std.specs.Prelude.{ℕ, List, [], ◌∷◌}
use Rattle.hb_base.specs.declared.name.Name.{Name}
use Rattle.hb_base.specs.declared.place.Place.{Place}
use Rattle.hb_base.specs.Fixed.{plus, times, power, at_most}
use Rattle.hb_tokens.specs.declared.token.Token.{Token}
use Rattle.hb_tokens.specs.declared.word.Word.TheVariants.{Equals, RightArrow}
use Rattle.hb_tree.specs.declared.types.NameAt.{NameAt}
use Rattle.hb_tree.specs.declared.types.PredExpr.{PredExpr}
use Rattle.hb_tree.specs.declared.types.PredExpr.TheVariants as pred
use Rattle.hb_tree.specs.Types.{TypeExpr, AType, Con, Var, Number, Unit, Pair, Apply, Arrow, Sum}
use Rattle.hb_grammar.specs.Tokens.{IsVar, IsCon, IsOp, IsWord, IsNumber, IsOpen, IsClose, IsComma, first_place}

mutual
  -- type = btype ["->" type]
  pub data ReadsType : List Token → TypeExpr → List Token → Type 0 where
    alone : {ts us : List Token} {a : TypeExpr} → ReadsBtype ts a us → ReadsType ts a us
    arrow : {ts us vs : List Token} {t : Token} {a b : TypeExpr} → ReadsBtype ts a (t ∷ us) → IsWord RightArrow t → ReadsType us b vs → ReadsType ts (AType (first_place ts) (Arrow a b)) vs

  -- btype = atype+
  pub data ReadsBtype : List Token → TypeExpr → List Token → Type 0 where
    applied : {ts us vs : List Token} {f a : TypeExpr} → ReadsAtype ts f us → Applies (first_place ts) f us a vs → ReadsBtype ts a vs

  -- f, which begins at this place, is applied to the types that follow
  pub data Applies : Place → TypeExpr → List Token → TypeExpr → List Token → Type 0 where
    no_more : {p : Place} {f : TypeExpr} {ts : List Token} → Applies p f ts f ts
    applied_to : {p : Place} {f x a : TypeExpr} {ts us vs : List Token} → ReadsAtype ts x us → Applies p (AType p (Apply f x)) us a vs → Applies p f ts a vs

  -- atype = conid | varid | number | "(" ")" | "(" type ")" | "(" type "," type ")" | "(" btype "+" btype ")"
  pub data ReadsAtype : List Token → TypeExpr → List Token → Type 0 where
    con : {t : Token} {us : List Token} {name : Name} → IsCon name t → ReadsAtype (t ∷ us) (AType t.place (Con name)) us
    var : {t : Token} {us : List Token} {name : Name} → IsVar name t → ReadsAtype (t ∷ us) (AType t.place (Var name)) us
    number : {t : Token} {us : List Token} {k : ℕ} → IsNumber k t → ReadsAtype (t ∷ us) (AType t.place (Number k)) us
    unit : {t s : Token} {us : List Token} → IsOpen t → IsClose s → ReadsAtype (t ∷ s ∷ us) (AType t.place Unit) us
    inside : {t s : Token} {ts us : List Token} {a : TypeExpr} → IsOpen t → ReadsType ts a (s ∷ us) → IsClose s → ReadsAtype (t ∷ ts) a us
    pair : {t s r : Token} {ts us vs : List Token} {a b : TypeExpr} → IsOpen t → ReadsType ts a (s ∷ us) → IsComma s → ReadsType us b (r ∷ vs) → IsClose r → ReadsAtype (t ∷ ts) (AType t.place (Pair a b)) vs
    sum : {t s r : Token} {ts us vs : List Token} {a b : TypeExpr} → IsOpen t → ReadsBtype ts a (s ∷ us) → IsOp plus s → ReadsBtype us b (r ∷ vs) → IsClose r → ReadsAtype (t ∷ ts) (AType t.place (Sum a b)) vs

-- atype*
pub data ReadsAtypes : List Token → List TypeExpr → List Token → Type 0 where
  no_atype : {ts : List Token} → ReadsAtypes ts [] ts
  atype_more : {ts us vs : List Token} {a : TypeExpr} {rest : List TypeExpr} → ReadsAtype ts a us → ReadsAtypes us rest vs → ReadsAtypes ts (a ∷ rest) vs

abbrev pub name_at : Token → Name → NameAt
name_at t name = record { place = t.place; name = name }

-- pred = conid atype+ | atype "+" atype "=" atype | atype "*" atype "=" atype | "2" "^" atype "=" atype | atype "<=" atype
pub data ReadsPred : List Token → PredExpr → List Token → Type 0 where
  of_class : {t : Token} {ts us vs : List Token} {name : Name} {a : TypeExpr} {rest : List TypeExpr} → IsCon name t → ReadsAtype ts a us → ReadsAtypes us rest vs → ReadsPred (t ∷ ts) (pred.Class (name_at t name) (a ∷ rest)) vs
  of_sum : {ts us vs ws : List Token} {s r : Token} {a b c : TypeExpr} → ReadsAtype ts a (s ∷ us) → IsOp plus s → ReadsAtype us b (r ∷ vs) → IsWord Equals r → ReadsAtype vs c ws → ReadsPred ts (pred.Sum a b c) ws
  of_product : {ts us vs ws : List Token} {s r : Token} {a b c : TypeExpr} → ReadsAtype ts a (s ∷ us) → IsOp times s → ReadsAtype us b (r ∷ vs) → IsWord Equals r → ReadsAtype vs c ws → ReadsPred ts (pred.Product a b c) ws
  of_power : {t s r : Token} {us vs ws : List Token} {a b : TypeExpr} → IsNumber 2 t → IsOp power s → ReadsAtype us a (r ∷ vs) → IsWord Equals r → ReadsAtype vs b ws → ReadsPred (t ∷ s ∷ us) (pred.Power a b) ws
  of_at_most : {ts us vs : List Token} {s : Token} {a b : TypeExpr} → ReadsAtype ts a (s ∷ us) → IsOp at_most s → ReadsAtype us b vs → ReadsPred ts (pred.AtMost a b) vs

-- sep(pred, ",")
pub data ReadsPreds : List Token → List PredExpr → List Token → Type 0 where
  last_pred : {ts us : List Token} {p : PredExpr} → ReadsPred ts p us → ReadsPreds ts (p ∷ []) us
  more_preds : {ts us vs : List Token} {t : Token} {p : PredExpr} {ps : List PredExpr} → ReadsPred ts p (t ∷ us) → IsComma t → ReadsPreds us ps vs → ReadsPreds ts (p ∷ ps) vs

-- context = pred | "(" sep(pred, ",") ")"
pub data ReadsContext : List Token → List PredExpr → List Token → Type 0 where
  one : {ts us : List Token} {p : PredExpr} → ReadsPred ts p us → ReadsContext ts (p ∷ []) us
  several : {t s : Token} {ts us : List Token} {ps : List PredExpr} → IsOpen t → ReadsPreds ts ps (s ∷ us) → IsClose s → ReadsContext (t ∷ ts) ps us
