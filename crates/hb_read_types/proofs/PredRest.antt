-- Predicates without their trees, and what the tokens ahead must be to end what the reader of a predicate has begun.
use Rattle.std.proofs.Common.{◌≡◌, ℕ, ◌+◌, List, ◌∷◌}
use Rattle.hb_base.specs.declared.place.Place.{Place}
use Rattle.hb_base.specs.declared.name.Name.{Name}
use Rattle.hb_tokens.specs.declared.token.Token.{Token}
use Rattle.hb_read_types.specs.declared.node.TypeNode.{TypeNode}
use Rattle.hb_read_types.specs.declared.node.TypeNode.TheVariants as node
use Rattle.hb_read_types.specs.declared.sort.Sort.TheVariants as sort
use Rattle.hb_read_types.specs.declared.type_reader.TypeReader.{TypeReader}
use Rattle.hb_read_types.specs.declared.pred_reader.Fact.{Fact}
use Rattle.hb_read_types.specs.declared.pred_reader.Fact.TheVariants.{Sum, Product, Power, AtMost}
use Rattle.hb_read_types.specs.declared.pred_reader.PredStage.{PredStage}
use Rattle.hb_read_types.specs.declared.pred_reader.PredStage.TheVariants.{Begin, ClassOrType, PowerOrType, Class, First, Middle, Last}
use Rattle.hb_read_types.specs.declared.pred_reader.PredReader.{PredReader}
use Rattle.hb_read_types.specs.Sorts.{sort_of}
use Rattle.hb_read_types.specs.TypeMoves.{put}
use Rattle.hb_read_types.specs.PredMoves.{nodes_of, fact_node}
use Rattle.hb_read_types.proofs.Puts.{PutsAtype}
use Rattle.hb_read_types.proofs.TypeRest.{Rest}

-- after so many types of a class
pub data ArgsRest : Place → Name → ℕ → List TypeNode → List Token → List TypeNode → List Token → Type 0 where
  args_end : {p : Place} {n : Name} {c : ℕ} {ns : List TypeNode} {ts : List Token} → ArgsRest p n c ns ts (put ns (node.Class p n c)) ts
  args_more : {p : Place} {n : Name} {c : ℕ} {ns ms ls : List TypeNode} {ts us vs : List Token} → PutsAtype ts ns ms us → ArgsRest p n (c + 1) ms us ls vs → ArgsRest p n c ns ts ls vs

-- after the last type of a fact
pub data LastRest : Fact → List TypeNode → List Token → List TypeNode → List Token → Type 0 where
  last_end : {f : Fact} {ns : List TypeNode} {ts : List Token} → LastRest f ns ts (put ns (fact_node f)) ts

-- before the `=` of a fact
pub data MiddleRest : Fact → List TypeNode → List Token → List TypeNode → List Token → Type 0 where
  equals_next : {f : Fact} {ns ms : List TypeNode} {t : Token} {ts us : List Token} → sort_of t ≡ sort.Equals → PutsAtype ts ns ms us → MiddleRest f ns (t ∷ ts) (put ms (fact_node f)) us

-- after the first type of a fact
pub data FirstRest : List TypeNode → List Token → List TypeNode → List Token → Type 0 where
  plus_next : {ns ms ls : List TypeNode} {t : Token} {ts us vs : List Token} → sort_of t ≡ sort.Plus → PutsAtype ts ns ms us → MiddleRest Sum ms us ls vs → FirstRest ns (t ∷ ts) ls vs
  times_next : {ns ms ls : List TypeNode} {t : Token} {ts us vs : List Token} → sort_of t ≡ sort.Times → PutsAtype ts ns ms us → MiddleRest Product ms us ls vs → FirstRest ns (t ∷ ts) ls vs
  at_most_next : {ns ms : List TypeNode} {t : Token} {ts us : List Token} → sort_of t ≡ sort.AtMost → PutsAtype ts ns ms us → FirstRest ns (t ∷ ts) (put ms (fact_node AtMost)) us

-- after a name alone
pub data NameRest : Place → Name → List TypeNode → List Token → List TypeNode → List Token → Type 0 where
  name_args : {p : Place} {n : Name} {ns ms ls : List TypeNode} {ts us vs : List Token} → PutsAtype ts ns ms us → ArgsRest p n 1 ms us ls vs → NameRest p n ns ts ls vs
  name_fact : {p : Place} {n : Name} {ns ls : List TypeNode} {ts us : List Token} → FirstRest (put ns (node.Con p n)) ts ls us → NameRest p n ns ts ls us

-- after the number 2 alone
pub data TwoRest : Place → List TypeNode → List Token → List TypeNode → List Token → Type 0 where
  two_power : {p : Place} {ns ms ls : List TypeNode} {t : Token} {ts us vs : List Token} → sort_of t ≡ sort.Power → PutsAtype ts ns ms us → MiddleRest Power ms us ls vs → TwoRest p ns (t ∷ ts) ls vs
  two_fact : {p : Place} {ns ls : List TypeNode} {ts us : List Token} → FirstRest (put ns (node.Number p 2)) ts ls us → TwoRest p ns ts ls us

pub data PutsPred : List TypeNode → List Token → List TypeNode → List Token → Type 0 where
  class_pred : {p : Place} {n : Name} {ns ms ls : List TypeNode} {t : Token} {ts us vs : List Token} → sort_of t ≡ sort.Atom (node.Con p n) → PutsAtype ts ns ms us → ArgsRest p n 1 ms us ls vs → PutsPred ns (t ∷ ts) ls vs
  fact_pred : {ns ms ls : List TypeNode} {ts us vs : List Token} → PutsAtype ts ns ms us → FirstRest ms us ls vs → PutsPred ns ts ls vs
  power_pred : {p : Place} {ns ms ls : List TypeNode} {t s : Token} {ts us vs : List Token} → sort_of t ≡ sort.Atom (node.Number p 2) → sort_of s ≡ sort.Power → PutsAtype ts ns ms us → MiddleRest Power ms us ls vs → PutsPred ns (t ∷ s ∷ ts) ls vs

-- after the type that is read
abbrev pub StageRest : PredStage → List TypeNode → List Token → List TypeNode → List Token → Type 0
StageRest (Class place name count) ns ts ls us = ArgsRest place name count ns ts ls us
StageRest First ns ts ls us = FirstRest ns ts ls us
StageRest (Middle fact) ns ts ls us = MiddleRest fact ns ts ls us
StageRest (Last fact) ns ts ls us = LastRest fact ns ts ls us
StageRest _ ns ts ls us = ⊥

pub data TypeThen : PredStage → TypeReader → List Token → List TypeNode → List Token → Type 0 where
  type_then : {stage : PredStage} {r : TypeReader} {ls : List TypeNode} {ts vs : List Token} → (ms : List TypeNode) (us : List Token) → Rest r ts ms us → StageRest stage ms us ls vs → TypeThen stage r ts ls vs

abbrev pub PredRestAt : PredStage → TypeReader → List Token → List TypeNode → List Token → Type 0
PredRestAt Begin r ts ls us = PutsPred (nodes_of r) ts ls us
PredRestAt (ClassOrType place name) r ts ls us = NameRest place name (nodes_of r) ts ls us
PredRestAt (PowerOrType place) r ts ls us = TwoRest place (nodes_of r) ts ls us
PredRestAt stage r ts ls us = TypeThen stage r ts ls us

abbrev pub PredRest : PredReader → List Token → List TypeNode → List Token → Type 0
PredRest r ts ls us = PredRestAt r.stage r.types ts ls us
