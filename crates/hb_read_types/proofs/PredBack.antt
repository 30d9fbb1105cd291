-- What the reader of a predicate takes stands before the rest of the state after it.
use Rattle.std.proofs.Common.{◌≡◌, ℕ, ◌+◌, Bool, true, false, cond, List, [], ◌∷◌, Option, Some, None, is_some, refl, subst, arith}
use Rattle.std.specs.Prelude.{◌==◌}
use Rattle.std.proofs.lemmas.Bool.Decides.{nat_tests}
use Rattle.hb_base.specs.declared.place.Place.{Place}
use Rattle.hb_base.specs.declared.name.Name.{Name}
use Rattle.hb_tokens.specs.declared.token.Token.{Token}
use Rattle.hb_read_types.specs.declared.node.TypeNode.{TypeNode}
use Rattle.hb_read_types.specs.declared.node.TypeNode.TheVariants as node
use Rattle.hb_read_types.specs.declared.sort.Sort.{Sort}
use Rattle.hb_read_types.specs.declared.sort.Sort.TheVariants as sort
use Rattle.hb_read_types.specs.declared.type_reader.Frame.{Frame}
use Rattle.hb_read_types.specs.declared.type_reader.Now.{Now}
use Rattle.hb_read_types.specs.declared.type_reader.Now.TheVariants.{Want, Opened, Had}
use Rattle.hb_read_types.specs.declared.type_reader.TypeReader.{TypeReader}
use Rattle.hb_read_types.specs.declared.pred_reader.Fact.{Fact}
use Rattle.hb_read_types.specs.declared.pred_reader.Fact.TheVariants.{Sum, Product, Power, AtMost}
use Rattle.hb_read_types.specs.declared.pred_reader.PredStage.{PredStage}
use Rattle.hb_read_types.specs.declared.pred_reader.PredStage.TheVariants.{Begin, ClassOrType, PowerOrType, Class, First, Middle, Last}
use Rattle.hb_read_types.specs.declared.pred_reader.PredReader.{PredReader}
use Rattle.hb_read_types.specs.Sorts.{sort_of}
use Rattle.hb_stack.specs.Stacks.{first_of}
use Rattle.hb_read_types.specs.TypeMoves.{put, bracket_of, ended_nodes, ended_at, done_now, type_move, type_done}
use Rattle.hb_read_types.specs.PredMoves.{alone_whole, is_alone_whole, pred_state, nodes_of, alone_from, typed, operator, begin_pred, after_name, after_two, equals, after_type, in_type, move_pred_at, pred_move, pred_done_at, pred_done}
use Rattle.hb_read_types.proofs.Puts.{PutsAtype, atom}
use Rattle.hb_read_types.proofs.TypeBack.{Each, each_of, each_map, move_back, done_back}
use Rattle.hb_read_types.proofs.TypeExact.{start_atype}
use Rattle.hb_read_types.proofs.PredRest.{ArgsRest, args_end, args_more, last_end, MiddleRest, equals_next, FirstRest, plus_next, times_next, at_most_next, NameRest, name_args, name_fact, TwoRest, two_power, two_fact, PutsPred, class_pred, fact_pred, power_pred, StageRest, TypeThen, type_then, PredRestAt, PredRest}

-- a type that stands by itself, and what comes after it at this stage
pub data AtypeThen : PredStage → List TypeNode → List Token → List TypeNode → List Token → Type 0 where
  atype_then : {stage : PredStage} {ns ms ls : List TypeNode} {ts us vs : List Token} → PutsAtype ts ns ms us → StageRest stage ms us ls vs → AtypeThen stage ns ts ls vs

-- a stage in which a type is read
pub data Reads : PredStage → Type 0 where
  of_class : {p : Place} {n : Name} {c : ℕ} → Reads (Class p n c)
  of_first : Reads First
  of_middle : {f : Fact} → Reads (Middle f)
  of_last : {f : Fact} → Reads (Last f)

read_rest : {stage : PredStage} {r : TypeReader} {ts us : List Token} {ls : List TypeNode} → Reads stage → PredRest (pred_state stage r) ts ls us → TypeThen stage r ts ls us
read_rest of_class h = h
read_rest of_first h = h
read_rest of_middle h = h
read_rest of_last h = h

pub begun : {stage : PredStage} {ns ls : List TypeNode} {ts us : List Token} → Reads stage → PredRest (pred_state stage (alone_from ns)) ts ls us → AtypeThen stage ns ts ls us
begun of_class (type_then ms vs h g) = atype_then (start_atype h) g
begun of_first (type_then ms vs h g) = atype_then (start_atype h) g
begun of_middle (type_then ms vs h g) = atype_then (start_atype h) g
begun of_last (type_then ms vs h g) = atype_then (start_atype h) g

moved : (stage : PredStage) (r s : TypeReader) (t : Token) (ts us : List Token) (ls : List TypeNode) → type_move r t ≡ Some s → TypeThen stage s ts ls us → TypeThen stage r (t ∷ ts) ls us
moved stage r s t ts us ls e (type_then ms vs h g) = type_then ms vs (move_back r s t ts ms vs e h) g

typed_then : (stage : PredStage) (r : TypeReader) (t : Token) (ts us : List Token) (ls : List TypeNode) (o : Option TypeReader) → Reads stage → type_move r t ≡ o → Each (typed stage o) (λ s. PredRest s ts ls us → TypeThen stage r (t ∷ ts) ls us)
typed_then stage r t ts us ls None d e = tt
typed_then stage r t ts us ls (Some s) d e = λ h. moved stage r s t ts us ls e (read_rest d h)

then_begun : {stage : PredStage} {ns ls : List TypeNode} {ts us : List Token} → TypeThen stage (alone_from ns) ts ls us → AtypeThen stage ns ts ls us
then_begun (type_then ms vs h g) = atype_then (start_atype h) g

plus_back : {ns ls : List TypeNode} {t : Token} {ts us : List Token} → sort_of t ≡ sort.Plus → AtypeThen (Middle Sum) ns ts ls us → FirstRest ns (t ∷ ts) ls us
plus_back e (atype_then a h) = plus_next e a h

times_back : {ns ls : List TypeNode} {t : Token} {ts us : List Token} → sort_of t ≡ sort.Times → AtypeThen (Middle Product) ns ts ls us → FirstRest ns (t ∷ ts) ls us
times_back e (atype_then a h) = times_next e a h

at_most_back : {ns ls : List TypeNode} {t : Token} {ts us : List Token} → sort_of t ≡ sort.AtMost → AtypeThen (Last AtMost) ns ts ls us → FirstRest ns (t ∷ ts) ls us
at_most_back e (atype_then a last_end) = at_most_next e a

last_back : {f : Fact} {ns ls : List TypeNode} {t : Token} {ts us : List Token} → sort_of t ≡ sort.Equals → AtypeThen (Last f) ns ts ls us → MiddleRest f ns (t ∷ ts) ls us
last_back e (atype_then a last_end) = equals_next e a

-- the first token of a type
typed_begun : (stage : PredStage) (ns : List TypeNode) (t : Token) (ts us : List Token) (ls : List TypeNode) → Reads stage → Each (typed stage (type_move (alone_from ns) t)) (λ s. PredRest s ts ls us → AtypeThen stage ns (t ∷ ts) ls us)
typed_begun stage ns t ts us ls d =
    each_map (λ s. PredRest s ts ls us → TypeThen stage (alone_from ns) (t ∷ ts) ls us) (λ s. PredRest s ts ls us → AtypeThen stage ns (t ∷ ts) ls us) (typed stage (type_move (alone_from ns) t))
    (λ s f h. then_begun (f h)) (typed_then stage (alone_from ns) t ts us ls (type_move (alone_from ns) t) d refl)

operator_back : (ns : List TypeNode) (t : Token) (ts us : List Token) (ls : List TypeNode) (s : Sort) → sort_of t ≡ s → Each (operator ns s) (λ r. PredRest r ts ls us → FirstRest ns (t ∷ ts) ls us)
operator_back ns t ts us ls sort.Plus e = λ h. plus_back e (begun of_middle h)
operator_back ns t ts us ls sort.Times e = λ h. times_back e (begun of_middle h)
operator_back ns t ts us ls sort.AtMost e = λ h. at_most_back e (begun of_last h)
operator_back ns t ts us ls _ e = tt

begin_class : {p : Place} {n : Name} {ns ls : List TypeNode} {t : Token} {ts us : List Token} → sort_of t ≡ sort.Atom (node.Con p n) → NameRest p n ns ts ls us → PutsPred ns (t ∷ ts) ls us
begin_class e (name_args a h) = class_pred e a h
begin_class e (name_fact h) = fact_pred (atom e) h

begin_two : {p : Place} {ns ls : List TypeNode} {t : Token} {ts us : List Token} → sort_of t ≡ sort.Atom (node.Number p 2) → TwoRest p ns ts ls us → PutsPred ns (t ∷ ts) ls us
begin_two e (two_power c a h) = power_pred e c a h
begin_two e (two_fact h) = fact_pred (atom e) h

begin_fact : {ns ls : List TypeNode} {ts us : List Token} → AtypeThen First ns ts ls us → PutsPred ns ts ls us
begin_fact (atype_then a h) = fact_pred a h

fact_back : (ns : List TypeNode) (t : Token) (ts us : List Token) (ls : List TypeNode) → Each (typed First (type_move (alone_from ns) t)) (λ s. PredRest s ts ls us → PutsPred ns (t ∷ ts) ls us)
fact_back ns t ts us ls = each_map (λ s. PredRest s ts ls us → AtypeThen First ns (t ∷ ts) ls us) (λ s. PredRest s ts ls us → PutsPred ns (t ∷ ts) ls us) (typed First (type_move (alone_from ns) t)) (λ s f h. begin_fact (f h)) (typed_begun First ns t ts us ls of_first)

number_back : (p : Place) (k : ℕ) (ns : List TypeNode) (t : Token) (ts us : List Token) (ls : List TypeNode) (b : Bool) → (k == 2) ≡ b → sort_of t ≡ sort.Atom (node.Number p k) → Each (cond b (Some (pred_state (PowerOrType p) (alone_from ns))) (typed First (type_move (alone_from ns) t))) (λ s. PredRest s ts ls us → PutsPred ns (t ∷ ts) ls us)
number_back p k ns t ts us ls true d e = let two : k ≡ 2 = grind (arith, nat_tests, d) in let P : ℕ → Type 0 = λ v. sort_of t ≡ sort.Atom (node.Number p v) in λ h. begin_two (subst P two e) h
number_back p k ns t ts us ls false d e = fact_back ns t ts us ls

begin_back : (ns : List TypeNode) (t : Token) (ts us : List Token) (ls : List TypeNode) (s : Sort) → sort_of t ≡ s → Each (begin_pred ns t s) (λ r. PredRest r ts ls us → PutsPred ns (t ∷ ts) ls us)
begin_back ns t ts us ls (sort.Atom (node.Con p n)) e = λ h. begin_class e h
begin_back ns t ts us ls (sort.Atom (node.Number p k)) e = number_back p k ns t ts us ls (k == 2) refl e
begin_back ns t ts us ls (sort.Atom _) e = fact_back ns t ts us ls
begin_back ns t ts us ls _ e = fact_back ns t ts us ls

name_of_args : {p : Place} {n : Name} {ns ls : List TypeNode} {ts us : List Token} → AtypeThen (Class p n 1) ns ts ls us → NameRest p n ns ts ls us
name_of_args (atype_then a h) = name_args a h

args_back : (p : Place) (n : Name) (ns : List TypeNode) (t : Token) (ts us : List Token) (ls : List TypeNode) → Each (typed (Class p n 1) (type_move (alone_from ns) t)) (λ r. PredRest r ts ls us → NameRest p n ns (t ∷ ts) ls us)
args_back p n ns t ts us ls = each_map (λ s. PredRest s ts ls us → AtypeThen (Class p n 1) ns (t ∷ ts) ls us) (λ s. PredRest s ts ls us → NameRest p n ns (t ∷ ts) ls us) (typed (Class p n 1) (type_move (alone_from ns) t)) (λ s f h. name_of_args (f h)) (typed_begun (Class p n 1) ns t ts us ls of_class)

name_operator_back : (p : Place) (n : Name) (ns : List TypeNode) (t : Token) (ts us : List Token) (ls : List TypeNode) (s : Sort) → sort_of t ≡ s → Each (operator (put ns (node.Con p n)) s) (λ r. PredRest r ts ls us → NameRest p n ns (t ∷ ts) ls us)
name_operator_back p n ns t ts us ls s e = each_map (λ r. PredRest r ts ls us → FirstRest (put ns (node.Con p n)) (t ∷ ts) ls us) (λ r. PredRest r ts ls us → NameRest p n ns (t ∷ ts) ls us) (operator (put ns (node.Con p n)) s) (λ r f h. name_fact (f h)) (operator_back (put ns (node.Con p n)) t ts us ls s e)

name_back : (p : Place) (n : Name) (ns : List TypeNode) (t : Token) (ts us : List Token) (ls : List TypeNode) (s : Sort) → sort_of t ≡ s → Each (after_name p n ns t s) (λ r. PredRest r ts ls us → NameRest p n ns (t ∷ ts) ls us)
name_back p n ns t ts us ls sort.Plus e = name_operator_back p n ns t ts us ls sort.Plus e
name_back p n ns t ts us ls sort.Times e = name_operator_back p n ns t ts us ls sort.Times e
name_back p n ns t ts us ls sort.AtMost e = name_operator_back p n ns t ts us ls sort.AtMost e
name_back p n ns t ts us ls _ e = args_back p n ns t ts us ls

two_operator_back : (p : Place) (ns : List TypeNode) (t : Token) (ts us : List Token) (ls : List TypeNode) (s : Sort) → sort_of t ≡ s → Each (operator (put ns (node.Number p 2)) s) (λ r. PredRest r ts ls us → TwoRest p ns (t ∷ ts) ls us)
two_operator_back p ns t ts us ls s e = each_map (λ r. PredRest r ts ls us → FirstRest (put ns (node.Number p 2)) (t ∷ ts) ls us) (λ r. PredRest r ts ls us → TwoRest p ns (t ∷ ts) ls us) (operator (put ns (node.Number p 2)) s) (λ r f h. two_fact (f h)) (operator_back (put ns (node.Number p 2)) t ts us ls s e)

power_back : {p : Place} {ns ls : List TypeNode} {t : Token} {ts us : List Token} → sort_of t ≡ sort.Power → AtypeThen (Middle Power) ns ts ls us → TwoRest p ns (t ∷ ts) ls us
power_back e (atype_then a h) = two_power e a h

two_back : (p : Place) (ns : List TypeNode) (t : Token) (ts us : List Token) (ls : List TypeNode) (s : Sort) → sort_of t ≡ s → Each (after_two p ns s) (λ r. PredRest r ts ls us → TwoRest p ns (t ∷ ts) ls us)
two_back p ns t ts us ls sort.Power e = λ h. power_back e (begun of_middle h)
two_back p ns t ts us ls sort.Plus e = two_operator_back p ns t ts us ls sort.Plus e
two_back p ns t ts us ls sort.Times e = two_operator_back p ns t ts us ls sort.Times e
two_back p ns t ts us ls sort.AtMost e = two_operator_back p ns t ts us ls sort.AtMost e
two_back p ns t ts us ls _ e = tt

equals_back : (f : Fact) (ns : List TypeNode) (t : Token) (ts us : List Token) (ls : List TypeNode) (s : Sort) → sort_of t ≡ s → Each (equals f ns s) (λ r. PredRest r ts ls us → MiddleRest f ns (t ∷ ts) ls us)
equals_back f ns t ts us ls sort.Equals e = λ h. last_back e (begun of_last h)
equals_back f ns t ts us ls _ e = tt

more_args : {p : Place} {n : Name} {c : ℕ} {ns ls : List TypeNode} {ts us : List Token} → AtypeThen (Class p n (c + 1)) ns ts ls us → ArgsRest p n c ns ts ls us
more_args (atype_then a h) = args_more a h

-- after a type
after_back : (stage : PredStage) (ns : List TypeNode) (t : Token) (ts us : List Token) (ls : List TypeNode) → Each (after_type stage ns t (sort_of t)) (λ r. PredRest r ts ls us → StageRest stage ns (t ∷ ts) ls us)
after_back Begin ns t ts us ls = tt
after_back (ClassOrType p n) ns t ts us ls = tt
after_back (PowerOrType p) ns t ts us ls = tt
after_back (Class p n c) ns t ts us ls = each_map (λ s. PredRest s ts ls us → AtypeThen (Class p n (c + 1)) ns (t ∷ ts) ls us) (λ s. PredRest s ts ls us → ArgsRest p n c ns (t ∷ ts) ls us) (typed (Class p n (c + 1)) (type_move (alone_from ns) t)) (λ s f h. more_args (f h)) (typed_begun (Class p n (c + 1)) ns t ts us ls of_class)
after_back First ns t ts us ls = operator_back ns t ts us ls (sort_of t) refl
after_back (Middle f) ns t ts us ls = equals_back f ns t ts us ls (sort_of t) refl
after_back (Last f) ns t ts us ls = tt

whole_done : (now : Now) (frames : List Frame) (ns : List TypeNode) → alone_whole now (first_of frames) ≡ true → done_now now frames ns ≡ Some (ended_nodes frames ns)
whole_done Want frames ns e = cc
whole_done (Opened bracket spot) frames ns e = cc
whole_done (Had head) [] ns e = refl
whole_done (Had head) (frame ∷ frames) ns e = cc

-- the nodes where a type is at its end
pub done_nodes : (r : TypeReader) → is_alone_whole r ≡ true → type_done r ≡ Some (nodes_of r)
unfolding type_done
done_nodes r e = whole_done r.stage r.frames r.nodes e

at_some : (o : Option Frame) (ns : List TypeNode) → is_some (ended_at o ns) ≡ true → ended_at o ns ≡ Some ns
at_some None ns e = refl
at_some (Some f) ns e = cc

done_some : (now : Now) (frames : List Frame) (ns : List TypeNode) → is_some (done_now now frames ns) ≡ true → done_now now frames ns ≡ Some (ended_nodes frames ns)
done_some Want frames ns e = cc
done_some (Opened bracket spot) frames ns e = cc
done_some (Had head) frames ns e = at_some (bracket_of frames) (ended_nodes frames ns) e

pub some_nodes : (r : TypeReader) → is_some (type_done r) ≡ true → type_done r ≡ Some (nodes_of r)
unfolding type_done
some_nodes r e = done_some r.stage r.frames r.nodes e

pub each_choice : {A : Type 0} (P : A → Type 0) → (b : Bool) (o p : Option A) → (b ≡ true → Each o P) → (b ≡ false → Each p P) → Each (cond b o p) P
each_choice P true o p f g = f refl
each_choice P false o p f g = g refl

in_back : (stage : PredStage) (r : TypeReader) (t : Token) (ts us : List Token) (ls : List TypeNode) → Reads stage → Each (in_type stage r t) (λ s. PredRest s ts ls us → TypeThen stage r (t ∷ ts) ls us)
in_back stage r t ts us ls d =
    each_choice (λ s. PredRest s ts ls us → TypeThen stage r (t ∷ ts) ls us) (is_alone_whole r) (after_type stage (nodes_of r) t (sort_of t)) (typed stage (type_move r t))
    (λ e. each_map (λ s. PredRest s ts ls us → StageRest stage (nodes_of r) (t ∷ ts) ls us) (λ s. PredRest s ts ls us → TypeThen stage r (t ∷ ts) ls us) (after_type stage (nodes_of r) t (sort_of t)) (λ s f h. type_then (nodes_of r) (t ∷ ts) (done_back r (t ∷ ts) (nodes_of r) (done_nodes r e)) (f h)) (after_back stage (nodes_of r) t ts us ls))
    (λ e. typed_then stage r t ts us ls (type_move r t) d refl)

at_back : (stage : PredStage) (r : TypeReader) (t : Token) (ts us : List Token) (ls : List TypeNode) → Each (move_pred_at stage r t) (λ s. PredRest s ts ls us → PredRestAt stage r (t ∷ ts) ls us)
at_back Begin r t ts us ls = begin_back (nodes_of r) t ts us ls (sort_of t) refl
at_back (ClassOrType p n) r t ts us ls = name_back p n (nodes_of r) t ts us ls (sort_of t) refl
at_back (PowerOrType p) r t ts us ls = two_back p (nodes_of r) t ts us ls (sort_of t) refl
at_back (Class p n c) r t ts us ls = in_back (Class p n c) r t ts us ls of_class
at_back First r t ts us ls = in_back First r t ts us ls of_first
at_back (Middle f) r t ts us ls = in_back (Middle f) r t ts us ls of_middle
at_back (Last f) r t ts us ls = in_back (Last f) r t ts us ls of_last

pub pred_move_back : (r s : PredReader) (t : Token) (ts : List Token) (ls : List TypeNode) (us : List Token) → pred_move r t ≡ Some s → PredRest s ts ls us → PredRest r (t ∷ ts) ls us
unfolding pred_move
pred_move_back r s t ts ls us e = each_of (λ q. PredRest q ts ls us → PredRest r (t ∷ ts) ls us) (pred_move r t) (at_back r.stage r.types t ts us ls) e

pred_done_now : (stage : PredStage) (r : TypeReader) (o : Option (List TypeNode)) (ts : List Token) → type_done r ≡ o → Each (pred_done_at stage o) (λ ls. PredRestAt stage r ts ls ts)
pred_done_now (Class p n c) r (Some ns) ts e = type_then ns ts (done_back r ts ns e) args_end
pred_done_now (Last f) r (Some ns) ts e = type_then ns ts (done_back r ts ns e) last_end
pred_done_now (Class p n c) r None ts e = tt
pred_done_now (Last f) r None ts e = tt
pred_done_now Begin r o ts e = tt
pred_done_now (ClassOrType p n) r o ts e = tt
pred_done_now (PowerOrType p) r o ts e = tt
pred_done_now First r o ts e = tt
pred_done_now (Middle f) r o ts e = tt

pub pred_done_back : (r : PredReader) (ts : List Token) (ls : List TypeNode) → pred_done r ≡ Some ls → PredRest r ts ls ts
unfolding pred_done
pred_done_back r ts ls e = each_of (λ ms. PredRest r ts ms ts) (pred_done r) (pred_done_now r.stage r.types (type_done r.types) ts refl) e
