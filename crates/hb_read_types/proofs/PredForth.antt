-- Before its rest a reader of a predicate is at its end, or takes the next token and stands before the rest of that.
use Rattle.std.proofs.Common.{◌≡◌, ℕ, ◌+◌, Bool, true, false, cond, List, ◌∷◌, Option, Some, None, is_some, refl, sym, ap, subst, ◌∙◌, arith}
use Rattle.std.specs.Prelude.{◌==◌}
use Rattle.std.proofs.lemmas.Bool.Decides.{nat_tests}
use Rattle.hb_base.specs.declared.place.Place.{Place}
use Rattle.hb_base.specs.declared.name.Name.{Name}
use Rattle.hb_tokens.specs.declared.token.Token.{Token}
use Rattle.hb_read_types.specs.declared.node.TypeNode.{TypeNode}
use Rattle.hb_read_types.specs.declared.node.TypeNode.TheVariants as node
use Rattle.hb_read_types.specs.declared.sort.Sort.{Sort}
use Rattle.hb_read_types.specs.declared.sort.Sort.TheVariants as sort
use Rattle.hb_read_types.specs.declared.type_reader.TypeReader.{TypeReader}
use Rattle.hb_read_types.specs.declared.pred_reader.Fact.TheVariants.{Sum, Product, AtMost}
use Rattle.hb_read_types.specs.declared.pred_reader.PredStage.{PredStage}
use Rattle.hb_read_types.specs.declared.pred_reader.PredStage.TheVariants.{Begin, ClassOrType, PowerOrType, Class, First, Middle, Last}
use Rattle.hb_read_types.specs.declared.pred_reader.PredReader.{PredReader}
use Rattle.hb_read_types.specs.Sorts.{sort_of}
use Rattle.hb_read_types.specs.TypeMoves.{put, type_move, type_done}
use Rattle.hb_read_types.specs.PredMoves.{is_alone_whole, pred_state, nodes_of, alone_from, typed, begin_pred, after_name, after_two, after_type, in_type, move_pred_at, pred_move, pred_done_at, pred_done}
use Rattle.hb_read_types.proofs.Puts.{PutsAtype, atom, unit, inside, pair, sum}
use Rattle.hb_read_types.proofs.TypeRest.{Rest}
use Rattle.hb_read_types.proofs.TypeForth.{Goes, stops, takes, goes}
use Rattle.hb_read_types.proofs.TypeExact.{atype_start}
use Rattle.hb_read_types.proofs.Alone.{Alone, alone_done, alone_is_whole}
use Rattle.hb_read_types.proofs.PredRest.{ArgsRest, args_end, args_more, last_end, equals_next, FirstRest, plus_next, times_next, at_most_next, NameRest, name_args, name_fact, TwoRest, two_power, two_fact, PutsPred, class_pred, fact_pred, power_pred, StageRest, TypeThen, type_then, PredRestAt, PredRest}
use Rattle.hb_read_types.proofs.PredBack.{Reads, of_class, of_first, of_middle, of_last, done_nodes}

pub data PredGoes : PredReader → List Token → List TypeNode → List Token → Type 0 where
  pred_stops : {r : PredReader} {ts : List Token} {ls : List TypeNode} → pred_done r ≡ Some ls → PredGoes r ts ls ts
  pred_takes : {r s : PredReader} {t : Token} {ts us : List Token} {ls : List TypeNode} → pred_move r t ≡ Some s → PredRest s ts ls us → PredGoes r (t ∷ ts) ls us

data At : PredStage → TypeReader → List Token → List TypeNode → List Token → Type 0 where
  at_stops : {stage : PredStage} {r : TypeReader} {ts : List Token} {ls : List TypeNode} → pred_done_at stage (type_done r) ≡ Some ls → At stage r ts ls ts
  at_takes : {stage : PredStage} {r : TypeReader} {s : PredReader} {t : Token} {ts us : List Token} {ls : List TypeNode} → move_pred_at stage r t ≡ Some s → PredRest s ts ls us → At stage r (t ∷ ts) ls us

not_done : (ns ms : List TypeNode) → type_done (alone_from ns) ≡ Some ms → ⊥
unfolding type_done
not_done ns ms e = cc

-- a type that stands by itself begins with a token that its reader takes
data Starts : List TypeNode → List Token → List TypeNode → List Token → Type 0 where
  starts : {ns ms : List TypeNode} {r : TypeReader} {t : Token} {ts us : List Token} → type_move (alone_from ns) t ≡ Some r → Rest r ts ms us → Starts ns (t ∷ ts) ms us

started : {ns ms : List TypeNode} {ts us : List Token} → Goes (alone_from ns) ts ms us → Starts ns ts ms us
started {ns} {ms} (stops e) = absurd (not_done ns ms e)
started (takes e h) = starts e h

atype_starts : {ns ms : List TypeNode} {ts us : List Token} → PutsAtype ts ns ms us → Starts ns ts ms us
atype_starts {ns} {ms} {ts} {us} a = started (goes (alone_from ns) ts ms us (atype_start a))

-- that token is an atom or a bracket
data Heads : List Token → Type 0 where
  atom_heads : {n : TypeNode} {t : Token} {ts : List Token} → sort_of t ≡ sort.Atom n → Heads (t ∷ ts)
  open_heads : {t : Token} {ts : List Token} → sort_of t ≡ sort.Open → Heads (t ∷ ts)

heads : {ns ms : List TypeNode} {ts us : List Token} → PutsAtype ts ns ms us → Heads ts
heads (atom e) = atom_heads e
heads (unit o c) = open_heads o
heads (inside o a c) = open_heads o
heads (pair o a k b c) = open_heads o
heads (sum o a p b c) = open_heads o

typed_is : (stage : PredStage) {o : Option TypeReader} {r : TypeReader} → o ≡ Some r → typed stage o ≡ Some (pred_state stage r)
typed_is stage e = ap (typed stage) e

then_rest : {stage : PredStage} {r : TypeReader} {ts us : List Token} {ls : List TypeNode} → Reads stage → TypeThen stage r ts ls us → PredRest (pred_state stage r) ts ls us
then_rest of_class h = h
then_rest of_first h = h
then_rest of_middle h = h
then_rest of_last h = h

begin_takes : {r : TypeReader} {s : Sort} {q : PredReader} {t : Token} {ts us : List Token} {ls : List TypeNode} → sort_of t ≡ s → begin_pred (nodes_of r) t s ≡ Some q → PredRest q ts ls us → At Begin r (t ∷ ts) ls us
begin_takes {r} {q} {t} e f h = let P : Sort → Type 0 = λ v. begin_pred (nodes_of r) t v ≡ Some q in at_takes (subst P (sym e) f) h

name_takes : {p : Place} {n : Name} {r : TypeReader} {s : Sort} {q : PredReader} {t : Token} {ts us : List Token} {ls : List TypeNode} → sort_of t ≡ s → after_name p n (nodes_of r) t s ≡ Some q → PredRest q ts ls us → At (ClassOrType p n) r (t ∷ ts) ls us
name_takes {p} {n} {r} {q} {t} e f h = let P : Sort → Type 0 = λ v. after_name p n (nodes_of r) t v ≡ Some q in at_takes (subst P (sym e) f) h

two_takes : {p : Place} {r : TypeReader} {s : Sort} {q : PredReader} {t : Token} {ts us : List Token} {ls : List TypeNode} → sort_of t ≡ s → after_two p (nodes_of r) s ≡ Some q → PredRest q ts ls us → At (PowerOrType p) r (t ∷ ts) ls us
two_takes {p} {r} {q} {t} e f h = let P : Sort → Type 0 = λ v. after_two p (nodes_of r) v ≡ Some q in at_takes (subst P (sym e) f) h

name_starts : {p : Place} {n : Name} {r : TypeReader} {ms ls : List TypeNode} {ts us vs : List Token} → Heads ts → Starts (nodes_of r) ts ms us → ArgsRest p n 1 ms us ls vs → At (ClassOrType p n) r ts ls vs
name_starts {p} {n} {ms} {us} (atom_heads s) (starts e g) h = name_takes s (typed_is (Class p n 1) e) (type_then ms us g h)
name_starts {p} {n} {ms} {us} (open_heads s) (starts e g) h = name_takes s (typed_is (Class p n 1) e) (type_then ms us g h)

name_forth : {p : Place} {n : Name} {r : TypeReader} {ts us : List Token} {ls : List TypeNode} → NameRest p n (nodes_of r) ts ls us → At (ClassOrType p n) r ts ls us
name_forth (name_args a h) = name_starts (heads a) (atype_starts a) h
name_forth (name_fact (plus_next {ms} {us} e a h)) = name_takes e refl (type_then ms us (atype_start a) h)
name_forth (name_fact (times_next {ms} {us} e a h)) = name_takes e refl (type_then ms us (atype_start a) h)
name_forth (name_fact (at_most_next {ms} {us} e a)) = name_takes e refl (type_then ms us (atype_start a) last_end)

two_forth : {p : Place} {r : TypeReader} {ts us : List Token} {ls : List TypeNode} → TwoRest p (nodes_of r) ts ls us → At (PowerOrType p) r ts ls us
two_forth (two_power {ms} {us} e a h) = two_takes e refl (type_then ms us (atype_start a) h)
two_forth (two_fact (plus_next {ms} {us} e a h)) = two_takes e refl (type_then ms us (atype_start a) h)
two_forth (two_fact (times_next {ms} {us} e a h)) = two_takes e refl (type_then ms us (atype_start a) h)
two_forth (two_fact (at_most_next {ms} {us} e a)) = two_takes e refl (type_then ms us (atype_start a) last_end)

fact_starts : {r : TypeReader} {ms ls : List TypeNode} {t : Token} {ts us vs : List Token} → (s : Sort) → sort_of t ≡ s → begin_pred (nodes_of r) t s ≡ typed First (type_move (alone_from (nodes_of r)) t) → Starts (nodes_of r) (t ∷ ts) ms us → FirstRest ms us ls vs → At Begin r (t ∷ ts) ls vs
fact_starts {ms} {us} s e f (starts d g) h = begin_takes e (f ∙ typed_is First d) (type_then ms us g h)

number_forth : {r : TypeReader} {ls : List TypeNode} {t : Token} {ts vs : List Token} (p : Place) (k : ℕ) (b : Bool) → (k == 2) ≡ b → sort_of t ≡ sort.Atom (node.Number p k) → FirstRest (put (nodes_of r) (node.Number p k)) ts ls vs → At Begin r (t ∷ ts) ls vs
number_forth {r} {ls} {t} {ts} {vs} p k true d e h =
    let two : k ≡ 2 = grind (arith, nat_tests, d) in
    let P : ℕ → Type 0 = λ v. sort_of t ≡ sort.Atom (node.Number p v) in
    let Q : ℕ → Type 0 = λ v. FirstRest (put (nodes_of r) (node.Number p v)) ts ls vs in
    begin_takes (subst P two e) refl (two_fact (subst Q two h))
number_forth {r} {t} p k false d e h =
    let P : Bool → Type 0 = λ v. cond v (Some (pred_state (PowerOrType p) (alone_from (nodes_of r)))) (typed First (type_move (alone_from (nodes_of r)) t)) ≡ typed First (type_move (alone_from (nodes_of r)) t) in
    fact_starts (sort.Atom (node.Number p k)) e (subst P (sym d) refl) (atype_starts (atom e)) h

atom_forth : {r : TypeReader} {ls : List TypeNode} {t : Token} {ts vs : List Token} (n : TypeNode) → sort_of t ≡ sort.Atom n → FirstRest (put (nodes_of r) n) ts ls vs → At Begin r (t ∷ ts) ls vs
atom_forth (node.Con p n) e h = begin_takes e refl (name_fact h)
atom_forth (node.Number p k) e h = number_forth p k (k == 2) refl e h
atom_forth (node.Var p n) e h = fact_starts (sort.Atom (node.Var p n)) e refl (atype_starts (atom e)) h
atom_forth (node.Unit p) e h = fact_starts (sort.Atom (node.Unit p)) e refl (atype_starts (atom e)) h
atom_forth (node.Pair p) e h = fact_starts (sort.Atom (node.Pair p)) e refl (atype_starts (atom e)) h
atom_forth (node.Apply p) e h = fact_starts (sort.Atom (node.Apply p)) e refl (atype_starts (atom e)) h
atom_forth (node.Arrow p) e h = fact_starts (sort.Atom (node.Arrow p)) e refl (atype_starts (atom e)) h
atom_forth (node.Sum p) e h = fact_starts (sort.Atom (node.Sum p)) e refl (atype_starts (atom e)) h
atom_forth (node.Class p n c) e h = fact_starts (sort.Atom (node.Class p n c)) e refl (atype_starts (atom e)) h
atom_forth node.SumFact e h = fact_starts (sort.Atom node.SumFact) e refl (atype_starts (atom e)) h
atom_forth node.ProductFact e h = fact_starts (sort.Atom node.ProductFact) e refl (atype_starts (atom e)) h
atom_forth node.PowerFact e h = fact_starts (sort.Atom node.PowerFact) e refl (atype_starts (atom e)) h
atom_forth node.AtMostFact e h = fact_starts (sort.Atom node.AtMostFact) e refl (atype_starts (atom e)) h
atom_forth (node.Context c) e h = fact_starts (sort.Atom (node.Context c)) e refl (atype_starts (atom e)) h

begin_forth : {r : TypeReader} {ts us : List Token} {ls : List TypeNode} → PutsPred (nodes_of r) ts ls us → At Begin r ts ls us
begin_forth (class_pred e a h) = begin_takes e refl (name_args a h)
begin_forth (power_pred e c a h) = begin_takes e refl (two_power c a h)
begin_forth (fact_pred (atom {n} e) h) = atom_forth n e h
begin_forth (fact_pred (unit o c) h) = fact_starts sort.Open o refl (atype_starts (unit o c)) h
begin_forth (fact_pred (inside o a c) h) = fact_starts sort.Open o refl (atype_starts (inside o a c)) h
begin_forth (fact_pred (pair o a k b c) h) = fact_starts sort.Open o refl (atype_starts (pair o a k b c)) h
begin_forth (fact_pred (sum o a p b c) h) = fact_starts sort.Open o refl (atype_starts (sum o a p b c)) h

some_is : {A : Type 0} (a b : A) → Some a ≡ Some b → a ≡ b
some_is a b e = cc

if_is : {A : Type 0} (b : Bool) (o p : A) → b ≡ true → cond b o p ≡ o
if_is true o p e = refl
if_is false o p e = cc

if_not : {A : Type 0} (b : Bool) (o p : A) → b ≡ false → cond b o p ≡ p
if_not false o p e = refl
if_not true o p e = cc

in_after : (stage : PredStage) (r : TypeReader) (ms : List TypeNode) (t : Token) (s : Sort) (q : PredReader) → Alone r → type_done r ≡ Some ms → sort_of t ≡ s → after_type stage ms t s ≡ Some q → in_type stage r t ≡ Some q
in_after stage r ms t s q a e d f =
    let whole : is_alone_whole r ≡ true = alone_is_whole r a (ap is_some e) in
    let nodes : ms ≡ nodes_of r = some_is ms (nodes_of r) (sym e ∙ done_nodes r whole) in
    let P : List TypeNode → Type 0 = λ v. after_type stage v t (sort_of t) ≡ Some q in
    let Q : Sort → Type 0 = λ v. after_type stage ms t v ≡ Some q in
    if_is (is_alone_whole r) (after_type stage (nodes_of r) t (sort_of t)) (typed stage (type_move r t)) whole ∙ subst P nodes (subst Q (sym d) f)

not_whole : (r : TypeReader) (b : Bool) → is_alone_whole r ≡ b → type_done r ≡ None → is_alone_whole r ≡ false
not_whole r true e d = let done : type_done r ≡ Some (nodes_of r) = done_nodes r e in cc
not_whole r false e d = e

in_typed : (stage : PredStage) (r s : TypeReader) (t : Token) → type_done r ≡ None → type_move r t ≡ Some s → in_type stage r t ≡ Some (pred_state stage s)
in_typed stage r s t e f = if_not (is_alone_whole r) (after_type stage (nodes_of r) t (sort_of t)) (typed stage (type_move r t)) (not_whole r (is_alone_whole r) refl e) ∙ typed_is stage f

in_takes : {stage : PredStage} {r : TypeReader} {q : PredReader} {t : Token} {ts us : List Token} {ls : List TypeNode} → Reads stage → in_type stage r t ≡ Some q → PredRest q ts ls us → At stage r (t ∷ ts) ls us
in_takes of_class e h = at_takes e h
in_takes of_first e h = at_takes e h
in_takes of_middle e h = at_takes e h
in_takes of_last e h = at_takes e h

more_starts : {p : Place} {n : Name} {c : ℕ} {r : TypeReader} {ns ms ls : List TypeNode} {ts us vs : List Token} → Alone r → type_done r ≡ Some ns → Starts ns ts ms us → ArgsRest p n (c + 1) ms us ls vs → At (Class p n c) r ts ls vs
more_starts {p} {n} {c} {r} {ns} {ms} {us} l d (starts {r = s} {t} e g) h = in_takes of_class (in_after (Class p n c) r ns t (sort_of t) (pred_state (Class p n (c + 1)) s) l d refl (typed_is (Class p n (c + 1)) e)) (type_then ms us g h)

after_forth : {r : TypeReader} {ns ls : List TypeNode} {ts us : List Token} (stage : PredStage) → Alone r → type_done r ≡ Some ns → StageRest stage ns ts ls us → At stage r ts ls us
after_forth Begin l d h = absurd h
after_forth (ClassOrType p n) l d h = absurd h
after_forth (PowerOrType p) l d h = absurd h
after_forth (Class p n c) l d args_end = at_stops (ap (pred_done_at (Class p n c)) d)
after_forth (Class p n c) l d (args_more a h) = more_starts l d (atype_starts a) h
after_forth {r} {ns} First l d (plus_next {ms} {t} {us} e a h) = in_takes of_first (in_after First r ns t sort.Plus (pred_state (Middle Sum) (alone_from ns)) l d e refl) (type_then ms us (atype_start a) h)
after_forth {r} {ns} First l d (times_next {ms} {t} {us} e a h) = in_takes of_first (in_after First r ns t sort.Times (pred_state (Middle Product) (alone_from ns)) l d e refl) (type_then ms us (atype_start a) h)
after_forth {r} {ns} First l d (at_most_next {ms} {t} {us} e a) = in_takes of_first (in_after First r ns t sort.AtMost (pred_state (Last AtMost) (alone_from ns)) l d e refl) (type_then ms us (atype_start a) last_end)
after_forth {r} {ns} (Middle f) l d (equals_next {ms} {t} {us} e a) = in_takes of_middle (in_after (Middle f) r ns t sort.Equals (pred_state (Last f) (alone_from ns)) l d e refl) (type_then ms us (atype_start a) last_end)
after_forth (Last f) l d last_end = at_stops (ap (pred_done_at (Last f)) d)

in_goes : {stage : PredStage} {r : TypeReader} {ms ls : List TypeNode} {ts us vs : List Token} → Alone r → Reads stage → Goes r ts ms us → StageRest stage ms us ls vs → At stage r ts ls vs
in_goes {stage} a d (stops e) h = after_forth stage a e h
in_goes {stage} {r} {ms} {us} a d (takes {s} {t} e g) h = in_takes d (in_typed stage r s t (alone_done r s t a e) e) (then_rest d (type_then ms us g h))

in_forth : {stage : PredStage} {r : TypeReader} {ls : List TypeNode} {ts us : List Token} → Alone r → Reads stage → TypeThen stage r ts ls us → At stage r ts ls us
in_forth {r} {ts} a d (type_then ms us h g) = in_goes a d (goes r ts ms us h) g

at_forth : (stage : PredStage) (r : TypeReader) (ts us : List Token) (ls : List TypeNode) → Alone r → PredRestAt stage r ts ls us → At stage r ts ls us
at_forth Begin r ts us ls a h = begin_forth h
at_forth (ClassOrType p n) r ts us ls a h = name_forth h
at_forth (PowerOrType p) r ts us ls a h = two_forth h
at_forth (Class p n c) r ts us ls a h = in_forth a of_class h
at_forth First r ts us ls a h = in_forth a of_first h
at_forth (Middle f) r ts us ls a h = in_forth a of_middle h
at_forth (Last f) r ts us ls a h = in_forth a of_last h

goes_at : {r : PredReader} {ts us : List Token} {ls : List TypeNode} → At r.stage r.types ts ls us → PredGoes r ts ls us
unfolding pred_move pred_done
goes_at (at_stops e) = pred_stops e
goes_at (at_takes e h) = pred_takes e h

-- the reader goes on along its rest
pub pred_goes : (r : PredReader) (ts us : List Token) (ls : List TypeNode) → Alone r.types → PredRest r ts ls us → PredGoes r ts ls us
pred_goes r ts us ls a h = goes_at (at_forth r.stage r.types ts us ls a h)
