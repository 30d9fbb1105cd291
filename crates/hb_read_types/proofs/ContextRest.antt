-- Contexts without their trees, and what the tokens ahead must be to end what the reader of a context has begun.
use Rattle.std.proofs.Common.{◌≡◌, ℕ, ◌+◌, List, ◌∷◌, Option, Some, None, refl, sym, subst}
use Rattle.hb_tokens.specs.declared.token.Token.{Token}
use Rattle.hb_read_types.specs.declared.node.TypeNode.{TypeNode}
use Rattle.hb_read_types.specs.declared.node.TypeNode.TheVariants as node
use Rattle.hb_read_types.specs.declared.sort.Sort.{Sort}
use Rattle.hb_read_types.specs.declared.sort.Sort.TheVariants as sort
use Rattle.hb_read_types.specs.declared.pred_reader.PredReader.{PredReader}
use Rattle.hb_read_types.specs.declared.context_reader.SeveralStage.{SeveralStage}
use Rattle.hb_read_types.specs.declared.context_reader.SeveralStage.TheVariants.{Opening, Inside, Closed}
use Rattle.hb_read_types.specs.declared.context_reader.Several.{Several}
use Rattle.hb_read_types.specs.declared.context_reader.ContextReader.{ContextReader}
use Rattle.hb_read_types.specs.Sorts.{sort_of}
use Rattle.hb_read_types.specs.TypeMoves.{put}
use Rattle.hb_read_types.specs.PredMoves.{nodes_of, pred_move, pred_done, pred_start}
use Rattle.hb_read_types.specs.ContextMoves.{between, inside, opening, several_at, several_done_at, several_move, several_done, one_moved, several_moved, side_by_side, context_move, one_whole, one_done, several_whole, or_else, context_done}
use Rattle.hb_read_types.proofs.TypeBack.{Each, each_of, each_map}
use Rattle.hb_read_types.proofs.PredRest.{PutsPred, PredRest}
use Rattle.hb_read_types.proofs.PredBack.{pred_move_back, pred_done_back}

-- after so many predicates in a bracket
pub data PredsRest : ℕ → List TypeNode → List Token → List TypeNode → List Token → Type 0 where
  preds_close : {c : ℕ} {ns : List TypeNode} {t : Token} {ts : List Token} → sort_of t ≡ sort.Close → PredsRest c ns (t ∷ ts) (put ns (node.Context c)) ts
  preds_more : {c : ℕ} {ns ms ls : List TypeNode} {t : Token} {ts us vs : List Token} → sort_of t ≡ sort.Comma → PutsPred ns ts ms us → PredsRest (c + 1) ms us ls vs → PredsRest c ns (t ∷ ts) ls vs

pub data PutsContext : List TypeNode → List Token → List TypeNode → List Token → Type 0 where
  one_pred : {ns ms : List TypeNode} {ts us : List Token} → PutsPred ns ts ms us → PutsContext ns ts (put ms (node.Context 1)) us
  several_preds : {ns ms ls : List TypeNode} {t : Token} {ts us vs : List Token} → sort_of t ≡ sort.Open → PutsPred ns ts ms us → PredsRest 1 ms us ls vs → PutsContext ns (t ∷ ts) ls vs

-- a predicate, and then the others
pub data PredThen : ℕ → PredReader → List Token → List TypeNode → List Token → Type 0 where
  pred_then : {c : ℕ} {p : PredReader} {ls : List TypeNode} {ts vs : List Token} → (ms : List TypeNode) (us : List Token) → PredRest p ts ms us → PredsRest c ms us ls vs → PredThen c p ts ls vs

pub data SeveralRest : SeveralStage → ℕ → PredReader → List Token → List TypeNode → List Token → Type 0 where
  opening_rest : {c : ℕ} {p : PredReader} {ls : List TypeNode} {t : Token} {ts us : List Token} → sort_of t ≡ sort.Open → PredThen c p ts ls us → SeveralRest Opening c p (t ∷ ts) ls us
  inside_rest : {c : ℕ} {p : PredReader} {ls : List TypeNode} {ts us : List Token} → PredThen c p ts ls us → SeveralRest Inside c p ts ls us
  closed_rest : {c : ℕ} {p : PredReader} {ts : List Token} → SeveralRest Closed c p ts (nodes_of p.types) ts

abbrev pub SeveralRestOf : Several → List Token → List TypeNode → List Token → Type 0
SeveralRestOf s ts ls us = SeveralRest s.stage s.count s.pred ts ls us

pub data SideRest : Option PredReader → Option Several → List Token → List TypeNode → List Token → Type 0 where
  by_one : {o : PredReader} {s : Option Several} {ts us : List Token} → (ms : List TypeNode) → PredRest o ts ms us → SideRest (Some o) s ts (put ms (node.Context 1)) us
  by_several : {o : Option PredReader} {s : Several} {ts us : List Token} {ls : List TypeNode} → SeveralRestOf s ts ls us → SideRest o (Some s) ts ls us

abbrev pub ContextRest : ContextReader → List Token → List TypeNode → List Token → Type 0
ContextRest r ts ls us = SideRest r.one r.several ts ls us

each_self : {A : Type 0} (o : Option A) (P : A → Type 0) → ((a : A) → o ≡ Some a → P a) → Each o P
each_self None P f = tt
each_self (Some a) P f = f a refl

opened_then : {c : ℕ} {p : PredReader} {ls : List TypeNode} {t : Token} {ts us : List Token} → sort_of t ≡ sort.Open → SeveralRest Inside c p ts ls us → SeveralRest Opening c p (t ∷ ts) ls us
opened_then e (inside_rest h) = opening_rest e h

opening_back : (c : ℕ) (p : PredReader) (t : Token) (ts us : List Token) (ls : List TypeNode) (s : Sort) → sort_of t ≡ s → Each (opening c p s) (λ r. SeveralRestOf r ts ls us → SeveralRest Opening c p (t ∷ ts) ls us)
opening_back c p t ts us ls sort.Open e = λ h. opened_then e h
opening_back c p t ts us ls _ e = tt

close_then : {c : ℕ} {q : PredReader} {ns ls : List TypeNode} {t : Token} {ts us : List Token} → nodes_of q.types ≡ put ns (node.Context c) → sort_of t ≡ sort.Close → SeveralRest Closed c q ts ls us → PredsRest c ns (t ∷ ts) ls us
close_then {c} {ns} {t} {ts} d e closed_rest = let P : List TypeNode → Type 0 = λ v. PredsRest c ns (t ∷ ts) v ts in subst P (sym d) (preds_close e)

more_then : {c : ℕ} {ns ls : List TypeNode} {t : Token} {ts us : List Token} → sort_of t ≡ sort.Comma → SeveralRest Inside (c + 1) (pred_start ns) ts ls us → PredsRest c ns (t ∷ ts) ls us
more_then e (inside_rest (pred_then ms vs h g)) = preds_more e h g

between_back : (c : ℕ) (ns : List TypeNode) (t : Token) (ts us : List Token) (ls : List TypeNode) (s : Sort) → sort_of t ≡ s → Each (between c s ns) (λ r. SeveralRestOf r ts ls us → PredsRest c ns (t ∷ ts) ls us)
between_back c ns t ts us ls sort.Close e = λ h. close_then refl e h
between_back c ns t ts us ls sort.Comma e = λ h. more_then e h
between_back c ns t ts us ls _ e = tt

moved_then : {c : ℕ} {p q : PredReader} {ls : List TypeNode} {t : Token} {ts us : List Token} → pred_move p t ≡ Some q → SeveralRest Inside c q ts ls us → SeveralRest Inside c p (t ∷ ts) ls us
moved_then {p} {q} {t} {ts} e (inside_rest (pred_then ms vs h g)) = inside_rest (pred_then ms vs (pred_move_back p q t ts ms vs e h) g)

done_then : {c : ℕ} {p : PredReader} {ns ls : List TypeNode} {t : Token} {ts us : List Token} → pred_done p ≡ Some ns → PredsRest c ns (t ∷ ts) ls us → SeveralRest Inside c p (t ∷ ts) ls us
done_then {p} {ns} {t} {ts} e h = inside_rest (pred_then ns (t ∷ ts) (pred_done_back p (t ∷ ts) ns e) h)

inside_back : (c : ℕ) (p : PredReader) (t : Token) (ts us : List Token) (ls : List TypeNode) (o : Option (List TypeNode)) (q : Option PredReader) → pred_done p ≡ o → pred_move p t ≡ q → Each (inside c (sort_of t) o q) (λ r. SeveralRestOf r ts ls us → SeveralRest Inside c p (t ∷ ts) ls us)
inside_back c p t ts us ls o (Some q) d e = λ h. moved_then e h
inside_back c p t ts us ls None None d e = tt
inside_back c p t ts us ls (Some ns) None d e = each_map (λ r. SeveralRestOf r ts ls us → PredsRest c ns (t ∷ ts) ls us) (λ r. SeveralRestOf r ts ls us → SeveralRest Inside c p (t ∷ ts) ls us) (between c (sort_of t) ns) (λ r f h. done_then d (f h)) (between_back c ns t ts us ls (sort_of t) refl)

several_now_back : (stage : SeveralStage) (c : ℕ) (p : PredReader) (t : Token) (ts us : List Token) (ls : List TypeNode) → Each (several_at stage c p t) (λ r. SeveralRestOf r ts ls us → SeveralRest stage c p (t ∷ ts) ls us)
several_now_back Opening c p t ts us ls = opening_back c p t ts us ls (sort_of t) refl
several_now_back Inside c p t ts us ls = inside_back c p t ts us ls (pred_done p) (pred_move p t) refl refl
several_now_back Closed c p t ts us ls = tt

pub several_move_back : (s r : Several) (t : Token) (ts us : List Token) (ls : List TypeNode) → several_move s t ≡ Some r → SeveralRestOf r ts ls us → SeveralRestOf s (t ∷ ts) ls us
unfolding several_move
several_move_back s r t ts us ls e = each_of (λ q. SeveralRestOf q ts ls us → SeveralRestOf s (t ∷ ts) ls us) (several_move s t) (several_now_back s.stage s.count s.pred t ts us ls) e

several_done_now : (stage : SeveralStage) (c : ℕ) (p : PredReader) (ts : List Token) → Each (several_done_at stage p) (λ ls. SeveralRest stage c p ts ls ts)
several_done_now Closed c p ts = closed_rest
several_done_now Opening c p ts = tt
several_done_now Inside c p ts = tt

several_done_back : (s : Several) (ts : List Token) (ls : List TypeNode) → several_done s ≡ Some ls → SeveralRestOf s ts ls ts
unfolding several_done
several_done_back s ts ls e = each_of (λ v. SeveralRestOf s ts v ts) (several_done s) (several_done_now s.stage s.count s.pred ts) e

one_moved_back : (one : Option PredReader) (several : Option Several) (o : PredReader) (t : Token) (ts us : List Token) (ms : List TypeNode) → one_moved one t ≡ Some o → PredRest o ts ms us → SideRest one several (t ∷ ts) (put ms (node.Context 1)) us
one_moved_back None several o t ts us ms e h = cc
one_moved_back (Some r) several o t ts us ms e h = by_one ms (pred_move_back r o t ts ms us e h)

several_moved_back : (one : Option PredReader) (several : Option Several) (s : Several) (t : Token) (ts us : List Token) (ls : List TypeNode) → several_moved several t ≡ Some s → SeveralRestOf s ts ls us → SideRest one several (t ∷ ts) ls us
several_moved_back one None s t ts us ls e h = cc
several_moved_back one (Some r) s t ts us ls e h = by_several (several_move_back r s t ts us ls e h)

side_back : (one : Option PredReader) (several : Option Several) (t : Token) (ts us : List Token) (ls : List TypeNode) (o : Option PredReader) (s : Option Several) → one_moved one t ≡ o → several_moved several t ≡ s → SideRest o s ts ls us → SideRest one several (t ∷ ts) ls us
side_back one several t ts us ls o s d e (by_one {o = r} ms h) = one_moved_back one several r t ts us ms d h
side_back one several t ts us ls o s d e (by_several {s = r} h) = several_moved_back one several r t ts us ls e h

sides_back : (one : Option PredReader) (several : Option Several) (t : Token) (ts us : List Token) (ls : List TypeNode) (o : Option PredReader) (s : Option Several) → one_moved one t ≡ o → several_moved several t ≡ s → Each (side_by_side o s) (λ r. ContextRest r ts ls us → SideRest one several (t ∷ ts) ls us)
sides_back one several t ts us ls None None d e = tt
sides_back one several t ts us ls (Some o) None d e = λ h. side_back one several t ts us ls (Some o) None d e h
sides_back one several t ts us ls None (Some s) d e = λ h. side_back one several t ts us ls None (Some s) d e h
sides_back one several t ts us ls (Some o) (Some s) d e = λ h. side_back one several t ts us ls (Some o) (Some s) d e h

pub context_move_back : (r s : ContextReader) (t : Token) (ts us : List Token) (ls : List TypeNode) → context_move r t ≡ Some s → ContextRest s ts ls us → ContextRest r (t ∷ ts) ls us
unfolding context_move
context_move_back r s t ts us ls e = each_of (λ q. ContextRest q ts ls us → ContextRest r (t ∷ ts) ls us) (context_move r t) (sides_back r.one r.several t ts us ls (one_moved r.one t) (several_moved r.several t) refl refl) e

done_back_several : (one : Option PredReader) (several : Option Several) (ts : List Token) → Each (several_whole several) (λ ls. SideRest one several ts ls ts)
done_back_several one None ts = tt
done_back_several one (Some s) ts = each_self (several_done s) (λ ls. SideRest one (Some s) ts ls ts) (λ ls e. by_several (several_done_back s ts ls e))

done_back_one : (o : PredReader) (several : Option Several) (ts : List Token) (w : Option (List TypeNode)) → pred_done o ≡ w → Each (or_else (one_whole w) (several_whole several)) (λ ls. SideRest (Some o) several ts ls ts)
done_back_one o several ts (Some ns) e = by_one ns (pred_done_back o ts ns e)
done_back_one o several ts None e = done_back_several (Some o) several ts

context_done_now : (one : Option PredReader) (several : Option Several) (ts : List Token) → Each (or_else (one_done one) (several_whole several)) (λ ls. SideRest one several ts ls ts)
context_done_now (Some o) several ts = done_back_one o several ts (pred_done o) refl
context_done_now None several ts = done_back_several None several ts

pub context_done_back : (r : ContextReader) (ts : List Token) (ls : List TypeNode) → context_done r ≡ Some ls → ContextRest r ts ls ts
unfolding context_done
context_done_back r ts ls e = each_of (λ v. ContextRest r ts v ts) (context_done r) (context_done_now r.one r.several ts) e
