-- Types and contexts are stretches. A type is put at its first token, wherever the stretch is read.
use Rattle.std.proofs.Common.{List, refl, sym, subst}
use Rattle.hb_base.specs.declared.place.Place.{Place}
use Rattle.hb_tokens.specs.declared.token.Token.{Token}
use Rattle.hb_tree.specs.declared.types.PredExpr.{PredExpr}
use Rattle.hb_tree.specs.Types.{TypeExpr, AType, Arrow}
use Rattle.hb_grammar.specs.Tokens.{first_place}
use Rattle.hb_grammar.specs.Types.{ReadsType, alone, arrow, ReadsBtype, applied, Applies, no_more, applied_to, ReadsAtype, con, var, number, unit, inside, pair, sum, ReadsAtypes, no_atype, atype_more, ReadsPred, of_class, of_sum, of_product, of_power, of_at_most, ReadsPreds, last_pred, more_preds, ReadsContext, one, several}
use Rattle.hb_grammar_laws.specs.Stretch.{Stretch}
use Rattle.hb_grammar_laws.proofs.Stretching.{nothing, token, next, last, both, three, reads_as, StandsAt, stands, opens}

mutual
  type_stands : {ts us : List Token} {a : TypeExpr} → ReadsType ts a us → Stretch (StandsAt (first_place ts) (λ xs ys. ReadsType xs a ys)) ts us
  type_stands (alone a) = reads_as (λ xs ys r. (r.0, alone r.1)) (btype_stands a)
  type_stands (arrow {a = f} {b = g} a m b) =
      both (λ xs ys zs x y. (x.0, subst (λ p. ReadsType xs (AType p (Arrow f g)) zs) x.0 (arrow x.1 m y))) (last (btype_stands a)) (stands (type_stands b))

  btype_stands : {ts us : List Token} {a : TypeExpr} → ReadsBtype ts a us → Stretch (StandsAt (first_place ts) (λ xs ys. ReadsBtype xs a ys)) ts us
  btype_stands {a = a} (applied {f = f} r more) =
      both (λ xs ys zs x y. (x.0, applied x.1 (subst (λ p. Applies p f ys a zs) (sym x.0) y))) (atype_stands r) (applies_stretch more)

  pub applies_stretch : {p : Place} {f a : TypeExpr} {ts us : List Token} → Applies p f ts a us → Stretch (λ xs ys. Applies p f xs a ys) ts us
  applies_stretch no_more = nothing (λ us. no_more)
  applies_stretch (applied_to x more) = both (λ xs ys zs x y. applied_to x y) (stands (atype_stands x)) (applies_stretch more)

  atype_stands : {ts us : List Token} {a : TypeExpr} → ReadsAtype ts a us → Stretch (StandsAt (first_place ts) (λ xs ys. ReadsAtype xs a ys)) ts us
  atype_stands (con m) = token (λ us. (refl, con m))
  atype_stands (var m) = token (λ us. (refl, var m))
  atype_stands (number m) = token (λ us. (refl, number m))
  atype_stands (unit o c) = opens (token (λ us. unit o c))
  atype_stands (inside o a c) = opens (reads_as (λ xs ys x. inside o x c) (last (stands (type_stands a))))
  atype_stands (pair o a m b c) = opens (both (λ xs ys zs x y. pair o x m y c) (last (stands (type_stands a))) (last (stands (type_stands b))))
  atype_stands (sum o a m b c) = opens (both (λ xs ys zs x y. sum o x m y c) (last (stands (btype_stands a))) (last (stands (btype_stands b))))

pub type_stretch : {ts us : List Token} {a : TypeExpr} → ReadsType ts a us → Stretch (λ xs ys. ReadsType xs a ys) ts us
type_stretch r = stands (type_stands r)

pub btype_stretch : {ts us : List Token} {a : TypeExpr} → ReadsBtype ts a us → Stretch (λ xs ys. ReadsBtype xs a ys) ts us
btype_stretch r = stands (btype_stands r)

pub atype_stretch : {ts us : List Token} {a : TypeExpr} → ReadsAtype ts a us → Stretch (λ xs ys. ReadsAtype xs a ys) ts us
atype_stretch r = stands (atype_stands r)

pub atypes_stretch : {ts us : List Token} {args : List TypeExpr} → ReadsAtypes ts args us → Stretch (λ xs ys. ReadsAtypes xs args ys) ts us
atypes_stretch no_atype = nothing (λ us. no_atype)
atypes_stretch (atype_more a more) = both (λ xs ys zs x y. atype_more x y) (atype_stretch a) (atypes_stretch more)

pub pred_stretch : {ts us : List Token} {p : PredExpr} → ReadsPred ts p us → Stretch (λ xs ys. ReadsPred xs p ys) ts us
pred_stretch (of_class m a more) = next (both (λ xs ys zs x y. of_class m x y) (atype_stretch a) (atypes_stretch more))
pred_stretch (of_sum a m b e c) = three (λ xs ys zs qs x y z. of_sum x m y e z) (last (atype_stretch a)) (last (atype_stretch b)) (atype_stretch c)
pred_stretch (of_product a m b e c) = three (λ xs ys zs qs x y z. of_product x m y e z) (last (atype_stretch a)) (last (atype_stretch b)) (atype_stretch c)
pred_stretch (of_power two m a e b) = next (next (both (λ xs ys zs x y. of_power two m x e y) (last (atype_stretch a)) (atype_stretch b)))
pred_stretch (of_at_most a m b) = both (λ xs ys zs x y. of_at_most x m y) (last (atype_stretch a)) (atype_stretch b)

pub preds_stretch : {ts us : List Token} {ps : List PredExpr} → ReadsPreds ts ps us → Stretch (λ xs ys. ReadsPreds xs ps ys) ts us
preds_stretch (last_pred p) = reads_as (λ xs ys x. last_pred x) (pred_stretch p)
preds_stretch (more_preds p m more) = both (λ xs ys zs x y. more_preds x m y) (last (pred_stretch p)) (preds_stretch more)

pub context_stretch : {ts us : List Token} {ps : List PredExpr} → ReadsContext ts ps us → Stretch (λ xs ys. ReadsContext xs ps ys) ts us
context_stretch (one p) = reads_as (λ xs ys x. one x) (pred_stretch p)
context_stretch (several o ps c) = next (reads_as (λ xs ys x. several o x c) (last (preds_stretch ps)))
