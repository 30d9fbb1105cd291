-- A type is at least two things fewer than four for each of its tokens. So there is room for what it stands in.
use Rattle.std.proofs.Common.{List, ◌+◌, ◌*◌, ◌≤◌, length, arith}
use Rattle.hb_base.specs.declared.place.Place.{Place}
use Rattle.hb_tokens.specs.declared.token.Token.{Token}
use Rattle.hb_tree.specs.declared.types.PredExpr.{PredExpr}
use Rattle.hb_tree.specs.Types.{TypeExpr}
use Rattle.hb_tree.specs.Things.{total, type_things, pred_things}
use Rattle.hb_grammar.specs.Types.{ReadsType, alone, arrow, ReadsBtype, applied, Applies, no_more, applied_to, ReadsAtype, con, var, number, unit, inside, pair, sum, ReadsAtypes, no_atype, atype_more, ReadsPred, of_class, of_sum, of_product, of_power, of_at_most, ReadsPreds, last_pred, more_preds, ReadsContext, one, several}
use Rattle.hb_grammar_laws.specs.Counting.{AreFew}

mutual
  pub type_few : {ts us : List Token} {a : TypeExpr} → ReadsType ts a us → AreFew (type_things a + 2) ts us
  type_few (alone a) = btype_few a
  type_few (arrow a m b) = omega (arith, btype_few a, type_few b)

  pub btype_few : {ts us : List Token} {a : TypeExpr} → ReadsBtype ts a us → AreFew (type_things a + 2) ts us
  btype_few (applied r more) = omega (arith, atype_few r, applies_few more)

  -- how many things more the whole is than f
  applies_few : {p : Place} {f a : TypeExpr} {ts us : List Token} → Applies p f ts a us → type_things a + 4 * length us ≤ type_things f + 4 * length ts
  applies_few no_more = omega arith
  applies_few (applied_to x more) = omega (arith, atype_few x, applies_few more)

  pub atype_few : {ts us : List Token} {a : TypeExpr} → ReadsAtype ts a us → AreFew (type_things a + 2) ts us
  atype_few (con m) = omega arith
  atype_few (var m) = omega arith
  atype_few (number m) = omega arith
  atype_few (unit o c) = omega arith
  atype_few (inside o a c) = omega (arith, type_few a)
  atype_few (pair o a m b c) = omega (arith, type_few a, type_few b)
  atype_few (sum o a m b c) = omega (arith, btype_few a, btype_few b)

pub atypes_few : {ts us : List Token} {args : List TypeExpr} → ReadsAtypes ts args us → AreFew (total type_things args) ts us
atypes_few no_atype = omega arith
atypes_few (atype_more a more) = omega (arith, atype_few a, atypes_few more)

pub pred_few : {ts us : List Token} {p : PredExpr} → ReadsPred ts p us → AreFew (pred_things p) ts us
pred_few (of_class m a more) = omega (arith, atype_few a, atypes_few more)
pred_few (of_sum a m b e c) = omega (arith, atype_few a, atype_few b, atype_few c)
pred_few (of_product a m b e c) = omega (arith, atype_few a, atype_few b, atype_few c)
pred_few (of_power two m a e b) = omega (arith, atype_few a, atype_few b)
pred_few (of_at_most a m b) = omega (arith, atype_few a, atype_few b)

pub preds_few : {ts us : List Token} {ps : List PredExpr} → ReadsPreds ts ps us → AreFew (total pred_things ps) ts us
preds_few (last_pred p) = omega (arith, pred_few p)
preds_few (more_preds p m more) = omega (arith, pred_few p, preds_few more)

pub context_few : {ts us : List Token} {ps : List PredExpr} → ReadsContext ts ps us → AreFew (total pred_things ps) ts us
context_few (one p) = omega (arith, pred_few p)
context_few (several o ps c) = omega (arith, preds_few ps)
