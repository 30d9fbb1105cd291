use Rattle.std.proofs.Common.{length, ap, arith, ⊎_elim}
use Rattle.std.specs.Map.{lookup}
use Rattle.indexmap.specs.IndexMap.{get}
use Rattle.hb_types.specs.Tables.{type_at}
use Rattle.hb_types.proofs.NormalLemmas.{IsKey, same_form, same_form-true, same_form-same, key-of, kept-none, kept-known, kept-new, first-alike}
use Rattle.hb_types.proofs.table.Types.normal.Goals as goal

pub loop-place-init : goal.loop-place-init
loop-place-init c = (
  record { size = ap length c.new-all.ensures.items; each = λ k h. absurd (omega (arith, h)) },
  kept-none c.args.self.now (get same_form c.new-known.result) c.new-all.result.items (λ key. ap (lookup (same_form key)) c.new-known.ensures.empty),
)

pub loop-place-preserved : goal.loop-place-preserved
loop-place-preserved c =
    let key : IsKey c.args.self.now (type_at c.args.self.now c.loop-place.place) c.normal_form-form.result =
    rw (c.normal_form-form.ensures, c.deref.ensures.value)
    (key-of c.args.self.now c.loop-place.all.items c.loop-place.place c.form.result c.loop-place.invariant.0 c.form.ensures.parts c.form.ensures.is) in
    ⊎_elim
    (λ old. kept-known c.args.self.now c.loop-place.place (get same_form c.loop-place.known) (get same_form c.kept.new.known) c.loop-place.all.items c.push.new.self.items c.in_ok-first.first
    c.normal_form-form.result c.loop-place.invariant.0 c.loop-place.invariant.1 c.in_ok-push.ensures.items key old.0 (λ other. ap (λ m. get same_form m other) old.1))
    (λ new. kept-new same_form same_form-true same_form-same c.args.self.now c.loop-place.place (get same_form c.loop-place.known) (get same_form c.kept.new.known) c.loop-place.all.items
    c.push.new.self.items c.in_ok-first.first c.normal_form-form.result (omega arith) c.loop-place.invariant.0 c.loop-place.invariant.1 c.in_ok-push.ensures.items new.1 key new.0 new.2.0)
    c.in_ok-first.ensures

pub returns : goal.returns
returns c = rw c.of.ensures (first-alike c.args.self.now c.loop-place.all.items c.loop-place.place (omega arith) c.loop-place.invariant.0)
