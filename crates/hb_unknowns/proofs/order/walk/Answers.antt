use Rattle.std.proofs.Common.{◌≡◌, ℕ, ◌∷◌, ◌<◌, ◌-◌, reverse, length, take, get_or, Some, None, sym, ap, ◌∙◌, arith, rules}
use Rattle.hb_unknowns.specs.Joined.{at}
use Rattle.hb_unknowns.specs.declared.order.Mark.TheVariants.{New}
use Rattle.hb_unknowns.specs.Order.{marked, first_undone}
use Rattle.hb_unknowns.proofs.OrderLemmas.{finished, visited, cyclic, touched-done, touched-open, top-first, top-of}
use Rattle.hb_unknowns.proofs.order.walk.Goals as goal

pub loop-top-preserved-in-None : goal.loop-top-preserved-in-None
loop-top-preserved-in-None c =
    let items = c.deref.ensures.value in
    let some : 0 < length c.loop-top.stack.items = rw (sym items) (c.in-Some.ensures.item.3.0) in
    let is : c.in-Some.top.now ≡ get_or c.loop-top.stack.items (length c.loop-top.stack.items - 1) c.in-Some.top.now = rw (sym items) c.in-Some.ensures.item.1 in
    let line : reverse c.loop-top.stack.items ≡ c.in-Some.top.now ∷ reverse (take (length c.loop-top.stack.items - 1) c.loop-top.stack.items) =
    top-of c.loop-top.stack.items c.in-Some.top.now some is in
    let walked = rw line at c.loop-top.invariant.0 in
    let none : first_undone c.loop-top.marks.items (at c.args.entries.now c.in-Some.top.now) ≡ None =
    ap (first_undone c.loop-top.marks.items) (sym c.node_at.ensures)
    ∙ ap (λ ms. first_undone ms c.node_at.result) (sym c.deref-in-Some.ensures.value) ∙ sym c.in-None.ensures in
    let past : reverse c.push.new.self.items ≡ c.in-Some.top.now ∷ reverse c.loop-top.finished.items = top-first _ _ c.in-Some.top.now c.in_ok-push-in-None.ensures.items in
    let many : c.len.result ≡ length c.loop-top.stack.items = first_of (cc, omega arith, search rules) in
    let rest : reverse c.truncate.new.self.items ≡ reverse (take (length c.loop-top.stack.items - 1) c.loop-top.stack.items) =
    ap reverse (c.truncate.ensures.items ∙ ap (λ (k : ℕ). take (k - 1) c.loop-top.stack.items) many) in
    (rw (past, rest) (finished _ _ _ _ _ walked none), touched-done _ _ _ (omega (arith, walked.inside.0, walked.size)) c.loop-top.invariant.1)

pub loop-top-preserved : goal.loop-top-preserved
loop-top-preserved c =
    let items = c.deref.ensures.value in
    let some : 0 < length c.loop-top.stack.items = rw (sym items) (c.in-Some.ensures.item.3.0) in
    let is : c.in-Some.top.now ≡ get_or c.loop-top.stack.items (length c.loop-top.stack.items - 1) c.in-Some.top.now = rw (sym items) c.in-Some.ensures.item.1 in
    let line : reverse c.loop-top.stack.items ≡ c.in-Some.top.now ∷ reverse (take (length c.loop-top.stack.items - 1) c.loop-top.stack.items) =
    top-of c.loop-top.stack.items c.in-Some.top.now some is in
    let walked = rw line at c.loop-top.invariant.0 in
    let part : first_undone c.loop-top.marks.items (at c.args.entries.now c.in-Some.top.now) ≡ Some c.in-Some-next_part.part =
    ap (first_undone c.loop-top.marks.items) (sym c.node_at.ensures)
    ∙ ap (λ ms. first_undone ms c.node_at.result) (sym c.deref-in-Some.ensures.value) ∙ sym c.in-Some-next_part.ensures in
    let new : marked c.loop-top.marks.items c.in-Some-next_part.part ≡ New =
    ap (λ ms. marked ms c.in-Some-next_part.part) (sym c.deref-in-Some-next_part.ensures.value) ∙ sym c.mark_at.ensures ∙ c.in-New.is in
    let now = visited _ _ _ _ _ _ c.requires.graph walked part new in
    let order : reverse c.push-in-New.new.self.items ≡ c.in-Some-next_part.part ∷ c.in-Some.top.now ∷ reverse (take (length c.loop-top.stack.items - 1) c.loop-top.stack.items) =
    top-first _ _ c.in-Some-next_part.part c.in_ok-push-in-New.ensures.items ∙ ap (λ ks. c.in-Some-next_part.part ∷ ks) line in
    (rw order now, touched-open _ _ _ (omega (arith, now.inside.0, walked.size)) c.loop-top.invariant.1)

pub returns-in_default-mark_at : goal.returns-in_default-mark_at
returns-in_default-mark_at c =
    let items = c.deref.ensures.value in
    let some : 0 < length c.loop-top.stack.items = rw (sym items) (c.in-Some.ensures.item.3.0) in
    let is : c.in-Some.top.now ≡ get_or c.loop-top.stack.items (length c.loop-top.stack.items - 1) c.in-Some.top.now = rw (sym items) c.in-Some.ensures.item.1 in
    let line : reverse c.loop-top.stack.items ≡ c.in-Some.top.now ∷ reverse (take (length c.loop-top.stack.items - 1) c.loop-top.stack.items) =
    top-of c.loop-top.stack.items c.in-Some.top.now some is in
    let walked = rw line at c.loop-top.invariant.0 in
    let part : first_undone c.loop-top.marks.items (at c.args.entries.now c.in-Some.top.now) ≡ Some c.in-Some-next_part.part =
    ap (first_undone c.loop-top.marks.items) (sym c.node_at.ensures)
    ∙ ap (λ ms. first_undone ms c.node_at.result) (sym c.deref-in-Some.ensures.value) ∙ sym c.in-Some-next_part.ensures in
    record {
      walked = c.loop-top.invariant.0;
      touched = c.loop-top.invariant.1;
      end = cyclic _ _ _ _ _ _ c.requires.graph walked part
          (λ e. c.in_default-mark_at.not-New (c.mark_at.ensures ∙ ap (λ ms. marked ms c.in-Some-next_part.part) c.deref-in-Some-next_part.ensures.value ∙ e));
    }
