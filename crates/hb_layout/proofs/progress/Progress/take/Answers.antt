use Rattle.std.proofs.Common.{refl}
use Rattle.hb_layout.proofs.LaidLaws.{token_refused, token_taken}
use Rattle.hb_layout.proofs.progress.Progress.take.Goals as goal

pub returns-then-not-fits-clause-laid : goal.returns-then-not-fits-clause-laid
returns-then-not-fits-clause-laid c =
    let p = c.args.self.now in
    token_refused p.draft.given p.deep p.owed p.line p.draft.stack c.args.token.now c.role_of-role.result c.is_first-first.result
    c.role_of-role.ensures c.is_first-first.ensures (rw c.if-not-fits.true at c.in_ok-fits.ensures.moved)

pub returns-clause-laid : goal.returns-clause-laid
returns-clause-laid c =
    let p = c.args.self.now in
    token_taken p.draft.given p.deep p.owed p.line p.draft.stack c.args.token.now c.role_of-role.result c.is_first-first.result c.place.new.self c.push.new.self c.first_of-self.result c.owed-self.result
    c.role_of-role.ensures c.is_first-first.ensures (rw c.if-not-fits.false at c.in_ok-fits.ensures.moved) c.in_ok-push.ensures.ok
    (rw (c.first_of-self.ensures, c.deep_at.ensures, c.is_deep-deep.ensures, c.count-before.ensures, c.count.ensures) refl) c.owed-self.ensures
