use Rattle.std.proofs.Common.{◌≡◌, length, arith, rules}
use Rattle.hb_unknowns.proofs.ReferredLemmas.{harmless-left, harmless-right-if, one-pair}
use Rattle.hb_unknowns.proofs.referred.is_harmless.Goals as goal

pub returns-then-is_loose : goal.returns-then-is_loose
returns-then-is_loose c =
    let one : length c.args.pairs.now ≡ 1 = first_of (omega arith, grind arith, search rules) in
    rw (one-pair c.args.pairs.now one) (harmless-left c.args.entries.now _ (rw c.if-is_loose.true at c.is_loose.ensures))

pub returns : goal.returns
returns c =
    let one : length c.args.pairs.now ≡ 1 = first_of (omega arith, grind arith, search rules) in
    rw (one-pair c.args.pairs.now one) (harmless-right-if c.args.entries.now _ c.is_loose-2.result c.is_loose-2.ensures)
