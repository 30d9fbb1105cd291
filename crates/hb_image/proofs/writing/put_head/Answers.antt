use Rattle.std.proofs.Common.{◌≡◌, ◌∙◌, append_assoc, ap, List, ℕ, ◌++◌}
use Rattle.std.specs.Int.{w16, w32, to_le_bytes}
use Rattle.std.specs.Prelude.{codes}
use Rattle.hb_image.proofs.writing.put_head.Goals as goal

-- two pieces, one after the other
joined : (old front mid rest now : List ℕ) → mid ≡ old ++ front → now ≡ mid ++ rest → now ≡ old ++ (front ++ rest)
joined old front mid rest now a b = b ∙ ap (λ (xs : List ℕ). xs ++ rest) a ∙ append_assoc old front rest

pub returns : goal.returns
returns c =
    let front = codes "HBIM" ++ to_le_bytes w16 1 ++ to_le_bytes w16 c.len.result in
    let sizes = to_le_bytes w32 c.args.image.now.areas ++ to_le_bytes w32 c.args.image.now.stack ++ to_le_bytes w32 c.len-2.result in
    rw (← c.len.ensures, ← c.len-2.ensures) (joined c.args.out.now.items front c.put_front.new.out.items sizes c.put_sizes.new.out.items c.in_ok-put_front.ensures c.in_ok-put_sizes.ensures)
