use Rattle.std.proofs.Common.{◌≡◌, ◌+◌, ◌≤◌, length, map, take}
use Rattle.hb_base.specs.Names.{with_texts}
use Rattle.hb_base.proofs.names.Names.intern_all.Given as goal

-- the texts passed are taken in
abbrev pub invariant-loop-text : goal.invariant-loop-text
invariant-loop-text l =
    (l.self ≡ with_texts l.initial.self (map (λ text. text.now) (take l.text-index l.texts))) × (length l.self ≤ length l.initial.self + l.text-index)
