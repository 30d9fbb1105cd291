use Rattle.std.proofs.Common.{◌≡◌, ◌∙◌, sym, ap, subst, ◌+◌, ◌*◌, ◌^◌, ◌<◌, bit_or}
use Rattle.std.proofs.lemmas.Nat.{or_shifted}
use Rattle.hb_bits.specs.Bits.{digits}
use Rattle.hb_bits.specs.BitsLaws.{digits-join, joined_lt, moved_lt}
use Rattle.hb_bits.proofs.pattern.Pattern.join.Goals as goal

pub shifted_up-requires-clause-fits : goal.shifted_up-requires-clause-fits
shifted_up-requires-clause-fits c = moved_lt c.args.self.width c.args.low.width c.args.self.word c.args.self.in_range c.requires

-- the word is the one number, moved up, and then the other
word_is : (c : goal.After-struct_known-3-1) → bit_or c.shifted_up.result c.args.low.word ≡ c.args.self.word * 2 ^ c.args.low.width + c.args.low.word
word_is c =
    ap (λ high. bit_or high c.args.low.word) c.shifted_up.ensures
    ∙ or_shifted c.args.self.word c.args.low.width c.args.low.word c.args.low.in_range

pub invariant_of-result : goal.invariant_of-result
invariant_of-result c = record {
  narrow = c.requires;
  in_range = subst (λ word. word < 2 ^ (c.args.self.width + c.args.low.width)) (sym (word_is c))
      (joined_lt c.args.self.width c.args.low.width c.args.self.word c.args.low.word c.args.self.in_range c.args.low.in_range);
}

pub returns-clause-bits : goal.returns-clause-bits
returns-clause-bits c =
    ap (digits (c.args.self.width + c.args.low.width))
    (ap (λ high. bit_or high c.args.low.word) c.shifted_up.ensures ∙ or_shifted c.args.self.word c.args.low.width c.args.low.word c.args.low.in_range)
    ∙ digits-join c.args.self.width c.args.low.width c.args.self.word c.args.low.word c.args.low.in_range
