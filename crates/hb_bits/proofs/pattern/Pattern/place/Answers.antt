use Rattle.std.proofs.Common.{◌≡◌, ◌∙◌, sym, ap, ◌+◌, ◌-◌, ◌≤◌, ◌++◌, length, arith}
use Rattle.hb_bits.specs.Bits.{cut_at}
use Rattle.hb_bits.specs.OfPattern.{bits_of}
use Rattle.hb_bits.specs.BitsLaws.{place_at-cuts, length-digits}
use Rattle.hb_bits.proofs.pattern.Pattern.place.Goals as goal

pub returns-clause-bits : goal.returns-clause-bits
returns-clause-bits c =
    let all : length (bits_of c.args.self) ≡ c.args.self.width = length-digits c.args.self.width c.args.self.word in
    let new : length (bits_of c.args.part) ≡ c.args.part.width = length-digits c.args.part.width c.args.part.word in
    let within : c.args.at + length (bits_of c.args.part) ≤ length (bits_of c.args.self) = omega (arith, c.requires, all, new) in
    c.join-2.ensures.bits
    ∙ ap (λ front. front ++ bits_of c.cut.result) (c.join.ensures.bits ∙ ap (λ high. high ++ bits_of c.args.part) c.cut-high.ensures.bits)
    ∙ ap (λ back. cut_at (c.args.at + c.args.part.width) (c.args.self.width - (c.args.at + c.args.part.width)) (bits_of c.args.self) ++ bits_of c.args.part ++ back) c.cut.ensures.bits
    ∙ ap (λ w. cut_at (c.args.at + w) (c.args.self.width - (c.args.at + w)) (bits_of c.args.self) ++ bits_of c.args.part ++ cut_at 0 c.args.at (bits_of c.args.self)) (sym new)
    ∙ ap (λ w. cut_at (c.args.at + length (bits_of c.args.part)) (w - (c.args.at + length (bits_of c.args.part))) (bits_of c.args.self) ++ bits_of c.args.part ++ cut_at 0 c.args.at (bits_of c.args.self)) (sym all)
    ∙ sym (place_at-cuts (bits_of c.args.self) (bits_of c.args.part) c.args.at within)
