use Rattle.std.proofs.Common.{◌≡◌, sym, ap, ◌∙◌, subst, arith}
use Rattle.std.specs.Prelude.{IfSome}
use Rattle.hb_asm.specs.Coding.{code_of, decode_of}
use Rattle.hb_asm.specs.InRange.{InRange}
use Rattle.hb_asm.proofs.Coding.{decode-code}
use Rattle.hb_asm.proofs.WordReads.{decode_reads}
use Rattle.hb_asm.proofs.decoding.decode.Goals as goal

-- what is decoded codes the word
pub returns-clause-coded : goal.returns-clause-coded
returns-clause-coded c =
    subst
    (λ o. IfSome o (λ i. InRange i × (code_of i ≡ c.args.word)))
    (sym c.by_opcode.ensures)
    (decode_reads c.args.word (omega arith))

-- an instruction comes back from its word
pub returns-clause-found : goal.returns-clause-found
returns-clause-found c = λ i fits coded. c.by_opcode.ensures ∙ (ap decode_of (sym coded) ∙ decode-code i fits)
