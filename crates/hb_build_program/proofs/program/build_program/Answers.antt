use Rattle.std.proofs.Common.{◌∙◌, sym, Some, None}
use Rattle.hb_build_program.proofs.ProgramLaws.{program_is}
use Rattle.hb_build_program.proofs.program.build_program.Goals as goal

pub returns-in-Some : goal.returns-in-Some
returns-in-Some c = record { found = λ p u h. c.into_program.ensures ∙ program_is (Some c.in-Some.builder) c.args.nodes.now p (sym c.in-Some.is ∙ c.in_ok-builder.ensures) u h }

pub returns-in-None : goal.returns-in-None
returns-in-None c = record { found = λ p u h. program_is None c.args.nodes.now p (sym c.in-None.is ∙ c.in_ok-builder.ensures) u h }
