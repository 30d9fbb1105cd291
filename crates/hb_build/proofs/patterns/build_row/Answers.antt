use Rattle.std.proofs.Common.{◌∙◌, ap, sym, Some, None}
use Rattle.hb_build.specs.PatternSteps.{parts_of}
use Rattle.hb_build.proofs.PatternLaws.{row_is, row_only, row_plain}
use Rattle.hb_build.proofs.patterns.build_row.Goals as goal

pub returns-in-Some-clause-found : goal.returns-in-Some-clause-found
returns-in-Some-clause-found c = λ row u h. c.into_row.ensures ∙ row_is (Some c.in-Some.builder.parts) c.args.nodes.now row (ap parts_of (sym c.in-Some.is) ∙ c.in_ok-builder.ensures) u h

pub returns-in-Some-clause-only : goal.returns-in-Some-clause-only
returns-in-Some-clause-only c = rw c.into_row.ensures (row_only (Some c.in-Some.builder.parts) c.args.nodes.now (ap parts_of (sym c.in-Some.is) ∙ c.in_ok-builder.ensures))

pub returns-in-Some-clause-unnumbered : goal.returns-in-Some-clause-unnumbered
returns-in-Some-clause-unnumbered c = rw c.into_row.ensures (row_plain (Some c.in-Some.builder.parts) c.args.nodes.now (ap parts_of (sym c.in-Some.is) ∙ c.in_ok-builder.ensures))

pub returns-in-None-clause-found : goal.returns-in-None-clause-found
returns-in-None-clause-found c = λ row u h. row_is None c.args.nodes.now row (ap parts_of (sym c.in-None.is) ∙ c.in_ok-builder.ensures) u h
