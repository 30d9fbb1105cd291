use Rattle.std.proofs.Common.{◌∙◌, sym, Some, None}
use Rattle.hb_build.proofs.TypeLaws.{context_is, context_only}
use Rattle.hb_build.proofs.types.build_context.Goals as goal

pub returns-in-Some-clause-found : goal.returns-in-Some-clause-found
returns-in-Some-clause-found c = λ preds h. c.into_context.ensures ∙ context_is (Some c.in-Some.builder) c.args.nodes.now preds (sym c.in-Some.is ∙ c.in_ok-builder.ensures) h

pub returns-in-Some-clause-only : goal.returns-in-Some-clause-only
returns-in-Some-clause-only c = rw c.into_context.ensures (context_only (Some c.in-Some.builder) c.args.nodes.now (sym c.in-Some.is ∙ c.in_ok-builder.ensures))

pub returns-in-None-clause-found : goal.returns-in-None-clause-found
returns-in-None-clause-found c = λ preds h. context_is None c.args.nodes.now preds (sym c.in-None.is ∙ c.in_ok-builder.ensures) h
