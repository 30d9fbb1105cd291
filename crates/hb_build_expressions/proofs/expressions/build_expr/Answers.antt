use Rattle.std.proofs.Common.{◌∙◌, sym, Some, None}
use Rattle.hb_build_expressions.proofs.ExpressionLaws.{expr_is}
use Rattle.hb_build_expressions.proofs.expressions.build_expr.Goals as goal

pub returns-in-Some : goal.returns-in-Some
returns-in-Some c = record { found = λ e u h. c.into_expr.ensures ∙ expr_is (Some c.in-Some.builder) c.args.nodes.now e (sym c.in-Some.is ∙ c.in_ok-builder.ensures) u h }

pub returns-in-None : goal.returns-in-None
returns-in-None c = record { found = λ e u h. expr_is None c.args.nodes.now e (sym c.in-None.is ∙ c.in_ok-builder.ensures) u h }
