-- What the builder of expressions answers, and that an expression as it is read is determined by its nodes.
use Rattle.std.proofs.Common.{◌≡◌, refl, ap, sym, ◌∙◌, List, [], Option, Some, None}
use Rattle.hb_tree.specs.Expressions.{Expr}
use Rattle.hb_read_expressions.specs.declared.node.ExprNode.{ExprNode}
use Rattle.hb_read_expressions.specs.Nodes.{expr_nodes}
use Rattle.hb_build.specs.Building.{built}
use Rattle.hb_build.proofs.BuildingLaws.{same}
use Rattle.hb_build_expressions.specs.declared.builder.ExprBuilder.{ExprBuilder}
use Rattle.hb_build_expressions.specs.ExpressionSteps.{start, stepped, lone_expr}
use Rattle.hb_build_expressions.specs.Parsed.{IsParsed}
use Rattle.hb_build_expressions.proofs.ExpressionsFound.{expr_found}

-- the expression, where it is all that is built
abbrev pub expr_of : Option ExprBuilder → Option Expr
expr_of None = None
expr_of (Some s) = lone_expr s.pats.parts s.exprs s.fields s.alts s.stmts s.binds

pub expr_is : (s : Option ExprBuilder) (nodes : List ExprNode) (e : Expr) → s ≡ built stepped (Some start) nodes → IsParsed e → nodes ≡ expr_nodes e → expr_of s ≡ Some e
expr_is s nodes e b u h = ap expr_of (b ∙ ap (built stepped (Some start)) h ∙ expr_found start [] start e u refl)

-- two expressions as they are read that have the same nodes are one
pub exprs_alike : (a b : Expr) → IsParsed a → IsParsed b → expr_nodes a ≡ expr_nodes b → a ≡ b
exprs_alike a b u v e = same a b (sym (expr_is (built stepped (Some start) (expr_nodes a)) (expr_nodes a) a refl u refl) ∙ expr_is (built stepped (Some start) (expr_nodes a)) (expr_nodes a) b refl v e)
