-- What each node is to the depth of its parts: its kind, its place where it has one, and how many parts stand before it.
use Rattle.std.specs.Prelude.{ℕ, ◌+◌, List, [], ◌∷◌, Option, Some, None}
use Rattle.hb_base.specs.declared.place.Place.{Place}
use Rattle.hb_read_types.specs.declared.node.TypeNode.{TypeNode}
use Rattle.hb_read_types.specs.declared.node.TypeNode.TheVariants as t
use Rattle.hb_read_patterns.specs.declared.node.PatNode.{PatNode}
use Rattle.hb_read_patterns.specs.declared.node.PatNode.TheVariants as p
use Rattle.hb_read_expressions.specs.declared.node.ExprNode.{ExprNode}
use Rattle.hb_read_expressions.specs.declared.node.ExprNode.TheVariants as e
use Rattle.hb_read_declarations.specs.declared.node.DeclNode.{DeclNode}
use Rattle.hb_read_declarations.specs.declared.node.DeclNode.TheVariants as d
use Rattle.hb_depth.specs.declared.shape.Kind.{Kind}
use Rattle.hb_depth.specs.declared.shape.Kind.TheVariants.{Levels, Apply, Arrow}
use Rattle.hb_depth.specs.declared.shape.Shape.{Shape}

abbrev pub shape : Kind → Option Place → ℕ → Shape
shape kind place parts = record { kind = kind; place = place; parts = parts }

abbrev pub plain : Place → ℕ → Shape
plain place parts = shape (Levels 1) (Some place) parts

abbrev pub unplaced : ℕ → Shape
unplaced parts = shape (Levels 1) None parts

abbrev pub hidden : ℕ → Shape
hidden parts = shape (Levels 0) None parts

abbrev pub type_shape : TypeNode → Shape
type_shape (t.Con place name) = plain place 0
type_shape (t.Var place name) = plain place 0
type_shape (t.Number place k) = plain place 0
type_shape (t.Unit place) = plain place 0
type_shape (t.Pair place) = plain place 2
type_shape (t.Apply place) = shape Apply (Some place) 2
type_shape (t.Arrow place) = shape Arrow (Some place) 2
type_shape (t.Sum place) = plain place 2
type_shape (t.Class place name count) = plain place count
type_shape t.SumFact = unplaced 3
type_shape t.ProductFact = unplaced 3
type_shape t.PowerFact = unplaced 2
type_shape t.AtMostFact = unplaced 2
type_shape (t.Context count) = hidden count

abbrev pub pat_shape : PatNode → Shape
pat_shape (p.Any place) = plain place 0
pat_shape (p.Var place name) = plain place 0
pat_shape (p.Number place k) = plain place 0
pat_shape (p.Bits place width k) = plain place 0
pat_shape (p.Con place name count) = plain place count
pat_shape (p.Fields place name count) = plain place count
pat_shape (p.Field place name) = hidden 1
pat_shape (p.Pair place) = plain place 2
pat_shape (p.Unit place) = plain place 0
pat_shape (p.Row count) = hidden count

-- the parts of a run are its operators and the operands, which are one more; those of a row its patterns, its body and its
-- local rows
abbrev pub expr_shape : ExprNode → Shape
expr_shape (e.Var place name) = plain place 0
expr_shape (e.Con place name) = plain place 0
expr_shape (e.Number place k) = plain place 0
expr_shape (e.Bits place width k) = plain place 0
expr_shape (e.Unit place) = plain place 0
expr_shape (e.Apply place) = shape Apply (Some place) 2
expr_shape (e.Run place count) = shape (Levels count) (Some place) (count + count + 1)
expr_shape (e.Lambda place count) = plain place (count + 1)
expr_shape (e.Let place count) = plain place (count + 1)
expr_shape (e.If place) = plain place 3
expr_shape (e.Case place count) = plain place (count + 1)
expr_shape (e.Do place count) = plain place count
expr_shape (e.Select place name) = plain place 1
expr_shape (e.Field place name) = hidden 1
expr_shape (e.Build place name count) = plain place count
expr_shape (e.Update place count) = plain place (count + 1)
expr_shape (e.Pair place) = plain place 2
expr_shape (e.Pat inner) = pat_shape inner
expr_shape e.Alternative = hidden 2
expr_shape e.TakeStmt = hidden 2
expr_shape (e.LetStmt count) = hidden count
expr_shape e.DoStmt = hidden 1
expr_shape (e.Row name place pats first rows) = plain place (pats + 1 + rows)

abbrev pub decl_shape : DeclNode → Shape
decl_shape (d.Type inner) = type_shape inner
decl_shape (d.Expr inner) = expr_shape inner
decl_shape (d.Name place name) = hidden 0
decl_shape (d.Names count) = hidden count
decl_shape (d.Types count) = hidden count
decl_shape d.NoNumber = hidden 0
decl_shape (d.Number k) = hidden 0
decl_shape (d.Sig place) = plain place 3
decl_shape (d.Sigs count) = hidden count
decl_shape d.Equation = hidden 1
decl_shape (d.Equations count) = hidden count
decl_shape (d.Fixity place fix k) = plain place 1
decl_shape d.DataCon = hidden 2
decl_shape (d.DataCons count) = hidden count
decl_shape d.Fields = hidden 2
decl_shape (d.Tag width k) = hidden 0
decl_shape d.BitFields = hidden 1
decl_shape (d.BitCon count) = hidden (count + 1)
decl_shape (d.BitCons count) = hidden count
decl_shape (d.Pad k) = hidden 0
decl_shape d.StructFields = hidden 1
decl_shape (d.StructParts count) = hidden count
decl_shape d.Depend = hidden 2
decl_shape (d.Depends count) = hidden count
decl_shape (d.InitEach place) = plain place 2
decl_shape d.InitField = hidden 2
decl_shape (d.InitFields place count) = plain place count
decl_shape (d.InitCell place) = plain place 1
decl_shape d.NoInit = hidden 0
decl_shape d.Init = hidden 1
decl_shape (d.Data place) = plain place 3
decl_shape (d.Bitdata place) = plain place 3
decl_shape (d.Struct place) = plain place 3
decl_shape (d.Area place) = plain place 4
decl_shape (d.Port place dir width k) = plain place 2
decl_shape (d.Class place) = plain place 5
decl_shape (d.Instance place) = plain place 4
decl_shape (d.Program count) = unplaced count

-- the shapes of these nodes, and others behind them
abbrev pub shapes : List DeclNode → List Shape → List Shape
shapes [] others = others
shapes (n ∷ nodes) others = decl_shape n ∷ shapes nodes others
