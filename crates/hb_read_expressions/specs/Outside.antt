-- What a token outside patterns makes of the reader of expressions.
use Rattle.std.specs.Prelude.{ℕ, ◌+◌, false, List, ◌∷◌, Option, Some, None}
use Rattle.hb_base.specs.declared.name.Name.{Name}
use Rattle.hb_base.specs.declared.place.Place.{Place}
use Rattle.hb_read_expressions.specs.declared.node.ExprNode.{ExprNode}
use Rattle.hb_read_expressions.specs.declared.node.ExprNode.TheVariants as node
use Rattle.hb_read_expressions.specs.declared.sort.Sort.{Sort}
use Rattle.hb_read_expressions.specs.declared.sort.Sort.TheVariants as sort
use Rattle.hb_read_expressions.specs.declared.frame.Begun.{Begun}
use Rattle.hb_read_expressions.specs.declared.frame.Begun.TheVariants.{First}
use Rattle.hb_read_expressions.specs.declared.frame.Spot.{Spot}
use Rattle.hb_read_expressions.specs.declared.frame.Spot.TheVariants.{Head, Argument}
use Rattle.hb_read_expressions.specs.declared.frame.Target.{Target}
use Rattle.hb_read_expressions.specs.declared.frame.Target.TheVariants.{Build, Update}
use Rattle.hb_read_expressions.specs.declared.frame.Frame.{Frame}
use Rattle.hb_read_expressions.specs.declared.frame.Frame.TheVariants as frame
use Rattle.hb_read_expressions.specs.declared.now.Purpose.TheVariants.{ForLambda, ForRight}
use Rattle.hb_read_expressions.specs.declared.now.Now.{Now}
use Rattle.hb_read_expressions.specs.declared.now.Now.TheVariants as now
use Rattle.hb_read_expressions.specs.Nodes.{put}
use Rattle.hb_read_expressions.specs.declared.state.Core.{Core}
use Rattle.hb_read_expressions.specs.States.{at, one_more, begun_of, end_post}
use Rattle.hb_read_expressions.specs.Ends.{row_next, close, end_operand}

-- the first token of a post
abbrev pub begin_post : Spot → List Frame → List ExprNode → Place → Sort → Option Core
begin_post spot frames nodes place (sort.Variable name) = Some (at frames (now.Post spot place place) (put nodes (node.Var place name)))
begin_post spot frames nodes place (sort.Number k) = Some (at frames (now.Post spot place place) (put nodes (node.Number place k)))
begin_post spot frames nodes place (sort.Bits width k) = Some (at frames (now.Post spot place place) (put nodes (node.Bits place width k)))
begin_post spot frames nodes place (sort.Constructor name) = Some (at frames (now.Con spot place name) nodes)
begin_post spot frames nodes place sort.Open = Some (at frames (now.Opened spot place) nodes)
begin_post spot frames nodes place sort = None

-- the first token of an operand: of a form that is open to the right, or of a post
abbrev pub begin_operand : Begun → List Frame → List ExprNode → Place → Sort → Option Core
begin_operand begun frames nodes place sort.Backslash = Some (at frames (now.ParamStart (ForLambda begun place) 0) nodes)
begin_operand begun frames nodes place sort.Let = Some (at (frame.LetBinds begun place ∷ frames) now.BindsBrace nodes)
begin_operand begun frames nodes place sort.If = Some (at (frame.If begun place ∷ frames) now.Want nodes)
begin_operand begun frames nodes place sort.Case = Some (at (frame.Case begun place ∷ frames) now.Want nodes)
begin_operand begun frames nodes place sort.Do = Some (at frames (now.DoBrace begun place) nodes)
begin_operand begun frames nodes place sort = begin_post (Head begun) frames nodes place sort

-- the first token of an expression
abbrev pub begin : List Frame → List ExprNode → Place → Sort → Option Core
begin frames nodes place sort = begin_operand (First place) frames nodes place sort

abbrev pub or_else : Option Core → Option Core → Option Core
or_else None other = other
or_else (Some core) other = Some core

-- the post is whole: an operator, an argument, or the end of the expression
abbrev pub after_post : Spot → Place → List Frame → List ExprNode → Place → Sort → Option Core
after_post spot stands frames nodes place (sort.Operator name) =
    Some (at frames (now.Operand (one_more (begun_of spot))) (put (end_post spot stands nodes) (node.Var place name)))
after_post spot stands frames nodes place sort.Backquote = Some (at frames (now.Quoted (begun_of spot)) (end_post spot stands nodes))
after_post spot stands frames nodes place sort =
    or_else (begin_post (Argument (begun_of spot)) frames (end_post spot stands nodes) place sort) (close (end_operand frames (begun_of spot) stands (end_post spot stands nodes)) sort)

-- after a post that may go on
abbrev pub move_post : Spot → Place → Place → List Frame → List ExprNode → Place → Sort → Option Core
move_post spot first stands frames nodes place sort.Dot = Some (at frames (now.Dotted spot first) nodes)
move_post spot first stands frames nodes place sort.OpenSquare = Some (at frames (now.FirstField spot first Update) nodes)
move_post spot first stands frames nodes place sort = after_post spot stands frames nodes place sort

-- after a constructor's name
abbrev pub move_con : Spot → Place → Name → List Frame → List ExprNode → Place → Sort → Option Core
move_con spot con_place con frames nodes place sort.OpenSquare = Some (at frames (now.FirstField spot con_place (Build con)) nodes)
move_con spot con_place con frames nodes place sort.Dot = Some (at frames (now.Dotted spot con_place) (put nodes (node.Con con_place con)))
move_con spot con_place con frames nodes place sort = after_post spot con_place frames (put nodes (node.Con con_place con)) place sort

abbrev pub move_dotted : Spot → Place → List Frame → List ExprNode → Sort → Option Core
move_dotted spot first frames nodes (sort.Variable name) = Some (at frames (now.Post spot first first) (put nodes (node.Select first name)))
move_dotted spot first frames nodes sort = None

-- after `(`: the unit value, an operator as a name, or an expression
abbrev pub move_opened : Spot → Place → List Frame → List ExprNode → Place → Sort → Option Core
move_opened spot bracket frames nodes place sort.Close = Some (at frames (now.Post spot bracket bracket) (put nodes (node.Unit bracket)))
move_opened spot bracket frames nodes place (sort.Operator name) = Some (at frames (now.OpName spot bracket name) nodes)
move_opened spot bracket frames nodes place sort = begin (frame.Bracket spot bracket ∷ frames) nodes place sort

abbrev pub move_op_name : Spot → Place → Name → List Frame → List ExprNode → Sort → Option Core
move_op_name spot bracket name frames nodes sort.Close = Some (at frames (now.Post spot bracket bracket) (put nodes (node.Var bracket name)))
move_op_name spot bracket name frames nodes sort = None

abbrev pub move_quoted : Begun → List Frame → List ExprNode → Place → Sort → Option Core
move_quoted begun frames nodes place (sort.Variable name) = Some (at frames (now.QuotedName begun place name) nodes)
move_quoted begun frames nodes place sort = None

abbrev pub move_quoted_name : Begun → Place → Name → List Frame → List ExprNode → Sort → Option Core
move_quoted_name begun name_place name frames nodes sort.Backquote = Some (at frames (now.Operand (one_more begun)) (put nodes (node.Var name_place name)))
move_quoted_name begun name_place name frames nodes sort = None

-- a field's name
abbrev pub move_field : Spot → Place → Target → ℕ → List Frame → List ExprNode → Place → Sort → Option Core
move_field spot first target before frames nodes place (sort.Variable field) = Some (at frames (now.FieldName spot first target before place field) nodes)
move_field spot first target before frames nodes place sort = None

-- after `[`: a construction may have no fields, an update has some
abbrev pub move_first_field : Spot → Place → Target → List Frame → List ExprNode → Place → Sort → Option Core
move_first_field spot first (Build con) frames nodes place sort.CloseSquare = Some (at frames (now.Sealed spot first) (put nodes (node.Build first con 0)))
move_first_field spot first target frames nodes place sort = move_field spot first target 0 frames nodes place sort

abbrev pub move_field_name : Spot → Place → Target → ℕ → Place → Name → List Frame → List ExprNode → Sort → Option Core
move_field_name spot first target before field_place field frames nodes sort.Equals =
    Some (at (frame.Field spot first target before field_place field ∷ frames) now.Want nodes)
move_field_name spot first target before field_place field frames nodes sort = None

abbrev pub move_binds_brace : List Frame → List ExprNode → Sort → Option Core
move_binds_brace frames nodes sort.OpenBrace = Some (at frames (now.BindStart 0) nodes)
move_binds_brace frames nodes sort = None

abbrev pub move_row_op : ℕ → Place → Name → List Frame → List ExprNode → Sort → Option Core
move_row_op before place name frames nodes sort.Close = Some (at frames (now.RowName before place name) nodes)
move_row_op before place name frames nodes sort = None

abbrev pub move_row_quote : ℕ → Place → List Frame → List ExprNode → Sort → Option Core
move_row_quote before place frames nodes (sort.Variable name) = Some (at frames (now.RowQuoted before place name) nodes)
move_row_quote before place frames nodes sort = None

abbrev pub move_row_quoted : ℕ → Place → Name → List Frame → List ExprNode → Sort → Option Core
move_row_quoted before place name frames nodes sort.Backquote = Some (at frames (now.ParamStart (ForRight name place before) 1) nodes)
move_row_quoted before place name frames nodes sort = None

-- `let { .. } ;` right at a statement's head is a statement
abbrev pub let_statement : List Frame → Begun → ℕ → List ExprNode → Option Core
let_statement (frame.Statement begun place before mark ∷ frames) (First first) binds nodes =
    Some (at frames (now.StmtStart begun place (before + 1) false) (put nodes (node.LetStmt binds)))
let_statement frames begun binds nodes = None

abbrev pub move_let_in : Begun → Place → ℕ → List Frame → List ExprNode → Sort → Option Core
move_let_in begun place binds frames nodes sort.In = Some (at (frame.LetBody begun place binds ∷ frames) now.Want nodes)
move_let_in begun place binds frames nodes sort.Semicolon = let_statement frames begun binds nodes
move_let_in begun place binds frames nodes sort = None

abbrev pub move_case_brace : Begun → Place → List Frame → List ExprNode → Sort → Option Core
move_case_brace begun place frames nodes sort.OpenBrace = Some (at frames (now.AltStart begun place 0) nodes)
move_case_brace begun place frames nodes sort = None

abbrev pub move_do_brace : Begun → Place → List Frame → List ExprNode → Sort → Option Core
move_do_brace begun place frames nodes sort.OpenBrace = Some (at frames (now.StmtStart begun place 0 false) nodes)
move_do_brace begun place frames nodes sort = None

-- a token of a block, or after one
abbrev pub move_block : Now → List Frame → List ExprNode → Sort → Option Core
move_block (now.Whole begun stands) frames nodes sort = close (end_operand frames begun stands nodes) sort
move_block now.BindsBrace frames nodes sort = move_binds_brace frames nodes sort
move_block (now.RowOp before row_place name) frames nodes sort = move_row_op before row_place name frames nodes sort
move_block (now.RowQuote before row_place) frames nodes sort = move_row_quote before row_place frames nodes sort
move_block (now.RowQuoted before row_place name) frames nodes sort = move_row_quoted before row_place name frames nodes sort
move_block (now.RowEnd binds) frames nodes sort = row_next frames binds nodes sort
move_block (now.LetIn begun let_place binds) frames nodes sort = move_let_in begun let_place binds frames nodes sort
move_block (now.CaseBrace begun case_place) frames nodes sort = move_case_brace begun case_place frames nodes sort
move_block (now.DoBrace begun do_place) frames nodes sort = move_do_brace begun do_place frames nodes sort
move_block now frames nodes sort = None

-- a token outside patterns
abbrev pub move_core : Now → List Frame → List ExprNode → Place → Sort → Option Core
move_core now.Want frames nodes place sort = begin frames nodes place sort
move_core (now.Operand begun) frames nodes place sort = begin_operand begun frames nodes place sort
move_core (now.Post spot first stands) frames nodes place sort = move_post spot first stands frames nodes place sort
move_core (now.Con spot con_place con) frames nodes place sort = move_con spot con_place con frames nodes place sort
move_core (now.Sealed spot stands) frames nodes place sort = after_post spot stands frames nodes place sort
move_core (now.Dotted spot first) frames nodes place sort = move_dotted spot first frames nodes sort
move_core (now.Opened spot bracket) frames nodes place sort = move_opened spot bracket frames nodes place sort
move_core (now.OpName spot bracket name) frames nodes place sort = move_op_name spot bracket name frames nodes sort
move_core (now.Quoted begun) frames nodes place sort = move_quoted begun frames nodes place sort
move_core (now.QuotedName begun name_place name) frames nodes place sort = move_quoted_name begun name_place name frames nodes sort
move_core (now.FirstField spot first target) frames nodes place sort = move_first_field spot first target frames nodes place sort
move_core (now.NextField spot first target before) frames nodes place sort = move_field spot first target before frames nodes place sort
move_core (now.FieldName spot first target before field_place field) frames nodes place sort =
    move_field_name spot first target before field_place field frames nodes sort
move_core now frames nodes place sort = move_block now frames nodes sort
