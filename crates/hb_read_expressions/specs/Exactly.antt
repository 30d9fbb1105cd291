-- What the readers of expressions, equations and blocks of equations read: just what the grammar says, and what comes out
-- is the nodes.
use Rattle.std.specs.Prelude.{◌≡◌, Bool, true, false, List, [], None}
use Rattle.hb_base.specs.declared.name.Name.{Name}
use Rattle.hb_tokens.specs.declared.token.Token.{Token}
use Rattle.hb_tree.specs.Expressions.{Expr, Binds, Equations}
use Rattle.hb_grammar.specs.Tokens.{first_place}
use Rattle.hb_grammar.specs.Expressions.{ReadsExpr, ReadsEquation, ReadsBinds}
use Rattle.hb_grammar.specs.Reading.{Exact}
use Rattle.hb_read_patterns.specs.declared.reader.PatReader.{PatReader}
use Rattle.hb_read_expressions.specs.declared.node.ExprNode.{ExprNode}
use Rattle.hb_read_expressions.specs.Nodes.{expr_nodes, put_rows, put_binds}
use Rattle.hb_read_expressions.specs.declared.state.State.{State}
use Rattle.hb_read_expressions.specs.Moves.{moved, expr_reader, equation_reader, binds_reader}
use Rattle.hb_read_expressions.specs.declared.sort.Sort.{Sort}
use Rattle.hb_read_expressions.specs.declared.sort.Sort.TheVariants as sort
use Rattle.hb_read_expressions.specs.Sorts.{sort_of}

-- the tokens ts begin with an expression of these nodes, and us are left
pub record ExprOf (ts : List Token) (nodes : List ExprNode) (us : List Token) : Type 0 where
  pub expr : Expr
  pub reads : ReadsExpr ts expr us
  pub is : nodes ≡ expr_nodes expr

-- the same of an equation, which is one row of what it defines
pub record EquationOf (ts : List Token) (nodes : List ExprNode) (us : List Token) : Type 0 where
  pub name : Name
  pub row : Equations
  pub reads : ReadsEquation ts name row us
  pub is : nodes ≡ put_rows name (first_place ts) row []

-- the same of a block of equations
pub record BindsOf (ts : List Token) (nodes : List ExprNode) (us : List Token) : Type 0 where
  pub binds : Binds
  pub reads : ReadsBinds ts binds us
  pub is : nodes ≡ put_binds binds []

-- wherever the reader of patterns stands at first
abbrev pub ExprReaderIsExact : Type 0
ExprReaderIsExact = (pats : PatReader) → Exact (expr_reader pats) ExprOf

abbrev pub EquationReaderIsExact : Type 0
EquationReaderIsExact = (pats : PatReader) → Exact (equation_reader pats) EquationOf

abbrev pub BindsReaderIsExact : Type 0
BindsReaderIsExact = (pats : PatReader) → Exact (binds_reader pats) BindsOf

-- a token that goes on with a whole expression, or with an equation whose expression is whole
abbrev pub goes_on : Sort → Bool
goes_on (sort.Variable name) = true
goes_on (sort.Number k) = true
goes_on (sort.Bits width k) = true
goes_on (sort.Constructor name) = true
goes_on (sort.Operator name) = true
goes_on sort.Dot = true
goes_on sort.Open = true
goes_on sort.OpenSquare = true
goes_on sort.Backquote = true
goes_on sort.Where = true
goes_on x = false

-- no other token is taken
abbrev pub EndsBefore : State → Type 0
EndsBefore s = (t : Token) → goes_on (sort_of t.kind) ≡ false → moved s t ≡ None
