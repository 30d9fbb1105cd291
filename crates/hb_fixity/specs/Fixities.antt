-- Which operator trees are right, and what a run of operands and operators groups to.
use Rattle.std.specs.Prelude.{◌≡◌, ℕ, Bool, true, false, ◌&&◌, ◌||◌, IsTrue, nat_lt, nat_eq, List, [], ◌∷◌, ◌++◌, if◌then◌else◌}
use Rattle.hb_base.specs.declared.place.Place.{Place}
use Rattle.hb_tree.specs.declared.declaration.Fix.{Fix}
use Rattle.hb_tree.specs.declared.declaration.Fix.TheVariants.{Left, Right, Neither}
use Rattle.hb_tree.specs.Expressions.{Expr, AnExpr, Var, Apply}
use Rattle.hb_fixity.specs.declared.fixity.Fixity.{Fixity}
use Rattle.hb_fixity.specs.declared.fixity.Operator.{Operator}

abbrev pub is_left : Fix → Bool
is_left Left = true
is_left Right = false
is_left Neither = false

abbrev pub is_right : Fix → Bool
is_right Left = false
is_right Right = true
is_right Neither = false

-- an operator of the first fixity may stand at the head of the left operand of one of the second: it binds tighter, or
-- equally with both `infixl`
abbrev pub goes_left : Fixity → Fixity → Bool
goes_left inner outer =
    if nat_lt outer.level inner.level then true
    else (if nat_eq inner.level outer.level then (is_left inner.fix && is_left outer.fix) else false)

-- an operator of the second fixity may stand at the head of the right operand of one of the first: it binds tighter, or
-- equally with both `infixr`
abbrev pub goes_right : Fixity → Fixity → Bool
goes_right outer inner =
    if nat_lt outer.level inner.level then true
    else (if nat_eq inner.level outer.level then (is_right outer.fix && is_right inner.fix) else false)

-- an operand, or an operator between two trees
pub data OpTree : Type 0 where
  Operand : Expr → OpTree
  Operation : Operator → OpTree → OpTree → OpTree

-- the tree may be the left operand of the operator, and its right operand
abbrev pub fits_left : Operator → OpTree → Bool
fits_left op (Operand e) = true
fits_left op (Operation inner l r) = goes_left inner.fixity op.fixity

abbrev pub fits_right : Operator → OpTree → Bool
fits_right op (Operand e) = true
fits_right op (Operation inner l r) = goes_right op.fixity inner.fixity

-- each operator has operands that fit
pub data IsRight : OpTree → Type 0 where
  RightOperand : (e : Expr) → IsRight (Operand e)
  RightOperation : (op : Operator) (l r : OpTree) → IsTrue (fits_left op l) → IsTrue (fits_right op r) → IsRight l → IsRight r → IsRight (Operation op l r)

-- what a tree is made of, as it is written: its first operand, and its operators, each with the operand behind it
abbrev pub first_operand : OpTree → Expr
first_operand (Operand e) = e
first_operand (Operation op l r) = first_operand l

abbrev pub others : OpTree → List (Operator × Expr)
others (Operand e) = []
others (Operation op l r) = others l ++ (op, first_operand r) ∷ others r

-- the run groups to the tree
pub record Groups (first : Expr) (rest : List (Operator × Expr)) (t : OpTree) : Type 0 where
  pub right : IsRight t
  pub begins : first_operand t ≡ first
  pub goes_on : others t ≡ rest

-- the operator is the first for which the run up to its right operand groups to no tree: the run before it has one
pub record IsFirstClash (first : Expr) (rest : List (Operator × Expr)) (op : Operator) : Type 0 where
  pub before : List (Operator × Expr)
  pub operand : Expr
  pub after : List (Operator × Expr)
  pub split : rest ≡ before ++ (op, operand) ∷ after
  pub good_before : (t : OpTree) × Groups first before t
  pub none : (t : OpTree) → Groups first (before ++ (op, operand) ∷ []) t → ⊥

abbrev pub place_of : Expr → Place
place_of (AnExpr node at kind) = at

-- a function applied to an argument: it stands at the argument
abbrev pub applied : Expr → Expr → Expr
applied f x = AnExpr 0 (place_of x) (Apply f x)

-- an operator applied to its two operands
abbrev pub operator_applied : Operator → Expr → Expr → Expr
operator_applied op l r = applied (applied (AnExpr 0 op.place (Var op.name)) l) r

-- the expression that a tree stands for
abbrev pub expr_of : OpTree → Expr
expr_of (Operand e) = e
expr_of (Operation op l r) = operator_applied op (expr_of l) (expr_of r)
