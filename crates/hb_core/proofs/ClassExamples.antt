-- Classes: which instance a method means. What small sources show.
use Rattle.std.proofs.Common.{◌≡◌, ℕ, [], ◌∷◌, Some, refl}
use Rattle.hb_base.specs.declared.step.Stop.TheVariants.{Halt}
use Rattle.hb_runs.specs.System.{followed, told}
use Rattle.hb_runs.specs.Inner.{left_by}
use Rattle.hb_steps.specs.Tree.{answered, stepped}
use Rattle.hb_bits.specs.Bits.{digits}
use Rattle.hb_types.specs.Types.{Ty, Leaf, Apply as On}
use Rattle.hb_types.specs.declared.atom.Atom.TheVariants as atom
use Rattle.hb_tree.specs.Patterns as pat
use Rattle.hb_tree.specs.Expressions as expr
use Rattle.hb_tree.specs.Expressions.{Expr, TakeThen, LetThen, DoThen, NoStmts, MoreAlts, NoAlts, MoreBinds, NoBinds, NoEquations, MoreEquations}
use Rattle.hb_core.specs.Prims as prim
use Rattle.hb_core.specs.View.{Primitive, Local, Constructor, Method, Instance}
use Rattle.hb_core.specs.Evaluation.{eval, eval_kind, eval_fields, eval_alts, eval_rows, eval_binds, eval_stmts}
use Rattle.hb_core.specs.Initialisation.{turns, over_fields, initialises, initialises_field, initialises_areas}
use Rattle.hb_core.proofs.Samples.{Sample, is_at, e, v, p, pv, call, call_two, row, con, unsigned, name, nothing_written, place, outcome, so_far, ended}

-- `class Eq a where (==) :: a -> a -> Bool`, with the instances `Eq Unsigned` and `Eq (Maybe a) if Eq a`
abbrev maybe : Ty → Ty
maybe t = On (con 15) t

abbrev var : ℕ → Ty
var n = Leaf (atom.Var n)

-- `x == y = eqU x y`
abbrev of_unsigned : Instance
of_unsigned = record {
  class = 9;
  variables = 0;
  head = unsigned ∷ [];
  context = [];
  equations = λ n. Some (row (pv 30 ∷ pv 31 ∷ []) (call_two 36 (v 32) 34 (v 33) (v 35)));
}

-- `Just x == Just y = x == y`, and `_ == _ = False`
abbrev of_maybe : Instance
of_maybe = record {
  class = 9;
  variables = 1;
  head = maybe (var 0) ∷ [];
  context = record { class = 9; args = var 0 ∷ [] } ∷ [];
  equations = λ n. Some
      (MoreEquations (p 41 (pat.Con (name 0) (pat.MorePats (pv 40) pat.NoPats)) ∷ p 43 (pat.Con (name 0) (pat.MorePats (pv 42) pat.NoPats)) ∷ []) place
      (call_two 48 (v 44) 46 (v 45) (v 47)) NoBinds
      (row (p 49 pat.Any ∷ p 50 pat.Any ∷ []) (e 51 (expr.Con (name 0)))));
}

-- `main = halt (if Just 1 == Just n then 7 else 8)`
abbrev compares : ℕ → Sample
compares n = record nothing_written {
  targets =
      is_at 1 (Primitive prim.Halt) ∷ is_at 2 (Method 0) ∷ is_at 3 (Constructor 4) ∷ is_at 7 (Constructor 4) ∷ is_at 32 (Primitive prim.EqU) ∷ is_at 33 (Local 30) ∷ is_at 35 (Local 31)
      ∷ is_at 41 (Constructor 4) ∷ is_at 43 (Constructor 4) ∷ is_at 44 (Method 0) ∷ is_at 45 (Local 40) ∷ is_at 47 (Local 42) ∷ is_at 51 (Constructor 0) ∷ [];
  taken_at = is_at 2 (maybe unsigned ∷ []) ∷ is_at 44 (var 0 ∷ []) ∷ [];
  methods = record { class = 9; parameters = 1; place = 0 } ∷ [];
  instances = of_unsigned ∷ of_maybe ∷ [];
  tops =
      row []
      (call 14 (v 1) (e 13 (expr.If (call_two 10 (v 2) 6 (call 5 (v 3) (e 4 (expr.Number 1))) (call 9 (v 7) (e 8 (expr.Number n)))) (e 11 (expr.Number 7)) (e 12 (expr.Number 8)))))
      ∷ [];
}

a_method_is_the_equation_of_the_instance : outcome (compares 1) (λ n. 16) 32 [] 2 ≡ so_far []
unfolding told followed stepped answered left_by digits eval eval_kind eval_fields eval_alts eval_rows eval_binds eval_stmts turns over_fields initialises initialises_field initialises_areas
a_method_is_the_equation_of_the_instance = refl

a_context_is_met_by_an_instance_in_turn : outcome (compares 1) (λ n. 16) 32 [] 4 ≡ ended [] (Halt 7)
unfolding told followed stepped answered left_by digits eval eval_kind eval_fields eval_alts eval_rows eval_binds eval_stmts turns over_fields initialises initialises_field initialises_areas
a_context_is_met_by_an_instance_in_turn = refl

what_differs_is_not_equal : outcome (compares 2) (λ n. 16) 32 [] 4 ≡ ended [] (Halt 8)
unfolding told followed stepped answered left_by digits eval eval_kind eval_fields eval_alts eval_rows eval_binds eval_stmts turns over_fields initialises initialises_field initialises_areas
what_differs_is_not_equal = refl
