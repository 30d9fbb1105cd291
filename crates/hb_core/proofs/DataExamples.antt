-- Expressions and patterns of each form: what small sources show. Each halts with the number that it comes to.
use Rattle.std.proofs.Common.{◌≡◌, List, [], ◌∷◌, true, false, refl}
use Rattle.hb_base.specs.declared.step.Stop.TheVariants.{Halt, Stack}
use Rattle.hb_runs.specs.System.{followed, told}
use Rattle.hb_runs.specs.Inner.{left_by}
use Rattle.hb_steps.specs.Tree.{answered, stepped}
use Rattle.hb_bits.specs.Bits.{digits}
use Rattle.hb_bits.specs.Members.{Fixed, Free}
use Rattle.hb_tree.specs.Patterns as pat
use Rattle.hb_tree.specs.Expressions as expr
use Rattle.hb_tree.specs.Expressions.{Expr, TakeThen, LetThen, DoThen, NoStmts, MoreAlts, NoAlts, MoreBinds, NoBinds, NoEquations, MoreEquations}
use Rattle.hb_core.specs.Prims as prim
use Rattle.hb_core.specs.View.{Primitive, Top, Local, Constructor, Con, BitCon, BitField, BitType}
use Rattle.hb_core.specs.Evaluation.{eval, eval_kind, eval_fields, eval_alts, eval_rows, eval_binds, eval_stmts}
use Rattle.hb_core.specs.Initialisation.{turns, over_fields, initialises, initialises_field, initialises_areas}
use Rattle.hb_core.proofs.Samples.{Sample, is_at, e, v, p, pv, call, call_two, row, con, bit, name, nothing_written, place, outcome, so_far, ended}

-- `main = halt ((\x y -> subU x y) 7 3)`
a_lambda : Sample
a_lambda = record nothing_written {
  targets = is_at 1 (Primitive prim.Halt) ∷ is_at 4 (Primitive prim.SubU) ∷ is_at 5 (Local 2) ∷ is_at 7 (Local 3) ∷ [];
  tops =
      row [] (call 14 (v 1) (call_two 13 (e 9 (expr.Lambda (pv 2 ∷ pv 3 ∷ []) (call_two 8 (v 4) 6 (v 5) (v 7)))) 11 (e 10 (expr.Number 7)) (e 12 (expr.Number 3)))) ∷ [];
}

a_lambda_is_called_once_it_has_all_its_arguments : outcome a_lambda (λ n. 16) 32 [] 2 ≡ so_far []
unfolding told followed stepped answered left_by digits eval eval_kind eval_fields eval_alts eval_rows eval_binds eval_stmts turns over_fields initialises initialises_field initialises_areas a_lambda
a_lambda_is_called_once_it_has_all_its_arguments = refl

a_call_of_a_lambda_is_a_step : outcome a_lambda (λ n. 16) 32 [] 3 ≡ ended [] (Halt 4)
unfolding told followed stepped answered left_by digits eval eval_kind eval_fields eval_alts eval_rows eval_binds eval_stmts turns over_fields initialises initialises_field initialises_areas a_lambda
a_call_of_a_lambda_is_a_step = refl

a_lambda_has_a_room_of_its_own : outcome a_lambda (λ n. 16) 31 [] 3 ≡ ended [] Stack
unfolding told followed stepped answered left_by digits eval eval_kind eval_fields eval_alts eval_rows eval_binds eval_stmts turns over_fields initialises initialises_field initialises_areas a_lambda
a_lambda_has_a_room_of_its_own = refl

-- `main = let { f = subU 7; g x y = f y } in halt (h 3)`, where `h = g 1` comes last in the block
partly_applied : Sample
partly_applied = record nothing_written {
  targets = is_at 1 (Primitive prim.SubU) ∷ is_at 6 (Local 3) ∷ is_at 7 (Local 5) ∷ is_at 9 (Local 8) ∷ is_at 11 (Local 10) ∷ is_at 13 (Primitive prim.Halt) ∷ [];
  tops =
      row []
      (e 17 (expr.Let
      (MoreBinds (name 0) place (row [] (call 3 (v 1) (e 2 (expr.Number 7))))
      (MoreBinds (name 0) place (row (pv 4 ∷ pv 5 ∷ []) (call 8 (v 6) (v 7)))
      (MoreBinds (name 0) place (row [] (call 10 (v 9) (e 12 (expr.Number 1)))) NoBinds)))
      (call 16 (v 13) (call 15 (v 11) (e 14 (expr.Number 3))))))
      ∷ [];
}

a_primitive_is_no_step_and_waits_for_its_arguments : outcome partly_applied (λ n. 16) 32 [] 3 ≡ ended [] (Halt 4)
unfolding told followed stepped answered left_by digits eval eval_kind eval_fields eval_alts eval_rows eval_binds eval_stmts turns over_fields initialises initialises_field initialises_areas partly_applied
a_primitive_is_no_step_and_waits_for_its_arguments = refl

a_function_waits_for_its_arguments : outcome partly_applied (λ n. 16) 32 [] 2 ≡ so_far []
unfolding told followed stepped answered left_by digits eval eval_kind eval_fields eval_alts eval_rows eval_binds eval_stmts turns over_fields initialises initialises_field initialises_areas partly_applied
a_function_waits_for_its_arguments = refl

-- `main = let { x = 2; even n = if eqU n 0 then x else odd (subU n 1); odd n = if eqU n 0 then 0 else even (subU n 1) } in
-- halt (even 2)`
two_functions : Sample
two_functions = record nothing_written {
  targets =
      is_at 3 (Primitive prim.EqU) ∷ is_at 4 (Local 2) ∷ is_at 8 (Local 1) ∷ is_at 9 (Local 24) ∷ is_at 10 (Primitive prim.SubU) ∷ is_at 11 (Local 2)
      ∷ is_at 17 (Primitive prim.EqU) ∷ is_at 18 (Local 16) ∷ is_at 23 (Local 15) ∷ is_at 25 (Primitive prim.SubU) ∷ is_at 26 (Local 16)
      ∷ is_at 32 (Primitive prim.Halt) ∷ is_at 33 (Local 15) ∷ [];
  tops =
      row []
      (e 37 (expr.Let
      (MoreBinds (name 0) place (row [] (e 1 (expr.Number 2)))
      (MoreBinds (name 0) place
      (row (pv 2 ∷ []) (e 15 (expr.If (call_two 7 (v 3) 5 (v 4) (e 6 (expr.Number 0))) (v 8) (call 14 (v 9) (call_two 13 (v 10) 12 (v 11) (e 30 (expr.Number 1)))))))
      (MoreBinds (name 0) place
      (row (pv 16 ∷ []) (e 24 (expr.If (call_two 21 (v 17) 19 (v 18) (e 20 (expr.Number 0))) (e 22 (expr.Number 0)) (call 29 (v 23) (call_two 28 (v 25) 27 (v 26) (e 31 (expr.Number 1)))))))
      NoBinds)))
      (call 36 (v 32) (call 35 (v 33) (e 34 (expr.Number 2))))))
      ∷ [];
}

functions_side_by_side_use_one_another : outcome two_functions (λ n. 16) 32 [] 5 ≡ ended [] (Halt 2)
unfolding told followed stepped answered left_by digits eval eval_kind eval_fields eval_alts eval_rows eval_binds eval_stmts turns over_fields initialises initialises_field initialises_areas two_functions
functions_side_by_side_use_one_another = refl

branches_are_in_tail_position : outcome two_functions (λ n. 16) 32 [] 4 ≡ so_far []
unfolding told followed stepped answered left_by digits eval eval_kind eval_fields eval_alts eval_rows eval_binds eval_stmts turns over_fields initialises initialises_field initialises_areas two_functions
branches_are_in_tail_position = refl

-- `main = halt (f 4)`, `f x = addU y y where y = addU x 1`
with_where : Sample
with_where = record nothing_written {
  targets = is_at 1 (Primitive prim.Halt) ∷ is_at 2 (Top 1) ∷ is_at 7 (Primitive prim.AddU) ∷ is_at 8 (Local 16) ∷ is_at 10 (Local 16) ∷ is_at 13 (Primitive prim.AddU) ∷ is_at 14 (Local 6) ∷ [];
  tops =
      row [] (call 5 (v 1) (call 4 (v 2) (e 3 (expr.Number 4))))
      ∷ MoreEquations (pv 6 ∷ []) place (call_two 11 (v 7) 9 (v 8) (v 10))
      (MoreBinds (name 0) place (row [] (call_two 16 (v 13) 15 (v 14) (e 17 (expr.Number 1)))) NoBinds) NoEquations
      ∷ [];
}

where_is_evaluated_once_the_row_matched : outcome with_where (λ n. 16) 32 [] 3 ≡ ended [] (Halt 10)
unfolding told followed stepped answered left_by digits eval eval_kind eval_fields eval_alts eval_rows eval_binds eval_stmts turns over_fields initialises initialises_field initialises_areas with_where
where_is_evaluated_once_the_row_matched = refl

-- `main = halt (case Just (Pair 5 ()) of { Nothing -> 0; Just (x, ()) -> x })`
data_values : Sample
data_values = record nothing_written {
  targets = is_at 1 (Primitive prim.Halt) ∷ is_at 2 (Constructor 4) ∷ is_at 3 (Constructor 5) ∷ is_at 9 (Constructor 3) ∷ is_at 11 (Constructor 4) ∷ is_at 15 (Local 12) ∷ [];
  tops =
      row []
      (call 17 (v 1) (e 16 (expr.Case (call 8 (e 2 (expr.Con (name 0))) (call_two 7 (e 3 (expr.Con (name 0))) 5 (e 4 (expr.Number 5)) (e 6 expr.Unit)))
      (MoreAlts (p 9 (pat.Con (name 0) pat.NoPats)) (e 10 (expr.Number 0))
      (MoreAlts (p 11 (pat.Con (name 0) (pat.MorePats (p 14 (pat.Pair (pv 12) (p 13 pat.Unit))) pat.NoPats))) (v 15) NoAlts)))))
      ∷ [];
}

parts_of_a_constructor_are_bound : outcome data_values (λ n. 16) 16 [] 2 ≡ ended [] (Halt 5)
unfolding told followed stepped answered left_by digits eval eval_kind eval_fields eval_alts eval_rows eval_binds eval_stmts turns over_fields initialises initialises_field initialises_areas data_values
parts_of_a_constructor_are_bound = refl

-- `bitdata S = S [ B1 | hi :: Bit 3 | lo :: Bit 4 ]`
abbrev the_fields : List BitField
the_fields = record { name = name 1; at = 4; width = 3; of = bit 3 } ∷ record { name = name 2; at = 0; width = 4; of = bit 4 } ∷ []

abbrev s_type : BitType
s_type = record { width = 8; constructors = 6 ∷ [] }

abbrev the_con : Con
the_con = BitCon (Fixed true ∷ Free ∷ Free ∷ Free ∷ Free ∷ Free ∷ Free ∷ Free ∷ []) the_fields

-- `S [ lo = X5 | hi = B010 ]` at these nodes
abbrev built : Expr
built = e 5 (expr.Build (name 0) (expr.MoreFieldExprs place (name 2) (e 3 (expr.Bits 4 5)) (expr.MoreFieldExprs place (name 1) (e 4 (expr.Bits 3 2)) expr.NoFieldExprs)))

abbrev with_s : Expr → Sample
with_s body = record nothing_written {
  targets =
      is_at 1 (Primitive prim.Halt) ∷ is_at 2 (Primitive prim.FromBit) ∷ is_at 5 (Constructor 6) ∷ is_at 6 (Primitive prim.BitsOf) ∷ is_at 14 (Constructor 6)
      ∷ is_at 20 (Constructor 6) ∷ is_at 21 (Local 13) ∷ [];
  types = is_at 5 (con 17) ∷ is_at 10 (con 17) ∷ [];
  bitdata = is_at 4 s_type ∷ [];
  constructors = the_con ∷ [];
  tops = row [] (call 9 (v 1) (call 8 (v 2) body)) ∷ [];
}

-- `main = halt (fromBit (bitsOf (S [ lo = X5 | hi = B010 ])))`
builds : Sample
builds = with_s (call 7 (v 6) built)

-- `main = halt (fromBit (S [ .. ].hi))`
chooses : Sample
chooses = with_s (e 11 (expr.Select built (name 1)))

-- `main = halt (fromBit (bitsOf (S [ .. ] [ hi = B111 ])))`
updates : Sample
updates = with_s (call 7 (v 6) (e 10 (expr.Update built (expr.MoreFieldExprs place (name 1) (e 12 (expr.Bits 3 7)) expr.NoFieldExprs))))

-- `main = halt (fromBit (case S [ .. ] of { S [ hi = B111 ] -> X0; S [ lo = x ] -> x }))`
takes_fields : Sample
takes_fields = with_s (e 22 (expr.Case built
    (MoreAlts (p 20 (pat.Fields (name 0) (pat.MoreFieldPats place (name 1) (p 23 (pat.Bits 3 7)) pat.NoFieldPats))) (e 24 (expr.Bits 4 0))
    (MoreAlts (p 14 (pat.Fields (name 0) (pat.MoreFieldPats place (name 2) (pv 13) pat.NoFieldPats))) (v 21) NoAlts))))

a_construction_puts_tags_and_fields_in_place : outcome builds (λ n. 16) 16 [] 2 ≡ ended [] (Halt 165)
unfolding told followed stepped answered left_by digits eval eval_kind eval_fields eval_alts eval_rows eval_binds eval_stmts turns over_fields initialises initialises_field initialises_areas builds
a_construction_puts_tags_and_fields_in_place = refl

a_selection_takes_a_field_out : outcome chooses (λ n. 16) 16 [] 2 ≡ ended [] (Halt 2)
unfolding told followed stepped answered left_by digits eval eval_kind eval_fields eval_alts eval_rows eval_binds eval_stmts turns over_fields initialises initialises_field initialises_areas chooses
a_selection_takes_a_field_out = refl

an_update_changes_one_field : outcome updates (λ n. 16) 16 [] 2 ≡ ended [] (Halt 245)
unfolding told followed stepped answered left_by digits eval eval_kind eval_fields eval_alts eval_rows eval_binds eval_stmts turns over_fields initialises initialises_field initialises_areas updates
an_update_changes_one_field = refl

a_pattern_of_fields_looks_at_each : outcome takes_fields (λ n. 16) 16 [] 2 ≡ ended [] (Halt 5)
unfolding told followed stepped answered left_by digits eval eval_kind eval_fields eval_alts eval_rows eval_binds eval_stmts turns over_fields initialises initialises_field initialises_areas takes_fields
a_pattern_of_fields_looks_at_each = refl

-- `bitdata T = A [ B0 | x :: Bit 1 ] | B [ B10 ]`, and `main = halt (case (ofBits B11 :: T) of { A -> 1; B -> 2; _ -> 3 })`
has_junk : Sample
has_junk = record nothing_written {
  targets = is_at 1 (Primitive prim.Halt) ∷ is_at 2 (Primitive prim.OfBits) ∷ is_at 5 (Constructor 6) ∷ is_at 7 (Constructor 7) ∷ [];
  constructors = BitCon (Fixed false ∷ Free ∷ []) (record { name = name 1; at = 0; width = 1; of = bit 1 } ∷ []) ∷ BitCon (Fixed true ∷ Fixed false ∷ []) [] ∷ [];
  tops =
      row []
      (call 12 (v 1) (e 11 (expr.Case (call 4 (v 2) (e 3 (expr.Bits 2 3)))
      (MoreAlts (p 5 (pat.Con (name 0) pat.NoPats)) (e 6 (expr.Number 1))
      (MoreAlts (p 7 (pat.Con (name 0) pat.NoPats)) (e 8 (expr.Number 2))
      (MoreAlts (p 9 pat.Any) (e 10 (expr.Number 3)) NoAlts))))))
      ∷ [];
}

junk_is_in_no_constructor : outcome has_junk (λ n. 16) 16 [] 2 ≡ ended [] (Halt 3)
unfolding told followed stepped answered left_by digits eval eval_kind eval_fields eval_alts eval_rows eval_binds eval_stmts turns over_fields initialises initialises_field initialises_areas has_junk
junk_is_in_no_constructor = refl

-- `main = do { let { x = 1 }; y <- return x; halt y }`
statements : Sample
statements = record nothing_written {
  targets = is_at 2 (Primitive prim.Return) ∷ is_at 3 (Local 1) ∷ is_at 6 (Primitive prim.Halt) ∷ is_at 7 (Local 5) ∷ [];
  tops =
      row []
      (e 9 (expr.Do (LetThen (MoreBinds (name 0) place (row [] (e 1 (expr.Number 1))) NoBinds) (TakeThen (pv 5) (call 4 (v 2) (v 3)) (DoThen (call 8 (v 6) (v 7)) NoStmts)))))
      ∷ [];
}

a_run_of_return_is_a_step : outcome statements (λ n. 16) 16 [] 3 ≡ so_far []
unfolding told followed stepped answered left_by digits eval eval_kind eval_fields eval_alts eval_rows eval_binds eval_stmts turns over_fields initialises initialises_field initialises_areas statements
a_run_of_return_is_a_step = refl

a_value_that_is_returned_is_bound : outcome statements (λ n. 16) 16 [] 4 ≡ ended [] (Halt 1)
unfolding told followed stepped answered left_by digits eval eval_kind eval_fields eval_alts eval_rows eval_binds eval_stmts turns over_fields initialises initialises_field initialises_areas statements
a_value_that_is_returned_is_bound = refl
