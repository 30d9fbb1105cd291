-- Ports, statements, calls and rooms: what small sources show.
use Rattle.std.proofs.Common.{◌≡◌, ℕ, [], ◌∷◌, Some, None, refl}
use Rattle.std.specs.Prelude.{◌==◌, cond}
use Rattle.hb_base.specs.declared.step.Stop.TheVariants.{Done, Halt, Stack, InputEnd}
use Rattle.hb_runs.specs.System.{followed, told}
use Rattle.hb_runs.specs.Inner.{left_by}
use Rattle.hb_steps.specs.Tree.{answered, stepped}
use Rattle.hb_bits.specs.Bits.{digits}
use Rattle.hb_tree.specs.Patterns as pat
use Rattle.hb_tree.specs.Expressions as expr
use Rattle.hb_tree.specs.Expressions.{TakeThen, DoThen, NoStmts, MoreAlts, NoAlts}
use Rattle.hb_core.specs.Prims as prim
use Rattle.hb_core.specs.View.{Primitive, Top, Local, APort}
use Rattle.hb_core.specs.Evaluation.{eval, eval_kind, eval_fields, eval_alts, eval_rows, eval_binds, eval_stmts}
use Rattle.hb_core.specs.Events.{Read, Wrote, next_line}
use Rattle.hb_core.specs.Values.{Site, OfRows, OfLambda, OfSteps, OfCell}
use Rattle.hb_core.specs.Initialisation.{turns, over_fields, initialises, initialises_field, initialises_areas}
use Rattle.hb_core.proofs.Samples.{Sample, is_at, e, v, p, pv, call, call_two, row, bit, nothing_written, place, outcome, so_far, ended, stuck, lines}

-- `main = writePort tx 7`
writes_seven : Sample
writes_seven = record nothing_written {
  targets = is_at 1 (Primitive prim.WritePort) ∷ is_at 2 (APort 0) ∷ [];
  tops = row [] (call_two 5 (v 1) 3 (v 2) (e 4 (expr.Number 7))) ∷ [];
}

nothing_is_shown_at_first : outcome writes_seven (λ n. 16) 16 [] 0 ≡ so_far []
unfolding told followed stepped answered left_by digits eval eval_kind eval_fields eval_alts eval_rows eval_binds eval_stmts turns over_fields initialises initialises_field initialises_areas writes_seven
nothing_is_shown_at_first = refl

a_call_shows_nothing : outcome writes_seven (λ n. 16) 16 [] 1 ≡ so_far []
unfolding told followed stepped answered left_by digits eval eval_kind eval_fields eval_alts eval_rows eval_binds eval_stmts turns over_fields initialises initialises_field initialises_areas writes_seven
a_call_shows_nothing = refl

a_write_is_a_step : outcome writes_seven (λ n. 16) 16 [] 2 ≡ so_far (Wrote 0 7 ∷ [])
unfolding told followed stepped answered left_by digits eval eval_kind eval_fields eval_alts eval_rows eval_binds eval_stmts turns over_fields initialises initialises_field initialises_areas writes_seven
a_write_is_a_step = refl

the_end_of_main_is_a_step : outcome writes_seven (λ n. 16) 16 [] 3 ≡ ended (Wrote 0 7 ∷ []) Done
unfolding told followed stepped answered left_by digits eval eval_kind eval_fields eval_alts eval_rows eval_binds eval_stmts turns over_fields initialises initialises_field initialises_areas writes_seven
the_end_of_main_is_a_step = refl

a_step_that_is_due_is_cut_before_the_stack_is_looked_at : outcome writes_seven (λ n. 20) 16 [] 0 ≡ so_far []
unfolding told followed stepped answered left_by digits eval eval_kind eval_fields eval_alts eval_rows eval_binds eval_stmts turns over_fields initialises initialises_field initialises_areas writes_seven
a_step_that_is_due_is_cut_before_the_stack_is_looked_at = refl

a_room_that_is_too_large_ends_by_stack : outcome writes_seven (λ n. 20) 16 [] 1 ≡ ended [] Stack
unfolding told followed stepped answered left_by digits eval eval_kind eval_fields eval_alts eval_rows eval_binds eval_stmts turns over_fields initialises initialises_field initialises_areas writes_seven
a_room_that_is_too_large_ends_by_stack = refl

-- `main = do { x <- readPort rx; writePort tx x }`
echo : Sample
echo = record nothing_written {
  targets = is_at 1 (Primitive prim.ReadPort) ∷ is_at 2 (APort 0) ∷ is_at 5 (Primitive prim.WritePort) ∷ is_at 6 (APort 1) ∷ is_at 8 (Local 4) ∷ [];
  taken_at = is_at 1 (bit 8 ∷ []) ∷ is_at 5 (bit 8 ∷ []) ∷ [];
  tops = row [] (e 10 (expr.Do (TakeThen (pv 4) (call 3 (v 1) (v 2)) (DoThen (call_two 9 (v 5) 7 (v 6) (v 8)) NoStmts)))) ∷ [];
}

a_run_of_a_do_is_a_step : outcome echo (λ n. 16) 16 (lines 0 (72 ∷ [])) 2 ≡ so_far []
unfolding told followed stepped answered left_by digits eval eval_kind eval_fields eval_alts eval_rows eval_binds eval_stmts turns over_fields initialises initialises_field initialises_areas echo
a_run_of_a_do_is_a_step = refl

a_read_takes_a_line : outcome echo (λ n. 16) 16 (lines 0 (72 ∷ [])) 3 ≡ so_far (Read 0 72 ∷ [])
unfolding told followed stepped answered left_by digits eval eval_kind eval_fields eval_alts eval_rows eval_binds eval_stmts turns over_fields initialises initialises_field initialises_areas echo
a_read_takes_a_line = refl

what_was_read_is_written : outcome echo (λ n. 16) 16 (lines 0 (72 ∷ [])) 4 ≡ so_far (Read 0 72 ∷ Wrote 1 72 ∷ [])
unfolding told followed stepped answered left_by digits eval eval_kind eval_fields eval_alts eval_rows eval_binds eval_stmts turns over_fields initialises initialises_field initialises_areas echo
what_was_read_is_written = refl

a_do_at_the_end_ends_main : outcome echo (λ n. 16) 16 (lines 0 (72 ∷ [])) 5 ≡ ended (Read 0 72 ∷ Wrote 1 72 ∷ []) Done
unfolding told followed stepped answered left_by digits eval eval_kind eval_fields eval_alts eval_rows eval_binds eval_stmts turns over_fields initialises initialises_field initialises_areas echo
a_do_at_the_end_ends_main = refl

a_read_past_the_script_ends_by_its_port : outcome echo (λ n. 16) 16 (lines 1 (72 ∷ [])) 9 ≡ ended [] (InputEnd 0)
unfolding told followed stepped answered left_by digits eval eval_kind eval_fields eval_alts eval_rows eval_binds eval_stmts turns over_fields initialises initialises_field initialises_areas echo
a_read_past_the_script_ends_by_its_port = refl

-- `main = halt (f 3)`, `f 0 = 5`, `f n = f (subU n 1)`
counts_down : Sample
counts_down = record nothing_written {
  targets = is_at 1 (Primitive prim.Halt) ∷ is_at 2 (Top 1) ∷ is_at 9 (Top 1) ∷ is_at 10 (Primitive prim.SubU) ∷ is_at 12 (Local 8) ∷ [];
  tops =
      row [] (call 5 (v 1) (call 4 (v 2) (e 3 (expr.Number 3))))
      ∷ expr.MoreEquations (p 6 (pat.Number 0) ∷ []) place (e 7 (expr.Number 5)) expr.NoBinds
      (row (pv 8 ∷ []) (call 15 (v 9) (call_two 14 (v 10) 11 (v 12) (e 13 (expr.Number 1)))))
      ∷ [];
}

a_tail_call_takes_the_place_of_its_callers_room : outcome counts_down (λ n. 16) 32 [] 6 ≡ ended [] (Halt 5)
unfolding told followed stepped answered left_by digits eval eval_kind eval_fields eval_alts eval_rows eval_binds eval_stmts turns over_fields initialises initialises_field initialises_areas counts_down
a_tail_call_takes_the_place_of_its_callers_room = refl

the_first_row_that_matches_counts : outcome counts_down (λ n. 16) 32 [] 5 ≡ so_far []
unfolding told followed stepped answered left_by digits eval eval_kind eval_fields eval_alts eval_rows eval_binds eval_stmts turns over_fields initialises initialises_field initialises_areas counts_down
the_first_row_that_matches_counts = refl

the_caller_that_waits_keeps_its_room : outcome counts_down (λ n. 16) 31 [] 2 ≡ ended [] Stack
unfolding told followed stepped answered left_by digits eval eval_kind eval_fields eval_alts eval_rows eval_binds eval_stmts turns over_fields initialises initialises_field initialises_areas counts_down
the_caller_that_waits_keeps_its_room = refl

-- `main = halt (g 3)`, `g 0 = 5`, `g n = addU 1 (g (subU n 1))`
counts_up : Sample
counts_up = record nothing_written {
  targets = is_at 1 (Primitive prim.Halt) ∷ is_at 2 (Top 1) ∷ is_at 9 (Top 1) ∷ is_at 10 (Primitive prim.SubU) ∷ is_at 12 (Local 8) ∷ is_at 16 (Primitive prim.AddU) ∷ [];
  tops =
      row [] (call 5 (v 1) (call 4 (v 2) (e 3 (expr.Number 3))))
      ∷ expr.MoreEquations (p 6 (pat.Number 0) ∷ []) place (e 7 (expr.Number 5)) expr.NoBinds
      (row (pv 8 ∷ []) (call_two 19 (v 16) 18 (e 17 (expr.Number 1)) (call 15 (v 9) (call_two 14 (v 10) 11 (v 12) (e 13 (expr.Number 1))))))
      ∷ [];
}

a_call_that_is_no_tail_call_keeps_its_callers_room : outcome counts_up (λ n. 16) 32 [] 3 ≡ ended [] Stack
unfolding told followed stepped answered left_by digits eval eval_kind eval_fields eval_alts eval_rows eval_binds eval_stmts turns over_fields initialises initialises_field initialises_areas counts_up
a_call_that_is_no_tail_call_keeps_its_callers_room = refl

it_goes_on_where_the_stack_has_room : outcome counts_up (λ n. 16) 80 [] 6 ≡ ended [] (Halt 8)
unfolding told followed stepped answered left_by digits eval eval_kind eval_fields eval_alts eval_rows eval_binds eval_stmts turns over_fields initialises initialises_field initialises_areas counts_up
it_goes_on_where_the_stack_has_room = refl

one_byte_less_is_too_little : outcome counts_up (λ n. 16) 79 [] 6 ≡ ended [] Stack
unfolding told followed stepped answered left_by digits eval eval_kind eval_fields eval_alts eval_rows eval_binds eval_stmts turns over_fields initialises initialises_field initialises_areas counts_up
one_byte_less_is_too_little = refl

-- `main = halt (case 3 of { 1 -> 2 })`
has_no_row : Sample
has_no_row = record nothing_written {
  targets = is_at 1 (Primitive prim.Halt) ∷ [];
  tops = row [] (call 6 (v 1) (e 5 (expr.Case (e 2 (expr.Number 3)) (MoreAlts (p 3 (pat.Number 1)) (e 4 (expr.Number 2)) NoAlts)))) ∷ [];
}

a_value_that_no_row_matches_has_no_rule : outcome has_no_row (λ n. 16) 16 [] 2 ≡ stuck []
unfolding told followed stepped answered left_by digits eval eval_kind eval_fields eval_alts eval_rows eval_binds eval_stmts turns over_fields initialises initialises_field initialises_areas has_no_row
a_value_that_no_row_matches_has_no_rule = refl

-- the calls have 16 bytes, and the run of the `do` of `f` has 24
abbrev rooms_of_f : Site → ℕ
rooms_of_f (OfRows n) = 16
rooms_of_f (OfLambda n) = 16
rooms_of_f (OfSteps n) = cond (n == 9) 24 16
rooms_of_f (OfCell n) = 16

-- `main = do { f; halt 1 }`, `f = do { return 2 }`
in_the_middle : Sample
in_the_middle = record nothing_written {
  targets = is_at 1 (Top 1) ∷ is_at 2 (Primitive prim.Halt) ∷ is_at 6 (Primitive prim.Return) ∷ [];
  tops =
      row [] (e 5 (expr.Do (DoThen (v 1) (DoThen (call 4 (v 2) (e 3 (expr.Number 1))) NoStmts))))
      ∷ row [] (e 9 (expr.Do (DoThen (call 8 (v 6) (e 7 (expr.Number 2))) NoStmts)))
      ∷ [];
}

-- `main = do { return 2; f }` with the same `f`
at_the_end : Sample
at_the_end = record nothing_written {
  targets = is_at 1 (Top 1) ∷ is_at 2 (Primitive prim.Return) ∷ is_at 6 (Primitive prim.Return) ∷ [];
  tops =
      row [] (e 5 (expr.Do (DoThen (call 4 (v 2) (e 3 (expr.Number 2))) (DoThen (v 1) NoStmts))))
      ∷ row [] (e 9 (expr.Do (DoThen (call 8 (v 6) (e 7 (expr.Number 2))) NoStmts)))
      ∷ [];
}

a_statement_in_the_middle_stands_on_the_room_of_its_do : outcome in_the_middle (λ n. 16) 31 [] 3 ≡ ended [] Stack
unfolding told followed stepped answered eval eval_kind eval_rows eval_binds eval_stmts initialises_areas in_the_middle
a_statement_in_the_middle_stands_on_the_room_of_its_do = refl

and_goes_on_where_there_is_room_for_both : outcome in_the_middle (λ n. 16) 32 [] 6 ≡ ended [] (Halt 1)
unfolding told followed stepped answered eval eval_kind eval_rows eval_binds eval_stmts initialises_areas in_the_middle
and_goes_on_where_there_is_room_for_both = refl

an_action_in_the_middle_stands_on_it_too : outcome in_the_middle rooms_of_f 39 [] 4 ≡ ended [] Stack
unfolding told followed stepped answered eval eval_kind eval_rows eval_binds eval_stmts initialises_areas in_the_middle
an_action_in_the_middle_stands_on_it_too = refl

the_last_action_takes_the_place_of_its_do : outcome at_the_end rooms_of_f 39 [] 7 ≡ ended [] Done
unfolding told followed stepped answered eval eval_kind eval_rows eval_binds eval_stmts initialises_areas at_the_end
the_last_action_takes_the_place_of_its_do = refl

its_expression_is_no_tail : outcome at_the_end (λ n. 16) 31 [] 4 ≡ ended [] Stack
unfolding told followed stepped answered eval eval_kind eval_rows eval_binds eval_stmts initialises_areas at_the_end
its_expression_is_no_tail = refl

each_line_is_taken_once : next_line 0 (lines 0 (1 ∷ 2 ∷ [])) (Read 0 1 ∷ Wrote 1 1 ∷ []) ≡ Some 2
each_line_is_taken_once = refl

a_port_has_its_own_lines : next_line 1 (lines 0 (1 ∷ 2 ∷ [])) [] ≡ None
a_port_has_its_own_lines = refl
