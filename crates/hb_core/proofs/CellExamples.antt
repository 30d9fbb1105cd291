-- Areas: cells in order of address, cells that are read and written, and references. What small sources show.
use Rattle.std.proofs.Common.{◌≡◌, ℕ, List, [], ◌∷◌, Some, refl}
use Rattle.hb_base.specs.declared.step.Stop.TheVariants.{Halt, Stack}
use Rattle.hb_runs.specs.System.{followed, told}
use Rattle.hb_runs.specs.Inner.{left_by}
use Rattle.hb_steps.specs.Tree.{answered, stepped}
use Rattle.hb_bits.specs.Bits.{digits}
use Rattle.hb_types.specs.Types.{Ty, Apply as On}
use Rattle.hb_tree.specs.Expressions as expr
use Rattle.hb_tree.specs.Initials as init
use Rattle.hb_tree.specs.declared.types.NameAt.{NameAt}
use Rattle.hb_tree.specs.Expressions.{Expr, TakeThen, LetThen, DoThen, NoStmts, MoreAlts, NoAlts, MoreBinds, NoBinds, NoEquations, MoreEquations}
use Rattle.hb_core.specs.Prims as prim
use Rattle.hb_core.specs.View.{Primitive, Local, Area, StructField}
use Rattle.hb_core.specs.Values.{Field, Element}
use Rattle.hb_core.specs.Evaluation.{eval, eval_kind, eval_fields, eval_alts, eval_rows, eval_binds, eval_stmts}
use Rattle.hb_core.specs.Events.{Event, Put, Word}
use Rattle.hb_core.specs.Meaning.{Blank, Zero, Holds, cell_in}
use Rattle.hb_core.specs.Initialisation.{turns, over_fields, initialises, initialises_field, initialises_areas}
use Rattle.hb_core.proofs.Samples.{Sample, is_at, e, v, pv, call, call_two, row, con, nat, unsigned, stored, array, name, nothing_written, place, view, outcome, so_far, ended}

-- `struct Point [ a, b :: Stored Unsigned ]`, which is the declared type 4
abbrev point : Ty
point = con 17

abbrev in_point : List StructField
in_point = record { name = name 1; of = stored unsigned } ∷ record { name = name 2; of = stored unsigned } ∷ []

abbrev written_at : ℕ → NameAt
written_at n = record { place = place; name = name n }

-- `area t <- each i -> addU (fromIx i) 3 :: Array 2 (Stored Unsigned)`, `area r <- fields [ b <- 5 ] :: Point`, and `main
-- = do { x <- readRef r.b; writeRef r.a x; y <- readRef r.a; z <- readRef (elemRef t lastIx); halt (addU y z) }`
cells : Sample
cells = record nothing_written {
  targets =
      is_at 1 (Primitive prim.AddU) ∷ is_at 2 (Primitive prim.FromIx) ∷ is_at 3 (Local 0)
      ∷ is_at 10 (Primitive prim.ReadRef) ∷ is_at 11 (Area 1) ∷ is_at 15 (Primitive prim.WriteRef) ∷ is_at 16 (Area 1) ∷ is_at 19 (Local 14)
      ∷ is_at 21 (Primitive prim.ReadRef) ∷ is_at 22 (Area 1) ∷ is_at 26 (Primitive prim.ReadRef) ∷ is_at 27 (Primitive prim.ElemRef) ∷ is_at 28 (Area 0) ∷ is_at 30 (Primitive prim.LastIx)
      ∷ is_at 34 (Primitive prim.Halt) ∷ is_at 35 (Primitive prim.AddU) ∷ is_at 36 (Local 25) ∷ is_at 38 (Local 33) ∷ [];
  types = is_at 11 (On (con 8) point) ∷ is_at 16 (On (con 8) point) ∷ is_at 22 (On (con 8) point) ∷ [];
  taken_at =
      is_at 2 (nat 2 ∷ []) ∷ is_at 10 (stored unsigned ∷ unsigned ∷ []) ∷ is_at 15 (stored unsigned ∷ unsigned ∷ []) ∷ is_at 21 (stored unsigned ∷ unsigned ∷ [])
      ∷ is_at 26 (stored unsigned ∷ unsigned ∷ []) ∷ is_at 27 (nat 2 ∷ stored unsigned ∷ []) ∷ is_at 30 (nat 2 ∷ []) ∷ [];
  structs = is_at 4 in_point ∷ [];
  areas =
      record { of = array 2 (stored unsigned); initial = Some (init.Each place (written_at 0) (init.Cell place (call_two 7 (v 1) 5 (call 4 (v 2) (v 3)) (e 6 (expr.Number 3))))) }
      ∷ record { of = point; initial = Some (init.Fields place (init.MoreFieldInits (written_at 2) (init.Cell place (e 8 (expr.Number 5))) init.NoFieldInits)) }
      ∷ [];
  tops =
      row []
      (e 50 (expr.Do
      (TakeThen (pv 14) (call 13 (v 10) (e 12 (expr.Select (v 11) (name 2))))
      (DoThen (call_two 20 (v 15) 18 (e 17 (expr.Select (v 16) (name 1))) (v 19))
      (TakeThen (pv 25) (call 24 (v 21) (e 23 (expr.Select (v 22) (name 1))))
      (TakeThen (pv 33) (call 32 (v 26) (call_two 31 (v 27) 29 (v 28) (v 30)))
      (DoThen (call 40 (v 34) (call_two 39 (v 35) 37 (v 36) (v 38))) NoStmts)))))))
      ∷ [];
}

abbrev first_element : Event
first_element = Put 0 (Element 0 ∷ []) (Word 3)

abbrev second_element : Event
second_element = Put 0 (Element 1 ∷ []) (Word 4)

abbrev field_b : Event
field_b = Put 1 (Field 1 ∷ []) (Word 5)

abbrev field_a : Event
field_a = Put 1 (Field 0 ∷ []) (Word 5)

a_turn_and_a_call_come_before_the_first_cell : outcome cells (λ n. 16) 32 [] 2 ≡ so_far []
unfolding told followed stepped answered left_by digits eval eval_kind eval_fields eval_alts eval_rows eval_binds eval_stmts turns over_fields initialises initialises_field initialises_areas cells
a_turn_and_a_call_come_before_the_first_cell = refl

a_cell_is_initialised_by_a_step : outcome cells (λ n. 16) 32 [] 3 ≡ so_far (first_element ∷ [])
unfolding told followed stepped answered left_by digits eval eval_kind eval_fields eval_alts eval_rows eval_binds eval_stmts turns over_fields initialises initialises_field initialises_areas cells
a_cell_is_initialised_by_a_step = refl

each_element_has_its_turn : outcome cells (λ n. 16) 32 [] 6 ≡ so_far (first_element ∷ second_element ∷ [])
unfolding told followed stepped answered left_by digits eval eval_kind eval_fields eval_alts eval_rows eval_binds eval_stmts turns over_fields initialises initialises_field initialises_areas cells
each_element_has_its_turn = refl

a_cell_without_initialiser_takes_no_step : outcome cells (λ n. 16) 32 [] 8 ≡ so_far (first_element ∷ second_element ∷ field_b ∷ [])
unfolding told followed stepped answered left_by digits eval eval_kind eval_fields eval_alts eval_rows eval_binds eval_stmts turns over_fields initialises initialises_field initialises_areas cells
a_cell_without_initialiser_takes_no_step = refl

main_comes_after_all_cells : outcome cells (λ n. 16) 32 [] 11 ≡ so_far (first_element ∷ second_element ∷ field_b ∷ [])
unfolding told followed stepped answered left_by digits eval eval_kind eval_fields eval_alts eval_rows eval_binds eval_stmts turns over_fields initialises initialises_field initialises_areas cells
main_comes_after_all_cells = refl

a_cell_is_written_by_a_step : outcome cells (λ n. 16) 32 [] 12 ≡ so_far (first_element ∷ second_element ∷ field_b ∷ field_a ∷ [])
unfolding told followed stepped answered left_by digits eval eval_kind eval_fields eval_alts eval_rows eval_binds eval_stmts turns over_fields initialises initialises_field initialises_areas cells
a_cell_is_written_by_a_step = refl

what_cells_hold_is_read : outcome cells (λ n. 16) 32 [] 15 ≡ ended (first_element ∷ second_element ∷ field_b ∷ field_a ∷ []) (Halt 9)
unfolding told followed stepped answered left_by digits eval eval_kind eval_fields eval_alts eval_rows eval_binds eval_stmts turns over_fields initialises initialises_field initialises_areas cells
what_cells_hold_is_read = refl

an_initialiser_that_has_no_room_ends_by_stack : outcome cells (λ n. 16) 15 [] 2 ≡ ended [] Stack
unfolding told followed stepped answered left_by digits eval eval_kind eval_fields eval_alts eval_rows eval_binds eval_stmts turns over_fields initialises initialises_field initialises_areas cells
an_initialiser_that_has_no_room_ends_by_stack = refl

at_first_a_cell_with_an_initialiser_is_blank : cell_in (view cells) [] 1 (Field 1 ∷ []) ≡ Blank
unfolding left_by cells
at_first_a_cell_with_an_initialiser_is_blank = refl

a_cell_without_one_is_zero : cell_in (view cells) (field_b ∷ []) 1 (Field 0 ∷ []) ≡ Zero
unfolding left_by cells
a_cell_without_one_is_zero = refl

the_last_value_is_held : cell_in (view cells) (field_b ∷ field_a ∷ []) 1 (Field 1 ∷ []) ≡ Holds (Word 5)
unfolding left_by cells
the_last_value_is_held = refl
