-- What small block programs show.
use Rattle.std.proofs.Common.{◌≡◌, List, [], ◌∷◌, Some, false, arith, refl}
use Rattle.hb_base.specs.declared.step.Stop.TheVariants as stop
use Rattle.hb_area.specs.declared.form.CellForm.{CellForm}
use Rattle.hb_mil.specs.declared.form.Atom.TheVariants.{Local, Number, Area, Port}
use Rattle.hb_mil.specs.declared.form.Operation.TheVariants.{Primitive, Make, Build, Cut, Offset, Part, Call, Apply, Perform, ReadCell, ReadPort, WritePort, CellAt, Initialise}
use Rattle.hb_mil.specs.declared.form.Tail.TheVariants.{Return, Jump, Enter, Run, Switch, Goto, Halt, Done}
use Rattle.hb_mil.specs.declared.form.Block.{Block}
use Rattle.hb_runs.specs.System.{followed, told}
use Rattle.hb_mil_meaning.specs.Events.{Read, Wrote, Put, Word}
use Rattle.hb_mil_meaning.specs.Meaning.{turn}
use Rattle.hb_mil_meaning.proofs.Samples.{word, pair, truth, function, action, dropped, unit, step, inside, of_body, inside_of, outcome, with_cell, so_far, ended, stuck}

-- a pair is built, and its second argument taken
abbrev builds : List Block
builds =
    inside [] (step (Build 0 (Number 3 ∷ Number 4 ∷ [])) pair ∷ step (Part (Local 0) 0 1) word ∷ []) (Halt (Local 1))
    ∷ []

nothing_is_shown_at_first : outcome builds 64 [] 0 ≡ so_far []
unfolding told followed turn
nothing_is_shown_at_first = refl

a_step_shows_nothing : outcome builds 64 [] 2 ≡ so_far []
unfolding told followed turn
a_step_shows_nothing = refl

a_part_is_taken_by_its_place : outcome builds 64 [] 3 ≡ ended [] (stop.Halt 4)
unfolding told followed turn
a_part_is_taken_by_its_place = refl

after_the_end_nothing_is_shown : outcome builds 64 [] 9 ≡ ended [] (stop.Halt 4)
unfolding told followed turn
after_the_end_nothing_is_shown = refl

-- a part of another constructor
abbrev takes_a_wrong_part : List Block
takes_a_wrong_part =
    inside [] (step (Build 0 (Number 3 ∷ Number 4 ∷ [])) pair ∷ step (Part (Local 0) 1 1) word ∷ []) (Halt (Local 1))
    ∷ []

a_part_of_another_constructor_has_no_rule : outcome takes_a_wrong_part 64 [] 2 ≡ stuck []
unfolding told followed turn
a_part_of_another_constructor_has_no_rule = refl

-- 3 < 5, and a choice by the truth value, then one by a number, and then on to a block with the first local and a value
abbrev switches : List Block
switches =
    inside [] (step (Primitive 12 [] (Number 3 ∷ Number 5 ∷ [])) truth ∷ []) (Switch (Local 0) (1 ∷ 2 ∷ []))
    ∷ inside (truth ∷ []) [] (Halt (Number 7))
    ∷ inside (truth ∷ []) (step (Cut (Number 22) 1 2) word ∷ []) (Switch (Local 1) (1 ∷ 1 ∷ 1 ∷ 3 ∷ []))
    ∷ inside (truth ∷ word ∷ []) (step (Primitive 2 [] (Local 1 ∷ Number 4 ∷ [])) word ∷ []) (Goto 4 1 (Some (Local 2)))
    ∷ inside (truth ∷ word ∷ []) [] (Halt (Local 1))
    ∷ []

a_switch_goes_by_the_constructor_and_by_the_number : outcome switches 64 [] 7 ≡ ended [] (stop.Halt 12)
unfolding told followed turn
a_switch_goes_by_the_constructor_and_by_the_number = refl

each_step_and_each_tail_is_a_count : outcome switches 64 [] 6 ≡ so_far []
unfolding told followed turn
each_step_and_each_tail_is_a_count = refl

-- no block for the number
abbrev switches_nowhere : List Block
switches_nowhere =
    inside [] [] (Switch (Number 2) (0 ∷ 0 ∷ []))
    ∷ []

a_number_without_a_block_has_no_rule : outcome switches_nowhere 64 [] 1 ≡ stuck []
unfolding told followed turn
a_number_without_a_block_has_no_rule = refl

-- a call of a body that gives 5 more than its argument
abbrev calls : List Block
calls =
    inside [] (step (Call 1 (Number 6 ∷ [])) word ∷ []) (Halt (Local 0))
    ∷ of_body 0 (word ∷ []) (step (Primitive 0 [] (Local 0 ∷ Number 5 ∷ [])) word ∷ []) (Return (Local 1))
    ∷ []

a_call_gives_its_result : outcome calls 16 [] 4 ≡ ended [] (stop.Halt 11)
unfolding told followed turn
a_call_gives_its_result = refl

a_call_takes_the_room_of_its_body : outcome calls 15 [] 1 ≡ ended [] stop.Stack
unfolding told followed turn
a_call_takes_the_room_of_its_body = refl

-- a body that counts down by calls in its place
abbrev counts_down : List Block
counts_down =
    inside [] (step (Call 1 (Number 3 ∷ [])) word ∷ []) (Halt (Local 0))
    ∷ of_body 0 (word ∷ []) [] (Switch (Local 0) (2 ∷ 3 ∷ 3 ∷ 3 ∷ []))
    ∷ inside_of 0 (word ∷ []) [] (Return (Number 9))
    ∷ inside_of 0 (word ∷ []) (step (Primitive 1 [] (Local 0 ∷ Number 1 ∷ [])) word ∷ []) (Jump 1 (Local 1 ∷ []))
    ∷ []

a_jump_takes_the_place_of_its_callers_room : outcome counts_down 16 [] 13 ≡ ended [] (stop.Halt 9)
unfolding told followed turn
a_jump_takes_the_place_of_its_callers_room = refl

-- a body that calls itself with one less, and gives one more than that
abbrev counts_up : List Block
counts_up =
    inside [] (step (Call 1 (Number 2 ∷ [])) word ∷ []) (Halt (Local 0))
    ∷ of_body 0 (word ∷ []) [] (Switch (Local 0) (2 ∷ 3 ∷ 3 ∷ []))
    ∷ inside_of 0 (word ∷ []) [] (Return (Number 9))
    ∷ inside_of 0 (word ∷ []) (step (Primitive 1 [] (Local 0 ∷ Number 1 ∷ [])) word ∷ step (Call 1 (Local 1 ∷ [])) word ∷ step (Primitive 0 [] (Local 2 ∷ Number 1 ∷ [])) word ∷ []) (Return (Local 3))
    ∷ []

calls_that_wait_keep_their_rooms : outcome counts_up 48 [] 14 ≡ ended [] (stop.Halt 11)
unfolding told followed turn
calls_that_wait_keep_their_rooms = refl

one_byte_less_is_too_little : outcome counts_up 47 [] 14 ≡ ended [] stop.Stack
unfolding told followed turn
one_byte_less_is_too_little = refl

-- a function is made and applied, whose body makes another one and applies it in the place of its block
abbrev applies : List Block
applies =
    inside [] (step (Make 0 0 (Number 30 ∷ [])) function ∷ step (Apply (Local 0) (Number 4)) word ∷ []) (Halt (Local 1))
    ∷ of_body 1 (word ∷ word ∷ []) (step (Make 0 1 (Local 0 ∷ [])) function ∷ []) (Enter (Local 2) (Local 1))
    ∷ inside (word ∷ word ∷ []) (step (Primitive 0 [] (Local 0 ∷ Local 1 ∷ [])) word ∷ []) (Return (Local 2))
    ∷ []

a_function_is_applied_where_its_label_begins : outcome applies 16 [] 7 ≡ ended [] (stop.Halt 34)
unfolding told followed turn
a_function_is_applied_where_its_label_begins = refl

an_application_takes_the_room_of_the_body : outcome applies 15 [] 2 ≡ ended [] stop.Stack
unfolding told followed turn
an_application_takes_the_room_of_the_body = refl

-- a word is no function
abbrev applies_a_word : List Block
applies_a_word =
    inside [] (step (Build 0 (Number 3 ∷ Number 4 ∷ [])) pair ∷ step (Apply (Local 0) (Number 4)) word ∷ []) (Halt (Local 1))
    ∷ []

what_is_no_function_is_not_applied : outcome applies_a_word 64 [] 2 ≡ stuck []
unfolding told followed turn
what_is_no_function_is_not_applied = refl

-- an action is made and run, whose body makes another one, which writes to a port, and runs it in the place of its block
abbrev runs_an_action : List Block
runs_an_action =
    inside [] (step (Make 1 1 (Number 263 ∷ [])) action ∷ step (Perform (Local 0)) dropped ∷ []) Done
    ∷ inside (word ∷ word ∷ []) [] (Halt (Number 0))
    ∷ inside (word ∷ word ∷ []) [] (Halt (Number 0))
    ∷ inside (word ∷ word ∷ []) (step (WritePort (Local 0) 1 (Local 1)) dropped ∷ step (Build 0 []) unit ∷ []) (Return (Local 3))
    ∷ of_body 2 (word ∷ []) (step (Make 1 0 (Port 1 ∷ Local 0 ∷ [])) action ∷ []) (Run (Local 1))
    ∷ []

an_action_is_no_event_before_it_is_run : outcome runs_an_action 16 [] 4 ≡ so_far []
unfolding told followed turn
an_action_is_no_event_before_it_is_run = refl

a_write_shows_the_low_bytes : outcome runs_an_action 16 [] 5 ≡ so_far (Wrote 1 7 ∷ [])
unfolding told followed turn
a_write_shows_the_low_bytes = refl

the_end_is_a_count_of_its_own : outcome runs_an_action 16 [] 7 ≡ so_far (Wrote 1 7 ∷ [])
unfolding told followed turn
the_end_is_a_count_of_its_own = refl

the_program_is_done : outcome runs_an_action 16 [] 8 ≡ ended (Wrote 1 7 ∷ []) stop.Done
unfolding told followed turn
the_program_is_done = refl

-- a port is read twice, and what it gave first is written
abbrev reads : List Block
reads =
    inside [] (step (ReadPort (Port 0) 1) word ∷ step (ReadPort (Port 0) 1) dropped ∷ step (WritePort (Port 1) 1 (Local 0)) dropped ∷ []) Done
    ∷ []

a_read_takes_a_line : outcome reads 64 (65 ∷ 66 ∷ []) 1 ≡ so_far (Read 0 65 ∷ [])
unfolding told followed turn
a_read_takes_a_line = refl

each_line_is_taken_once : outcome reads 64 (65 ∷ 66 ∷ []) 4 ≡ ended (Read 0 65 ∷ Read 0 66 ∷ Wrote 1 65 ∷ []) stop.Done
unfolding told followed turn
each_line_is_taken_once = refl

a_read_past_the_script_ends_by_its_port : outcome reads 64 (65 ∷ []) 4 ≡ ended (Read 0 65 ∷ []) (stop.InputEnd 0)
unfolding told followed turn
a_read_past_the_script_ends_by_its_port = refl

-- a port that is written is no port that is read
abbrev reads_the_wrong_port : List Block
reads_the_wrong_port =
    inside [] (step (ReadPort (Port 1) 1) word ∷ []) Done
    ∷ []

a_port_is_met_only_its_way : outcome reads_the_wrong_port 64 (65 ∷ []) 1 ≡ stuck []
unfolding told followed turn
a_port_is_met_only_its_way = refl

-- ---- cells, which stand in four bytes

abbrev cell : CellForm
cell = record { bytes = 4; big = false; some = omega arith; few = omega arith }

-- and in two
abbrev half : CellForm
half = record { bytes = 2; big = false; some = omega arith; few = omega arith }

-- a cell gets a value by its index, and is read by its offset
abbrev keeps : List Block
keeps =
    inside [] (step (CellAt 1 0 ((Number 2, 2) ∷ [])) word ∷ step (Initialise (Local 0) cell (Number 8)) dropped ∷ step (Offset (Area 1) 4) word ∷ step (ReadCell (Local 2) cell) word ∷ []) (Halt (Local 3))
    ∷ []

a_cell_gets_a_value_by_an_event : with_cell cell keeps 2 ≡ so_far (Put 1 4 cell (Word 8) ∷ [])
unfolding told followed turn
a_cell_gets_a_value_by_an_event = refl

what_a_cell_holds_is_read : with_cell cell keeps 5 ≡ ended (Put 1 4 cell (Word 8) ∷ []) (stop.Halt 8)
unfolding told followed turn
what_a_cell_holds_is_read = refl

a_cell_is_met_only_in_its_form : with_cell half keeps 2 ≡ stuck []
unfolding told followed turn
a_cell_is_met_only_in_its_form = refl

-- a cell that got no value is read
abbrev reads_a_fresh_cell : List Block
reads_a_fresh_cell =
    inside [] (step (Offset (Area 1) 4) word ∷ step (ReadCell (Local 0) cell) word ∷ []) (Halt (Local 1))
    ∷ []

a_cell_without_a_value_holds_zero : with_cell cell reads_a_fresh_cell 3 ≡ ended [] (stop.Halt 0)
unfolding told followed turn
a_cell_without_a_value_holds_zero = refl

where_no_cell_is_nothing_is_read : outcome reads_a_fresh_cell 64 [] 2 ≡ stuck []
unfolding told followed turn
where_no_cell_is_nothing_is_read = refl
