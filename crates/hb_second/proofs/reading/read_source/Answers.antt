use Rattle.std.proofs.Common.{◌≡◌, Bool, false, sym, ap, ◌∙◌, List}
use Rattle.std.specs.Prelude.{IsTrue}
use Rattle.hb_tree.specs.declared.declaration.Decl.{Decl}
use Rattle.hb_second.specs.Items.{all_items, items_of}
use Rattle.hb_second.specs.Moves.{run, start}
use Rattle.hb_second.proofs.Answering.{is_found, is_alone, none_at_end, wrong_at_end, none_after_item, wrong_at_item}
use Rattle.hb_second.proofs.reading.read_source.Goals as goal

no_end : (b : Bool) → b ≡ false → IsTrue b → ⊥
no_end b e h = cc

pub returns-then-is_written-clause-found : goal.returns-then-is_written-clause-found
returns-then-is_written-clause-found c =
    is_found (items_of c.args.names.now c.args.program.now) c.in-Ok-Ok.reader
    (sym (c.in-Ok-Ok.ensures ∙ ap (λ (ds : List Decl). run start (all_items c.args.names.now ds)) c.as_slice.ensures) ∙ c.in-Ok-Ok.field-0-is) (c.is_written.ensures.0 c.if-is_written.true)

pub returns-then-is_written-clause-alone : goal.returns-then-is_written-clause-alone
returns-then-is_written-clause-alone c =
    is_alone (items_of c.args.names.now c.args.program.now) c.in-Ok-Ok.reader
    (sym (c.in-Ok-Ok.ensures ∙ ap (λ (ds : List Decl). run start (all_items c.args.names.now ds)) c.as_slice.ensures) ∙ c.in-Ok-Ok.field-0-is) (c.is_written.ensures.0 c.if-is_written.true)

pub returns-else-is_written-clause-only : goal.returns-else-is_written-clause-only
returns-else-is_written-clause-only c =
    none_at_end (items_of c.args.names.now c.args.program.now) c.in-Ok-Ok.reader
    (sym (c.in-Ok-Ok.ensures ∙ ap (λ (ds : List Decl). run start (all_items c.args.names.now ds)) c.as_slice.ensures) ∙ c.in-Ok-Ok.field-0-is)
    (λ e. no_end c.is_written.result c.if-is_written.false (c.is_written.ensures.1 e))

pub returns-else-is_written-clause-place : goal.returns-else-is_written-clause-place
returns-else-is_written-clause-place c =
    wrong_at_end (items_of c.args.names.now c.args.program.now) c.in-Ok-Ok.reader c.args.end
    (sym (c.in-Ok-Ok.ensures ∙ ap (λ (ds : List Decl). run start (all_items c.args.names.now ds)) c.as_slice.ensures) ∙ c.in-Ok-Ok.field-0-is)
    (λ e. no_end c.is_written.result c.if-is_written.false (c.is_written.ensures.1 e))

pub returns-in-Ok-Err-clause-only : goal.returns-in-Ok-Err-clause-only
returns-in-Ok-Err-clause-only c =
    none_after_item (items_of c.args.names.now c.args.program.now) c.in-Ok-Err.place
    (sym (c.in-Ok-Err.ensures ∙ ap (λ (ds : List Decl). run start (all_items c.args.names.now ds)) c.as_slice.ensures) ∙ c.in-Ok-Err.field-0-is)

pub returns-in-Ok-Err-clause-place : goal.returns-in-Ok-Err-clause-place
returns-in-Ok-Err-clause-place c =
    wrong_at_item (items_of c.args.names.now c.args.program.now) c.args.end c.in-Ok-Err.place
    (sym (c.in-Ok-Err.ensures ∙ ap (λ (ds : List Decl). run start (all_items c.args.names.now ds)) c.as_slice.ensures) ∙ c.in-Ok-Err.field-0-is)
