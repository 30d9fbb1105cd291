-- What the grammar says of an equation, the table says.
use Rattle.std.proofs.Common.{◌≡◌, ℕ, ◌+◌, List, [], ◌∷◌, ◌++◌, Some, refl, sym, ap, ◌∙◌}
use Rattle.hb_base.specs.declared.name.Name.{Name}
use Rattle.hb_base.specs.declared.place.Place.{Place}
use Rattle.hb_tokens.specs.declared.token.Token.{Token}
use Rattle.hb_tree.specs.declared.declaration.Decl.TheVariants as decl
use Rattle.hb_tree.specs.declared.statement.Bind.{Bind}
use Rattle.hb_tree.specs.Expressions.{Equation}
use Rattle.hb_tree.specs.ExpressionViews.{equations}
use Rattle.hb_grammar.specs.Tokens.{first_place}
use Rattle.hb_grammar.specs.Expressions.{ReadsEquation}
use Rattle.hb_grammar.specs.Reading.{Runs, stop, take}
use Rattle.hb_engine.specs.Tables.{row_turn}
use Rattle.hb_engine.proofs.EngineLaw.{rows}
use Rattle.hb_read_expressions.specs.declared.state.State.{State}
use Rattle.hb_read_declarations.specs.declared.node.DeclNode.TheVariants as node
use Rattle.hb_read_declarations.specs.Readers.{Out}
use Rattle.hb_read_declarations.proofs.Known.{some_none, none_is}
use Rattle.hb_read_declarations.proofs.Lists.{made}
use Rattle.hb_read_declarations.proofs.Equations.{equation_read}
use Rattle.hb_read_program.specs.Rules.{item}
use Rattle.hb_read_program.specs.declared.symbol.Symbol.TheVariants as symbol
use Rattle.hb_read_program.specs.declared.symbol.Count.TheVariants as count
use Rattle.hb_read_program.specs.declared.symbol.Leaf.TheVariants as leaf
use Rattle.hb_read_program.specs.Frames.{waits, reads_line, turn_to, frames_of, side_start, side_moved, still_line, begun_line, head_turn}
use Rattle.hb_read_program.proofs.TableLaws.{leaf_known}
use Rattle.hb_read_program.proofs.Fits.{an_eq}
use Rattle.hb_read_program.proofs.Finishes.{Rows, no_head, line_row}
use Rattle.hb_read_program.proofs.ReadingDecls.{DeclPuts}

line_from : {q : State} {ts us : List Token} {v : Out} (p : Place) (n : ℕ) (ms : Out) (vs : List Token) → q ≡ an_eq.start → Runs an_eq q ts v us → ((q : Place) → Rows (waits symbol.AfterTop q (n + 1) ∷ []) us ms vs) → Rows (waits symbol.Tops p n ∷ []) ts ((v ++ node.Equation ∷ []) ++ ms) vs
line_from p n ms vs i (stop e) after = absurd (some_none (sym (ap an_eq.done i) ∙ e) (none_is (an_eq.done an_eq.start) (leaf_known leaf.Equation).nothing))
line_from {v} p n ms vs i (take {r} {t} {ts} e h) after =
    let m = sym (ap (λ q. an_eq.move q t) i) ∙ e in
    let fs = frames_of (item symbol.AfterTop count.Next ∷ []) t.place n t in
    row_turn {n = turn_to (reads_line (Some r) (side_moved side_start t) ∷ fs) []}
    (ap (λ o. head_turn o symbol.Tops p n t) (no_head symbol.Tops t ((leaf_known leaf.Equation).begins m)) ∙ ap (λ o. begun_line (still_line o (side_moved side_start t)) fs) m)
    (rows (line_row (side_moved side_start t) h) (after t.place))

pub equation_puts : {ts us : List Token} {name : Name} {row : Equation} → ReadsEquation ts name (equations (row ∷ [])) us → DeclPuts (decl.Equation (record { name = name; place = first_place ts; rows = row ∷ [] })) ts us
equation_puts {ts} {name} {row} h p n ms vs after =
    let b : Bind = record { name = name; place = first_place ts; rows = row ∷ [] } in
    line_from p n ms vs refl ((leaf_known leaf.Equation).exact.complete (made b (equation_read h))) after
