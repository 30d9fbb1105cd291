-- What the grammar says of an instance, the table says.
use Rattle.std.proofs.Common.{◌≡◌, ℕ, ◌+◌, List, [], ◌∷◌, ◌++◌, refl, sym, ap, subst, ◌∙◌, append_assoc}
use Rattle.hb_base.specs.declared.name.Name.{Name}
use Rattle.hb_base.specs.declared.place.Place.{Place}
use Rattle.hb_tokens.specs.declared.token.Token.{Token}
use Rattle.hb_tokens.specs.declared.word.Word.TheVariants as word
use Rattle.hb_tree.specs.Types.{TypeExpr}
use Rattle.hb_tree.specs.Expressions.{Binds}
use Rattle.hb_tree.specs.ExpressionViews.{binds}
use Rattle.hb_tree.specs.declared.types.PredExpr.{PredExpr}
use Rattle.hb_tree.specs.declared.statement.Bind.{Bind}
use Rattle.hb_tree.specs.declared.declaration.Decl.TheVariants as decl
use Rattle.hb_grammar.specs.Tokens.{IsCon, IsWord}
use Rattle.hb_grammar.specs.Types.{name_at, ReadsAtypes, atype_more, ReadsPred}
use Rattle.hb_grammar.specs.Expressions as expressions
use Rattle.hb_grammar.specs.Expressions.{ReadsBinds, ReadsMoreBinds}
use Rattle.hb_grammar.specs.Declarations as grammar
use Rattle.hb_grammar.specs.Declarations.{ReadsConditions, ReadsInstanceBody}
use Rattle.hb_engine.specs.Tables.{row_end}
use Rattle.hb_engine.proofs.EngineLaw.{append_none, rows}
use Rattle.hb_read_types.specs.declared.node.TypeNode.TheVariants as type_node
use Rattle.hb_read_declarations.specs.declared.node.DeclNode.TheVariants as node
use Rattle.hb_read_declarations.specs.Nodes.{named, counted, type_of, pred_of, bind_of}
use Rattle.hb_read_declarations.specs.Readers.{Out}
use Rattle.hb_read_declarations.proofs.Lists.{made, head_of, Block, no_thing, empty_thing, last_in, more_in}
use Rattle.hb_read_declarations.proofs.Parts.{preds_back}
use Rattle.hb_read_declarations.proofs.Equations.{EquationRead, binds_back}
use Rattle.hb_read_program.specs.Rules.{heads, item}
use Rattle.hb_read_program.specs.declared.symbol.Kind.TheVariants as kind
use Rattle.hb_read_program.specs.declared.symbol.Put.TheVariants as put
use Rattle.hb_read_program.specs.declared.symbol.Symbol.TheVariants as symbol
use Rattle.hb_read_program.specs.declared.symbol.Things.TheVariants as things
use Rattle.hb_read_program.specs.declared.symbol.Count.TheVariants as count
use Rattle.hb_read_program.specs.declared.symbol.Leaf.TheVariants as leaf
use Rattle.hb_read_program.specs.declared.symbol.Form.TheVariants as form
use Rattle.hb_read_program.specs.Frames.{waits}
use Rattle.hb_read_program.proofs.Counting.{none_plus, none_more, one_more, counts}
use Rattle.hb_read_program.proofs.Finishes.{Rows, rows_as, LeafBegun, leaf_begun, leaf_symbol}
use Rattle.hb_read_program.proofs.Reading.{by_head, by_nothing, a_con, a_mark, mark_fits}
use Rattle.hb_read_program.proofs.ReadingLists.{found_at, Puts, things_read, atypes_read}
use Rattle.hb_read_program.proofs.ReadingDecls.{DeclPuts}
use Rattle.hb_read_program.proofs.ReadingParts.{leaf_read}
use Rattle.hb_read_program.proofs.ReadingArea.{four_closed}

-- atype+
args_then : (a : TypeExpr) (p : Place) (n : ℕ) {ts us vs : List Token} {ms : Out} → LeafBegun leaf.Atype symbol.SomeAtypes p n (item symbol.Atypes count.One ∷ []) ts (type_of a) us → ((q : Place) → Rows (waits symbol.Atypes q 1 ∷ []) us ms vs) → Rows (waits symbol.SomeAtypes p n ∷ []) ts (type_of a ++ ms) vs
args_then a p n {vs} {ms} (leaf_begun t rest e k) r = k ms vs (r t.place)

args_read : (p : Place) (n : ℕ) {ts us : List Token} {a : TypeExpr} {args : List TypeExpr} → ReadsAtypes ts (a ∷ args) us → Rows (waits symbol.SomeAtypes p n ∷ []) ts ((counted type_of (a ∷ args)).nodes ++ node.Types (counted type_of (a ∷ args)).count ∷ []) us
args_read p n {a} {args} (atype_more h g) =
    rows_as (sym (append_assoc (type_of a) (counted type_of args).nodes (node.Types (1 + (counted type_of args).count) ∷ [])))
    (args_then a p n (leaf_symbol leaf.Atype symbol.SomeAtypes p n (item symbol.Atypes count.One ∷ []) refl (made a h)) (λ q. atypes_read q 1 g))

-- ["if" sep(pred, ",")]
pred_puts : Puts (symbol.Read leaf.Pred) ReadsPred pred_of
pred_puts p n ts us a h = leaf_read leaf.Pred p n (made a h)

conditions_read : (p : Place) {ts us : List Token} {ps : List PredExpr} → ReadsConditions ts ps us → Rows (waits symbol.Conditions p 0 ∷ []) ts ((counted pred_of ps).nodes ++ node.Type (type_node.Context (counted pred_of ps).count) ∷ []) us
conditions_read p grammar.no_conditions = by_nothing symbol.Conditions p 0 refl
conditions_read p (grammar.conditions {t} d h) = by_head symbol.Conditions p 0 (found_at (heads symbol.Conditions) t d) (things_read things.Preds pred_of (λ t e. mark_fits 44 t e) pred_puts t.place t.place 0 (head_of (preds_back h)))

-- block(equation) without its `{`
equation_then : (b : Bind) (p : Place) (n : ℕ) {ts us vs : List Token} {ms : Out} → LeafBegun leaf.Equation symbol.Rows p n (item symbol.AfterRow count.Next ∷ []) ts (bind_of b) us → ((q : Place) → Rows (waits symbol.AfterRow q (n + 1) ∷ []) us ms vs) → Rows (waits symbol.Rows p n ∷ []) ts (bind_of b ++ ms) vs
equation_then b p n {vs} {ms} (leaf_begun t rest e k) r = k ms vs (r t.place)

row_puts : (p : Place) (n : ℕ) {ts us vs : List Token} {b : Bind} (ms : Out) → EquationRead ts b us → ((q : Place) → Rows (waits symbol.AfterRow q (n + 1) ∷ []) us ms vs) → Rows (waits symbol.Rows p n ∷ []) ts (bind_of b ++ ms) vs
row_puts p n {b} ms h after = equation_then b p n (leaf_symbol leaf.Equation symbol.Rows p n (item symbol.AfterRow count.Next ∷ []) refl (made b h)) after

equations_read : (p : Place) (n : ℕ) {ts us : List Token} {bs : List Bind} → Block EquationRead ts bs us → Rows (waits symbol.Rows p n ∷ []) ts ((counted bind_of bs).nodes ++ node.Equations (n + (counted bind_of bs).count) ∷ []) us
equations_read p n (no_thing {t} e) = rows_as (ap (λ k. node.Equations k ∷ []) (none_more n)) (by_head symbol.Rows p n (found_at (heads symbol.Rows) t e) row_end)
equations_read p n (empty_thing {t} s h) = by_head symbol.Rows p n (found_at (heads symbol.Rows) t s) (equations_read t.place n h)
equations_read p n (last_in {t} {a = b} h e) =
    rows_as (ap (λ k. bind_of b ++ node.Equations k ∷ []) (one_more n) ∙ ap (λ xs. xs ++ node.Equations (n + (1 + 0)) ∷ []) (sym (append_none (bind_of b))))
    (row_puts p n (node.Equations (n + 1) ∷ []) h (λ q. by_head symbol.AfterRow q (n + 1) (found_at (heads symbol.AfterRow) t e) row_end))
equations_read p n (more_in {t} {a = b} {xs = bs} h s g) =
    rows_as (ap (λ k. bind_of b ++ ((counted bind_of bs).nodes ++ node.Equations k ∷ [])) (counts n (counted bind_of bs).count) ∙ sym (append_assoc (bind_of b) (counted bind_of bs).nodes (node.Equations (n + (1 + (counted bind_of bs).count)) ∷ [])))
    (row_puts p n ((counted bind_of bs).nodes ++ node.Equations ((n + 1) + (counted bind_of bs).count) ∷ []) h (λ q. by_head symbol.AfterRow q (n + 1) (found_at (heads symbol.AfterRow) t s) (equations_read t.place (n + 1) g)))

-- ["where" block(equation)]
block_read : (p : Place) {ts us : List Token} {bs : Binds} (equations : List Bind) → bs ≡ binds equations → ReadsBinds ts bs us → Rows (waits (symbol.One (kind.Mark 123) put.Nothing) p 0 ∷ waits symbol.Rows p 0 ∷ []) ts ((counted bind_of equations).nodes ++ node.Equations (counted bind_of equations).count ∷ []) us
block_read p {us} equations i (expressions.binds {ts} d h) =
    let P : Binds → Type 0 = λ bs. ReadsMoreBinds ts bs us in
    rows (a_mark 123 p 0 d) (rows_as (ap (λ k. (counted bind_of equations).nodes ++ node.Equations k ∷ []) (none_plus (counted bind_of equations).count)) (equations_read p 0 (binds_back equations (subst P i h))))

body_read : (p : Place) {ts us : List Token} {equations : List Bind} → ReadsInstanceBody ts equations us → Rows (waits symbol.Body p 0 ∷ []) ts ((counted bind_of equations).nodes ++ node.Equations (counted bind_of equations).count ∷ []) us
body_read p grammar.no_body = by_nothing symbol.Body p 0 refl
body_read p (grammar.body {t} {rows = equations} d h) = by_head symbol.Body p 0 (found_at (heads symbol.Body) t d) (block_read t.place equations refl h)

pub instance_puts : {t s : Token} {ts us vs ws : List Token} {name : Name} {a : TypeExpr} {args : List TypeExpr} {ps : List PredExpr} {equations : List Bind} → IsWord word.Instance t → IsCon name s → ReadsAtypes ts (a ∷ args) us → ReadsConditions us ps vs → ReadsInstanceBody vs equations ws → DeclPuts (decl.Instance t.place (name_at s name) (a ∷ args) ps equations) (t ∷ s ∷ ts) ws
instance_puts {t} {s} {name} {a} {args} {ps} {equations} d e h g k p n ms vs after =
    rows_as (four_closed (named (name_at s name)) ((counted type_of (a ∷ args)).nodes ++ node.Types (counted type_of (a ∷ args)).count ∷ []) ((counted pred_of ps).nodes ++ node.Type (type_node.Context (counted pred_of ps).count) ∷ []) ((counted bind_of equations).nodes ++ node.Equations (counted bind_of equations).count ∷ []) (node.Instance t.place ∷ []) ms)
    (by_head symbol.Tops p n (found_at (heads symbol.Tops) t d)
    (rows (a_con t.place 0 e) (rows (args_read t.place 0 h) (rows (conditions_read t.place g) (rows (body_read t.place k) (rows (by_nothing (symbol.Close form.Instance) t.place 0 refl) (after t.place)))))))
