-- What the grammar says is what the table says: initialisers of areas.
use Rattle.std.proofs.Common.{◌≡◌, ℕ, ◌+◌, List, [], ◌∷◌, ◌++◌, Option, refl, sym, ap, subst, ◌∙◌, append_assoc}
use Rattle.hb_base.specs.declared.name.Name.{Name}
use Rattle.hb_base.specs.declared.place.Place.{Place}
use Rattle.hb_tokens.specs.declared.token.Token.{Token}
use Rattle.hb_tokens.specs.declared.word.Word.TheVariants as word
use Rattle.hb_tree.specs.Expressions.{Expr}
use Rattle.hb_tree.specs.Initials.{InitExpr, Cell, FieldInits}
use Rattle.hb_grammar.specs.Tokens.{IsVar, IsWord, IsMark, first_place}
use Rattle.hb_grammar.specs.Types.{name_at}
use Rattle.hb_grammar.specs.Declarations as grammar
use Rattle.hb_grammar.specs.Declarations.{ReadsInit, ReadsFieldInits, ReadsStart}
use Rattle.hb_engine.specs.Tables.{row_end}
use Rattle.hb_engine.proofs.EngineLaw.{append_none, rows}
use Rattle.hb_read_declarations.specs.declared.node.DeclNode.TheVariants as node
use Rattle.hb_read_declarations.specs.Nodes.{named, fields_count, init_nodes, field_init_nodes, start_of}
use Rattle.hb_read_declarations.specs.Readers.{Out}
use Rattle.hb_read_declarations.proofs.Known.{if_true}
use Rattle.hb_read_declarations.proofs.Lists.{made}
use Rattle.hb_read_declarations.proofs.ExprTokens.{expr_of}
use Rattle.hb_read_program.specs.Rules.{heads, fits, closing}
use Rattle.hb_read_program.specs.declared.symbol.Kind.TheVariants as kind
use Rattle.hb_read_program.specs.declared.symbol.Symbol.TheVariants as symbol
use Rattle.hb_read_program.specs.declared.symbol.Leaf.TheVariants as leaf
use Rattle.hb_read_program.specs.declared.symbol.Form.TheVariants as form
use Rattle.hb_read_program.specs.Frames.{waits}
use Rattle.hb_read_program.proofs.Counting.{none_plus, one_more, counts}
use Rattle.hb_read_program.proofs.Finishes.{Rows, rows_as, LeafBegun, leaf_begun, leaf_symbol}
use Rattle.hb_read_program.proofs.Reading.{by_head, by_nothing, a_var, a_word, a_mark, var_fits, name_put}
use Rattle.hb_read_program.proofs.ReadingLists.{found_at}

-- an expression
cell_then : (p : Place) (n : ℕ) {ts us : List Token} (e : Expr) → LeafBegun leaf.Expr symbol.Init p n (closing form.InitCell ∷ []) ts (expr_of e) us → Rows (waits symbol.Init p n ∷ []) ts (init_nodes (Cell (first_place ts) e)) us
cell_then p n {us} e (leaf_begun t rest i k) =
    rows_as (ap (λ ts. expr_of e ++ node.InitCell (first_place ts) ∷ []) (sym i)) (k (node.InitCell t.place ∷ []) us (by_nothing (symbol.Close form.InitCell) t.place 0 refl))

-- varid "<-" init
field_row : (p : Place) (n : ℕ) {t s : Token} {ts us : List Token} {name : Name} (i : InitExpr) → IsVar name t → IsWord word.LeftArrow s → Rows (waits symbol.Init t.place 0 ∷ []) ts (init_nodes i) us → Rows (waits symbol.FieldInit p n ∷ []) (t ∷ s ∷ ts) (named (name_at t name) ++ (init_nodes i ++ node.InitField ∷ [])) us
field_row p n {t} i d e h =
    rows_as (ap (λ m. m ++ (init_nodes i ++ node.InitField ∷ [])) (name_put t d.kind refl))
    (by_head symbol.FieldInit p n (if_true (fits kind.Var t) _ _ (var_fits t d)) (rows (a_word word.LeftArrow t.place 0 e) (rows h (by_nothing (symbol.Close form.InitField) t.place 0 refl))))

-- `]`
close_row : (p : Place) (n : ℕ) (c : Token) {ts us : List Token} → ts ≡ c ∷ us → IsMark 93 c → Rows (waits symbol.MoreInits p n ∷ []) ts (node.InitFields p n ∷ []) us
close_row p n c {us} e d = subst (λ ts. Rows (waits symbol.MoreInits p n ∷ []) ts (node.InitFields p n ∷ []) us) (sym e) (by_head symbol.MoreInits p n (found_at (heads symbol.MoreInits) c d) row_end)

mutual
  pub init_read : (p : Place) (n : ℕ) {ts us : List Token} {i : InitExpr} → ReadsInit ts i us → Rows (waits symbol.Init p n ∷ []) ts (init_nodes i) us
  init_read p n (grammar.each {t} d e f h) = by_head symbol.Init p n (found_at (heads symbol.Init) t d) (rows (a_var t.place 0 e) (rows (a_word word.RightArrow t.place 0 f) (rows (init_read t.place 0 h) (by_nothing (symbol.Close form.InitEach) t.place 0 refl))))
  init_read p n (grammar.by_fields {t} {r} {us} {fs} d e h f) =
      rows_as (ap (λ k. field_init_nodes fs ++ node.InitFields t.place k ∷ []) (none_plus (fields_count fs)))
      (by_head symbol.Init p n (found_at (heads symbol.Init) t d) (rows (a_mark 91 t.place 0 e) (inits_read t.place t.place 0 h r us refl f)))
  init_read p n (grammar.cell {e} h) = cell_then p n e (leaf_symbol leaf.Expr symbol.Init p n (closing form.InitCell ∷ []) refl (made e h))

  -- the fields behind the word at this place, and so many before them
  pub inits_read : (p q : Place) (n : ℕ) {ts ms : List Token} {fs : FieldInits} → ReadsFieldInits ts fs ms → (c : Token) (us : List Token) → ms ≡ c ∷ us → IsMark 93 c → Rows (waits symbol.FieldInit q 0 ∷ waits symbol.MoreInits p (n + 1) ∷ []) ts (field_init_nodes fs ++ node.InitFields p (n + fields_count fs) ∷ []) us
  inits_read p q n (grammar.last_init {t} {name} {i} d e h) c us g f =
      let x : Out = named (name_at t name) ++ (init_nodes i ++ node.InitField ∷ []) in
      rows_as (ap (λ k. x ++ node.InitFields p k ∷ []) (one_more n) ∙ ap (λ xs. xs ++ node.InitFields p (n + (1 + 0)) ∷ []) (sym (append_none x)))
      (rows (field_row q 0 i d e (init_read t.place 0 h)) (close_row p (n + 1) c g f))
  inits_read p q n (grammar.more_inits {t} {r} {name} {i} {fs} d e h b j) c us g f =
      let x : Out = named (name_at t name) ++ (init_nodes i ++ node.InitField ∷ []) in
      rows_as (ap (λ k. x ++ (field_init_nodes fs ++ node.InitFields p k ∷ [])) (counts n (fields_count fs)) ∙ sym (append_assoc x (field_init_nodes fs) (node.InitFields p (n + (1 + fields_count fs)) ∷ [])))
      (rows (field_row q 0 i d e (init_read t.place 0 h)) (by_head symbol.MoreInits p (n + 1) (found_at (heads symbol.MoreInits) r b) (inits_read p p (n + 1) j c us g f)))

-- ["<-" init]
pub start_read : (p : Place) (n : ℕ) {ts us : List Token} {o : Option InitExpr} → ReadsStart ts o us → Rows (waits symbol.Start p n ∷ []) ts (start_of o) us
start_read p n grammar.no_start = by_nothing symbol.Start p n refl
start_read p n (grammar.start {t} d h) = by_head symbol.Start p n (found_at (heads symbol.Start) t d) (rows (init_read t.place 0 h) (by_nothing (symbol.Close form.Init) t.place 0 refl))
