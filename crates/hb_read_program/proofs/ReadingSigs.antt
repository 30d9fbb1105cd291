-- What the grammar says of signatures, the table says: as declarations, and as methods of a class.
use Rattle.std.proofs.Common.{◌≡◌, ℕ, ◌+◌, List, [], ◌∷◌, ◌++◌, Some, refl, sym, ap, ◌∙◌, append_assoc}
use Rattle.hb_base.specs.declared.name.Name.{Name}
use Rattle.hb_base.specs.declared.place.Place.{Place}
use Rattle.hb_tokens.specs.declared.token.Token.{Token}
use Rattle.hb_tokens.specs.declared.word.Word.TheVariants as word
use Rattle.hb_tree.specs.Types.{TypeExpr}
use Rattle.hb_tree.specs.declared.types.NameAt.{NameAt}
use Rattle.hb_tree.specs.declared.types.PredExpr.{PredExpr}
use Rattle.hb_tree.specs.declared.types.Sig.{Sig}
use Rattle.hb_tree.specs.declared.declaration.Decl.TheVariants as decl
use Rattle.hb_grammar.specs.Tokens.{IsVar, IsWord, IsComma, first_place}
use Rattle.hb_grammar.specs.Expressions as expressions
use Rattle.hb_grammar.specs.Expressions.{ReadsName}
use Rattle.hb_grammar.specs.Declarations as grammar
use Rattle.hb_grammar.specs.Declarations.{a_name, ReadsQualified, ReadsSig, ReadsSigs, ReadsMethods}
use Rattle.hb_engine.specs.Tables.{row_end}
use Rattle.hb_engine.proofs.EngineLaw.{append_none, rows}
use Rattle.hb_read_types.specs.Nodes.{type_nodes, context_nodes}
use Rattle.hb_read_declarations.specs.declared.node.DeclNode.TheVariants as node
use Rattle.hb_read_declarations.specs.Nodes.{named, names_of, counted, typed, sig_of}
use Rattle.hb_read_declarations.specs.Readers.{Out}
use Rattle.hb_read_declarations.proofs.Known.{if_true}
use Rattle.hb_read_declarations.proofs.Lists.{made, HeadTail, head_tail, head_of}
use Rattle.hb_read_declarations.proofs.Names.{NameRead, names_back}
use Rattle.hb_read_declarations.proofs.Typing.{Qualified}
use Rattle.hb_read_program.specs.Rules.{head, heads, found, fits, name_in}
use Rattle.hb_read_program.specs.declared.symbol.Kind.TheVariants as kind
use Rattle.hb_read_program.specs.declared.symbol.Put.TheVariants as put
use Rattle.hb_read_program.specs.declared.symbol.Symbol.TheVariants as symbol
use Rattle.hb_read_program.specs.declared.symbol.Things.TheVariants as things
use Rattle.hb_read_program.specs.declared.symbol.Leaf.TheVariants as leaf
use Rattle.hb_read_program.specs.declared.symbol.Form.TheVariants as form
use Rattle.hb_read_program.specs.declared.symbol.Production.TheVariants as production
use Rattle.hb_read_program.specs.Frames.{Frame, waits}
use Rattle.hb_read_program.proofs.Counting.{none_plus, none_more, one_more, counts}
use Rattle.hb_read_program.proofs.Finishes.{Rows, rows_as}
use Rattle.hb_read_program.proofs.Reading.{by_head, by_nothing, a_token, a_word, a_mark, op_fits, mark_fits, name_put}
use Rattle.hb_read_program.proofs.ReadingLists.{found_at, more_read}
use Rattle.hb_read_program.proofs.ReadingDecls.{DeclPuts, names_of_name}
use Rattle.hb_read_program.proofs.ReadingParts.{leaf_read}
use Rattle.hb_read_program.proofs.ReadingFields.{var_token, var_there}
use Rattle.hb_read_program.proofs.ReadingSides.{name_first, sig_line}

-- [context "=>"] type, behind `::` of the signature at this place
sig_rest : {ts us : List Token} {ps : List PredExpr} {a : TypeExpr} → ReadsQualified ts ps a us → (q : Place) → Rows (waits (symbol.Read leaf.Qualified) q 0 ∷ waits (symbol.Close form.Sig) q 0 ∷ []) ts (typed (context_nodes ps ++ type_nodes a) ++ node.Sig q ∷ []) us
sig_rest {ps} {a} h q = let x : Qualified = record { context = ps; body = a } in rows (leaf_read leaf.Qualified q 0 (made x h)) (by_nothing (symbol.Close form.Sig) q 0 refl)

pub sig_puts : {ts us : List Token} {s : Sig} → ReadsSig ts s us → DeclPuts (decl.Sig s) ts us
sig_puts {ts} (grammar.sig {t} {names} {ps} {a} h d g) p n ms vs after =
    rows_as (ap (λ m. m ++ ms) (sym (append_assoc (names_of names) (typed (context_nodes ps ++ type_nodes a)) (node.Sig (first_place ts) ∷ []))))
    (sig_line p n (typed (context_nodes ps ++ type_nodes a)) t h d (λ q. sig_rest g q) after)

-- a signature in a block

abbrev behind_name : Place → ℕ → List Frame
behind_name q n = waits (symbol.More things.Names) q 1 ∷ waits (symbol.One (kind.Word word.DoubleColon) put.Nothing) q 0 ∷ waits (symbol.Read leaf.Qualified) q 0 ∷ waits (symbol.Close form.Sig) q 0 ∷ waits symbol.AfterSig q (n + 1) ∷ []

sigs_var : {name : Name} (t : Token) → IsVar name t → found (heads symbol.Sigs) t ≡ Some (head kind.Var put.Name production.SigNames)
sigs_var {name} t v = found_at (heads symbol.Sigs) t v.kind ∙ if_true (fits kind.Var (var_token t.place name)) _ _ (var_there t v)

first_name : (p : Place) (n : ℕ) {ts us vs : List Token} {q : Place} {name : Name} {ms : Out} → ReadsName ts q name us → Rows (behind_name q n) us ms vs → Rows (waits symbol.Sigs p n ∷ []) ts (named (a_name q name) ++ ms) vs
first_name p n {ms} (expressions.var {t} d) h = rows_as (ap (λ m. m ++ ms) (name_put t d.kind refl)) (by_head symbol.Sigs p n (sigs_var t d) h)
first_name p n (expressions.op {t} {s} d e f) h =
    by_head symbol.Sigs p n (found_at (heads symbol.Sigs) t d)
    (rows (rows_as (ap (λ k. node.Name t.place (name_in k) ∷ []) e) (a_token kind.Op put.NameBefore t.place 0 (op_fits s e))) (rows (a_mark 41 t.place 0 f) h))

sig_closed : (a m x s ms : Out) → a ++ (m ++ ((x ++ s) ++ ms)) ≡ (((a ++ m) ++ x) ++ s) ++ ms
sig_closed a m x s ms = sym (append_assoc a m ((x ++ s) ++ ms)) ∙ (sym (append_assoc (a ++ m) (x ++ s) ms) ∙ ap (λ xs. xs ++ ms) (sym (append_assoc (a ++ m) x s)))

method_row : (p : Place) (n : ℕ) {ts us vs ws : List Token} {t : Token} {names : List NameAt} {ps : List PredExpr} {a : TypeExpr} (ms : Out) → HeadTail IsComma NameRead ts names (t ∷ us) → IsWord word.DoubleColon t → ReadsQualified us ps a vs → ((q : Place) → Rows (waits symbol.AfterSig q (n + 1) ∷ []) vs ms ws) → Rows (waits symbol.Sigs p n ∷ []) ts (sig_of (record { place = first_place ts; names = names; context = ps; body = a }) ++ ms) ws
method_row p n {ts} {ps} {a} ms (head_tail {a = x} {xs} h g) d k after =
    rows_as (ap (λ q. named x ++ (((counted named xs).nodes ++ node.Names (1 + (counted named xs).count) ∷ []) ++ ((typed (context_nodes ps ++ type_nodes a) ++ node.Sig q ∷ []) ++ ms))) (name_first h)
    ∙ sig_closed (named x) ((counted named xs).nodes ++ node.Names (1 + (counted named xs).count) ∷ []) (typed (context_nodes ps ++ type_nodes a)) (node.Sig (first_place ts) ∷ []) ms)
    (first_name p n h (rows (more_read things.Names named (λ t e. mark_fits 44 t e) names_of_name x.place 1 g) (rows (a_word word.DoubleColon x.place 0 d) (rows (sig_rest k x.place) (after x.place)))))

method_puts : (p : Place) (n : ℕ) {ts us vs : List Token} {s : Sig} (ms : Out) → ReadsSig ts s us → ((q : Place) → Rows (waits symbol.AfterSig q (n + 1) ∷ []) us ms vs) → Rows (waits symbol.Sigs p n ∷ []) ts (sig_of s ++ ms) vs
method_puts p n ms (grammar.sig h d g) after = method_row p n ms (head_of (names_back h)) d g after

sigs_read : (p : Place) (n : ℕ) {ts us : List Token} {sigs : List Sig} → ReadsSigs ts sigs us → Rows (waits symbol.Sigs p n ∷ []) ts ((counted sig_of sigs).nodes ++ node.Sigs (n + (counted sig_of sigs).count) ∷ []) us
sigs_read p n (grammar.no_sig {t} e) = rows_as (ap (λ k. node.Sigs k ∷ []) (none_more n)) (by_head symbol.Sigs p n (found_at (heads symbol.Sigs) t e) row_end)
sigs_read p n (grammar.empty_sig {t} s h) = by_head symbol.Sigs p n (found_at (heads symbol.Sigs) t s) (sigs_read t.place n h)
sigs_read p n (grammar.last_sig {t} {a} h e) =
    rows_as (ap (λ k. sig_of a ++ node.Sigs k ∷ []) (one_more n) ∙ ap (λ xs. xs ++ node.Sigs (n + (1 + 0)) ∷ []) (sym (append_none (sig_of a))))
    (method_puts p n (node.Sigs (n + 1) ∷ []) h (λ q. by_head symbol.AfterSig q (n + 1) (found_at (heads symbol.AfterSig) t e) row_end))
sigs_read p n (grammar.more_sigs {t} {a} {sigs} h s g) =
    rows_as (ap (λ k. sig_of a ++ ((counted sig_of sigs).nodes ++ node.Sigs k ∷ [])) (counts n (counted sig_of sigs).count) ∙ sym (append_assoc (sig_of a) (counted sig_of sigs).nodes (node.Sigs (n + (1 + (counted sig_of sigs).count)) ∷ [])))
    (method_puts p n ((counted sig_of sigs).nodes ++ node.Sigs ((n + 1) + (counted sig_of sigs).count) ∷ []) h (λ q. by_head symbol.AfterSig q (n + 1) (found_at (heads symbol.AfterSig) t s) (sigs_read t.place (n + 1) g)))

-- ["where" block(sig)]
pub methods_read : (p : Place) {ts us : List Token} {sigs : List Sig} → ReadsMethods ts sigs us → Rows (waits symbol.Methods p 0 ∷ []) ts ((counted sig_of sigs).nodes ++ node.Sigs (counted sig_of sigs).count ∷ []) us
methods_read p grammar.no_methods = by_nothing symbol.Methods p 0 refl
methods_read p (grammar.methods {t} {sigs} d e h) =
    by_head symbol.Methods p 0 (found_at (heads symbol.Methods) t d)
    (rows (a_mark 123 t.place 0 e) (rows_as (ap (λ k. (counted sig_of sigs).nodes ++ node.Sigs k ∷ []) (none_plus (counted sig_of sigs).count)) (sigs_read t.place 0 h)))
