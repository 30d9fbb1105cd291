-- What the table says of blocks, the grammar says: signatures of a class, equations of an instance, and declarations.
use Rattle.std.proofs.Common.{◌≡◌, ℕ, ◌+◌, List, [], ◌∷◌, ◌++◌, refl, sym, ◌∙◌}
use Rattle.hb_base.specs.declared.place.Place.{Place}
use Rattle.hb_tokens.specs.declared.token.Token.{Token}
use Rattle.hb_tokens.specs.declared.word.Word.TheVariants as word
use Rattle.hb_tree.specs.declared.types.NameAt.{NameAt}
use Rattle.hb_tree.specs.declared.types.Sig.{Sig}
use Rattle.hb_tree.specs.declared.statement.Bind.{Bind}
use Rattle.hb_tree.specs.declared.declaration.Decl.{Decl}
use Rattle.hb_grammar.specs.Expressions as expressions
use Rattle.hb_grammar.specs.Declarations as grammar
use Rattle.hb_grammar.specs.Declarations.{a_name, ReadsSig, ReadsSigs, ReadsDecl, ReadsDecls}
use Rattle.hb_engine.proofs.Model.{nothing, then}
use Rattle.hb_engine.proofs.EngineLaw.{append_none}
use Rattle.hb_read_declarations.specs.declared.node.DeclNode.{DeclNode}
use Rattle.hb_read_declarations.specs.declared.node.DeclNode.TheVariants as node
use Rattle.hb_read_declarations.specs.Nodes.{counted, names_of, sig_of, bind_of, decl_nodes}
use Rattle.hb_read_declarations.specs.Readers.{Out}
use Rattle.hb_read_declarations.proofs.Lists.{Block, no_thing, empty_thing, last_in, more_in}
use Rattle.hb_read_declarations.proofs.Names.{names_from}
use Rattle.hb_read_declarations.proofs.Typing.{Qualified, qualified_of}
use Rattle.hb_read_declarations.proofs.Equations.{EquationRead, binds_from}
use Rattle.hb_read_program.specs.Rules.{head, mark_head, word_head, close_head, name_in, item}
use Rattle.hb_read_program.specs.declared.symbol.Kind.TheVariants as kind
use Rattle.hb_read_program.specs.declared.symbol.Put.TheVariants as put
use Rattle.hb_read_program.specs.declared.symbol.Symbol.TheVariants as symbol
use Rattle.hb_read_program.specs.declared.symbol.Count.TheVariants as count
use Rattle.hb_read_program.specs.declared.symbol.Form.TheVariants as form
use Rattle.hb_read_program.specs.declared.symbol.Leaf.TheVariants as leaf
use Rattle.hb_read_program.specs.declared.symbol.Production.TheVariants as production
use Rattle.hb_read_program.specs.Frames.{waits}
use Rattle.hb_read_program.proofs.Means.{thing, counted_from, one_fits, closes, After, after_close, after_semicolon, left_out, Means}
use Rattle.hb_read_program.proofs.MeansLaws.{part, parts, same_parts, thing_as, HeadLaw, no_other, and_also, no_leaf_law, BehindLeaf, leaf_law, never_law, nothing_law, SymbolLaw}
use Rattle.hb_read_program.proofs.MeansTokens.{is_var, is_op, is_word, is_mark}
use Rattle.hb_read_program.proofs.MeansLists.{counted_zero, counted_none, cons_next, with_more}
use Rattle.hb_read_program.proofs.MeansParts.{optional_as}

-- a node with nothing behind
same_behind : {A : Type 0} (whole : ℕ → DeclNode) (f : A → Out) (n : ℕ) (xs : List A) → counted_from whole f n xs ≡ counted_from whole f n xs ++ []
same_behind whole f n xs = sym (append_none (counted_from whole f n xs))

zero_behind : {A : Type 0} (whole : ℕ → DeclNode) (f : A → Out) (xs : List A) → (counted f xs).nodes ++ whole (counted f xs).count ∷ [] ≡ counted_from whole f 0 xs ++ []
zero_behind whole f xs = sym (append_none (counted_from whole f 0 xs) ∙ counted_zero whole f xs)

-- signatures

pub sig_before : {ts us vs : List Token} {a : Sig} {sigs : List Sig} → ReadsSig ts a us → After ReadsSigs us sigs vs → ReadsSigs ts (a ∷ sigs) vs
sig_before h (after_close c) = grammar.last_sig h c
sig_before h (after_semicolon s g) = grammar.more_sigs h s g

-- a signature's nodes, and what is behind them
sig_nodes : (names : List NameAt) (q : Qualified) (p : Place) (ms : Out) → ((names_of names ++ qualified_of q) ++ node.Sig p ∷ []) ++ ms ≡ names_of names ++ (qualified_of q ++ node.Sig p ∷ ms)
sig_nodes names q p ms =
    let ns = part (names_of names) in
    let body = part (qualified_of q) in
    same_parts (parts (parts (parts ns body) (part (node.Sig p ∷ []))) (part ms)) (parts ns (parts body (part (node.Sig p ∷ ms)))) refl

abbrev sig_at : Place → List NameAt → Qualified → Sig
sig_at p names q = record { place = p; names = names; context = q.context; body = q.body }

sigs_nodes : (n : ℕ) (p : Place) (names : List NameAt) (q : Qualified) (sigs : List Sig) → counted_from node.Sigs sig_of n (sig_at p names q ∷ sigs) ≡ names_of names ++ (qualified_of q ++ node.Sig p ∷ (counted_from node.Sigs sig_of (n + 1) sigs ++ []))
sigs_nodes n p names q sigs =
    cons_next node.Sigs sig_of n (sig_at p names q) sigs ∙ sig_nodes names q p (counted_from node.Sigs sig_of (n + 1) sigs ++ [])

sigs_close : HeadLaw symbol.Sigs (close_head 125 form.Sigs)
sigs_close p n t ts us ms e nothing = thing_as [] (grammar.no_sig (is_mark 125 t e)) (counted_none node.Sigs sig_of n)

sigs_semicolon : HeadLaw symbol.Sigs (mark_head 59 production.Sigs)
sigs_semicolon p n t ts us ms e (then (thing {a} h) nothing) =
    thing_as a (grammar.empty_sig (is_mark 59 t e) h) (same_behind node.Sigs sig_of n a)

sigs_var : HeadLaw symbol.Sigs (head kind.Var put.Name production.SigNames)
sigs_var p n t ts us ms e (then (thing {a = ns} h) (then (one_fits {t = s} f) (then (thing {a = q} k) (then closes (then (thing {a = sigs} l) nothing))))) =
    let name : NameAt = a_name t.place (name_in t.kind) in
    thing_as (sig_at t.place (name ∷ ns) q ∷ sigs)
    (sig_before (grammar.sig (names_from (with_more (expressions.var (is_var t e)) h)) (is_word word.DoubleColon s f) k) l)
    (sigs_nodes n t.place (name ∷ ns) q sigs)

sigs_op : HeadLaw symbol.Sigs (mark_head 40 production.SigBracketed)
sigs_op p n t ts us ms e (then (one_fits {t = o} d) (then (one_fits {t = c} g) (then (thing {a = ns} h) (then (one_fits {t = s} f) (then (thing {a = q} k) (then closes (then (thing {a = sigs} l) nothing))))))) =
    let name : NameAt = a_name t.place (name_in o.kind) in
    thing_as (sig_at t.place (name ∷ ns) q ∷ sigs)
    (sig_before (grammar.sig (names_from (with_more (expressions.op (is_mark 40 t e) (is_op o d) (is_mark 41 c g)) h)) (is_word word.DoubleColon s f) k) l)
    (sigs_nodes n t.place (name ∷ ns) q sigs)

pub sigs_law : SymbolLaw symbol.Sigs
sigs_law =
    record { by_head = and_also sigs_close (and_also sigs_semicolon (and_also sigs_var (and_also sigs_op no_other))); by_leaf = no_leaf_law; by_nothing = never_law }

sig_close : HeadLaw symbol.AfterSig (close_head 125 form.Sigs)
sig_close p n t ts us ms e nothing = thing_as [] (after_close (is_mark 125 t e)) (counted_none node.Sigs sig_of n)

sig_semicolon : HeadLaw symbol.AfterSig (mark_head 59 production.Sigs)
sig_semicolon p n t ts us ms e (then (thing {a} h) nothing) =
    thing_as a (after_semicolon (is_mark 59 t e) h) (same_behind node.Sigs sig_of n a)

pub after_sig_law : SymbolLaw symbol.AfterSig
after_sig_law =
    record { by_head = and_also sig_close (and_also sig_semicolon no_other); by_leaf = no_leaf_law; by_nothing = never_law }

methods_head : HeadLaw symbol.Methods (word_head word.Where production.Methods)
methods_head p n t ts us ms e (then (one_fits {t = s} f) (then (thing {a} h) nothing)) =
    optional_as a (grammar.methods (is_word word.Where t e) (is_mark 123 s f) h) (zero_behind node.Sigs sig_of a)

methods_nothing : (p : Place) (n : ℕ) (ts : List Token) → Means (waits symbol.Methods p n) ts (node.Sigs n ∷ []) ts
methods_nothing p n ts = left_out

pub methods_law : SymbolLaw symbol.Methods
methods_law = record { by_head = and_also methods_head no_other; by_leaf = no_leaf_law; by_nothing = nothing_law methods_nothing }

-- equations

pub row_before : {ts us vs : List Token} {a : Bind} {rows : List Bind} → EquationRead ts a us → After (Block EquationRead) us rows vs → Block EquationRead ts (a ∷ rows) vs
row_before h (after_close c) = last_in h c
row_before h (after_semicolon s g) = more_in h s g

rows_close : HeadLaw symbol.Rows (close_head 125 form.Equations)
rows_close p n t ts us ms e nothing = thing_as [] (no_thing (is_mark 125 t e)) (counted_none node.Equations bind_of n)

rows_semicolon : HeadLaw symbol.Rows (mark_head 59 production.Rows)
rows_semicolon p n t ts us ms e (then (thing {a} h) nothing) =
    thing_as a (empty_thing (is_mark 59 t e) h) (same_behind node.Equations bind_of n a)

rows_equation : BehindLeaf symbol.Rows leaf.Equation (item symbol.AfterRow count.Next ∷ [])
rows_equation p n t ts us vs v ms (thing {a} h) (then (thing {a = rows} k) nothing) =
    thing_as (a ∷ rows) (row_before h k) (cons_next node.Equations bind_of n a rows)

pub rows_law : SymbolLaw symbol.Rows
rows_law =
    record { by_head = and_also rows_close (and_also rows_semicolon no_other); by_leaf = leaf_law rows_equation; by_nothing = never_law }

row_close : HeadLaw symbol.AfterRow (close_head 125 form.Equations)
row_close p n t ts us ms e nothing = thing_as [] (after_close (is_mark 125 t e)) (counted_none node.Equations bind_of n)

row_semicolon : HeadLaw symbol.AfterRow (mark_head 59 production.Rows)
row_semicolon p n t ts us ms e (then (thing {a} h) nothing) =
    thing_as a (after_semicolon (is_mark 59 t e) h) (same_behind node.Equations bind_of n a)

pub after_row_law : SymbolLaw symbol.AfterRow
after_row_law =
    record { by_head = and_also row_close (and_also row_semicolon no_other); by_leaf = no_leaf_law; by_nothing = never_law }

body_head : HeadLaw symbol.Body (word_head word.Where production.Body)
body_head p n t ts us ms e (then (one_fits {t = s} f) (then (thing {a} h) nothing)) =
    optional_as a (grammar.body (is_word word.Where t e) (expressions.binds (is_mark 123 s f) (binds_from h))) (zero_behind node.Equations bind_of a)

body_nothing : (p : Place) (n : ℕ) (ts : List Token) → Means (waits symbol.Body p n) ts (node.Equations n ∷ []) ts
body_nothing p n ts = left_out

pub body_law : SymbolLaw symbol.Body
body_law = record { by_head = and_also body_head no_other; by_leaf = no_leaf_law; by_nothing = nothing_law body_nothing }

-- declarations

pub decl_before : {ts us vs : List Token} {d : Decl} {ds : List Decl} → ReadsDecl ts d us → After ReadsDecls us ds vs → ReadsDecls ts (d ∷ ds) vs
decl_before h (after_close c) = grammar.last_decl h c
decl_before h (after_semicolon s g) = grammar.more_decls h s g

pub tops_close : HeadLaw symbol.Tops (close_head 125 form.Program)
tops_close p n t ts us ms e nothing = thing_as [] (grammar.no_decl (is_mark 125 t e)) (counted_none node.Program decl_nodes n)

pub tops_semicolon : HeadLaw symbol.Tops (mark_head 59 production.Tops)
tops_semicolon p n t ts us ms e (then (thing {a} h) nothing) =
    thing_as a (grammar.empty_decl (is_mark 59 t e) h) (same_behind node.Program decl_nodes n a)

top_close : HeadLaw symbol.AfterTop (close_head 125 form.Program)
top_close p n t ts us ms e nothing = thing_as [] (after_close (is_mark 125 t e)) (counted_none node.Program decl_nodes n)

top_semicolon : HeadLaw symbol.AfterTop (mark_head 59 production.Tops)
top_semicolon p n t ts us ms e (then (thing {a} h) nothing) =
    thing_as a (after_semicolon (is_mark 59 t e) h) (same_behind node.Program decl_nodes n a)

pub after_top_law : SymbolLaw symbol.AfterTop
after_top_law =
    record { by_head = and_also top_close (and_also top_semicolon no_other); by_leaf = no_leaf_law; by_nothing = never_law }
