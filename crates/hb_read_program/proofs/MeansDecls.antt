-- What the table says of declarations and of a program, the grammar says.
use Rattle.std.proofs.Common.{◌≡◌, ℕ, ◌+◌, List, [], ◌∷◌, ◌++◌, refl, sym, ap, ◌∙◌, append_assoc}
use Rattle.hb_tokens.specs.declared.token.Token.{Token}
use Rattle.hb_tokens.specs.declared.word.Word.TheVariants as word
use Rattle.hb_tree.specs.Types.{TypeExpr}
use Rattle.hb_tree.specs.declared.types.NameAt.{NameAt}
use Rattle.hb_tree.specs.declared.types.PredExpr.{PredExpr}
use Rattle.hb_tree.specs.declared.types.Sig.{Sig}
use Rattle.hb_tree.specs.declared.statement.Bind.{Bind}
use Rattle.hb_tree.specs.declared.declaration.Depend.{Depend}
use Rattle.hb_tree.specs.declared.declaration.Fix.{Fix}
use Rattle.hb_tree.specs.declared.declaration.Fix.TheVariants.{Left, Right, Neither}
use Rattle.hb_tree.specs.declared.declaration.Decl.{Decl}
use Rattle.hb_tree.specs.declared.declaration.Decl.TheVariants as decl
use Rattle.hb_grammar.specs.Tokens.{IsCon, IsWord}
use Rattle.hb_grammar.specs.Types.{name_at}
use Rattle.hb_grammar.specs.Declarations as grammar
use Rattle.hb_grammar.specs.Declarations.{fix_word, ReadsDecl, ReadsDecls, ReadsDepends, ReadsMethods, ReadsConditions, ReadsInstanceBody}
use Rattle.hb_engine.proofs.Model.{nothing, then}
use Rattle.hb_engine.proofs.EngineLaw.{append_none}
use Rattle.hb_read_declarations.specs.declared.node.DeclNode.{DeclNode}
use Rattle.hb_read_declarations.specs.declared.node.DeclNode.TheVariants as node
use Rattle.hb_read_declarations.specs.Exactly.{program_read}
use Rattle.hb_read_declarations.specs.Nodes.{counted, closed, named, names_of, number_of, type_of, pred_of, context_whole, sig_of, data_con_of, bit_con_of, struct_part_of, depend_of, bind_of, start_of, decl_nodes}
use Rattle.hb_read_declarations.specs.Readers.{Out}
use Rattle.hb_read_declarations.proofs.Leaves.{con_read}
use Rattle.hb_read_declarations.proofs.Names.{some_vars}
use Rattle.hb_read_declarations.proofs.Parts.{data_cons_from, bit_cons_from, struct_parts_from, ClassHead, ClassHeadRead, class_head, class_head_of, SomeTypes, some_types, args_of}
use Rattle.hb_read_program.specs.Rules.{mark_head, word_head, name_in}
use Rattle.hb_read_program.specs.declared.symbol.Symbol.TheVariants as symbol
use Rattle.hb_read_program.specs.declared.symbol.Production.TheVariants as production
use Rattle.hb_read_program.proofs.Means.{Thing, thing, counted_from, one_fits, closes, After, fixity_rest, port_rest}
use Rattle.hb_read_program.proofs.MeansLaws.{part, parts, same_parts, thing_as, HeadLaw, no_other, and_also, no_leaf_law, line_law, never_law, SymbolLaw}
use Rattle.hb_read_program.proofs.MeansTokens.{is_var, is_con, is_word, is_mark, is_end}
use Rattle.hb_read_program.proofs.MeansLists.{counted_zero, counted_first, cons_next, with_more}
use Rattle.hb_read_program.proofs.MeansParts.{filled}
use Rattle.hb_read_program.proofs.MeansBlocks.{decl_before, tops_close, tops_semicolon}
use Rattle.hb_read_program.proofs.MeansLines.{tops_line}

-- nodes of a declaration, and what is behind them

three_before : (a b c : Out) (d : DeclNode) (ms : Out) → ((a ++ (b ++ c)) ++ d ∷ []) ++ ms ≡ a ++ (b ++ (c ++ d ∷ ms))
three_before a b c d ms =
    same_parts (parts (parts (parts (part a) (parts (part b) (part c))) (part (d ∷ []))) (part ms)) (parts (part a) (parts (part b) (parts (part c) (part (d ∷ ms))))) refl

four_before : (a b c d : Out) (e : DeclNode) (ms : Out) → ((a ++ (b ++ (c ++ d))) ++ e ∷ []) ++ ms ≡ a ++ (b ++ (c ++ (d ++ e ∷ ms)))
four_before a b c d e ms =
    same_parts (parts (parts (parts (part a) (parts (part b) (parts (part c) (part d)))) (part (e ∷ []))) (part ms)) (parts (part a) (parts (part b) (parts (part c) (parts (part d) (part (e ∷ ms)))))) refl

-- some things behind two parts
things_before : {A : Type 0} (whole : ℕ → DeclNode) (f : A → Out) (a b : Out) (x : A) (xs : List A) (d : DeclNode) (ms : Out) → ((a ++ (b ++ closed whole (counted f (x ∷ xs)))) ++ d ∷ []) ++ ms ≡ a ++ (b ++ (f x ++ (counted_from whole f 1 xs ++ d ∷ ms)))
things_before whole f a b x xs d ms =
    three_before a b (closed whole (counted f (x ∷ xs))) d ms
    ∙ ap (λ m. a ++ (b ++ m)) (ap (λ m. m ++ d ∷ ms) (counted_first whole f x xs) ∙ append_assoc (f x) (counted_from whole f 1 xs) (d ∷ ms))

abbrev rest_of : ℕ → List Decl → Out
rest_of n ds = counted_from node.Program decl_nodes (n + 1) ds ++ []

decl_as : (n : ℕ) {ts us vs : List Token} {ms : Out} (d : Decl) (ds : List Decl) → ReadsDecl ts d us → After ReadsDecls us ds vs → decl_nodes d ++ rest_of n ds ≡ ms → Thing ReadsDecls (counted_from node.Program decl_nodes n) ts ms vs
decl_as n d ds h k e = thing_as (d ∷ ds) (decl_before h k) (cons_next node.Program decl_nodes n d ds ∙ e)

-- each form of a declaration

tops_fixity : (fix : Fix) → HeadLaw symbol.Tops (word_head (fix_word fix) (production.Fixity fix))
tops_fixity fix p n t ts us ms e (then (fixity_rest {k} {names} d l h) (then (thing {a = ds} a) nothing)) =
    decl_as n (decl.Fixity t.place fix k names) ds (grammar.fixity (is_word (fix_word fix) t e) d l h) a refl

tops_data : HeadLaw symbol.Tops (word_head word.Data production.Data)
tops_data p n t ts us ms e (then (one_fits {t = s} f) (then (thing {a = params} h) (then (one_fits {t = r} g) (then (thing {a = c} i) (then (thing {a = cs} j) (then closes (then (thing {a = ds} a) nothing))))))) =
    let name : NameAt = name_at s (name_in s.kind) in
    decl_as n (decl.Data t.place name params (c ∷ cs)) ds (grammar.data_decl (is_word word.Data t e) (is_con s f) h (is_word word.Equals r g) (data_cons_from (with_more i j))) a
    (things_before node.DataCons data_con_of (named name) (names_of params) c cs (node.Data t.place) (rest_of n ds)
    ∙ ap (λ m. named name ++ (m ++ (data_con_of c ++ (counted_from node.DataCons data_con_of 1 cs ++ node.Data t.place ∷ rest_of n ds)))) (sym (counted_zero node.Names named params)))

tops_bitdata : HeadLaw symbol.Tops (word_head word.Bitdata production.Bitdata)
tops_bitdata p n t ts us ms e (then (one_fits {t = s} f) (then (thing {a = width} h) (then (one_fits {t = r} g) (then (thing {a = c} i) (then (thing {a = cs} j) (then closes (then (thing {a = ds} a) nothing))))))) =
    let name : NameAt = name_at s (name_in s.kind) in
    decl_as n (decl.Bitdata t.place name width (c ∷ cs)) ds (grammar.bitdata_decl (is_word word.Bitdata t e) (is_con s f) h (is_word word.Equals r g) (bit_cons_from (with_more i j))) a
    (things_before node.BitCons bit_con_of (named name) (number_of width) c cs (node.Bitdata t.place) (rest_of n ds))

tops_struct : HeadLaw symbol.Tops (word_head word.Struct production.Struct)
tops_struct p n t ts us ms e (then (one_fits {t = s} f) (then (thing {a = bytes} h) (then (one_fits {t = r} g) (then (thing {a = x} i) (then (thing {a = xs} j) (then (one_fits {t = q} k) (then closes (then (thing {a = ds} a) nothing)))))))) =
    let name : NameAt = name_at s (name_in s.kind) in
    decl_as n (decl.Struct t.place name bytes (x ∷ xs)) ds (grammar.struct_decl (is_word word.Struct t e) (is_con s f) h (is_mark 91 r g) (struct_parts_from (with_more i j)) (is_mark 93 q k)) a
    (things_before node.StructParts struct_part_of (named name) (number_of bytes) x xs (node.Struct t.place) (rest_of n ds))

tops_area : HeadLaw symbol.Tops (word_head word.Area production.Area)
tops_area p n t ts us ms e (then (one_fits {t = s} f) (then (thing {a = init} h) (then (one_fits {t = r} g) (then (thing {a = x} i) (then (thing {a = align} j) (then closes (then (thing {a = ds} a) nothing))))))) =
    let name : NameAt = name_at s (name_in s.kind) in
    decl_as n (decl.Area t.place name init x align) ds (grammar.area_decl (is_word word.Area t e) (is_var s f) h (is_word word.DoubleColon r g) i j) a
    (four_before (named name) (start_of init) (type_of x) (number_of align) (node.Area t.place) (rest_of n ds))

tops_port : HeadLaw symbol.Tops (word_head word.Port production.Port)
tops_port p n t ts us ms e (then (one_fits {t = s} f) (then (one_fits {t = r} g) (then (port_rest dir {a = x} {width} {k} c h i j) (then (thing {a = ds} a) nothing)))) =
    decl_as n (decl.Port t.place (name_at s (name_in s.kind)) dir x width k) ds (grammar.port_decl (is_word word.Port t e) (is_var s f) (is_word word.DoubleColon r g) c h i j) a refl

-- classes

class_read : {t : Token} {ts us vs ws : List Token} {c : ClassHead} {ds : List Depend} {sigs : List Sig} → IsWord word.Class t → ClassHeadRead ts c us → ReadsDepends us ds vs → ReadsMethods vs sigs ws → ReadsDecl (t ∷ ts) (decl.Class t.place c.context c.name c.params ds sigs) ws
class_read d (class_head g (con_read e) (some_vars k)) l m = grammar.class_decl d g e k l m

class_then : (n : ℕ) {t : Token} {ts us vs ws xs : List Token} {ks ls ns ms : Out} → IsWord word.Class t → Thing ClassHeadRead class_head_of ts ks us → Thing ReadsDepends (λ ds. closed node.Depends (counted depend_of ds)) us ls vs → Thing ReadsMethods (λ sigs. closed node.Sigs (counted sig_of sigs)) vs ns ws → Thing (After ReadsDecls) (counted_from node.Program decl_nodes (n + 1)) ws ms xs → Thing ReadsDecls (counted_from node.Program decl_nodes n) (t ∷ ts) (ks ++ (ls ++ (ns ++ node.Class t.place ∷ (ms ++ [])))) xs
class_then n {t} d (thing {a = c} h) (thing {a = ds} k) (thing {a = sigs} l) (thing {a = rest} a) =
    decl_as n (decl.Class t.place c.context c.name c.params ds sigs) rest (class_read d h k l) a
    (three_before (class_head_of c) (closed node.Depends (counted depend_of ds)) (closed node.Sigs (counted sig_of sigs)) (node.Class t.place) (rest_of n rest))

tops_class : HeadLaw symbol.Tops (word_head word.Class production.Class)
tops_class p n t ts us ms e (then c (then d (then m (then closes (then a nothing))))) =
    class_then n (is_word word.Class t e) c (filled (λ ts. grammar.no_depends) d) (filled (λ ts. grammar.no_methods) m) a

-- instances

instance_read : {t s : Token} {ts us vs ws : List Token} {args : List TypeExpr} {ps : List PredExpr} {rows : List Bind} → IsWord word.Instance t → IsCon (name_in s.kind) s → SomeTypes ts args us → ReadsConditions us ps vs → ReadsInstanceBody vs rows ws → ReadsDecl (t ∷ s ∷ ts) (decl.Instance t.place (name_at s (name_in s.kind)) args ps rows) ws
instance_read d e (some_types h) k l = grammar.instance_decl d e h k l

instance_then : (n : ℕ) {t s : Token} {ts us vs ws xs : List Token} {ks ls ns ms : Out} → IsWord word.Instance t → IsCon (name_in s.kind) s → Thing SomeTypes args_of ts ks us → Thing ReadsConditions (λ ps. closed context_whole (counted pred_of ps)) us ls vs → Thing ReadsInstanceBody (λ rows. closed node.Equations (counted bind_of rows)) vs ns ws → Thing (After ReadsDecls) (counted_from node.Program decl_nodes (n + 1)) ws ms xs → Thing ReadsDecls (counted_from node.Program decl_nodes n) (t ∷ s ∷ ts) (named (name_at s (name_in s.kind)) ++ (ks ++ (ls ++ (ns ++ node.Instance t.place ∷ (ms ++ []))))) xs
instance_then n {t} {s} d e (thing {a = args} h) (thing {a = ps} k) (thing {a = rows} l) (thing {a = rest} a) =
    let name : NameAt = name_at s (name_in s.kind) in
    decl_as n (decl.Instance t.place name args ps rows) rest (instance_read d e h k l) a
    (four_before (named name) (args_of args) (closed context_whole (counted pred_of ps)) (closed node.Equations (counted bind_of rows)) (node.Instance t.place) (rest_of n rest))

tops_instance : HeadLaw symbol.Tops (word_head word.Instance production.Instance)
tops_instance p n t ts us ms e (then (one_fits {t = s} f) (then h (then c (then b (then closes (then a nothing)))))) =
    instance_then n (is_word word.Instance t e) (is_con s f) h (filled (λ ts. grammar.no_conditions) c) (filled (λ ts. grammar.no_body) b) a

-- any declaration, and a program

pub tops_law : SymbolLaw symbol.Tops
tops_law = record {
  by_head = and_also tops_close (and_also tops_semicolon (and_also (tops_fixity Left) (and_also (tops_fixity Right) (and_also (tops_fixity Neither) (and_also tops_data (and_also tops_bitdata (and_also tops_struct (and_also tops_area (and_also tops_port (and_also tops_class (and_also tops_instance no_other)))))))))));
  by_leaf = line_law tops_line;
  by_nothing = never_law;
}

program_head : HeadLaw symbol.Program (mark_head 123 production.Program)
program_head p n t ts us ms e (then (thing {a = ds} h) (then (one_fits {t = s} f) nothing)) =
    thing_as (record { decls = ds }) (program_read (is_mark 123 t e) h (is_end s f)) (sym (append_none (counted_from node.Program decl_nodes 0 ds) ∙ counted_zero node.Program decl_nodes ds))

pub program_law : SymbolLaw symbol.Program
program_law = record { by_head = and_also program_head no_other; by_leaf = no_leaf_law; by_nothing = never_law }
