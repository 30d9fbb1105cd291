-- What the table says of programs, the grammar says: the meanings of the frames are closed under the table.
use Rattle.std.proofs.Common.{◌≡◌, ℕ, List, [], ◌∷◌, ◌++◌, Option, Some, None, refl, sym, ap, subst, ◌∙◌, append_assoc}
use Rattle.hb_base.specs.declared.place.Place.{Place}
use Rattle.hb_tokens.specs.declared.token.Token.{Token}
use Rattle.hb_grammar.specs.Reading.{stop, take}
use Rattle.hb_engine.proofs.EngineLaw.{append_none}
use Rattle.hb_engine.proofs.Model.{All, nothing, then, Closed, Split, split, split_all, row_means}
use Rattle.hb_read_declarations.specs.Exactly.{Made, ProgramRead}
use Rattle.hb_read_declarations.specs.Nodes.{program_nodes}
use Rattle.hb_read_declarations.specs.Readers.{Out}
use Rattle.hb_read_declarations.proofs.Known.{some_is}
use Rattle.hb_read_program.specs.Rules.{Leaf, Symbol, Item, Kind, Put, Head, Form, Begins, heads, head, found, put_out}
use Rattle.hb_read_program.specs.declared.symbol.Symbol.TheVariants as symbol
use Rattle.hb_read_program.specs.declared.symbol.Production.TheVariants as production
use Rattle.hb_read_program.specs.declared.side.Heading.TheVariants as heading
use Rattle.hb_read_program.specs.Frames.{LeafState, leaf_reader, a_context, Frame, waits, reads, reads_line, reads_class, ATurn, frames_of, side_start, line_turn, begun, begun_line, leaf_turn, head_turn, frame_turn, frame_nothing, rules, program_start}
use Rattle.hb_read_program.proofs.TableLaws.{leaf_known}
use Rattle.hb_read_program.proofs.Fits.{an_eq, line_of, class_of}
use Rattle.hb_read_program.proofs.Finishes.{Rows}
use Rattle.hb_read_program.proofs.Means.{OneToken, one_fits, closes, LeafMeans, Means}
use Rattle.hb_read_program.proofs.MeansLaws.{made_thing, leaf_means, HeadLaw, no_other, and_also, BehindLeaf, BehindLine, LeafLaw, no_leaf_law, leaf_law}
use Rattle.hb_read_program.proofs.MeansLaws.{line_law, class_law, never_law, nothing_law, SymbolLaw, Picked, picked, null_means}
use Rattle.hb_read_program.proofs.MeansLists.{more_law, name_law, infix_law, vars_law, some_vars_law, atypes_law, some_atypes_law, size_law, align_law, data_con_law}
use Rattle.hb_read_program.proofs.MeansInits.{field_law, more_inits_law, init_law, start_law}
use Rattle.hb_read_program.proofs.MeansParts.{bit_part_law, bit_parts_law, more_bit_parts_law, bit_con_law, struct_part_law, digit_law, direction_law, depend_law, depends_law, conditions_law}
use Rattle.hb_read_program.proofs.MeansBlocks.{sigs_law, after_sig_law, methods_law, rows_law, after_row_law, body_law, after_top_law}
use Rattle.hb_read_program.proofs.MeansLines.{line_null, line_turns}
use Rattle.hb_read_program.proofs.MeansClass.{class_null, class_turns, class_head_law}
use Rattle.hb_read_program.proofs.MeansDecls.{tops_law, program_law}

-- one token, a reader of its own, and a node

one_head : (k : Kind) (q : Put) → HeadLaw (symbol.One k q) (head k q production.Nothing)
one_head k q p n t ts us ms e nothing =
    subst (λ ms. OneToken k q p n (t ∷ ts) ms ts) (sym (append_none (put_out q p n t))) (one_fits e)

one_law : (k : Kind) (q : Put) → SymbolLaw (symbol.One k q)
one_law k q = record { by_head = and_also (one_head k q) no_other; by_leaf = no_leaf_law; by_nothing = never_law }

read_leaf : (l : Leaf) → BehindLeaf (symbol.Read l) l []
read_leaf l p n t ts us vs v ms h nothing = subst (λ v. LeafMeans l (t ∷ ts) v us) (sym (append_none v)) h

read_law : (l : Leaf) → SymbolLaw (symbol.Read l)
read_law l = record { by_head = no_other; by_leaf = leaf_law (read_leaf l); by_nothing = never_law }

close_law : (f : Form) → SymbolLaw (symbol.Close f)
close_law f = record { by_head = no_other; by_leaf = no_leaf_law; by_nothing = nothing_law (λ p n ts. closes) }

-- each symbol

symbol_law : (s : Symbol) → SymbolLaw s
symbol_law (symbol.One k q) = one_law k q
symbol_law (symbol.Read l) = read_law l
symbol_law (symbol.Close f) = close_law f
symbol_law (symbol.More k) = more_law k
symbol_law symbol.Program = program_law
symbol_law symbol.Tops = tops_law
symbol_law symbol.AfterTop = after_top_law
symbol_law (symbol.Digit fix) = digit_law fix
symbol_law symbol.Infix = infix_law
symbol_law symbol.Name = name_law
symbol_law symbol.Vars = vars_law
symbol_law symbol.SomeVars = some_vars_law
symbol_law symbol.Atypes = atypes_law
symbol_law symbol.SomeAtypes = some_atypes_law
symbol_law symbol.Size = size_law
symbol_law symbol.Align = align_law
symbol_law symbol.DataCon = data_con_law
symbol_law symbol.BitPart = bit_part_law
symbol_law symbol.BitParts = bit_parts_law
symbol_law symbol.MoreBitParts = more_bit_parts_law
symbol_law symbol.BitCon = bit_con_law
symbol_law symbol.StructPart = struct_part_law
symbol_law symbol.Start = start_law
symbol_law symbol.Init = init_law
symbol_law symbol.FieldInit = field_law
symbol_law symbol.MoreInits = more_inits_law
symbol_law symbol.Direction = direction_law
symbol_law symbol.Depend = depend_law
symbol_law symbol.Depends = depends_law
symbol_law symbol.Methods = methods_law
symbol_law symbol.Sigs = sigs_law
symbol_law symbol.AfterSig = after_sig_law
symbol_law symbol.Conditions = conditions_law
symbol_law symbol.Body = body_law
symbol_law symbol.Rows = rows_law
symbol_law symbol.AfterRow = after_row_law
symbol_law symbol.ClassHead = class_head_law

-- a frame that is nothing

frame_null : (f : Frame) (ns : Out) (ts : List Token) → frame_nothing f ≡ Some ns → Means f ts ns ts
frame_null (waits s p n) ns ts e = null_means p n ts (symbol_law s).by_nothing e
frame_null (reads l s) ns ts e = stop e
frame_null (reads_line x d) ns ts e = line_null x d ts e
frame_null (reads_class c h) ns ts e = class_null c h ts e

-- a frame that takes a token

leaf_taken : (s : Symbol) (l : Leaf) (is : List Item) (p : Place) (n : ℕ) (t : Token) {r : LeafState l} {ts vs : List Token} {ms : Out} → BehindLeaf s l is → (leaf_reader l).move (leaf_reader l).start t ≡ Some r → All Means (reads l r ∷ frames_of is t.place n t) ts ms vs → Means (waits s p n) (t ∷ ts) ms vs
leaf_taken s l is p n t {ts} {vs} k e (then {ms} {ls} {us} h g) =
    k p n t ts us vs ms ls (leaf_means l (t ∷ ts) us ms ((leaf_known l).exact.sound (take e h))) g

leaf_begun : (s : Symbol) (l : Leaf) (is : List Item) (p : Place) (n : ℕ) (t : Token) {x : ATurn} {ts us : List Token} {ms : Out} → BehindLeaf s l is → (o : Option (LeafState l)) → (leaf_reader l).move (leaf_reader l).start t ≡ o → begun l o (frames_of is t.place n t) ≡ Some x → All Means x.frames ts ms us → Means (waits s p n) (t ∷ ts) (x.nodes ++ ms) us
leaf_begun s l is p n t k None d e = cc
leaf_begun s l is p n t {ts} {us} {ms} k (Some r) d e =
    let P : ATurn → Type 0 = λ x. All Means x.frames ts ms us → Means (waits s p n) (t ∷ ts) (x.nodes ++ ms) us in
    subst P (some_is e) (λ a. leaf_taken s l is p n t k d a)

line_taken : (s : Symbol) (is : List Item) (p : Place) (n : ℕ) (t : Token) (m : ATurn) {ts vs : List Token} {ms : Out} → BehindLine s is →
    line_turn (Some an_eq.start) side_start t ≡ Some m → Split Means m.frames (frames_of is t.place n t) ts ms vs →
    Means (waits s p n) (t ∷ ts) (m.nodes ++ ms) vs
line_taken s is p n t m {ts} {vs} k e (split us ls ns a b i) =
    subst (λ ms. Means (waits s p n) (t ∷ ts) ms vs) (append_assoc m.nodes ls ns ∙ ap (λ ms. m.nodes ++ ms) i)
    (k p n t ts us vs (m.nodes ++ ls) ns (line_turns (Some an_eq.start) side_start t (line_of (Some an_eq.start) side_start t e) a) b)

line_begun : (s : Symbol) (is : List Item) (p : Place) (n : ℕ) (t : Token) {x : ATurn} {ts us : List Token} {ms : Out} → BehindLine s is → (o : Option ATurn) → line_turn (Some an_eq.start) side_start t ≡ o → begun_line o (frames_of is t.place n t) ≡ Some x → All Means x.frames ts ms us → Means (waits s p n) (t ∷ ts) (x.nodes ++ ms) us
line_begun s is p n t k None d e = cc
line_begun s is p n t {ts} {us} {ms} k (Some m) d e =
    let P : ATurn → Type 0 = λ x. All Means x.frames ts ms us → Means (waits s p n) (t ∷ ts) (x.nodes ++ ms) us in
    subst P (some_is e) (λ a. line_taken s is p n t m k d (split_all m.frames a))

leaf_turns : (s : Symbol) {b : Begins} (p : Place) (n : ℕ) (t : Token) {x : ATurn} {ts us : List Token} {ms : Out} → LeafLaw s b → leaf_turn b p n t ≡ Some x → All Means x.frames ts ms us → Means (waits s p n) (t ∷ ts) (x.nodes ++ ms) us
leaf_turns s p n t no_leaf_law e = cc
leaf_turns s p n t (leaf_law {l} {is} k) e = leaf_begun s l is p n t k ((leaf_reader l).move (leaf_reader l).start t) refl e
leaf_turns s p n t (line_law {is} k) e = line_begun s is p n t k (line_turn (Some an_eq.start) side_start t) refl e
leaf_turns s p n t {x} {ts} {us} {ms} (class_law k) e =
    λ a. k p n (t ∷ ts) us (x.nodes ++ ms) (class_turns (Some a_context.start) heading.Before t (class_of (Some a_context.start) heading.Before t e) a)

head_turns : (s : Symbol) (p : Place) (n : ℕ) (t : Token) {h : Head} {x : ATurn} {ts us : List Token} {ms : Out} → Picked (HeadLaw s) t h → head_turn (Some h) s p n t ≡ Some x → All Means x.frames ts ms us → Means (waits s p n) (t ∷ ts) (x.nodes ++ ms) us
head_turns s p n t {ts} {us} {ms} k e =
    let P : ATurn → Type 0 = λ x. All Means x.frames ts ms us → Means (waits s p n) (t ∷ ts) (x.nodes ++ ms) us in
    subst P (some_is e) (λ a. k.law p n t ts us ms k.fit a)

symbol_turns : (s : Symbol) (p : Place) (n : ℕ) (t : Token) (o : Option Head) {x : ATurn} {ts us : List Token} {ms : Out} → found (heads s) t ≡ o → head_turn o s p n t ≡ Some x → All Means x.frames ts ms us → Means (waits s p n) (t ∷ ts) (x.nodes ++ ms) us
symbol_turns s p n t None d e = leaf_turns s p n t (symbol_law s).by_leaf e
symbol_turns s p n t (Some h) d e = head_turns s p n t (picked t (symbol_law s).by_head d) e

read_taken : {l : Leaf} {s : LeafState l} (t : Token) {r : LeafState l} {ts us : List Token} {ms : Out} → (leaf_reader l).move s t ≡ Some r → All Means (reads l r ∷ []) ts ms us → Means (reads l s) (t ∷ ts) ms us
read_taken {l} {s} t {ts} {us} e (then {ms} h nothing) =
    subst (λ ms. Means (reads l s) (t ∷ ts) ms us) (sym (append_none ms)) (take e h)

read_turns : (l : Leaf) (s : LeafState l) (t : Token) (o : Option (LeafState l)) {x : ATurn} {ts us : List Token} {ms : Out} → (leaf_reader l).move s t ≡ o → begun l o [] ≡ Some x → All Means x.frames ts ms us → Means (reads l s) (t ∷ ts) (x.nodes ++ ms) us
read_turns l s t None d e = cc
read_turns l s t (Some r) {ts} {us} {ms} d e =
    let P : ATurn → Type 0 = λ x. All Means x.frames ts ms us → Means (reads l s) (t ∷ ts) (x.nodes ++ ms) us in
    subst P (some_is e) (λ a. read_taken t d a)

frame_turns : (f : Frame) (t : Token) (x : ATurn) (ms : Out) (ts us : List Token) → frame_turn f t ≡ Some x → All Means x.frames ts ms us → Means f (t ∷ ts) (x.nodes ++ ms) us
frame_turns (waits s p n) t x ms ts us e a = symbol_turns s p n t (found (heads s) t) refl e a
frame_turns (reads l s) t x ms ts us e a = read_turns l s t ((leaf_reader l).move s t) refl e a
frame_turns (reads_line q d) t x ms ts us e a = line_turns q d t (line_of q d t e) a
frame_turns (reads_class c h) t x ms ts us e a = class_turns c h t (class_of c h t e) a

-- the meanings of the frames are closed under the table
pub means_closed : Closed rules Means
means_closed = record {
  null = λ f ns ts e. frame_null f ns ts e;
  turn = λ f t x ms ts us e a. frame_turns f t x ms ts us e a;
}

-- what the table says of a program, the grammar says
pub rows_grammar : {ts us : List Token} {ms : Out} → Rows (program_start ∷ []) ts ms us → Made ProgramRead program_nodes ts ms us
rows_grammar h = made_thing (row_means means_closed h)
