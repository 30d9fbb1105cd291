-- What the table says of a context and of the head of a class, which are read side by side, the grammar says.
use Rattle.std.proofs.Common.{◌≡◌, ℕ, zero, suc, ◌+◌, true, List, [], ◌∷◌, ◌++◌, Option, Some, None, refl, sym, ap, subst, ◌∙◌, append_assoc}
use Rattle.hb_tokens.specs.declared.token.Token.{Token}
use Rattle.hb_tokens.specs.declared.word.Word.TheVariants as word
use Rattle.hb_tree.specs.declared.types.NameAt.{NameAt}
use Rattle.hb_grammar.specs.Reading.{Runs, stop, take}
use Rattle.hb_grammar.specs.Tokens.{IsWord}
use Rattle.hb_grammar.specs.Types.{name_at, ReadsContext}
use Rattle.hb_grammar.specs.Declarations as grammar
use Rattle.hb_grammar.specs.Declarations.{ReadsVars, var_more}
use Rattle.hb_engine.proofs.Model.{All, nothing, then}
use Rattle.hb_engine.proofs.EngineLaw.{append_none}
use Rattle.hb_read_types.specs.declared.context_reader.ContextReader.{ContextReader}
use Rattle.hb_read_declarations.specs.declared.node.DeclNode.TheVariants as node
use Rattle.hb_read_declarations.specs.Exactly.{Made}
use Rattle.hb_read_declarations.specs.Nodes.{named, names_of}
use Rattle.hb_read_declarations.specs.Readers.{Out, no_context}
use Rattle.hb_read_declarations.specs.Worths.{var, con}
use Rattle.hb_read_declarations.proofs.Known.{some_is}
use Rattle.hb_read_declarations.proofs.Leaves.{ConRead, con_read}
use Rattle.hb_read_declarations.proofs.Names.{SomeVars, some_vars}
use Rattle.hb_read_declarations.proofs.Parts.{ClassHeadRead, class_head, class_head_of}
use Rattle.hb_read_declarations.proofs.WorthLaws.{var_of, con_of}
use Rattle.hb_read_declarations.proofs.Typing.{context_of, a_context_known}
use Rattle.hb_read_program.specs.Rules.{fits, name_in}
use Rattle.hb_read_program.specs.declared.symbol.Kind.TheVariants as kind
use Rattle.hb_read_program.specs.declared.symbol.Symbol.TheVariants as symbol
use Rattle.hb_read_program.specs.Frames.{a_context, reads_class, ATurn, frames_of, Heading, first_heading, next_heading, heading_moved, context_moved, context_whole, class_nothing}
use Rattle.hb_read_program.specs.declared.side.Heading.TheVariants as heading
use Rattle.hb_read_program.proofs.Fits.{class_items, ClassTurn, class_arrow, class_still}
use Rattle.hb_read_program.proofs.Means.{Thing, thing, one_fits, counted_from, has_names, HeadingMeans, before_names, among_names, ClassMeans, by_context, by_heading, Means}
use Rattle.hb_read_program.proofs.MeansLaws.{thing_as, no_other, class_law, never_law, SymbolLaw}
use Rattle.hb_read_program.proofs.MeansTokens.{is_con, is_word}
use Rattle.hb_read_program.proofs.MeansLists.{counted_zero, counted_none, counted_next}

class_as : {c : Option ContextReader} {h : Heading} {ts us : List Token} {ms ls : Out} → ms ≡ ls → ClassMeans c h ts ms us → ClassMeans c h ts ls us
class_as {c} {h} {ts} {us} e k = subst (λ ms. ClassMeans c h ts ms us) e k

heading_as : {h : Heading} {ts us : List Token} {ms ls : Out} → ms ≡ ls → HeadingMeans h ts ms us → HeadingMeans h ts ls us
heading_as {h} {ts} {us} e k = subst (λ ms. HeadingMeans h ts ms us) e k

-- where it may end

heading_null : (h : Heading) {ns : Out} (ts : List Token) → class_nothing h ≡ Some ns → HeadingMeans h ts ns ts
heading_null heading.Gone ts e = cc
heading_null heading.Before ts e = cc
heading_null (heading.Names zero out) ts e = cc
heading_null (heading.Names (suc k) out) ts e =
    heading_as (ap (λ m. no_context ++ (out ++ m)) (counted_none node.Names named (suc k)) ∙ some_is e) (among_names grammar.no_var refl)

pub class_null : (c : Option ContextReader) (h : Heading) {ns : Out} (ts : List Token) → class_nothing h ≡ Some ns → ClassMeans c h ts ns ts
class_null c h ts e = by_heading (heading_null h ts e)

-- `=>`

whole_context : (c : Option ContextReader) (h : Heading) (t : Token) {out : Out} {n : NameAt} {ns : List NameAt} {ts us vs : List Token} → context_whole c ≡ Some out → IsWord word.DoubleArrow t → ConRead ts n us → SomeVars us ns vs → ClassMeans c h (t ∷ ts) (out ++ (named n ++ names_of ns)) vs
whole_context None h t e f g k = cc
whole_context (Some s) h t e f g k = by_context refl (stop e) f g k

arrow_back : (c : Option ContextReader) (h : Heading) (t : Token) (out : Out) {ts us : List Token} {ms : Out} → fits (kind.Word word.DoubleArrow) t ≡ true → context_whole c ≡ Some out → All Means (frames_of class_items t.place 0 t) ts ms us → ClassMeans c h (t ∷ ts) (out ++ ms) us
arrow_back c h t out d e (then (one_fits {t = s} f) (then (thing {a = ns} k) nothing)) =
    let name : NameAt = name_at s (name_in s.kind) in
    class_as (ap (λ m. out ++ (named name ++ m)) (sym (append_none (names_of ns)))) (whole_context c h t e (is_word word.DoubleArrow t d) (con_read (is_con s f)) k)

-- a token of the head

con_name : (t : Token) (n : NameAt) {us : List Token} → con t ≡ Some n → ConRead (t ∷ us) n us
con_name t n {us} e =
    let c = con_of {t = t} e in let P : NameAt → Type 0 = λ n. ConRead (t ∷ us) n us in subst P (sym c.1) (con_read c.0)

more_names : (t : Token) (n : NameAt) {ts us : List Token} {ns : List NameAt} → var t ≡ Some n → ReadsVars ts ns us → ReadsVars (t ∷ ts) (n ∷ ns) us
more_names t n {ts} {us} {ns} e h =
    let v = var_of {t = t} e in
    let P : NameAt → Type 0 = λ n. ReadsVars (t ∷ ts) (n ∷ ns) us in subst P (sym v.is_at) (var_more v.is_var h)

some_names : (ns : List NameAt) {ts us : List Token} → ReadsVars ts ns us → has_names 0 ns ≡ true → SomeVars ts ns us
some_names [] h e = cc
some_names (n ∷ ns) h e = some_vars h

always_names : (k : ℕ) (n : NameAt) (ns : List NameAt) → has_names k (n ∷ ns) ≡ true
always_names zero n ns = refl
always_names (suc k) n ns = refl

gone_heading : {ts us : List Token} {ms : Out} {P : Type 0} → HeadingMeans heading.Gone ts ms us → P
gone_heading h = elim h [ ]

first_back : (t : Token) (o : Option NameAt) {ts us : List Token} {ms : Out} → con t ≡ o → HeadingMeans (first_heading o) ts ms us → HeadingMeans heading.Before (t ∷ ts) ms us
first_back t None e h = gone_heading h
first_back t (Some n) e (among_names {ns} h g) =
    heading_as (ap (λ m. no_context ++ (named n ++ m)) (sym (counted_zero node.Names named ns))) (before_names (con_name t n e) (some_names ns h g))

next_back : (k : ℕ) (out : Out) (t : Token) (o : Option NameAt) {ts us : List Token} {ms : Out} → var t ≡ o → HeadingMeans (next_heading k out o) ts ms us → HeadingMeans (heading.Names k out) (t ∷ ts) ms us
next_back k out t None e h = gone_heading h
next_back k out t (Some n) e (among_names {ns} h g) =
    heading_as (ap (λ m. no_context ++ (out ++ m)) (counted_next node.Names named k n ns) ∙ ap (λ m. no_context ++ m) (sym (append_assoc out (named n) (counted_from node.Names named (k + 1) ns))))
    (among_names (more_names t n e h) (always_names k n ns))

heading_back : (h : Heading) (t : Token) {ts us : List Token} {ms : Out} → HeadingMeans (heading_moved h t) ts ms us → HeadingMeans h (t ∷ ts) ms us
heading_back heading.Gone t h = gone_heading h
heading_back heading.Before t h = first_back t (con t) refl h
heading_back (heading.Names k out) t h = next_back k out t (var t) refl h

-- a token of either

context_back : (c : Option ContextReader) (h : Heading) (t : Token) {r : ContextReader} {x : Token} {v : Out} {n : NameAt} {ns : List NameAt} {ts us vs ws : List Token} → context_moved c t ≡ Some r → Runs a_context r ts v (x ∷ us) → IsWord word.DoubleArrow x → ConRead us n vs → SomeVars vs ns ws → ClassMeans c h (t ∷ ts) (v ++ (named n ++ names_of ns)) ws
context_back None h t i m f g k = cc
context_back (Some s) h t i m f g k = by_context refl (take i m) f g k

class_back : (c : Option ContextReader) (h : Heading) (t : Token) {ts us : List Token} {ms : Out} → ClassMeans (context_moved c t) (heading_moved h t) ts ms us → ClassMeans c h (t ∷ ts) ms us
class_back c h t (by_context i m f g k) = context_back c h t i m f g k
class_back c h t (by_heading k) = by_heading (heading_back h t k)

one_class : {c : Option ContextReader} {h : Heading} {ts us : List Token} {ms : Out} → All Means (reads_class c h ∷ []) ts ms us → ClassMeans c h ts ms us
one_class (then {ms} h nothing) = class_as (sym (append_none ms)) h

pub class_turns : (c : Option ContextReader) (h : Heading) (t : Token) {x : ATurn} {ts us : List Token} {ms : Out} → ClassTurn c h t x → All Means x.frames ts ms us → ClassMeans c h (t ∷ ts) (x.nodes ++ ms) us
class_turns c h t {ts} {us} {ms} (class_arrow out d e i) =
    let P : ATurn → Type 0 = λ y. All Means y.frames ts ms us → ClassMeans c h (t ∷ ts) (y.nodes ++ ms) us in
    subst P i (λ a. arrow_back c h t out d e a)
class_turns c h t {ts} {us} {ms} (class_still g i) =
    let P : ATurn → Type 0 = λ y. All Means y.frames ts ms us → ClassMeans c h (t ∷ ts) (y.nodes ++ ms) us in
    subst P i (λ a. class_back c h t (one_class a))

-- [context "=>"] conid varid+

head_with : {v : Out} {x : Token} {n : NameAt} {ns : List NameAt} {ts us vs ws : List Token} → Made ReadsContext context_of ts v (x ∷ us) → IsWord word.DoubleArrow x → ConRead us n vs → SomeVars vs ns ws → Thing ClassHeadRead class_head_of ts (v ++ (named n ++ names_of ns)) ws
head_with {n} {ns} m f g k =
    thing_as (record { context = m.thing; name = n; params = ns }) (class_head (grammar.supers m.read f) g k) (ap (λ v. v ++ (named n ++ names_of ns)) (sym m.is))

context_run : {s : ContextReader} {ts us : List Token} {v : Out} → Some a_context.start ≡ Some s → Runs a_context s ts v us → Made ReadsContext context_of ts v us
context_run {ts} {us} {v} i h = a_context_known.exact.sound (subst (λ s. Runs a_context s ts v us) (sym (some_is i)) h)

head_alone : {ts us : List Token} {ms : Out} → HeadingMeans heading.Before ts ms us → Thing ClassHeadRead class_head_of ts ms us
head_alone (before_names {n} {ns} g k) =
    thing_as (record { context = []; name = n; params = ns }) (class_head grammar.no_supers g k) refl

head_class : {ts us : List Token} {ms : Out} → ClassMeans (Some a_context.start) heading.Before ts ms us → Thing ClassHeadRead class_head_of ts ms us
head_class (by_context i m f g k) = head_with (context_run i m) f g k
head_class (by_heading h) = head_alone h

pub class_head_law : SymbolLaw symbol.ClassHead
class_head_law = record { by_head = no_other; by_leaf = class_law (λ p n ts us ms h. head_class h); by_nothing = never_law }
