-- What the table says is what the grammar says: tokens, names, and several things with a mark between.
use Rattle.std.proofs.Common.{◌≡◌, ℕ, ◌+◌, List, [], ◌∷◌, ◌++◌, Some, None, refl, sym, ap, ◌∙◌, append_assoc}
use Rattle.hb_base.specs.declared.place.Place.{Place}
use Rattle.hb_tokens.specs.declared.token.Token.{Token}
use Rattle.hb_tokens.specs.declared.word.Word.TheVariants as word
use Rattle.hb_tree.specs.declared.types.NameAt.{NameAt}
use Rattle.hb_grammar.specs.Types.{name_at, atype_more, no_atype}
use Rattle.hb_grammar.specs.Expressions as expressions
use Rattle.hb_grammar.specs.Declarations.{a_name, no_var, var_more, no_size, size, no_align, align}
use Rattle.hb_engine.proofs.Model.{nothing, then}
use Rattle.hb_engine.proofs.EngineLaw.{append_none}
use Rattle.hb_read_declarations.specs.declared.node.DeclNode.{DeclNode}
use Rattle.hb_read_declarations.specs.declared.node.DeclNode.TheVariants as node
use Rattle.hb_read_declarations.specs.Nodes.{counted, closed, named, type_of, pred_of, context_whole, data_con_of, bit_con_of, struct_part_of, depend_of}
use Rattle.hb_read_declarations.specs.Readers.{Out}
use Rattle.hb_read_declarations.proofs.Lists.{Several, nothing_more, a_thing, Behind, behind as behind_mark, Separated, last_thing, more_things}
use Rattle.hb_read_declarations.proofs.Leaves.{VarRead, var_read}
use Rattle.hb_read_declarations.proofs.Names.{some_vars}
use Rattle.hb_read_declarations.proofs.Parts.{data_con, some_types}
use Rattle.hb_read_program.specs.Rules.{Things, head, mute, mark_head, word_head, between, things_form, node_of, name_in, number_in, item}
use Rattle.hb_read_program.specs.declared.symbol.Kind.TheVariants as kind
use Rattle.hb_read_program.specs.declared.symbol.Put.TheVariants as put
use Rattle.hb_read_program.specs.declared.symbol.Symbol.TheVariants as symbol
use Rattle.hb_read_program.specs.declared.symbol.Things.TheVariants as things
use Rattle.hb_read_program.specs.declared.symbol.Count.TheVariants as count
use Rattle.hb_read_program.specs.declared.symbol.Leaf.TheVariants as leaf
use Rattle.hb_read_program.specs.declared.symbol.Production.TheVariants as production
use Rattle.hb_read_program.specs.Frames.{waits}
use Rattle.hb_read_program.proofs.Counting.{none_plus, none_more, counts}
use Rattle.hb_read_program.proofs.Means.{Thing, thing, counted_from, OneToken, one_fits, closes, Means}
use Rattle.hb_read_program.proofs.MeansLaws.{thing_as, HeadLaw, no_other, and_also, no_leaf_law, BehindLeaf, leaf_law, never_law, nothing_law, SymbolLaw}
use Rattle.hb_read_program.proofs.MeansTokens.{is_var, is_con, is_op, is_number, is_slash, is_word, is_mark}

-- nodes of things

pub counted_zero : {A : Type 0} (whole : ℕ → DeclNode) (f : A → Out) (xs : List A) → counted_from whole f 0 xs ≡ closed whole (counted f xs)
counted_zero whole f xs = ap (λ k. (counted f xs).nodes ++ whole k ∷ []) (none_plus (counted f xs).count)

pub counted_none : {A : Type 0} (whole : ℕ → DeclNode) (f : A → Out) (n : ℕ) → counted_from whole f n [] ≡ whole n ∷ []
counted_none whole f n = ap (λ k. whole k ∷ []) (sym (none_more n))

pub counted_next : {A : Type 0} (whole : ℕ → DeclNode) (f : A → Out) (n : ℕ) (x : A) (xs : List A) → counted_from whole f n (x ∷ xs) ≡ f x ++ counted_from whole f (n + 1) xs
counted_next whole f n x xs =
    append_assoc (f x) (counted f xs).nodes (whole (n + (1 + (counted f xs).count)) ∷ []) ∙ ap (λ k. f x ++ ((counted f xs).nodes ++ whole k ∷ [])) (sym (counts n (counted f xs).count))

pub counted_first : {A : Type 0} (whole : ℕ → DeclNode) (f : A → Out) (x : A) (xs : List A) → closed whole (counted f (x ∷ xs)) ≡ f x ++ counted_from whole f 1 xs
counted_first whole f x xs = append_assoc (f x) (counted f xs).nodes (whole (1 + (counted f xs).count) ∷ [])

-- the same with nothing behind

pub cons_next : {A : Type 0} (whole : ℕ → DeclNode) (f : A → Out) (n : ℕ) (x : A) (xs : List A) → counted_from whole f n (x ∷ xs) ≡ f x ++ (counted_from whole f (n + 1) xs ++ [])
cons_next whole f n x xs = counted_next whole f n x xs ∙ ap (λ m. f x ++ m) (sym (append_none (counted_from whole f (n + 1) xs)))

pub cons_first : {A : Type 0} (whole : ℕ → DeclNode) (f : A → Out) (x : A) (xs : List A) → closed whole (counted f (x ∷ xs)) ≡ f x ++ (counted_from whole f 1 xs ++ [])
cons_first whole f x xs = counted_first whole f x xs ∙ ap (λ m. f x ++ m) (sym (append_none (counted_from whole f 1 xs)))

-- a thing and more of them, each behind a mark
pub with_more : {A : Type 0} {Sep : Token → Type 0} {Reads : List Token → A → List Token → Type 0} {ts us vs : List Token} {a : A} {xs : List A} → Reads ts a us → Several (Behind Sep Reads) us xs vs → Separated Sep Reads ts (a ∷ xs) vs
with_more h nothing_more = last_thing h
with_more h (a_thing (behind_mark s g) k) = more_things h s (with_more g k)

-- more things

more_next : {A : Type 0} {Sep : Token → Type 0} {Reads : List Token → A → List Token → Type 0} (whole : ℕ → DeclNode) (f : A → Out) (n : ℕ) {t : Token} {ts us vs : List Token} {ms ls : Out} → Sep t → Thing Reads f ts ms us → Thing (Several (Behind Sep Reads)) (counted_from whole f (n + 1)) us ls vs → Thing (Several (Behind Sep Reads)) (counted_from whole f n) (t ∷ ts) (ms ++ (ls ++ [])) vs
more_next whole f n s (thing {a = x} h) (thing {a = xs} k) =
    thing_as (x ∷ xs) (a_thing (behind_mark s h) k) (cons_next whole f n x xs)

pub var_token : {p : Place} {n : ℕ} {ts us : List Token} {ms : Out} → OneToken kind.Var put.Name p n ts ms us → Thing VarRead named ts ms us
var_token (one_fits {t} e) = thing_as (name_at t (name_in t.kind)) (var_read (is_var t e)) refl

more_head : (k : Things) → HeadLaw (symbol.More k) (mute (between k) (production.More k))
more_head things.Names p n t ts us ms e (then a (then b nothing)) = more_next node.Names named n (is_mark 44 t e) a b
more_head things.Infixes p n t ts us ms e (then a (then b nothing)) = more_next node.Names named n (is_mark 44 t e) a b
more_head things.FieldNames p n t ts us ms e (then a (then b nothing)) =
    more_next node.Names named n (is_mark 44 t e) (var_token a) b
more_head things.DataCons p n t ts us ms e (then a (then b nothing)) =
    more_next node.DataCons data_con_of n (is_word word.Bar t e) a b
more_head things.BitCons p n t ts us ms e (then a (then b nothing)) =
    more_next node.BitCons bit_con_of n (is_word word.Bar t e) a b
more_head things.StructParts p n t ts us ms e (then a (then b nothing)) =
    more_next node.StructParts struct_part_of n (is_word word.Bar t e) a b
more_head things.Depends p n t ts us ms e (then a (then b nothing)) = more_next node.Depends depend_of n (is_mark 44 t e) a b
more_head things.Preds p n t ts us ms e (then a (then b nothing)) = more_next context_whole pred_of n (is_mark 44 t e) a b

more_nothing : (k : Things) (p : Place) (n : ℕ) (ts : List Token) → Means (waits (symbol.More k) p n) ts (node_of (things_form k) p n ∷ []) ts
more_nothing things.Names p n ts = thing_as [] nothing_more (counted_none node.Names named n)
more_nothing things.Infixes p n ts = thing_as [] nothing_more (counted_none node.Names named n)
more_nothing things.FieldNames p n ts = thing_as [] nothing_more (counted_none node.Names named n)
more_nothing things.DataCons p n ts = thing_as [] nothing_more (counted_none node.DataCons data_con_of n)
more_nothing things.BitCons p n ts = thing_as [] nothing_more (counted_none node.BitCons bit_con_of n)
more_nothing things.StructParts p n ts = thing_as [] nothing_more (counted_none node.StructParts struct_part_of n)
more_nothing things.Depends p n ts = thing_as [] nothing_more (counted_none node.Depends depend_of n)
more_nothing things.Preds p n ts = thing_as [] nothing_more (counted_none context_whole pred_of n)

pub more_law : (k : Things) → SymbolLaw (symbol.More k)
more_law k =
    record { by_head = and_also (more_head k) no_other; by_leaf = no_leaf_law; by_nothing = nothing_law (more_nothing k) }

-- names

name_var : HeadLaw symbol.Name (head kind.Var put.Name production.Nothing)
name_var p n t ts us ms e nothing = thing_as (a_name t.place (name_in t.kind)) (expressions.var (is_var t e)) refl

name_op : HeadLaw symbol.Name (mark_head 40 production.Bracketed)
name_op p n t ts us ms e (then (one_fits {t = s} f) (then (one_fits {t = r} g) nothing)) =
    thing_as (a_name t.place (name_in s.kind)) (expressions.op (is_mark 40 t e) (is_op s f) (is_mark 41 r g)) refl

pub name_law : SymbolLaw symbol.Name
name_law = record { by_head = and_also name_var (and_also name_op no_other); by_leaf = no_leaf_law; by_nothing = never_law }

infix_op : HeadLaw symbol.Infix (head kind.Op put.Name production.Nothing)
infix_op p n t ts us ms e nothing = thing_as (a_name t.place (name_in t.kind)) (expressions.op (is_op t e)) refl

infix_quoted : HeadLaw symbol.Infix (mark_head 96 production.Quoted)
infix_quoted p n t ts us ms e (then (one_fits {t = s} f) (then (one_fits {t = r} g) nothing)) =
    thing_as (a_name s.place (name_in s.kind)) (expressions.named (is_mark 96 t e) (is_var s f) (is_mark 96 r g)) refl

pub infix_law : SymbolLaw symbol.Infix
infix_law = record { by_head = and_also infix_op (and_also infix_quoted no_other); by_leaf = no_leaf_law; by_nothing = never_law }

-- varid* and varid+

vars_next : HeadLaw symbol.Vars (head kind.Var put.Name production.Vars)
vars_next p n t ts us ms e (then (thing {a = ns} h) nothing) =
    let v : NameAt = name_at t (name_in t.kind) in thing_as (v ∷ ns) (var_more (is_var t e) h) (cons_next node.Names named n v ns)

vars_nothing : (p : Place) (n : ℕ) (ts : List Token) → Means (waits symbol.Vars p n) ts (node.Names n ∷ []) ts
vars_nothing p n ts = thing_as [] no_var (counted_none node.Names named n)

pub vars_law : SymbolLaw symbol.Vars
vars_law = record { by_head = and_also vars_next no_other; by_leaf = no_leaf_law; by_nothing = nothing_law vars_nothing }

vars_first : HeadLaw symbol.SomeVars (head kind.Var put.Name production.FirstVars)
vars_first p n t ts us ms e (then (thing {a = ns} h) nothing) =
    let v : NameAt = name_at t (name_in t.kind) in
    thing_as (v ∷ ns) (some_vars (var_more (is_var t e) h)) (cons_first node.Names named v ns)

pub some_vars_law : SymbolLaw symbol.SomeVars
some_vars_law = record { by_head = and_also vars_first no_other; by_leaf = no_leaf_law; by_nothing = never_law }

-- atype* and atype+

atypes_nothing : (p : Place) (n : ℕ) (ts : List Token) → Means (waits symbol.Atypes p n) ts (node.Types n ∷ []) ts
atypes_nothing p n ts = thing_as [] no_atype (counted_none node.Types type_of n)

atypes_next : BehindLeaf symbol.Atypes leaf.Atype (item symbol.Atypes count.Next ∷ [])
atypes_next p n t ts us vs v ms (thing {a} h) (then (thing {a = xs} k) nothing) =
    thing_as (a ∷ xs) (atype_more h k) (cons_next node.Types type_of n a xs)

pub atypes_law : SymbolLaw symbol.Atypes
atypes_law = record { by_head = no_other; by_leaf = leaf_law atypes_next; by_nothing = nothing_law atypes_nothing }

atypes_first : BehindLeaf symbol.SomeAtypes leaf.Atype (item symbol.Atypes count.One ∷ [])
atypes_first p n t ts us vs v ms (thing {a} h) (then (thing {a = xs} k) nothing) =
    thing_as (a ∷ xs) (some_types (atype_more h k)) (cons_first node.Types type_of a xs)

pub some_atypes_law : SymbolLaw symbol.SomeAtypes
some_atypes_law = record { by_head = no_other; by_leaf = leaf_law atypes_first; by_nothing = never_law }

-- ["/" number] and ["aligned" number]

size_number : HeadLaw symbol.Size (mute kind.Slash production.Number)
size_number p n t ts us ms e (then (one_fits {t = s} f) nothing) =
    thing_as (Some (number_in s.kind)) (size (is_slash t e) (is_number s f)) refl

size_nothing : (p : Place) (n : ℕ) (ts : List Token) → Means (waits symbol.Size p n) ts (node.NoNumber ∷ []) ts
size_nothing p n ts = thing_as None no_size refl

pub size_law : SymbolLaw symbol.Size
size_law = record { by_head = and_also size_number no_other; by_leaf = no_leaf_law; by_nothing = nothing_law size_nothing }

align_number : HeadLaw symbol.Align (word_head word.Aligned production.Number)
align_number p n t ts us ms e (then (one_fits {t = s} f) nothing) =
    thing_as (Some (number_in s.kind)) (align (is_word word.Aligned t e) (is_number s f)) refl

align_nothing : (p : Place) (n : ℕ) (ts : List Token) → Means (waits symbol.Align p n) ts (node.NoNumber ∷ []) ts
align_nothing p n ts = thing_as None no_align refl

pub align_law : SymbolLaw symbol.Align
align_law = record { by_head = and_also align_number no_other; by_leaf = no_leaf_law; by_nothing = nothing_law align_nothing }

-- conid atype*

data_con_args : HeadLaw symbol.DataCon (head kind.Con put.Name production.DataCon)
data_con_args p n t ts us ms e (then (thing {a = args} h) (then closes nothing)) =
    let name : NameAt = name_at t (name_in t.kind) in
    thing_as (record { name = name; args = args }) (data_con (is_con t e) h) (ap (λ m. named name ++ (m ++ node.DataCon ∷ [])) (sym (counted_zero node.Types type_of args)))

pub data_con_law : SymbolLaw symbol.DataCon
data_con_law = record { by_head = and_also data_con_args no_other; by_leaf = no_leaf_law; by_nothing = never_law }
