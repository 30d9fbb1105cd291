-- What the grammar says is what the table says: several things with a mark between, and a data type.
use Rattle.std.proofs.Common.{◌≡◌, ℕ, ◌+◌, true, List, [], ◌∷◌, ◌++◌, refl, sym, ap, ◌∙◌, append_assoc}
use Rattle.hb_base.specs.declared.name.Name.{Name}
use Rattle.hb_base.specs.declared.place.Place.{Place}
use Rattle.hb_tokens.specs.declared.token.Token.{Token}
use Rattle.hb_tokens.specs.declared.token.TokenKind.{TokenKind}
use Rattle.hb_tokens.specs.declared.word.Word.TheVariants as word
use Rattle.hb_tree.specs.Types.{TypeExpr}
use Rattle.hb_tree.specs.declared.declaration.DataCon.{DataCon}
use Rattle.hb_grammar.specs.Types.{ReadsAtypes, no_atype, atype_more}
use Rattle.hb_grammar.specs.Expressions.{ReadsName}
use Rattle.hb_grammar.specs.Expressions as expressions
use Rattle.hb_grammar.specs.Declarations.{a_name, ReadsDataCons}
use Rattle.hb_engine.specs.Tables.{row_end}
use Rattle.hb_engine.proofs.EngineLaw.{append_none, rows}
use Rattle.hb_read_declarations.specs.declared.node.DeclNode.{DeclNode}
use Rattle.hb_read_declarations.specs.declared.node.DeclNode.TheVariants as node
use Rattle.hb_read_types.specs.declared.node.TypeNode.TheVariants as type_node
use Rattle.hb_read_declarations.specs.Nodes.{named, counted, type_of, data_con_of}
use Rattle.hb_read_declarations.specs.Readers.{Out}
use Rattle.hb_read_declarations.proofs.Known.{if_true}
use Rattle.hb_read_declarations.proofs.Lists.{made, Several, nothing_more, a_thing, Behind, behind as behind_mark, HeadTail, head_tail, head_of}
use Rattle.hb_read_declarations.proofs.Parts.{DataConRead, data_con, data_cons_back}
use Rattle.hb_read_program.specs.Rules.{Symbol, Head, Things, heads, between, thing, things_form, fits, found, node_of, name_in, item}
use Rattle.hb_read_program.specs.declared.symbol.Kind.TheVariants as kind
use Rattle.hb_read_program.specs.declared.symbol.Put.TheVariants as put
use Rattle.hb_read_program.specs.declared.symbol.Symbol.TheVariants as symbol
use Rattle.hb_read_program.specs.declared.symbol.Things.TheVariants as things
use Rattle.hb_read_program.specs.declared.symbol.Count.TheVariants as count
use Rattle.hb_read_program.specs.declared.symbol.Leaf.TheVariants as leaf
use Rattle.hb_read_program.specs.declared.symbol.Form.TheVariants as form
use Rattle.hb_read_program.specs.Frames.{waits}
use Rattle.hb_read_program.proofs.Counting.{none_plus, none_more, counts}
use Rattle.hb_read_program.proofs.Finishes.{Rows, rows_as, LeafBegun, leaf_begun, leaf_symbol}
use Rattle.hb_read_program.proofs.Reading.{by_head, by_nothing, a_token, var_fits, con_fits, op_fits, word_fits, name_put, a_mark}

-- which head is found tells the kind of the token alone
pub found_at : (hs : List Head) (t : Token) {k : TokenKind} → t.kind ≡ k → found hs t ≡ found hs (record { place = t.place; kind = k })
found_at hs t e = ap (λ k. found hs (record { place = t.place; kind = k })) e

-- the node of several things
abbrev pub things_node : Things → ℕ → DeclNode
things_node things.Names n = node.Names n
things_node things.Infixes n = node.Names n
things_node things.FieldNames n = node.Names n
things_node things.DataCons n = node.DataCons n
things_node things.BitCons n = node.BitCons n
things_node things.StructParts n = node.StructParts n
things_node things.Depends n = node.Depends n
things_node things.Preds n = node.Type (type_node.Context n)

things_node_is : (k : Things) (p : Place) (n : ℕ) → node_of (things_form k) p n ≡ things_node k n
things_node_is things.Names p n = refl
things_node_is things.Infixes p n = refl
things_node_is things.FieldNames p n = refl
things_node_is things.DataCons p n = refl
things_node_is things.BitCons p n = refl
things_node_is things.StructParts p n = refl
things_node_is things.Depends p n = refl
things_node_is things.Preds p n = refl

-- what is asked of the things
abbrev pub Puts : {A : Type 0} → Symbol → (List Token → A → List Token → Type 0) → (A → Out) → Type 0
Puts {A} s Reads f = (p : Place) (n : ℕ) (ts us : List Token) (a : A) → Reads ts a us → Rows (waits s p n ∷ []) ts (f a) us

pub more_read : {A : Type 0} {Sep : Token → Type 0} {Reads : List Token → A → List Token → Type 0} (k : Things) (f : A → Out) → ((t : Token) → Sep t → fits (between k) t ≡ true) → Puts (thing k) Reads f → (p : Place) (n : ℕ) {ts us : List Token} {xs : List A} → Several (Behind Sep Reads) ts xs us → Rows (waits (symbol.More k) p n ∷ []) ts ((counted f xs).nodes ++ things_node k (n + (counted f xs).count) ∷ []) us
more_read k f sep one p n nothing_more = rows_as (ap (λ m. m ∷ []) (things_node_is k p n ∙ ap (things_node k) (none_more n))) (by_nothing (symbol.More k) p n refl)
more_read k f sep one p n (a_thing {a = x} {xs} (behind_mark {t} {ts} {us} s h) g) =
    rows_as (ap (λ m. f x ++ ((counted f xs).nodes ++ things_node k m ∷ [])) (counts n (counted f xs).count) ∙ sym (append_assoc (f x) (counted f xs).nodes (things_node k (n + (1 + (counted f xs).count)) ∷ [])))
    (by_head (symbol.More k) p n (if_true (fits (between k) t) _ _ (sep t s)) (rows (one t.place 0 ts us x h) (more_read k f sep one t.place (n + 1) g)))

-- some things with a mark between
pub things_read : {A : Type 0} {Sep : Token → Type 0} {Reads : List Token → A → List Token → Type 0} (k : Things) (f : A → Out) → ((t : Token) → Sep t → fits (between k) t ≡ true) → Puts (thing k) Reads f → (p q : Place) (n : ℕ) {ts us : List Token} {xs : List A} → HeadTail Sep Reads ts xs us → Rows (waits (thing k) p n ∷ waits (symbol.More k) q 1 ∷ []) ts ((counted f xs).nodes ++ things_node k (counted f xs).count ∷ []) us
things_read k f sep one p q n (head_tail {ts} {us} {a = x} {xs} h g) =
    rows_as (sym (append_assoc (f x) (counted f xs).nodes (things_node k (1 + (counted f xs).count) ∷ []))) (rows (one p n ts us x h) (more_read k f sep one q 1 g))

-- name = varid | "(" op ")"
pub name_read : (p : Place) (n : ℕ) {ts us : List Token} {q : Place} {name : Name} → ReadsName ts q name us → Rows (waits symbol.Name p n ∷ []) ts (named (a_name q name)) us
name_read p n (expressions.var {t} e) = rows_as (name_put t e.kind refl) (by_head symbol.Name p n (if_true (fits kind.Var t) _ _ (var_fits t e)) row_end)
name_read p n (expressions.op {t} {s} {name} d e f) =
    by_head symbol.Name p n (found_at (heads symbol.Name) t d) (rows_as (append_none (named (a_name t.place name))) (rows (rows_as (ap (λ k. node.Name t.place (name_in k) ∷ []) e) (a_token kind.Op put.NameBefore t.place 0 (op_fits s e))) (a_mark 41 t.place 0 f)))

-- atype*
atype_then : (a : TypeExpr) {ts us vs : List Token} {ms : Out} (p : Place) (n : ℕ) → LeafBegun leaf.Atype symbol.Atypes p n (item symbol.Atypes count.Next ∷ []) ts (type_of a) us → ((q : Place) → Rows (waits symbol.Atypes q (n + 1) ∷ []) us ms vs) → Rows (waits symbol.Atypes p n ∷ []) ts (type_of a ++ ms) vs
atype_then a {vs} {ms} p n (leaf_begun t rest e k) r = k ms vs (r t.place)

pub atypes_read : (p : Place) (n : ℕ) {ts us : List Token} {xs : List TypeExpr} → ReadsAtypes ts xs us → Rows (waits symbol.Atypes p n ∷ []) ts ((counted type_of xs).nodes ++ node.Types (n + (counted type_of xs).count) ∷ []) us
atypes_read p n no_atype = rows_as (ap (λ k. node.Types k ∷ []) (none_more n)) (by_nothing symbol.Atypes p n refl)
atypes_read p n (atype_more {a} {rest} h g) =
    rows_as (ap (λ m. type_of a ++ ((counted type_of rest).nodes ++ node.Types m ∷ [])) (counts n (counted type_of rest).count) ∙ sym (append_assoc (type_of a) (counted type_of rest).nodes (node.Types (n + (1 + (counted type_of rest).count)) ∷ [])))
    (atype_then a p n (leaf_symbol leaf.Atype symbol.Atypes p n (item symbol.Atypes count.Next ∷ []) refl (made a h)) (λ q. atypes_read q (n + 1) g))

-- conid atype*
con_row : (p : Place) (n : ℕ) {ts us : List Token} {c : DataCon} → DataConRead ts c us → Rows (waits symbol.DataCon p n ∷ []) ts (data_con_of c) us
con_row p n (data_con {t} {name} {args} d h) =
    rows_as (ap (λ m. m ++ (((counted type_of args).nodes ++ node.Types (counted type_of args).count ∷ []) ++ node.DataCon ∷ [])) (name_put t d refl))
    (by_head symbol.DataCon p n (if_true (fits kind.Con t) _ _ (con_fits t d)) (rows (rows_as (ap (λ m. (counted type_of args).nodes ++ node.Types m ∷ []) (none_plus (counted type_of args).count)) (atypes_read t.place 0 h)) (by_nothing (symbol.Close form.DataCon) t.place 0 refl)))

pub data_con_read : Puts symbol.DataCon DataConRead data_con_of
data_con_read p n ts us c h = con_row p n h

-- sep(conid atype*, "|")
pub data_cons_read : (p q : Place) (n : ℕ) {ts us : List Token} {cs : List DataCon} → ReadsDataCons ts cs us → Rows (waits symbol.DataCon p n ∷ waits (symbol.More things.DataCons) q 1 ∷ []) ts ((counted data_con_of cs).nodes ++ node.DataCons (counted data_con_of cs).count ∷ []) us
data_cons_read p q n h = things_read things.DataCons data_con_of (λ t e. word_fits word.Bar t e) data_con_read p q n (head_of (data_cons_back h))
