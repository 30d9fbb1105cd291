-- What the grammar says is what the table says: names with a comma between and their type, where they begin a part of a form.
use Rattle.std.proofs.Common.{◌≡◌, ℕ, ◌+◌, List, [], ◌∷◌, ◌++◌, true, Some, refl, sym, ap, subst, ◌∙◌}
use Rattle.hb_base.specs.declared.name.Name.{Name}
use Rattle.hb_base.specs.declared.place.Place.{Place}
use Rattle.hb_tokens.specs.declared.token.Token.{Token}
use Rattle.hb_tokens.specs.declared.token.TokenKind.TheVariants as token
use Rattle.hb_tokens.specs.declared.word.Word.TheVariants as word
use Rattle.hb_tree.specs.declared.types.NameAt.{NameAt}
use Rattle.hb_tree.specs.declared.declaration.FieldDecl.{FieldDecl}
use Rattle.hb_tree.specs.Types.{TypeExpr}
use Rattle.hb_grammar.specs.Tokens.{IsVar, IsWord, IsComma}
use Rattle.hb_grammar.specs.Types.{name_at, ReadsType}
use Rattle.hb_grammar.specs.Declarations as grammar
use Rattle.hb_grammar.specs.Declarations.{ReadsFieldDecl}
use Rattle.hb_engine.proofs.EngineLaw.{rows}
use Rattle.hb_read_declarations.specs.declared.node.DeclNode.TheVariants as node
use Rattle.hb_read_declarations.specs.Nodes.{named, counted, type_of, fields_of}
use Rattle.hb_read_declarations.specs.Readers.{Out}
use Rattle.hb_read_declarations.proofs.Leaves.{VarRead, var_read}
use Rattle.hb_read_declarations.proofs.Lists.{Several, Behind, HeadTail, head_tail, head_of}
use Rattle.hb_read_declarations.proofs.Names.{field_names_back}
use Rattle.hb_read_program.specs.Rules.{Symbol, Item, head, heads, found, fits, behind}
use Rattle.hb_read_program.specs.declared.symbol.Production.{Production}
use Rattle.hb_read_program.specs.declared.symbol.Kind.TheVariants as kind
use Rattle.hb_read_program.specs.declared.symbol.Put.TheVariants as put
use Rattle.hb_read_program.specs.declared.symbol.Symbol.TheVariants as symbol
use Rattle.hb_read_program.specs.declared.symbol.Things.TheVariants as things
use Rattle.hb_read_program.specs.declared.symbol.Leaf.TheVariants as leaf
use Rattle.hb_read_program.specs.declared.symbol.Form.TheVariants as form
use Rattle.hb_read_program.specs.Frames.{Frame, waits, frames_of, place_of}
use Rattle.hb_read_program.proofs.Finishes.{Rows, rows_as}
use Rattle.hb_read_program.proofs.Reading.{by_head, by_nothing, a_var, a_word, var_fits, mark_fits, name_put}
use Rattle.hb_read_program.proofs.ReadingLists.{Puts, more_read}
use Rattle.hb_read_program.proofs.ReadingParts.{type_read}

-- the same tokens, said in other words
pub row_from : {fs : List Frame} {ts rs us : List Token} {ms : Out} → ts ≡ rs → Rows fs rs ms us → Rows fs ts ms us
row_from {fs} {us} {ms} e h = subst (λ ts. Rows fs ts ms us) (sym e) h

-- a variable with this name
abbrev pub var_token : Place → Name → Token
var_token p name = record { place = p; kind = token.VarId name }

pub var_there : {name : Name} (t : Token) → IsVar name t → fits kind.Var (var_token t.place name) ≡ true
var_there {name} t v = ap (λ k. fits kind.Var (record { place = t.place; kind = k })) (sym v.kind) ∙ var_fits t v

var_row : (p : Place) (n : ℕ) {ts us : List Token} {a : NameAt} → VarRead ts a us → Rows (waits (symbol.One kind.Var put.Name) p n ∷ []) ts (named a) us
var_row p n (var_read e) = a_var p n e

var_puts : Puts (symbol.One kind.Var put.Name) VarRead named
var_puts p n ts us a h = var_row p n h

-- what stands behind the first of the names
abbrev pub fields_frames : Place → List Frame
fields_frames p = waits (symbol.More things.FieldNames) p 1 ∷ waits (symbol.One (kind.Word word.DoubleColon) put.Nothing) p 0 ∷ waits (symbol.Read leaf.Type) p 0 ∷ waits (symbol.Close form.Fields) p 0 ∷ []

pub data FieldsBegun (f : FieldDecl) (ts us : List Token) : Type 0 where
  fields_begun : {name : Name} (t : Token) (rest : List Token) (ms : Out) → ts ≡ t ∷ rest → IsVar name t → named (name_at t name) ++ ms ≡ fields_of f → ((p : Place) → Rows (fields_frames p) rest ms us) → FieldsBegun f ts us

var_begun : {ts us vs ws : List Token} {s : Token} {n : NameAt} {ns : List NameAt} {a : TypeExpr} → VarRead ts n us → Several (Behind IsComma VarRead) us ns (s ∷ vs) → IsWord word.DoubleColon s → ReadsType vs a ws → FieldsBegun (record { names = n ∷ ns; of = a }) ts ws
var_begun {ns} {a} (var_read {t} {us} e) g d k =
    fields_begun t us (((counted named ns).nodes ++ node.Names (1 + (counted named ns).count) ∷ []) ++ (type_of a ++ node.Fields ∷ [])) refl e refl
    (λ p. rows (more_read things.FieldNames named (λ t e. mark_fits 44 t e) var_puts p 1 g) (rows (a_word word.DoubleColon p 0 d) (rows (type_read p 0 k) (by_nothing (symbol.Close form.Fields) p 0 refl))))

names_begun : {ts us vs : List Token} {s : Token} {names : List NameAt} {a : TypeExpr} → HeadTail IsComma VarRead ts names (s ∷ us) → IsWord word.DoubleColon s → ReadsType us a vs → FieldsBegun (record { names = names; of = a }) ts vs
names_begun (head_tail h g) d k = var_begun h g d k

pub fields_read : {ts us : List Token} {f : FieldDecl} → ReadsFieldDecl ts f us → FieldsBegun f ts us
fields_read (grammar.field_decl h d k) = names_begun (head_of (field_names_back h)) d k

-- a symbol that begins with the first of the names, and what stands behind the type
pub by_fields : (s : Symbol) (p : Place) (n : ℕ) (b : Production) (is : List Item) {f : FieldDecl} {ts us vs : List Token} {ls : Out} → ((name : Name) (t : Token) → IsVar name t → found (heads s) t ≡ Some (head kind.Var put.Name b)) → ((q : Place) (t : Token) → frames_of (behind b) q n t ≡ fields_frames q ++ frames_of is q n t) → FieldsBegun f ts us → ((q : Place) (t : Token) → Rows (frames_of is q n t) us ls vs) → Rows (waits s p n ∷ []) ts (fields_of f ++ ls) vs
by_fields s p n b is {vs} {ls} k w (fields_begun {name} t rest ms i v e r) g =
    row_from i
    (rows_as (ap (λ m. m ++ (ms ++ ls)) (name_put t v.kind refl) ∙ ap (λ xs. xs ++ ls) e)
    (by_head s p n (k name t v) (subst (λ fs. Rows fs rest (ms ++ ls) vs) (sym (w (place_of s p t) t)) (rows (r (place_of s p t)) (g (place_of s p t) t)))))
