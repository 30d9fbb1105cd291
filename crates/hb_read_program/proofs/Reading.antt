-- What the grammar says is what the table says: tokens, names, and several things with a mark between.
use Rattle.std.proofs.Common.{◌≡◌, ℕ, ◌+◌, true, List, [], ◌∷◌, ◌++◌, Some, is_some, refl, sym, ap, subst, ◌∙◌}
use Rattle.hb_base.specs.declared.name.Name.{Name}
use Rattle.hb_base.specs.declared.place.Place.{Place}
use Rattle.hb_tokens.specs.declared.token.Token.{Token}
use Rattle.hb_tokens.specs.declared.token.TokenKind.{TokenKind}
use Rattle.hb_tokens.specs.declared.word.Word.{Word}
use Rattle.hb_tree.specs.declared.types.NameAt.{NameAt}
use Rattle.hb_grammar.specs.Tokens.{IsVar, IsCon, IsOp, IsWord, IsMark, IsNumber}
use Rattle.hb_grammar.specs.Types.{name_at}
use Rattle.hb_grammar.specs.Declarations.{ReadsVars, no_var, var_more}
use Rattle.hb_engine.specs.Tables.{row_end, row_null, row_turn}
use Rattle.hb_engine.proofs.EngineLaw.{append_none}
use Rattle.hb_read_declarations.specs.declared.node.DeclNode.TheVariants as node
use Rattle.hb_read_declarations.specs.Nodes.{named, counted}
use Rattle.hb_read_declarations.specs.Readers.{Out}
use Rattle.hb_read_declarations.proofs.Known.{if_true}
use Rattle.hb_read_declarations.proofs.WorthLaws.{var_is, con_is, op_is, word_is, mark_is, number_is}
use Rattle.hb_read_program.specs.Rules.{Symbol, Kind, Put, Head, Form, heads, behind, nothing_of, fits, found, put_out, node_of, name_in, number_in}
use Rattle.hb_read_program.specs.declared.symbol.Kind.TheVariants as kind
use Rattle.hb_read_program.specs.declared.symbol.Put.TheVariants as put
use Rattle.hb_read_program.specs.declared.symbol.Symbol.TheVariants as symbol
use Rattle.hb_read_program.specs.Frames.{waits, turn_to, frames_of, place_of, head_turn, put_nothing}
use Rattle.hb_read_program.proofs.Counting.{none_more, counts}
use Rattle.hb_read_program.proofs.Finishes.{Rows, rows_as}

-- a symbol that begins with a token
pub by_head : (s : Symbol) (p : Place) (n : ℕ) {t : Token} {h : Head} {ts us : List Token} {ms : Out} → found (heads s) t ≡ Some h → Rows (frames_of (behind h.behind) (place_of s p t) n t) ts ms us → Rows (waits s p n ∷ []) (t ∷ ts) (put_out h.put p n t ++ ms) us
by_head s p n {t} {h} {ts} {us} {ms} e r =
    row_turn {n = turn_to (frames_of (behind h.behind) (place_of s p t) n t) (put_out h.put p n t)} (ap (λ o. head_turn o s p n t) e)
    (subst (λ fs. Rows fs ts ms us) (sym (append_none (frames_of (behind h.behind) (place_of s p t) n t))) r)

-- a symbol that is nothing
pub by_nothing : (s : Symbol) (p : Place) (n : ℕ) {f : Form} {ts : List Token} → nothing_of s ≡ Some f → Rows (waits s p n ∷ []) ts (node_of f p n ∷ []) ts
by_nothing s p n {f} e = row_null {ns = node_of f p n ∷ []} (ap (λ o. put_nothing o p n) e) row_end

-- one token
pub a_token : (k : Kind) (q : Put) (p : Place) (n : ℕ) {t : Token} {us : List Token} → fits k t ≡ true → Rows (waits (symbol.One k q) p n ∷ []) (t ∷ us) (put_out q p n t) us
a_token k q p n {t} {us} e = rows_as (append_none (put_out q p n t)) (by_head (symbol.One k q) p n (if_true (fits k t) _ _ e) row_end)

pub var_fits : {name : Name} (t : Token) → IsVar name t → fits kind.Var t ≡ true
var_fits t e = ap is_some (var_is t e)

pub con_fits : {name : Name} (t : Token) → IsCon name t → fits kind.Con t ≡ true
con_fits t e = ap is_some (con_is t e)

pub op_fits : {name : Name} (t : Token) → IsOp name t → fits kind.Op t ≡ true
op_fits t e = ap is_some (op_is t e)

pub word_fits : (w : Word) (t : Token) → IsWord w t → fits (kind.Word w) t ≡ true
word_fits w t e = ap is_some (word_is t e)

pub mark_fits : (m : ℕ) (t : Token) → IsMark m t → fits (kind.Mark m) t ≡ true
mark_fits m t e = ap is_some (mark_is t e)

pub number_fits : {k : ℕ} (t : Token) → IsNumber k t → fits kind.Number t ≡ true
number_fits t e = ap is_some (number_is t e)

-- a name that a token puts out
pub name_put : {name : Name} (t : Token) {k : TokenKind} → t.kind ≡ k → name_in k ≡ name → node.Name t.place (name_in t.kind) ∷ [] ≡ named (name_at t name)
name_put t e d = ap (λ name. node.Name t.place name ∷ []) (ap name_in e ∙ d)

pub a_var : (p : Place) (n : ℕ) {name : Name} {t : Token} {us : List Token} → IsVar name t → Rows (waits (symbol.One kind.Var put.Name) p n ∷ []) (t ∷ us) (named (name_at t name)) us
a_var p n {t} e = rows_as (name_put t e.kind refl) (a_token kind.Var put.Name p n (var_fits t e))

pub a_con : (p : Place) (n : ℕ) {name : Name} {t : Token} {us : List Token} → IsCon name t → Rows (waits (symbol.One kind.Con put.Name) p n ∷ []) (t ∷ us) (named (name_at t name)) us
a_con p n {t} e = rows_as (name_put t e refl) (a_token kind.Con put.Name p n (con_fits t e))

pub a_word : (w : Word) (p : Place) (n : ℕ) {t : Token} {us : List Token} → IsWord w t → Rows (waits (symbol.One (kind.Word w) put.Nothing) p n ∷ []) (t ∷ us) [] us
a_word w p n {t} e = a_token (kind.Word w) put.Nothing p n (word_fits w t e)

pub a_mark : (m : ℕ) (p : Place) (n : ℕ) {t : Token} {us : List Token} → IsMark m t → Rows (waits (symbol.One (kind.Mark m) put.Nothing) p n ∷ []) (t ∷ us) [] us
a_mark m p n {t} e = a_token (kind.Mark m) put.Nothing p n (mark_fits m t e)

pub a_number : (p : Place) (n : ℕ) {k : ℕ} {t : Token} {us : List Token} → IsNumber k t → Rows (waits (symbol.One kind.Number put.Number) p n ∷ []) (t ∷ us) (node.Number k ∷ []) us
a_number p n {t} e = rows_as (ap (λ k. node.Number (number_in k) ∷ []) e) (a_token kind.Number put.Number p n (number_fits t e))

-- varid*

pub vars_read : (p : Place) (n : ℕ) {ts us : List Token} {ns : List NameAt} → ReadsVars ts ns us → Rows (waits symbol.Vars p n ∷ []) ts ((counted named ns).nodes ++ node.Names (n + (counted named ns).count) ∷ []) us
vars_read p n no_var = rows_as (ap (λ k. node.Names k ∷ []) (none_more n)) (by_nothing symbol.Vars p n refl)
vars_read p n (var_more {t} {name} {names} e h) =
    rows_as (ap (λ ns. ns ++ ((counted named names).nodes ++ node.Names ((n + 1) + (counted named names).count) ∷ [])) (name_put t e.kind refl) ∙ ap (λ k. named (name_at t name) ++ ((counted named names).nodes ++ node.Names k ∷ [])) (counts n (counted named names).count))
    (by_head symbol.Vars p n (if_true (fits kind.Var t) _ _ (var_fits t e)) (vars_read t.place (n + 1) h))
