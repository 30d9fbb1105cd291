-- A source has one first fault at most, over a table whose texts are distinct.
use Rattle.std.proofs.Common.{◌≡◌, ℕ, Bool, true, false, List, [], ◌∷◌, ◌++◌, cond, refl, sym, subst}
use Rattle.std.specs.List.{IsDistinct, AllByRecursion, list_any}
use Rattle.std.specs.Prelude.{◌||◌}
use Rattle.std.specs.Str.{bytes_eq}
use Rattle.std.proofs.lemmas.Slice.Eq.{bytes_eq-Decides}
use Rattle.hb_base.specs.Names.{AreDistinct, with_text, with_texts}
use Rattle.hb_base.specs.declared.refusal.Refusal.{Refusal}
use Rattle.hb_tokens.specs.declared.token.Token.{Token}
use Rattle.hb_tree.specs.declared.declaration.Program.{Program}
use Rattle.hb_grammar.specs.Declarations.{Derives}
use Rattle.hb_lex.specs.Tokens as lexical
use Rattle.hb_lex.specs.Numbering.{texts_of}
use Rattle.hb_lex.proofs.SourceLaws.{no_fault, one_fault}
use Rattle.hb_layout.specs.Laid as layout
use Rattle.hb_layout.proofs.Laws.{laid_alone, laid_has_no_fault}
use Rattle.hb_layout.proofs.Laws as layouts
use Rattle.hb_parser.specs.Parsing as parsing
use Rattle.hb_parser.proofs.ParsingLaws as programs
use Rattle.hb_front.specs.Front.{SpellsTokens, LaysOut, LayingFault, in_text, in_layout, SpellsProgram, FirstFault, in_laying, in_grammar}
use Rattle.hb_front.proofs.OnceLaws.{spelled_once}

-- a table of distinct texts stays one

not_both : {b : Bool} → b ≡ true → b ≡ false → ⊥
not_both e d = cc

turned : (a b : List ℕ) → bytes_eq a b ≡ false → bytes_eq b a ≡ false
turned a b e = by (bytes_eq b a) refl
  where
    by : (c : Bool) → bytes_eq b a ≡ c → c ≡ false
    by true d = absurd (not_both ((bytes_eq-Decides a b).1 (sym ((bytes_eq-Decides b a).0 d))) e)
    by false d = refl

left_false : (a b : Bool) → (a || b) ≡ false → a ≡ false
left_false true b e = e
left_false false b e = refl

right_false : (a b : Bool) → (a || b) ≡ false → b ≡ false
right_false true b e = absurd (not_both refl e)
right_false false b e = e

apart_more : (t text : List ℕ) (texts : List (List ℕ)) → bytes_eq t text ≡ false → AllByRecursion (λ u. bytes_eq t u ≡ false) texts → AllByRecursion (λ u. bytes_eq t u ≡ false) (texts ++ text ∷ [])
apart_more t text [] e apart = (e, tt)
apart_more t text (u ∷ texts) e apart = (apart.0, apart_more t text texts e apart.1)

distinct_more : (texts : List (List ℕ)) (text : List ℕ) → AreDistinct texts → list_any (bytes_eq text) texts ≡ false → AreDistinct (texts ++ text ∷ [])
unfolding IsDistinct
distinct_more [] text distinct e = (tt, tt)
distinct_more (t ∷ texts) text distinct e =
    (apart_more t text texts (turned text t (left_false (bytes_eq text t) (list_any (bytes_eq text) texts) e)) distinct.0, distinct_more texts text distinct.1 (right_false (bytes_eq text t) (list_any (bytes_eq text) texts) e))

text_distinct : (table : List (List ℕ)) (text : List ℕ) → AreDistinct table → AreDistinct (with_text table text)
text_distinct table text distinct = by (list_any (bytes_eq text) table) refl
  where
    by : (b : Bool) → list_any (bytes_eq text) table ≡ b → AreDistinct (cond b table (table ++ text ∷ []))
    by true e = distinct
    by false e = distinct_more table text distinct e

pub texts_distinct : (texts table : List (List ℕ)) → AreDistinct table → AreDistinct (with_texts table texts)
unfolding with_texts
texts_distinct [] table distinct = distinct
texts_distinct (text ∷ texts) table distinct = texts_distinct texts (with_text table text) (text_distinct table text distinct)

-- so bytes spell one list of tokens, and it is laid out once

spelled_alone : {old : List (List ℕ)} {bytes : List ℕ} {names table : List (List ℕ)} {ts us : List Token} → AreDistinct old → SpellsTokens old bytes names ts → SpellsTokens old bytes table us → ts ≡ us
spelled_alone {old} distinct a b = (spelled_once (subst AreDistinct (sym a.table) (texts_distinct (texts_of a.lexemes) old distinct)) a b).0

tables_alone : {old : List (List ℕ)} {bytes : List ℕ} {names table : List (List ℕ)} {ts us : List Token} → AreDistinct old → SpellsTokens old bytes names ts → SpellsTokens old bytes table us → names ≡ table
tables_alone {old} distinct a b = (spelled_once (subst AreDistinct (sym a.table) (texts_distinct (texts_of a.lexemes) old distinct)) a b).1

laid_out_alone : {old : List (List ℕ)} {bytes : List ℕ} {names table : List (List ℕ)} {ts us : List Token} → AreDistinct old → LaysOut old bytes names ts → LaysOut old bytes table us → ts ≡ us
laid_out_alone {ts} {us} distinct a b =
    laid_alone b.tokens ts us (subst (λ xs. layout.Laid xs ts) (spelled_alone distinct a.spelled b.spelled) a.rules) b.rules

laid_no_fault : {old : List (List ℕ)} {bytes : List ℕ} {names : List (List ℕ)} {laid : List Token} → AreDistinct old → LaysOut old bytes names laid → (refusal : Refusal) → LayingFault old bytes refusal → ⊥
laid_no_fault {bytes} distinct a refusal (in_text first) = no_fault bytes a.spelled.lexemes refusal a.spelled.spells first
laid_no_fault {laid} distinct a refusal (in_layout {tokens} spelled first) =
    laid_has_no_fault a.tokens laid refusal a.rules (subst (λ ts. layout.FirstFault ts refusal) (spelled_alone distinct spelled a.spelled) first)

pub laying_fault_alone : {old : List (List ℕ)} {bytes : List ℕ} {a b : Refusal} → AreDistinct old → LayingFault old bytes a → LayingFault old bytes b → a ≡ b
laying_fault_alone {bytes} {a} {b} distinct (in_text first) (in_text second) = one_fault bytes a b first second
laying_fault_alone {bytes} {a} {b} distinct (in_text first) (in_layout spelled second) = absurd (no_fault bytes spelled.lexemes a spelled.spells first)
laying_fault_alone {bytes} {a} {b} distinct (in_layout spelled first) (in_text second) = absurd (no_fault bytes spelled.lexemes b spelled.spells second)
laying_fault_alone {a} {b} distinct (in_layout {tokens} one first) (in_layout {tokens = others} two second) =
    layouts.fault_alone others a b (subst (λ ts. layout.FirstFault ts a) (spelled_alone distinct one two) first) second

-- a source has one first fault at most
pub first_fault_alone : {old : List (List ℕ)} {bytes : List ℕ} {a b : Refusal} → AreDistinct old → FirstFault old bytes a → FirstFault old bytes b → a ≡ b
first_fault_alone distinct (in_laying first) (in_laying second) = laying_fault_alone distinct first second
first_fault_alone {a} distinct (in_laying first) (in_grammar laid second) = absurd (laid_no_fault distinct laid a first)
first_fault_alone {b} distinct (in_grammar laid first) (in_laying second) = absurd (laid_no_fault distinct laid b second)
first_fault_alone {a} distinct (in_grammar one first) (in_grammar two second) =
    programs.fault_alone (subst (λ ts. parsing.FirstFault ts a) (laid_out_alone distinct one two) first) second

-- a source is one program at most, over one table
pub program_once : {old : List (List ℕ)} {bytes : List ℕ} {names table : List (List ℕ)} {p q : Program} → AreDistinct old → SpellsProgram old bytes names p → SpellsProgram old bytes table q → (p ≡ q) × (names ≡ table)
program_once {p} distinct a b =
    let same = laid_out_alone distinct a.lays_out b.lays_out in
    (programs.program_alone (subst (λ ts. Derives ts p) same a.parses.derives) b.parses.derives, tables_alone distinct a.lays_out.spelled b.lays_out.spelled)

-- a source is no program and refused at once
pub fault_excludes : {old : List (List ℕ)} {bytes : List ℕ} {names : List (List ℕ)} {p : Program} {refusal : Refusal} → AreDistinct old → FirstFault old bytes refusal → SpellsProgram old bytes names p → ⊥
fault_excludes {refusal} distinct (in_laying first) a = laid_no_fault distinct a.lays_out refusal first
fault_excludes {refusal} distinct (in_grammar laid first) a =
    programs.parsed_no_fault a.parses refusal (subst (λ ts. parsing.FirstFault ts refusal) (laid_out_alone distinct laid a.lays_out) first)
