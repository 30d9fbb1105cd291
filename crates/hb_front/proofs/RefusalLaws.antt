-- A source that breaks a rule is refused for the first one that it breaks.
use Rattle.std.proofs.Common.{◌≡◌, ℕ, List, sym, subst}
use Rattle.std.specs.Prelude.{Err}
use Rattle.hb_base.specs.declared.refusal.Refusal.{Refusal}
use Rattle.hb_base.specs.declared.refusal.Fault.{Fault}
use Rattle.hb_base.specs.declared.refusal.Fault.TheVariants.{Refused, Memory}
use Rattle.hb_tokens.specs.declared.token.Token.{Token}
use Rattle.hb_base.specs.Faults.{IfRefused}
use Rattle.hb_lex.specs.Answers.{IsThisRefusal}
use Rattle.hb_lex.specs.Tokens as lexical
use Rattle.hb_layout.specs.Laid as layout
use Rattle.hb_parser.specs.Parsing as parsing
use Rattle.hb_front.specs.Front.{SpellsTokens, LaysOut, LayingFault, in_text, in_layout, FirstFault, in_laying, in_grammar}

-- the answer is this refusal, or want of memory
abbrev pub IsIt : Refusal → Fault → Type 0
IsIt refusal f = IfRefused (λ other. other ≡ refusal) f

-- no step gives an answer after a fault: what the fault is tells that it is the first one
pub memory_is : {f : Fault} (refusal : Refusal) → f ≡ Memory → IsIt refusal f
memory_is {f} refusal e = subst (IsIt refusal) (sym e) tt

pub this_is : (refusal : Refusal) (f : Fault) → IsThisRefusal refusal (Err f) → IsIt refusal f
this_is refusal (Refused other) e = e
this_is refusal Memory e = tt

-- where the text is refused
pub text_refused : {old : List (List ℕ)} {bytes : List ℕ} {f : Fault} → ((refusal : Refusal) → lexical.FirstFault bytes refusal → IsIt refusal f) → ((table : List (List ℕ)) (ts : List Token) → SpellsTokens old bytes table ts → f ≡ Memory) → (refusal : Refusal) → LayingFault old bytes refusal → IsIt refusal f
text_refused {f} refused only refusal (in_text first) = refused refusal first
text_refused {f} refused only refusal (in_layout {names} {tokens} spelled first) = memory_is refusal (only names tokens spelled)

-- where the text is read, and P tells what the layout's answer is for a refusal
pub layout_refused : {old : List (List ℕ)} {bytes : List ℕ} {names : List (List ℕ)} {tokens : List Token} (P : Refusal → Type 0) → ((refusal : Refusal) → lexical.FirstFault bytes refusal → ⊥) → ((table : List (List ℕ)) (ts : List Token) → SpellsTokens old bytes table ts → (tokens ≡ ts) × (names ≡ table)) → ((refusal : Refusal) → layout.FirstFault tokens refusal → P refusal) → (refusal : Refusal) → LayingFault old bytes refusal → P refusal
layout_refused P no_fault only refused refusal (in_text first) = absurd (no_fault refusal first)
layout_refused P no_fault only refused refusal (in_layout {names} {tokens = ts} spelled first) =
    refused refusal (subst (λ ts. layout.FirstFault ts refusal) (sym (only names ts spelled).0) first)

-- where the tokens are not laid out
pub laying_refused : {old : List (List ℕ)} {bytes : List ℕ} {f : Fault} → ((refusal : Refusal) → LayingFault old bytes refusal → IsIt refusal f) → ((table : List (List ℕ)) (ts : List Token) → LaysOut old bytes table ts → f ≡ Memory) → (refusal : Refusal) → FirstFault old bytes refusal → IsIt refusal f
laying_refused refused only refusal (in_laying first) = refused refusal first
laying_refused refused only refusal (in_grammar {names} {laid} laid_out first) = memory_is refusal (only names laid laid_out)

-- where they are laid out, and P tells what the parser's answer is for a refusal
pub grammar_refused : {old : List (List ℕ)} {bytes : List ℕ} {names : List (List ℕ)} {laid : List Token} (P : Refusal → Type 0) → ((refusal : Refusal) → LayingFault old bytes refusal → ⊥) → ((table : List (List ℕ)) (ts : List Token) → LaysOut old bytes table ts → (laid ≡ ts) × (names ≡ table)) → ((refusal : Refusal) → parsing.FirstFault laid refusal → P refusal) → (refusal : Refusal) → FirstFault old bytes refusal → P refusal
grammar_refused P no_fault only refused refusal (in_laying first) = absurd (no_fault refusal first)
grammar_refused P no_fault only refused refusal (in_grammar {names} {laid = ts} laid_out first) =
    refused refusal (subst (λ ts. parsing.FirstFault ts refusal) (sym (only names ts laid_out).0) first)
