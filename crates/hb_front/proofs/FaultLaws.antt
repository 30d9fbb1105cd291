-- A fault of the text, of the layout and of the grammar is the first fault of all three.
use Rattle.std.proofs.Common.{ℕ, List}
use Rattle.hb_base.specs.declared.refusal.Fault.{Fault}
use Rattle.hb_base.specs.declared.refusal.Fault.TheVariants.{Refused, Memory}
use Rattle.hb_tokens.specs.declared.token.Token.{Token}
use Rattle.hb_base.specs.Faults.{IfRefused}
use Rattle.hb_lex.specs.Tokens as lexical
use Rattle.hb_layout.specs.Laid as layout
use Rattle.hb_parser.specs.Parsing as parsing
use Rattle.hb_front.specs.Front.{SpellsTokens, LaysOut, LayingFault, in_text, in_layout, FirstFault, in_laying, in_grammar}

pub text_fault : (old : List (List ℕ)) (bytes : List ℕ) (fault : Fault) → IfRefused (lexical.FirstFault bytes) fault → IfRefused (LayingFault old bytes) fault
text_fault old bytes (Refused refusal) first = in_text first
text_fault old bytes Memory first = tt

pub layout_fault : (old : List (List ℕ)) (bytes : List ℕ) (names : List (List ℕ)) (tokens : List Token) (fault : Fault) → SpellsTokens old bytes names tokens → IfRefused (layout.FirstFault tokens) fault → IfRefused (LayingFault old bytes) fault
layout_fault old bytes names tokens (Refused refusal) found first = in_layout found first
layout_fault old bytes names tokens Memory found first = tt

pub laying_fault : (old : List (List ℕ)) (bytes : List ℕ) (fault : Fault) → IfRefused (LayingFault old bytes) fault → IfRefused (FirstFault old bytes) fault
laying_fault old bytes (Refused refusal) first = in_laying first
laying_fault old bytes Memory first = tt

pub grammar_fault : (old : List (List ℕ)) (bytes : List ℕ) (names : List (List ℕ)) (laid : List Token) (fault : Fault) → LaysOut old bytes names laid → IfRefused (parsing.FirstFault laid) fault → IfRefused (FirstFault old bytes) fault
grammar_fault old bytes names laid (Refused refusal) found first = in_grammar found first
grammar_fault old bytes names laid Memory found first = tt
