-- From the bytes of a source to its laid-out tokens and to its program, over a table of names that grows.
use Rattle.std.specs.Prelude.{◌≡◌, ℕ, List}
use Rattle.hb_base.specs.Names.{with_texts}
use Rattle.hb_base.specs.declared.refusal.Refusal.{Refusal}
use Rattle.hb_tokens.specs.declared.token.Token.{Token}
use Rattle.hb_lex.specs.Tokens.{Lexeme, Spells}
use Rattle.hb_lex.specs.Tokens as lexical
use Rattle.hb_lex.specs.Numbering.{AreNumbered, texts_of}
use Rattle.hb_layout.specs.Laid as layout
use Rattle.hb_tree.specs.declared.declaration.Program.{Program}
use Rattle.hb_parser.specs.Parsing.{Parses}
use Rattle.hb_parser.specs.Parsing as parsing

-- the bytes spell these tokens: their names are numbered by a table, which has the new texts behind its old ones
pub record SpellsTokens (old : List (List ℕ)) (bytes : List ℕ) (names : List (List ℕ)) (tokens : List Token) : Type 0 where
  pub lexemes : List Lexeme
  pub spells : Spells bytes lexemes
  pub table : names ≡ with_texts old (texts_of lexemes)
  pub numbered : AreNumbered names lexemes tokens

-- the bytes spell tokens that are laid out so
pub record LaysOut (old : List (List ℕ)) (bytes : List ℕ) (names : List (List ℕ)) (laid : List Token) : Type 0 where
  pub tokens : List Token
  pub spelled : SpellsTokens old bytes names tokens
  pub rules : layout.Laid tokens laid

-- the first rule that a source breaks: the bytes spell no tokens, or their tokens cannot be laid out
pub data LayingFault (old : List (List ℕ)) (bytes : List ℕ) : Refusal → Type 0 where
  in_text : {refusal : Refusal} → lexical.FirstFault bytes refusal → LayingFault old bytes refusal
  in_layout : {refusal : Refusal} {names : List (List ℕ)} {tokens : List Token} → SpellsTokens old bytes names tokens → layout.FirstFault tokens refusal → LayingFault old bytes refusal

-- the bytes spell this program, whose names are numbered by a table
pub record SpellsProgram (old : List (List ℕ)) (bytes : List ℕ) (names : List (List ℕ)) (program : Program) : Type 0 where
  pub laid : List Token
  pub lays_out : LaysOut old bytes names laid
  pub parses : Parses laid program

-- the first rule that a source breaks: its text or its layout does, or the grammar or the depth of what is laid out
pub data FirstFault (old : List (List ℕ)) (bytes : List ℕ) : Refusal → Type 0 where
  in_laying : {refusal : Refusal} → LayingFault old bytes refusal → FirstFault old bytes refusal
  in_grammar : {refusal : Refusal} {names : List (List ℕ)} {laid : List Token} → LaysOut old bytes names laid → parsing.FirstFault laid refusal → FirstFault old bytes refusal
