-- What a piece adds to the tokens read so far.
use Rattle.std.specs.Prelude.{◌≡◌, ℕ, Bool, true, not, List, ◌++◌, ◌+◌, ◌≤◌, length}
use Rattle.std.specs.List.{list_all}
use Rattle.hb_base.specs.Names.{with_texts}
use Rattle.hb_base.specs.declared.place.Place.{Place}
use Rattle.hb_base.specs.declared.refusal.Refusal.{Refusal}
use Rattle.hb_base.specs.declared.refusal.Code.TheVariants.{E02}
use Rattle.hb_tokens.specs.declared.token.Token.{Token}
use Rattle.hb_lex.specs.Reading.{is_end}
use Rattle.hb_lex.specs.declared.piece.Wrong.{Wrong}
use Rattle.hb_lex.specs.Bytes.{place_after}
use Rattle.hb_lex.specs.Tokens.{Lexeme, Answer, Stops, after_lexemes, Reads, detail_of}
use Rattle.hb_lex.specs.Numbering.{AreNumbered, texts_of}

-- from one place with its names and tokens to a later one: the lexemes between
pub record Took (names names' : List (List ℕ)) (ts ts' : List Token) (glued glued' : Bool) (place place' : Place) (bytes bytes' : List ℕ) : Type 0 where
  pub lexemes : List Lexeme
  pub added : List Token
  pub tokens : ts' ≡ ts ++ added
  pub numbered : AreNumbered names' lexemes added
  pub inner : list_all (λ (l : Lexeme). not (is_end l.shape)) lexemes ≡ true
  pub here : place_after place bytes ≡ place_after place' bytes'
  pub few : length added + length bytes' ≤ length bytes
  pub table : names' ≡ with_texts names (texts_of lexemes)
  pub reads : (answer : Answer) → Reads glued' place' bytes' answer → Reads glued place bytes (after_lexemes lexemes answer)

-- the refusal where no token can be read at this place
pub record IsStop (glued : Bool) (place : Place) (bytes : List ℕ) (refusal : Refusal) : Type 0 where
  pub wrong : Wrong
  pub is : refusal ≡ record { code = E02; place = place; detail = detail_of wrong }
  pub stops : Reads glued place bytes (Stops place wrong)
