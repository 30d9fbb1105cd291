-- Which tokens a list of tokens is laid out as, and where it is refused.
use Rattle.std.specs.Prelude.{◌≡◌, ℕ, ◌+◌, Bool, ◌&&◌, ◌||◌, not, ◌==◌, nat_lt, List, [], ◌∷◌, ◌++◌, map, codes, Option, Some, None, is_some, if◌then◌else◌}
use Rattle.hb_base.specs.declared.place.Place.{Place}
use Rattle.hb_base.specs.declared.refusal.Refusal.{Refusal}
use Rattle.hb_base.specs.declared.refusal.Code.TheVariants.{E03, E05, E29}
use Rattle.hb_base.specs.declared.limits.TheConstants.{OPEN_BRACKETS}
use Rattle.hb_tokens.specs.declared.token.Token.{Token}
use Rattle.hb_tokens.specs.declared.token.TokenKind.TheVariants as kind
use Rattle.hb_layout.specs.declared.entry.Opener.{Opener}
use Rattle.hb_layout.specs.declared.entry.Opener.TheVariants.{Other}
use Rattle.hb_layout.specs.Roles.{role_of, owed_after}
use Rattle.hb_layout.specs.Stacks.{Stack, open_count}
use Rattle.hb_layout.specs.Rules.{Move, moved, is_end}
use Rattle.hb_layout.specs.Profile.{first_left_out}

-- an inserted token has the place of the token before which it is inserted
abbrev pub token_at : Place → ℕ → Token
token_at place m = record { place = place; kind = kind.Mark m }

abbrev pub inserted : Place → List ℕ → List Token
inserted place marks = map (token_at place) marks

-- What is laid out of tokens: what is given, and the first place at which more than 200 brackets and blocks are
-- open, if there is one; or the place of the first token that no rule lets stand.
pub data Layout : Type 0 where
  given : List Token → Option Place → Layout
  unclosed : Place → Layout

abbrev pub first_of : Option Place → Option Place → Option Place
first_of None q = q
first_of (Some p) q = Some p

-- tokens given, and perhaps too deep a place, before what is laid out
abbrev pub preceded : List Token → Option Place → Layout → Layout
preceded ts deep (given us q) = given (ts ++ us) (first_of deep q)
preceded ts deep (unclosed p) = unclosed p

-- Too many are open: with the block that is owed, which is open for a moment if it is empty, or after the token. So many
-- are open before and after it.
abbrev pub is_deep : Option Opener → ℕ → ℕ → Bool
is_deep owed before after = (is_some owed && nat_lt OPEN_BRACKETS (before + 1)) || nat_lt OPEN_BRACKETS after

abbrev pub deep_at : Bool → Place → Option Place
deep_at deep place = if deep then Some place else None

-- the token is on another line than the one before it; the end is the first of no line
abbrev pub is_first : ℕ → Token → Bool
is_first line t = not (t.place.line == line) && not (is_end (role_of t.kind))

abbrev pub move_of : Option Opener → ℕ → Stack → Token → Move
move_of owed line s t = moved owed (is_first line t) t.place.col (role_of t.kind) s

-- with the move of a token, and with what is laid out of the tokens after it
abbrev pub laid_after : Option Opener → Stack → Token → Move → (Stack → Layout) → Layout
laid_after owed s t None rest = unclosed t.place
laid_after owed s t (Some m) rest = preceded (inserted t.place m.0 ++ t ∷ []) (deep_at (is_deep owed (open_count s) (open_count m.1)) t.place) (rest m.1)

-- What is laid out of tokens, with the block that is owed, the line of the token before, and the stack.
unfoldable pub laid : Option Opener → ℕ → Stack → List Token → Layout
laid owed line s [] = given [] None
laid owed line s (t ∷ ts) =
    laid_after owed s t (move_of owed line s t) (λ (after : Stack). laid (owed_after (role_of t.kind)) t.place.line after ts)

-- The start of the text opens a block.
unfoldable pub laid_out : List Token → Layout
laid_out ts = laid (Some Other) 0 [] ts

-- The tokens are laid out as these: nothing that is left out occurs, each token has its rule, and never are more than
-- 200 brackets and blocks open.
pub record Laid (ts us : List Token) : Type 0 where
  pub profile : first_left_out ts ≡ None
  pub rules : laid_out ts ≡ given us None

-- The first fault: what is left out comes before a token without its rule, and that before too many open.
pub data FirstFault (ts : List Token) : Refusal → Type 0 where
  left_out : (place : Place) (word : List ℕ) → first_left_out ts ≡ Some (place, word) → FirstFault ts (record { code = E05; place = place; detail = word })
  no_rule : (place : Place) → first_left_out ts ≡ None → laid_out ts ≡ unclosed place → FirstFault ts (record { code = E03; place = place; detail = codes "-" })
  too_deep : (place : Place) (us : List Token) → first_left_out ts ≡ None → laid_out ts ≡ given us (Some place) → FirstFault ts (record { code = E29; place = place; detail = codes "brackets" })
