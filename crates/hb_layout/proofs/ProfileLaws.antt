-- The first token at which something is left out, token by token.
use Rattle.std.proofs.Common.{◌≡◌, ℕ, suc, ◌+◌, ◌<◌, List, [], length, drop, Some, None, refl, sym, ap, ◌∙◌, slice_index_or, arith}
use Rattle.std.proofs.Math.Seq.{drop-cons}
use Rattle.hb_tokens.specs.declared.token.Token.{Token}
use Rattle.hb_tokens.specs.declared.token.TokenKind.{TokenKind}
use Rattle.hb_tokens.specs.declared.token.TokenKind.TheVariants as kind
use Rattle.hb_layout.specs.Profile.{left_out_after, left_out_kind, left_out_or, first_left_out}

pub left_out_from_start : (ts : List Token) → first_left_out ts ≡ left_out_after kind.End ts
unfolding first_left_out
left_out_from_start ts = refl

at : (before : TokenKind) (ts : List Token) (i : ℕ) (d : Token) → i < length ts → left_out_after before (drop i ts) ≡ left_out_or (slice_index_or ts i d).place (left_out_kind before (slice_index_or ts i d).kind) (left_out_after (slice_index_or ts i d).kind (drop (i + 1) ts))
unfolding left_out_after
at before ts i d h = let e : i + 1 ≡ suc i = omega arith in rw (e, drop-cons ts i d h) refl

pub found_at : (before : TokenKind) (ts : List Token) (i : ℕ) (d : Token) (word : List ℕ) → i < length ts → Some word ≡ left_out_kind before (slice_index_or ts i d).kind → left_out_after before (drop i ts) ≡ Some ((slice_index_or ts i d).place, word)
found_at before ts i d word h e = at before ts i d h ∙ ap (λ o. left_out_or (slice_index_or ts i d).place o (left_out_after (slice_index_or ts i d).kind (drop (i + 1) ts))) (sym e)

pub not_at : (before : TokenKind) (ts : List Token) (i : ℕ) (d : Token) → i < length ts → None ≡ left_out_kind before (slice_index_or ts i d).kind → left_out_after before (drop i ts) ≡ left_out_after (slice_index_or ts i d).kind (drop (i + 1) ts)
not_at before ts i d h e = at before ts i d h ∙ ap (λ o. left_out_or (slice_index_or ts i d).place o (left_out_after (slice_index_or ts i d).kind (drop (i + 1) ts))) (sym e)

pub not_in_nothing : (before : TokenKind) (ts : List Token) → ts ≡ [] → left_out_after before ts ≡ None
unfolding left_out_after
not_in_nothing before ts e = rw e refl
