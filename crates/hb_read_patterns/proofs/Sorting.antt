-- What the sort of a token says of it.
use Rattle.std.proofs.Common.{◌≡◌, ◌≢◌, ℕ, Bool, true, false, refl, ap, ◌∙◌, arith}
use Rattle.std.specs.Prelude.{if◌then◌else◌, ◌==◌}
use Rattle.std.proofs.lemmas.Bool.Decides.{nat_tests}
use Rattle.hb_base.specs.declared.name.Name.{Name}
use Rattle.hb_base.specs.Fixed.{wildcard}
use Rattle.hb_tokens.specs.declared.token.Token.{Token}
use Rattle.hb_tokens.specs.declared.token.TokenKind.{TokenKind}
use Rattle.hb_tokens.specs.declared.token.TokenKind.TheVariants as kinds
use Rattle.hb_tokens.specs.declared.word.Word as words
use Rattle.hb_tokens.specs.declared.word.Word.TheVariants as word
use Rattle.hb_grammar.specs.Tokens.{IsVar, IsWildcard, IsCon, IsWord, IsNumber, IsBits, IsOpen, IsClose, IsComma, IsOpenSquare, IsCloseSquare}
use Rattle.hb_read_patterns.specs.declared.sort.Sort.{Sort}
use Rattle.hb_read_patterns.specs.declared.sort.Sort.TheVariants.{Variable, Wildcard, Number, Bits, Constructor, Open, Close, OpenSquare, CloseSquare, Comma, Bar, Equals, Other}
use Rattle.hb_read_patterns.specs.Sorts.{sort_of, word_sort, mark_sort}

-- what a sort says of a token
abbrev pub Means : Sort → Token → Type 0
Means (Variable name) t = IsVar name t
Means Wildcard t = IsWildcard t
Means (Number k) t = IsNumber k t
Means (Bits width k) t = IsBits width k t
Means (Constructor name) t = IsCon name t
Means Open t = IsOpen t
Means Close t = IsClose t
Means OpenSquare t = IsOpenSquare t
Means CloseSquare t = IsCloseSquare t
Means Comma t = IsComma t
Means Bar t = IsWord word.Bar t
Means Equals t = IsWord word.Equals t
Means Other t = Unit {0}

name_of : (n : ℕ) (name : Name) → name.0 ≡ 70 → name ≡ wildcard
name_of n name e = ap (λ (k : ℕ). let m : Name = record { 0 = k } in m) e

name_means : (name : Name) (t : Token) → t.kind ≡ kinds.VarId name → (b : Bool) → (name.0 == 70) ≡ b → Means (if b then Wildcard else Variable name) t
name_means name t e true f = e ∙ ap kinds.VarId (name_of 0 name (grind (arith, nat_tests)))
name_means name t e false f = record { kind = e; named = λ same. let g : name.0 ≡ 70 = ap (λ (m : Name). m.0) same in absurd (grind (arith, nat_tests)) }

word_means : (w : words.Word) (t : Token) → t.kind ≡ kinds.Word w → Means (word_sort w) t
word_means word.Bar t e = e
word_means word.Equals t e = e
word_means w t e = tt

by_test : (a b : Sort) (t : Token) (c : Bool) → (c ≡ true → Means a t) → (c ≡ false → Means b t) → Means (if c then a else b) t
by_test a b t true f g = f refl
by_test a b t false f g = g refl

mark_is : (byte k : ℕ) (t : Token) → t.kind ≡ kinds.Mark byte → (byte == k) ≡ true → t.kind ≡ kinds.Mark k
mark_is byte k t e f = let g : byte ≡ k = grind (arith, nat_tests) in e ∙ ap kinds.Mark g

mark_means : (byte : ℕ) (t : Token) → t.kind ≡ kinds.Mark byte → Means (mark_sort byte) t
mark_means byte t e =
    by_test Open _ t (byte == 40) (mark_is byte 40 t e)
    (λ a. by_test Close _ t (byte == 41) (mark_is byte 41 t e)
    (λ b. by_test Comma _ t (byte == 44) (mark_is byte 44 t e)
    (λ c. by_test OpenSquare _ t (byte == 91) (mark_is byte 91 t e)
    (λ d. by_test CloseSquare Other t (byte == 93) (mark_is byte 93 t e) (λ h. tt)))))

kind_means : (kind : TokenKind) (t : Token) → t.kind ≡ kind → Means (sort_of kind) t
kind_means (kinds.VarId name) t e = name_means name t e (name.0 == 70) refl
kind_means (kinds.ConId name) t e = e
kind_means (kinds.Op name) t e = tt
kind_means (kinds.Word w) t e = word_means w t e
kind_means (kinds.Number k) t e = e
kind_means (kinds.Bits width k) t e = e
kind_means (kinds.Mark byte) t e = mark_means byte t e
kind_means kinds.Dot t e = tt
kind_means kinds.End t e = tt

pub means : (t : Token) → Means (sort_of t.kind) t
means t = kind_means t.kind t refl

pub sort_var : (name : Name) (t : Token) → IsVar name t → sort_of t.kind ≡ Variable name
sort_var name t m = ap sort_of m.kind ∙ not_wild name m.named (name.0 == 70) refl where
  not_wild : (name : Name) → name ≢ wildcard → (b : Bool) → (name.0 == 70) ≡ b → (if b then Wildcard else Variable name) ≡ Variable name
  not_wild name h true f = absurd (h (name_of 0 name (grind (arith, nat_tests))))
  not_wild name h false f = refl

-- a token that means a sort is of that sort
pub sort_is : (sort : Sort) (t : Token) → Means sort t → sort ≢ Other → sort_of t.kind ≡ sort
sort_is (Variable name) t m h = sort_var name t m
sort_is Wildcard t m h = ap sort_of m
sort_is (Number k) t m h = ap sort_of m
sort_is (Bits width k) t m h = ap sort_of m
sort_is (Constructor name) t m h = ap sort_of m
sort_is Open t m h = ap sort_of m
sort_is Close t m h = ap sort_of m
sort_is OpenSquare t m h = ap sort_of m
sort_is CloseSquare t m h = ap sort_of m
sort_is Comma t m h = ap sort_of m
sort_is Bar t m h = ap sort_of m
sort_is Equals t m h = ap sort_of m
sort_is Other t m h = absurd (h refl)
