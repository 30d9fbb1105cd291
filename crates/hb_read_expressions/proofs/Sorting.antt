-- What the sort of a token says of it.
use Rattle.std.proofs.Common.{◌≡◌, ◌≢◌, ℕ, Bool, true, false, refl, ap, ◌∙◌, arith}
use Rattle.std.specs.Prelude.{if◌then◌else◌, ◌==◌}
use Rattle.std.proofs.lemmas.Bool.Decides.{nat_tests}
use Rattle.hb_base.specs.declared.name.Name.{Name}
use Rattle.hb_base.specs.Fixed.{wildcard}
use Rattle.hb_tokens.specs.declared.token.Token.{Token}
use Rattle.hb_tokens.specs.declared.token.TokenKind.{TokenKind}
use Rattle.hb_tokens.specs.declared.token.TokenKind.TheVariants as kinds
use Rattle.hb_tokens.specs.declared.word.Word as words
use Rattle.hb_tokens.specs.declared.word.Word.TheVariants as word
use Rattle.hb_grammar.specs.Tokens.{IsVar, IsCon, IsOp, IsDot, IsWord, IsMark, IsNumber, IsBits}
use Rattle.hb_read_expressions.specs.declared.sort.Sort.{Sort}
use Rattle.hb_read_expressions.specs.declared.sort.Sort.TheVariants as sort
use Rattle.hb_read_expressions.specs.Sorts.{sort_of, word_sort, mark_sort}

-- what a sort says of a token
abbrev pub Means : Sort → Token → Type 0
Means (sort.Variable name) t = IsVar name t
Means (sort.Number k) t = IsNumber k t
Means (sort.Bits width k) t = IsBits width k t
Means (sort.Constructor name) t = IsCon name t
Means (sort.Operator name) t = IsOp name t
Means sort.Dot t = IsDot t
Means sort.Open t = IsMark 40 t
Means sort.Close t = IsMark 41 t
Means sort.Comma t = IsMark 44 t
Means sort.Semicolon t = IsMark 59 t
Means sort.OpenSquare t = IsMark 91 t
Means sort.CloseSquare t = IsMark 93 t
Means sort.Backquote t = IsMark 96 t
Means sort.OpenBrace t = IsMark 123 t
Means sort.CloseBrace t = IsMark 125 t
Means sort.Equals t = IsWord word.Equals t
Means sort.Bar t = IsWord word.Bar t
Means sort.Backslash t = IsWord word.Backslash t
Means sort.RightArrow t = IsWord word.RightArrow t
Means sort.LeftArrow t = IsWord word.LeftArrow t
Means sort.Let t = IsWord word.Let t
Means sort.In t = IsWord word.In t
Means sort.If t = IsWord word.If t
Means sort.Then t = IsWord word.Then t
Means sort.Else t = IsWord word.Else t
Means sort.Case t = IsWord word.Case t
Means sort.Of t = IsWord word.Of t
Means sort.Do t = IsWord word.Do t
Means sort.Where t = IsWord word.Where t
Means sort.Other t = Unit {0}

name_of : (name : Name) → name.0 ≡ 70 → name ≡ wildcard
name_of name e = ap (λ (k : ℕ). let m : Name = record { 0 = k } in m) e

name_means : (name : Name) (t : Token) → t.kind ≡ kinds.VarId name → (b : Bool) → (name.0 == 70) ≡ b → Means (if b then sort.Other else sort.Variable name) t
name_means name t e true f = tt
name_means name t e false f = record { kind = e; named = λ same. let g : name.0 ≡ 70 = ap (λ (m : Name). m.0) same in absurd (grind (arith, nat_tests)) }

word_means : (w : words.Word) (t : Token) → t.kind ≡ kinds.Word w → Means (word_sort w) t
word_means word.Equals t e = e
word_means word.Bar t e = e
word_means word.Backslash t e = e
word_means word.RightArrow t e = e
word_means word.LeftArrow t e = e
word_means word.Let t e = e
word_means word.In t e = e
word_means word.If t e = e
word_means word.Then t e = e
word_means word.Else t e = e
word_means word.Case t e = e
word_means word.Of t e = e
word_means word.Do t e = e
word_means word.Where t e = e
word_means w t e = tt

by_test : (a b : Sort) (t : Token) (c : Bool) → (c ≡ true → Means a t) → (c ≡ false → Means b t) → Means (if c then a else b) t
by_test a b t true f g = f refl
by_test a b t false f g = g refl

mark_is : (byte k : ℕ) (t : Token) → t.kind ≡ kinds.Mark byte → (byte == k) ≡ true → t.kind ≡ kinds.Mark k
mark_is byte k t e f = let g : byte ≡ k = grind (arith, nat_tests) in e ∙ ap kinds.Mark g

mark_means : (byte : ℕ) (t : Token) → t.kind ≡ kinds.Mark byte → Means (mark_sort byte) t
mark_means byte t e =
    by_test sort.Open _ t (byte == 40) (mark_is byte 40 t e)
    (λ a. by_test sort.Close _ t (byte == 41) (mark_is byte 41 t e)
    (λ b. by_test sort.Comma _ t (byte == 44) (mark_is byte 44 t e)
    (λ c. by_test sort.Semicolon _ t (byte == 59) (mark_is byte 59 t e)
    (λ d. by_test sort.OpenSquare _ t (byte == 91) (mark_is byte 91 t e)
    (λ f. by_test sort.CloseSquare _ t (byte == 93) (mark_is byte 93 t e)
    (λ g. by_test sort.Backquote _ t (byte == 96) (mark_is byte 96 t e)
    (λ h. by_test sort.OpenBrace _ t (byte == 123) (mark_is byte 123 t e)
    (λ i. by_test sort.CloseBrace sort.Other t (byte == 125) (mark_is byte 125 t e) (λ h. tt)))))))))

kind_means : (kind : TokenKind) (t : Token) → t.kind ≡ kind → Means (sort_of kind) t
kind_means (kinds.VarId name) t e = name_means name t e (name.0 == 70) refl
kind_means (kinds.ConId name) t e = e
kind_means (kinds.Op name) t e = e
kind_means (kinds.Word w) t e = word_means w t e
kind_means (kinds.Number k) t e = e
kind_means (kinds.Bits width k) t e = e
kind_means (kinds.Mark byte) t e = mark_means byte t e
kind_means kinds.Dot t e = e
kind_means kinds.End t e = tt

-- a token is what its sort says
pub means : (t : Token) → Means (sort_of t.kind) t
means t = kind_means t.kind t refl

-- a name's sort
pub sort_var : {name : Name} {t : Token} → IsVar name t → sort_of t.kind ≡ sort.Variable name
sort_var {name = name} m = ap sort_of m.kind ∙ not_wild name m.named (name.0 == 70) refl where
  not_wild : (name : Name) → name ≢ wildcard → (b : Bool) → (name.0 == 70) ≡ b → (if b then sort.Other else sort.Variable name) ≡ sort.Variable name
  not_wild name h true f = absurd (h (name_of name (grind (arith, nat_tests))))
  not_wild name h false f = refl
