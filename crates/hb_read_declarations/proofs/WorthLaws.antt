-- What a token is that is worth something, and the other way round.
use Rattle.std.proofs.Common.{◌≡◌, ◌≢◌, ℕ, zero, suc, ◌+◌, ◌≤◌, Bool, true, false, cond, List, [], ◌∷◌, Some, None, refl, sym, ap, subst, ◌∙◌, arith}
use Rattle.std.specs.Prelude.{◌==◌, nat_le}
use Rattle.std.proofs.lemmas.Bool.Decides.{nat_tests}
use Rattle.hb_base.specs.declared.name.Name.{Name}
use Rattle.hb_base.specs.declared.place.Place.{Place}
use Rattle.hb_base.specs.Fixed.{wildcard}
use Rattle.hb_tokens.specs.declared.token.Token.{Token}
use Rattle.hb_tokens.specs.declared.token.TokenKind.{TokenKind}
use Rattle.hb_tokens.specs.declared.token.TokenKind.TheVariants.{VarId, ConId, Op, Word as AWord, Number, Bits, Mark, End}
use Rattle.hb_tokens.specs.declared.word.Word.{Word}
use Rattle.hb_tokens.specs.declared.word.Word.TheVariants as word
use Rattle.hb_tree.specs.declared.types.NameAt.{NameAt}
use Rattle.hb_grammar.specs.Tokens.{IsVar, IsCon, IsOp, IsWord, IsNumber, IsBits, IsMark}
use Rattle.hb_read_declarations.specs.Codes.{word_code, kind_code, code, or, member}
use Rattle.hb_read_declarations.specs.Worths.{at_place, kind_var, var, kind_con, con, kind_op, op, kind_this_con, this_con, kind_this_op, this_op, kind_word}
use Rattle.hb_read_declarations.specs.Worths.{this_word, kind_mark, mark, kind_number, number, kind_digit, digit, Width, kind_bits, bits, kind_end, end_of}
use Rattle.hb_read_declarations.proofs.Known.{some_is}

pub name_is : (a b : Name) → a.0 ≡ b.0 → a ≡ b
name_is a b e = ap (λ n. let m : Name = record { 0 = n } in m) e

-- variables

pub data VarKind (p : Place) : TokenKind → NameAt → Type 0 where
  var_kind : (name : Name) → name ≢ wildcard → VarKind p (VarId name) (at_place p name)

var_if : (p : Place) (name : Name) (b : Bool) {n : NameAt} → (name.0 == wildcard.0) ≡ b → cond b None (Some (at_place p name)) ≡ Some n → VarKind p (VarId name) n
var_if p name true e d = cc
var_if p name false e d = let P : NameAt → Type 0 = λ n. VarKind p (VarId name) n in subst P (some_is d) (var_kind name (λ h. grind (arith, nat_tests, e, ap (λ n. n.0) h)))

pub kind_is_var : (p : Place) (k : TokenKind) {n : NameAt} → kind_var p k ≡ Some n → VarKind p k n
kind_is_var p (VarId name) e = var_if p name (name.0 == wildcard.0) refl e
kind_is_var p _ e = cc

not_wildcard : (p : Place) (name : Name) (b : Bool) → (name.0 == wildcard.0) ≡ b → name ≢ wildcard → cond b None (Some (at_place p name)) ≡ Some (at_place p name)
not_wildcard p name false e n = refl
not_wildcard p name true e n = absurd (n (name_is name wildcard (grind (arith, nat_tests, e))))

pub var_is : {name : Name} (t : Token) → IsVar name t → var t ≡ Some (at_place t.place name)
var_is {name} t v = ap (kind_var t.place) v.kind ∙ not_wildcard t.place name (name.0 == wildcard.0) refl v.named

-- the variable that a token is
pub record VarOf (t : Token) (n : NameAt) : Type 0 where
  pub is_var : IsVar n.name t
  pub is_at : n ≡ at_place t.place n.name

var_of_kind : (t : Token) {k : TokenKind} {n : NameAt} → t.kind ≡ k → VarKind t.place k n → VarOf t n
var_of_kind t e (var_kind name h) = record { is_var = record { kind = e; named = h }; is_at = refl }

pub var_of : {t : Token} {n : NameAt} → var t ≡ Some n → VarOf t n
var_of {t} e = var_of_kind t refl (kind_is_var t.place t.kind e)

code_if : (b : Bool) (n : ℕ) → b ≡ false → cond b 1 n ≡ n
code_if false n e = refl
code_if true n e = cc

var_code_of : {k : TokenKind} {p : Place} {n : NameAt} → VarKind p k n → kind_code k ≡ 0
var_code_of (var_kind name h) = code_if (name.0 == wildcard.0) 0 (other (name.0 == wildcard.0) refl)
  where
    other : (b : Bool) → (name.0 == wildcard.0) ≡ b → b ≡ false
    other true e = absurd (h (name_is name wildcard (grind (arith, nat_tests, e))))
    other false e = refl

pub var_code : (t : Token) (n : NameAt) → var t ≡ Some n → member (code t) (0 ∷ []) ≡ true
var_code t n e = ap (λ c. member c (0 ∷ [])) (var_code_of (kind_is_var t.place t.kind e))

-- constructors

pub con_kind : (p : Place) (k : TokenKind) {n : NameAt} → kind_con p k ≡ Some n → (k ≡ ConId n.name) × (n ≡ at_place p n.name)
con_kind p (ConId name) {n} e = (ap (λ m. ConId m.name) (some_is e), sym (some_is e) ∙ ap (λ m. at_place p m.name) (some_is e))
con_kind p _ e = cc

pub con_of : {t : Token} {n : NameAt} → con t ≡ Some n → (IsCon n.name t) × (n ≡ at_place t.place n.name)
con_of {t} e = con_kind t.place t.kind e

pub con_is : {name : Name} (t : Token) → IsCon name t → con t ≡ Some (at_place t.place name)
con_is t e = ap (kind_con t.place) e

pub con_code : (t : Token) (n : NameAt) → con t ≡ Some n → member (code t) (2 ∷ []) ≡ true
con_code t n e = by_kind (con_of e)
  where
    by_kind : (IsCon n.name t) × (n ≡ at_place t.place n.name) → member (code t) (2 ∷ []) ≡ true
    by_kind (d, f) = ap (λ k. member (kind_code k) (2 ∷ [])) d

-- operators

pub op_kind : (p : Place) (k : TokenKind) {n : NameAt} → kind_op p k ≡ Some n → (k ≡ Op n.name) × (n ≡ at_place p n.name)
op_kind p (Op name) {n} e = (ap (λ m. Op m.name) (some_is e), sym (some_is e) ∙ ap (λ m. at_place p m.name) (some_is e))
op_kind p _ e = cc

pub op_of : {t : Token} {n : NameAt} → op t ≡ Some n → (IsOp n.name t) × (n ≡ at_place t.place n.name)
op_of {t} e = op_kind t.place t.kind e

pub op_is : {name : Name} (t : Token) → IsOp name t → op t ≡ Some (at_place t.place name)
op_is t e = ap (kind_op t.place) e

pub op_code : (t : Token) (n : NameAt) → op t ≡ Some n → member (code t) (3 ∷ []) ≡ true
op_code t n e = by_kind (op_of e)
  where
    by_kind : (IsOp n.name t) × (n ≡ at_place t.place n.name) → member (code t) (3 ∷ []) ≡ true
    by_kind (d, f) = ap (λ k. member (kind_code k) (3 ∷ [])) d

-- one name, one word, one mark

if_some : {A : Type 0} (b : Bool) (a : A) {x : A} → cond b (Some a) None ≡ Some x → (b ≡ true) × (a ≡ x)
if_some true a e = (refl, some_is e)
if_some false a e = cc

if_holds : {A : Type 0} (b : Bool) (a : A) → b ≡ true → cond b (Some a) None ≡ Some a
if_holds true a e = refl
if_holds false a e = cc

equal : (a b : ℕ) → (a == b) ≡ true → a ≡ b
equal a b e = grind (arith, nat_tests, e)

same : (a : ℕ) → (a == a) ≡ true
same a = grind (arith, nat_tests)

named_is : {K : Type 0} (f : Name → K) (name n : Name) (p : Place) {x : Place} → cond (name.0 == n.0) (Some p) None ≡ Some x → (f name ≡ f n) × (x ≡ p)
named_is f name n p {x} e = by_parts (if_some (name.0 == n.0) p e)
  where
    by_parts : ((name.0 == n.0) ≡ true) × (p ≡ x) → (f name ≡ f n) × (x ≡ p)
    by_parts (d, h) = (ap f (name_is name n (equal name.0 n.0 d)), sym h)

pub this_con_kind : (n : Name) (p : Place) (k : TokenKind) {x : Place} → kind_this_con n p k ≡ Some x → (k ≡ ConId n) × (x ≡ p)
this_con_kind n p (ConId name) e = named_is ConId name n p e
this_con_kind n p _ e = cc

pub this_con_of : {n : Name} {t : Token} {x : Place} → this_con n t ≡ Some x → (IsCon n t) × (x ≡ t.place)
this_con_of {n} {t} e = this_con_kind n t.place t.kind e

pub this_con_is : {n : Name} (t : Token) → IsCon n t → this_con n t ≡ Some t.place
this_con_is {n} t e = ap (kind_this_con n t.place) e ∙ if_holds (n.0 == n.0) t.place (same n.0)

pub this_op_kind : (n : Name) (p : Place) (k : TokenKind) {x : Place} → kind_this_op n p k ≡ Some x → (k ≡ Op n) × (x ≡ p)
this_op_kind n p (Op name) e = named_is Op name n p e
this_op_kind n p _ e = cc

pub this_op_of : {n : Name} {t : Token} {x : Place} → this_op n t ≡ Some x → (IsOp n t) × (x ≡ t.place)
this_op_of {n} {t} e = this_op_kind n t.place t.kind e

pub mark_kind : (m : ℕ) (p : Place) (k : TokenKind) {x : Place} → kind_mark m p k ≡ Some x → (k ≡ Mark m) × (x ≡ p)
mark_kind m p (Mark byte) {x} e = by_parts (if_some (byte == m) p e)
  where
    by_parts : ((byte == m) ≡ true) × (p ≡ x) → (Mark byte ≡ Mark m) × (x ≡ p)
    by_parts (d, h) = (ap Mark (equal byte m d), sym h)
mark_kind m p _ e = cc

pub mark_of : {m : ℕ} {t : Token} {x : Place} → mark m t ≡ Some x → (IsMark m t) × (x ≡ t.place)
mark_of {m} {t} e = mark_kind m t.place t.kind e

pub mark_is : {m : ℕ} (t : Token) → IsMark m t → mark m t ≡ Some t.place
mark_is {m} t e = ap (kind_mark m t.place) e ∙ if_holds (m == m) t.place (same m)

-- the word of a code
abbrev word_at : List Word → ℕ → Word
word_at [] n = word.Area
word_at (w ∷ ws) zero = w
word_at (w ∷ ws) (suc n) = word_at ws n

abbrev words : List Word
words =
    word.Area ∷ word.Area ∷ word.Area ∷ word.Area ∷ word.Area ∷ word.Area ∷ word.Area ∷ word.Area ∷ word.Area ∷ word.Area ∷
    word.Area ∷ word.Bitdata ∷ word.Struct ∷ word.Port ∷ word.Class ∷ word.Instance ∷ word.Data ∷ word.Infix ∷ word.Infixl ∷
    word.Infixr ∷ word.Where ∷ word.Let ∷ word.In ∷ word.Do ∷ word.Of ∷ word.Case ∷ word.If ∷ word.Then ∷ word.Else ∷ word.Each ∷
    word.Fields ∷ word.Aligned ∷ word.At ∷ word.Module ∷ word.Import ∷ word.Export ∷ word.Deriving ∷ word.Default ∷
    word.TypeWord ∷ word.Newtype ∷ word.Foreign ∷ word.Opaque ∷ word.Fails ∷ word.DoubleColon ∷ word.Equals ∷ word.Backslash ∷
    word.Bar ∷ word.LeftArrow ∷ word.RightArrow ∷ word.DoubleArrow ∷ []

word_back : (w : Word) → word_at words (word_code w) ≡ w
word_back word.Area = refl
word_back word.Bitdata = refl
word_back word.Struct = refl
word_back word.Port = refl
word_back word.Class = refl
word_back word.Instance = refl
word_back word.Data = refl
word_back word.Infix = refl
word_back word.Infixl = refl
word_back word.Infixr = refl
word_back word.Where = refl
word_back word.Let = refl
word_back word.In = refl
word_back word.Do = refl
word_back word.Of = refl
word_back word.Case = refl
word_back word.If = refl
word_back word.Then = refl
word_back word.Else = refl
word_back word.Each = refl
word_back word.Fields = refl
word_back word.Aligned = refl
word_back word.At = refl
word_back word.Module = refl
word_back word.Import = refl
word_back word.Export = refl
word_back word.Deriving = refl
word_back word.Default = refl
word_back word.TypeWord = refl
word_back word.Newtype = refl
word_back word.Foreign = refl
word_back word.Opaque = refl
word_back word.Fails = refl
word_back word.DoubleColon = refl
word_back word.Equals = refl
word_back word.Backslash = refl
word_back word.Bar = refl
word_back word.LeftArrow = refl
word_back word.RightArrow = refl
word_back word.DoubleArrow = refl

pub word_same : (v w : Word) → (word_code v == word_code w) ≡ true → v ≡ w
word_same v w e = sym (word_back v) ∙ (ap (word_at words) (equal (word_code v) (word_code w) e) ∙ word_back w)

-- no word has the code of the end
pub word_no_end : (w : Word) → (word_code w == 7) ≡ true → ⊥
word_no_end w e =
    let d : word_code w ≡ 7 = equal (word_code w) 7 e in
    let area : w ≡ word.Area = sym (word_back w) ∙ ap (word_at words) d in
    seven_ten d (ap word_code area)
  where
    seven_ten : {n : ℕ} → n ≡ 7 → n ≡ 10 → ⊥
    seven_ten e d = omega (arith, e, d)

pub word_kind : (w : Word) (p : Place) (k : TokenKind) {x : Place} → kind_word w p k ≡ Some x → (k ≡ AWord w) × (x ≡ p)
word_kind w p (AWord v) {x} e = by_parts (if_some (word_code v == word_code w) p e)
  where
    by_parts : ((word_code v == word_code w) ≡ true) × (p ≡ x) → (AWord v ≡ AWord w) × (x ≡ p)
    by_parts (d, h) = (ap AWord (word_same v w d), sym h)
word_kind w p _ e = cc

pub word_of : {w : Word} {t : Token} {x : Place} → this_word w t ≡ Some x → (IsWord w t) × (x ≡ t.place)
word_of {w} {t} e = word_kind w t.place t.kind e

pub word_is : {w : Word} (t : Token) → IsWord w t → this_word w t ≡ Some t.place
word_is {w} t e = ap (kind_word w t.place) e ∙ if_holds (word_code w == word_code w) t.place (same (word_code w))

member_one : (c x : ℕ) → c ≡ x → member c (x ∷ []) ≡ true
member_one c x e = ap (λ d. member d (x ∷ [])) e ∙ one_is (x == x) (same x)
  where
    one_is : (b : Bool) → b ≡ true → or b false ≡ true
    one_is true d = refl
    one_is false d = cc

code_by : {k : TokenKind} {A : Type 0} (t : Token) → (t.kind ≡ k) × A → member (code t) (kind_code k ∷ []) ≡ true
code_by {k} t (e, a) = member_one (code t) (kind_code k) (ap kind_code e)

pub word_is_code : (w : Word) (t : Token) (x : Place) → this_word w t ≡ Some x → member (code t) (word_code w ∷ []) ≡ true
word_is_code w t x e = code_by t (word_of e)

pub mark_code : (m : ℕ) (t : Token) (x : Place) → mark m t ≡ Some x → member (code t) ((m + 60) ∷ []) ≡ true
mark_code m t x e = code_by t (mark_of e)

pub this_con_code : (n : Name) (t : Token) (x : Place) → this_con n t ≡ Some x → member (code t) (2 ∷ []) ≡ true
this_con_code n t x e = code_by t (this_con_of e)

pub this_op_code : (n : Name) (t : Token) (x : Place) → this_op n t ≡ Some x → member (code t) (3 ∷ []) ≡ true
this_op_code n t x e = code_by t (this_op_of e)

-- numbers

pub number_kind : (k : TokenKind) {n : ℕ} → kind_number k ≡ Some n → k ≡ Number n
number_kind (Number n) e = ap Number (some_is e)
number_kind _ e = cc

pub number_of_token : (t : Token) {n : ℕ} → number t ≡ Some n → IsNumber n t
number_of_token t e = number_kind t.kind e

pub number_is : {n : ℕ} (t : Token) → IsNumber n t → number t ≡ Some n
number_is t e = ap kind_number e

pub number_code : (t : Token) (n : ℕ) → number t ≡ Some n → member (code t) (4 ∷ []) ≡ true
number_code t n e = ap (λ k. member (kind_code k) (4 ∷ [])) (number_of_token t e)

digit_parts : (k n : ℕ) → (nat_le k 9 ≡ true) × (k ≡ n) → (Number k ≡ Number n) × (n ≤ 9)
digit_parts k n (d, h) = (ap Number h, let P : ℕ → Type 0 = λ m. m ≤ 9 in subst P h (grind (arith, nat_tests, d)))

pub digit_kind : (k : TokenKind) {n : ℕ} → kind_digit k ≡ Some n → (k ≡ Number n) × (n ≤ 9)
digit_kind (Number k) {n} e = digit_parts k n (if_some (nat_le k 9) k e)
digit_kind _ e = cc

pub digit_of : (t : Token) {n : ℕ} → digit t ≡ Some n → (IsNumber n t) × (n ≤ 9)
digit_of t e = digit_kind t.kind e

pub digit_is : {n : ℕ} (t : Token) → IsNumber n t → n ≤ 9 → digit t ≡ Some n
digit_is {n} t e d = ap kind_digit e ∙ if_holds (nat_le n 9) n (grind (arith, nat_tests, d))

pub digit_code : (t : Token) (n : ℕ) → digit t ≡ Some n → member (code t) (4 ∷ []) ≡ true
digit_code t n e = code_by t (digit_of t e)

pub bits_kind : (k : TokenKind) {w : Width} → kind_bits k ≡ Some w → k ≡ Bits w.width w.number
bits_kind (Bits width n) e = ap (λ w. Bits w.width w.number) (some_is e)
bits_kind _ e = cc

pub bits_of : (t : Token) {w : Width} → bits t ≡ Some w → IsBits w.width w.number t
bits_of t e = bits_kind t.kind e

pub bits_is : {width n : ℕ} (t : Token) → IsBits width n t → bits t ≡ Some (record { width = width; number = n })
bits_is t e = ap kind_bits e

pub bits_code : (t : Token) (w : Width) → bits t ≡ Some w → member (code t) (5 ∷ []) ≡ true
bits_code t w e = ap (λ k. member (kind_code k) (5 ∷ [])) (bits_of t e)

-- the end

end_kind : (p : Place) (k : TokenKind) {x : Place} → kind_end p k ≡ Some x → k ≡ End
end_kind p End e = refl
end_kind p _ e = cc

pub end_code : (t : Token) (p : Place) → end_of t ≡ Some p → member (code t) (7 ∷ []) ≡ true
end_code t p e = ap (λ k. member (kind_code k) (7 ∷ [])) (end_kind t.place t.kind e)
