-- What the grammar says of a token that fits.
use Rattle.std.proofs.Common.{◌≡◌, ℕ, ◌≤◌, true, Some, is_some, refl, sym, ap, subst}
use Rattle.hb_base.specs.declared.name.Name.{Name}
use Rattle.hb_base.specs.declared.place.Place.{Place}
use Rattle.hb_base.specs.declared.port.Dir.{Dir}
use Rattle.hb_base.specs.Fixed.{pad, slash}
use Rattle.hb_tokens.specs.declared.token.Token.{Token}
use Rattle.hb_tokens.specs.declared.token.TokenKind.{TokenKind}
use Rattle.hb_tokens.specs.declared.token.TokenKind.TheVariants.{End}
use Rattle.hb_tokens.specs.declared.word.Word.{Word}
use Rattle.hb_tree.specs.declared.types.NameAt.{NameAt}
use Rattle.hb_grammar.specs.Tokens.{IsVar, IsCon, IsOp, IsWord, IsMark, IsNumber, IsBits, IsEnd}
use Rattle.hb_grammar.specs.Declarations.{dir_name}
use Rattle.hb_read_declarations.specs.declared.width.Width.{Width}
use Rattle.hb_read_declarations.specs.Worths.{var, con, op, this_con, this_op, this_word, mark, number, digit, bits, end_of, kind_end}
use Rattle.hb_read_declarations.proofs.Known.{some_place}
use Rattle.hb_read_declarations.proofs.WorthLaws.{var_of, con_of, op_of, this_con_of, this_op_of, word_of, mark_of, number_of_token, digit_of, bits_of}
use Rattle.hb_read_program.specs.Rules.{fits, name_in, number_in, width_in, bits_in}
use Rattle.hb_read_program.specs.declared.symbol.Kind.TheVariants as kind

var_named : {name : Name} (t : Token) → IsVar name t → IsVar (name_in t.kind) t
var_named t e = subst (λ n. IsVar n t) (sym (ap name_in e.kind)) e

pub is_var : (t : Token) → fits kind.Var t ≡ true → IsVar (name_in t.kind) t
is_var t e = by_name (some_place (var t) e)
  where
    by_name : (n : NameAt) × (var t ≡ Some n) → IsVar (name_in t.kind) t
    by_name (n, d) = var_named t (var_of {t = t} d).is_var

con_named : {name : Name} (t : Token) → IsCon name t → IsCon (name_in t.kind) t
con_named t e = subst (λ n. IsCon n t) (sym (ap name_in e)) e

pub is_con : (t : Token) → fits kind.Con t ≡ true → IsCon (name_in t.kind) t
is_con t e = by_name (some_place (con t) e)
  where
    by_name : (n : NameAt) × (con t ≡ Some n) → IsCon (name_in t.kind) t
    by_name (n, d) = con_named t (con_of {t = t} d).0

op_named : {name : Name} (t : Token) → IsOp name t → IsOp (name_in t.kind) t
op_named t e = subst (λ n. IsOp n t) (sym (ap name_in e)) e

pub is_op : (t : Token) → fits kind.Op t ≡ true → IsOp (name_in t.kind) t
is_op t e = by_name (some_place (op t) e)
  where
    by_name : (n : NameAt) × (op t ≡ Some n) → IsOp (name_in t.kind) t
    by_name (n, d) = op_named t (op_of {t = t} d).0

number_named : {k : ℕ} (t : Token) → IsNumber k t → IsNumber (number_in t.kind) t
number_named t e = subst (λ k. IsNumber k t) (sym (ap number_in e)) e

pub is_number : (t : Token) → fits kind.Number t ≡ true → IsNumber (number_in t.kind) t
is_number t e = by_number (some_place (number t) e)
  where
    by_number : (k : ℕ) × (number t ≡ Some k) → IsNumber (number_in t.kind) t
    by_number (k, d) = number_named t (number_of_token t d)

pub record IsDigit (t : Token) : Type 0 where
  pub is_number : IsNumber (number_in t.kind) t
  pub small : number_in t.kind ≤ 9

digit_named : {k : ℕ} (t : Token) → IsNumber k t → k ≤ 9 → IsDigit t
digit_named t e l = record { is_number = number_named t e; small = subst (λ k. k ≤ 9) (sym (ap number_in e)) l }

pub is_digit : (t : Token) → fits kind.Digit t ≡ true → IsDigit t
is_digit t e = by_number (some_place (digit t) e)
  where
    by_number : (k : ℕ) × (digit t ≡ Some k) → IsDigit t
    by_number (k, d) = digit_named t (digit_of t d).0 (digit_of t d).1

bits_named : {width k : ℕ} (t : Token) → IsBits width k t → IsBits (width_in t.kind) (bits_in t.kind) t
bits_named {width} {k} t e =
    subst (λ w. IsBits w (bits_in t.kind) t) (sym (ap width_in e)) (subst (λ k. IsBits width k t) (sym (ap bits_in e)) e)

pub are_bits : (t : Token) → fits kind.Bits t ≡ true → IsBits (width_in t.kind) (bits_in t.kind) t
are_bits t e = by_bits (some_place (bits t) e)
  where
    by_bits : (w : Width) × (bits t ≡ Some w) → IsBits (width_in t.kind) (bits_in t.kind) t
    by_bits (w, d) = bits_named t (bits_of t d)

this_con_holds : (name : Name) (t : Token) → is_some (this_con name t) ≡ true → IsCon name t
this_con_holds name t e = by_place (some_place (this_con name t) e)
  where
    by_place : (p : Place) × (this_con name t ≡ Some p) → IsCon name t
    by_place (p, d) = (this_con_of {n = name} {t = t} d).0

pub is_pad : (t : Token) → fits kind.Pad t ≡ true → IsCon pad t
is_pad t e = this_con_holds pad t e

pub is_dir : (dir : Dir) (t : Token) → fits (kind.Toward dir) t ≡ true → IsCon (dir_name dir) t
is_dir dir t e = this_con_holds (dir_name dir) t e

pub is_slash : (t : Token) → fits kind.Slash t ≡ true → IsOp slash t
is_slash t e = by_place (some_place (this_op slash t) e)
  where
    by_place : (p : Place) × (this_op slash t ≡ Some p) → IsOp slash t
    by_place (p, d) = (this_op_of {n = slash} {t = t} d).0

pub is_word : (w : Word) (t : Token) → fits (kind.Word w) t ≡ true → IsWord w t
is_word w t e = by_place (some_place (this_word w t) e)
  where
    by_place : (p : Place) × (this_word w t ≡ Some p) → IsWord w t
    by_place (p, d) = (word_of {w = w} {t = t} d).0

pub is_mark : (m : ℕ) (t : Token) → fits (kind.Mark m) t ≡ true → IsMark m t
is_mark m t e = by_place (some_place (mark m t) e)
  where
    by_place : (p : Place) × (mark m t ≡ Some p) → IsMark m t
    by_place (p, d) = (mark_of {m = m} {t = t} d).0

end_kind : (p : Place) (k : TokenKind) {x : Place} → kind_end p k ≡ Some x → k ≡ End
end_kind p End e = refl
end_kind p _ e = cc

pub is_end : (t : Token) → fits kind.End t ≡ true → IsEnd t
is_end t e = by_place (some_place (end_of t) e)
  where
    by_place : (p : Place) × (end_of t ≡ Some p) → IsEnd t
    by_place (p, d) = end_kind t.place t.kind d
