-- What is known of each symbol and of each reader of its own.
use Rattle.std.proofs.Common.{◌≡◌, ℕ, ◌+◌, Bool, true, false, cond, List, [], ◌∷◌, ◌++◌, Option, Some, None, is_some, refl, sym, ap, subst, ◌∙◌}
use Rattle.std.specs.Prelude.{◌==◌}
use Rattle.hb_base.specs.declared.place.Place.{Place}
use Rattle.hb_base.specs.Fixed.{pad, slash}
use Rattle.hb_tokens.specs.declared.token.Token.{Token}
use Rattle.hb_grammar.specs.Types.{ReadsType, ReadsAtype, ReadsPred}
use Rattle.hb_grammar.specs.Declarations.{dir_name}
use Rattle.hb_engine.specs.Lawful.{both}
use Rattle.hb_read_patterns.specs.Moves.{pat_start}
use Rattle.hb_read_declarations.specs.Codes.{code, member, apart}
use Rattle.hb_read_declarations.specs.Nodes.{type_of, pred_of, bind_of}
use Rattle.hb_read_declarations.specs.Exactly.{Made}
use Rattle.hb_read_declarations.specs.Readers.{Out}
use Rattle.hb_read_declarations.specs.Worths.{var, con, op, this_con, this_op, this_word, mark, number, digit, bits, end_of}
use Rattle.hb_read_declarations.proofs.Known.{Known, some_is, some_place, true_false, or_cases, or_left, or_right, equal_is, apart_is}
use Rattle.hb_read_declarations.proofs.WorthLaws.{var_code, con_code, op_code, this_con_code, this_op_code, word_is_code, mark_code, number_code, digit_code, bits_code, end_code}
use Rattle.hb_read_declarations.proofs.Typing.{in_types, in_qualified, a_type_known, an_atype_known, a_pred_known, a_qualified_known, QualifiedRead, qualified_of}
use Rattle.hb_read_declarations.proofs.Equations.{EquationRead, an_equation_known, inside}
use Rattle.hb_read_declarations.proofs.EquationTokens.{equation_known}
use Rattle.hb_read_declarations.proofs.ExprTokens.{Exprs, an_expr_known}
use Rattle.hb_read_program.specs.Rules.{Leaf, Symbol, Kind, Head, Form, behind, nothing_of, fits, found}
use Rattle.hb_read_program.specs.declared.symbol.Leaf.TheVariants as leaf
use Rattle.hb_read_program.specs.declared.symbol.Kind.TheVariants as kind
use Rattle.hb_read_program.specs.Frames.{leaf_reader, put_nothing}
use Rattle.hb_read_program.specs.Sets.{kind_code, leaf_first, leaf_follow, head_codes, is_nothing, within, only_if, row_keeps, heads_keep}

-- the readers of their own

abbrev pub LeafReads : Leaf → List Token → Out → List Token → Type 0
LeafReads leaf.Type = Made ReadsType type_of
LeafReads leaf.Atype = Made ReadsAtype type_of
LeafReads leaf.Pred = Made ReadsPred pred_of
LeafReads leaf.Qualified = Made QualifiedRead qualified_of
LeafReads leaf.Expr = Exprs
LeafReads leaf.Equation = Made EquationRead bind_of

abbrev leaf_uses : Leaf → ℕ → Bool
leaf_uses leaf.Type = in_types
leaf_uses leaf.Atype = in_types
leaf_uses leaf.Pred = in_types
leaf_uses leaf.Qualified = in_qualified
leaf_uses leaf.Expr = inside
leaf_uses leaf.Equation = inside

pub leaf_known : (l : Leaf) → Known (leaf_reader l) (LeafReads l) false (leaf_first l) (λ c. member c (leaf_follow l)) (leaf_uses l)
leaf_known leaf.Type = a_type_known
leaf_known leaf.Atype = an_atype_known
leaf_known leaf.Pred = a_pred_known
leaf_known leaf.Qualified = a_qualified_known
leaf_known leaf.Expr = an_expr_known pat_start
leaf_known leaf.Equation = an_equation_known pat_start (equation_known pat_start)

-- the code of a token that fits

one_code : (c x : ℕ) → member c (x ∷ []) ≡ true → c ≡ x
one_code c x e = or_cases (c == x) false e (λ d. equal_is c x (c == x) refl d) (λ d. cc)

by_code : {P : Type 0} (f : Token → Option P) (x : ℕ) (t : Token) → ((t : Token) (p : P) → f t ≡ Some p → member (code t) (x ∷ []) ≡ true) → is_some (f t) ≡ true → code t ≡ x
by_code {P} f x t g e = from_some (some_place (f t) e)
  where
    from_some : (p : P) × (f t ≡ Some p) → code t ≡ x
    from_some (p, d) = one_code (code t) x (g t p d)

pub fits_code : (k : Kind) (t : Token) → fits k t ≡ true → code t ≡ kind_code k
fits_code kind.Var t e = by_code var 0 t var_code e
fits_code kind.Con t e = by_code con 2 t con_code e
fits_code kind.Op t e = by_code op 3 t op_code e
fits_code kind.Number t e = by_code number 4 t number_code e
fits_code kind.Digit t e = by_code digit 4 t digit_code e
fits_code kind.Bits t e = by_code bits 5 t bits_code e
fits_code kind.Pad t e = by_code (this_con pad) 2 t (this_con_code pad) e
fits_code kind.Slash t e = by_code (this_op slash) 3 t (this_op_code slash) e
fits_code (kind.Toward dir) t e = by_code (this_con (dir_name dir)) 2 t (this_con_code (dir_name dir)) e
fits_code (kind.Word w) t e = by_code (this_word w) (kind_code (kind.Word w)) t (word_is_code w) e
fits_code (kind.Mark m) t e = by_code (mark m) (m + 60) t (mark_code m) e
fits_code kind.End t e = by_code end_of 7 t end_code e

pub same_code : (c x : ℕ) (xs : List ℕ) → c ≡ x → (x == x) ≡ true → member c (x ∷ xs) ≡ true
same_code c x xs e d = ap (λ c. member c (x ∷ xs)) e ∙ or_left (x == x) (member x xs) d

-- heads

-- which side of a choice it is
pub by_cond : {A P : Type 0} (b : Bool) (x y : A) {z : A} → cond b x y ≡ z → (b ≡ true → x ≡ z → P) → (b ≡ false → y ≡ z → P) → P
by_cond true x y e f g = f refl e
by_cond false x y e f g = g refl e

equal_self : (x : ℕ) → (x == x) ≡ true
equal_self x = grind (Rattle.std.proofs.Common.arith, Rattle.std.proofs.lemmas.Bool.Decides.nat_tests)

pub found_code : (hs : List Head) (t : Token) {h : Head} → found hs t ≡ Some h → member (code t) (head_codes hs) ≡ true
found_code [] t e = cc
found_code (g ∷ hs) t e =
    by_cond (fits g.kind t) (Some g) (found hs t) e
    (λ d i. same_code (code t) (kind_code g.kind) (head_codes hs) (fits_code g.kind t d) (equal_self (kind_code g.kind)))
    (λ d i. or_right (code t == kind_code g.kind) (member (code t) (head_codes hs)) (found_code hs t i))

pub both_left : (a b : Bool) → both a b ≡ true → a ≡ true
both_left true b e = refl
both_left false b e = cc

pub both_right : (a b : Bool) → both a b ≡ true → b ≡ true
both_right true b e = e
both_right false b e = cc

pub found_keeps : (up : List ℕ) (hs : List Head) (t : Token) {h : Head} → heads_keep up hs ≡ true → found hs t ≡ Some h → row_keeps up (behind h.behind) ≡ true
found_keeps up [] t k e = cc
found_keeps up (g ∷ hs) t k e =
    by_cond (fits g.kind t) (Some g) (found hs t) e
    (λ d i. subst (λ h. row_keeps up (behind h.behind) ≡ true) (some_is i) (both_left (row_keeps up (behind g.behind)) (heads_keep up hs) k))
    (λ d i. found_keeps up hs t (both_right (row_keeps up (behind g.behind)) (heads_keep up hs) k) i)

-- no head takes a token whose code is elsewhere
pub found_none : (hs : List Head) (xs : List ℕ) (t : Token) → apart (λ c. member c (head_codes hs)) xs ≡ true → member (code t) xs ≡ true → found hs t ≡ None
found_none hs xs t e d = by_found (found hs t) refl
  where
    by_found : (o : Option Head) → found hs t ≡ o → found hs t ≡ None
    by_found None i = i
    by_found (Some h) i = absurd (true_false (found_code hs t i) (apart_is (λ c. member c (head_codes hs)) xs (code t) e d))

-- sets

pub within_is : (c : ℕ) (xs ys : List ℕ) → within xs ys ≡ true → member c xs ≡ true → member c ys ≡ true
within_is c [] ys e d = cc
within_is c (x ∷ xs) ys e d =
    or_cases (c == x) (member c xs) d
    (λ i. ap (λ c. member c ys) (equal_is c x (c == x) refl i) ∙ both_left (member x ys) (within xs ys) e)
    (λ i. within_is c xs ys (both_right (member x ys) (within xs ys) e) i)

pub only_is : (a b : Bool) → only_if a b ≡ true → a ≡ true → b ≡ true
only_is true b e d = e
only_is false b e d = cc

pub nothing_is : (s : Symbol) (p : Place) (n : ℕ) → is_some (put_nothing (nothing_of s) p n) ≡ is_nothing s
nothing_is s p n = by_form (nothing_of s)
  where
    by_form : (o : Option Form) → is_some (put_nothing o p n) ≡ is_some o
    by_form None = refl
    by_form (Some f) = refl
