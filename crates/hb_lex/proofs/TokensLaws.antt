-- What bytes give is one answer, and what is read so far goes on to it.
use Rattle.std.proofs.Common.{◌≡◌, ℕ, zero, suc, ◌+◌, ◌<◌, ◌≤◌, Bool, false, List, [], ◌∷◌, ◌++◌, length, take, drop, Option, Some, None, slice_get, refl, sym, ap, subst, ◌∙◌, ◌⊎◌, inl, inr, ⊎_elim, arith, append_assoc, length-append, length-drop}
use Rattle.std.specs.Prelude.{IfSome, not, true}
use Rattle.std.specs.List.{list_any, list_all}
use Rattle.std.specs.Str.{bytes_eq}
use Rattle.hb_base.specs.Names.{with_text, with_texts}
use Rattle.hb_base.specs.declared.place.Place.{Place}
use Rattle.hb_tokens.specs.declared.token.Token.{Token}
use Rattle.hb_lex.specs.Reading.{is_end}
use Rattle.hb_lex.specs.declared.piece.Shape.{Shape}
use Rattle.hb_lex.specs.declared.piece.Shape.TheVariants.{VarId, ConId, Op, Word, Number, Bits, Mark, Dot, End}
use Rattle.hb_lex.specs.declared.piece.Wrong.{Wrong}
use Rattle.hb_lex.specs.declared.piece.Wrong.TheVariants.{Comment as OpenComment}
use Rattle.hb_lex.specs.declared.piece.Piece.{Piece}
use Rattle.hb_lex.specs.declared.piece.Piece.TheVariants.{Skip, Comment, Token as TokenPiece, Wrong as Broken}
use Rattle.hb_lex.specs.Bytes.{place_after, next_place}
use Rattle.hb_lex.specs.Pieces.{piece_at}
use Rattle.hb_lex.specs.Tokens.{Inside, Lexeme, lexeme, takes_dot, Answer, Found, Stops, after_lexemes, detail_of, Reads, ended, skipped, commented, open_comment, token, broken}
use Rattle.hb_lex.specs.Numbering.{name_of, name_text, texts_of, IsNumbered, AreNumbered, Extends}
use Rattle.hb_lex.specs.Steps.{Took, IsStop}
use Rattle.hb_base.specs.Faults.{IfRefused}
use Rattle.hb_base.specs.declared.refusal.Code.TheVariants.{E02}
use Rattle.hb_base.specs.declared.refusal.Fault.{Fault}
use Rattle.hb_base.specs.declared.refusal.Fault.TheVariants.{Refused, Memory}
use Rattle.hb_lex.proofs.LiteralLaws.{either, and_true}
use Rattle.hb_lex.proofs.CommentLaws.{inside_same}

-- what follows a piece
abbrev Next : Piece → Place → List ℕ → Answer → Type 0
Next (Skip size) place bytes a = Reads false (place_after place (take size bytes)) (drop size bytes) a
Next Comment place bytes a =
    ((n : ℕ) × (Inside (drop 2 bytes) n) × (Reads false (place_after place (take (2 + n) bytes)) (drop (2 + n) bytes) a))
    ⊎ (((n : ℕ) → ¬ Inside (drop 2 bytes) n) × (a ≡ Stops place OpenComment))
Next (TokenPiece shape size) place bytes a =
    (b : Answer) × (Reads (takes_dot shape (take size bytes)) (place_after place (take size bytes)) (drop size bytes) b)
    × (a ≡ after_lexemes (lexeme place shape (take size bytes) ∷ []) b)
Next (Broken wrong) place bytes a = a ≡ Stops place wrong

no_bytes : 0 < 0 → ⊥
no_bytes h = omega arith

view : {glued : Bool} {place : Place} {bytes : List ℕ} {a : Answer} → Reads glued place bytes a → 0 < length bytes → Next (piece_at glued bytes) place bytes a
view (ended glued place) some = absurd (no_bytes some)
view (skipped glued place bytes size a _ e rest) some = subst (λ p. Next p place bytes a) (sym e) rest
view (commented glued place bytes n a _ e inside rest) some = subst (λ p. Next p place bytes a) (sym e) (inl (n, inside, rest))
view (open_comment glued place bytes _ e none) some = subst (λ p. Next p place bytes (Stops place OpenComment)) (sym e) (inr (none, refl))
view (token glued place bytes shape size a _ e rest) some =
    subst (λ p. Next p place bytes (after_lexemes (lexeme place shape (take size bytes) ∷ []) a)) (sym e) (a, rest, refl)
view (broken glued place bytes wrong _ e) some = subst (λ p. Next p place bytes (Stops place wrong)) (sym e) refl

-- an empty rest gives the end alone
view_end : {glued : Bool} {place : Place} {bytes : List ℕ} {a : Answer} → Reads glued place bytes a → length bytes ≡ 0 → a ≡ Found (lexeme place End [] ∷ [])
view_end (ended glued place) none = refl
view_end (skipped glued place bytes size a some e rest) none = absurd (no_bytes (subst (λ n. 0 < n) none some))
view_end (commented glued place bytes n a some e inside rest) none = absurd (no_bytes (subst (λ n. 0 < n) none some))
view_end (open_comment glued place bytes some e no_end) none = absurd (no_bytes (subst (λ n. 0 < n) none some))
view_end (token glued place bytes shape size a some e rest) none = absurd (no_bytes (subst (λ n. 0 < n) none some))
view_end (broken glued place bytes wrong some e) none = absurd (no_bytes (subst (λ n. 0 < n) none some))

next_of : {glued : Bool} {place : Place} {bytes : List ℕ} (p : Piece) (b : Answer) → 0 < length bytes → piece_at glued bytes ≡ p → Reads glued place bytes b → Next p place bytes b
next_of {place = place} {bytes = bytes} p b some e other = subst (λ q. Next q place bytes b) e (view other some)

-- bytes give one answer at most
pub one_answer : {glued : Bool} {place : Place} {bytes : List ℕ} {a : Answer} → Reads glued place bytes a → (b : Answer) → Reads glued place bytes b → a ≡ b
one_answer (ended glued place) b other = sym (view_end other refl)
one_answer (skipped glued place bytes size a some e rest) b other = one_answer rest b (next_of (Skip size) b some e other)
one_answer (commented glued place bytes n a some e inside rest) b other =
    ⊎_elim
    (λ closed.
    let same : closed.0 ≡ n = inside_same (drop 2 bytes) closed.0 n closed.1 inside in
    one_answer rest b (subst (λ k. Reads false (place_after place (take (2 + k) bytes)) (drop (2 + k) bytes) b) same closed.2))
    (λ open_one. absurd (open_one.0 n inside))
    (next_of Comment b some e other)
one_answer (open_comment glued place bytes some e none) b other =
    ⊎_elim (λ closed. absurd (none closed.0 closed.1)) (λ open_one. sym open_one.1) (next_of Comment b some e other)
one_answer (token glued place bytes shape size a some e rest) b other =
    let next = next_of (TokenPiece shape size) b some e other in
    ap (after_lexemes (lexeme place shape (take size bytes) ∷ [])) (one_answer rest next.0 next.1) ∙ sym next.2
one_answer (broken glued place bytes wrong some e) b other = sym (next_of (Broken wrong) b some e other)

pub append_nil : {A : Type 0} (xs : List A) → xs ++ [] ≡ xs
append_nil [] = refl
append_nil (x ∷ xs) = ap (λ ys. x ∷ ys) (append_nil xs)

-- tables grow at their end
extends_text : (table : List (List ℕ)) (text : List ℕ) → Extends table (with_text table text)
extends_text table text =
    either (list_any (bytes_eq text) table)
    (λ h. ([], rw h (sym (append_nil table))))
    (λ h. (text ∷ [], rw h refl))

pub extends_all : (a b c : List (List ℕ)) → Extends a b → Extends b c → Extends a c
extends_all a b c (more, e) (rest, f) = (more ++ rest, f ∙ (ap (λ xs. xs ++ rest) e ∙ append_assoc a more rest))

pub extends_texts : (texts table : List (List ℕ)) → Extends table (with_texts table texts)
unfolding with_texts
extends_texts [] table = ([], sym (append_nil table))
extends_texts (text ∷ texts) table =
    extends_all table (with_text table text) (with_texts (with_text table text) texts) (extends_text table text) (extends_texts texts (with_text table text))

pub texts_append : (more texts table : List (List ℕ)) → with_texts table (texts ++ more) ≡ with_texts (with_texts table texts) more
unfolding with_texts
texts_append more [] table = refl
texts_append more (text ∷ texts) table = texts_append more texts (with_text table text)

text_count : (table : List (List ℕ)) (text : List ℕ) → length (with_text table text) ≤ length table + 1
text_count table text =
    either (list_any (bytes_eq text) table)
    (λ h. rw h (omega arith))
    (λ h. rw (h, length-append table (text ∷ [])) (omega arith))

one_text : (table : List (List ℕ)) (text : List ℕ) → length (with_texts table (text ∷ [])) ≤ length table + 1
unfolding with_texts
one_text table text = text_count table text

no_text : (table : List (List ℕ)) → length (with_texts table []) ≤ length table + 1
unfolding with_texts
no_text table = omega arith

pub name_count : (table : List (List ℕ)) (shape : Shape) (text : List ℕ) → length (with_texts table (name_text shape text)) ≤ length table + 1
name_count table VarId text = one_text table text
name_count table ConId text = one_text table text
name_count table Op text = one_text table text
name_count table (Word word) text = no_text table
name_count table (Number value) text = no_text table
name_count table (Bits width value) text = no_text table
name_count table (Mark c) text = no_text table
name_count table Dot text = no_text table
name_count table End text = no_text table

get_front : (xs ys : List (List ℕ)) (n : ℕ) (x : List ℕ) → slice_get xs n ≡ Some x → slice_get (xs ++ ys) n ≡ Some x
get_front [] ys n x h = cc
get_front (y ∷ xs) ys zero x h = h
get_front (y ∷ xs) ys (suc n) x h = get_front xs ys n x h

number_kept : (names more : List (List ℕ)) (o : Option ℕ) (text : List ℕ) → IfSome o (λ n. slice_get names n ≡ Some text) → IfSome o (λ n. slice_get (names ++ more) n ≡ Some text)
number_kept names more None text h = h
number_kept names more (Some n) text h = get_front names more n text h

one_kept : (names names' : List (List ℕ)) (l : Lexeme) (t : Token) → Extends names names' → IsNumbered names l t → IsNumbered names' l t
one_kept names names' l t (more, e) h = record {
  place = h.place;
  shape = h.shape;
  name = subst (λ table. IfSome (name_of t.kind) (λ n. slice_get table n ≡ Some l.text)) (sym e) (number_kept names more (name_of t.kind) l.text h.name);
}

-- tokens keep their names where the table grows
pub numbered_kept : (names names' : List (List ℕ)) (ls : List Lexeme) (ts : List Token) → Extends names names' → AreNumbered names ls ts → AreNumbered names' ls ts
numbered_kept names names' [] [] longer h = h
numbered_kept names names' [] (t ∷ ts) longer h = h
numbered_kept names names' (l ∷ ls) [] longer h = h
numbered_kept names names' (l ∷ ls) (t ∷ ts) longer (one, rest) = (one_kept names names' l t longer one, numbered_kept names names' ls ts longer rest)

pub numbered_append : (names : List (List ℕ)) (ls : List Lexeme) (ts : List Token) (ms : List Lexeme) (us : List Token) → AreNumbered names ls ts → AreNumbered names ms us → AreNumbered names (ls ++ ms) (ts ++ us)
numbered_append names [] [] ms us h more = more
numbered_append names [] (t ∷ ts) ms us h more = absurd h
numbered_append names (l ∷ ls) [] ms us h more = absurd h
numbered_append names (l ∷ ls) (t ∷ ts) ms us (one, rest) more = (one, numbered_append names ls ts ms us rest more)

pub texts_of_append : (ls ms : List Lexeme) → texts_of (ls ++ ms) ≡ texts_of ls ++ texts_of ms
texts_of_append [] ms = refl
texts_of_append (l ∷ ls) ms = ap (λ texts. name_text l.shape l.text ++ texts) (texts_of_append ls ms) ∙ sym (append_assoc (name_text l.shape l.text) (texts_of ls) (texts_of ms))

lexemes_append : (ls ms : List Lexeme) (a : Answer) → after_lexemes ls (after_lexemes ms a) ≡ after_lexemes (ls ++ ms) a
lexemes_append ls ms (Found more) = ap Found (sym (append_assoc ls ms more))
lexemes_append ls ms (Stops place wrong) = refl

lexemes_none : (a : Answer) → a ≡ after_lexemes [] a
lexemes_none (Found more) = refl
lexemes_none (Stops place wrong) = refl

all_append : {A : Type 0} (p : A → Bool) (xs ys : List A) → list_all p xs ≡ true → list_all p ys ≡ true → list_all p (xs ++ ys) ≡ true
all_append p [] ys h more = more
all_append p (x ∷ xs) ys h more = let both = and_true (p x) (list_all p xs) h in rw both.0 (all_append p xs ys both.1 more)

place_split : (place : Place) (n : ℕ) (bytes : List ℕ) → place_after place bytes ≡ place_after (place_after place (take n bytes)) (drop n bytes)
place_split place zero bytes = refl
place_split place (suc n) [] = refl
place_split place (suc n) (c ∷ cs) = place_split (next_place place c) n cs

passed : (place place' : Place) (n : ℕ) (bytes text : List ℕ) → text ≡ take n bytes → place' ≡ place_after place text → place_after place bytes ≡ place_after place' (drop n bytes)
passed place place' n bytes text ex ep = place_split place n bytes ∙ ap (λ p. place_after p (drop n bytes)) (sym (ep ∙ ap (place_after place) ex))

-- one step after another
pub took_more : {names names' names'' : List (List ℕ)} {ts ts' ts'' : List Token} {glued glued' glued'' : Bool} {place place' place'' : Place} {bytes bytes' bytes'' : List ℕ} → Took names names' ts ts' glued glued' place place' bytes bytes' → Took names' names'' ts' ts'' glued' glued'' place' place'' bytes' bytes'' → Took names names'' ts ts'' glued glued'' place place'' bytes bytes''
took_more {names = names} {names' = names'} {names'' = names''} {ts = ts} {glued = glued} {place = place} {bytes = bytes} a b = record {
  lexemes = a.lexemes ++ b.lexemes;
  added = a.added ++ b.added;
  tokens = b.tokens ∙ (ap (λ us. us ++ b.added) a.tokens ∙ append_assoc ts a.added b.added);
  numbered = numbered_append names'' a.lexemes a.added b.lexemes b.added
      (numbered_kept names' names'' a.lexemes a.added (subst (Extends names') (sym b.table) (extends_texts (texts_of b.lexemes) names')) a.numbered) b.numbered;
  inner = all_append (λ (l : Lexeme). not (is_end l.shape)) a.lexemes b.lexemes a.inner b.inner;
  here = a.here ∙ b.here;
  few = let long = length-append a.added b.added in let first = a.few in let next = b.few in omega arith;
  table = b.table ∙ (ap (λ t. with_texts t (texts_of b.lexemes)) a.table
      ∙ (sym (texts_append (texts_of b.lexemes) (texts_of a.lexemes) names) ∙ ap (with_texts names) (sym (texts_of_append a.lexemes b.lexemes))));
  reads = λ answer h. subst (Reads glued place bytes) (lexemes_append a.lexemes b.lexemes answer) (a.reads (after_lexemes b.lexemes answer) (b.reads answer h));
}

no_texts : (names : List (List ℕ)) → names ≡ with_texts names []
unfolding with_texts
no_texts names = refl

-- no step at all
pub took_none : (names : List (List ℕ)) (ts : List Token) (glued : Bool) (place : Place) (bytes : List ℕ) → Took names names ts ts glued glued place place bytes bytes
took_none names ts glued place bytes = record {
  lexemes = [];
  added = [];
  tokens = sym (append_nil ts);
  numbered = tt;
  inner = refl;
  here = refl;
  few = omega arith;
  table = no_texts names;
  reads = λ answer h. subst (Reads glued place bytes) (lexemes_none answer) h;
}

-- a piece that is no token
pub took_skip : (names names' : List (List ℕ)) (ts ts' : List Token) (glued glued' : Bool) (place place' : Place) (bytes text : List ℕ) (size : ℕ) → names' ≡ names → ts' ≡ ts → glued' ≡ false → text ≡ take size bytes → place' ≡ place_after place text → 0 < length bytes → Skip size ≡ piece_at glued bytes → Took names names' ts ts' glued glued' place place' bytes (drop size bytes)
took_skip names names' ts ts' glued glued' place place' bytes text size en et eg ex ep some piece = record {
  lexemes = [];
  added = [];
  tokens = et ∙ sym (append_nil ts);
  numbered = tt;
  inner = refl;
  here = passed place place' size bytes text ex ep;
  few = let long = length-drop size bytes in omega arith;
  table = en ∙ no_texts names;
  reads = λ answer h. subst (Reads glued place bytes) (lexemes_none answer)
      (skipped glued place bytes size answer some (sym piece)
      (subst (λ p. Reads false p (drop size bytes) answer) (ep ∙ ap (place_after place) ex) (subst (λ g. Reads g place' (drop size bytes) answer) eg h)));
}

pub took_comment : (names names' : List (List ℕ)) (ts ts' : List Token) (glued glued' : Bool) (place place' : Place) (bytes text : List ℕ) (n : ℕ) → names' ≡ names → ts' ≡ ts → glued' ≡ false → text ≡ take (2 + n) bytes → place' ≡ place_after place text → 0 < length bytes → Comment ≡ piece_at glued bytes → Inside (drop 2 bytes) n → Took names names' ts ts' glued glued' place place' bytes (drop (2 + n) bytes)
took_comment names names' ts ts' glued glued' place place' bytes text n en et eg ex ep some piece inside = record {
  lexemes = [];
  added = [];
  tokens = et ∙ sym (append_nil ts);
  numbered = tt;
  inner = refl;
  here = passed place place' (2 + n) bytes text ex ep;
  few = let long = length-drop (2 + n) bytes in omega arith;
  table = en ∙ no_texts names;
  reads = λ answer h. subst (Reads glued place bytes) (lexemes_none answer)
      (commented glued place bytes n answer some (sym piece) inside
      (subst (λ p. Reads false p (drop (2 + n) bytes) answer) (ep ∙ ap (place_after place) ex) (subst (λ g. Reads g place' (drop (2 + n) bytes) answer) eg h)));
}

-- a token
pub took_token : (names names' : List (List ℕ)) (ts ts' : List Token) (glued glued' : Bool) (place place' : Place) (bytes text : List ℕ) (shape : Shape) (size : ℕ) (t : Token) → names' ≡ with_texts names (name_text shape text) → ts' ≡ ts ++ t ∷ [] → IsNumbered names' (lexeme place shape text) t → glued' ≡ takes_dot shape text → text ≡ take size bytes → place' ≡ place_after place text → 0 < length bytes → 0 < size → TokenPiece shape size ≡ piece_at glued bytes → is_end shape ≡ false → Took names names' ts ts' glued glued' place place' bytes (drop size bytes)
took_token names names' ts ts' glued glued' place place' bytes text shape size t en et numbered eg ex ep some above piece no_end = record {
  lexemes = lexeme place shape text ∷ [];
  added = t ∷ [];
  tokens = et;
  numbered = (numbered, tt);
  inner = rw no_end refl;
  here = passed place place' size bytes text ex ep;
  few = let long = length-drop size bytes in omega arith;
  table = en ∙ ap (with_texts names) (sym (append_nil (name_text shape text)));
  reads = λ answer h. subst (λ w. Reads glued place bytes (after_lexemes (lexeme place shape w ∷ []) answer)) (sym ex)
      (token glued place bytes shape size answer some (sym piece)
      (subst (λ p. Reads (takes_dot shape (take size bytes)) p (drop size bytes) answer) (ep ∙ ap (place_after place) ex)
      (subst (λ g. Reads g place' (drop size bytes) answer) (eg ∙ ap (takes_dot shape) ex) h)));
}

pub count_kept : (table table' : List (List ℕ)) (shape : Shape) (text : List ℕ) → table' ≡ with_texts table (name_text shape text) → length table' ≤ length table + 1
count_kept table table' shape text e = subst (λ t. length t ≤ length table + 1) (sym e) (name_count table shape text)

pub extends_kept : (table table' : List (List ℕ)) (shape : Shape) (text : List ℕ) → table' ≡ with_texts table (name_text shape text) → Extends table table'
extends_kept table table' shape text e = subst (Extends table) (sym e) (extends_texts (name_text shape text) table)

-- the refusal of a comment that is not closed, and of what is no token
pub stop_comment : (glued : Bool) (place : Place) (bytes rest : List ℕ) (fault : Fault) → 0 < length bytes → Comment ≡ piece_at glued bytes → rest ≡ drop 2 bytes → ((n : ℕ) → ¬ Inside rest n) → IfRefused (λ refusal. refusal ≡ record { code = E02; place = place; detail = detail_of OpenComment }) fault → IfRefused (IsStop glued place bytes) fault
stop_comment glued place bytes rest (Refused refusal) some piece er none e = record {
  wrong = OpenComment;
  is = e;
  stops = open_comment glued place bytes some (sym piece) (λ n inside. none n (subst (λ r. Inside r n) (sym er) inside));
}
stop_comment glued place bytes rest Memory some piece er none e = tt

pub stop_broken : (glued : Bool) (place : Place) (bytes : List ℕ) (wrong : Wrong) (fault : Fault) → 0 < length bytes → Broken wrong ≡ piece_at glued bytes → IfRefused (λ refusal. refusal ≡ record { code = E02; place = place; detail = detail_of wrong }) fault → IfRefused (IsStop glued place bytes) fault
stop_broken glued place bytes wrong (Refused refusal) some piece e = record {
  wrong = wrong;
  is = e;
  stops = broken glued place bytes wrong some (sym piece);
}
stop_broken glued place bytes wrong Memory some piece e = tt
