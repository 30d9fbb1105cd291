-- How the words on what a sink has taken go together, for those who compose puts.
use Rattle.std.specs.Prelude.{◌≡◌, ℕ, ◌+◌, List, [], ◌++◌, length, take, Option, None, Some, is_some, min}
use Rattle.std.proofs.Common.{refl, sym, ap, ◌∙◌, append_assoc, append-nil, arith}
use Rattle.std.proofs.Math.Seq.{take-append-add, take-length}
use Rattle.std.proofs.lemmas.List.{take-append-le, take_min}
use Rattle.hb_io.specs.Taken.{appended, TookFront}

-- two puts are one put of both texts
pub appended-appended : (taken : Option (List ℕ)) (first second : List ℕ) → appended (appended taken first) second ≡ appended taken (first ++ second)
appended-appended None first second = refl
appended-appended (Some taken) first second = ap Some (append_assoc taken first second)

pub appended-nothing : (taken : Option (List ℕ)) → appended taken [] ≡ taken
appended-nothing None = refl
appended-nothing (Some taken) = ap Some (append-nil taken)

-- what is told stays told, and what is not told stays so
pub is_some-appended : (taken : Option (List ℕ)) (bytes : List ℕ) → is_some (appended taken bytes) ≡ is_some taken
is_some-appended None bytes = refl
is_some-appended (Some taken) bytes = refl

-- nothing and everything are fronts
pub took_nothing : (taken : Option (List ℕ)) (bytes : List ℕ) → TookFront taken bytes taken
took_nothing taken bytes = (0, sym (appended-nothing taken))

pub took_all : (taken : Option (List ℕ)) (bytes : List ℕ) → TookFront taken bytes (appended taken bytes)
took_all taken bytes = (length bytes, ap (appended taken) (sym (take-length bytes)))

-- a front of one text is a front of a longer one
pub took_of_more : (old : Option (List ℕ)) (first second : List ℕ) (new : Option (List ℕ)) → TookFront old first new → TookFront old (first ++ second) new
took_of_more old first second new took =
    (min took.0 (length first), took.1 ∙ ap (appended old) (sym (take_min took.0 first) ∙ sym (take-append-le (min took.0 (length first)) first second (omega arith))))

-- after a whole first text, a front of the second makes a front of both
pub took_after : (old : Option (List ℕ)) (first second : List ℕ) (new : Option (List ℕ)) → TookFront (appended old first) second new → TookFront old (first ++ second) new
took_after old first second new took =
    (length first + took.0, took.1 ∙ appended-appended old first (take took.0 second) ∙ ap (appended old) (sym (take-append-add first second took.0)))
