-- What closing does to a stack.
use Rattle.std.proofs.Common.{◌≡◌, ℕ, Bool, true, false, suc, ◌+◌, ◌-◌, ◌≤◌, ◌<◌, [], ◌∷◌, length, Option, Some, None, refl, sym, ap, ◌∙◌, arith}
use Rattle.std.specs.Prelude.{if◌then◌else◌}
use Rattle.hb_layout.specs.declared.entry.Opener.{Opener}
use Rattle.hb_layout.specs.declared.entry.Opener.TheVariants.{Let, Other}
use Rattle.hb_layout.specs.declared.entry.Entry.{Entry}
use Rattle.hb_layout.specs.declared.entry.Entry.TheVariants.{Bracket, Explicit, Implicit}
use Rattle.hb_layout.specs.Stacks.{Stack, opened, due, innermost, under, unmarked, close, closed, leading, is_top, marked_if, leaves_mark, is_let, has_mark, implicit_opener, ended_let, one_more}

pub length_under : (s : Stack) → length (under s) ≤ length s - 1
length_under [] = omega arith
length_under (due ∷ s) = let h : length (under s) ≤ length s - 1 = length_under s in omega arith
length_under (opened e ∷ s) = omega arith

pub length_unmarked : (s : Stack) → length (unmarked s) ≤ length s
length_unmarked [] = omega arith
length_unmarked (due ∷ s) = let h : length (unmarked s) ≤ length s = length_unmarked s in omega arith
length_unmarked (opened e ∷ s) = omega arith

leading_marked_if : (test : Entry → Bool) (b : Bool) (s : Stack) → leading test (marked_if b s) ≡ leading test s
leading_marked_if test true s = refl
leading_marked_if test false s = refl

leading_under : (test : Entry → Bool) (s : Stack) → is_top test s ≡ true → leading test s ≡ suc (leading test (under s))
leading_under test [] h = cc
leading_under test (due ∷ s) h = leading_under test s h
leading_under test (opened e ∷ s) h = ap (λ b. if b then suc (leading test s) else 0) h

pub leading_more : (test : Entry → Bool) (s : Stack) → is_top test s ≡ true → leading test s ≡ suc (leading test (close s))
leading_more test s h = leading_under test s h ∙ ap suc (sym (leading_marked_if test (leaves_mark (innermost s)) (under s)))

pub leading_none : (test : Entry → Bool) (s : Stack) → is_top test s ≡ false → leading test s ≡ 0
leading_none test [] h = refl
leading_none test (due ∷ s) h = leading_none test s h
leading_none test (opened e ∷ s) h = ap (λ b. if b then suc (leading test s) else 0) h

pub closed_more : (n : ℕ) (s : Stack) → closed (suc n) s ≡ closed n (close s)
unfolding closed
closed_more n s = refl

pub closed_none : (s : Stack) → closed 0 s ≡ s
unfolding closed
closed_none s = refl

-- the leading entries of a stack, all closed
pub closed_step : (test : Entry → Bool) (s : Stack) → is_top test s ≡ true → closed (leading test s) s ≡ closed (leading test (close s)) (close s)
closed_step test s h = ap (λ n. closed n s) (leading_more test s h) ∙ closed_more (leading test (close s)) s

pub closed_stop : (test : Entry → Bool) (s : Stack) → is_top test s ≡ false → closed (leading test s) s ≡ s
closed_stop test s h = ap (λ n. closed n s) (leading_none test s h) ∙ closed_none s

-- a loop that closes them one by one
pub record Closing (test : Entry → Bool) (first now : Stack) (count : ℕ) : Type 0 where
  pub number : count + leading test now ≡ leading test first
  pub stack : closed (leading test now) now ≡ closed (leading test first) first
  pub few : length now ≤ length first

pub closing_start : (test : Entry → Bool) (s : Stack) → Closing test s s 0
closing_start test s = record { number = omega arith; stack = refl; few = omega arith }

pub closing_more : (test : Entry → Bool) (first now next : Stack) (count : ℕ) → Closing test first now count → is_top test now ≡ true → next ≡ close now → length next ≤ length now → Closing test first next (count + 1)
closing_more test first now next count c h e l = record {
  number = (let n : count + leading test now ≡ leading test first = c.number in let m : leading test now ≡ suc (leading test (close now)) = leading_more test now h in rw e (omega arith));
  stack = rw e (sym (closed_step test now h) ∙ c.stack);
  few = (let f : length now ≤ length first = c.few in omega arith);
}

leading_at_most : (test : Entry → Bool) (s : Stack) → leading test s ≤ length s
leading_at_most test [] = omega arith
leading_at_most test (due ∷ s) = let h : leading test s ≤ length s = leading_at_most test s in omega arith
leading_at_most test (opened e ∷ s) = let h : leading test s ≤ length s = leading_at_most test s in at_most (test e) h where
  at_most : (b : Bool) → leading test s ≤ length s → (if b then suc (leading test s) else 0) ≤ suc (length s)
  at_most true h = omega arith
  at_most false h = omega arith

pub closing_count : (test : Entry → Bool) (first now : Stack) (count : ℕ) → Closing test first now count → count ≤ length first
closing_count test first now count c =
    let n : count + leading test now ≡ leading test first = c.number in
    let h : leading test first ≤ length first = leading_at_most test first in omega arith

pub closing_falls : (test : Entry → Bool) (now next : Stack) → is_top test now ≡ true → next ≡ close now → leading test next < leading test now
closing_falls test now next h e = let m : leading test now ≡ suc (leading test (close now)) = leading_more test now h in rw e (omega arith)

pub closing_number : (test : Entry → Bool) (first now : Stack) (count : ℕ) → Closing test first now count → is_top test now ≡ false → count ≡ leading test first
closing_number test first now count c h =
    let n : count + leading test now ≡ leading test first = c.number in
    let m : leading test now ≡ 0 = leading_none test now h in omega arith

pub closing_stack : (test : Entry → Bool) (first now : Stack) (count : ℕ) → Closing test first now count → is_top test now ≡ false → now ≡ closed (leading test first) first
closing_stack test first now count c h = sym (closed_stop test now h) ∙ c.stack

-- what an `in` takes, after so many blocks closed
abbrev pub later : ℕ → Option (ℕ × Stack) → Option (ℕ × Stack)
later count None = None
later count (Some p) = Some (count + p.0, p.1)

pub record Taking (first now : Stack) (count : ℕ) : Type 0 where
  pub same : ended_let first ≡ later count (ended_let now)
  pub few : count + length now ≤ length first

later_none : (o : Option (ℕ × Stack)) → o ≡ later 0 o
later_none None = refl
later_none (Some p) = let e : p.0 ≡ 0 + p.0 = omega arith in ap (λ n. Some (n, p.1)) e

pub taking_start : (s : Stack) → Taking s s 0
taking_start s = record { same = later_none (ended_let s); few = omega arith }

later_more : (count : ℕ) (o : Option (ℕ × Stack)) → later count (one_more o) ≡ later (count + 1) o
later_more count None = refl
later_more count (Some p) = let e : count + suc p.0 ≡ count + 1 + p.0 = omega arith in ap (λ n. Some (n, p.1)) e

ended_other : (s : Stack) (w : Opener) → has_mark s ≡ false → implicit_opener (innermost s) ≡ Some w → is_let w ≡ false → ended_let s ≡ one_more (ended_let (under s))
ended_other [] w m i l = cc
ended_other (due ∷ s) w m i l = cc
ended_other (opened (Bracket b) ∷ s) w m i l = cc
ended_other (opened (Explicit v) ∷ s) w m i l = cc
ended_other (opened (Implicit c Other) ∷ s) w m i l = refl
ended_other (opened (Implicit c Let) ∷ s) w m i l = let e : Let ≡ w = cc in let f : is_let Let ≡ false = ap is_let e ∙ l in cc

ended_by_let : (s : Stack) (w : Opener) → has_mark s ≡ false → implicit_opener (innermost s) ≡ Some w → is_let w ≡ true → ended_let s ≡ Some (1, under s)
ended_by_let [] w m i l = cc
ended_by_let (due ∷ s) w m i l = cc
ended_by_let (opened (Bracket b) ∷ s) w m i l = cc
ended_by_let (opened (Explicit v) ∷ s) w m i l = cc
ended_by_let (opened (Implicit c Let) ∷ s) w m i l = refl
ended_by_let (opened (Implicit c Other) ∷ s) w m i l = let e : Other ≡ w = cc in let f : is_let Other ≡ true = ap is_let e ∙ l in cc

ended_never : (s : Stack) → has_mark s ≡ false → implicit_opener (innermost s) ≡ None → ended_let s ≡ None
ended_never [] m i = refl
ended_never (due ∷ s) m i = cc
ended_never (opened (Bracket b) ∷ s) m i = refl
ended_never (opened (Explicit v) ∷ s) m i = refl
ended_never (opened (Implicit c w) ∷ s) m i = cc

pub length_of_some : (s : Stack) (w : Opener) → implicit_opener (innermost s) ≡ Some w → 0 < length s
length_of_some [] w i = cc
length_of_some (e ∷ s) w i = omega arith

pub taking_more : (first now next : Stack) (count : ℕ) (w : Opener) → Taking first now count → has_mark now ≡ false → Some w ≡ implicit_opener (innermost now) → is_let w ≡ false → next ≡ under now → length next ≤ length now - 1 → Taking first next (count + 1)
taking_more first now next count w t m i l e n =
    let f : count + length now ≤ length first = t.few in
    let p : 0 < length now = length_of_some now w (sym i) in
    record {
      same = rw e (t.same ∙ (ap (later count) (ended_other now w m (sym i) l) ∙ later_more count (ended_let (under now))));
      few = omega arith;
    }

pub taken_mark : (first now next : Stack) (count : ℕ) → Taking first now count → now ≡ due ∷ next → ended_let first ≡ Some (count, next)
taken_mark first now next count t e = let z : count + 0 ≡ count = omega arith in t.same ∙ (ap (λ s. later count (ended_let s)) e ∙ ap (λ n. Some (n, next)) z)

pub taken_let : (first now next : Stack) (count : ℕ) (w : Opener) → Taking first now count → has_mark now ≡ false → Some w ≡ implicit_opener (innermost now) → is_let w ≡ true → next ≡ under now → ended_let first ≡ Some (count + 1, next)
taken_let first now next count w t m i l e = rw e (t.same ∙ ap (later count) (ended_by_let now w m (sym i) l))

pub taken_never : (first now : Stack) (count : ℕ) → Taking first now count → has_mark now ≡ false → None ≡ implicit_opener (innermost now) → ended_let first ≡ None
taken_never first now count t m i = t.same ∙ ap (later count) (ended_never now m (sym i))

pub taking_count : (first now : Stack) (count : ℕ) → Taking first now count → count ≤ length first
taking_count first now count t = let f : count + length now ≤ length first = t.few in omega arith
