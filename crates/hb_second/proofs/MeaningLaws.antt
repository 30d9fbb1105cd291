-- What a source shows grows: by an event, by its end, or not at all.
use Rattle.std.proofs.Common.{◌≡◌, ℕ, zero, suc, ◌-◌, List, [], ◌∷◌, ◌++◌, Option, Some, None, refl, sym, ap, subst, arith}
use Rattle.hb_base.specs.declared.script.ScriptLine.{ScriptLine}
use Rattle.hb_base.specs.declared.step.Step.{Step}
use Rattle.hb_base.specs.declared.step.Step.TheVariants.{Read as ShowsRead, Wrote}
use Rattle.hb_base.specs.declared.step.Stop.{Stop}
use Rattle.hb_base.specs.declared.step.Stop.TheVariants.{Done, InputEnd}
use Rattle.hb_runs.specs.Outcome.{Outcome, nothing_yet, GrowsTo, Stays, Shows, Ends, Grows}
use Rattle.hb_second.specs.declared.source.Atom.TheVariants.{Literal}
use Rattle.hb_second.specs.declared.source.Argument.TheVariants.{Atom as OneAtom, Operation}
use Rattle.hb_second.specs.declared.source.Statement.{Statement}
use Rattle.hb_second.specs.declared.source.Statement.TheVariants.{Read, Write}
use Rattle.hb_second.specs.declared.source.Source.{Source}
use Rattle.hb_base.specs.Inputs.{first_value, without_first}
use Rattle.hb_second.specs.Meaning.{goes, says, ended, after_event, operate, value}

-- an event before keeps growth
after : (event : Step) (o p : Outcome Step Stop) → GrowsTo o p → GrowsTo (after_event event o) (after_event event p)
after event o p (Stays e) = Stays (ap (after_event event) e)
after event o p (Shows next going e) = Shows next going (ap (after_event event) e)
after event o p (Ends stop going e) = Ends stop going (ap (after_event event) e)

-- the first step shows an event or the end, or nothing
one : (ss : List Statement) (values : List ℕ) (lines : List ScriptLine) → GrowsTo nothing_yet (goes 1 ss values lines)
unfolding goes
one [] values lines = Ends Done refl refl
one (Read port ∷ ss) values lines = by_line (first_value port lines)
  where
    by_line : (o : Option ℕ) → GrowsTo nothing_yet (elim o as (λ _. Outcome Step Stop) [ None ↦ ended (InputEnd port) | Some v ↦ after_event (ShowsRead port v) nothing_yet ])
    by_line None = Ends (InputEnd port) refl refl
    by_line (Some v) = Shows (ShowsRead port v) refl refl
one (Write port (OneAtom a) ∷ ss) values lines = Shows (Wrote port (value values a)) refl refl
one (Write port (Operation a o b) ∷ ss) values lines = Stays refl

abbrev Growing : ℕ → Type 0
Growing n = (ss : List Statement) (values : List ℕ) (lines : List ScriptLine) → GrowsTo (goes n ss values lines) (goes (suc n) ss values lines)

more : (n : ℕ) → Growing n → (ss : List Statement) (values : List ℕ) (lines : List ScriptLine) → GrowsTo (goes (suc n) ss values lines) (goes (suc (suc n)) ss values lines)
unfolding goes
more n go [] values lines = Stays refl
more n go (Read port ∷ ss) values lines = by_line (first_value port lines)
  where
    by_line : (o : Option ℕ) → GrowsTo (elim o as (λ _. Outcome Step Stop) [ None ↦ ended (InputEnd port) | Some v ↦ after_event (ShowsRead port v) (goes n ss (values ++ v ∷ []) (without_first port lines)) ]) (elim o as (λ _. Outcome Step Stop) [ None ↦ ended (InputEnd port) | Some v ↦ after_event (ShowsRead port v) (goes (suc n) ss (values ++ v ∷ []) (without_first port lines)) ])
    by_line None = Stays refl
    by_line (Some v) = after (ShowsRead port v) _ _ (go ss (values ++ v ∷ []) (without_first port lines))
more n go (Write port (OneAtom a) ∷ ss) values lines = after (Wrote port (value values a)) _ _ (go ss values lines)
more n go (Write port (Operation a o b) ∷ ss) values lines = go (Write port (OneAtom (Literal (operate o (value values a) (value values b)))) ∷ ss) values lines

growing : (n : ℕ) → Growing n
unfolding goes
growing zero ss values lines = one ss values lines
growing (suc n) ss values lines = more n (growing n) ss values lines

says_more : (source : Source) (lines : List ScriptLine) (n : ℕ) → GrowsTo (says source lines n) (says source lines (suc n))
unfolding says goes
says_more source lines zero = Stays refl
says_more source lines (suc zero) = Stays refl
says_more source lines (suc (suc n)) =
    let e : suc (suc n) - 2 ≡ n = omega arith in
    let f : suc (suc (suc n)) - 2 ≡ suc n = omega arith in
    subst (λ m. GrowsTo (goes m source.statements [] lines) (goes (suc (suc (suc n)) - 2) source.statements [] lines)) (sym e)
    (subst (λ m. GrowsTo (goes n source.statements [] lines) (goes m source.statements [] lines)) (sym f) (growing n source.statements [] lines))

-- what a source shows grows by counts
pub says_grows : (source : Source) (lines : List ScriptLine) → Grows (says source lines)
unfolding says goes
says_grows source lines = record { starts = refl; grows = says_more source lines }
