-- Which predicates hold at ground types, with the instances by which they do; and which are entailed where some are given.
use Rattle.std.specs.Prelude.{◌≡◌, ℕ, ◌-◌, ◌^◌, true, List, [], ◌∷◌, length, slice_get, Some}
use Rattle.hb_types.specs.Types.{Ty}
use Rattle.hb_types.specs.declared.scheme.Pred.{Pred}
use Rattle.hb_types.specs.Uses.{InstanceUse, AUse, Uses, NoUses, MoreUses}
use Rattle.hb_types.specs.Put.{puts}
use Rattle.hb_core.specs.View.{View, Instance}
use Rattle.hb_core.specs.Facts.{is_fact}

abbrev pub pred_at : ℕ → List Ty → Pred
pred_at class args = record { class = class; args = args }

-- a predicate with types in the place of variables
abbrev pub put_pred : List Ty → Pred → Pred
put_pred ts p = pred_at p.class (puts ts p.args)

abbrev pub put_preds : List Ty → List Pred → List Pred
put_preds ts [] = []
put_preds ts (p ∷ ps) = put_pred ts p ∷ put_preds ts ps

-- one of a list
pub data IsOneOf {A : Type 0} (x : A) : List A → Type 0 where
  Here : (xs : List A) → IsOneOf x (x ∷ xs)
  There : (y : A) (xs : List A) → IsOneOf x xs → IsOneOf x (y ∷ xs)

-- ---- what holds

-- a fact that holds by itself chooses no instance
abbrev pub no_instance : InstanceUse
no_instance = AUse (2 ^ 32 - 1) [] NoUses

mutual
  -- the predicate holds by this instance at types, with how its context holds, or by itself
  pub data Chosen (P : View) : Pred → InstanceUse → Type 0 where
    ByItself : (p : Pred) → is_fact P p ≡ true → Chosen P p no_instance
    ByInstance : (n : ℕ) (i : Instance) (ts : List Ty) (us : Uses) → slice_get P.instances n ≡ Some i → length ts ≡ i.variables → AllChosen P (put_preds ts i.context) us → Chosen P (pred_at i.class (puts ts i.head)) (AUse n ts us)

  pub data AllChosen (P : View) : List Pred → Uses → Type 0 where
    NoneChosen : AllChosen P [] NoUses
    MoreChosen : (p : Pred) (ps : List Pred) (u : InstanceUse) (us : Uses) → Chosen P p u → AllChosen P ps us → AllChosen P (p ∷ ps) (MoreUses u us)

-- the least relation on ground predicates: a fact, or an instance's head whose context holds
abbrev pub Holds : View → Pred → Type 0
Holds P p = (u : InstanceUse) × Chosen P p u

-- ---- what is entailed

mutual
  -- a given, a predicate of the context of a class that is entailed, an instance whose context is entailed, or a fact
  pub data Entails (P : View) (givens : List Pred) : Pred → Type 0 where
    Given : (p : Pred) → IsOneOf p givens → Entails P givens p
    Superclass : (p : Pred) (class : ℕ) (args : List Ty) → Entails P givens (pred_at class args) → IsOneOf p (put_preds args (P.supers class)) → Entails P givens p
    Instanced : (n : ℕ) (i : Instance) (ts : List Ty) → slice_get P.instances n ≡ Some i → length ts ≡ i.variables → AllEntailed P givens (put_preds ts i.context) → Entails P givens (pred_at i.class (puts ts i.head))
    Fact : (p : Pred) → is_fact P p ≡ true → Entails P givens p

  pub data AllEntailed (P : View) (givens : List Pred) : List Pred → Type 0 where
    NoneEntailed : AllEntailed P givens []
    MoreEntailed : (p : Pred) (ps : List Pred) → Entails P givens p → AllEntailed P givens ps → AllEntailed P givens (p ∷ ps)
