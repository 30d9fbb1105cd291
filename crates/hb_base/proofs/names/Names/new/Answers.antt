use Rattle.std.proofs.Common.{◌≡◌, ◌∙◌, ℕ, refl, ap, sym, subst, arith, [], List, map, Vec, Global}
use Rattle.std.specs.List.{IsDistinct}
use Rattle.hb_base.specs.Names.{IsTable, with_texts, fixed_names}
use Rattle.hb_base.proofs.names.Names.new.Goals as goal

none : IsTable []
unfolding IsDistinct
none = record { few = omega arith; distinct = tt }

-- src/names.rt:38:9
pub invariant_of-names : goal.invariant_of-names
invariant_of-names c = subst (λ (keys : List (Vec ℕ Global)). IsTable (map (λ text. text.items) keys)) (sym c.new.ensures.empty) none

fixed_once : with_texts [] fixed_names ≡ fixed_names
unfolding with_texts
fixed_once = refl

-- src/names.rt:31:5
pub returns : goal.returns
returns c =
    record { fixed = c.in_ok-intern_all.ensures.texts ∙ ap (λ (keys : List (Vec ℕ Global)). with_texts (map (λ text. text.items) keys) fixed_names) c.new.ensures.empty ∙ fixed_once }
