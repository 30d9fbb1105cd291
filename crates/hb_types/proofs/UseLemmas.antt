-- A table of uses grows at its end, and says the same when more types come.
use Rattle.std.proofs.Common.{◌≡◌, ℕ, suc, List, [], ◌∷◌, ◌++◌, length, map, sym, refl, ap, ◌∙◌, subst, arith, ⊎_elim, length-append}
use Rattle.std.proofs.lemmas.List.{get_or_append_left, get_or_push, get_or_past}
use Rattle.std.proofs.lemmas.Bool.{cases_eq, cases_lt}
use Rattle.hb_types.specs.declared.instance_use.UseForm.{UseForm}
use Rattle.hb_types.specs.Made.{made_from}
use Rattle.hb_types.specs.Types.{Ty}
use Rattle.hb_types.specs.Tables.{Extends}
use Rattle.hb_types.specs.Put.{ArePlaces}
use Rattle.hb_types.specs.Uses.{InstanceUse, AUse, uses}
use Rattle.hb_types.specs.UseTables.{use_at, use_built, uses_of, HasContextBelow, no_use, use_form_at, AreUses}
use Rattle.hb_types.proofs.PutLemmas.{types_at-more, places-more}
use Rattle.hb_types.proofs.MadeLemmas.{made-push, laid-more, laid-empty}

no-context : (k : ℕ) → HasContextBelow k no_use
no-context k j h = absurd (omega (arith, h))

no-types : (types : List Ty) → ArePlaces types no_use.types
no-types types j h = absurd (omega (arith, h))

pub uses-none : (types : List Ty) (ns : List UseForm) → ns ≡ [] → AreUses types ns
uses-none types ns e = record {
  laid = laid-empty HasContextBelow no_use no-context ns e;
  typed = λ k. subst (λ (n : UseForm). ArePlaces types n.types) (sym (get_or_past ns k no_use (rw e (omega arith)))) (no-types types);
}

pub uses-push : (types : List Ty) (ns : List UseForm) (n : UseForm) → AreUses types ns → ArePlaces types n.types → HasContextBelow (length ns) n → AreUses types (ns ++ n ∷ [])
uses-push types ns n a typed below = record {
  laid = laid-more HasContextBelow no_use no-context ns n a.laid below;
  typed = λ k.
      ⊎_elim
      (λ lt. subst (λ (m : UseForm). ArePlaces types m.types) (sym (get_or_append_left ns (n ∷ []) no_use k lt)) (a.typed k))
      (λ ge. ⊎_elim
      (λ e. subst (λ (m : UseForm). ArePlaces types m.types) (sym (get_or_push ns n no_use k (sym e))) typed)
      (λ ne. subst (λ (m : UseForm). ArePlaces types m.types) (sym (get_or_past (ns ++ n ∷ []) k no_use (omega (arith, ge, ne, length-append ns (n ∷ []))))) (no-types types))
      (cases_eq k (length ns)))
      (cases_lt k (length ns));
}

pub uses_of-push : (types : List Ty) (ns : List UseForm) (n : UseForm) → uses_of types (ns ++ n ∷ []) ≡ uses_of types ns ++ use_built types (uses_of types ns) n ∷ []
uses_of-push types ns n = made-push (use_built types) [] ns n

made-more : (types new : List Ty) (us : List InstanceUse) (ns : List UseForm) → Extends types new → ((k : ℕ) → ArePlaces types (use_form_at ns k).types) →
    made_from (use_built new) us ns ≡ made_from (use_built types) us ns
made-more types new us [] x w = refl
made-more types new us (n ∷ ns) x w =
    let same : use_built new us n ≡ use_built types us n = ap (λ ts. AUse n.instance ts (uses (map (use_at us) n.context))) (types_at-more types new n.types x (w 0)) in
    ap (λ u. made_from (use_built new) (us ++ u ∷ []) ns) same ∙ made-more types new (us ++ use_built types us n ∷ []) ns x (λ k. w (suc k))

-- uses stay what they are when more types come
pub uses-more : (types new : List Ty) (ns : List UseForm) → Extends types new → AreUses types ns → (uses_of new ns ≡ uses_of types ns) × AreUses new ns
uses-more types new ns x a = (
  made-more types new [] ns x a.typed,
  record { laid = a.laid; typed = λ k. places-more types new (use_form_at ns k).types x (a.typed k) },
)
