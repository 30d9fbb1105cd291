-- Taking changes back.
use Rattle.std.proofs.Common.{◌≡◌, ℕ, zero, suc, ◌<◌, List, [], ◌∷◌, ◌++◌, length, set, sym, refl, ap, ◌∙◌, subst, length-set}
use Rattle.hb_unknowns.specs.declared.node.Entry.{Entry}
use Rattle.hb_unknowns.specs.declared.trail.Change.{Change}
use Rattle.hb_unknowns.specs.Joined.{entry_at}
use Rattle.hb_unknowns.specs.Trail.{restored, AreInside, IsTracked}

pub restored-push : (cs : List Change) (c : Change) (entries : List Entry) → restored (cs ++ c ∷ []) entries ≡ restored cs (set entries c.place c.entry)
restored-push [] c entries = refl
restored-push (b ∷ cs) c entries = ap (λ es. set es b.place b.entry) (restored-push cs c entries)

pub length-restored : (cs : List Change) (entries : List Entry) → length (restored cs entries) ≡ length entries
length-restored [] entries = refl
length-restored (c ∷ cs) entries = length-set (restored cs entries) c.place c.entry ∙ length-restored cs entries

pub inside-push : (size : ℕ) (cs : List Change) (c : Change) → AreInside size cs → c.place < size → AreInside size (cs ++ c ∷ [])
inside-push size [] c h l = (l, tt)
inside-push size (b ∷ cs) c h l = (h.0, inside-push size cs c h.1 l)

pub inside-split : (size : ℕ) (cs : List Change) (c : Change) → AreInside size (cs ++ c ∷ []) → AreInside size cs × (c.place < size)
inside-split size [] c h = (tt, h.0)
inside-split size (b ∷ cs) c h = let rest = inside-split size cs c h.1 in ((h.0, rest.0), rest.1)

-- writing back what was there
set-back : (entries : List Entry) (place : ℕ) (e : Entry) → set (set entries place e) place (entry_at entries place) ≡ entries
set-back [] zero e = refl
set-back [] (suc n) e = refl
set-back (x ∷ xs) zero e = refl
set-back (x ∷ xs) (suc n) e = ap (λ es. x ∷ es) (set-back xs n e)

pub written : (entries : List Entry) (cs : List Change) (place : ℕ) (e : Entry) → place < length entries → AreInside (length entries) cs →
    IsTracked entries cs (set entries place e) (cs ++ record { place = place; entry = entry_at entries place } ∷ [])
written entries cs place e h i =
    let size : length (set entries place e) ≡ length entries = length-set entries place e in
    record {
      size = size;
      inside = subst (λ (n : ℕ). AreInside n (cs ++ record { place = place; entry = entry_at entries place } ∷ [])) (sym size) (inside-push (length entries) cs _ i h);
      back = restored-push cs (record { place = place; entry = entry_at entries place }) (set entries place e) ∙ ap (restored cs) (set-back entries place e);
    }

pub tracked-start : (entries : List Entry) (cs : List Change) → AreInside (length entries) cs → IsTracked entries cs entries cs
tracked-start entries cs h = record { size = refl; inside = h; back = refl }

pub tracked-more : (a b c : List Entry) (first second third : List Change) → IsTracked a first b second → IsTracked b second c third → IsTracked a first c third
tracked-more a b c first second third p q = record { size = q.size ∙ p.size; inside = q.inside; back = q.back ∙ p.back }

pub last-inside : (size : ℕ) (before rest : List Change) (c : Change) → AreInside size before → before ≡ rest ++ c ∷ [] → AreInside size rest × (c.place < size)
last-inside size before rest c h e = inside-split size rest c (subst (AreInside size) e h)

pub undone : (entries original : List Entry) (before rest : List Change) (c : Change) → before ≡ rest ++ c ∷ [] → AreInside (length entries) before → restored before entries ≡ original →
    AreInside (length (set entries c.place c.entry)) rest × (restored rest (set entries c.place c.entry) ≡ original)
undone entries original before rest c e h back = (
  subst (λ (n : ℕ). AreInside n rest) (sym (length-set entries c.place c.entry)) (last-inside (length entries) before rest c h e).0,
  sym (restored-push rest c entries) ∙ sym (ap (λ cs. restored cs entries) e) ∙ back,
)
