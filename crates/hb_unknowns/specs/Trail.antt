-- What was changed, and how it is taken back.
use Rattle.std.specs.Prelude.{◌≡◌, ℕ, ◌<◌, List, [], ◌∷◌, length, map, slice_set}
use Rattle.hb_unknowns.specs.declared.node.Entry.{Entry}
use Rattle.hb_unknowns.specs.declared.trail.Change.{Change}

-- the first change is taken back last
abbrev pub restored : List Change → List Entry → List Entry
restored [] entries = entries
restored (c ∷ cs) entries = slice_set (restored cs entries) c.place c.entry

abbrev pub AreInside : ℕ → List Change → Type 0
AreInside size [] = Unit {0}
AreInside size (c ∷ cs) = (c.place < size) × AreInside size cs

-- what is restored is the same after a change as before
pub record IsTracked (old : List Entry) (before : List Change) (new : List Entry) (after : List Change) : Type 0 where
  pub size : length new ≡ length old
  pub inside : AreInside (length new) after
  pub back : restored after new ≡ restored before old

abbrev pub written_places : List Change → List ℕ
written_places cs = map (λ c. c.place) cs
