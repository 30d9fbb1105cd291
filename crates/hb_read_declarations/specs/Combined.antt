-- A reader that is worth something else than another.
use Rattle.std.specs.Prelude.{Option, Some, None}
use Rattle.hb_grammar.specs.Reading.{Reader}

abbrev pub mapped : {A B : Type 0} → (A → B) → Option A → Option B
mapped f None = None
mapped f (Some a) = Some (f a)

abbrev pub worth_of : {A V W : Type 0} → (V → W) → Reader A V → Reader A W
worth_of f a = record { start = a.start; move = a.move; done = λ s. mapped f (a.done s) }
