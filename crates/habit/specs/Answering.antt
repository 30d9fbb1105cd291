-- What the program answers once it has its words, or found no memory for them.
use Rattle.std.specs.Prelude.{◌≡◌, ℕ, List, Result, Ok, Err}
use Rattle.hb_base.specs.declared.memory.Memory.{Memory}
use Rattle.hb_top.specs.Answers.{Answers}
use Rattle.hb_top.specs.World.{World}

-- the top call's answer; without memory for the words the status is 12, and nothing is touched
abbrev pub AnswersFor : Result (List (List ℕ)) Memory → ℕ → World → World → Type 0
AnswersFor (Ok words) status old new = Answers words status old new
AnswersFor (Err memory) status old new = (status ≡ 12) × (new ≡ old)
