-- What the next read of a shelf in memory answers.
use Rattle.std.proofs.Common.{◌≡◌, ◌∙◌, sym, refl, ap, ℕ, Bool, true, false, cond, List, take, length, min, Option, Some, None}
use Rattle.std.specs.Option.{option_map}
use Rattle.std.specs.FinMap.{get}
use Rattle.std.proofs.lemmas.List.{take_min}
use Rattle.hb_io.specs.FakeShelf.{FakeShelf, fails, reads}

cond-none : (b : Bool) (o : Option (List ℕ)) → o ≡ None → cond b None o ≡ None
cond-none true o none = refl
cond-none false o none = none

pub reads-missing : (shelf : FakeShelf) (name : List ℕ) (cap : ℕ) → get shelf.files name ≡ None → reads shelf name cap ≡ None
reads-missing shelf name cap none = cond-none (fails shelf) _ (ap (option_map (take cap)) none)

pub reads-found : (shelf : FakeShelf) (name : List ℕ) (cap : ℕ) (front : List ℕ) → fails shelf ≡ false → option_map (take cap) (get shelf.files name) ≡ Some front → reads shelf name cap ≡ Some front
reads-found shelf name cap front passes found = ap (λ b. cond b None (option_map (take cap) (get shelf.files name))) passes ∙ found

-- to take `cap` bytes is to take as many of them as there are
pub front-found : (cap : ℕ) (bytes front : List ℕ) (found : Option (List ℕ)) → Some bytes ≡ found → front ≡ take (min cap (length bytes)) bytes → option_map (take cap) found ≡ Some front
front-found cap bytes front found is e = ap (option_map (take cap)) (sym is) ∙ ap Some (sym (take_min cap bytes) ∙ sym e)
