-- A shelf in memory: what it holds, and what one call does to it.
use Rattle.std.specs.Prelude.{ℕ, ◌==◌, Bool, if◌then◌else◌, List, take, Option, None, Result, Ok, Err, refl}
use Rattle.std.specs.Option.{option_map}
use Rattle.std.specs.List.{list_any}
use Rattle.std.specs.Coded.{Coded, code_by, coded_ℕ, coded_list, coded×}
use Rattle.std.specs.FinMap as map
use Rattle.hb_io.specs.Counts.{raised}
use Rattle.hb_io.specs.Files.{Files}
use Rattle.hb_io.specs.declared.shelf.ShelfError.{ShelfError}
use Rattle.hb_io.specs.declared.shelf.ShelfError.TheVariants.{Failed, Memory}

-- the files; the numbers of the calls of `read` and `write` together that fail, from 1; how many calls there
-- were; how many reads and how many writes failed
pub record FakeShelf : Type 0 where
  pub files : Files
  pub failing : List ℕ
  pub calls : ℕ
  pub read_faults : ℕ
  pub write_faults : ℕ

-- no file, and no call so far
abbrev pub empty_shelf : List ℕ → FakeShelf
empty_shelf failing_calls = record { files = map.empty; failing = failing_calls; calls = 0; read_faults = 0; write_faults = 0 }

-- the shelf with this file put on it, in the place of one of that name
abbrev pub with_file : FakeShelf → List ℕ → List ℕ → FakeShelf
with_file shelf name bytes = record shelf { files = map.insert shelf.files name bytes }

-- the next call is one of those that fail
abbrev pub fails : FakeShelf → Bool
fails shelf = list_any (λ call. call == raised shelf.calls) shelf.failing

-- what the next call answers if it reads this much of the named file, or none where that is a fault
abbrev pub reads : FakeShelf → List ℕ → ℕ → Option (List ℕ)
reads shelf name cap = if fails shelf then None else option_map (take cap) (map.get shelf.files name)

-- the shelf after one more call that was no fault and changed no file
abbrev pub called : FakeShelf → FakeShelf
called shelf = record shelf { calls = raised shelf.calls }

-- the shelf after a read with this answer
abbrev pub after_read : {T : Type 0} → FakeShelf → Result T ShelfError → FakeShelf
after_read shelf (Ok bytes) = called shelf
after_read shelf (Err Failed) = record (called shelf) { read_faults = raised shelf.read_faults }
after_read shelf (Err Memory) = called shelf

-- the shelf after a write of these bytes with this answer
abbrev pub after_write : {T : Type 0} → FakeShelf → List ℕ → List ℕ → Result T ShelfError → FakeShelf
after_write shelf name bytes (Ok done) = with_file (called shelf) name bytes
after_write shelf name bytes (Err Failed) = record (called shelf) { write_faults = raised shelf.write_faults }
after_write shelf name bytes (Err Memory) = called shelf

-- a shelf is stored as the tuple of its fields
abbrev pub fake_shelf_code : Coded FakeShelf
fake_shelf_code =
    code_by (Files × (List ℕ × (ℕ × (ℕ × ℕ))))
    (coded× (map.code (coded_list coded_ℕ) (coded_list coded_ℕ)) (coded× (coded_list coded_ℕ) (coded× coded_ℕ (coded× coded_ℕ coded_ℕ))))
    (λ s. (s.files, (s.failing, (s.calls, (s.read_faults, s.write_faults)))))
    (λ t. record { files = t.0; failing = t.1.0; calls = t.1.1.0; read_faults = t.1.1.1.0; write_faults = t.1.1.1.1 })
    (λ _. refl)
