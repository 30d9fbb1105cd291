-- A sink in memory: what it holds, and what one put does to it.
use Rattle.std.specs.Prelude.{ℕ, ◌-◌, ◌/◌, ◌==◌, Bool, ◌||◌, not, nat_le, if◌then◌else◌, min, List, [], ◌++◌, length, take}
use Rattle.std.specs.List.{list_any}
use Rattle.hb_io.specs.Counts.{raised}

-- the bytes taken; how many it has room for in all; the numbers of the puts that fail, from 1; how many puts
-- there were; how many of them failed
pub record FakeSink : Type 0 where
  pub bytes : List ℕ
  pub space : ℕ
  pub failing : List ℕ
  pub puts : ℕ
  pub faults : ℕ

-- nothing taken, and no put so far
abbrev pub empty_sink : ℕ → List ℕ → FakeSink
empty_sink room_for failing_puts = record { bytes = []; space = room_for; failing = failing_puts; puts = 0; faults = 0 }

-- the next put is one of those that fail
abbrev pub fails : FakeSink → Bool
fails sink = list_any (λ put. put == raised sink.puts) sink.failing

-- how many bytes still fit
abbrev pub room : FakeSink → ℕ
room sink = sink.space - length sink.bytes

-- how many bytes the next put takes of so many: half where it fails, and never more than fit
abbrev pub takes : FakeSink → ℕ → ℕ
takes sink count = min (if fails sink then count / 2 else count) (room sink)

-- the next put does not take so many bytes without a fault
abbrev pub refuses : FakeSink → ℕ → Bool
refuses sink count = fails sink || not (nat_le count (room sink))

-- the sink after a put of these bytes
abbrev pub after_put : FakeSink → List ℕ → FakeSink
after_put sink given = record sink {
  bytes = sink.bytes ++ take (takes sink (length given)) given;
  puts = raised sink.puts;
  faults = if refuses sink (length given) then raised sink.faults else sink.faults;
}
