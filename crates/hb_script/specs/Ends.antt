-- The last line of a run.
use Rattle.std.specs.Prelude.{ℕ, ◌<◌, List, [], ◌∷◌, ◌++◌, length, slice_get, codes, decimal}
use Rattle.std.specs.Option.{option_map_or}
use Rattle.hb_base.specs.declared.port.Port.{Port}
use Rattle.hb_base.specs.declared.step.Stop.{Stop}
use Rattle.hb_base.specs.declared.step.Stop.TheVariants.{Done, Halt, Stack, InputEnd, Steps, Illegal, Misaligned, Unmapped, Break, Sink}

-- `end`, how it ended, the number of steps, and a line feed
abbrev pub end_line : List ℕ → ℕ → List ℕ
end_line cause done = codes "end " ++ cause ++ 32 ∷ decimal done ++ 10 ∷ []

-- the name of the port of this number
abbrev pub name_at : List Port → ℕ → List ℕ
name_at ports port = option_map_or (λ p. p.name) (slice_get ports port) []

-- a line of the trace that could not be written leaves no end line
abbrev pub end_of : List Port → Stop → ℕ → List ℕ
end_of ports Done done = end_line (codes "done") done
end_of ports (Halt code) done = end_line (codes "halt " ++ decimal code) done
end_of ports Stack done = end_line (codes "stack") done
end_of ports (InputEnd port) done = end_line (codes "input " ++ name_at ports port) done
end_of ports Steps done = end_line (codes "steps") done
end_of ports Illegal done = end_line (codes "illegal") done
end_of ports Misaligned done = end_line (codes "misaligned") done
end_of ports Unmapped done = end_line (codes "unmapped") done
end_of ports Break done = end_line (codes "break") done
end_of ports Sink done = []

-- a port that the end names is there
abbrev pub IsNamed : List Port → Stop → Type 0
IsNamed ports Done = Unit {0}
IsNamed ports (Halt code) = Unit {0}
IsNamed ports Stack = Unit {0}
IsNamed ports (InputEnd port) = port < length ports
IsNamed ports Steps = Unit {0}
IsNamed ports Illegal = Unit {0}
IsNamed ports Misaligned = Unit {0}
IsNamed ports Unmapped = Unit {0}
IsNamed ports Break = Unit {0}
IsNamed ports Sink = Unit {0}
