use Rattle.std.proofs.Common.{◌≡◌, ◌++◌, drop}
use Rattle.hb_compile.proofs.compiling.copies_of.Given as goal

-- the copies and the ports that are left are all ports
abbrev pub invariant-loop-port : goal.invariant-loop-port
invariant-loop-port l = l.copies ++ drop l.port-index l.ports ≡ l.ports
