-- The sources of the tests, over the ports of an echo.
use Rattle.std.proofs.Common.{◌≤◌, List, [], ◌∷◌, length, refl, arith}
use Rattle.std.specs.Prelude.{codes}
use Rattle.hb_base.specs.declared.port.Dir.TheVariants.{In, Out}
use Rattle.hb_second.specs.declared.source.Statement.{Statement}
use Rattle.hb_second.specs.Items.{APort}
use Rattle.hb_second.specs.Form.{port_of, Ports, no_port, one_port_more}
use Rattle.hb_second_code.specs.Rules.{AreStatements, IsProgram}
use Rattle.hb_second_code.proofs.Program.{program_over}

one_port : Ports (port_of (codes "rx") In 0x8000_0000 ∷ []) (APort (codes "rx") In 0x8000_0000 ∷ [])
one_port =
    one_port_more [] [] (codes "rx") In 0x8000_0000 no_port
    (record { new_name = refl; high = omega arith; within = omega arith; new_address = refl })

two_ports : Ports (port_of (codes "rx") In 0x8000_0000 ∷ port_of (codes "tx") Out 0x8000_0004 ∷ []) (APort (codes "rx") In 0x8000_0000 ∷ APort (codes "tx") Out 0x8000_0004 ∷ [])
two_ports =
    one_port_more (port_of (codes "rx") In 0x8000_0000 ∷ []) (APort (codes "rx") In 0x8000_0000 ∷ []) (codes "tx") Out 0x8000_0004 one_port
    (record { new_name = refl; high = omega arith; within = omega arith; new_address = refl })

pub echo_program :
    (ss : List Statement)
    → length ss ≤ 1000
    → AreStatements (port_of (codes "rx") In 0x8000_0000 ∷ port_of (codes "tx") Out 0x8000_0004 ∷ []) 0 ss
    → IsProgram (record { ports = port_of (codes "rx") In 0x8000_0000 ∷ port_of (codes "tx") Out 0x8000_0004 ∷ []; statements = ss })
echo_program ss few fits = program_over _ _ ss two_ports (omega arith) few fits
