use Rattle.hb_second_code.proofs.Program.{program_of}
use Rattle.hb_top.proofs.finding.compile_file.Goals as goal

pub build-requires : goal.build-requires
build-requires g c =
    let accepted = c.in_ok-source.ensures.0.accepted in
    program_of accepted.names accepted.program c.in_ok-source.source accepted.form
