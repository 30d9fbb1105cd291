-- The machine of the table reads just the programs of the grammar.
use Rattle.std.proofs.Common.{List, [], ◌∷◌, sym}
use Rattle.hb_tokens.specs.declared.token.Token.{Token}
use Rattle.hb_grammar.specs.Reading.{Exact}
use Rattle.hb_read_declarations.specs.Exactly.{Made, ProgramRead}
use Rattle.hb_read_declarations.specs.Nodes.{program_nodes}
use Rattle.hb_read_declarations.specs.Readers.{Out}
use Rattle.hb_read_program.specs.Frames.{program_start, program_engine}
use Rattle.hb_read_program.proofs.Finishes.{Rows, rows_as, program_engine_exact}
use Rattle.hb_read_program.proofs.ReadingPrograms.{program_rows}
use Rattle.hb_read_program.proofs.MeansClosed.{rows_grammar}

made_rows : {ts us : List Token} {v : Out} → Made ProgramRead program_nodes ts v us → Rows (program_start ∷ []) ts v us
made_rows m = rows_as (sym m.is) (program_rows m.read)

pub program_exact : Exact program_engine (Made ProgramRead program_nodes)
program_exact = record {
  sound = λ h. rows_grammar (program_engine_exact.sound h);
  complete = λ m. program_engine_exact.complete (made_rows m);
  alive = λ h. program_engine_exact.alive h;
}
