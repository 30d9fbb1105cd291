use Rattle.std.proofs.Common.{take}
use Rattle.hb_grammar.proofs.FirstWrong.{LeadsTo}
use Rattle.hb_read_program.specs.Frames.{program_engine}
use Rattle.hb_parser.proofs.parsing.read_nodes.Given as goal

-- the tokens passed are taken
abbrev pub invariant-loop-token : goal.invariant-loop-token
invariant-loop-token l = LeadsTo program_engine program_engine.start (take l.token-index l.tokens) l.reader
