use Rattle.std.proofs.Common.{rules, sym}
use Rattle.hb_parser.proofs.ParsingLaws.{tree_of, tree_there}
use Rattle.hb_parser.proofs.parsing.whole_program.Goals as goal

pub unwrap-requires : goal.unwrap-requires
unwrap-requires c =
    let there = tree_there c.requires c.in-Ok.ensures.found in
    search (rules, there)

pub returns-in-Ok-clause-found : goal.returns-in-Ok-clause-found
returns-in-Ok-clause-found c = tree_of c.unwrap.ensures c.in-Ok.ensures.found
