use Rattle.std.proofs.Common.{rules, sym, ◌∙◌}
use Rattle.hb_parser.proofs.ReadingLaws.{nothing_read, one_more_read, wrong_here, all_read, all_whole}
use Rattle.hb_parser.proofs.parsing.read_nodes.Goals as goal

pub loop-token-init : goal.loop-token-init
loop-token-init c = nothing_read c.args.tokens.now c.in_ok-reader.ensures.start

pub returns-in-None : goal.returns-in-None
returns-in-None c =
    wrong_here c.args.tokens.now c.loop-token.token-index _ c.loop-token-test.true c.loop-token.invariant (sym c.in_ok-next.ensures ∙ c.in-None.is)

pub loop-token-preserved : goal.loop-token-preserved
loop-token-preserved c =
    one_more_read c.args.tokens.now c.loop-token.token-index _ c.loop-token-test.true c.loop-token.invariant (sym c.in_ok-next.ensures ∙ c.in-Some.is)

pub unwrap-nodes-requires : goal.unwrap-nodes-requires
unwrap-nodes-requires c =
    let whole = all_whole c.args.tokens.now c.loop-token.token-index c.loop-token-test.false c.loop-token.invariant c.requires.end in
    let nodes = c.in_ok-finish.ensures in
    search (rules, whole, nodes)

pub returns : goal.returns
returns c =
    all_read c.args.tokens.now c.loop-token.token-index c.loop-token-test.false c.loop-token.invariant (sym c.unwrap-nodes.ensures ∙ c.in_ok-finish.ensures)
