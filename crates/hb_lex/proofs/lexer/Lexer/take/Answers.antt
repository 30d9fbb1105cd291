use Rattle.std.proofs.Common.{ap, refl}
use Rattle.hb_lex.proofs.TokensLaws.{took_skip, took_token, stop_broken}
use Rattle.hb_lex.proofs.lexer.Lexer.take.Goals as goal

pub returns-in-Skip-clause-took : goal.returns-in-Skip-clause-took
returns-in-Skip-clause-took c =
    took_skip _ _ _ _ _ _ _ _ c.args.rest.now _ c.in-Skip.size refl (ap (λ ts. ts.items) c.skip.ensures.tokens) c.skip.ensures.glued c.before-in-Skip.ensures.bytes c.skip.ensures.place c.requires.some c.in-Skip.ensures.piece

pub returns-in-Ok-clause-took : goal.returns-in-Ok-clause-took
returns-in-Ok-clause-took c =
    let put = c.in-Ok.ensures.token in
    took_token _ _ _ _ _ _ _ _ c.args.rest.now _ c.in-Token.shape c.in-Token.size put.0 c.in-Ok.ensures.table put.1 put.2 c.in-Ok.ensures.glued c.before-in-Token.ensures.bytes c.in-Ok.ensures.place c.requires.some c.in-Token.ensures.within.0 c.in-Token.ensures.piece c.in-Token.ensures.within.2

pub returns-in-Wrong-clause-fault : goal.returns-in-Wrong-clause-fault
returns-in-Wrong-clause-fault c =
    stop_broken c.args.self.now.glued c.args.self.now.place c.args.rest.now c.in-Wrong.wrong c.stopped.result c.requires.some c.in-Wrong.ensures.piece c.stopped.ensures
