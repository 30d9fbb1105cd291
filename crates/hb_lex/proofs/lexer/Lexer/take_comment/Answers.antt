use Rattle.std.proofs.Common.{◌<◌, length, ap, subst, refl, arith}
use Rattle.hb_lex.specs.Tokens.{Inside}
use Rattle.hb_lex.proofs.TokensLaws.{took_comment, stop_comment}
use Rattle.hb_lex.proofs.lexer.Lexer.take_comment.Goals as goal

pub returns-in-Some-clause-took : goal.returns-in-Some-clause-took
returns-in-Some-clause-took c table =
    let some : 0 < length c.args.rest.now = let two = c.requires.some in omega arith in
    took_comment table table _ _ _ _ _ _ c.args.rest.now _ c.in-Some.size refl (ap (λ ts. ts.items) c.skip.ensures.tokens) c.skip.ensures.glued c.before-in-Some.ensures.bytes c.skip.ensures.place some
    c.requires.opens (subst (λ bytes. Inside bytes c.in-Some.size) c.after.ensures c.in-Some.ensures.size)

pub returns-in-None-clause-fault : goal.returns-in-None-clause-fault
returns-in-None-clause-fault c =
    let some : 0 < length c.args.rest.now = let two = c.requires.some in omega arith in
    stop_comment c.args.self.now.glued c.args.self.now.place c.args.rest.now c.after.result.now c.stopped.result some c.requires.opens c.after.ensures c.in-None.ensures.size c.stopped.ensures
