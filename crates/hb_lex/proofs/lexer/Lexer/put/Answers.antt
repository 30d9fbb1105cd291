use Rattle.hb_lex.proofs.TokensLaws.{count_kept, extends_kept}
use Rattle.hb_lex.proofs.lexer.Lexer.put.Goals as goal

pub returns-in_err-push-clause-count : goal.returns-in_err-push-clause-count
returns-in_err-push-clause-count c = count_kept c.args.names.now c.kind_of.new.names c.args.shape c.args.text.now c.in_ok-kind.ensures.table

pub returns-in_err-push-clause-kept : goal.returns-in_err-push-clause-kept
returns-in_err-push-clause-kept c = extends_kept c.args.names.now c.kind_of.new.names c.args.shape c.args.text.now c.in_ok-kind.ensures.table

pub returns-clause-count : goal.returns-clause-count
returns-clause-count c = count_kept c.args.names.now c.kind_of.new.names c.args.shape c.args.text.now c.in_ok-kind.ensures.table

pub returns-clause-kept : goal.returns-clause-kept
returns-clause-kept c = extends_kept c.args.names.now c.kind_of.new.names c.args.shape c.args.text.now c.in_ok-kind.ensures.table
