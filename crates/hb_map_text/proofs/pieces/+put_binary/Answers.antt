use Rattle.std.proofs.Common.{arith}
use Rattle.hb_map_text.proofs.PatternLaws.{put_more}
use Rattle.hb_map_text.proofs.pieces.+put_binary.Goals as goal

pub returns : goal.returns
returns t c = put_more c.args.text.now.items c.put_binary.new.text.items c.put_byte.new.text.items c.args.width c.args.word (omega (arith, c.if-width-eq0.false)) c.in_ok-put_binary.ensures c.in_ok-put_byte.ensures
