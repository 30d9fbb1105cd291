use Rattle.std.proofs.Common.{◌≡◌, ◌≤◌, length, arith}
use Rattle.hb_lex.specs.Bytes.{is_allowed, run}
use Rattle.hb_lex.proofs.SourceLaws.{run_full, bad_at}
use Rattle.hb_lex.proofs.source.check_bytes.Goals as goal

pub returns-then-good-bytes-clause-allowed : goal.returns-then-good-bytes-clause-allowed
returns-then-good-bytes-clause-allowed c =
    let size : c.run-good.result ≡ run is_allowed c.args.bytes.now = c.run-good.ensures.size in
    let all : c.run-good.result ≡ length c.args.bytes.now = c.if-good-bytes.true in
    let full : length c.args.bytes.now ≤ run is_allowed c.args.bytes.now = omega arith in
    run_full is_allowed c.args.bytes.now full

pub returns-clause-fault : goal.returns-clause-fault
returns-clause-fault c =
    bad_at c.args.bytes.now c.before-2.result.now c.run-good.result c.place_after-place.result c.byte_at-byte.result c.hex_digit.result c.hex_digit-2.result c.refused.result
    c.run-good.ensures.size c.run-good.ensures.within c.if-good-bytes.false c.before-2.ensures.bytes c.place_after-place.ensures.place c.byte_at-byte.ensures c.hex_digit.ensures c.hex_digit-2.ensures (c.refused.ensures.whole (omega arith))
