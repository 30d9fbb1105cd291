use Rattle.std.proofs.Common.{◌≡◌, ◌^◌, ◌<◌, ◌*◌, ◌%◌, arith}
use Rattle.std.proofs.lemmas.Int.{ints}
use Rattle.std.proofs.lemmas.Nat.{one_shl, pow_below}
use Rattle.hb_asm.proofs.fields.sign_extend.Goals as goal

-- both numbers are below 2 ^ 31
pub overflow_sub-result : goal.overflow_sub-result
overflow_sub-result c =
    let whole : (1 * 2 ^ c.args.count) % 2 ^ 32 ≡ 2 ^ c.args.count = one_shl c.args.count 32 (omega arith) in
    let small : 2 ^ c.args.count < 2 ^ 31 = pow_below c.args.count 31 (omega arith) in
    omega (arith, ints)
