-- Numbers of two and four bytes from those of one and two.
use Rattle.std.proofs.Common.{◌≡◌, ℕ, ◌+◌, ◌*◌, ◌/◌, List, refl, arith}
use Rattle.std.proofs.Math.Nat.{div-div-eq-div-mul}
use Rattle.hb_isa.specs.Memory.{number_at, put_number}

pub number_at_2 : (bytes : List ℕ) (place : ℕ) → number_at bytes place 2 ≡ number_at bytes place 1 + 256 * number_at bytes (place + 1) 1
unfolding number_at
number_at_2 bytes place = omega arith

pub number_at_4 : (bytes : List ℕ) (place : ℕ) → number_at bytes place 4 ≡ number_at bytes place 2 + 65536 * number_at bytes (place + 2) 2
unfolding number_at
number_at_4 bytes place =
    let e : place + 1 + 1 ≡ place + 2 = omega arith in
    rw e (omega arith)

pub put_number_2 : (bytes : List ℕ) (place number : ℕ) → put_number bytes place 2 number ≡ put_number (put_number bytes place 1 number) (place + 1) 1 (number / 256)
unfolding put_number
put_number_2 bytes place number = refl

pub put_number_4 : (bytes : List ℕ) (place number : ℕ) → put_number bytes place 4 number ≡ put_number (put_number bytes place 2 number) (place + 2) 2 (number / 65536)
unfolding put_number
put_number_4 bytes place number =
    let e : place + 1 + 1 ≡ place + 2 = omega arith in
    let d : number / 256 / 256 ≡ number / 65536 = div-div-eq-div-mul number 256 256 in
    rw (e, d) refl
