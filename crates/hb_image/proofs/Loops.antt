-- Reading ports, and words, one after the other, as a loop does.
use Rattle.std.proofs.Common.{◌≡◌, ℕ, suc, ◌-◌, ◌+◌, ◌≤◌, ◌<◌, List, [], ◌∷◌, ◌++◌, Result, Ok, Err, refl, sym, ap, ◌∙◌, append_assoc, arith}
use Rattle.std.specs.Int.{w32}
use Rattle.std.proofs.lemmas.List.{append-nil}
use Rattle.hb_base.specs.declared.port.Port.{Port}
use Rattle.hb_image.specs.declared.fault.ImageError.{ImageError}
use Rattle.hb_image.specs.declared.fault.ImageError.TheVariants.{Short, Bad, Memory}
use Rattle.hb_image.specs.Reading.{◌>>=◌, Fails, number_at, port_at, ports_at, words_at}

-- the first step of what is left
failed : {A B : Type 0} (e : ImageError) (step : Result A ImageError) (next : A → Result B ImageError) (total : Result B ImageError) → Fails e step → (step >>= next) ≡ total → Fails e total
failed Short step next total fails so_far = sym so_far ∙ rw fails refl
failed (Bad field) step next total fails so_far = sym so_far ∙ rw fails refl
failed Memory step next total fails so_far = tt

-- ---- ports

ports_step : (count i : ℕ) (ports : List Port) (bytes : List ℕ) → i < count
    → ports_at (count - i) ports bytes ≡ (port_at ports bytes >>= λ port. ports_at (count - (i + 1)) (ports ++ port.0 ∷ []) port.1)
unfolding ports_at
ports_step count i ports bytes lt =
    let k : count - i ≡ suc (count - (i + 1)) = omega arith in
    rw k refl

pub ports_go_on : (count i : ℕ) (ports : List Port) (bytes : List ℕ) (port : Port) (after : List ℕ) (total : Result (List Port × List ℕ) ImageError) → i < count → port_at ports bytes ≡ Ok (port, after)
    → ports_at (count - i) ports bytes ≡ total → ports_at (count - (i + 1)) (ports ++ port ∷ []) after ≡ total
ports_go_on count i ports bytes port after total lt read so_far =
    let step = ports_step count i ports bytes lt in
    let one : ports_at (count - i) ports bytes ≡ ports_at (count - (i + 1)) (ports ++ port ∷ []) after = step ∙ rw read refl in
    sym one ∙ so_far

pub ports_end : (e : ImageError) (count i : ℕ) (ports : List Port) (bytes : List ℕ) (total : Result (List Port × List ℕ) ImageError) → i < count → Fails e (port_at ports bytes)
    → ports_at (count - i) ports bytes ≡ total → Fails e total
ports_end e count i ports bytes total lt fails so_far =
    failed e (port_at ports bytes) (λ port. ports_at (count - (i + 1)) (ports ++ port.0 ∷ []) port.1) total fails (sym (ports_step count i ports bytes lt) ∙ so_far)

pub ports_done : (count i : ℕ) (ports : List Port) (bytes : List ℕ) (total : Result (List Port × List ℕ) ImageError) → count ≤ i → ports_at (count - i) ports bytes ≡ total → total ≡ Ok (ports, bytes)
unfolding ports_at
ports_done count i ports bytes total le so_far =
    let k : count - i ≡ 0 = omega arith in
    let one : ports_at (count - i) ports bytes ≡ Ok (ports, bytes) = rw k refl in
    sym so_far ∙ one

-- ---- words

-- what was read before, and what is still read
abbrev pub with_front : List ℕ → Result (List ℕ × List ℕ) ImageError → Result (List ℕ × List ℕ) ImageError
with_front front read = read >>= λ x. Ok (front ++ x.0, x.1)

regroup : (front : List ℕ) (n : ℕ) (read : Result (List ℕ × List ℕ) ImageError) → with_front front (read >>= λ x. Ok (n ∷ x.0, x.1)) ≡ with_front (front ++ n ∷ []) read
regroup front n (Ok x) = ap (λ (ns : List ℕ). Ok (ns, x.1)) (sym (append_assoc front (n ∷ []) x.0))
regroup front n (Err f) = refl

words_step : (front : List ℕ) (count i : ℕ) (bytes : List ℕ) → i < count
    → with_front front (words_at (count - i) bytes) ≡ (number_at w32 bytes >>= λ word. with_front (front ++ word.0 ∷ []) (words_at (count - (i + 1)) word.1))
unfolding words_at
words_step front count i bytes lt =
    let k : count - i ≡ suc (count - (i + 1)) = omega arith in
    rw k (begun front (number_at w32 bytes) (words_at (count - (i + 1))))
  where
    begun : (front : List ℕ) (read : Result (ℕ × List ℕ) ImageError) (others : List ℕ → Result (List ℕ × List ℕ) ImageError)
        → with_front front (read >>= λ word. others word.1 >>= λ x. Ok (word.0 ∷ x.0, x.1)) ≡ (read >>= λ word. with_front (front ++ word.0 ∷ []) (others word.1))
    begun front (Ok word) others = regroup front word.0 (others word.1)
    begun front (Err f) others = refl

pub words_go_on : (front : List ℕ) (count i : ℕ) (bytes : List ℕ) (n : ℕ) (after : List ℕ) (total : Result (List ℕ × List ℕ) ImageError) → i < count → number_at w32 bytes ≡ Ok (n, after)
    → with_front front (words_at (count - i) bytes) ≡ total → with_front (front ++ n ∷ []) (words_at (count - (i + 1)) after) ≡ total
words_go_on front count i bytes n after total lt read so_far =
    let step = words_step front count i bytes lt in
    let one : with_front front (words_at (count - i) bytes) ≡ with_front (front ++ n ∷ []) (words_at (count - (i + 1)) after) = step ∙ rw read refl in
    sym one ∙ so_far

pub words_end : (e : ImageError) (front : List ℕ) (count i : ℕ) (bytes : List ℕ) (total : Result (List ℕ × List ℕ) ImageError) → i < count → Fails e (number_at w32 bytes)
    → with_front front (words_at (count - i) bytes) ≡ total → Fails e total
words_end e front count i bytes total lt fails so_far =
    failed e (number_at w32 bytes) (λ word. with_front (front ++ word.0 ∷ []) (words_at (count - (i + 1)) word.1)) total fails (sym (words_step front count i bytes lt) ∙ so_far)

pub words_done : (front : List ℕ) (count i : ℕ) (bytes : List ℕ) (total : Result (List ℕ × List ℕ) ImageError) → count ≤ i → with_front front (words_at (count - i) bytes) ≡ total → total ≡ Ok (front, bytes)
unfolding words_at
words_done front count i bytes total le so_far =
    let k : count - i ≡ 0 = omega arith in
    let one : with_front front (words_at (count - i) bytes) ≡ Ok (front, bytes) = rw k (ap (λ (ns : List ℕ). Ok (ns, bytes)) (append-nil front)) in
    sym so_far ∙ one
