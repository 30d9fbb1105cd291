-- The two laws of the format: what is read is spelled so, and what is spelled so is read.
use Rattle.std.proofs.Common.{◌≡◌, ℕ, zero, suc, ◌%◌, ◌^◌, ◌<◌, ◌≤◌, Bool, leb, eqb, ◌&&◌, List, [], ◌∷◌, ◌++◌, length, All, Result, Ok, Err, refl, sym, ap, subst, ◌∙◌, append_assoc, arith}
use Rattle.std.specs.Prelude.{IfOk, codes}
use Rattle.std.specs.Int.{w16, w32, to_le_bytes}
use Rattle.std.specs.List.{flat_map}
use Rattle.std.proofs.lemmas.Bool.{leb-true, eqb-true, eq-eqb, le-leb, and_parts, and_from}
use Rattle.std.proofs.lemmas.List.{append-nil, nil_from_length}
use Rattle.std.proofs.lemmas.List.Elements.{All-head, All-tail}
use Rattle.hb_base.specs.declared.port.Port.{Port}
use Rattle.hb_image.specs.declared.fault.Field.TheVariants as fields
use Rattle.hb_image.specs.declared.fault.ImageError.{ImageError}
use Rattle.hb_image.specs.declared.image.Image.{Image}
use Rattle.hb_image.specs.Format.{port_spelling, spelling}
use Rattle.hb_image.specs.Reading.{◌>>=◌, kept, number_at, magic_at, version_at, count_at, areas_at, is_stack, stack_at, code_at, ports_at, words_at, front_at, sizes_at, image_of, Gives}
use Rattle.hb_image.specs.Rules.{most_words, IsImage}
use Rattle.hb_image.proofs.FieldLemmas.{IsBytes, bind_ok, kept_ok, ok_is, Takes, Takes-then, TakesField, wide16, wide32, number_takes, number_again, field_takes, field_again, magic_takes, magic_again}
use Rattle.hb_image.proofs.PortLemmas.{KeepRules, ports_take, ports_again}

-- ---- words

words_take : (n : ℕ) (bytes words rest : List ℕ) → IsBytes bytes → words_at n bytes ≡ Ok (words, rest) → Takes bytes (flat_map (to_le_bytes w32) words) rest × (length words ≡ n)
unfolding words_at
words_take zero bytes words rest fits e =
    subst (λ (p : List ℕ × List ℕ). Takes bytes (flat_map (to_le_bytes w32) p.0) p.1 × (length p.0 ≡ 0)) (ok_is ([], bytes) (words, rest) e) (record { parts = refl; rest_fits = fits }, refl)
words_take (suc n) bytes words rest fits e =
    let a = bind_ok (number_at w32 bytes) (λ word. words_at n word.1 >>= λ others. Ok (word.0 ∷ others.0, others.1)) (words, rest) e in
    let b = bind_ok (words_at n a.0.1) (λ others. Ok (a.0.0 ∷ others.0, others.1)) (words, rest) a.2 in
    let first = number_takes w32 (2 ^ 32) wide32 bytes a.0.0 a.0.1 fits a.1 in
    let others = words_take n a.0.1 b.0.0 b.0.1 first.0.rest_fits b.1 in
    let both = Takes-then bytes (to_le_bytes w32 a.0.0) a.0.1 (flat_map (to_le_bytes w32) b.0.0) b.0.1 first.0 others.0 in
    subst (λ (p : List ℕ × List ℕ). Takes bytes (flat_map (to_le_bytes w32) p.0) p.1 × (length p.0 ≡ suc n)) (ok_is (a.0.0 ∷ b.0.0, b.0.1) (words, rest) b.2) (both, ap suc others.1)

abbrev IsWord : ℕ → Type 0
IsWord word = word < 2 ^ 32

words_again : (words rest : List ℕ) → All IsWord words → words_at (length words) (flat_map (to_le_bytes w32) words ++ rest) ≡ Ok (words, rest)
unfolding words_at
words_again [] rest fits = refl
words_again (word ∷ words) rest fits =
    let others = words_again words rest (All-tail IsWord word words fits) in
    let regrouped : flat_map (to_le_bytes w32) (word ∷ words) ++ rest ≡ to_le_bytes w32 word ++ (flat_map (to_le_bytes w32) words ++ rest) = append_assoc (to_le_bytes w32 word) (flat_map (to_le_bytes w32) words) rest in
    ap (words_at (suc (length words))) regrouped ∙ rw (number_again w32 (2 ^ 32) wide32 word (flat_map (to_le_bytes w32) words ++ rest) (All-head IsWord word words fits), others) refl

-- ---- the fields of fixed length

abbrev is_version : ℕ → Bool
is_version n = eqb n 1

abbrev is_count : ℕ → Bool
is_count n = leb n 256

abbrev is_areas : ℕ → Bool
is_areas n = leb n 16777216

abbrev is_code : ℕ → Bool
is_code n = leb 1 n && leb n most_words

version_takes : (bytes : List ℕ) (n : ℕ) (rest : List ℕ) → IsBytes bytes → version_at bytes ≡ Ok (n, rest) → TakesField bytes (to_le_bytes w16 n) (is_version n) rest
unfolding version_at
version_takes bytes n rest fits e = (field_takes fields.Version is_version w16 (2 ^ 16) wide16 bytes n rest fits e).0

count_takes : (bytes : List ℕ) (n : ℕ) (rest : List ℕ) → IsBytes bytes → count_at bytes ≡ Ok (n, rest) → TakesField bytes (to_le_bytes w16 n) (is_count n) rest
unfolding count_at
count_takes bytes n rest fits e = (field_takes fields.Ports is_count w16 (2 ^ 16) wide16 bytes n rest fits e).0

areas_takes : (bytes : List ℕ) (n : ℕ) (rest : List ℕ) → IsBytes bytes → areas_at bytes ≡ Ok (n, rest) → TakesField bytes (to_le_bytes w32 n) (is_areas n) rest
unfolding areas_at
areas_takes bytes n rest fits e = (field_takes fields.Areas is_areas w32 (2 ^ 32) wide32 bytes n rest fits e).0

stack_takes : (bytes : List ℕ) (n : ℕ) (rest : List ℕ) → IsBytes bytes → stack_at bytes ≡ Ok (n, rest) → TakesField bytes (to_le_bytes w32 n) (is_stack n) rest
unfolding stack_at
stack_takes bytes n rest fits e = (field_takes fields.Stack is_stack w32 (2 ^ 32) wide32 bytes n rest fits e).0

code_takes : (bytes : List ℕ) (n : ℕ) (rest : List ℕ) → IsBytes bytes → code_at bytes ≡ Ok (n, rest) → TakesField bytes (to_le_bytes w32 n) (is_code n) rest
unfolding code_at
code_takes bytes n rest fits e = (field_takes fields.Code is_code w32 (2 ^ 32) wide32 bytes n rest fits e).0

version_again : (rest : List ℕ) → version_at (to_le_bytes w16 1 ++ rest) ≡ Ok (1, rest)
unfolding version_at
version_again rest = field_again fields.Version is_version w16 (2 ^ 16) wide16 1 rest (omega arith) refl

count_again : (n : ℕ) (rest : List ℕ) → n ≤ 256 → count_at (to_le_bytes w16 n ++ rest) ≡ Ok (n, rest)
unfolding count_at
count_again n rest le = field_again fields.Ports is_count w16 (2 ^ 16) wide16 n rest (omega arith) (le-leb n 256 le)

areas_again : (n : ℕ) (rest : List ℕ) → n ≤ 16777216 → areas_at (to_le_bytes w32 n ++ rest) ≡ Ok (n, rest)
unfolding areas_at
areas_again n rest le = field_again fields.Areas is_areas w32 (2 ^ 32) wide32 n rest (omega arith) (le-leb n 16777216 le)

stack_again : (n : ℕ) (rest : List ℕ) → n % 4 ≡ 0 → 4096 ≤ n → n ≤ 16777216 → stack_at (to_le_bytes w32 n ++ rest) ≡ Ok (n, rest)
unfolding stack_at
stack_again n rest whole least most =
    field_again fields.Stack is_stack w32 (2 ^ 32) wide32 n rest (omega (arith, most))
    (and_from (eqb (n % 4) 0) (leb 4096 n && leb n 16777216) (eq-eqb (n % 4) 0 whole) (and_from (leb 4096 n) (leb n 16777216) (le-leb 4096 n least) (le-leb n 16777216 most)))

code_again : (n : ℕ) (rest : List ℕ) → 1 ≤ n → n ≤ most_words → code_at (to_le_bytes w32 n ++ rest) ≡ Ok (n, rest)
unfolding code_at
code_again n rest least most =
    field_again fields.Code is_code w32 (2 ^ 32) wide32 n rest (omega (arith, most)) (and_from (leb 1 n) (leb n most_words) (le-leb 1 n least) (le-leb n most_words most))

-- ---- the number of ports, and the sizes

abbrev front_spelling : ℕ → List ℕ
front_spelling count = codes "HBIM" ++ (to_le_bytes w16 1 ++ to_le_bytes w16 count)

front_takes : (bytes : List ℕ) (count : ℕ) (rest : List ℕ) → IsBytes bytes → front_at bytes ≡ Ok (count, rest) → Takes bytes (front_spelling count) rest × (count ≤ 256)
unfolding front_at
front_takes bytes count rest fits e =
    let a = bind_ok (magic_at bytes) (λ magic. version_at magic.1 >>= λ version. count_at version.1) (count, rest) e in
    let b = bind_ok (version_at a.0.1) (λ version. count_at version.1) (count, rest) a.2 in
    let t0 = magic_takes bytes a.0.0 a.0.1 fits a.1 in
    let t1 = version_takes a.0.1 b.0.0 b.0.1 t0.rest_fits b.1 in
    let t2 = count_takes b.0.1 count rest t1.takes.rest_fits b.2 in
    let one : b.0.0 ≡ 1 = eqb-true b.0.0 1 t1.keeps in
    let version : Takes a.0.1 (to_le_bytes w16 1) b.0.1 = subst (λ (n : ℕ). Takes a.0.1 (to_le_bytes w16 n) b.0.1) one t1.takes in
    let e12 = Takes-then a.0.1 (to_le_bytes w16 1) b.0.1 (to_le_bytes w16 count) rest version t2.takes in
    (Takes-then bytes (codes "HBIM") a.0.1 (to_le_bytes w16 1 ++ to_le_bytes w16 count) rest t0 e12, leb-true count 256 t2.keeps)

front_again : (count : ℕ) (rest : List ℕ) → count ≤ 256 → front_at (front_spelling count ++ rest) ≡ Ok (count, rest)
unfolding front_at
front_again count rest le =
    rw (magic_again (to_le_bytes w16 1 ++ (to_le_bytes w16 count ++ rest)), version_again (to_le_bytes w16 count ++ rest), count_again count rest le) refl

abbrev sizes_spelling : ℕ × ℕ × ℕ → List ℕ
sizes_spelling sizes = to_le_bytes w32 sizes.0 ++ (to_le_bytes w32 sizes.1 ++ to_le_bytes w32 sizes.2)

record AreSizes (sizes : ℕ × ℕ × ℕ) : Type 0 where
  areas : sizes.0 ≤ 16777216
  stack_whole : sizes.1 % 4 ≡ 0
  stack_least : 4096 ≤ sizes.1
  stack_most : sizes.1 ≤ 16777216
  code_least : 1 ≤ sizes.2
  code_most : sizes.2 ≤ most_words

sizes_take : (bytes : List ℕ) (sizes : ℕ × ℕ × ℕ) (rest : List ℕ) → IsBytes bytes → sizes_at bytes ≡ Ok (sizes, rest) → Takes bytes (sizes_spelling sizes) rest × AreSizes sizes
unfolding sizes_at
sizes_take bytes sizes rest fits e =
    let a = bind_ok (areas_at bytes) (λ areas. stack_at areas.1 >>= λ stack. code_at stack.1 >>= λ code. Ok ((areas.0, stack.0, code.0), code.1)) (sizes, rest) e in
    let b = bind_ok (stack_at a.0.1) (λ stack. code_at stack.1 >>= λ code. Ok ((a.0.0, stack.0, code.0), code.1)) (sizes, rest) a.2 in
    let c = bind_ok (code_at b.0.1) (λ code. Ok ((a.0.0, b.0.0, code.0), code.1)) (sizes, rest) b.2 in
    let t0 = areas_takes bytes a.0.0 a.0.1 fits a.1 in
    let t1 = stack_takes a.0.1 b.0.0 b.0.1 t0.takes.rest_fits b.1 in
    let t2 = code_takes b.0.1 c.0.0 c.0.1 t1.takes.rest_fits c.1 in
    let k1 = and_parts (eqb (b.0.0 % 4) 0) (leb 4096 b.0.0 && leb b.0.0 16777216) t1.keeps in
    let k2 = and_parts (leb 4096 b.0.0) (leb b.0.0 16777216) k1.1 in
    let k3 = and_parts (leb 1 c.0.0) (leb c.0.0 most_words) t2.keeps in
    let e12 = Takes-then a.0.1 (to_le_bytes w32 b.0.0) b.0.1 (to_le_bytes w32 c.0.0) c.0.1 t1.takes t2.takes in
    let e02 = Takes-then bytes (to_le_bytes w32 a.0.0) a.0.1 (to_le_bytes w32 b.0.0 ++ to_le_bytes w32 c.0.0) c.0.1 t0.takes e12 in
    let made : ℕ × ℕ × ℕ = (a.0.0, b.0.0, c.0.0) in
    let are : AreSizes made = record { areas = leb-true _ _ t0.keeps; stack_whole = eqb-true _ _ k1.0; stack_least = leb-true _ _ k2.0; stack_most = leb-true _ _ k2.1; code_least = leb-true _ _ k3.0; code_most = leb-true _ _ k3.1 } in
    subst (λ (p : (ℕ × ℕ × ℕ) × List ℕ). Takes bytes (sizes_spelling p.0) p.1 × AreSizes p.0) (ok_is (made, c.0.1) (sizes, rest) c.2) (e02, are)

sizes_again : (sizes : ℕ × ℕ × ℕ) (rest : List ℕ) → AreSizes sizes → sizes_at (sizes_spelling sizes ++ rest) ≡ Ok (sizes, rest)
unfolding sizes_at
sizes_again sizes rest are =
    rw (
      areas_again sizes.0 (to_le_bytes w32 sizes.1 ++ (to_le_bytes w32 sizes.2 ++ rest)) are.areas,
      stack_again sizes.1 (to_le_bytes w32 sizes.2 ++ rest) are.stack_whole are.stack_least are.stack_most,
      code_again sizes.2 rest are.code_least are.code_most,
    ) refl

-- ---- an image

no_rules : KeepRules []
no_rules = record { each = λ k d lt. absurd (omega arith); apart = λ i j d lt in'. absurd (omega arith); distinct = λ i j d lt in'. absurd (omega arith) }

-- four pieces, and nothing behind them
four_pieces : (bytes a ra b rb c rc d rd : List ℕ) → Takes bytes a ra → Takes ra b rb → Takes rb c rc → Takes rc d rd → rd ≡ [] → bytes ≡ ((a ++ b) ++ c) ++ d
four_pieces bytes a ra b rb c rc d rd ta tb tc td nothing =
    let ab = Takes-then bytes a ra b rb ta tb in
    let abc = Takes-then bytes (a ++ b) rb c rc ab tc in
    let abcd = Takes-then bytes ((a ++ b) ++ c) rc d rd abc td in
    abcd.parts ∙ ap (λ (r : List ℕ). (((a ++ b) ++ c) ++ d) ++ r) nothing ∙ append-nil (((a ++ b) ++ c) ++ d)

abbrev image_text : ℕ → ℕ × ℕ × ℕ → List Port → List ℕ → List ℕ
image_text count sizes ports code = ((front_spelling count ++ sizes_spelling sizes) ++ flat_map port_spelling ports) ++ flat_map (to_le_bytes w32) code

abbrev made : ℕ × ℕ × ℕ → List Port → List ℕ → Image
made sizes ports code = record { ports = ports; areas = sizes.0; stack = sizes.1; code = code }

assembled : (bytes : List ℕ) (count : ℕ) (sizes : ℕ × ℕ × ℕ) (ports : List Port) (code : List ℕ) → bytes ≡ image_text count sizes ports code → count ≤ 256 → AreSizes sizes → length ports ≡ count → KeepRules ports → length code ≡ sizes.2
    → IsImage (made sizes ports code) × (bytes ≡ spelling (made sizes ports code))
assembled bytes count sizes ports code text few are many rules words =
    let counted : bytes ≡ image_text (length ports) sizes ports code = subst (λ (n : ℕ). bytes ≡ image_text n sizes ports code) (sym many) text in
    let whole : bytes ≡ image_text (length ports) (sizes.0, sizes.1, length code) ports code = subst (λ (n : ℕ). bytes ≡ image_text (length ports) (sizes.0, sizes.1, n) ports code) (sym words) counted in (
      record {
        ports = record { few = omega (arith, many, few); each = rules.each; apart = rules.apart; distinct = rules.distinct };
        areas = are.areas;
        stack_whole = are.stack_whole;
        stack_least = are.stack_least;
        stack_most = are.stack_most;
        code_least = omega (arith, words, are.code_least);
        code_most = omega (arith, words, are.code_most);
      },
      whole,
    )

pub image_takes : (bytes : List ℕ) (image : Image) → IsBytes bytes → image_of bytes ≡ Ok image → IsImage image × (bytes ≡ spelling image)
unfolding image_of
image_takes bytes image fits e =
    let a = bind_ok (front_at bytes) (λ count. sizes_at count.1 >>= λ sizes. ports_at count.0 [] sizes.1 >>= λ ports. words_at sizes.0.2 ports.1 >>= λ code. kept fields.Tail (eqb (length code.1) 0) (made sizes.0 ports.0 code.0)) image e in
    let b = bind_ok (sizes_at a.0.1) (λ sizes. ports_at a.0.0 [] sizes.1 >>= λ ports. words_at sizes.0.2 ports.1 >>= λ code. kept fields.Tail (eqb (length code.1) 0) (made sizes.0 ports.0 code.0)) image a.2 in
    let c = bind_ok (ports_at a.0.0 [] b.0.1) (λ ports. words_at b.0.0.2 ports.1 >>= λ code. kept fields.Tail (eqb (length code.1) 0) (made b.0.0 ports.0 code.0)) image b.2 in
    let d = bind_ok (words_at b.0.0.2 c.0.1) (λ code. kept fields.Tail (eqb (length code.1) 0) (made b.0.0 c.0.0 code.0)) image c.2 in
    let k = kept_ok fields.Tail (eqb (length d.0.1) 0) (made b.0.0 c.0.0 d.0.0) image d.2 in
    let t0 = front_takes bytes a.0.0 a.0.1 fits a.1 in
    let t1 = sizes_take a.0.1 b.0.0 b.0.1 t0.0.rest_fits b.1 in
    let t2 = ports_take a.0.0 [] b.0.1 c.0.0 c.0.1 t1.0.rest_fits no_rules c.1 in
    let t3 = words_take b.0.0.2 c.0.1 d.0.0 d.0.1 t2.takes.rest_fits d.1 in
    let nothing : d.0.1 ≡ [] = nil_from_length d.0.1 (eqb-true (length d.0.1) 0 k.0) in
    let ports : Takes b.0.1 (flat_map port_spelling c.0.0) c.0.1 = subst (λ (new : List Port). Takes b.0.1 (flat_map port_spelling new) c.0.1) (sym t2.is) t2.takes in
    let text : bytes ≡ image_text a.0.0 b.0.0 c.0.0 d.0.0 = four_pieces bytes (front_spelling a.0.0) a.0.1 (sizes_spelling b.0.0) b.0.1 (flat_map port_spelling c.0.0) c.0.1 (flat_map (to_le_bytes w32) d.0.0) d.0.1 t0.0 t1.0 ports t3.0 nothing in
    let many : length c.0.0 ≡ a.0.0 = ap length t2.is ∙ t2.many in
    subst (λ (v : Image). IsImage v × (bytes ≡ spelling v)) k.1 (assembled bytes a.0.0 b.0.0 c.0.0 d.0.0 text t0.1 t1.1 many t2.rules t3.1)

pub image_again : (image : Image) → IsImage image → All IsWord image.code → image_of (spelling image) ≡ Ok image
unfolding image_of
image_again image is words =
    let sizes : ℕ × ℕ × ℕ = (image.areas, image.stack, length image.code) in
    let are : AreSizes sizes = record { areas = is.areas; stack_whole = is.stack_whole; stack_least = is.stack_least; stack_most = is.stack_most; code_least = is.code_least; code_most = is.code_most } in
    let rules : KeepRules image.ports = record { each = is.ports.each; apart = is.ports.apart; distinct = is.ports.distinct } in
    let code = flat_map (to_le_bytes w32) image.code in
    let ports = flat_map port_spelling image.ports in
    let regrouped : spelling image ≡ front_spelling (length image.ports) ++ (sizes_spelling sizes ++ (ports ++ (code ++ []))) = ap (λ (w : List ℕ). front_spelling (length image.ports) ++ (sizes_spelling sizes ++ (ports ++ w))) (sym (append-nil code)) in
    ap image_of regrouped
    ∙ rw (front_again (length image.ports) (sizes_spelling sizes ++ (ports ++ (code ++ []))) is.ports.few, sizes_again sizes (ports ++ (code ++ [])) are, ports_again image.ports [] (code ++ []) rules, words_again image.code [] words) refl

pub is_image : (bytes : List ℕ) (r : Result Image ImageError) → IsBytes bytes → Gives (λ x. x) r (image_of bytes) → IfOk r (λ image. IsImage image)
is_image bytes (Ok image) fits given = (image_takes bytes image fits given).0
is_image bytes (Err e) fits given = tt

pub is_spelled : (bytes : List ℕ) (r : Result Image ImageError) → IsBytes bytes → Gives (λ x. x) r (image_of bytes) → IfOk r (λ image. bytes ≡ spelling image)
is_spelled bytes (Ok image) fits given = (image_takes bytes image fits given).1
is_spelled bytes (Err e) fits given = tt
