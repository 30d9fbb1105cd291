-- An input is read as the grammar says, in both directions.
use Rattle.std.proofs.Common.{◌≡◌, ◌≢◌, ℕ, ◌*◌, ◌^◌, ◌<◌, Bool, true, false, cond, ltb, List, [], ◌∷◌, length, get_or, Option, Some, None, refl, sym, ap, subst, ◌∙◌, arith}
use Rattle.std.specs.Prelude.{position, slice_get, IsSomeAnd}
use Rattle.std.specs.List.{position_or_len, list_all}
use Rattle.std.specs.Char.{digit_value}
use Rattle.std.specs.Option.{option_map_or}
use Rattle.std.specs.Str.{bytes_eq}
use Rattle.std.specs.Str.Parse.{AllDigits, digits_value}
use Rattle.std.proofs.lemmas.Bool.{ltb-true, lt-ltb, and_parts, and_from, and_right}
use Rattle.std.proofs.lemmas.List.Sums.{position_or_len_is}
use Rattle.std.proofs.lemmas.List.Quantifiers.{position-Some}
use Rattle.std.proofs.lemmas.Option.{get_or_from_slice_get, slice_get_within}
use Rattle.std.proofs.lemmas.Slice.Eq.{bytes_eq-Decides}
use Rattle.hb_base.specs.declared.port.Dir.{Dir}
use Rattle.hb_base.specs.declared.port.Dir.TheVariants.{In, Out}
use Rattle.hb_base.specs.declared.port.Port.{Port}
use Rattle.hb_base.specs.declared.script.ScriptLine.{ScriptLine}
use Rattle.hb_base.specs.Ports.{ArePorts}
use Rattle.hb_script.specs.declared.content.Content.{Content}
use Rattle.hb_script.specs.declared.content.Content.TheVariants.{Input, Wrong}
use Rattle.hb_script.specs.Scripts.{is_in, is_input_named, is_hex, is_value, input_at, input_of}
use Rattle.hb_script.specs.Grammar.{Suits}

-- ---- digits

pub all_digits : (digits : List ℕ) → list_all is_hex digits ≡ true → AllDigits 16 digits
all_digits [] e = tt
all_digits (c ∷ cs) e =
    let both = and_parts (is_hex c) (list_all is_hex cs) e in
    (ltb-true (digit_value c) 16 both.0, all_digits cs both.1)

pub digits_all : (digits : List ℕ) → AllDigits 16 digits → list_all is_hex digits ≡ true
digits_all [] all = refl
digits_all (c ∷ cs) all = and_from (is_hex c) (list_all is_hex cs) (lt-ltb (digit_value c) 16 all.0) (digits_all cs all.1)

-- ---- what an answer says of what was asked

chosen_input : {A : Type 0} (f : A → Content) (o : Option A) (input : ScriptLine) → option_map_or f o Wrong ≡ Input input → (x : A) × (o ≡ Some x) × (f x ≡ Input input)
chosen_input f None input e = absurd cc
chosen_input f (Some x) input e = (x, refl, e)

tested_input : (b : Bool) (x input : ScriptLine) → cond b (Input x) Wrong ≡ Input input → (b ≡ true) × (x ≡ input)
tested_input true x input e = (refl, cc)
tested_input false x input e = absurd cc

is_in_from : (dir : Dir) → is_in dir ≡ true → dir ≡ In
is_in_from In e = refl
is_in_from Out e = absurd cc

is_in_to : (dir : Dir) → dir ≡ In → is_in dir ≡ true
is_in_to dir e = ap is_in e

pub some_and : {A : Type 0} (o : Option A) (P : A → Type 0) → IsSomeAnd o P → (x : A) × (o ≡ Some x) × P x
some_and None P h = absurd h
some_and (Some x) P h = (x, refl, h)

-- ---- an input

-- a value and a port as the grammar says
pub record IsInput (ports : List Port) (name digits : List ℕ) (input : ScriptLine) : Type 0 where
  pub all : AllDigits 16 digits
  pub value : input.value ≡ digits_value 16 digits
  pub port : IsSomeAnd (slice_get ports input.port) (Suits input name)

pub input_is : (ports : List Port) (name digits : List ℕ) (input : ScriptLine) → input_of ports name digits ≡ Input input → IsInput ports name digits input
unfolding input_of input_at
input_is ports name digits input e =
    let a = chosen_input (λ number. input_at ports number digits) (position (is_input_named name) ports) input e in
    let made : ScriptLine = record { port = a.0; value = digits_value 16 digits } in
    let b = chosen_input (λ (port : Port). cond (is_value port.width digits) (Input made) Wrong) (slice_get ports a.0) input a.2 in
    let k = tested_input (is_value b.0.width digits) made input b.2 in
    let v = and_parts (list_all is_hex digits) (ltb (digits_value 16 digits) (2 ^ (8 * b.0.width))) k.0 in
    let found = position-Some (is_input_named name) ports a.0 b.0 a.1 in
    let here : get_or ports a.0 b.0 ≡ b.0 = get_or_from_slice_get ports a.0 b.0 b.0 b.1 in
    let named : is_input_named name b.0 ≡ true = rw here at found.1 in
    let n = and_parts (is_in b.0.dir) (bytes_eq b.0.name name) named in
    let suits : Suits made name b.0 = record { way = is_in_from b.0.dir n.0; named = (bytes_eq-Decides b.0.name name).0 n.1; within = ltb-true _ _ v.1 } in
    let port : IsSomeAnd (slice_get ports a.0) (Suits made name) = subst (λ (o : Option Port). IsSomeAnd o (Suits made name)) (sym b.1) suits in
    let is : IsInput ports name digits made = record { all = all_digits digits v.0; value = refl; port = port } in
    subst (λ (i : ScriptLine). IsInput ports name digits i) k.1 is

-- the port of a name is the only one
only_port : (ports : List Port) (name : List ℕ) (n : ℕ) (port : Port) → ArePorts ports → slice_get ports n ≡ Some port → port.dir ≡ In → port.name ≡ name → position (is_input_named name) ports ≡ Some n
only_port ports name n port rules at way named =
    let within : n < length ports = slice_get_within ports n port at in
    let here : get_or ports n port ≡ port = get_or_from_slice_get ports n port port at in
    let passes : is_input_named name port ≡ true = and_from (is_in port.dir) (bytes_eq port.name name) (is_in_to port.dir way) ((bytes_eq-Decides port.name name).1 named) in
    let others : (k : ℕ) → k < n → is_input_named name (get_or ports k port) ≡ false = λ k lt. and_right (is_in (get_or ports k port).dir) (bytes_eq (get_or ports k port).name name) (differs k lt within here) in
    let place : position_or_len (is_input_named name) ports ≡ n = position_or_len_is (is_input_named name) ports n port (omega arith) others (λ lt. rw here passes) in
    rw (place, lt-ltb n (length ports) within) refl
  where
    unlike : (b : Bool) (x y : List ℕ) → x ≢ y → bytes_eq x y ≡ b → b ≡ false
    unlike true x y two e = absurd (two ((bytes_eq-Decides x y).0 e))
    unlike false x y two e = refl

    differs : (k : ℕ) → k < n → n < length ports → get_or ports n port ≡ port → bytes_eq (get_or ports k port).name name ≡ false
    differs k lt within here =
        let two : (get_or ports k port).name ≢ name = λ same. rules.distinct k n port lt within (same ∙ sym named ∙ ap (λ (p : Port). p.name) (sym here)) in
        unlike (bytes_eq (get_or ports k port).name name) (get_or ports k port).name name two refl

pub input_again : (ports : List Port) (name digits : List ℕ) (input : ScriptLine) → ArePorts ports → IsInput ports name digits input → input_of ports name digits ≡ Input input
unfolding input_of input_at
input_again ports name digits input rules is =
    let p = some_and (slice_get ports input.port) (Suits input name) is.port in
    let small : digits_value 16 digits < 2 ^ (8 * p.0.width) = subst (λ (v : ℕ). v < 2 ^ (8 * p.0.width)) is.value p.2.within in
    let value : is_value p.0.width digits ≡ true = and_from (list_all is_hex digits) (ltb (digits_value 16 digits) (2 ^ (8 * p.0.width))) (digits_all digits is.all) (lt-ltb _ _ small) in
    rw (only_port ports name input.port p.0 rules p.1 p.2.way p.2.named, p.1, value, ← is.value) refl
