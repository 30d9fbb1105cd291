-- A script is read as the grammar says: its inputs, or its first wrong line.
use Rattle.std.proofs.Common.{◌≡◌, ℕ, ◌+◌, ◌*◌, ◌^◌, ◌<◌, Bool, true, false, cond, ltb, List, [], ◌∷◌, ◌++◌, length, All, Option, Some, None, Result, Ok, Err, refl, sym, ap, subst, arith, inl, inr}
use Rattle.std.specs.Prelude.{IfOk, IfErr, IsSomeAnd, slice_get}
use Rattle.std.specs.Str.Lines.{lines}
use Rattle.std.proofs.lemmas.Bool.{ltb-true, ltb-false, le-ltb}
use Rattle.std.proofs.lemmas.List.Elements.{All-nil, All-cons}
use Rattle.hb_base.specs.declared.port.Dir.TheVariants.{In}
use Rattle.hb_base.specs.declared.port.Port.{Port}
use Rattle.hb_base.specs.declared.script.Script.{Script}
use Rattle.hb_base.specs.declared.script.ScriptLine.{ScriptLine}
use Rattle.hb_base.specs.Ports.{ArePorts}
use Rattle.hb_script.specs.declared.content.Content.{Content}
use Rattle.hb_script.specs.declared.content.Content.TheVariants.{Nothing, Input, Wrong}
use Rattle.hb_script.specs.declared.fault.ScriptError.{ScriptError}
use Rattle.hb_script.specs.declared.fault.ScriptError.TheVariants.{Bad, Memory}
use Rattle.hb_script.specs.Scripts.{content_of, before, joined, inputs_from, most_bytes, script_of, Gives}
use Rattle.hb_base.specs.Inputs.{IsInput}
use Rattle.hb_script.specs.Grammar.{IsSkipped, SayInputs, Spells, Suits, IsLine, IsFault}
use Rattle.hb_script.proofs.LineLemmas.{line_is_nothing, line_is_input, skipped_again, input_line_again}

abbrev read_ok : List ScriptLine → Result (List ScriptLine) ℕ
read_ok inputs = Ok inputs

abbrev read_err : ℕ → Result (List ScriptLine) ℕ
read_err number = Err number

-- ---- what is read is in the grammar

before_ok : (input : ScriptLine) (others : Result (List ScriptLine) ℕ) (inputs : List ScriptLine) → before input others ≡ Ok inputs → (rest : List ScriptLine) × (others ≡ Ok rest) × (input ∷ rest ≡ inputs)
before_ok input (Ok rest) inputs e = (rest, refl, cc)
before_ok input (Err number) inputs e = absurd cc

skips : (ports : List Port) (line : List ℕ) (others : List (List ℕ)) (inputs : List ScriptLine) → IsSkipped line → SayInputs ports others inputs → SayInputs ports (line ∷ others) inputs
skips ports line others [] skipped say = (skipped, say)
skips ports line others (input ∷ inputs) skipped say = inl (skipped, say)

pub say_inputs : (ports : List Port) (texts : List (List ℕ)) (number : ℕ) (inputs : List ScriptLine) → inputs_from ports number texts ≡ Ok inputs → SayInputs ports texts inputs
say_inputs ports [] number inputs e = subst (SayInputs ports []) nothing tt
  where
    nothing : [] ≡ inputs
    nothing = let f : read_ok [] ≡ Ok inputs = e in cc
say_inputs ports (line ∷ others) number inputs e = by_content (content_of ports line) refl (say_inputs ports others (number + 1)) e
  where
    by_content : (content : Content) → content_of ports line ≡ content → ((rest : List ScriptLine) → inputs_from ports (number + 1) others ≡ Ok rest → SayInputs ports others rest)
        → joined content number (inputs_from ports (number + 1) others) ≡ Ok inputs → SayInputs ports (line ∷ others) inputs
    by_content Nothing is so_far e = skips ports line others inputs (line_is_nothing ports line is) (so_far inputs e)
    by_content (Input input) is so_far e =
        let b = before_ok input (inputs_from ports (number + 1) others) inputs e in
        subst (SayInputs ports (line ∷ others)) b.2 (inr (line_is_input ports line input is, so_far b.0 b.1))
    by_content Wrong is so_far e = absurd cc

-- ---- what is in the grammar is read

pub inputs_again : (ports : List Port) (texts : List (List ℕ)) (number : ℕ) (inputs : List ScriptLine) → ArePorts ports → SayInputs ports texts inputs → inputs_from ports number texts ≡ Ok inputs
inputs_again ports [] number [] rules say = refl
inputs_again ports [] number (input ∷ inputs) rules say = absurd say
inputs_again ports (line ∷ others) number [] rules say = rw (skipped_again ports line say.0) (inputs_again ports others (number + 1) [] rules say.1)
inputs_again ports (line ∷ others) number (input ∷ inputs) rules (inl say) = rw (skipped_again ports line say.0) (inputs_again ports others (number + 1) (input ∷ inputs) rules say.1)
inputs_again ports (line ∷ others) number (input ∷ inputs) rules (inr say) =
    rw (input_line_again ports line input rules say.0) (ap (before input) (inputs_again ports others (number + 1) inputs rules say.1))

-- ---- the first wrong line

-- the first wrong line, with the number of the first of these lines
record WrongFrom (ports : List Port) (texts : List (List ℕ)) (start number : ℕ) : Type 0 where
  earlier : List (List ℕ)
  line : List ℕ
  later : List (List ℕ)
  parts : texts ≡ earlier ++ line ∷ later
  place : number ≡ length earlier + start
  right : All (IsLine ports) earlier
  wrong : ¬ IsLine ports line

before_err : (input : ScriptLine) (others : Result (List ScriptLine) ℕ) (number : ℕ) → before input others ≡ Err number → others ≡ Err number
before_err input (Ok rest) number e = absurd cc
before_err input (Err n) number e = let f : read_err n ≡ Err number = (let g : read_err n ≡ Err number = cc in g) in f

no_line : (ports : List Port) (line : List ℕ) → ArePorts ports → content_of ports line ≡ Wrong → ¬ IsLine ports line
no_line ports line rules is (inl skipped) = let f = skipped_again ports line skipped in absurd cc
no_line ports line rules is (inr (input, says)) = let f = input_line_again ports line input rules says in absurd cc

one_more : (ports : List Port) (line : List ℕ) (others : List (List ℕ)) (start number : ℕ) → IsLine ports line → WrongFrom ports others (start + 1) number → WrongFrom ports (line ∷ others) start number
one_more ports line others start number good later = record {
  earlier = line ∷ later.earlier;
  line = later.line;
  later = later.later;
  parts = ap (λ (ls : List (List ℕ)). line ∷ ls) later.parts;
  place = omega (arith, later.place);
  right = All-cons (IsLine ports) line later.earlier good later.right;
  wrong = later.wrong;
}

first_wrong : (ports : List Port) (texts : List (List ℕ)) (start number : ℕ) → ArePorts ports → inputs_from ports start texts ≡ Err number → WrongFrom ports texts start number
first_wrong ports [] start number rules e = absurd cc
first_wrong ports (line ∷ others) start number rules e = by_content (content_of ports line) refl (λ f. first_wrong ports others (start + 1) number rules f) e
  where
    by_content : (content : Content) → content_of ports line ≡ content → (inputs_from ports (start + 1) others ≡ Err number → WrongFrom ports others (start + 1) number)
        → joined content start (inputs_from ports (start + 1) others) ≡ Err number → WrongFrom ports (line ∷ others) start number
    by_content Nothing is so_far e = one_more ports line others start number (inl (line_is_nothing ports line is)) (so_far e)
    by_content (Input input) is so_far e = one_more ports line others start number (inr (input, line_is_input ports line input is)) (so_far (before_err input (inputs_from ports (start + 1) others) number e))
    by_content Wrong is so_far e =
        let here : start ≡ number = (let f : read_err start ≡ Err number = e in cc) in
        record { earlier = []; line = line; later = others; parts = refl; place = omega (arith, here); right = All-nil (IsLine ports); wrong = no_line ports line rules is }

-- ---- a whole script

pub is_found : (ports : List Port) (bytes : List ℕ) (r : Result Script ScriptError) → Gives r (script_of ports bytes) → IfOk r (λ script. Spells ports bytes script.lines)
unfolding script_of
is_found ports bytes (Ok script) given = by_length (ltb most_bytes (length bytes)) refl given
  where
    by_length : (long : Bool) → ltb most_bytes (length bytes) ≡ long → cond long (Err 0) (inputs_from ports 1 (lines bytes)) ≡ Ok script.lines → Spells ports bytes script.lines
    by_length true long e = absurd cc
    by_length false long e = record { short = ltb-false most_bytes (length bytes) long; say = say_inputs ports (lines bytes) 1 script.lines e }
is_found ports bytes (Err e) given = tt

pub is_only : (ports : List Port) (bytes : List ℕ) (inputs : List ScriptLine) → ArePorts ports → Spells ports bytes inputs → script_of ports bytes ≡ Ok inputs
unfolding script_of
is_only ports bytes inputs rules spells = rw (le-ltb most_bytes (length bytes) spells.short) (inputs_again ports (lines bytes) 1 inputs rules spells.say)

faulty : (ports : List Port) (bytes : List ℕ) (number : ℕ) → ArePorts ports → script_of ports bytes ≡ Err number → IsFault ports bytes (Bad number)
unfolding script_of
faulty ports bytes number rules e = by_length (ltb most_bytes (length bytes)) refl e
  where
    by_length : (long : Bool) → ltb most_bytes (length bytes) ≡ long → cond long (Err 0) (inputs_from ports 1 (lines bytes)) ≡ Err number → IsFault ports bytes (Bad number)
    by_length true long e =
        let zero_is : 0 ≡ number = (let f : read_err 0 ≡ Err number = e in cc) in
        inl (sym zero_is, ltb-true most_bytes (length bytes) long)
    by_length false long e =
        let w = first_wrong ports (lines bytes) 1 number rules e in
        inr (ltb-false most_bytes (length bytes) long, record { earlier = w.earlier; line = w.line; later = w.later; parts = w.parts; place = w.place; right = w.right; wrong = w.wrong })

pub is_fault : (ports : List Port) (bytes : List ℕ) (r : Result Script ScriptError) → ArePorts ports → Gives r (script_of ports bytes) → IfErr r (IsFault ports bytes)
is_fault ports bytes (Ok script) rules given = tt
is_fault ports bytes (Err (Bad number)) rules given = faulty ports bytes number rules given
is_fault ports bytes (Err Memory) rules given = tt

-- ---- each input by itself

weaker : (o : Option Port) (input : ScriptLine) (name : List ℕ) → IsSomeAnd o (Suits input name) → IsSomeAnd o (λ port. (port.dir ≡ In) × (input.value < 2 ^ (8 * port.width)))
weaker None input name h = absurd h
weaker (Some port) input name h = (h.way, h.within)

each_input : (ports : List Port) (texts : List (List ℕ)) (inputs : List ScriptLine) → SayInputs ports texts inputs → All (IsInput ports) inputs
each_input ports [] [] say = All-nil (IsInput ports)
each_input ports [] (input ∷ inputs) say = absurd say
each_input ports (line ∷ others) [] say = All-nil (IsInput ports)
each_input ports (line ∷ others) (input ∷ inputs) (inl say) = each_input ports others (input ∷ inputs) say.1
each_input ports (line ∷ others) (input ∷ inputs) (inr say) =
    All-cons (IsInput ports) input inputs (weaker (slice_get ports input.port) input say.0.name say.0.port) (each_input ports others inputs say.1)

pub are_inputs : (ports : List Port) (bytes : List ℕ) (r : Result Script ScriptError) → Gives r (script_of ports bytes) → IfOk r (λ script. All (IsInput ports) script.lines)
unfolding script_of
are_inputs ports bytes (Ok script) given = each_input ports (lines bytes) script.lines (is_found ports bytes (Ok script) given).say
are_inputs ports bytes (Err e) given = tt
