-- A line is read as the grammar says, in both directions.
use Rattle.std.proofs.Common.{◌≡◌, ℕ, ◌<◌, Bool, true, false, cond, leb, eqb, not, ◌&&◌, List, [], ◌∷◌, ◌++◌, length, get_or, All, Option, Some, None, refl, sym, ap, subst, ◌∙◌, arith, inl, inr}
use Rattle.std.specs.Prelude.{slice_get}
use Rattle.std.specs.List.{list_all, list_any}
use Rattle.std.specs.Char.{digit_value}
use Rattle.std.specs.Option.{option_map_or}
use Rattle.std.specs.Str.Parse.{AllDigits}
use Rattle.std.proofs.lemmas.Bool.{eqb-true, eq-eqb, ne_eqb, lt-ltb, and_parts}
use Rattle.std.proofs.lemmas.List.{append-nil}
use Rattle.std.proofs.lemmas.List.Elements.{All-head, All-cons, All-nil}
use Rattle.std.proofs.lemmas.Option.{get_or_from_slice_get, slice_get_within}
use Rattle.hb_base.specs.declared.port.Port.{Port}
use Rattle.hb_base.specs.declared.script.ScriptLine.{ScriptLine}
use Rattle.hb_base.specs.PortName.{is_lower, begins_name, continues_name, is_variable, is_port_name, same_text, reserved_words}
use Rattle.hb_base.specs.Ports.{ArePorts, IsPort}
use Rattle.hb_script.specs.declared.content.Content.{Content}
use Rattle.hb_script.specs.declared.content.Content.TheVariants.{Nothing, Input, Wrong}
use Rattle.hb_script.specs.Scripts.{is_blank, is_comment, words, is_hex, is_value, input_at, input_of, content_of_words, content_of}
use Rattle.hb_script.specs.Grammar.{IsBlank, IsSkipped, Suits, SaysInput}
use Rattle.hb_script.proofs.WordLemmas.{BeginsWord, begins_long}
use Rattle.hb_script.proofs.GrammarLemmas.{blank_from, blank_to, IsAway, WordFirst, Cases, NoWord, AWord, cases, words_behind, IsPlain, words_first}
use Rattle.hb_script.proofs.InputLemmas.{some_and, input_is, input_again}

-- ---- comments and blank lines

comment_skipped : (line : List ℕ) → is_comment line ≡ true → IsSkipped line
comment_skipped [] e = absurd cc
comment_skipped (c ∷ cs) e = inl (eqb-true c 35 e)

blanks_skipped : (line : List ℕ) → All IsBlank line → IsSkipped line
blanks_skipped [] blank = tt
blanks_skipped (c ∷ cs) blank = inr blank

blank_no_comment : (c : ℕ) → IsBlank c → eqb c 35 ≡ false
blank_no_comment c (inl space) = ne_eqb c 35 (λ e. absurd (omega (arith, space, e)))
blank_no_comment c (inr tab) = ne_eqb c 35 (λ e. absurd (omega (arith, tab, e)))

-- ---- what is read is in the grammar

abbrev wrong : Content
wrong = Wrong

chosen_nothing : {A : Type 0} (f : A → Content) (o : Option A) → option_map_or f o Wrong ≡ Nothing → (x : A) × (f x ≡ Nothing)
chosen_nothing f None e = absurd cc
chosen_nothing f (Some x) e = (x, e)

tested_nothing : (b : Bool) (x : ScriptLine) → cond b (Input x) Wrong ≡ Nothing → ⊥
tested_nothing true x e = absurd cc
tested_nothing false x e = absurd cc

no_nothing : (ports : List Port) (name digits : List ℕ) → input_of ports name digits ≡ Nothing → ⊥
unfolding input_of input_at
no_nothing ports name digits e =
    let a = chosen_nothing (λ number. input_at ports number digits) _ e in
    let b = chosen_nothing (λ (port : Port). cond (is_value port.width digits) (Input _) Wrong) (slice_get ports a.0) a.1 in
    tested_nothing (is_value b.0.width digits) _ b.1

a_word_says : (ports : List Port) (word : List ℕ) (others : List (List ℕ)) → content_of_words ports (word ∷ others) ≡ Nothing → ⊥
a_word_says ports word [] e = absurd cc
a_word_says ports word (digits ∷ []) e = no_nothing ports word digits e
a_word_says ports word (digits ∷ other ∷ more) e = absurd cc

says_nothing : (ports : List Port) (line : List ℕ) → Cases line → content_of_words ports (words line) ≡ Nothing → IsSkipped line
says_nothing ports line (NoWord none blank) e = blanks_skipped line blank
says_nothing ports line (AWord word rest first) e = absurd (a_word_says ports word (words rest) (sym (ap (content_of_words ports) first.words_are) ∙ e))

pub line_is_nothing : (ports : List Port) (line : List ℕ) → content_of ports line ≡ Nothing → IsSkipped line
unfolding content_of
line_is_nothing ports line e = by_comment (is_comment line) refl e
  where
    by_comment : (b : Bool) → is_comment line ≡ b → cond b Nothing (content_of_words ports (words line)) ≡ Nothing → IsSkipped line
    by_comment true comment e = comment_skipped line comment
    by_comment false comment e = says_nothing ports line (cases line) e

-- a word that begins with no blank stands behind one
stands_apart : (rest left word more : List ℕ) → IsAway rest → rest ≡ left ++ (word ++ more) → BeginsWord word → 0 < length left
stands_apart rest [] word more away e begins =
    let blank : IsBlank begins.first = subst IsAway (e ∙ ap (λ (w : List ℕ). w ++ more) begins.is) away in
    let yes = blank_to begins.first blank in
    let no = begins.plain in
    absurd cc
stands_apart rest (c ∷ cs) word more away e begins = omega arith

third : (ports : List Port) (line name rest digits right : List ℕ) (input : ScriptLine) → WordFirst line name rest → WordFirst rest digits right → Cases right → content_of_words ports (words line) ≡ Input input → SaysInput ports line input
third ports line name rest digits right input first second (NoWord none blank) e =
    let all : words line ≡ name ∷ digits ∷ [] = first.words_are ∙ ap (λ (ws : List (List ℕ)). name ∷ ws) (second.words_are ∙ ap (λ (ws : List (List ℕ)). digits ∷ ws) none) in
    let is = input_is ports name digits input (sym (ap (content_of_words ports) all) ∙ e) in
    record {
      left = first.left;
      name = name;
      between = second.left;
      digits = digits;
      right = right;
      parts = first.parts ∙ ap (λ (xs : List ℕ). first.left ++ (name ++ xs)) second.parts;
      left_blank = first.left_blank;
      between_blank = second.left_blank;
      apart = stands_apart rest second.left digits right first.away second.parts second.begins;
      right_blank = blank;
      numeral = (begins_long digits second.begins, is.all);
      value = is.value;
      port = is.port;
    }
third ports line name rest digits right input first second (AWord word more more_first) e =
    let all : words line ≡ name ∷ digits ∷ word ∷ words more = first.words_are ∙ ap (λ (ws : List (List ℕ)). name ∷ ws) (second.words_are ∙ ap (λ (ws : List (List ℕ)). digits ∷ ws) more_first.words_are) in
    let no : wrong ≡ Input input = sym (ap (content_of_words ports) all) ∙ e in
    absurd cc

second : (ports : List Port) (line name rest : List ℕ) (input : ScriptLine) → WordFirst line name rest → Cases rest → content_of_words ports (words line) ≡ Input input → SaysInput ports line input
second ports line name rest input first (NoWord none blank) e =
    let all : words line ≡ name ∷ [] = first.words_are ∙ ap (λ (ws : List (List ℕ)). name ∷ ws) none in
    let no : wrong ≡ Input input = sym (ap (content_of_words ports) all) ∙ e in
    absurd cc
second ports line name rest input first (AWord digits right digits_first) e = third ports line name rest digits right input first digits_first (cases right) e

says_input : (ports : List Port) (line : List ℕ) (input : ScriptLine) → Cases line → content_of_words ports (words line) ≡ Input input → SaysInput ports line input
says_input ports line input (NoWord none blank) e =
    let no = sym (ap (content_of_words ports) none) ∙ e in
    absurd cc
says_input ports line input (AWord name rest first) e = second ports line name rest input first (cases rest) e

pub line_is_input : (ports : List Port) (line : List ℕ) (input : ScriptLine) → content_of ports line ≡ Input input → SaysInput ports line input
unfolding content_of
line_is_input ports line input e = by_comment (is_comment line) e
  where
    by_comment : (b : Bool) → cond b Nothing (content_of_words ports (words line)) ≡ Input input → SaysInput ports line input
    by_comment true e = absurd cc
    by_comment false e = says_input ports line input (cases line) e

-- ---- what is in the grammar is read

blanks_have_no_word : (line : List ℕ) → All IsBlank line → words line ≡ []
blanks_have_no_word line blank = ap words (sym (append-nil line)) ∙ words_behind line [] blank

pub skipped_again : (ports : List Port) (line : List ℕ) → IsSkipped line → content_of ports line ≡ Nothing
unfolding content_of
skipped_again ports [] skipped = refl
skipped_again ports (c ∷ cs) (inl hash) = rw (eq-eqb c 35 hash) refl
skipped_again ports (c ∷ cs) (inr blank) = rw (blank_no_comment c (All-head IsBlank c cs blank)) (ap (content_of_words ports) (blanks_have_no_word (c ∷ cs) blank))

-- what passes a test that no blank passes is no blank
plain_from : (test : ℕ → Bool) → test 32 ≡ false → test 9 ≡ false → (c : ℕ) → test c ≡ true → is_blank c ≡ false
plain_from test space tab c e = by_answer (is_blank c) refl
  where
    apart : IsBlank c → ⊥
    apart (inl is) = let f = ap test is in absurd cc
    apart (inr is) = let f = ap test is in absurd cc

    by_answer : (b : Bool) → is_blank c ≡ b → b ≡ false
    by_answer true f = absurd (apart (blank_from c f))
    by_answer false f = refl

all_plain : (test : ℕ → Bool) → test 32 ≡ false → test 9 ≡ false → (word : List ℕ) → list_all test word ≡ true → IsPlain word
all_plain test space tab [] e = All-nil (λ c. is_blank c ≡ false)
all_plain test space tab (c ∷ cs) e =
    let both = and_parts (test c) (list_all test cs) e in
    All-cons (λ c. is_blank c ≡ false) c cs (plain_from test space tab c both.0) (all_plain test space tab cs both.1)

-- a name begins with no `#` and has no blank
record IsName (name : List ℕ) : Type 0 where
  first : ℕ
  others : List ℕ
  is : name ≡ first ∷ others
  no_comment : eqb first 35 ≡ false
  plain : IsPlain name

no_hash : (test : ℕ → Bool) → test 35 ≡ false → (c : ℕ) → test c ≡ true → eqb c 35 ≡ false
no_hash test hash c e = ne_eqb c 35 (λ is. let f = ap test is in absurd cc)

variable_name : (name : List ℕ) → is_variable name ≡ true → IsName name
variable_name [] e = absurd cc
variable_name (c ∷ []) e = record {
  first = c;
  others = [];
  is = refl;
  no_comment = no_hash is_lower refl c e;
  plain = All-cons (λ c. is_blank c ≡ false) c [] (plain_from is_lower refl refl c e) (All-nil (λ c. is_blank c ≡ false));
}
variable_name (c ∷ d ∷ cs) e =
    let both = and_parts (begins_name c) (list_all continues_name (d ∷ cs)) e in
    record {
      first = c;
      others = d ∷ cs;
      is = refl;
      no_comment = no_hash begins_name refl c both.0;
      plain = All-cons (λ c. is_blank c ≡ false) c (d ∷ cs) (plain_from begins_name refl refl c both.0) (all_plain continues_name refl refl (d ∷ cs) both.1);
    }

port_name : (name : List ℕ) → is_port_name name ≡ true → IsName name
port_name name e =
    let long = and_parts (leb (length name) 64) (is_variable name && not (list_any (same_text name) reserved_words)) e in
    variable_name name (and_parts (is_variable name) (not (list_any (same_text name) reserved_words)) long.1).0

digits_plain : (digits : List ℕ) → AllDigits 16 digits → IsPlain digits
digits_plain [] all = All-nil (λ c. is_blank c ≡ false)
digits_plain (c ∷ cs) all = All-cons (λ c. is_blank c ≡ false) c cs (plain_from is_hex refl refl c (lt-ltb (digit_value c) 16 all.0)) (digits_plain cs all.1)

blanks_away : (xs : List ℕ) → All IsBlank xs → IsAway xs
blanks_away [] blank = tt
blanks_away (c ∷ cs) blank = All-head IsBlank c cs blank

blank_front_away : (xs ys : List ℕ) → 0 < length xs → All IsBlank xs → IsAway (xs ++ ys)
blank_front_away [] ys long blank = absurd (omega arith)
blank_front_away (c ∷ cs) ys long blank = All-head IsBlank c cs blank

no_comment : (left name more : List ℕ) → All IsBlank left → IsName name → is_comment (left ++ (name ++ more)) ≡ false
no_comment [] name more blank named = ap (λ (w : List ℕ). is_comment (w ++ more)) named.is ∙ named.no_comment
no_comment (c ∷ cs) name more blank named = blank_no_comment c (All-head IsBlank c cs blank)

name_long : (name : List ℕ) → IsName name → 0 < length name
name_long name named = rw named.is (omega arith)

pub input_line_again : (ports : List Port) (line : List ℕ) (input : ScriptLine) → ArePorts ports → SaysInput ports line input → content_of ports line ≡ Input input
unfolding content_of
input_line_again ports line input rules says =
    let p = some_and (slice_get ports input.port) (Suits input says.name) says.port in
    let here : get_or ports input.port p.0 ≡ p.0 = get_or_from_slice_get ports input.port p.0 p.0 p.1 in
    let is : IsPort p.0 = subst IsPort here (rules.each input.port p.0 (slice_get_within ports input.port p.0 p.1)) in
    let named : IsName says.name = subst IsName p.2.named (port_name p.0.name is.named) in
    let rest = says.digits ++ says.right in
    let behind = says.between ++ rest in
    let comment : is_comment line ≡ false = ap is_comment says.parts ∙ no_comment says.left says.name behind says.left_blank named in
    let last : words rest ≡ says.digits ∷ [] = words_first says.digits says.right says.numeral.0 (digits_plain says.digits says.numeral.1) (blanks_away says.right says.right_blank) ∙ ap (λ (ws : List (List ℕ)). says.digits ∷ ws) (blanks_have_no_word says.right says.right_blank) in
    let first : words (says.name ++ behind) ≡ says.name ∷ words behind = words_first says.name behind (name_long says.name named) named.plain (blank_front_away says.between rest says.apart says.between_blank) in
    let all : words line ≡ says.name ∷ says.digits ∷ [] = ap words says.parts ∙ words_behind says.left (says.name ++ behind) says.left_blank ∙ first ∙ ap (λ (ws : List (List ℕ)). says.name ∷ ws) (words_behind says.between rest says.between_blank ∙ last) in
    let read : input_of ports says.name says.digits ≡ Input input = input_again ports says.name says.digits input rules (record { all = says.numeral.1; value = says.value; port = says.port }) in
    rw comment (ap (content_of_words ports) all ∙ read)
