-- A source of the second form keeps the rules of a program.
use Rattle.std.proofs.Common.{◌≡◌, ◌≢◌, ℕ, zero, suc, ◌+◌, ◌<◌, ◌≤◌, ◌^◌, inl, inr, ⊎_elim, Bool, true, false, List, [], ◌∷◌, ◌++◌, length, drop, get_or, Option, Some, None, refl, ap, sym, subst, ◌∙◌, arith, length-append}
use Rattle.std.specs.Prelude.{◌&&◌, ◌||◌, not, ◌==◌, nat_le, nat_lt, if◌then◌else◌, option_map, position, All, AllPairs, IsSomeAnd}
use Rattle.std.specs.List.{list_any, list_all}
use Rattle.std.specs.Str.{bytes_eq}
use Rattle.std.proofs.lemmas.Bool.{and_parts, and_from, or_left, or_parts, not-true, not_from_false, cases_lt}
use Rattle.std.proofs.lemmas.Bool.Decides.{Decides-eqb, nat_tests, not_from_Decides}
use Rattle.std.proofs.lemmas.List.Elements.{All-nil, All-push}
use Rattle.std.proofs.lemmas.List.Folds.{list_any-append}
use Rattle.std.proofs.lemmas.List.Quantifiers.{all_pairs_push, position-Some}
use Rattle.std.proofs.lemmas.Option.{same_Some, slice_get-get_or}
use Rattle.std.proofs.lemmas.Slice.Eq.{bytes_eq-Decides}
use Rattle.hb_base.specs.PortName.{is_lower, begins_name, continues_name, is_variable, same_text, reserved_words, is_port_name}
use Rattle.hb_base.specs.Ports.{IsPort, AreApart, HaveTwoNames}
use Rattle.hb_base.specs.declared.port.Port.{Port}
use Rattle.hb_base.specs.declared.port.Dir.{Dir}
use Rattle.hb_base.specs.declared.port.Dir.TheVariants.{In, Out}
use Rattle.hb_tree.specs.declared.declaration.Program.{Program}
use Rattle.hb_second.specs.declared.source.Atom.{Atom}
use Rattle.hb_second.specs.declared.source.Atom.TheVariants.{Literal, Variable}
use Rattle.hb_second.specs.declared.source.Operator.{Operator}
use Rattle.hb_second.specs.declared.source.Argument.{Argument}
use Rattle.hb_second.specs.declared.source.Argument.TheVariants.{Atom as OneAtom, Operation}
use Rattle.hb_second.specs.declared.source.Statement.{Statement}
use Rattle.hb_second.specs.declared.source.Statement.TheVariants.{Read, Write}
use Rattle.hb_second.specs.declared.source.Source.{Source}
use Rattle.hb_second.specs.Names.{taken_words, is_short_lower, is_free_name, same_way, find_port}
use Rattle.hb_second.specs.Items.{Word, Byte, Called, Given, One, Two, Item, items_of, without_places}
use Rattle.hb_second.specs.Form.{IsNextPort, port_of, Ports, no_port, one_port_more, atom_of, operation_of, argument_of, Body, no_statement, one_read_more, one_write_more, Form, IsForm}
use Rattle.hb_second_code.specs.Rules.{GoesAt, IsAtom, IsArgument, AreStatements, IsProgram}
use Rattle.hb_second_code.specs.Lowering.{reads}

-- ---- a free name is a name of a port

same_texts : (a b : List ℕ) → bytes_eq a b ≡ same_text a b
same_texts [] [] = refl
same_texts [] (d ∷ ds) = refl
same_texts (c ∷ cs) [] = refl
same_texts (c ∷ cs) (d ∷ ds) = ap (λ same. (c == d) && same) (same_texts cs ds)

words_among : (name : List ℕ) (words : List (List ℕ)) → list_any (bytes_eq name) words ≡ list_any (same_text name) words
words_among name [] = refl
words_among name (w ∷ ws) =
    ap (λ same. same || list_any (bytes_eq name) ws) (same_texts name w)
    ∙ ap (λ others. same_text name w || others) (words_among name ws)

-- the reserved words are the first that are taken
reserved_first : taken_words ≡ reserved_words ++ drop 23 taken_words
reserved_first = refl

not_reserved : (name : List ℕ) → list_any (bytes_eq name) taken_words ≡ false → list_any (same_text name) reserved_words ≡ false
not_reserved name h =
    let split =
    ap (list_any (bytes_eq name)) reserved_first
    ∙ list_any-append (bytes_eq name) reserved_words (drop 23 taken_words) in
    let front =
    or_parts (list_any (bytes_eq name) reserved_words) (list_any (bytes_eq name) (drop 23 taken_words))
    (sym split ∙ h) in
    sym (words_among name reserved_words) ∙ front.0

continues_all : (cs : List ℕ) → list_all is_lower cs ≡ true → list_all continues_name cs ≡ true
continues_all [] h = refl
continues_all (c ∷ cs) h =
    let parts = and_parts (is_lower c) (list_all is_lower cs) h in
    and_from (continues_name c) (list_all continues_name cs) (or_left (is_lower c) _ parts.0) (continues_all cs parts.1)

variable : (name : List ℕ) → nat_le 1 (length name) ≡ true → list_all is_lower name ≡ true → is_variable name ≡ true
variable [] some h = some
variable (c ∷ []) some h = (and_parts (is_lower c) true h).0
variable (c ∷ d ∷ cs) some h =
    let parts = and_parts (is_lower c) (list_all is_lower (d ∷ cs)) h in
    and_from (begins_name c) (list_all continues_name (d ∷ cs)) (or_left (is_lower c) _ parts.0) (continues_all (d ∷ cs) parts.1)

free_is_port : (name : List ℕ) → is_free_name name ≡ true → is_port_name name ≡ true
free_is_port name h =
    let free = and_parts (is_short_lower name) (not (list_any (bytes_eq name) taken_words)) h in
    let short = and_parts (nat_le 1 (length name)) (nat_le (length name) 64 && list_all is_lower name) free.0 in
    let lower = and_parts (nat_le (length name) 64) (list_all is_lower name) short.1 in
    let none = not_reserved name (not-true _ free.1) in
    and_from (nat_le (length name) 64) _ lower.0
    (and_from (is_variable name) _ (variable name short.0 lower.1) (not_from_false (list_any (same_text name) reserved_words) none))

-- ---- the ports

lt_from : (m n : ℕ) → nat_lt m n ≡ true → m < n
lt_from m n h = grind (arith, nat_tests)

port_fits :
    (name : List ℕ) (way : Dir) (address : ℕ)
    → is_free_name name ≡ true
    → 2 ^ 31 ≤ address
    → address < 2 ^ 32
    → IsPort (record { name = name; dir = way; width = 1; address = address })
port_fits name way address free high low = record {
  wide = inl refl;
  high = high;
  within = omega arith;
  aligned = omega arith;
  named = free_is_port name free;
}

-- where no element passes, the one at a place does not
none_at : {X : Type 0} (p : X → Bool) (xs : List X) (k : ℕ) (d : X) → list_any p xs ≡ false → k < length xs → p (get_or xs k d) ≡ false
none_at p [] k d h within = absurd (omega arith)
none_at p (x ∷ xs) zero d h within = (or_parts (p x) (list_any p xs) h).0
none_at p (x ∷ xs) (suc k) d h within = none_at p xs k d (or_parts (p x) (list_any p xs) h).1 (omega arith)

-- ports of one byte at two addresses are apart
apart : (p q : Port) → p.width ≡ 1 → q.width ≡ 1 → (p.address == q.address) ≡ false → AreApart p q
apart p q one two differ =
    let other : p.address ≢ q.address = not_from_Decides _ (Decides-eqb p.address q.address) differ in
    ⊎_elim (λ below. inl (omega arith)) (λ above. inr (omega arith)) (cases_lt p.address q.address)

two_names : (p q : Port) → bytes_eq q.name p.name ≡ false → HaveTwoNames p q
two_names p q differ same = not_from_Decides _ (bytes_eq-Decides q.name p.name) differ (sym same)

-- ports of one byte that keep the rules of ports but for how many they are
record Kept (ports : List Port) : Type 0 where
  each : All IsPort ports
  bytes : All (λ (port : Port). port.width ≡ 1) ports
  apart : AllPairs AreApart ports
  distinct : AllPairs HaveTwoNames ports

no_pair : (R : Port → Port → Type 0) → AllPairs R []
no_pair R i j d low high = absurd (omega arith)

-- a port more, where no port before it has its address or its name
one_more :
    (ports : List Port) (port : Port)
    → Kept ports
    → IsPort port
    → port.width ≡ 1
    → list_any (λ (p : Port). p.address == port.address) ports ≡ false
    → list_any (λ (p : Port). bytes_eq port.name p.name) ports ≡ false
    → Kept (ports ++ port ∷ [])
one_more ports port kept fits one address name = record {
  each = All-push IsPort ports port kept.each fits;
  bytes = All-push (λ (p : Port). p.width ≡ 1) ports port kept.bytes one;
  apart =
      all_pairs_push AreApart ports port kept.apart
      (λ k d within.
      apart (get_or ports k d) port (kept.bytes k d within) one
      (none_at (λ (p : Port). p.address == port.address) ports k d address within));
  distinct =
      all_pairs_push HaveTwoNames ports port kept.distinct
      (λ k d within.
      two_names (get_or ports k d) port
      (none_at (λ (p : Port). bytes_eq port.name p.name) ports k d name within));
}

next_port :
    (ports : List Port) (name : List ℕ) (way : Dir) (address : ℕ)
    → Kept ports
    → IsNextPort ports name address
    → Kept (ports ++ port_of name way address ∷ [])
next_port ports name way address kept next =
    let new = and_parts (is_free_name name) _ next.new_name in
    let names = and_parts (not (list_any (λ (p : Port). bytes_eq name p.name) ports)) _ new.1 in
    one_more ports (port_of name way address) kept
    (port_fits name way address new.0 next.high next.within)
    refl
    (not-true _ next.new_address)
    (not-true _ names.0)

ports_kept : (ports : List Port) (items : List Item) → Ports ports items → Kept ports
ports_kept ports items no_port = record {
  each = All-nil IsPort;
  bytes = All-nil (λ (port : Port). port.width ≡ 1);
  apart = no_pair AreApart;
  distinct = no_pair HaveTwoNames;
}
ports_kept ports items (one_port_more before us name way address form next) = next_port before name way address (ports_kept before us form) next

-- ---- the statements

same_ways : (a b : Dir) → same_way a b ≡ true → a ≡ b
same_ways In In h = refl
same_ways In Out h = absurd (cc)
same_ways Out In h = absurd (cc)
same_ways Out Out h = refl

-- a port that is found goes the way that was asked for
found_goes : (way : Dir) (name : List ℕ) (ports : List Port) (number : ℕ) → find_port way name ports ≡ Some number → GoesAt ports number way
found_goes way name ports number h =
    let none : Port = record { name = []; dir = way; width = 1; address = 0 } in
    let found = position-Some (λ (port : Port). same_way port.dir way && bytes_eq name port.name) ports number none h in
    let goes = and_parts (same_way (get_or ports number none).dir way) _ found.1 in
    subst (λ o. IsSomeAnd o (λ (port : Port). port.dir ≡ way)) (sym (slice_get-get_or ports number none found.0)) (same_ways _ way goes.0)

-- a literal is a byte, and a name that is found is a variable that is bound
literal_fits : (bound value : ℕ) (a : Atom) (b : Bool) → nat_lt value 256 ≡ b → (if b then Some (Literal value) else None) ≡ Some a → IsAtom bound a
literal_fits bound value a true below h =
    let small : value < 256 = lt_from value 256 below in
    subst (IsAtom bound) (same_Some (Literal value) a h) small
literal_fits bound value a false below h = absurd (cc)

variable_fits : (variables : List (List ℕ)) (name : List ℕ) (a : Atom) (o : Option ℕ) → position (bytes_eq name) variables ≡ o → option_map Variable o ≡ Some a → IsAtom (length variables) a
variable_fits variables name a None found h = absurd (cc)
variable_fits variables name a (Some number) found h =
    subst (IsAtom (length variables)) (same_Some (Variable number) a h)
    (position-Some (bytes_eq name) variables number [] found).0

atom_fits : (variables : List (List ℕ)) (w : Word) (a : Atom) → atom_of variables w ≡ Some a → IsAtom (length variables) a
atom_fits variables (Byte value) a h = literal_fits (length variables) value a (nat_lt value 256) refl h
atom_fits variables (Called name) a h = variable_fits variables name a (position (bytes_eq name) variables) refl h

one_fits : (bound : ℕ) (argument : Argument) (o : Option Atom) → ((a : Atom) → o ≡ Some a → IsAtom bound a) → option_map OneAtom o ≡ Some argument → IsArgument bound argument
one_fits bound argument None fits h = absurd (cc)
one_fits bound argument (Some a) fits h = subst (IsArgument bound) (same_Some (OneAtom a) argument h) (fits a refl)

two_fit : (bound : ℕ) (argument : Argument) (operator : Operator) (o p : Option Atom) → ((a : Atom) → o ≡ Some a → IsAtom bound a) → ((b : Atom) → p ≡ Some b → IsAtom bound b) → operation_of o (Some operator) p ≡ Some argument → IsArgument bound argument
two_fit bound argument operator None p fits fit h = absurd (cc)
two_fit bound argument operator (Some a) None fits fit h = absurd (cc)
two_fit bound argument operator (Some a) (Some b) fits fit h = subst (IsArgument bound) (same_Some (Operation a operator b) argument h) (fits a refl, fit b refl)

argument_fits : (variables : List (List ℕ)) (words : Given) (argument : Argument) → argument_of variables words ≡ Some argument → IsArgument (length variables) argument
argument_fits variables (One w) argument h = one_fits (length variables) argument (atom_of variables w) (atom_fits variables w) h
argument_fits variables (Two v operator w) argument h =
    two_fit (length variables) argument operator (atom_of variables v) (atom_of variables w) (atom_fits variables v) (atom_fits variables w) h

-- one statement more, where the variables of those before it are bound
statement_more :
    (ports : List Port) (ss : List Statement) (bound : ℕ) (s : Statement)
    → AreStatements ports bound ss
    → AreStatements ports (bound + reads ss) (s ∷ [])
    → AreStatements ports bound (ss ++ s ∷ [])
statement_more ports [] bound s fits last =
    let e : bound + 0 ≡ bound = omega arith in
    subst (λ n. AreStatements ports n (s ∷ [])) e last
statement_more ports (Read port ∷ ss) bound s fits last =
    let e : bound + (reads ss + 1) ≡ bound + 1 + reads ss = omega arith in
    (fits.0, statement_more ports ss (bound + 1) s fits.1 (subst (λ n. AreStatements ports n (s ∷ [])) e last))
statement_more ports (Write port argument ∷ ss) bound s fits last = (fits.0, fits.1, statement_more ports ss bound s fits.2 last)

reads_more : (ss : List Statement) (s : Statement) → reads (ss ++ s ∷ []) ≡ reads ss + reads (s ∷ [])
reads_more [] s = omega arith
reads_more (Read port ∷ ss) s = omega (arith, reads_more ss s)
reads_more (Write port argument ∷ ss) s = reads_more ss s

-- statements that bind so many variables
record Known (ports : List Port) (bound : ℕ) (ss : List Statement) : Type 0 where
  count : reads ss ≡ bound
  fits : AreStatements ports 0 ss

known_more :
    (ports : List Port) (bound : ℕ) (ss : List Statement) (s : Statement) (more : ℕ)
    → Known ports bound ss
    → AreStatements ports bound (s ∷ [])
    → more ≡ bound + reads (s ∷ [])
    → Known ports more (ss ++ s ∷ [])
known_more ports bound ss s more known last e =
    let same : bound ≡ 0 + reads ss = omega (arith, known.count) in
    record {
      count = omega (arith, reads_more ss s, known.count);
      fits = statement_more ports ss 0 s known.fits (subst (λ n. AreStatements ports n (s ∷ [])) same last);
    }

body_known :
    (ports : List Port) (writes : Bool) (variables : List (List ℕ)) (ss : List Statement) (items : List Item)
    → Body ports writes variables ss items
    → Known ports (length variables) ss
body_known ports writes variables ss items no_statement = record { count = refl; fits = tt }
body_known ports writes variables ss items (one_read_more last names before us name port number body new found) =
    known_more ports (length names) before (Read number) _ (body_known ports last names before us body)
    (found_goes In port ports number found, tt) (length-append names (name ∷ []))
body_known ports writes variables ss items (one_write_more last names before us port number words argument body found given) =
    known_more ports (length names) before (Write number argument) _ (body_known ports last names before us body)
    (found_goes Out port ports number found, argument_fits names words argument given, tt) (omega arith)

-- ---- the whole source

-- ports of the form, and statements that keep the rules
pub program_over : (ports : List Port) (items : List Item) (ss : List Statement) → Ports ports items → length ports ≤ 256 → length ss ≤ 1000 → AreStatements ports 0 ss → IsProgram (record { ports = ports; statements = ss })
program_over ports items ss form few short statements =
    let kept = ports_kept ports items form in
    record {
      rules = record { few = few; each = kept.each; apart = kept.apart; distinct = kept.distinct };
      bytes = kept.bytes;
      few = short;
      statements = statements;
    }

-- a source of the second form is a program
pub form_program : (items : List Item) (source : Source) → Form items source → IsProgram source
form_program items source form =
    let known = body_known source.ports true form.variables source.statements form.body_items form.body in
    program_over source.ports form.port_items source.statements form.ports form.few_ports form.few_statements known.fits

-- the source that the tree of a program is, is a program
pub program_of : (names : List (List ℕ)) (program : Program) (source : Source) → IsForm names program source → IsProgram source
program_of names program source form = form_program (without_places (items_of names program)) source form
