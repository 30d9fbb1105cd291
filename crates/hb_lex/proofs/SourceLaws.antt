-- Tokens and first faults of a whole source: one of them, and one answer at most.
use Rattle.std.proofs.Common.{◌≡◌, ◌≢◌, ℕ, suc, ◌+◌, ◌-◌, ◌/◌, ◌%◌, ◌<◌, ◌≤◌, Bool, true, false, List, [], ◌∷◌, ◌++◌, length, take, drop, get_or, Ok, Err, Result, refl, sym, ap, subst, ◌∙◌, arith, take-append-drop, length-drop, length-append}
use Rattle.std.specs.Prelude.{slice_index, IfErr, OnOk, not}
use Rattle.std.specs.List.{list_all}
use Rattle.std.proofs.lemmas.Bool.{true≢false}
use Rattle.std.proofs.lemmas.List.{drop_more, drop_all, drop-drop}
use Rattle.hb_base.specs.Names.{with_texts}
use Rattle.hb_base.specs.declared.place.Place.{Place}
use Rattle.hb_base.specs.declared.refusal.Refusal.{Refusal}
use Rattle.hb_base.specs.declared.refusal.Code.TheVariants.{E01}
use Rattle.hb_base.specs.declared.refusal.Fault.{Fault}
use Rattle.hb_base.specs.declared.refusal.Fault.TheVariants.{Refused, Memory}
use Rattle.hb_tokens.specs.declared.token.Token.{Token}
use Rattle.hb_tokens.specs.declared.token.Tokens.{Tokens}
use Rattle.hb_tokens.specs.declared.token.TokenKind.{TokenKind}
use Rattle.hb_tokens.specs.declared.token.TokenKind.TheVariants.{End as EndKind}
use Rattle.hb_tokens.specs.declared.token.TokenKind.TheVariants as kind
use Rattle.hb_tokens.specs.Ends.{is_end_kind, ends_once}
use Rattle.hb_lex.specs.Reading.{is_end}
use Rattle.hb_lex.specs.declared.piece.Shape.TheVariants.{End}
use Rattle.hb_lex.specs.declared.piece.Wrong.{Wrong}
use Rattle.hb_lex.specs.Bytes.{is_allowed, run, place_after, first_place}
use Rattle.hb_lex.specs.Tokens.{Lexeme, lexeme, Answer, Found as FoundAnswer, Stops, Reads, ended, Spells, FirstFault, bad_byte, no_token, hex_digit, hex_byte}
use Rattle.hb_lex.specs.Numbering.{shape_of, EndsAt, texts_of, AreNumbered, Found, Extends}
use Rattle.hb_lex.specs.Steps.{Took, IsStop}
use Rattle.hb_base.specs.Faults.{IfRefused}
use Rattle.hb_lex.specs.Answers.{IsNotRefused, IsThisRefusal}
use Rattle.hb_lex.proofs.LiteralLaws.{either, and_true, run_on, run_off, run_none}
use Rattle.hb_lex.proofs.TokensLaws.{one_answer, numbered_append, extends_texts, append_nil, texts_of_append, extends_all, took_more}

-- a run that takes all bytes
pub run_full : (p : ℕ → Bool) (cs : List ℕ) → length cs ≤ run p cs → list_all p cs ≡ true
run_full p [] h = refl
run_full p (c ∷ cs) h =
    either (p c)
    (λ e. let less : length cs ≤ run p cs = let on = run_on p c cs e in omega arith in rw e (run_full p cs less))
    (λ e. absurd (let off = run_off p c cs e in let none : length (c ∷ cs) ≤ 0 = omega arith in omega arith))

pub run_front : (p : ℕ → Bool) (cs : List ℕ) → list_all p (take (run p cs) cs) ≡ true
run_front p [] = rw (run_none p) refl
run_front p (c ∷ cs) = either (p c) (λ e. rw (run_on p c cs e, e) (run_front p cs)) (λ e. rw (run_off p c cs e) refl)

pub run_next : (p : ℕ → Bool) (cs : List ℕ) → run p cs < length cs → p (get_or cs (run p cs) 0) ≡ false
run_next p [] h = absurd (let none = run_none p in omega arith)
run_next p (c ∷ cs) h =
    either (p c)
    (λ e. let on = run_on p c cs e in let less : run p cs < length cs = omega arith in rw on (run_next p cs less))
    (λ e. rw (run_off p c cs e) e)

-- a run ends where the first other byte stands
run_before : (p : ℕ → Bool) (before after : List ℕ) (c : ℕ) → list_all p before ≡ true → p c ≡ false → run p (before ++ c ∷ after) ≡ length before
run_before p [] after c all other = run_off p c after other
run_before p (b ∷ before) after c all other =
    let both = and_true (p b) (list_all p before) all in
    run_on p b (before ++ c ∷ after) both.0 ∙ ap suc (run_before p before after c both.1 other)

take_before : (before after : List ℕ) → take (length before) (before ++ after) ≡ before
take_before [] after = refl
take_before (b ∷ before) after = ap (λ bs. b ∷ bs) (take_before before after)

get_before : (before after : List ℕ) (c : ℕ) → get_or (before ++ c ∷ after) (length before) 0 ≡ c
get_before [] after c = refl
get_before (b ∷ before) after c = get_before before after c

all_after : (p : ℕ → Bool) (before after : List ℕ) (c : ℕ) → list_all p (before ++ c ∷ after) ≡ true → p c ≡ true
all_after p [] after c all = (and_true (p c) (list_all p after) all).0
all_after p (b ∷ before) after c all = all_after p before after c (and_true (p b) (list_all p (before ++ c ∷ after)) all).1

-- the refusal of the first byte that no source has
first_bad : List ℕ → Refusal
first_bad bytes = record {
  code = E01;
  place = place_after first_place (take (run is_allowed bytes) bytes);
  detail = hex_byte (get_or bytes (run is_allowed bytes) 0);
}

bad_is : (bytes before after : List ℕ) (c : ℕ) → bytes ≡ before ++ c ∷ after → list_all is_allowed before ≡ true → is_allowed c ≡ false → record { code = E01; place = place_after first_place before; detail = hex_byte c } ≡ first_bad bytes
unfolding first_bad
bad_is bytes before after c e all other =
    let size : run is_allowed bytes ≡ length before = ap (run is_allowed) e ∙ run_before is_allowed before after c all other in
    let front : take (run is_allowed bytes) bytes ≡ before = ap (λ n. take n bytes) size ∙ (ap (take (length before)) e ∙ take_before before (c ∷ after)) in
    let byte : get_or bytes (run is_allowed bytes) 0 ≡ c = ap (λ n. get_or bytes n 0) size ∙ (ap (λ bs. get_or bs (length before) 0) e ∙ get_before before after c) in
    rw (front, byte) refl

bad_no : {X : Type 0} → (bytes before after : List ℕ) (c : ℕ) → bytes ≡ before ++ c ∷ after → is_allowed c ≡ false → list_all is_allowed bytes ≡ true → X
bad_no bytes before after c e other all =
    absurd (true≢false (sym (all_after is_allowed before after c (ap (list_all is_allowed) (sym e) ∙ all)) ∙ other))

stop_place : Answer → Place → Place
stop_place (FoundAnswer ls) place = place
stop_place (Stops place wrong) other = place

stops_no_tokens : (place : Place) (wrong : Wrong) (ls : List Lexeme) → Stops place wrong ≡ FoundAnswer ls → ⊥
stops_no_tokens place wrong ls e = cc

-- bytes that spell tokens break no rule
pub no_fault : (bytes : List ℕ) (ls : List Lexeme) (refusal : Refusal) → Spells bytes ls → FirstFault bytes refusal → ⊥
no_fault bytes ls _ spells (bad_byte before after c e all other) = bad_no bytes before after c e other spells.allowed
no_fault bytes ls _ spells (no_token place wrong all gives) = stops_no_tokens place wrong ls (one_answer gives (FoundAnswer ls) spells.gives)

same_stop : (p q : Place) (v w : Wrong) → Stops p v ≡ Stops q w → (p ≡ q) × (v ≡ w)
same_stop p q v w e = (cc, cc)

-- bytes break one rule first
pub one_fault : (bytes : List ℕ) (a b : Refusal) → FirstFault bytes a → FirstFault bytes b → a ≡ b
one_fault bytes _ _ (bad_byte before after c e all other) (bad_byte before' after' c' e' all' other') =
    bad_is bytes before after c e all other ∙ sym (bad_is bytes before' after' c' e' all' other')
one_fault bytes _ _ (bad_byte before after c e all other) (no_token place wrong good gives) = bad_no bytes before after c e other good
one_fault bytes _ _ (no_token place wrong good gives) (bad_byte before after c e all other) = bad_no bytes before after c e other good
one_fault bytes _ _ (no_token place wrong good gives) (no_token place' wrong' good' gives') =
    let same = same_stop place place' wrong wrong' (one_answer gives (Stops place' wrong') gives') in
    rw (same.0, same.1) refl

-- bytes spell one list of tokens
pub one_spelling : (bytes : List ℕ) (ls ms : List Lexeme) → Spells bytes ls → Spells bytes ms → ls ≡ ms
one_spelling bytes ls ms a b = let e : FoundAnswer ls ≡ FoundAnswer ms = one_answer a.gives (FoundAnswer ms) b.gives in cc

-- a byte that no source has, where a run of the others ends
pub bad_at : (bytes text : List ℕ) (good : ℕ) (place : Place) (byte high low : ℕ) (fault : Fault) → good ≡ run is_allowed bytes → good ≤ length bytes → good ≢ length bytes → text ≡ take good bytes → place ≡ place_after first_place text → byte ≡ slice_index bytes good → high ≡ hex_digit (byte / 16) → low ≡ hex_digit (byte % 16) → IfRefused (λ refusal. refusal ≡ record { code = E01; place = place; detail = high ∷ low ∷ [] }) fault → IfRefused (FirstFault bytes) fault
bad_at bytes text good place byte high low (Refused refusal) es within short et ep eb eh el e =
    let lt : good < length bytes = omega arith in
    let split : bytes ≡ take good bytes ++ get_or bytes good 0 ∷ drop (good + 1) bytes =
    sym (take-append-drop good bytes) ∙ ap (λ rest. take good bytes ++ rest) (drop_more bytes good 0 lt) in
    let all : list_all is_allowed (take good bytes) ≡ true = ap (λ n. list_all is_allowed (take n bytes)) es ∙ run_front is_allowed bytes in
    let other : is_allowed (get_or bytes good 0) ≡ false = ap (λ n. is_allowed (get_or bytes n 0)) es ∙ run_next is_allowed bytes (subst (λ n. n < length bytes) es lt) in
    subst (FirstFault bytes) (rw (e, ep, et, eh, el, eb) refl) (bad_byte (take good bytes) (drop (good + 1) bytes) (get_or bytes good 0) split all other)
bad_at bytes text good place byte high low Memory es within short et ep eb eh el e = tt

-- a step from where the last one ended
pub took_then : {names names' names'' : List (List ℕ)} {ts ts' ts'' : List Token} {glued glued' glued'' : Bool} {place place' place'' : Place} (bytes rest : List ℕ) (done size : ℕ) → Took names names' ts ts' glued glued' place place' bytes (drop done bytes) → rest ≡ drop done bytes → Took names' names'' ts' ts'' glued' glued'' place' place'' rest (drop size rest) → Took names names'' ts ts'' glued glued'' place place'' bytes (drop (done + size) bytes)
took_then {names = names} {names' = names'} {names'' = names''} {ts = ts} {ts' = ts'} {ts'' = ts''} {glued = glued} {glued' = glued'} {glued'' = glued''} {place = place} {place' = place'} {place'' = place''} bytes rest done size a e b =
    subst (λ bs. Took names names'' ts ts'' glued glued'' place place'' bytes bs) (drop-drop size done bytes)
    (took_more a (subst (λ bs. Took names' names'' ts' ts'' glued' glued'' place' place'' bs (drop size bs)) e b))

-- all lexemes of the bytes, the end among them
all_lexemes : {names names' : List (List ℕ)} {ts ts' : List Token} {glued glued' : Bool} {place place' : Place} {bytes bytes' : List ℕ} → Took names names' ts ts' glued glued' place place' bytes bytes' → List Lexeme
all_lexemes {place' = place'} took = took.lexemes ++ lexeme place' End [] ∷ []

all_spelled : {names names' : List (List ℕ)} {ts : List Token} {glued : Bool} {place : Place} (bytes : List ℕ) (done : ℕ) (took : Took names names' [] ts false glued first_place place bytes (drop done bytes)) → length bytes ≤ done → list_all is_allowed bytes ≡ true → Spells bytes (all_lexemes took)
unfolding all_lexemes
all_spelled {glued = glued} {place = place} bytes done took ge allowed = record {
  allowed = allowed;
  gives = took.reads (FoundAnswer (lexeme place End [] ∷ [])) (subst (λ bs. Reads glued place bs (FoundAnswer (lexeme place End [] ∷ []))) (sym (drop_all done bytes ge)) (ended glued place));
}

pub found_all : {names names' : List (List ℕ)} {ts : List Token} {glued : Bool} {place : Place} (bytes : List ℕ) (done : ℕ) (tokens : List Token) → Took names names' [] ts false glued first_place place bytes (drop done bytes) → length bytes ≤ done → list_all is_allowed bytes ≡ true → tokens ≡ ts ++ (record { place = place; kind = EndKind }) ∷ [] → Found bytes names' tokens
unfolding all_lexemes
found_all {names' = names'} {ts = ts} {place = place} bytes done tokens took ge allowed e =
    let end : List Token = record { place = place; kind = EndKind } ∷ [] in
    record {
      lexemes = all_lexemes took;
      spells = all_spelled bytes done took ge allowed;
      numbered = subst (AreNumbered names' (all_lexemes took)) (sym (e ∙ ap (λ us. us ++ end) took.tokens))
          (numbered_append names' took.lexemes took.added (lexeme place End [] ∷ []) end took.numbered (record { place = refl; shape = refl; name = tt }, tt));
    }

pub table_all : {names names' : List (List ℕ)} {ts : List Token} {glued : Bool} {place : Place} (bytes : List ℕ) (done : ℕ) → Took names names' [] ts false glued first_place place bytes (drop done bytes) → length bytes ≤ done → list_all is_allowed bytes ≡ true → (ls : List Lexeme) → Spells bytes ls → names' ≡ with_texts names (texts_of ls)
unfolding all_lexemes
table_all {names = names} {place = place} bytes done took ge allowed ls spells =
    let same : all_lexemes took ≡ ls = one_spelling bytes (all_lexemes took) ls (all_spelled bytes done took ge allowed) spells in
    took.table ∙ (ap (with_texts names) (sym (append_nil (texts_of took.lexemes)) ∙ sym (texts_of_append took.lexemes (lexeme place End [] ∷ []))) ∙ ap (λ ms. with_texts names (texts_of ms)) same)

pub spelled_no_fault : {names names' : List (List ℕ)} {ts : List Token} {glued : Bool} {place : Place} (bytes : List ℕ) (done : ℕ) → Took names names' [] ts false glued first_place place bytes (drop done bytes) → length bytes ≤ done → list_all is_allowed bytes ≡ true → (refusal : Refusal) → FirstFault bytes refusal → ⊥
spelled_no_fault bytes done took ge allowed refusal fault = no_fault bytes (all_lexemes took) refusal (all_spelled bytes done took ge allowed) fault

pub took_extends : {names names' : List (List ℕ)} {ts ts' : List Token} {glued glued' : Bool} {place place' : Place} {bytes bytes' : List ℕ} → Took names names' ts ts' glued glued' place place' bytes bytes' → Extends names names'
took_extends {names = names} took = subst (Extends names) (sym took.table) (extends_texts (texts_of took.lexemes) names)

pub extends_more : (a b c : List (List ℕ)) → Extends a b → Extends b c → Extends a c
extends_more a b c first next = extends_all a b c first next

-- what stops later stops the whole
pub fault_after : {names names' : List (List ℕ)} {ts : List Token} {glued : Bool} {place : Place} (bytes rest : List ℕ) (done : ℕ) (fault : Fault) → Took names names' [] ts false glued first_place place bytes (drop done bytes) → rest ≡ drop done bytes → list_all is_allowed bytes ≡ true → IfRefused (IsStop glued place rest) fault → IfRefused (FirstFault bytes) fault
fault_after {glued = glued} {place = place} bytes rest done (Refused refusal) took e allowed stop =
    subst (FirstFault bytes) (sym stop.is)
    (no_token place stop.wrong allowed (took.reads (Stops place stop.wrong) (subst (λ bs. Reads glued place bs (Stops place stop.wrong)) e stop.stops)))
fault_after bytes rest done Memory took e allowed stop = tt

pub not_refused : (bytes : List ℕ) (result : Result Tokens Fault) → IfErr result (IfRefused (FirstFault bytes)) → (ls : List Lexeme) → Spells bytes ls → IsNotRefused result
not_refused bytes (Ok tokens) fault ls spells = tt
not_refused bytes (Err (Refused refusal)) fault ls spells = no_fault bytes ls refusal spells fault
not_refused bytes (Err Memory) fault ls spells = tt

pub this_refusal : (bytes : List ℕ) (result : Result Tokens Fault) → IfErr result (IfRefused (FirstFault bytes)) → OnOk result ⊥ → (refusal : Refusal) → FirstFault bytes refusal → IsThisRefusal refusal result
this_refusal bytes (Ok tokens) fault no_tokens refusal first = no_tokens
this_refusal bytes (Err (Refused other)) fault no_tokens refusal first = one_fault bytes other refusal fault first
this_refusal bytes (Err Memory) fault no_tokens refusal first = tt

-- what is taken of the rest is within the whole
pub within_more : (bytes rest : List ℕ) (done size : ℕ) → done ≤ length bytes → rest ≡ drop done bytes → size ≤ length rest → done + size ≤ length bytes
within_more bytes rest done size within e h =
    let long : length rest ≡ length bytes - done = ap length e ∙ length-drop done bytes in
    omega arith

kind_end : (k : TokenKind) → is_end_kind k ≡ is_end (shape_of k)
kind_end (kind.VarId name) = refl
kind_end (kind.ConId name) = refl
kind_end (kind.Op name) = refl
kind_end (kind.Word word) = refl
kind_end (kind.Number value) = refl
kind_end (kind.Bits width value) = refl
kind_end (kind.Mark c) = refl
kind_end kind.Dot = refl
kind_end kind.End = refl

end_token : Place → List Token
end_token place = record { place = place; kind = EndKind } ∷ []

one_more : (t : Token) (ts : List Token) (place : Place) → is_end_kind t.kind ≡ false → ends_once (ts ++ end_token place) ≡ true → ends_once (t ∷ (ts ++ end_token place)) ≡ true
unfolding end_token
one_more t [] place no_end h = rw no_end h
one_more t (u ∷ us) place no_end h = rw no_end h

not_true : (b : Bool) → not b ≡ true → b ≡ false
not_true true h = absurd (true≢false (sym h))
not_true false h = refl

one_end : (place : Place) → ends_once (end_token place) ≡ true
unfolding end_token
one_end place = refl

ends_after : (names : List (List ℕ)) (ls : List Lexeme) (ts : List Token) (place : Place) → AreNumbered names ls ts → list_all (λ (l : Lexeme). not (is_end l.shape)) ls ≡ true → ends_once (ts ++ end_token place) ≡ true
ends_after names [] [] place numbered inner = one_end place
ends_after names [] (t ∷ ts) place numbered inner = absurd numbered
ends_after names (l ∷ ls) [] place numbered inner = absurd numbered
ends_after names (l ∷ ls) (t ∷ ts) place (one, rest) inner =
    let both = and_true (not (is_end l.shape)) (list_all (λ (l : Lexeme). not (is_end l.shape)) ls) inner in
    one_more t ts place (kind_end t.kind ∙ (ap is_end one.shape ∙ not_true (is_end l.shape) both.0)) (ends_after names ls ts place rest both.1)

-- the last token and no other is the end
pub ends_all : {names names' : List (List ℕ)} {ts : List Token} {glued : Bool} {place place' : Place} {bytes bytes' : List ℕ} (tokens : List Token) → Took names names' [] ts false glued place place' bytes bytes' → tokens ≡ ts ++ (record { place = place'; kind = EndKind }) ∷ [] → ends_once tokens ≡ true
unfolding end_token
ends_all {names' = names'} {place' = place'} tokens took e =
    subst (λ us. ends_once us ≡ true) (sym (e ∙ ap (λ us. us ++ end_token place') took.tokens)) (ends_after names' took.lexemes took.added place' took.numbered took.inner)

-- it stands after the last byte
pub end_at : {names names' : List (List ℕ)} {ts : List Token} {glued : Bool} {place : Place} (bytes : List ℕ) (done : ℕ) (tokens : List Token) → Took names names' [] ts false glued first_place place bytes (drop done bytes) → length bytes ≤ done → tokens ≡ ts ++ (record { place = place; kind = EndKind }) ∷ [] → EndsAt (place_after first_place bytes) tokens
end_at {ts = ts} {place = place} bytes done tokens took ge e =
    let here : place ≡ place_after first_place bytes = sym (took.here ∙ ap (place_after place) (drop_all done bytes ge)) in
    (ts, e ∙ ap (λ p. ts ++ (record { place = p; kind = EndKind }) ∷ []) here)

-- one token a byte at most, and the end
pub few_all : {names names' : List (List ℕ)} {ts : List Token} {glued : Bool} {place place' : Place} {bytes bytes' : List ℕ} (tokens : List Token) → Took names names' [] ts false glued place place' bytes bytes' → tokens ≡ ts ++ (record { place = place'; kind = EndKind }) ∷ [] → length tokens ≤ length bytes + 1
few_all {ts = ts} {place' = place'} {bytes = bytes} {bytes' = bytes'} tokens took e =
    let end : List Token = record { place = place'; kind = EndKind } ∷ [] in
    let long : length tokens ≡ length ts + length end = ap length e ∙ length-append ts end in
    let same : length ts ≡ length took.added = ap length took.tokens in
    let few = took.few in
    omega arith
