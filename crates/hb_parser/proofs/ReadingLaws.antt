-- The reader of programs over a list of tokens, one after another.
use Rattle.std.proofs.Common.{◌≡◌, ◌≢◌, ℕ, suc, ◌+◌, ◌<◌, ◌≤◌, true, false, List, [], ◌∷◌, ◌++◌, length, take, drop, get_or, Option, Some, None, is_some, refl, sym, ap, subst, ◌∙◌, arith}
use Rattle.std.proofs.Math.Seq.{take-suc, drop-cons}
use Rattle.std.proofs.lemmas.List.{take_all, take-append-drop}
use Rattle.hb_tokens.specs.declared.token.Token.{Token}
use Rattle.hb_tokens.specs.Ends.{ends_once}
use Rattle.hb_grammar.specs.Reading.{Reader, at_start}
use Rattle.hb_grammar.proofs.FirstWrong.{LeadsTo, here, taken}
use Rattle.hb_engine.specs.Tables.{Thread}
use Rattle.hb_read_declarations.specs.declared.node.DeclNode.{DeclNode}
use Rattle.hb_read_program.specs.Frames.{Frame, program_engine}
use Rattle.hb_read_program.proofs.Ending.{ends_whole}
use Rattle.hb_read_program.proofs.Exactness.{program_exact}
use Rattle.hb_parser.specs.Parsing.{FirstWrong, HasNodes}
use Rattle.hb_parser.proofs.SyntaxLaws.{refused_wrong, whole_read, all_taken}

abbrev State : Type 0
State = Thread Frame DeclNode

-- so many tokens lead to this state
abbrev Read : List Token → ℕ → State → Type 0
Read tokens i s = LeadsTo program_engine program_engine.start (take i tokens) s

pub nothing_read : (tokens : List Token) {s : State} → s ≡ program_engine.start → Read tokens 0 s
nothing_read tokens {s} e = let P : State → Type 0 = λ s. LeadsTo program_engine program_engine.start [] s in subst P (sym e) here

leads_on : {S V : Type 0} {reader : Reader S V} {s r q : S} {ts : List Token} (t : Token) → LeadsTo reader s ts r → reader.move r t ≡ Some q → LeadsTo reader s (ts ++ t ∷ []) q
leads_on t here m = taken m here
leads_on t (taken n l) m = taken n (leads_on t l m)

pub one_more_read : (tokens : List Token) (i : ℕ) (d : Token) {s r : State} → i < length tokens → Read tokens i s → program_engine.move s (get_or tokens i d) ≡ Some r → Read tokens (i + 1) r
one_more_read tokens i d {r} within l took =
    let more : i + 1 ≡ suc i = omega arith in
    let next : take (i + 1) tokens ≡ take i tokens ++ get_or tokens i d ∷ [] = ap (λ k. take k tokens) more ∙ take-suc tokens i d within in
    let P : List Token → Type 0 = λ ts. LeadsTo program_engine program_engine.start ts r in
    subst P (sym next) (leads_on (get_or tokens i d) l took)

split : (xs : List Token) (i : ℕ) (d : Token) → i < length xs → take i xs ++ get_or xs i d ∷ drop (suc i) xs ≡ xs
split xs i d within = ap (λ rest. take i xs ++ rest) (sym (drop-cons xs i d within)) ∙ take-append-drop i xs

pub wrong_here : (tokens : List Token) (i : ℕ) (d : Token) {s : State} → i < length tokens → Read tokens i s → program_engine.move s (get_or tokens i d) ≡ None → FirstWrong tokens (get_or tokens i d).place
wrong_here tokens i d within l took =
    subst (λ ts. FirstWrong ts (get_or tokens i d).place) (split tokens i d within) (refused_wrong (get_or tokens i d) (drop (suc i) tokens) program_exact l took)

pub all_read : (tokens : List Token) (i : ℕ) {s : State} {nodes : List DeclNode} → length tokens ≤ i → Read tokens i s → Some nodes ≡ program_engine.done s → HasNodes tokens nodes
all_read tokens i {s} past l d =
    let all : take i tokens ≡ tokens = take_all i tokens past in
    let P : List Token → Type 0 = λ ts. LeadsTo program_engine program_engine.start ts s in
    whole_read program_exact (subst P all l) (sym d)

-- behind all tokens, of which the last is the end, a program is whole
pub all_whole : (tokens : List Token) (i : ℕ) {s : State} → length tokens ≤ i → Read tokens i s → ends_once tokens ≡ true → is_some (program_engine.done s) ≡ true
all_whole tokens i {s} past l e =
    let all : take i tokens ≡ tokens = take_all i tokens past in
    let P : List Token → Type 0 = λ ts. LeadsTo program_engine program_engine.start ts s in
    all_taken (λ t d s r h m. ends_whole t d s r h m) at_start (subst P all l) e
