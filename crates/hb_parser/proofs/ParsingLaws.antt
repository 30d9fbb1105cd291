-- What the parts of the parser say together. A list of tokens is one program at most.
use Rattle.std.proofs.Common.{◌≡◌, ◌<◌, ◌≤◌, ◌*◌, length, ◌⊎◌, ⊎_elim, ℕ, List, [], ◌∷◌, Option, Some, None, codes, refl, sym, ap, subst, ◌∙◌, arith}
use Rattle.std.specs.Prelude.{Result, Ok, Err, IfOk, IfErr, MatchResult, All}
use Rattle.std.specs.List.{Contains}
use Rattle.std.proofs.lemmas.List.Elements.{All-contains}
use Rattle.hb_base.specs.declared.place.Place.{Place}
use Rattle.hb_base.specs.declared.refusal.Refusal.{Refusal}
use Rattle.hb_base.specs.declared.refusal.Code.TheVariants.{E04, E29}
use Rattle.hb_base.specs.declared.refusal.Fault.{Fault}
use Rattle.hb_base.specs.declared.refusal.Fault.TheVariants.{Refused, Memory}
use Rattle.hb_tokens.specs.declared.token.Token.{Token}
use Rattle.hb_base.specs.Faults.{IfRefused}
use Rattle.hb_tree.specs.declared.declaration.Program.{Program}
use Rattle.hb_tree.specs.Things.{program_things}
use Rattle.hb_grammar.specs.Declarations.{Derives}
use Rattle.hb_grammar_laws.proofs.DeclarationsFew.{program_few}
use Rattle.hb_read_declarations.specs.declared.node.DeclNode.{DeclNode}
use Rattle.hb_read_declarations.specs.Nodes.{program_nodes}
use Rattle.hb_read_program.proofs.Exactness.{program_exact}
use Rattle.hb_depth.specs.Depth.{too_deep, IsNotAfter, IsFirst}
use Rattle.hb_depth.specs.Written.{IsWrittenProgram}
use Rattle.hb_depth.proofs.Derived.{program_written}
use Rattle.hb_build_program.specs.ParsedProgram.{IsParsed}
use Rattle.hb_build_program.proofs.Parsed.{derived_parsed}
use Rattle.hb_build_program.proofs.ProgramLaws.{programs_alike}
use Rattle.hb_parser.specs.Parsing.{FirstWrong, HasNodes, Parses, IsDeepForm, FirstFault, wrong_token, deep_form, AreNodes, HasTree, Builds}
use Rattle.hb_parser.proofs.SyntaxLaws.{nodes_alone, derives_right, wrong_alone}

abbrev pub wrong_at : Place → Refusal
wrong_at place = record { code = E04; place = place; detail = codes "-" }

abbrev deep_at : Place → Refusal
deep_at place = record { code = E29; place = place; detail = codes "depth" }

-- a list of tokens is one program at most
pub program_alone : {ts : List Token} {p q : Program} → Derives ts p → Derives ts q → p ≡ q
program_alone {p} {q} d e = programs_alike p q (derived_parsed d) (derived_parsed e) (nodes_alone program_exact d e)

-- the first of some places is one

both_not_after : (a b : Place) → IsNotAfter a b → IsNotAfter b a → (a.line ≡ b.line) × (a.col ≡ b.col)
both_not_after a b h g =
    ⊎_elim
    (λ less. ⊎_elim (λ more. absurd (omega (arith, less, more))) (λ same. absurd (omega (arith, less, same.0))) g)
    (λ same. ⊎_elim (λ more. absurd (omega (arith, same.0, more))) (λ other. (same.0, omega (arith, same.1, other.1))) g)
    h

place_is : (a b : Place) → a.line ≡ b.line → a.col ≡ b.col → a ≡ b
place_is a b d e = ap (λ line. at line a.col) d ∙ ap (at b.line) e
  where
    at : ℕ → ℕ → Place
    at line col = record { line = line; col = col }

first_alone : (places : List Place) {a b : Place} → IsFirst (Some a) places → IsFirst (Some b) places → a ≡ b
first_alone places {a} {b} h g =
    let same = both_not_after a b (All-contains (IsNotAfter a) places b h.1 g.0) (All-contains (IsNotAfter b) places a g.1 h.0) in
    place_is a b same.0 same.1

no_first : (places : List Place) {a : Place} → places ≡ [] → IsFirst (Some a) places → ⊥
no_first places {a} e h = nowhere (subst (λ places. Contains places a) e h.0)
  where
    nowhere : Contains [] a → ⊥
    nowhere h = omega (arith, h.1)

-- a list of tokens has one first fault at most
pub fault_alone : {ts : List Token} {a b : Refusal} → FirstFault ts a → FirstFault ts b → a ≡ b
fault_alone (wrong_token p v) (wrong_token q w) = ap wrong_at (wrong_alone v w)
fault_alone (wrong_token p v) (deep_form q program d first) = absurd (derives_right d v)
fault_alone (deep_form p program d first) (wrong_token q w) = absurd (derives_right d w)
fault_alone (deep_form p program d first) (deep_form q other e second) =
    ap deep_at (first_alone (too_deep program) first (subst (λ (x : Program). IsFirst (Some q) (too_deep x)) (program_alone e d) second))

-- where the tokens are read

tree_alone : {ts : List Token} {nodes : List DeclNode} {p : Program} → (h : HasNodes ts nodes) → Derives ts p → h.program ≡ p
tree_alone h d = program_alone h.derives d

tree_shallow : {ts : List Token} {nodes : List DeclNode} {p : Program} → (h : HasNodes ts nodes) → Parses ts p → too_deep h.program ≡ []
tree_shallow h parses = ap too_deep (tree_alone h parses.derives) ∙ parses.shallow

pub tree_found : {ts : List Token} {nodes : List DeclNode} {result : Result Program Fault} → HasNodes ts nodes → Builds nodes result → IfOk result (Parses ts)
tree_found {ts} {nodes} {result = Ok answer} h builds =
    let built = builds.built ts h.program h.derives h.are in
    record { derives = subst (Derives ts) (sym built.0) h.derives; shallow = ap too_deep built.0 ∙ built.1 }
tree_found {result = Err f} h builds = tt

deep_fault : {ts : List Token} {p : Program} (f : Fault) → Derives ts p → IfRefused (IsDeepForm p) f → IfRefused (FirstFault ts) f
deep_fault {ts} {p} (Refused refusal) d deep = subst (FirstFault ts) (sym deep.1) (deep_form refusal.place p d deep.0)
deep_fault Memory d deep = tt

pub tree_faults : {ts : List Token} {nodes : List DeclNode} {result : Result Program Fault} → HasNodes ts nodes → Builds nodes result → IfErr result (IfRefused (FirstFault ts))
tree_faults {ts} {result = Err f} h builds = deep_fault f h.derives (builds.refused ts h.program h.derives h.are)
tree_faults {result = Ok answer} h builds = tt

not_deep : (p : Program) (f : Fault) → too_deep p ≡ [] → IfRefused (IsDeepForm p) f → f ≡ Memory
not_deep p (Refused refusal) shallow deep = absurd (no_first (too_deep p) shallow deep.0)
not_deep p Memory shallow deep = refl

pub tree_only : {ts : List Token} {nodes : List DeclNode} {result : Result Program Fault} → HasNodes ts nodes → Builds nodes result → (p : Program) → Parses ts p → MatchResult result (λ answer. answer ≡ p) (λ f. f ≡ Memory)
tree_only {ts} {result = Ok answer} h builds p parses = (builds.built ts h.program h.derives h.are).0 ∙ tree_alone h parses.derives
tree_only {ts} {result = Err f} h builds p parses = not_deep h.program f (tree_shallow h parses) (builds.refused ts h.program h.derives h.are)

deep_is : {ts : List Token} {p : Program} (f : Fault) → Derives ts p → IfRefused (IsDeepForm p) f → (refusal : Refusal) → FirstFault ts refusal → IfRefused (λ other. other ≡ refusal) f
deep_is Memory d deep refusal fault = tt
deep_is (Refused other) d deep refusal (wrong_token place wrong) = absurd (derives_right d wrong)
deep_is {p} (Refused other) d deep refusal (deep_form place q e first) =
    deep.1 ∙ ap deep_at (first_alone (too_deep p) deep.0 (subst (λ (x : Program). IsFirst (Some place) (too_deep x)) (program_alone e d) first))

-- what is parsed has no fault
pub parsed_no_fault : {ts : List Token} {p : Program} → Parses ts p → (refusal : Refusal) → FirstFault ts refusal → ⊥
parsed_no_fault parses refusal (wrong_token place wrong) = derives_right parses.derives wrong
parsed_no_fault parses refusal (deep_form place q e first) = no_first (too_deep q) (ap too_deep (program_alone e parses.derives) ∙ parses.shallow) first

pub tree_refused : {ts : List Token} {nodes : List DeclNode} {result : Result Program Fault} → HasNodes ts nodes → Builds nodes result → (refusal : Refusal) → FirstFault ts refusal → MatchResult result (λ answer. ⊥) (IfRefused (λ other. other ≡ refusal))
tree_refused {ts} {result = Err f} h builds refusal fault = deep_is f h.derives (builds.refused ts h.program h.derives h.are) refusal fault
tree_refused {result = Ok answer} h builds refusal fault = parsed_no_fault (tree_found h builds) refusal fault

-- what is read has at most four things for each token
pub tree_few : {ts : List Token} {nodes : List DeclNode} {result : Result Program Fault} → HasNodes ts nodes → Builds nodes result → IfOk result (λ p. program_things p ≤ 4 * length ts)
tree_few {result = Ok p} h builds = program_few (tree_found h builds).derives
tree_few {result = Err f} h builds = tt

-- where a token is wrong

pub wrong_faults : {ts : List Token} {place : Place} (f : Fault) → FirstWrong ts place → IfRefused (λ refusal. refusal ≡ wrong_at place) f → IfRefused (FirstFault ts) f
wrong_faults {ts} {place} (Refused refusal) wrong e = subst (FirstFault ts) (sym e) (wrong_token place wrong)
wrong_faults Memory wrong e = tt

pub wrong_only : {ts : List Token} {place : Place} (f : Fault) → FirstWrong ts place → (p : Program) → Parses ts p → f ≡ Memory
wrong_only f wrong p parses = absurd (derives_right parses.derives wrong)

pub wrong_refused : {ts : List Token} {place : Place} (f : Fault) → FirstWrong ts place → IfRefused (λ refusal. refusal ≡ wrong_at place) f → (refusal : Refusal) → FirstFault ts refusal → IfRefused (λ other. other ≡ refusal) f
wrong_refused Memory wrong e refusal fault = tt
wrong_refused (Refused other) wrong e refusal (wrong_token place here) = e ∙ ap wrong_at (wrong_alone wrong here)
wrong_refused (Refused other) wrong e refusal (deep_form place q d first) = absurd (derives_right d wrong)

-- the passes over the nodes

pub deep_builds : {nodes : List DeclNode} {place : Place} (f : Fault) → ((p : Program) → IsWrittenProgram p → nodes ≡ program_nodes p → IsFirst (Some place) (too_deep p)) → IfRefused (λ refusal. refusal ≡ record { code = E29; place = place; detail = codes "depth" }) f → Builds nodes (Err f)
deep_builds f first e = record {
  built = λ ts p d are. tt;
  refused = λ ts p d are. is_deep p f (first p (program_written d) are) e;
}
  where
    is_deep : (p : Program) {place : Place} (f : Fault) → IsFirst (Some place) (too_deep p) → IfRefused (λ refusal. refusal ≡ record { code = E29; place = place; detail = codes "depth" }) f → IfRefused (IsDeepForm p) f
    is_deep p Memory first e = tt
    is_deep p (Refused refusal) first e = subst (IsDeepForm p) (sym e) (first, refl)

some_is : {A : Type 0} {a b : A} {o : Option A} → o ≡ Some a → o ≡ Some b → a ≡ b
some_is d e = cc

pub tree_of : {nodes : List DeclNode} {program : Program} {o : Option Program} → o ≡ Some program → ((p : Program) → IsParsed p → nodes ≡ program_nodes p → o ≡ Some p) → HasTree nodes program
tree_of is found ts p d are = some_is is (found p (derived_parsed d) are)

pub tree_there : {nodes : List DeclNode} {o : Option Program} → (n : AreNodes nodes) → ((p : Program) → IsParsed p → nodes ≡ program_nodes p → o ≡ Some p) → o ≡ Some n.1.program
tree_there n found = found n.1.program (derived_parsed n.1.derives) n.1.are

pub shallow_builds : {nodes : List DeclNode} {result : Result Program Fault} → ((p : Program) → IsWrittenProgram p → nodes ≡ program_nodes p → IsFirst None (too_deep p)) → IfOk result (HasTree nodes) → IfErr result (λ f. f ≡ Memory) → Builds nodes result
shallow_builds {result = Ok program} first tree memory = record {
  built = λ ts p d are. (tree ts p d are, first p (program_written d) are);
  refused = λ ts p d are. tt;
}
shallow_builds {result = Err f} first tree memory = record {
  built = λ ts p d are. tt;
  refused = λ ts p d are. no_refusal (IsDeepForm p) f memory;
}
  where
    no_refusal : (P : Refusal → Type 0) (f : Fault) → f ≡ Memory → IfRefused P f
    no_refusal P (Refused refusal) e = cc
    no_refusal P Memory e = tt

pub memory_builds : {nodes : List DeclNode} → Builds nodes (Err Memory)
memory_builds = record { built = λ ts p d are. tt; refused = λ ts p d are. tt }
