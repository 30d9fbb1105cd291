-- Things that stand together, each with nodes of its own, and the node that has their count.
use Rattle.std.proofs.Common.{◌≡◌, ℕ, ◌+◌, refl, ap, sym, ◌∙◌, List, [], ◌∷◌, length, reverse, Some, None, nat_eq, if◌then◌else◌, arith}
use Rattle.std.proofs.lemmas.List.{length-reverse}
use Rattle.std.proofs.lemmas.Bool.{eq-eqb}
use mathlib.Core.List.{reverse_aux}
use Rattle.hb_read_declarations.specs.declared.node.DeclNode.{DeclNode}
use Rattle.hb_read_declarations.specs.Nodes.{counted, closed}
use Rattle.hb_build.specs.Building.{built}
use Rattle.hb_build.proofs.BuildingLaws.{then as behind, both, refused as refused_by}
use Rattle.hb_build_expressions.specs.Taking.{off}
use Rattle.hb_build_expressions.proofs.TakingLaws.{from, all_off}
use Rattle.hb_build_program.specs.declared.builder.DeclBuilder.{DeclBuilder}
use Rattle.hb_build_program.specs.DeclarationSteps.{checked, stepped}
use Rattle.hb_build_program.specs.ParsedProgram.{AllOf}

-- a node that is not taken is the end
pub refused : (s : DeclBuilder) (n : DeclNode) (nodes : List DeclNode) → stepped s n ≡ None → built stepped (Some s) (n ∷ nodes) ≡ None
refused s n nodes e = refused_by stepped s n nodes e

-- these nodes lead from one state to another
abbrev pub Leads : DeclBuilder → List DeclNode → DeclBuilder → Type 0
Leads s nodes t = built stepped (Some s) nodes ≡ Some t

-- each of them puts itself on a stack
abbrev pub Each : {A : Type 0} → (A → List DeclNode) → (A → Type 0) → (List A → DeclBuilder) → Type 0
Each f P at = (stack : List _) (x : _) → P x → Leads (at stack) (f x) (at (x ∷ stack))

pub any : {A : Type 0} (xs : List A) → AllOf (λ x. Unit {0}) xs
any [] = tt
any (x ∷ xs) = (tt, any xs)

-- so all of them do
pub counted_found : {A : Type 0} (f : A → List DeclNode) (P : A → Type 0) (at : List A → DeclBuilder) → Each f P at → (xs stack : List A) → AllOf P xs → Leads (at stack) (counted f xs).nodes (at (reverse_aux xs stack))
counted_found f P at each [] stack u = refl
counted_found f P at each (x ∷ xs) stack u = both stepped (at stack) (at (x ∷ stack)) (at (reverse_aux xs (x ∷ stack))) (f x) (counted f xs).nodes (each stack x u.0) (counted_found f P at each xs (x ∷ stack) u.1)

-- and then the node that has their count
pub closed_found : {A : Type 0} (f : A → List DeclNode) (P : A → Type 0) (at : List A → DeclBuilder) (whole : ℕ → DeclNode) → Each f P at → (xs stack : List A) → AllOf P xs → built stepped (Some (at stack)) (closed whole (counted f xs)) ≡ stepped (at (reverse_aux xs stack)) (whole (counted f xs).count)
closed_found f P at whole each xs stack u = behind stepped (at stack) (at (reverse_aux xs stack)) (counted f xs).nodes (whole (counted f xs).count) (counted_found f P at each xs stack u)

length_more : {A : Type 0} (x : A) (xs : List A) → 1 + length xs ≡ length (x ∷ xs)
length_more x xs = omega arith

pub count_is : {A : Type 0} (f : A → List DeclNode) (xs : List A) → (counted f xs).count ≡ length xs
count_is f [] = refl
count_is f (x ∷ xs) = ap (λ n. 1 + n) (count_is f xs) ∙ length_more x xs

count_moved : (n m : ℕ) → (n + 1) + m ≡ n + (1 + m)
count_moved n m = omega arith

plus_zero : (n : ℕ) → n ≡ n + 0
plus_zero n = omega arith

zero_plus : (n : ℕ) → 0 + n ≡ n
zero_plus n = omega arith

from_is : {A : Type 0} (n : ℕ) (xs : List A) → from n xs ≡ n + length xs
from_is n [] = plus_zero n
from_is n (x ∷ xs) = from_is (n + 1) xs ∙ count_moved n (length xs) ∙ ap (λ m. n + m) (length_more x xs)

-- as many come off again as there are
pub all_of_them_off : {A : Type 0} (xs stack : List A) → off (length xs) (reverse_aux xs stack) [] ≡ Some (xs, stack)
all_of_them_off xs stack = ap (λ n. off n (reverse_aux xs stack) []) (sym (from_is 0 xs ∙ zero_plus (length xs))) ∙ all_off xs stack

pub counted_off : {A : Type 0} (f : A → List DeclNode) (xs stack : List A) → off (counted f xs).count (reverse_aux xs stack) [] ≡ Some (xs, stack)
counted_off f xs stack = ap (λ n. off n (reverse_aux xs stack) []) (count_is f xs) ∙ all_of_them_off xs stack

-- the count is the one that is built
pub if_counted : {A B : Type 0} (f : A → List DeclNode) (xs : List A) (a b : B) → (if nat_eq (counted f xs).count (length (reverse_aux xs [])) then a else b) ≡ a
if_counted f xs a b = ap (λ same. if same then a else b) (eq-eqb (counted f xs).count (length (reverse xs)) (count_is f xs ∙ sym (length-reverse xs)))

-- the node only checks the count
pub checked_found : {A : Type 0} (f : A → List DeclNode) (P : A → Type 0) (at : List A → DeclBuilder) (whole : ℕ → DeclNode) → Each f P at → ((stack : List A) (n : ℕ) → stepped (at stack) (whole n) ≡ checked (at stack) n (length stack)) → (xs : List A) → AllOf P xs → Leads (at []) (closed whole (counted f xs)) (at (reverse_aux xs []))
checked_found f P at whole each test xs u =
    closed_found f P at whole each xs [] u
    ∙ test (reverse_aux xs []) (counted f xs).count
    ∙ if_counted f xs (Some (at (reverse_aux xs []))) None
