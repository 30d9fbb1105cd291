-- Predicates with their trees, and the same without them.
use Rattle.std.proofs.Common.{◌≡◌, ℕ, ◌+◌, List, [], ◌∷◌, ◌++◌, length, refl, sym, ap, subst, ◌∙◌, append_assoc, arith, add-zero}
use Rattle.std.proofs.lemmas.List.{append-nil}
use Rattle.hb_base.specs.declared.name.Name.{Name}
use Rattle.hb_base.specs.declared.place.Place.{Place}
use Rattle.hb_tokens.specs.declared.token.Token.{Token}
use Rattle.hb_tokens.specs.declared.token.TokenKind.{TokenKind}
use Rattle.hb_tokens.specs.declared.token.TokenKind.TheVariants.{ConId, Number}
use Rattle.hb_tree.specs.declared.types.PredExpr.{PredExpr}
use Rattle.hb_tree.specs.declared.types.PredExpr.TheVariants as pred
use Rattle.hb_tree.specs.Types.{TypeExpr}
use Rattle.hb_grammar.specs.Types as grammar
use Rattle.hb_grammar.specs.Types.{ReadsAtype, ReadsAtypes, ReadsPred, name_at}
use Rattle.hb_read_types.specs.declared.node.TypeNode.{TypeNode}
use Rattle.hb_read_types.specs.declared.node.TypeNode.TheVariants as node
use Rattle.hb_read_types.specs.declared.sort.Sort.TheVariants as sort
use Rattle.hb_read_types.specs.declared.pred_reader.Fact.{Fact}
use Rattle.hb_read_types.specs.declared.pred_reader.Fact.TheVariants.{Sum, Product, Power}
use Rattle.hb_read_types.specs.Sorts.{sort_of}
use Rattle.hb_read_types.specs.TypeMoves.{put}
use Rattle.hb_read_types.specs.Nodes.{type_nodes, types_nodes, pred_nodes}
use Rattle.hb_read_types.specs.PredMoves.{fact_node}
use Rattle.hb_read_types.proofs.SortLaws.{con_sort, number_sort, equals_sort, plus_sort, times_sort, power_sort, at_most_sort, sort_is, AtomIs, con_atom, number_atom}
use Rattle.hb_read_types.proofs.TypeTrees.{put_tree, put_nodes, puts_atype, AtypeTree, atype_tree, atype_of}
use Rattle.hb_read_types.proofs.PredRest.{ArgsRest, args_end, args_more, MiddleRest, equals_next, FirstRest, plus_next, times_next, at_most_next, PutsPred, class_pred, fact_pred, power_pred}

abbrev pub put_types : List TypeNode → List TypeExpr → List TypeNode
put_types ns [] = ns
put_types ns (a ∷ rest) = put_types (put_tree ns a) rest

-- the nodes of a predicate behind others
abbrev pub put_pred : List TypeNode → PredExpr → List TypeNode
put_pred ns (pred.Class name types) = put (put_types ns types) (node.Class name.place name.name (length types))
put_pred ns (pred.Sum a b c) = put (put_tree (put_tree (put_tree ns a) b) c) node.SumFact
put_pred ns (pred.Product a b c) = put (put_tree (put_tree (put_tree ns a) b) c) node.ProductFact
put_pred ns (pred.Power a b) = put (put_tree (put_tree ns a) b) node.PowerFact
put_pred ns (pred.AtMost a b) = put (put_tree (put_tree ns a) b) node.AtMostFact

put_types_nodes : (ns : List TypeNode) (types : List TypeExpr) → put_types ns types ≡ ns ++ types_nodes types
put_types_nodes ns [] = sym (append-nil ns)
put_types_nodes ns (a ∷ rest) = put_types_nodes (put_tree ns a) rest ∙ (ap (λ v. v ++ types_nodes rest) (put_nodes ns a) ∙ append_assoc ns (type_nodes a) (types_nodes rest))

one_more : (ns xs ls : List TypeNode) (n : TypeNode) → ls ≡ ns ++ xs → put ls n ≡ ns ++ (xs ++ n ∷ [])
one_more ns xs ls n e = ap (λ v. v ++ n ∷ []) e ∙ append_assoc ns xs (n ∷ [])

two_nodes : (ns : List TypeNode) (a b : TypeExpr) (n : TypeNode) → put (put_tree (put_tree ns a) b) n ≡ ns ++ (type_nodes a ++ (type_nodes b ++ n ∷ []))
two_nodes ns a b n = one_more (put_tree ns a) (type_nodes b) (put_tree (put_tree ns a) b) n (put_nodes (put_tree ns a) b) ∙ (ap (λ v. v ++ (type_nodes b ++ n ∷ [])) (put_nodes ns a) ∙ append_assoc ns (type_nodes a) (type_nodes b ++ n ∷ []))

three_nodes : (ns : List TypeNode) (a b c : TypeExpr) (n : TypeNode) → put (put_tree (put_tree (put_tree ns a) b) c) n ≡ ns ++ (type_nodes a ++ (type_nodes b ++ (type_nodes c ++ n ∷ [])))
three_nodes ns a b c n = two_nodes (put_tree ns a) b c n ∙ (ap (λ v. v ++ (type_nodes b ++ (type_nodes c ++ n ∷ []))) (put_nodes ns a) ∙ append_assoc ns (type_nodes a) (type_nodes b ++ (type_nodes c ++ n ∷ [])))

pub put_pred_nodes : (ns : List TypeNode) (p : PredExpr) → put_pred ns p ≡ ns ++ pred_nodes p
put_pred_nodes ns (pred.Class name types) = one_more ns (types_nodes types) (put_types ns types) (node.Class name.place name.name (length types)) (put_types_nodes ns types)
put_pred_nodes ns (pred.Sum a b c) = three_nodes ns a b c node.SumFact
put_pred_nodes ns (pred.Product a b c) = three_nodes ns a b c node.ProductFact
put_pred_nodes ns (pred.Power a b) = two_nodes ns a b node.PowerFact
put_pred_nodes ns (pred.AtMost a b) = two_nodes ns a b node.AtMostFact

puts_args : {us vs : List Token} {rest : List TypeExpr} (p : Place) (n : Name) (c k : ℕ) (ns : List TypeNode) → k ≡ c + length rest → ReadsAtypes us rest vs → ArgsRest p n c ns us (put (put_types ns rest) (node.Class p n k)) vs
puts_args {us} p n c k ns e grammar.no_atype = let same : c ≡ k = omega arith in let P : ℕ → Type 0 = λ v. ArgsRest p n c ns us (put ns (node.Class p n v)) us in subst P same args_end
puts_args p n c k ns e (grammar.atype_more {a} {rest = more} h r) = args_more (puts_atype ns h) (puts_args p n (c + 1) k (put_tree ns a) (omega arith) r)

pub puts_pred : {ts us : List Token} {p : PredExpr} → (ns : List TypeNode) → ReadsPred ts p us → PutsPred ns ts (put_pred ns p) us
puts_pred ns (grammar.of_class {t} {name} {a} {rest} e h r) = class_pred (con_sort t e) (puts_atype ns h) (puts_args t.place name 1 (length (a ∷ rest)) (put_tree ns a) (omega arith) r)
puts_pred ns (grammar.of_sum {a} {b} h s g e f) = fact_pred (puts_atype ns h) (plus_next (plus_sort _ s) (puts_atype (put_tree ns a) g) (equals_next (equals_sort _ e) (puts_atype (put_tree (put_tree ns a) b) f)))
puts_pred ns (grammar.of_product {a} {b} h s g e f) = fact_pred (puts_atype ns h) (times_next (times_sort _ s) (puts_atype (put_tree ns a) g) (equals_next (equals_sort _ e) (puts_atype (put_tree (put_tree ns a) b) f)))
puts_pred ns (grammar.of_power {a} k s g e f) = power_pred (number_sort _ k) (power_sort _ s) (puts_atype ns g) (equals_next (equals_sort _ e) (puts_atype (put_tree ns a) f))
puts_pred ns (grammar.of_at_most {a} h s g) = fact_pred (puts_atype ns h) (at_most_next (at_most_sort _ s) (puts_atype (put_tree ns a) g))

pub data PredTree : List TypeNode → List Token → List TypeNode → List Token → Type 0 where
  pred_tree : {ts us : List Token} {ns ls : List TypeNode} → (p : PredExpr) → ReadsPred ts p us → ls ≡ put_pred ns p → PredTree ns ts ls us

data ArgsTree : Place → Name → ℕ → List TypeNode → List Token → List TypeNode → List Token → Type 0 where
  args_tree : {p : Place} {n : Name} {c : ℕ} {ns ls : List TypeNode} {ts us : List Token} → (rest : List TypeExpr) → ReadsAtypes ts rest us → ls ≡ put (put_types ns rest) (node.Class p n (c + length rest)) → ArgsTree p n c ns ts ls us

longer : (c : ℕ) (a : TypeExpr) (rest : List TypeExpr) → (c + 1) + length rest ≡ c + length (a ∷ rest)
longer c a rest = omega arith

args_longer : {p : Place} {n : Name} {c : ℕ} {ns ms ls : List TypeNode} {ts us vs : List Token} → AtypeTree ts ns ms us → ArgsTree p n (c + 1) ms us ls vs → ArgsTree p n c ns ts ls vs
args_longer {p} {n} {c} {ns} (atype_tree a h e) (args_tree rest r f) = args_tree (a ∷ rest) (grammar.atype_more h r) (f ∙ (ap (λ v. put (put_types v rest) (node.Class p n ((c + 1) + length rest))) e ∙ ap (λ v. put (put_types (put_tree ns a) rest) (node.Class p n v)) (longer c a rest)))

args_of : {p : Place} {n : Name} {c : ℕ} {ns ls : List TypeNode} {ts us : List Token} → ArgsRest p n c ns ts ls us → ArgsTree p n c ns ts ls us
args_of (args_end {p} {n} {c} {ns}) = args_tree [] grammar.no_atype (ap (λ v. put ns (node.Class p n v)) (sym (add-zero c)))
args_of (args_more a h) = args_longer (atype_of a) (args_of h)

con_is : (q p : Place) (n : Name) (k : TokenKind) → AtomIs q (node.Con p n) k → (p ≡ q) × (k ≡ ConId n)
con_is q p n k con_atom = (refl, refl)

number_is : (q p : Place) (n : ℕ) (k : TokenKind) → AtomIs q (node.Number p n) k → k ≡ Number n
number_is q p n k number_atom = refl

one_and : (a : TypeExpr) (rest : List TypeExpr) → 1 + length rest ≡ length (a ∷ rest)
one_and a rest = omega arith

class_of : {p : Place} {n : Name} {ns ms ls : List TypeNode} {t : Token} {ts us vs : List Token} → (p ≡ t.place) × (t.kind ≡ ConId n) → AtypeTree ts ns ms us → ArgsTree p n 1 ms us ls vs → PredTree ns (t ∷ ts) ls vs
class_of {p} {n} {ns} {t} (d, e) (atype_tree a h f) (args_tree rest r g) =
    pred_tree (pred.Class (name_at t n) (a ∷ rest)) (grammar.of_class e h r)
    (g ∙ (ap (λ v. put (put_types v rest) (node.Class p n (1 + length rest))) f ∙ (ap (λ v. put (put_types (put_tree ns a) rest) (node.Class v n (1 + length rest))) d ∙ ap (λ v. put (put_types (put_tree ns a) rest) (node.Class t.place n v)) (one_and a rest))))

-- what is read after a type of a fact
data MiddleTree : Fact → List TypeNode → List Token → List TypeNode → List Token → Type 0 where
  middle_tree : {f : Fact} {ns ls : List TypeNode} {t : Token} {ts us : List Token} → (a : TypeExpr) → sort_of t ≡ sort.Equals → ReadsAtype ts a us → ls ≡ put (put_tree ns a) (fact_node f) → MiddleTree f ns (t ∷ ts) ls us

equals_of : {f : Fact} {ns ms : List TypeNode} {t : Token} {ts us : List Token} → sort_of t ≡ sort.Equals → AtypeTree ts ns ms us → MiddleTree f ns (t ∷ ts) (put ms (fact_node f)) us
equals_of {f} s (atype_tree a h e) = middle_tree a s h (ap (λ v. put v (fact_node f)) e)

middle_of : {f : Fact} {ns ls : List TypeNode} {ts us : List Token} → MiddleRest f ns ts ls us → MiddleTree f ns ts ls us
middle_of (equals_next e a) = equals_of e (atype_of a)

sum_of : {ns ms ks ls : List TypeNode} {s : Token} {ts us vs ws : List Token} → AtypeTree ts ns ms (s ∷ us) → sort_of s ≡ sort.Plus → AtypeTree us ms ks vs → MiddleTree Sum ks vs ls ws → PredTree ns ts ls ws
sum_of {s} (atype_tree a h e) p (atype_tree b g f) (middle_tree {t = r} c q k d) = pred_tree (pred.Sum a b c) (grammar.of_sum h (sort_is s sort.Plus p) g (sort_is r sort.Equals q) k) (d ∙ ap (λ v. put (put_tree v c) node.SumFact) (f ∙ ap (λ v. put_tree v b) e))

product_of : {ns ms ks ls : List TypeNode} {s : Token} {ts us vs ws : List Token} → AtypeTree ts ns ms (s ∷ us) → sort_of s ≡ sort.Times → AtypeTree us ms ks vs → MiddleTree Product ks vs ls ws → PredTree ns ts ls ws
product_of {s} (atype_tree a h e) p (atype_tree b g f) (middle_tree {t = r} c q k d) = pred_tree (pred.Product a b c) (grammar.of_product h (sort_is s sort.Times p) g (sort_is r sort.Equals q) k) (d ∙ ap (λ v. put (put_tree v c) node.ProductFact) (f ∙ ap (λ v. put_tree v b) e))

at_most_of : {ns ms ks : List TypeNode} {s : Token} {ts us vs : List Token} → AtypeTree ts ns ms (s ∷ us) → sort_of s ≡ sort.AtMost → AtypeTree us ms ks vs → PredTree ns ts (put ks node.AtMostFact) vs
at_most_of {s} (atype_tree a h e) p (atype_tree b g f) = pred_tree (pred.AtMost a b) (grammar.of_at_most h (sort_is s sort.AtMost p) g) (ap (λ v. put v node.AtMostFact) (f ∙ ap (λ v. put_tree v b) e))

power_of : {ns ms ls : List TypeNode} {t s : Token} {us vs ws : List Token} → t.kind ≡ Number 2 → sort_of s ≡ sort.Power → AtypeTree us ns ms vs → MiddleTree Power ms vs ls ws → PredTree ns (t ∷ s ∷ us) ls ws
power_of {s} n p (atype_tree a g f) (middle_tree {t = r} c q k d) = pred_tree (pred.Power a c) (grammar.of_power n (sort_is s sort.Power p) g (sort_is r sort.Equals q) k) (d ∙ ap (λ v. put (put_tree v c) node.PowerFact) f)

fact_of : {ns ms ls : List TypeNode} {ts us vs : List Token} → AtypeTree ts ns ms us → FirstRest ms us ls vs → PredTree ns ts ls vs
fact_of a (plus_next e b h) = sum_of a e (atype_of b) (middle_of h)
fact_of a (times_next e b h) = product_of a e (atype_of b) (middle_of h)
fact_of a (at_most_next e b) = at_most_of a e (atype_of b)

pub pred_of : {ns ls : List TypeNode} {ts us : List Token} → PutsPred ns ts ls us → PredTree ns ts ls us
pred_of (class_pred {p} {n} {t} e a h) = class_of (con_is t.place p n t.kind (sort_is t (sort.Atom (node.Con p n)) e)) (atype_of a) (args_of h)
pred_of (fact_pred a h) = fact_of (atype_of a) h
pred_of (power_pred {p} {t} e c a h) = power_of (number_is t.place p 2 t.kind (sort_is t (sort.Atom (node.Number p 2)) e)) c (atype_of a) (middle_of h)
