-- The families of types with their trees, and the same without them.
use Rattle.std.proofs.Common.{◌≡◌, List, [], ◌∷◌, ◌++◌, refl, ap, ◌∙◌, append_assoc}
use Rattle.hb_base.specs.declared.place.Place.{Place}
use Rattle.hb_tokens.specs.declared.token.Token.{Token}
use Rattle.hb_tokens.specs.declared.token.TokenKind.{TokenKind}
use Rattle.hb_grammar.specs.Tokens.{first_place}
use Rattle.hb_grammar.specs.Types as grammar
use Rattle.hb_grammar.specs.Types.{ReadsType, ReadsBtype, Applies, ReadsAtype}
use Rattle.hb_tree.specs.Types.{TypeExpr, TypeKind, AType, Con, Var, Number, Unit, Pair, Apply, Arrow, Sum}
use Rattle.hb_read_types.specs.declared.node.TypeNode.{TypeNode}
use Rattle.hb_read_types.specs.declared.node.TypeNode.TheVariants as node
use Rattle.hb_read_types.specs.declared.sort.Sort.TheVariants as sort
use Rattle.hb_read_types.specs.Sorts.{sort_of}
use Rattle.hb_read_types.specs.TypeMoves.{put}
use Rattle.hb_read_types.specs.Nodes.{type_nodes, kind_nodes}
use Rattle.hb_read_types.proofs.SortLaws.{con_sort, var_sort_is, number_sort, open_sort, close_sort, comma_sort, arrow_sort, plus_sort, sort_is, AtomIs, con_atom, var_atom, number_atom}
use Rattle.hb_read_types.proofs.Puts.{PutsType, PutsBtype, PutsRow, PutsAtype, alone, arrow, row, no_more, one_more, atom, unit, inside, pair, sum}

-- the nodes of a type behind others
abbrev mutual
  pub put_tree : List TypeNode → TypeExpr → List TypeNode
  put_tree ns (AType p k) = put_kind ns p k

  put_kind : List TypeNode → Place → TypeKind → List TypeNode
  put_kind ns p (Con n) = put ns (node.Con p n)
  put_kind ns p (Var n) = put ns (node.Var p n)
  put_kind ns p (Number n) = put ns (node.Number p n)
  put_kind ns p Unit = put ns (node.Unit p)
  put_kind ns p (Pair a b) = put (put_tree (put_tree ns a) b) (node.Pair p)
  put_kind ns p (Apply a b) = put (put_tree (put_tree ns a) b) (node.Apply p)
  put_kind ns p (Arrow a b) = put (put_tree (put_tree ns a) b) (node.Arrow p)
  put_kind ns p (Sum a b) = put (put_tree (put_tree ns a) b) (node.Sum p)

two_parts : (ns : List TypeNode) (a b ms ls : List TypeNode) (n : TypeNode) → ms ≡ ns ++ a → ls ≡ ms ++ b → put ls n ≡ ns ++ (a ++ (b ++ n ∷ []))
two_parts ns a b ms ls n e f = ap (λ v. v ++ n ∷ []) (f ∙ ap (λ v. v ++ b) e) ∙ (append_assoc (ns ++ a) b (n ∷ []) ∙ append_assoc ns a (b ++ n ∷ []))

mutual
  pub put_nodes : (ns : List TypeNode) (a : TypeExpr) → put_tree ns a ≡ ns ++ type_nodes a
  put_nodes ns (AType p k) = put_kind_nodes ns p k

  put_kind_nodes : (ns : List TypeNode) (p : Place) (k : TypeKind) → put_kind ns p k ≡ ns ++ kind_nodes p k
  put_kind_nodes ns p (Con n) = refl
  put_kind_nodes ns p (Var n) = refl
  put_kind_nodes ns p (Number n) = refl
  put_kind_nodes ns p Unit = refl
  put_kind_nodes ns p (Pair a b) = two_parts ns (type_nodes a) (type_nodes b) (put_tree ns a) (put_tree (put_tree ns a) b) (node.Pair p) (put_nodes ns a) (put_nodes (put_tree ns a) b)
  put_kind_nodes ns p (Apply a b) = two_parts ns (type_nodes a) (type_nodes b) (put_tree ns a) (put_tree (put_tree ns a) b) (node.Apply p) (put_nodes ns a) (put_nodes (put_tree ns a) b)
  put_kind_nodes ns p (Arrow a b) = two_parts ns (type_nodes a) (type_nodes b) (put_tree ns a) (put_tree (put_tree ns a) b) (node.Arrow p) (put_nodes ns a) (put_nodes (put_tree ns a) b)
  put_kind_nodes ns p (Sum a b) = two_parts ns (type_nodes a) (type_nodes b) (put_tree ns a) (put_tree (put_tree ns a) b) (node.Sum p) (put_nodes ns a) (put_nodes (put_tree ns a) b)

mutual
  pub puts_type : {ts us : List Token} {a : TypeExpr} → (ns : List TypeNode) → ReadsType ts a us → PutsType ts ns (put_tree ns a) us
  puts_type ns (grammar.alone h) = alone (puts_btype ns h)
  puts_type ns (grammar.arrow {a} h e r) = arrow (puts_btype ns h) (arrow_sort _ e) (puts_type (put_tree ns a) r)

  puts_btype : {ts us : List Token} {a : TypeExpr} → (ns : List TypeNode) → ReadsBtype ts a us → PutsBtype ts ns (put_tree ns a) us
  puts_btype ns (grammar.applied h r) = row (puts_atype ns h) (puts_row ns r)

  puts_row : {p : Place} {ts us : List Token} {f a : TypeExpr} → (ns : List TypeNode) → Applies p f ts a us → PutsRow p (put_tree ns f) ts (put_tree ns a) us
  puts_row ns grammar.no_more = no_more
  puts_row ns (grammar.applied_to {f} h r) = one_more (puts_atype (put_tree ns f) h) (puts_row ns r)

  pub puts_atype : {ts us : List Token} {a : TypeExpr} → (ns : List TypeNode) → ReadsAtype ts a us → PutsAtype ts ns (put_tree ns a) us
  puts_atype ns (grammar.con e) = atom (con_sort _ e)
  puts_atype ns (grammar.var e) = atom (var_sort_is _ e)
  puts_atype ns (grammar.number e) = atom (number_sort _ e)
  puts_atype ns (grammar.unit o c) = unit (open_sort _ o) (close_sort _ c)
  puts_atype ns (grammar.inside o h c) = inside (open_sort _ o) (puts_type ns h) (close_sort _ c)
  puts_atype ns (grammar.pair {a} o h k r c) = pair (open_sort _ o) (puts_type ns h) (comma_sort _ k) (puts_type (put_tree ns a) r) (close_sort _ c)
  puts_atype ns (grammar.sum {a} o h p r c) = sum (open_sort _ o) (puts_btype ns h) (plus_sort _ p) (puts_btype (put_tree ns a) r) (close_sort _ c)

-- a tree of this family whose nodes are put
pub data TypeTree : List Token → List TypeNode → List TypeNode → List Token → Type 0 where
  type_tree : {ts us : List Token} {ns ms : List TypeNode} → (a : TypeExpr) → ReadsType ts a us → ms ≡ put_tree ns a → TypeTree ts ns ms us

pub data BtypeTree : List Token → List TypeNode → List TypeNode → List Token → Type 0 where
  btype_tree : {ts us : List Token} {ns ms : List TypeNode} → (a : TypeExpr) → ReadsBtype ts a us → ms ≡ put_tree ns a → BtypeTree ts ns ms us

pub data RowTree : Place → TypeExpr → List Token → List TypeNode → List TypeNode → List Token → Type 0 where
  row_tree : {p : Place} {f : TypeExpr} {ts us : List Token} {ns ms : List TypeNode} → (a : TypeExpr) → Applies p f ts a us → ms ≡ put_tree ns a → RowTree p f ts ns ms us

pub data AtypeTree : List Token → List TypeNode → List TypeNode → List Token → Type 0 where
  atype_tree : {ts us : List Token} {ns ms : List TypeNode} → (a : TypeExpr) → ReadsAtype ts a us → ms ≡ put_tree ns a → AtypeTree ts ns ms us

of_alone : {ts us : List Token} {ns ms : List TypeNode} → BtypeTree ts ns ms us → TypeTree ts ns ms us
of_alone (btype_tree a h e) = type_tree a (grammar.alone h) e

of_arrow : {ts us vs : List Token} {t : Token} {ns ms ls : List TypeNode} → BtypeTree ts ns ms (t ∷ us) → sort_of t ≡ sort.Arrow → TypeTree us ms ls vs → TypeTree ts ns (put ls (node.Arrow (first_place ts))) vs
of_arrow {ts} {t} (btype_tree a h e) s (type_tree b r f) = type_tree (AType (first_place ts) (Arrow a b)) (grammar.arrow h (sort_is t sort.Arrow s) r) (ap (λ v. put v (node.Arrow (first_place ts))) (f ∙ ap (λ v. put_tree v b) e))

of_applied : {ts us vs : List Token} {ns ls : List TypeNode} → (f : TypeExpr) → ReadsAtype ts f us → RowTree (first_place ts) f us ns ls vs → BtypeTree ts ns ls vs
of_applied f h (row_tree a r e) = btype_tree a (grammar.applied h r) e

of_row : {ts us vs : List Token} {ns ms ls : List TypeNode} → AtypeTree ts ns ms us → ((f : TypeExpr) → ms ≡ put_tree ns f → RowTree (first_place ts) f us ns ls vs) → BtypeTree ts ns ls vs
of_row (atype_tree a h e) r = of_applied a h (r a e)

of_next : {p : Place} {f : TypeExpr} {ts us vs : List Token} {base ls : List TypeNode} → (x : TypeExpr) → ReadsAtype ts x us → RowTree p (AType p (Apply f x)) us base ls vs → RowTree p f ts base ls vs
of_next x h (row_tree a r e) = row_tree a (grammar.applied_to h r) e

of_more : {p : Place} {f : TypeExpr} {ts us vs : List Token} {base ns ms ls : List TypeNode} → AtypeTree ts ns ms us → ns ≡ put_tree base f → ((g : TypeExpr) → put ms (node.Apply p) ≡ put_tree base g → RowTree p g us base ls vs) → RowTree p f ts base ls vs
of_more {p} {f} (atype_tree x h e) d r = of_next x h (r (AType p (Apply f x)) (ap (λ v. put v (node.Apply p)) (e ∙ ap (λ v. put_tree v x) d)))

of_atom : {n : TypeNode} (t : Token) (us : List Token) (ns : List TypeNode) (p : Place) (k : TokenKind) → p ≡ t.place → t.kind ≡ k → AtomIs p n k → AtypeTree (t ∷ us) ns (put ns n) us
of_atom t us ns p k d e (con_atom {name}) = atype_tree (AType t.place (Con name)) (grammar.con e) (ap (λ v. put ns (node.Con v name)) d)
of_atom t us ns p k d e (var_atom {name} w) = atype_tree (AType t.place (Var name)) (grammar.var (record { kind = e; named = w })) (ap (λ v. put ns (node.Var v name)) d)
of_atom t us ns p k d e (number_atom {k = number}) = atype_tree (AType t.place (Number number)) (grammar.number e) (ap (λ v. put ns (node.Number v number)) d)

of_inside : {t s : Token} {ts us : List Token} {ns ms : List TypeNode} → sort_of t ≡ sort.Open → TypeTree ts ns ms (s ∷ us) → sort_of s ≡ sort.Close → AtypeTree (t ∷ ts) ns ms us
of_inside {t} {s} o (type_tree a h e) c = atype_tree a (grammar.inside (sort_is t sort.Open o) h (sort_is s sort.Close c)) e

of_pair : {t s r : Token} {ts us vs : List Token} {ns ms ls : List TypeNode} → sort_of t ≡ sort.Open → TypeTree ts ns ms (s ∷ us) → sort_of s ≡ sort.Comma → TypeTree us ms ls (r ∷ vs) → sort_of r ≡ sort.Close → AtypeTree (t ∷ ts) ns (put ls (node.Pair t.place)) vs
of_pair {t} {s} {r} o (type_tree a h e) k (type_tree b g f) c = atype_tree (AType t.place (Pair a b)) (grammar.pair (sort_is t sort.Open o) h (sort_is s sort.Comma k) g (sort_is r sort.Close c)) (ap (λ v. put v (node.Pair t.place)) (f ∙ ap (λ v. put_tree v b) e))

of_sum : {t s r : Token} {ts us vs : List Token} {ns ms ls : List TypeNode} → sort_of t ≡ sort.Open → BtypeTree ts ns ms (s ∷ us) → sort_of s ≡ sort.Plus → BtypeTree us ms ls (r ∷ vs) → sort_of r ≡ sort.Close → AtypeTree (t ∷ ts) ns (put ls (node.Sum t.place)) vs
of_sum {t} {s} {r} o (btype_tree a h e) k (btype_tree b g f) c = atype_tree (AType t.place (Sum a b)) (grammar.sum (sort_is t sort.Open o) h (sort_is s sort.Plus k) g (sort_is r sort.Close c)) (ap (λ v. put v (node.Sum t.place)) (f ∙ ap (λ v. put_tree v b) e))

mutual
  pub type_of : {ts us : List Token} {ns ms : List TypeNode} → PutsType ts ns ms us → TypeTree ts ns ms us
  type_of (alone h) = of_alone (btype_of h)
  type_of (arrow h e r) = of_arrow (btype_of h) e (type_of r)

  btype_of : {ts us : List Token} {ns ms : List TypeNode} → PutsBtype ts ns ms us → BtypeTree ts ns ms us
  btype_of (row {ns} h r) = of_row (atype_of h) (λ f e. row_of r ns f e)

  row_of : {p : Place} {ts us : List Token} {ns ms : List TypeNode} → PutsRow p ns ts ms us → (base : List TypeNode) (f : TypeExpr) → ns ≡ put_tree base f → RowTree p f ts base ms us
  row_of no_more base f e = row_tree f grammar.no_more e
  row_of (one_more h r) base f e = of_more (atype_of h) e (λ g d. row_of r base g d)

  pub atype_of : {ts us : List Token} {ns ms : List TypeNode} → PutsAtype ts ns ms us → AtypeTree ts ns ms us
  atype_of (atom {t} {us} {ns} {n} e) = of_atom t us ns t.place t.kind refl refl (sort_is t (sort.Atom n) e)
  atype_of (unit {t} {s} o c) = atype_tree (AType t.place Unit) (grammar.unit (sort_is t sort.Open o) (sort_is s sort.Close c)) refl
  atype_of (inside o h c) = of_inside o (type_of h) c
  atype_of (pair o h k r c) = of_pair o (type_of h) k (type_of r) c
  atype_of (sum o h p r c) = of_sum o (btype_of h) p (btype_of r) c
