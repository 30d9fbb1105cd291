-- The families of types without their trees: which tokens they are, and which nodes they put behind those so far.
use Rattle.std.proofs.Common.{◌≡◌, List, ◌∷◌}
use Rattle.hb_base.specs.declared.place.Place.{Place}
use Rattle.hb_tokens.specs.declared.token.Token.{Token}
use Rattle.hb_grammar.specs.Tokens.{first_place}
use Rattle.hb_read_types.specs.declared.node.TypeNode.{TypeNode}
use Rattle.hb_read_types.specs.declared.node.TypeNode.TheVariants as node
use Rattle.hb_read_types.specs.declared.sort.Sort.TheVariants as sort
use Rattle.hb_read_types.specs.Sorts.{sort_of}
use Rattle.hb_read_types.specs.TypeMoves.{put}

mutual
  -- the tokens, the nodes before, the nodes after, and the tokens left
  pub data PutsType : List Token → List TypeNode → List TypeNode → List Token → Type 0 where
    alone : {ts us : List Token} {ns ms : List TypeNode} → PutsBtype ts ns ms us → PutsType ts ns ms us
    arrow : {ts us vs : List Token} {t : Token} {ns ms ls : List TypeNode} → PutsBtype ts ns ms (t ∷ us) → sort_of t ≡ sort.Arrow → PutsType us ms ls vs → PutsType ts ns (put ls (node.Arrow (first_place ts))) vs

  pub data PutsBtype : List Token → List TypeNode → List TypeNode → List Token → Type 0 where
    row : {ts us vs : List Token} {ns ms ls : List TypeNode} → PutsAtype ts ns ms us → PutsRow (first_place ts) ms us ls vs → PutsBtype ts ns ls vs

  pub data PutsRow : Place → List TypeNode → List Token → List TypeNode → List Token → Type 0 where
    no_more : {p : Place} {ns : List TypeNode} {ts : List Token} → PutsRow p ns ts ns ts
    one_more : {p : Place} {ts us vs : List Token} {ns ms ls : List TypeNode} → PutsAtype ts ns ms us → PutsRow p (put ms (node.Apply p)) us ls vs → PutsRow p ns ts ls vs

  pub data PutsAtype : List Token → List TypeNode → List TypeNode → List Token → Type 0 where
    atom : {t : Token} {us : List Token} {ns : List TypeNode} {n : TypeNode} → sort_of t ≡ sort.Atom n → PutsAtype (t ∷ us) ns (put ns n) us
    unit : {t s : Token} {us : List Token} {ns : List TypeNode} → sort_of t ≡ sort.Open → sort_of s ≡ sort.Close → PutsAtype (t ∷ s ∷ us) ns (put ns (node.Unit t.place)) us
    inside : {t s : Token} {ts us : List Token} {ns ms : List TypeNode} → sort_of t ≡ sort.Open → PutsType ts ns ms (s ∷ us) → sort_of s ≡ sort.Close → PutsAtype (t ∷ ts) ns ms us
    pair : {t s r : Token} {ts us vs : List Token} {ns ms ls : List TypeNode} → sort_of t ≡ sort.Open → PutsType ts ns ms (s ∷ us) → sort_of s ≡ sort.Comma → PutsType us ms ls (r ∷ vs) → sort_of r ≡ sort.Close → PutsAtype (t ∷ ts) ns (put ls (node.Pair t.place)) vs
    sum : {t s r : Token} {ts us vs : List Token} {ns ms ls : List TypeNode} → sort_of t ≡ sort.Open → PutsBtype ts ns ms (s ∷ us) → sort_of s ≡ sort.Plus → PutsBtype us ms ls (r ∷ vs) → sort_of r ≡ sort.Close → PutsAtype (t ∷ ts) ns (put ls (node.Sum t.place)) vs
