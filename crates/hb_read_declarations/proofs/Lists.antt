-- Several things of one kind: any number, some with a mark between, and a block.
use Rattle.std.proofs.Common.{List, [], ◌∷◌, refl}
use Rattle.hb_tokens.specs.declared.token.Token.{Token}
use Rattle.hb_grammar.specs.Tokens.{IsSemicolon, IsCloseBrace}
use Rattle.hb_read_declarations.specs.Exactly.{Made}

pub made : {A V : Type 0} {Reads : List Token → A → List Token → Type 0} {f : A → V} {ts us : List Token} (a : A) → Reads ts a us → Made Reads f ts (f a) us
made a h = record { thing = a; read = h; is = refl }

-- any number of things

pub data Several {A : Type 0} (Reads : List Token → A → List Token → Type 0) : List Token → List A → List Token → Type 0 where
  nothing_more : {ts : List Token} → Several Reads ts [] ts
  a_thing : {ts us vs : List Token} {a : A} {xs : List A} → Reads ts a us → Several Reads us xs vs → Several Reads ts (a ∷ xs) vs

-- some things with a mark between

pub data Separated {A : Type 0} (Sep : Token → Type 0) (Reads : List Token → A → List Token → Type 0) : List Token → List A → List Token → Type 0 where
  last_thing : {ts us : List Token} {a : A} → Reads ts a us → Separated Sep Reads ts (a ∷ []) us
  more_things : {t : Token} {ts us vs : List Token} {a : A} {xs : List A} → Reads ts a (t ∷ us) → Sep t → Separated Sep Reads us xs vs → Separated Sep Reads ts (a ∷ xs) vs

-- a mark and a thing
pub data Behind {A : Type 0} (Sep : Token → Type 0) (Reads : List Token → A → List Token → Type 0) : List Token → A → List Token → Type 0 where
  behind : {t : Token} {ts us : List Token} {a : A} → Sep t → Reads ts a us → Behind Sep Reads (t ∷ ts) a us

pub data HeadTail {A : Type 0} (Sep : Token → Type 0) (Reads : List Token → A → List Token → Type 0) : List Token → List A → List Token → Type 0 where
  head_tail : {ts us vs : List Token} {a : A} {xs : List A} → Reads ts a us → Several (Behind Sep Reads) us xs vs → HeadTail Sep Reads ts (a ∷ xs) vs

put_before : {A : Type 0} {Sep : Token → Type 0} {Reads : List Token → A → List Token → Type 0} (t : Token) {ts us vs : List Token} {a : A} {xs : List A} →
    Reads ts a (t ∷ us) → Sep t → HeadTail Sep Reads us xs vs → HeadTail Sep Reads ts (a ∷ xs) vs
put_before t h s (head_tail g k) = head_tail h (a_thing (behind s g) k)

pub head_of : {A : Type 0} {Sep : Token → Type 0} {Reads : List Token → A → List Token → Type 0} {ts vs : List Token} {xs : List A} → Separated Sep Reads ts xs vs → HeadTail Sep Reads ts xs vs
head_of (last_thing h) = head_tail h nothing_more
head_of (more_things {t} h s g) = put_before t h s (head_of g)

-- blocks

pub data Block {A : Type 0} (Reads : List Token → A → List Token → Type 0) : List Token → List A → List Token → Type 0 where
  no_thing : {t : Token} {us : List Token} → IsCloseBrace t → Block Reads (t ∷ us) [] us
  empty_thing : {t : Token} {ts us : List Token} {xs : List A} → IsSemicolon t → Block Reads ts xs us → Block Reads (t ∷ ts) xs us
  last_in : {t : Token} {ts us : List Token} {a : A} → Reads ts a (t ∷ us) → IsCloseBrace t → Block Reads ts (a ∷ []) us
  more_in : {t : Token} {ts us vs : List Token} {a : A} {xs : List A} → Reads ts a (t ∷ us) → IsSemicolon t → Block Reads us xs vs → Block Reads ts (a ∷ xs) vs
