-- Types are told apart by their forms with the first places of their parts.
use Rattle.std.proofs.Common.{◌≡◌, ℕ, ◌+◌, ◌<◌, ◌≤◌, List, [], ◌∷◌, ◌++◌, length, get_or, Bool, true, false, cond, Option, Some, None, sym, refl, ap, ◌∙◌, subst, arith, ⊎_elim, length-append, rules}
use Rattle.std.proofs.lemmas.List.{get_or_append_left, get_or_push}
use Rattle.std.proofs.lemmas.Bool.{cases_lt}
use Rattle.hb_types.specs.declared.table.Form.{Form}
use Rattle.hb_types.specs.declared.table.Form.TheVariants as form
use Rattle.hb_types.specs.contracts.table.FormPartialEq.TheImpl as form_eq
use Rattle.hb_types.specs.Types.{Ty, Apply}
use Rattle.hb_types.specs.Tables.{type_at, built, HasPartsBelow}
use Rattle.hb_types.specs.Normal.{normal_form, IsFirst, AreFirstBelow, AreFirst}

-- the parts of a form stand at the first places of their types
abbrev pub HasFirstParts : List Ty → Form → Type 0
HasFirstParts table (form.Unknown n) = Unit {0}
HasFirstParts table (form.Leaf a) = Unit {0}
HasFirstParts table (form.Apply f x) = IsFirst table (type_at table f) f × IsFirst table (type_at table x) x

pub record IsKey (table : List Ty) (t : Ty) (key : Form) : Type 0 where
  pub is : built table key ≡ t
  pub parts : HasFirstParts table key

first-same : (table : List Ty) (t u : Ty) (a b : ℕ) → IsFirst table t a → IsFirst table u b → t ≡ u → a ≡ b
first-same table t u a b p q e =
    let left : a ≤ b = p.least b q.inside (q.is ∙ sym e) in
    let right : b ≤ a = q.least a p.inside (p.is ∙ e) in
    omega (arith, left, right)

keys-same : (table : List Ty) (a b : Form) → HasFirstParts table a → HasFirstParts table b → built table a ≡ built table b → a ≡ b
keys-same table (form.Unknown m) (form.Unknown n) p q e = let f : m ≡ n = cc in ap form.Unknown f
keys-same table (form.Unknown m) (form.Leaf a) p q e = absurd (cc)
keys-same table (form.Unknown m) (form.Apply f x) p q e = absurd (cc)
keys-same table (form.Leaf a) (form.Unknown m) p q e = absurd (cc)
keys-same table (form.Leaf a) (form.Leaf b) p q e = let f : a ≡ b = cc in ap form.Leaf f
keys-same table (form.Leaf a) (form.Apply f x) p q e = absurd (cc)
keys-same table (form.Apply f x) (form.Unknown m) p q e = absurd (cc)
keys-same table (form.Apply f x) (form.Leaf b) p q e = absurd (cc)
keys-same table (form.Apply f x) (form.Apply g y) p q e =
    let left : type_at table f ≡ type_at table g = cc in
    let right : type_at table x ≡ type_at table y = cc in
    ap (λ v. form.Apply v x) (first-same table (type_at table f) (type_at table g) f g p.0 q.0 left)
    ∙ ap (λ v. form.Apply g v) (first-same table (type_at table x) (type_at table y) x y p.1 q.1 right)

pub key-same : (table : List Ty) (t : Ty) (a b : Form) → IsKey table t a → IsKey table t b → a ≡ b
key-same table t a b p q = keys-same table a b p.parts q.parts (p.is ∙ sym q.is)

-- a form with the first places of its parts is the key of its type
pub key-of : (table : List Ty) (places : List ℕ) (count : ℕ) (n : Form) → AreFirstBelow count table places → HasPartsBelow count n → type_at table count ≡ built table n →
    IsKey table (type_at table count) (normal_form places n)
key-of table places count (form.Unknown m) a h e = record { is = sym e; parts = tt }
key-of table places count (form.Leaf l) a h e = record { is = sym e; parts = tt }
key-of table places count (form.Apply f x) a h e =
    let left = a.each f h.0 in
    let right = a.each x h.1 in
    record {
      is = ap (λ v. Apply v (type_at table (get_or places x 0))) left.is ∙ ap (λ v. Apply (type_at table f) v) right.is ∙ sym e;
      parts = (subst (λ (t : Ty). IsFirst table t (get_or places f 0)) (sym left.is) left, subst (λ (t : Ty). IsFirst table t (get_or places x 0)) (sym right.is) right);
    }

-- for the key of each type so far its first place is kept
pub record AreKept (table : List Ty) (count : ℕ) (known : Form → Option ℕ) (places : List ℕ) : Type 0 where
  pub found : (key : Form) (n : ℕ) → known key ≡ Some n → IsKey table (type_at table n) key × IsFirst table (type_at table n) n
  pub whole : (k : ℕ) (key : Form) → k < count → IsKey table (type_at table k) key → known key ≡ Some (get_or places k 0)

pub kept-none : (table : List Ty) (known : Form → Option ℕ) (places : List ℕ) → ((key : Form) → known key ≡ None) → AreKept table 0 known places
kept-none table known places none = record {
  found = λ key n e. let bad : None ≡ Some n = sym (none key) ∙ e in absurd (cc);
  whole = λ k key h is. absurd (omega (arith, h));
}

-- one place more
first-next : (table : List Ty) (count : ℕ) (places longer : List ℕ) (r : ℕ) → AreFirstBelow count table places → longer ≡ places ++ r ∷ [] → IsFirst table (type_at table count) r →
    AreFirstBelow (count + 1) table longer
first-next table count places longer r a q p = rw q (record {
  size = length-append places (r ∷ []) ∙ ap (λ (k : ℕ). k + 1) a.size;
  each = λ k h.
      ⊎_elim
      (λ lt. subst (IsFirst table (type_at table k)) (sym (get_or_append_left places (r ∷ []) 0 k (omega (arith, lt, a.size)))) (a.each k lt))
      (λ ge.
      let last : k ≡ count = omega (arith, h, ge) in
      subst (λ (j : ℕ). IsFirst table (type_at table j) (get_or (places ++ r ∷ []) j 0)) (sym last) (subst (IsFirst table (type_at table count)) (sym (get_or_push places r 0 count a.size)) p))
      (cases_lt k count);
})

whole-next : (table : List Ty) (count : ℕ) (known new : Form → Option ℕ) (places longer : List ℕ) (r : ℕ) (key : Form) → length places ≡ count → longer ≡ places ++ r ∷ [] →
    IsKey table (type_at table count) key → ((k : ℕ) (other : Form) → k < count → IsKey table (type_at table k) other → new other ≡ Some (get_or places k 0)) → new key ≡ Some r →
    (k : ℕ) (other : Form) → k < count + 1 → IsKey table (type_at table k) other → new other ≡ Some (get_or longer k 0)
whole-next table count known new places longer r key size q is old here k other h other_is =
    ⊎_elim
    (λ lt. old k other lt other_is ∙ ap Some (sym (ap (λ ps. get_or ps k 0) q ∙ get_or_append_left places (r ∷ []) 0 k (omega (arith, lt, size)))))
    (λ ge.
    let last : k ≡ count = omega (arith, h, ge) in
    let same : other ≡ key = key-same table (type_at table count) other key (subst (λ (j : ℕ). IsKey table (type_at table j) other) last other_is) is in
    ap new same ∙ here ∙ ap Some (sym (ap (λ ps. get_or ps k 0) q ∙ ap (λ (j : ℕ). get_or (places ++ r ∷ []) j 0) last ∙ get_or_push places r 0 count size)))
    (cases_lt k count)

-- the key was known
pub kept-known : (table : List Ty) (count : ℕ) (known new : Form → Option ℕ) (places longer : List ℕ) (r : ℕ) (key : Form) → AreFirstBelow count table places → AreKept table count known places →
    longer ≡ places ++ r ∷ [] → IsKey table (type_at table count) key → known key ≡ Some r → ((other : Form) → new other ≡ known other) →
    AreFirstBelow (count + 1) table longer × AreKept table (count + 1) new longer
kept-known table count known new places longer r key a kept q is e still =
    let old = kept.found key r e in
    let same : type_at table r ≡ type_at table count = sym old.0.is ∙ is.is in (
      first-next table count places longer r a q (subst (λ (t : Ty). IsFirst table t r) same old.1),
      record {
        found = λ other n f. kept.found other n (sym (still other) ∙ f);
        whole = whole-next table count known new places longer r key a.size q is (λ k other lt other_is. still other ∙ kept.whole k other lt other_is) (still key ∙ e);
      },
    )

some-same : (m n : ℕ) → Some m ≡ Some n → m ≡ n
some-same m n e = cc

-- the key is new
pub kept-new : (eq : Form → Form → Bool) → ((a b : Form) → eq a b ≡ true → a ≡ b) → ((a : Form) → eq a a ≡ true) → (table : List Ty) (count : ℕ) (known new : Form → Option ℕ)
    (places longer : List ℕ) (r : ℕ) (key : Form) → count < length table → AreFirstBelow count table places → AreKept table count known places → longer ≡ places ++ r ∷ [] → r ≡ count →
    IsKey table (type_at table count) key → known key ≡ None → ((other : Form) → new other ≡ cond (eq key other) (Some count) (known other)) →
    AreFirstBelow (count + 1) table longer × AreKept table (count + 1) new longer
kept-new eq true-same same-true table count known new places longer r key inside a kept q at is absent updates =
    let first : IsFirst table (type_at table count) count = record {
      inside = inside;
      is = refl;
      least = λ k h e.
          ⊎_elim
          (λ lt. let bad : None ≡ Some (get_or places k 0) = sym absent ∙ kept.whole k key lt (subst (λ (t : Ty). IsKey table t key) (sym e) is) in absurd (cc))
          (λ ge. ge)
          (cases_lt k count);
    } in
    let here : IsFirst table (type_at table count) r = subst (IsFirst table (type_at table count)) (sym at) first in (
      first-next table count places longer r a q here,
      record {
        found = λ other n e. by_found first other n (eq key other) refl (sym (updates other) ∙ e);
        whole = whole-next table count known new places longer r key a.size q is (λ k other lt other_is. updates other ∙ by_whole k other lt other_is (eq key other) refl)
            (updates key ∙ ap (λ (b : Bool). cond b (Some count) (known key)) (same-true key) ∙ ap Some (sym at));
      },
    )
  where
    by_found : IsFirst table (type_at table count) count → (other : Form) (n : ℕ) (b : Bool) → eq key other ≡ b → cond b (Some count) (known other) ≡ Some n → IsKey table (type_at table n) other × IsFirst table (type_at table n) n
    by_found first other n true t e =
        let same : count ≡ n = some-same count n e in (
          subst (IsKey table (type_at table n)) (true-same key other t) (subst (λ (j : ℕ). IsKey table (type_at table j) key) same is),
          subst (λ (j : ℕ). IsFirst table (type_at table j) j) same first,
        )
    by_found first other n false t e = kept.found other n e

    by_whole : (k : ℕ) (other : Form) → k < count → IsKey table (type_at table k) other → (b : Bool) → eq key other ≡ b → cond b (Some count) (known other) ≡ Some (get_or places k 0)
    by_whole k other lt other_is true t = let bad : None ≡ Some (get_or places k 0) = sym absent ∙ ap known (true-same key other t) ∙ kept.whole k other lt other_is in absurd (cc)
    by_whole k other lt other_is false t = kept.whole k other lt other_is

abbrev pub same_form : Form → Form → Bool
same_form = form_eq.eq-value.it

pub same_form-true : (a b : Form) → same_form a b ≡ true → a ≡ b
same_form-true a b e = search rules

pub same_form-same : (a : Form) → same_form a a ≡ true
same_form-same a = search rules

pub first-alike : (table : List Ty) (places : List ℕ) (count : ℕ) → count ≡ length table → AreFirstBelow count table places → AreFirst table places
first-alike table places count e a =
    let whole : AreFirstBelow (length table) table places = subst (λ (n : ℕ). AreFirstBelow n table places) e a in
    record {
      first = whole;
      alike = λ i j p q. (
        λ same. sym (whole.each i p).is ∙ ap (type_at table) same ∙ (whole.each j q).is,
        λ same. first-same table (type_at table i) (type_at table j) (get_or places i 0) (get_or places j 0) (whole.each i p) (whole.each j q) same,
      );
    }
