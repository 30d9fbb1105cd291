-- What is asked of the meaning of a symbol: a case for each head, for a reader that it begins with, and for nothing.
use Rattle.std.proofs.Common.{◌≡◌, ℕ, true, List, [], ◌∷◌, ◌++◌, Option, Some, None, refl, sym, ap, subst, ◌∙◌, append_assoc}
use Rattle.hb_base.specs.declared.place.Place.{Place}
use Rattle.hb_tokens.specs.declared.token.Token.{Token}
use Rattle.hb_engine.proofs.Model.{All}
use Rattle.hb_engine.proofs.EngineLaw.{append_none}
use Rattle.hb_read_declarations.specs.Exactly.{Made}
use Rattle.hb_read_declarations.specs.Readers.{Out}
use Rattle.hb_read_declarations.proofs.Known.{some_is}
use Rattle.hb_read_program.specs.Rules.{Leaf, Symbol, Item, Head, Form, Begins, no_leaf, begins, begins_line, begins_class, heads, behind, begins_with, nothing_of, fits, found, node_of, put_out}
use Rattle.hb_read_program.specs.declared.symbol.Leaf.TheVariants as leaf
use Rattle.hb_read_program.specs.declared.side.Heading.TheVariants as heading
use Rattle.hb_read_program.specs.Frames.{a_context, waits, frames_of, place_of, side_start, put_nothing}
use Rattle.hb_read_program.proofs.TableLaws.{by_cond, LeafReads}
use Rattle.hb_read_program.proofs.Fits.{an_eq}
use Rattle.hb_read_program.proofs.Means.{Thing, thing, LeafMeans, LineMeans, ClassMeans, Means}

-- nodes of parts, whatever the brackets

pub data Parts : Type 0 where
  part : Out → Parts
  parts : Parts → Parts → Parts

abbrev pub joined : Parts → Out
joined (part xs) = xs
joined (parts a b) = joined a ++ joined b

abbrev pub flat : Parts → Out → Out
flat (part xs) ys = xs ++ ys
flat (parts a b) ys = flat a (flat b ys)

flat_is : (a : Parts) (ys : Out) → joined a ++ ys ≡ flat a ys
flat_is (part xs) ys = refl
flat_is (parts a b) ys =
    append_assoc (joined a) (joined b) ys ∙ (ap (λ zs. joined a ++ zs) (flat_is b ys) ∙ flat_is a (flat b ys))

pub same_parts : (a b : Parts) → flat a [] ≡ flat b [] → joined a ≡ joined b
same_parts a b e = sym (append_none (joined a)) ∙ (flat_is a [] ∙ (e ∙ (sym (flat_is b []) ∙ append_none (joined b))))

-- things

pub thing_as : {A : Type 0} {Reads : List Token → A → List Token → Type 0} {f : A → Out} {ts us : List Token} {ms : Out} (a : A) → Reads ts a us → f a ≡ ms → Thing Reads f ts ms us
thing_as {Reads} {f} {ts} {us} a h e = subst (λ ms. Thing Reads f ts ms us) e (thing h)

pub thing_made : {A : Type 0} {Reads : List Token → A → List Token → Type 0} {f : A → Out} {ts us : List Token} {v : Out} → Made Reads f ts v us → Thing Reads f ts v us
thing_made m = thing_as m.thing m.read (sym m.is)

pub made_thing : {A : Type 0} {Reads : List Token → A → List Token → Type 0} {f : A → Out} {ts us : List Token} {v : Out} → Thing Reads f ts v us → Made Reads f ts v us
made_thing (thing {a} h) = record { thing = a; read = h; is = refl }

pub leaf_means : (l : Leaf) (ts us : List Token) (v : Out) → LeafReads l ts v us → LeafMeans l ts v us
leaf_means leaf.Type ts us v m = thing_made m
leaf_means leaf.Atype ts us v m = thing_made m
leaf_means leaf.Pred ts us v m = thing_made m
leaf_means leaf.Qualified ts us v m = thing_made m
leaf_means leaf.Expr ts us v m = thing_made m
leaf_means leaf.Equation ts us v m = thing_made m

-- the laws of a symbol

abbrev pub HeadLaw : Symbol → Head → Type 0
HeadLaw s h =
    (p : Place) (n : ℕ) (t : Token) (ts us : List Token) (ms : Out) → fits h.kind t ≡ true → All Means (frames_of (behind h.behind) (place_of s p t) n t) ts ms us → Means (waits s p n) (t ∷ ts) (put_out h.put p n t ++ ms) us

pub data Each (P : Head → Type 0) : List Head → Type 0 where
  no_other : Each P []
  and_also : {h : Head} {hs : List Head} → P h → Each P hs → Each P (h ∷ hs)

-- behind a reader of its own, and behind the first line of a signature or an equation
abbrev pub BehindLeaf : Symbol → Leaf → List Item → Type 0
BehindLeaf s l is =
    (p : Place) (n : ℕ) (t : Token) (ts us vs : List Token) (v ms : Out) → LeafMeans l (t ∷ ts) v us → All Means (frames_of is t.place n t) us ms vs → Means (waits s p n) (t ∷ ts) (v ++ ms) vs

abbrev pub BehindLine : Symbol → List Item → Type 0
BehindLine s is =
    (p : Place) (n : ℕ) (t : Token) (ts us vs : List Token) (v ms : Out) → LineMeans (Some an_eq.start) side_start (t ∷ ts) v us → All Means (frames_of is t.place n t) us ms vs → Means (waits s p n) (t ∷ ts) (v ++ ms) vs

pub data LeafLaw (s : Symbol) : Begins → Type 0 where
  no_leaf_law : LeafLaw s no_leaf
  leaf_law : {l : Leaf} {is : List Item} → BehindLeaf s l is → LeafLaw s (begins l is)
  line_law : {is : List Item} → BehindLine s is → LeafLaw s (begins_line is)
  class_law : ((p : Place) (n : ℕ) (ts us : List Token) (ms : Out) → ClassMeans (Some a_context.start) heading.Before ts ms us → Means (waits s p n) ts ms us) → LeafLaw s begins_class

pub data NothingLaw (s : Symbol) : Option Form → Type 0 where
  never_law : NothingLaw s None
  nothing_law : {f : Form} → ((p : Place) (n : ℕ) (ts : List Token) → Means (waits s p n) ts (node_of f p n ∷ []) ts) → NothingLaw s (Some f)

pub record SymbolLaw (s : Symbol) : Type 0 where
  pub by_head : Each (HeadLaw s) (heads s)
  pub by_leaf : LeafLaw s (begins_with s)
  pub by_nothing : NothingLaw s (nothing_of s)

-- the head that is found

pub record Picked (P : Head → Type 0) (t : Token) (h : Head) : Type 0 where
  pub fit : fits h.kind t ≡ true
  pub law : P h

pub picked : {P : Head → Type 0} {hs : List Head} (t : Token) {h : Head} → Each P hs → found hs t ≡ Some h → Picked P t h
picked t no_other e = cc
picked {P} t {h = x} (and_also {h} {hs} k ks) e =
    by_cond (fits h.kind t) (Some h) (found hs t) e
    (λ d i. subst (λ h. Picked P t h) (some_is i) (record { fit = d; law = k }))
    (λ d i. picked t ks i)

pub null_means : {s : Symbol} (p : Place) (n : ℕ) {o : Option Form} {ns : Out} (ts : List Token) → NothingLaw s o → put_nothing o p n ≡ Some ns → Means (waits s p n) ts ns ts
null_means p n ts never_law e = cc
null_means {s} p n ts (nothing_law k) e = subst (λ ns. Means (waits s p n) ts ns ts) (some_is e) (k p n ts)
