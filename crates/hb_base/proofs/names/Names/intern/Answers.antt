use Rattle.std.proofs.Common.{◌≡◌, ℕ, [], ◌∷◌, ◌++◌, refl, ◌<◌, ◌-◌, ◌^◌, List, length, Vec, Global, sym, subst, ◌∙◌}
use Rattle.hb_base.proofs.NamesLaws.{known_stays, known_stands, new_last, new_texts, new_stands, new_table, distinct_texts}
use Rattle.hb_base.proofs.names.Names.intern.Goals as goal

abbrev part : Vec ℕ Global → List ℕ
part text = text.items

-- src/names.rt:54:13
pub returns-in-Some-clause-texts : goal.returns-in-Some-clause-texts
returns-in-Some-clause-texts c =
    rw (← c.self.view_is) (known_stays part c.self.inside.texts.keys c.args.text.now (sym c.get_full.ensures.found ∙ rw c.in-Some.is refl))

-- src/names.rt:54:13
pub returns-in-Some-clause-stands : goal.returns-in-Some-clause-stands
returns-in-Some-clause-stands c =
    rw (← c.self.view_is) (known_stands part c.self.inside.texts.keys c.args.text.now c.in-Some.index c.in-Some.field-0-1.now c.in-Some.ensures.stored (sym c.in-Some.ensures.key))

last : (c : goal.In_ok-index) → c.insert_full.new.self.keys ≡ c.self.inside.texts.keys ++ c.in_ok-owned.owned ∷ []
last c =
    new_last part c.self.inside.texts.keys c.insert_full.new.self.keys c.args.text.now c.in_ok-owned.owned c.in_ok-owned.ensures.items
    (sym c.get_full.ensures.found ∙ rw c.in_default.is refl) c.in_ok-index.ensures.keys

-- src/names.rt:46:5
pub invariant_of-self-2 : goal.invariant_of-self-2
invariant_of-self-2 c =
    new_table part c.self.inside.texts.keys c.insert_full.new.self.keys c.in_ok-owned.owned
    (subst (λ (texts : List (List ℕ)). length texts < 2 ^ 32 - 1) (sym c.self.view_is) c.requires.room) (last c) c.insert_full.ensures.unique

-- src/names.rt:46:5
pub returns-clause-texts : goal.returns-clause-texts
returns-clause-texts c =
    rw (← c.self.view_is)
    (new_texts part c.self.inside.texts.keys c.insert_full.new.self.keys c.args.text.now c.in_ok-owned.owned c.in_ok-owned.ensures.items
    (sym c.get_full.ensures.found ∙ rw c.in_default.is refl) (last c))

-- src/names.rt:46:5
pub returns-clause-stands : goal.returns-clause-stands
returns-clause-stands c =
    let stored = c.in_ok-index.ensures.stored in
    new_stands part c.insert_full.new.self.keys c.args.text.now c.in_ok-index.index c.in_ok-owned.owned stored.0 c.in_ok-owned.ensures.items stored.1 stored.2

-- src/names.rt:46:5
pub returns-clause-distinct : goal.returns-clause-distinct
returns-clause-distinct c = distinct_texts part c.insert_full.new.self.keys c.insert_full.ensures.unique
