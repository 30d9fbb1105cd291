-- What the steps of a reader say of the items, and of a program.
use Rattle.std.proofs.Common.{◌≡◌, ℕ, List, [], ◌∷◌, ◌++◌, Option, Some, None, Result, Ok, Err, refl, sym, ap, subst, ◌∙◌, inr, arith, append_assoc}
use Rattle.std.specs.Prelude.{option_and_then}
use Rattle.hb_base.specs.declared.port.Port.{Port}
use Rattle.hb_base.specs.declared.place.Place.{Place}
use Rattle.hb_second.specs.declared.source.Statement.{Statement}
use Rattle.hb_second.specs.declared.source.Source.{Source}
use Rattle.hb_second.specs.declared.reader.Stage.{Stage}
use Rattle.hb_second.specs.declared.reader.Stage.TheVariants.{Ports as AtPorts, Equation, Statements, Written}
use Rattle.hb_second.specs.declared.reader.Reader.{Reader}
use Rattle.hb_second.specs.Items.{Item, Placed, without_places}
use Rattle.hb_second.specs.Form.{no_port, Form}
use Rattle.hb_second.specs.Wrong.{CanGoOn, FirstWrongOf, at_item, at_end}
use Rattle.hb_second.specs.Moves.{step, run, start}
use Rattle.hb_second.proofs.StepLaws.{mk, steps, steps_append}
use Rattle.hb_second.proofs.Alive.{Alive, ports_alive, equation_alive, statements_alive, written_alive}
use Rattle.hb_second.proofs.Sound.{KnownAt, Reached, InPorts, sound_at}
use Rattle.hb_second.proofs.Complete.{form_steps}

with_none : (stage : Stage) (ps : List Port) (vs : List (List ℕ)) (ss : List Statement) → vs ≡ [] → ss ≡ [] → Alive (mk stage ps [] []) → Alive (mk stage ps vs ss)
with_none stage ps vs ss e f a = subst (λ us. Alive (mk stage ps us ss)) (sym e) (subst (λ us. Alive (mk stage ps [] us)) (sym f) a)

stage_alive : (stage : Stage) (ps : List Port) (vs : List (List ℕ)) (ss : List Statement) (items : List Item) → KnownAt stage ps vs ss items → Alive (mk stage ps vs ss)
stage_alive AtPorts ps vs ss items k = with_none AtPorts ps vs ss k.no_variables k.no_statements (ports_alive ps k.out)
stage_alive Equation ps vs ss items k = with_none Equation ps vs ss k.no_variables k.no_statements (equation_alive ps k.has_out)
stage_alive Statements ps vs ss items k = statements_alive ps vs ss k.0.has_out k.1
stage_alive Written ps vs ss items k = written_alive ps vs ss

alive : (r : Reader) (items : List Item) → Reached r items → Alive r
alive r items k = stage_alive r.stage r.ports r.variables r.statements items k

step_reached : (r n : Reader) (items : List Item) (x : Item) → Reached r items → step r x ≡ Some n → Reached n (items ++ x ∷ [])
step_reached r n items x k h = sound_at r.stage r.ports r.variables r.statements items x n k h

append_nil : (items : List Item) → items ++ [] ≡ items
append_nil [] = refl
append_nil (x ∷ xs) = ap (λ us. x ∷ us) (append_nil xs)

by_next : (us items : List Item) (x : Item) (r n : Reader) → Reached r items → ((m : Reader) → Reached m (items ++ x ∷ []) → steps m us ≡ Some n → Reached n ((items ++ x ∷ []) ++ us)) → (o : Option Reader) → step r x ≡ o → option_and_then (λ (m : Reader). steps m us) o ≡ Some n → Reached n (items ++ x ∷ us)
by_next us items x r n k go None e h = absurd (cc)
by_next us items x r n k go (Some m) e h = subst (Reached n) (append_assoc items (x ∷ []) us) (go m (step_reached r m items x k e) h)

steps_reached : (us items : List Item) (r n : Reader) → Reached r items → steps r us ≡ Some n → Reached n (items ++ us)
unfolding steps
steps_reached [] items r n k h = let e : r ≡ n = cc in subst (Reached n) (sym (append_nil items)) (subst (λ m. Reached m items) e k)
steps_reached (x ∷ us) items r n k h = by_next us items x r n k (λ m km hm. steps_reached us (items ++ x ∷ []) m n km hm) (step r x) refl h

nothing_read : InPorts [] [] [] []
nothing_read = record { ports = no_port; no_variables = refl; no_statements = refl; few = omega arith; out = inr (omega arith) }

-- what is known where items lead
reached : (items : List Item) (r : Reader) → steps start items ≡ Some r → Reached r items
reached items r h = steps_reached items [] start r nothing_read h

form_at : (stage : Stage) → stage ≡ Written → (ps : List Port) (vs : List (List ℕ)) (ss : List Statement) (items : List Item) → KnownAt stage ps vs ss items → Form items (record { ports = ps; statements = ss })
form_at stage e ps vs ss items k =
    let last : KnownAt Written ps vs ss items = subst (λ s. KnownAt s ps vs ss items) e k in
    record {
      variables = vs;
      port_items = last.0.port_items;
      body_items = last.0.body_items;
      ports = last.0.ports;
      body = last.0.body;
      order = last.0.order;
      few_ports = last.0.few;
      few_statements = last.1;
    }

-- after a write the items are a source
form_of : (items : List Item) (r : Reader) → steps start items ≡ Some r → r.stage ≡ Written → Form items (record { ports = r.ports; statements = r.statements })
form_of items r h e = form_at r.stage e r.ports r.variables r.statements items (reached items r h)

steps_on : (items us : List Item) (r : Reader) → steps start items ≡ Some r → steps start (items ++ us) ≡ steps r us
steps_on items us r h = steps_append items start us ∙ ap (option_and_then (λ (n : Reader). steps n us)) h

-- items that are taken can go on
can_go_on : (items : List Item) (r : Reader) → steps start items ≡ Some r → CanGoOn items
can_go_on items r h =
    let a = alive r items (reached items r h) in
    record { rest = a.rest; source = record { ports = a.last.ports; statements = a.last.statements }; form = form_of (items ++ a.rest) a.last (steps_on items a.rest r h ∙ a.leads) a.ends }

step_alone : (r : Reader) (x : Item) (us : List Item) → step r x ≡ None → steps r (x ∷ us) ≡ None
unfolding steps
step_alone r x us e = ap (option_and_then (λ (n : Reader). steps n us)) e

-- after an item that is not taken nothing goes on
cannot_go_on : (items : List Item) (x : Item) (r : Reader) → steps start items ≡ Some r → step r x ≡ None → ¬ CanGoOn (items ++ x ∷ [])
cannot_go_on items x r h e on =
    let all : steps start (items ++ (x ∷ on.rest)) ≡ None = steps_on items (x ∷ on.rest) r h ∙ step_alone r x on.rest e in
    let form = form_steps ((items ++ x ∷ []) ++ on.rest) on.source on.form in
    let same : steps start ((items ++ x ∷ []) ++ on.rest) ≡ steps start (items ++ (x ∷ on.rest)) = ap (steps start) (append_assoc items (x ∷ []) on.rest) in
    none_some _ _ (same ∙ all) form
  where
    none_some : (o : Option Reader) (y : Reader) → o ≡ None → o ≡ Some y → ⊥
    none_some o y f g = cc

-- where the last item is no write the items are no source
no_form : (items : List Item) (r : Reader) → steps start items ≡ Some r → ¬ (r.stage ≡ Written) → (source : Source) → ¬ Form items source
no_form items r h wrong source f = wrong (stage_of (steps start items) r (mk Written source.ports f.variables source.statements) h (form_steps items source f))
  where
    stage_of : (o : Option Reader) (a b : Reader) → o ≡ Some a → o ≡ Some b → a.stage ≡ b.stage
    stage_of o a b e g = cc

same_parts : (ps qs : List Port) (ss us : List Statement) → ps ≡ qs → ss ≡ us → Path Source (record { ports = ps; statements = ss }) (record { ports = qs; statements = us })
same_parts ps qs ss us x y = cc

-- items are one source at most
pub one_form : (items : List Item) (source other : Source) → Form items source → Form items other → source ≡ other
one_form items source other f g = source_of (steps start items) source other f.variables g.variables (form_steps items source f) (form_steps items other g)
  where
    source_of : (o : Option Reader) (a b : Source) (vs ws : List (List ℕ)) → o ≡ Some (mk Written a.ports vs a.statements) → o ≡ Some (mk Written b.ports ws b.statements) → a ≡ b
    source_of o a b vs ws e h =
        let same : mk Written a.ports vs a.statements ≡ mk Written b.ports ws b.statements = cc in
        same_parts a.ports b.ports a.statements b.statements (ap (λ (r : Reader). r.ports) same) (ap (λ (r : Reader). r.statements) same)

-- ---- from what is run

abbrev then_run : List Placed → Place → Option Reader → Result Reader Place
then_run rest place o = elim o as (λ _. Result Reader Place) [ None ↦ Err place | Some next ↦ run next rest ]

steps_by : (xs : List Placed) (place : Place) (n : Reader) → ((m : Reader) → run m xs ≡ Ok n → steps m (without_places xs) ≡ Some n) → (o : Option Reader) → then_run xs place o ≡ Ok n → option_and_then (λ (m : Reader). steps m (without_places xs)) o ≡ Some n
steps_by xs place n go None h = absurd (cc)
steps_by xs place n go (Some m) h = go m h

-- what is run to its end is taken
steps_of : (xs : List Placed) (r n : Reader) → run r xs ≡ Ok n → steps r (without_places xs) ≡ Some n
unfolding run steps
steps_of [] r n h = let e : r ≡ n = cc in ap Some e
steps_of (x ∷ xs) r n h = steps_by xs x.place n (λ m e. steps_of xs m n e) (step r x.item) h

-- a reader took the items before one, and not that one, which is at this place
record Stopped (r : Reader) (xs : List Placed) (place : Place) : Type 0 where
  before : List Placed
  after : List Placed
  x : Placed
  reader : Reader
  items : xs ≡ before ++ x ∷ after
  reads : steps r (without_places before) ≡ Some reader
  stops : step reader x.item ≡ None
  here : place ≡ x.place

stopped_by : (x : Placed) (xs : List Placed) (r : Reader) (place : Place) → ((m : Reader) → run m xs ≡ Err place → Stopped m xs place) → (o : Option Reader) → step r x.item ≡ o → then_run xs x.place o ≡ Err place → Stopped r (x ∷ xs) place
unfolding steps
stopped_by x xs r place go None e h = record { before = []; after = xs; x = x; reader = r; items = refl; reads = refl; stops = e; here = cc }
stopped_by x xs r place go (Some m) e h =
    let s = go m h in
    record {
      before = x ∷ s.before;
      after = s.after;
      x = s.x;
      reader = s.reader;
      items = ap (λ us. x ∷ us) s.items;
      reads = ap (option_and_then (λ (n : Reader). steps n (without_places s.before))) e ∙ s.reads;
      stops = s.stops;
      here = s.here;
    }

stopped_of : (xs : List Placed) (r : Reader) (place : Place) → run r xs ≡ Err place → Stopped r xs place
unfolding run
stopped_of [] r place h = absurd (cc)
stopped_of (x ∷ xs) r place h = stopped_by x xs r place (λ m e. stopped_of xs m place e) (step r x.item) refl h

without_places_append : (xs ys : List Placed) → without_places (xs ++ ys) ≡ without_places xs ++ without_places ys
without_places_append [] ys = refl
without_places_append (x ∷ xs) ys = ap (λ us. x.item ∷ us) (without_places_append xs ys)

-- ---- the answers

pub is_found : (xs : List Placed) (r : Reader) → run start xs ≡ Ok r → r.stage ≡ Written → Form (without_places xs) (record { ports = r.ports; statements = r.statements })
is_found xs r h e = form_of (without_places xs) r (steps_of xs start r h) e

pub is_alone : (xs : List Placed) (r : Reader) → run start xs ≡ Ok r → r.stage ≡ Written → (other : Source) → Form (without_places xs) other → other ≡ record { ports = r.ports; statements = r.statements }
is_alone xs r h e other f = one_form (without_places xs) other _ f (is_found xs r h e)

pub none_at_end : (xs : List Placed) (r : Reader) → run start xs ≡ Ok r → ¬ (r.stage ≡ Written) → (source : Source) → ¬ Form (without_places xs) source
none_at_end xs r h early = no_form (without_places xs) r (steps_of xs start r h) early

pub wrong_at_end : (xs : List Placed) (r : Reader) (end : Place) → run start xs ≡ Ok r → ¬ (r.stage ≡ Written) → FirstWrongOf xs end end
wrong_at_end xs r end h early = at_end (can_go_on (without_places xs) r (steps_of xs start r h)) (none_at_end xs r h early) refl

pub none_after_item : (xs : List Placed) (place : Place) → run start xs ≡ Err place → (source : Source) → ¬ Form (without_places xs) source
none_after_item xs place h source f =
    let s = stopped_of xs start place h in
    let split : without_places xs ≡ (without_places s.before ++ s.x.item ∷ []) ++ without_places s.after =
    ap without_places s.items ∙ without_places_append s.before (s.x ∷ s.after) ∙ sym (append_assoc (without_places s.before) (s.x.item ∷ []) (without_places s.after)) in
    cannot_go_on (without_places s.before) s.x.item s.reader s.reads s.stops
    (record { rest = without_places s.after; source = source; form = subst (λ us. Form us source) split f })

pub wrong_at_item : (xs : List Placed) (end place : Place) → run start xs ≡ Err place → FirstWrongOf xs end place
wrong_at_item xs end place h =
    let s = stopped_of xs start place h in
    at_item s.before s.after s.x s.items (can_go_on (without_places s.before) s.reader s.reads) (cannot_go_on (without_places s.before) s.x.item s.reader s.reads s.stops) s.here
