-- Every reader that items lead to can be led on to a write.
use Rattle.std.proofs.Common.{◌≡◌, ℕ, suc, ◌+◌, ◌<◌, Bool, true, false, cond, List, [], ◌∷◌, ◌++◌, length, Option, Some, None, refl, ap, ◌∙◌, ◌⊎◌, ⊎_elim, arith}
use Rattle.std.specs.Prelude.{◌&&◌, ◌||◌, not, nat_lt}
use Rattle.std.specs.List.{list_any, position_or_len}
use Rattle.std.specs.Str.{bytes_eq}
use Rattle.std.proofs.lemmas.List.Folds.{list_any-append}
use Rattle.std.proofs.lemmas.Slice.Eq.{bytes_eq-Decides}
use Rattle.hb_base.specs.declared.port.Port.{Port}
use Rattle.hb_base.specs.declared.port.Dir.{Dir}
use Rattle.hb_base.specs.declared.port.Dir.TheVariants.{Out}
use Rattle.hb_second.specs.declared.source.Atom.TheVariants.{Literal}
use Rattle.hb_second.specs.declared.source.Argument.{Argument}
use Rattle.hb_second.specs.declared.source.Argument.TheVariants.{Atom as OneAtom}
use Rattle.hb_second.specs.declared.source.Statement.{Statement}
use Rattle.hb_second.specs.declared.source.Statement.TheVariants.{Write}
use Rattle.hb_second.specs.declared.reader.Stage.TheVariants.{Ports, Equation, Statements, Written}
use Rattle.hb_second.specs.declared.reader.Reader.{Reader}
use Rattle.hb_second.specs.Names.{has_port, find_port, same_way}
use Rattle.hb_second.specs.Items.{Item, APort, TheSignature, TheEquation, AWrite, One, Byte}
use Rattle.hb_second.specs.Form.{port_of}
use Rattle.hb_second.specs.Moves.{step, put_write, may_be_port, put_port}
use Rattle.hb_second.proofs.StepLaws.{mk, steps, steps_one, given_true, and_both, lt_yes}
use Rattle.hb_second.proofs.Fresh.{new_port}

-- some items lead to a write
pub record Alive (r : Reader) : Type 0 where
  pub rest : List Item
  pub last : Reader
  pub leads : steps r rest ≡ Some last
  pub ends : last.stage ≡ Written

by_step : (r n : Reader) (item : Item) → step r item ≡ Some n → Alive n → Alive r
by_step r n item e a = record { rest = item ∷ a.rest; last = a.last; leads = steps_one r n item a.rest e ∙ a.leads; ends = a.ends }

abbrev is_so : Dir → List ℕ → Port → Bool
is_so way name p = same_way p.dir way && bytes_eq name p.name

-- some port goes this way
named_by : (way : Dir) (p : Port) (ps : List Port) (b : Bool) → same_way p.dir way ≡ b → b || has_port way ps ≡ true → (has_port way ps ≡ true → (name : List ℕ) × (list_any (is_so way name) ps ≡ true)) → (name : List ℕ) × (list_any (is_so way name) (p ∷ ps) ≡ true)
named_by way p ps true e h go = (p.name, rw (e, (bytes_eq-Decides p.name p.name).1 refl) refl)
named_by way p ps false e h go = let g = go h in (g.0, or_more (is_so way g.0 p) _ g.1)
  where
    or_more : (b c : Bool) → c ≡ true → b || c ≡ true
    or_more true c f = refl
    or_more false c f = f

named : (way : Dir) (ps : List Port) → has_port way ps ≡ true → (name : List ℕ) × (list_any (is_so way name) ps ≡ true)
named way [] h = absurd (cc)
named way (p ∷ ps) h = named_by way p ps (same_way p.dir way) refl h (named way ps)

below_by : (test : Port → Bool) (p : Port) (ps : List Port) (b : Bool) → b || list_any test ps ≡ true → (list_any test ps ≡ true → position_or_len test ps < length ps) → cond (not b) (1 + position_or_len test ps) 0 < suc (length ps)
below_by test p ps true h go = omega arith
below_by test p ps false h go = let f : position_or_len test ps < length ps = go h in omega arith

below : (test : Port → Bool) (ps : List Port) → list_any test ps ≡ true → position_or_len test ps < length ps
below test [] h = absurd (cc)
below test (p ∷ ps) h = below_by test p ps (test p) h (below test ps)

has_found : (way : Dir) (ps : List Port) → has_port way ps ≡ true → (name : List ℕ) × (n : ℕ) × (find_port way name ps ≡ Some n)
has_found way ps h =
    let f = named way ps h in
    (f.0, position_or_len (is_so way f.0) ps, ap (λ b. cond b (Some (position_or_len (is_so way f.0) ps)) None) (lt_yes _ _ (below (is_so way f.0) ps f.1)))

pub written_alive : (ps : List Port) (vs : List (List ℕ)) (ss : List Statement) → Alive (mk Written ps vs ss)
unfolding steps
written_alive ps vs ss = record { rest = []; last = mk Written ps vs ss; leads = refl; ends = refl }

write_zero : (r : Reader) (o : Option ℕ) (n : ℕ) (b : Bool) (a : Argument) → o ≡ Some n → b ≡ true → cond b (put_write r o (Some a)) None ≡ Some (mk Written r.ports r.variables (r.statements ++ Write n a ∷ []))
write_zero r o n b a e f = rw (e, f) refl

pub statements_alive : (ps : List Port) (vs : List (List ℕ)) (ss : List Statement) → has_port Out ps ≡ true → length ss < 1000 → Alive (mk Statements ps vs ss)
statements_alive ps vs ss h room =
    let f = has_found Out ps h in
    by_step _ (mk Written ps vs (ss ++ Write f.1 (OneAtom (Literal 0)) ∷ [])) (AWrite f.0 (One (Byte 0)))
    (write_zero (mk Statements ps vs ss) (find_port Out f.0 ps) f.1 (nat_lt (length ss) 1000) (OneAtom (Literal 0)) f.2 (lt_yes _ _ room))
    (written_alive ps vs _)

pub equation_alive : (ps : List Port) → has_port Out ps ≡ true → Alive (mk Equation ps [] [])
equation_alive ps h = by_step _ (mk Statements ps [] []) TheEquation refl (statements_alive ps [] [] h (omega arith))

-- with an Out port, `main` may come
ports_out : (ps : List Port) → has_port Out ps ≡ true → Alive (mk Ports ps [] [])
ports_out ps h = by_step _ (mk Equation ps [] []) TheSignature (given_true (has_port Out ps) _ h) (equation_alive ps h)

or_true : (b : Bool) → b || true ≡ true
or_true true = refl
or_true false = refl

pub out_last : (name : List ℕ) (ps : List Port) (a : ℕ) → has_port Out (ps ++ port_of name Out a ∷ []) ≡ true
out_last name ps a = list_any-append (λ (p : Port). same_way p.dir Out) ps _ ∙ or_true (has_port Out ps)

pub out_after : (name : List ℕ) (way : Dir) (ps : List Port) (a : ℕ) → has_port Out ps ≡ true → has_port Out (ps ++ port_of name way a ∷ []) ≡ true
out_after name way ps a h = list_any-append (λ (p : Port). same_way p.dir Out) ps _ ∙ rw h refl

-- among the ports: an Out port stands, or one may still come
pub ports_alive : (ps : List Port) → (has_port Out ps ≡ true) ⊎ (length ps < 256) → Alive (mk Ports ps [] [])
ports_alive ps h =
    ⊎_elim (λ out. ports_out ps out)
    (λ few. let f = new_port ps few in
    by_step _ (mk Ports (ps ++ port_of f.0 Out f.1 ∷ []) [] []) (APort f.0 Out f.1)
    (given_true (may_be_port (mk Ports ps [] []) f.0 Out f.1) (put_port (mk Ports ps [] []) f.0 Out f.1) (and_both _ _ (lt_yes _ _ few) f.2))
    (ports_out (ps ++ port_of f.0 Out f.1 ∷ []) (out_last f.0 ps f.1))) h
