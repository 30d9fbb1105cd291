-- What a reader has read is what its stage, its ports and its statements say.
use Rattle.std.proofs.Common.{◌≡◌, ℕ, ◌+◌, ◌<◌, ◌≤◌, Bool, true, false, List, [], ◌∷◌, ◌++◌, length, Option, Some, None, refl, sym, ap, subst, ◌∙◌, ◌⊎◌, inl, inr, ⊎_elim, arith, length-append, append_assoc}
use Rattle.std.specs.Prelude.{◌&&◌, ◌||◌, nat_lt, nat_le, if◌then◌else◌}
use Rattle.hb_base.specs.declared.port.Port.{Port}
use Rattle.hb_base.specs.declared.port.Dir.{Dir}
use Rattle.hb_base.specs.declared.port.Dir.TheVariants.{In, Out}
use Rattle.hb_second.specs.declared.source.Argument.{Argument}
use Rattle.hb_second.specs.declared.source.Statement.{Statement}
use Rattle.hb_second.specs.declared.source.Statement.TheVariants.{Read, Write}
use Rattle.hb_second.specs.declared.reader.Stage.{Stage}
use Rattle.hb_second.specs.declared.reader.Stage.TheVariants.{Ports as AtPorts, Equation, Statements, Written}
use Rattle.hb_second.specs.declared.reader.Reader.{Reader}
use Rattle.hb_second.specs.Names.{is_new_name, has_port, find_port}
use Rattle.hb_second.specs.Items.{Item, Given, APort, TheSignature, TheEquation, ARead, AWrite, Other}
use Rattle.hb_second.specs.Form.{port_of, Ports, one_port_more, Body, no_statement, one_read_more, one_write_more, argument_of, whole}
use Rattle.hb_second.specs.Moves.{step, given, may_be_port, may_go, is_next_port, is_port_address, put_port, put_read, put_write}
use Rattle.hb_second.proofs.StepLaws.{mk, and_left, and_right, given_is, lt_of, le_of}
use Rattle.hb_second.proofs.Alive.{out_last, out_after}

-- among the ports
pub record InPorts (ps : List Port) (vs : List (List ℕ)) (ss : List Statement) (items : List Item) : Type 0 where
  pub ports : Ports ps items
  pub no_variables : vs ≡ []
  pub no_statements : ss ≡ []
  pub few : length ps ≤ 256
  pub out : (has_port Out ps ≡ true) ⊎ (length ps < 256)

-- after the signature
pub record InMain (ps : List Port) (vs : List (List ℕ)) (ss : List Statement) (items : List Item) : Type 0 where
  pub port_items : List Item
  pub ports : Ports ps port_items
  pub no_variables : vs ≡ []
  pub no_statements : ss ≡ []
  pub order : items ≡ port_items ++ TheSignature ∷ []
  pub few : length ps ≤ 256
  pub has_out : has_port Out ps ≡ true

-- among the statements
pub record InBody (writes : Bool) (ps : List Port) (vs : List (List ℕ)) (ss : List Statement) (items : List Item) : Type 0 where
  pub port_items : List Item
  pub body_items : List Item
  pub ports : Ports ps port_items
  pub body : Body ps writes vs ss body_items
  pub order : items ≡ whole port_items body_items
  pub few : length ps ≤ 256
  pub has_out : has_port Out ps ≡ true

-- what is known where a reader stands after these items
abbrev pub KnownAt : Stage → List Port → List (List ℕ) → List Statement → List Item → Type 0
KnownAt AtPorts ps vs ss items = InPorts ps vs ss items
KnownAt Equation ps vs ss items = InMain ps vs ss items
KnownAt Statements ps vs ss items = (InBody false ps vs ss items) × (length ss < 1000)
KnownAt Written ps vs ss items = (InBody true ps vs ss items) × (length ss ≤ 1000)

abbrev pub Reached : Reader → List Item → Type 0
Reached r items = KnownAt r.stage r.ports r.variables r.statements items

none_here : (n : Reader) → Path (Option Reader) None (Some n) → ⊥
none_here n h = cc

by_some : (r n : Reader) (items : List Item) → Some r ≡ Some n → Reached r items → Reached n items
by_some r n items h f = let e : r ≡ n = cc in subst (λ m. Reached m items) e f

by_given : (test : Bool) (r n : Reader) (items : List Item) → given test r ≡ Some n → (test ≡ true → Reached r items) → Reached n items
by_given test r n items h f = let g = given_is test r n h in subst (λ m. Reached m items) g.same (f g.holds)

-- ---- a port

out_by : (name : List ℕ) (ps : List Port) (a : ℕ) (b : Bool) → has_port Out ps ≡ b → b || nat_lt (length ps) 255 ≡ true → (has_port Out (ps ++ port_of name In a ∷ []) ≡ true) ⊎ (length ps < 255)
out_by name ps a true e h = inl (out_after name In ps a e)
out_by name ps a false e h = inr (lt_of _ _ h)

out_still : (name : List ℕ) (way : Dir) (ps : List Port) (a : ℕ) → may_go way ps ≡ true → (has_port Out (ps ++ port_of name way a ∷ []) ≡ true) ⊎ (length ps < 255)
out_still name In ps a h = out_by name ps a (has_port Out ps) refl h
out_still name Out ps a h = inl (out_last name ps a)

port_more : (ps : List Port) (vs : List (List ℕ)) (ss : List Statement) (items : List Item) (name : List ℕ) (way : Dir) (a : ℕ) → InPorts ps vs ss items → length ps < 256 → may_go way ps ≡ true → is_next_port ps name a ≡ true → InPorts (ps ++ port_of name way a ∷ []) vs ss (items ++ APort name way a ∷ [])
port_more ps vs ss items name way a k room may next =
    let more : length (ps ++ port_of name way a ∷ []) ≡ length ps + 1 = length-append ps _ in
    let address : is_port_address ps a ≡ true = and_right (is_new_name ps [] name) _ next in
    let below = and_right (nat_le 0x8000_0000 a) _ address in
    record {
      ports = one_port_more ps items name way a k.ports (record {
        new_name = and_left (is_new_name ps [] name) _ next;
        high = le_of _ _ (and_left (nat_le 0x8000_0000 a) _ address);
        within = lt_of _ _ (and_left (nat_lt a 0x1_0000_0000) _ below);
        new_address = and_right (nat_lt a 0x1_0000_0000) _ below;
      });
      no_variables = k.no_variables;
      no_statements = k.no_statements;
      few = omega arith;
      out = ⊎_elim (λ out. inl out) (λ few. inr (omega arith)) (out_still name way ps a may);
    }

port_sound : (ps : List Port) (vs : List (List ℕ)) (ss : List Statement) (items : List Item) (name : List ℕ) (way : Dir) (a : ℕ) (n : Reader) → InPorts ps vs ss items → step (mk AtPorts ps vs ss) (APort name way a) ≡ Some n → Reached n (items ++ APort name way a ∷ [])
port_sound ps vs ss items name way a n k h =
    by_given (may_be_port (mk AtPorts ps vs ss) name way a) (put_port (mk AtPorts ps vs ss) name way a) n (items ++ APort name way a ∷ []) h
    (λ e. let more = and_right (nat_lt (length ps) 256) _ e in
    port_more ps vs ss items name way a k (lt_of _ _ (and_left (nat_lt (length ps) 256) _ e)) (and_left (may_go way ps) _ more) (and_right (may_go way ps) _ more))

-- ---- `main`

signature_sound : (ps : List Port) (vs : List (List ℕ)) (ss : List Statement) (items : List Item) (n : Reader) → InPorts ps vs ss items → step (mk AtPorts ps vs ss) TheSignature ≡ Some n → Reached n (items ++ TheSignature ∷ [])
signature_sound ps vs ss items n k h =
    by_given (has_port Out ps) (mk Equation ps vs ss) n (items ++ TheSignature ∷ []) h
    (λ e. record { port_items = items; ports = k.ports; no_variables = k.no_variables; no_statements = k.no_statements; order = refl; few = k.few; has_out = e })

body_begins : (ps : List Port) (vs : List (List ℕ)) (ss : List Statement) (items : List Item) → InMain ps vs ss items → vs ≡ [] → ss ≡ [] → (InBody false ps vs ss (items ++ TheEquation ∷ [])) × (length ss < 1000)
body_begins ps vs ss items k e f =
    let none : length ss ≡ 0 = ap length f in (
      record {
        port_items = k.port_items;
        body_items = [];
        ports = k.ports;
        body = subst (λ us. Body ps false us ss []) (sym e) (subst (λ us. Body ps false [] us []) (sym f) no_statement);
        order = ap (λ us. us ++ TheEquation ∷ []) k.order ∙ append_assoc k.port_items (TheSignature ∷ []) (TheEquation ∷ []);
        few = k.few;
        has_out = k.has_out;
      },
      omega arith,
    )

-- ---- a statement

abbrev when : Bool → Option Reader → Option Reader
when b o = if b then o else None

body_more : (writes next : Bool) (ps : List Port) (vs vs' : List (List ℕ)) (ss ss' : List Statement) (items : List Item) (x : Item) → (k : InBody writes ps vs ss items) → Body ps next vs' ss' (k.body_items ++ x ∷ []) → InBody next ps vs' ss' (items ++ x ∷ [])
body_more writes next ps vs vs' ss ss' items x k body = record {
  port_items = k.port_items;
  body_items = k.body_items ++ x ∷ [];
  ports = k.ports;
  body = body;
  order = ap (λ us. us ++ x ∷ []) k.order ∙ append_assoc k.port_items (TheSignature ∷ TheEquation ∷ k.body_items) (x ∷ []);
  few = k.few;
  has_out = k.has_out;
}

read_by : (stage : Stage) (writes : Bool) (ps : List Port) (vs : List (List ℕ)) (ss : List Statement) (items : List Item) (name port : List ℕ) (n : Reader) → InBody writes ps vs ss items → length ss < 999 → is_new_name ps vs name ≡ true → (o : Option ℕ) → find_port In port ps ≡ o → put_read (mk stage ps vs ss) name o ≡ Some n → Reached n (items ++ ARead name port ∷ [])
read_by stage writes ps vs ss items name port n k room new None e h = absurd (none_here n h)
read_by stage writes ps vs ss items name port n k room new (Some number) e h =
    let more : length (ss ++ Read number ∷ []) ≡ length ss + 1 = length-append ss _ in
    by_some (mk Statements ps (vs ++ name ∷ []) (ss ++ Read number ∷ [])) n (items ++ ARead name port ∷ []) h
    (body_more writes false ps vs _ ss _ items (ARead name port) k (one_read_more writes vs ss k.body_items name port number k.body new e), omega arith)

read_when : (stage : Stage) (writes : Bool) (ps : List Port) (vs : List (List ℕ)) (ss : List Statement) (items : List Item) (name port : List ℕ) (n : Reader) → InBody writes ps vs ss items → (b : Bool) → nat_lt (length ss) 999 && is_new_name ps vs name ≡ b → when b (put_read (mk stage ps vs ss) name (find_port In port ps)) ≡ Some n → Reached n (items ++ ARead name port ∷ [])
read_when stage writes ps vs ss items name port n k false e h = absurd (none_here n h)
read_when stage writes ps vs ss items name port n k true e h =
    read_by stage writes ps vs ss items name port n k (lt_of _ _ (and_left (nat_lt (length ss) 999) _ e)) (and_right (nat_lt (length ss) 999) _ e) (find_port In port ps) refl h

write_by : (stage : Stage) (writes : Bool) (ps : List Port) (vs : List (List ℕ)) (ss : List Statement) (items : List Item) (port : List ℕ) (words : Given) (n : Reader) → InBody writes ps vs ss items → length ss < 1000 → (o : Option ℕ) (a : Option Argument) → find_port Out port ps ≡ o → argument_of vs words ≡ a → put_write (mk stage ps vs ss) o a ≡ Some n → Reached n (items ++ AWrite port words ∷ [])
write_by stage writes ps vs ss items port words n k room None a e f h = absurd (none_here n h)
write_by stage writes ps vs ss items port words n k room (Some number) None e f h = absurd (none_here n h)
write_by stage writes ps vs ss items port words n k room (Some number) (Some argument) e f h =
    let more : length (ss ++ Write number argument ∷ []) ≡ length ss + 1 = length-append ss _ in
    by_some (mk Written ps vs (ss ++ Write number argument ∷ [])) n (items ++ AWrite port words ∷ []) h
    (body_more writes true ps vs _ ss _ items (AWrite port words) k (one_write_more writes vs ss k.body_items port number words argument k.body e f), omega arith)

write_when : (stage : Stage) (writes : Bool) (ps : List Port) (vs : List (List ℕ)) (ss : List Statement) (items : List Item) (port : List ℕ) (words : Given) (n : Reader) → InBody writes ps vs ss items → (b : Bool) → nat_lt (length ss) 1000 ≡ b → when b (put_write (mk stage ps vs ss) (find_port Out port ps) (argument_of vs words)) ≡ Some n → Reached n (items ++ AWrite port words ∷ [])
write_when stage writes ps vs ss items port words n k false e h = absurd (none_here n h)
write_when stage writes ps vs ss items port words n k true e h =
    write_by stage writes ps vs ss items port words n k (lt_of _ _ e) (find_port Out port ps) (argument_of vs words) refl refl h

-- ---- each item keeps what is known

at_ports : (ps : List Port) (vs : List (List ℕ)) (ss : List Statement) (items : List Item) (x : Item) (n : Reader) → InPorts ps vs ss items → step (mk AtPorts ps vs ss) x ≡ Some n → Reached n (items ++ x ∷ [])
at_ports ps vs ss items (APort name way a) n k h = port_sound ps vs ss items name way a n k h
at_ports ps vs ss items TheSignature n k h = signature_sound ps vs ss items n k h
at_ports ps vs ss items TheEquation n k h = absurd (none_here n h)
at_ports ps vs ss items (ARead name port) n k h = absurd (none_here n h)
at_ports ps vs ss items (AWrite port words) n k h = absurd (none_here n h)
at_ports ps vs ss items Other n k h = absurd (none_here n h)

at_main : (ps : List Port) (vs : List (List ℕ)) (ss : List Statement) (items : List Item) (x : Item) (n : Reader) → InMain ps vs ss items → step (mk Equation ps vs ss) x ≡ Some n → Reached n (items ++ x ∷ [])
at_main ps vs ss items (APort name way a) n k h = absurd (none_here n h)
at_main ps vs ss items TheSignature n k h = absurd (none_here n h)
at_main ps vs ss items TheEquation n k h = by_some (mk Statements ps vs ss) n (items ++ TheEquation ∷ []) h (body_begins ps vs ss items k k.no_variables k.no_statements)
at_main ps vs ss items (ARead name port) n k h = absurd (none_here n h)
at_main ps vs ss items (AWrite port words) n k h = absurd (none_here n h)
at_main ps vs ss items Other n k h = absurd (none_here n h)

at_statements : (ps : List Port) (vs : List (List ℕ)) (ss : List Statement) (items : List Item) (x : Item) (n : Reader) → InBody false ps vs ss items → step (mk Statements ps vs ss) x ≡ Some n → Reached n (items ++ x ∷ [])
at_statements ps vs ss items (APort name way a) n k h = absurd (none_here n h)
at_statements ps vs ss items TheSignature n k h = absurd (none_here n h)
at_statements ps vs ss items TheEquation n k h = absurd (none_here n h)
at_statements ps vs ss items (ARead name port) n k h = read_when Statements false ps vs ss items name port n k (nat_lt (length ss) 999 && is_new_name ps vs name) refl h
at_statements ps vs ss items (AWrite port words) n k h = write_when Statements false ps vs ss items port words n k (nat_lt (length ss) 1000) refl h
at_statements ps vs ss items Other n k h = absurd (none_here n h)

at_written : (ps : List Port) (vs : List (List ℕ)) (ss : List Statement) (items : List Item) (x : Item) (n : Reader) → InBody true ps vs ss items → step (mk Written ps vs ss) x ≡ Some n → Reached n (items ++ x ∷ [])
at_written ps vs ss items (APort name way a) n k h = absurd (none_here n h)
at_written ps vs ss items TheSignature n k h = absurd (none_here n h)
at_written ps vs ss items TheEquation n k h = absurd (none_here n h)
at_written ps vs ss items (ARead name port) n k h = read_when Written true ps vs ss items name port n k (nat_lt (length ss) 999 && is_new_name ps vs name) refl h
at_written ps vs ss items (AWrite port words) n k h = write_when Written true ps vs ss items port words n k (nat_lt (length ss) 1000) refl h
at_written ps vs ss items Other n k h = absurd (none_here n h)

pub sound_at : (stage : Stage) (ps : List Port) (vs : List (List ℕ)) (ss : List Statement) (items : List Item) (x : Item) (n : Reader) → KnownAt stage ps vs ss items → step (mk stage ps vs ss) x ≡ Some n → Reached n (items ++ x ∷ [])
sound_at AtPorts ps vs ss items x n k h = at_ports ps vs ss items x n k h
sound_at Equation ps vs ss items x n k h = at_main ps vs ss items x n k h
sound_at Statements ps vs ss items x n k h = at_statements ps vs ss items x n k.0 h
sound_at Written ps vs ss items x n k h = at_written ps vs ss items x n k.0 h
