-- A reader takes all items of each program of the form.
use Rattle.std.proofs.Common.{◌≡◌, ℕ, ◌+◌, ◌<◌, ◌≤◌, Bool, true, false, cond, List, [], ◌∷◌, ◌++◌, length, Option, Some, None, refl, sym, ap, ◌∙◌, ⊎_elim, arith, length-append}
use Rattle.std.specs.Prelude.{◌&&◌, ◌||◌, nat_lt, option_and_then}
use Rattle.std.specs.Str.{bytes_eq}
use Rattle.std.proofs.lemmas.Bool.{cases_lt}
use Rattle.std.proofs.lemmas.List.Folds.{list_any-append, list_any_at}
use Rattle.std.proofs.lemmas.List.Quantifiers.{position-Some}
use Rattle.hb_base.specs.declared.port.Port.{Port}
use Rattle.hb_base.specs.declared.port.Dir.{Dir}
use Rattle.hb_base.specs.declared.port.Dir.TheVariants.{In, Out}
use Rattle.hb_second.specs.declared.source.Argument.{Argument}
use Rattle.hb_second.specs.declared.source.Statement.{Statement}
use Rattle.hb_second.specs.declared.source.Statement.TheVariants.{Read, Write}
use Rattle.hb_second.specs.declared.source.Source.{Source}
use Rattle.hb_second.specs.declared.reader.Stage.{Stage}
use Rattle.hb_second.specs.declared.reader.Stage.TheVariants.{Ports as AtPorts, Equation, Statements, Written}
use Rattle.hb_second.specs.declared.reader.Reader.{Reader}
use Rattle.hb_second.specs.Names.{is_new_name, has_port, find_port, same_way}
use Rattle.hb_second.specs.Items.{Item, Given, APort, TheSignature, TheEquation, ARead, AWrite}
use Rattle.hb_second.specs.Form.{port_of, IsNextPort, Ports, no_port, one_port_more, Body, no_statement, one_read_more, one_write_more, argument_of, Form}
use Rattle.hb_second.specs.Moves.{step, start, may_go, may_be_port, put_port, put_read, put_write}
use Rattle.hb_second.proofs.StepLaws.{mk, steps, steps_one, steps_append, given_true, and_both, and_left, lt_yes, le_yes}

-- one item more
pub steps_last : (xs : List Item) (x : Item) (r m n : Reader) → steps r xs ≡ Some m → step m x ≡ Some n → steps r (xs ++ x ∷ []) ≡ Some n
unfolding steps
steps_last xs x r m n e h = steps_append xs r (x ∷ []) ∙ ap (option_and_then (λ (k : Reader). steps k (x ∷ []))) e ∙ steps_one m n x [] h

-- ---- the ports

or_false : (b : Bool) → b || false ≡ true → b ≡ true
or_false true h = refl
or_false false h = absurd (cc)

or_left : (b c : Bool) → b ≡ true → b || c ≡ true
or_left b c h = rw h refl

or_right : (b c : Bool) → c ≡ true → b || c ≡ true
or_right true c h = refl
or_right false c h = h

-- an In port may stand: with fewer ports before it, or an Out port among them
way_may : (way : Dir) (name : List ℕ) (a : ℕ) (ps : List Port) → length ps < 256 → (length (ps ++ port_of name way a ∷ []) ≡ 256 → has_port Out (ps ++ port_of name way a ∷ []) ≡ true) → may_go way ps ≡ true
way_may Out name a ps few out = refl
way_may In name a ps few out =
    let more : length (ps ++ port_of name In a ∷ []) ≡ length ps + 1 = length-append ps _ in
    ⊎_elim
    (λ lt. or_right (has_port Out ps) _ (lt_yes (length ps) 255 lt))
    (λ ge. or_left (has_port Out ps) _ (or_false _ (sym (list_any-append (λ (p : Port). same_way p.dir Out) ps _) ∙ out (omega arith))))
    (cases_lt (length ps) 255)

port_step : (ps : List Port) (name : List ℕ) (way : Dir) (a : ℕ) → IsNextPort ps name a → length ps < 256 → may_go way ps ≡ true → step (mk AtPorts ps [] []) (APort name way a) ≡ Some (mk AtPorts (ps ++ port_of name way a ∷ []) [] [])
port_step ps name way a next few may =
    given_true (may_be_port (mk AtPorts ps [] []) name way a) (put_port (mk AtPorts ps [] []) name way a)
    (and_both _ _ (lt_yes _ _ few) (and_both _ _ may (and_both _ _ next.new_name (and_both _ _ (le_yes _ _ next.high) (and_both _ _ (lt_yes _ _ next.within) next.new_address)))))

ports_steps : (ps : List Port) (items : List Item) → Ports ps items → length ps ≤ 256 → (length ps ≡ 256 → has_port Out ps ≡ true) → steps start items ≡ Some (mk AtPorts ps [] [])
unfolding steps
ports_steps ps items no_port few out = refl
ports_steps ps items (one_port_more qs before name way a ports next) few out =
    let more : length (qs ++ port_of name way a ∷ []) ≡ length qs + 1 = length-append qs _ in
    let fewer : length qs < 256 = omega arith in
    steps_last before (APort name way a) start (mk AtPorts qs [] []) _ (ports_steps qs before ports (omega arith) (λ e. absurd (omega arith)))
    (port_step qs name way a next fewer (way_may way name a qs fewer out))

-- ---- the statements

-- where a reader stands after statements
abbrev stage_after : Bool → Stage
stage_after true = Written
stage_after false = Statements

found_has : (way : Dir) (name : List ℕ) (ps : List Port) (n : ℕ) → find_port way name ps ≡ Some n → has_port way ps ≡ true
found_has way name ps n h =
    let d : Port = record { name = []; dir = way; width = 1; address = 0 } in
    let f = position-Some (λ (p : Port). same_way p.dir way && bytes_eq name p.name) ps n d h in
    list_any_at (λ (p : Port). same_way p.dir way) ps n d f.0 (and_left _ _ f.1)

-- where the last statement writes, an Out port stands
body_out : (ps : List Port) (writes : Bool) (vs : List (List ℕ)) (ss : List Statement) (items : List Item) → Body ps writes vs ss items → writes ≡ true → has_port Out ps ≡ true
body_out ps writes vs ss items no_statement e = absurd (cc)
body_out ps writes vs ss items (one_read_more w us rs before name port number body new found) e = absurd (cc)
body_out ps writes vs ss items (one_write_more w us rs before port number words argument body found is) e = found_has Out port ps number found

read_put : (stage : Stage) (ps : List Port) (vs : List (List ℕ)) (ss : List Statement) (name : List ℕ) (n : ℕ) (o : Option ℕ) (b : Bool) → o ≡ Some n → b ≡ true → cond b (put_read (mk stage ps vs ss) name o) None ≡ Some (mk Statements ps (vs ++ name ∷ []) (ss ++ Read n ∷ []))
read_put stage ps vs ss name n o b e f = rw (e, f) refl

read_step : (writes : Bool) (ps : List Port) (vs : List (List ℕ)) (ss : List Statement) (name port : List ℕ) (n : ℕ) → length ss < 999 → is_new_name ps vs name ≡ true → find_port In port ps ≡ Some n → step (mk (stage_after writes) ps vs ss) (ARead name port) ≡ Some (mk Statements ps (vs ++ name ∷ []) (ss ++ Read n ∷ []))
read_step true ps vs ss name port n room new found = read_put Written ps vs ss name n (find_port In port ps) _ found (and_both (nat_lt (length ss) 999) _ (lt_yes _ _ room) new)
read_step false ps vs ss name port n room new found = read_put Statements ps vs ss name n (find_port In port ps) _ found (and_both (nat_lt (length ss) 999) _ (lt_yes _ _ room) new)

write_put : (stage : Stage) (ps : List Port) (vs : List (List ℕ)) (ss : List Statement) (n : ℕ) (a : Argument) (o : Option ℕ) (p : Option Argument) (b : Bool) → o ≡ Some n → p ≡ Some a → b ≡ true → cond b (put_write (mk stage ps vs ss) o p) None ≡ Some (mk Written ps vs (ss ++ Write n a ∷ []))
write_put stage ps vs ss n a o p b e f g = rw (e, f, g) refl

write_step : (writes : Bool) (ps : List Port) (vs : List (List ℕ)) (ss : List Statement) (port : List ℕ) (words : Given) (n : ℕ) (a : Argument) → length ss < 1000 → find_port Out port ps ≡ Some n → argument_of vs words ≡ Some a → step (mk (stage_after writes) ps vs ss) (AWrite port words) ≡ Some (mk Written ps vs (ss ++ Write n a ∷ []))
write_step true ps vs ss port words n a room found is = write_put Written ps vs ss n a (find_port Out port ps) (argument_of vs words) (nat_lt (length ss) 1000) found is (lt_yes _ _ room)
write_step false ps vs ss port words n a room found is = write_put Statements ps vs ss n a (find_port Out port ps) (argument_of vs words) (nat_lt (length ss) 1000) found is (lt_yes _ _ room)

body_steps : (ps : List Port) (writes : Bool) (vs : List (List ℕ)) (ss : List Statement) (items : List Item) → Body ps writes vs ss items → length ss ≤ 1000 → (writes ≡ false → length ss < 1000) → steps (mk Statements ps [] []) items ≡ Some (mk (stage_after writes) ps vs ss)
unfolding steps
body_steps ps writes vs ss items no_statement few room = refl
body_steps ps writes vs ss items (one_read_more w us rs before name port number body new found) few room =
    let more : length (rs ++ Read number ∷ []) ≡ length rs + 1 = length-append rs _ in
    let less : length (rs ++ Read number ∷ []) < 1000 = room refl in
    steps_last before (ARead name port) (mk Statements ps [] []) (mk (stage_after w) ps us rs) _
    (body_steps ps w us rs before body (omega arith) (λ e. omega arith))
    (read_step w ps us rs name port number (omega arith) new found)
body_steps ps writes vs ss items (one_write_more w us rs before port number words argument body found is) few room =
    let more : length (rs ++ Write number argument ∷ []) ≡ length rs + 1 = length-append rs _ in
    steps_last before (AWrite port words) (mk Statements ps [] []) (mk (stage_after w) ps us rs) _
    (body_steps ps w us rs before body (omega arith) (λ e. omega arith))
    (write_step w ps us rs port words number argument (omega arith) found is)

-- ---- the whole

main_steps : (ps : List Port) (items : List Item) → has_port Out ps ≡ true → steps (mk AtPorts ps [] []) (TheSignature ∷ TheEquation ∷ items) ≡ steps (mk Statements ps [] []) items
main_steps ps items out =
    steps_one _ (mk Equation ps [] []) TheSignature (TheEquation ∷ items) (given_true (has_port Out ps) _ out)
    ∙ steps_one _ (mk Statements ps [] []) TheEquation items refl

pub form_steps : (items : List Item) (source : Source) (f : Form items source) → steps start items ≡ Some (mk Written source.ports f.variables source.statements)
form_steps items source f =
    let out : has_port Out source.ports ≡ true = body_out source.ports true f.variables source.statements f.body_items f.body refl in
    ap (steps start) f.order
    ∙ steps_append f.port_items start (TheSignature ∷ TheEquation ∷ f.body_items)
    ∙ ap (option_and_then (λ (k : Reader). steps k (TheSignature ∷ TheEquation ∷ f.body_items))) (ports_steps source.ports f.port_items f.ports f.few_ports (λ e. out))
    ∙ main_steps source.ports f.body_items out
    ∙ body_steps source.ports true f.variables source.statements f.body_items f.body f.few_statements (λ e. absurd (cc))
