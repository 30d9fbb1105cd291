-- Items one after another.
use Rattle.std.proofs.Common.{◌≡◌, ℕ, suc, ◌+◌, ◌<◌, ◌≤◌, Bool, true, false, List, [], ◌∷◌, ◌++◌, length, drop, get_or, Option, Some, None, Result, Ok, Err, refl, sym, ap, subst, ◌∙◌, arith, length-append, drop-cons}
use Rattle.std.specs.Prelude.{if◌then◌else◌}
use Rattle.std.proofs.lemmas.List.{drop_all}
use Rattle.hb_base.specs.declared.port.Port.{Port}
use Rattle.hb_base.specs.declared.place.Place.{Place}
use Rattle.hb_base.specs.declared.port.Dir.TheVariants.{In, Out}
use Rattle.hb_tree.specs.Expressions.{Stmts}
use Rattle.hb_tree.specs.ExpressionViews.{stmts}
use Rattle.hb_tree.specs.declared.statement.Stmt.{Stmt}
use Rattle.hb_tree.specs.declared.statement.Stmt.TheVariants.{Take, Let, Do}
use Rattle.hb_tree.specs.declared.declaration.Decl.{Decl}
use Rattle.hb_second.specs.declared.source.Argument.{Argument}
use Rattle.hb_second.specs.declared.source.Statement.TheVariants.{Read, Write}
use Rattle.hb_second.specs.declared.reader.Reader.{Reader}
use Rattle.hb_second.specs.Names.{find_port}
use Rattle.hb_second.specs.Items.{Item, APort, TheSignature, TheEquation, ARead, AWrite, Other, Placed, at, statement_items, equation_items, decl_items, all_items}
use Rattle.hb_second.specs.Form.{argument_of}
use Rattle.hb_second.specs.Moves.{step, run, given, outcome, wrong_at, IsSmall, in_ports, in_body, may_be_port, put_port, may_read, put_read, may_write, put_write}
use Rattle.hb_second.proofs.StepLaws.{given_is, and_left, and_right, lt_of}

-- one item
pub run_one : (r n : Reader) (place : Place) (item : Item) (fits : Bool) → step r item ≡ given fits n → run r (at place item ∷ []) ≡ outcome (wrong_at fits place) n
unfolding run
run_one r n place item true e = rw e refl
run_one r n place item false e = rw e refl

-- what is no item of the form stops the reader
pub run_other : (r : Reader) (place : Place) (rest : List Placed) → run r (at place Other ∷ rest) ≡ Err place
unfolding run
run_other r place rest = refl

abbrev go_on : List Placed → Place → Option Reader → Result Reader Place
go_on rest place o = elim o as (λ _. Result Reader Place) [ None ↦ Err place | Some next ↦ run next rest ]

-- an item that is taken, and one that is not
pub run_taken : (r n : Reader) (x : Placed) (rest : List Placed) → step r x.item ≡ Some n → run r (x ∷ rest) ≡ run n rest
unfolding run
run_taken r n x rest e = ap (go_on rest x.place) e

pub run_stops : (r : Reader) (x : Placed) (rest : List Placed) → step r x.item ≡ None → run r (x ∷ rest) ≡ Err x.place
unfolding run
run_stops r x rest e = ap (go_on rest x.place) e

ok_by : (xs ys : List Placed) (place : Place) (n : Reader) → ((m : Reader) → run m xs ≡ Ok n → run m (xs ++ ys) ≡ run n ys) → (o : Option Reader) → go_on xs place o ≡ Ok n → go_on (xs ++ ys) place o ≡ run n ys
ok_by xs ys place n go None f = absurd (cc)
ok_by xs ys place n go (Some m) f = go m f

err_by : (xs ys : List Placed) (here place : Place) → ((m : Reader) → run m xs ≡ Err place → run m (xs ++ ys) ≡ Err place) → (o : Option Reader) → go_on xs here o ≡ Err place → go_on (xs ++ ys) here o ≡ Err place
err_by xs ys here place go None f = f
err_by xs ys here place go (Some m) f = go m f

-- items, and then others
pub run_ok : (xs ys : List Placed) (r n : Reader) → run r xs ≡ Ok n → run r (xs ++ ys) ≡ run n ys
unfolding run
run_ok [] ys r n e = let same : r ≡ n = cc in ap (λ m. run m ys) same
run_ok (x ∷ xs) ys r n e = ok_by xs ys x.place n (λ m f. run_ok xs ys m n f) (step r x.item) e

pub run_err : (xs ys : List Placed) (r : Reader) (place : Place) → run r xs ≡ Err place → run r (xs ++ ys) ≡ Err place
unfolding run
run_err [] ys r place e = absurd (cc)
run_err (x ∷ xs) ys r place e = err_by xs ys x.place place (λ m f. run_err xs ys m place f) (step r x.item) e

-- ---- what a reader holds stays few

same_of : (a b : Reader) → Some a ≡ Some b → a ≡ b
same_of a b e = cc

small_port : (r : Reader) (p : Port) → length r.ports < 256 → IsSmall r → IsSmall (record r { ports = r.ports ++ p ∷ [] })
small_port r p room small =
    let more : length (r.ports ++ p ∷ []) ≡ length r.ports + 1 = length-append r.ports _ in
    record { ports = omega arith; statements = small.statements; variables = small.variables }

small_read : (r n : Reader) (name : List ℕ) (o : Option ℕ) → length r.statements < 999 → IsSmall r → put_read r name o ≡ Some n → IsSmall n
small_read r n name None room small e = absurd (cc)
small_read r n name (Some number) room small e =
    subst IsSmall (same_of _ n e)
    (let more : length (r.statements ++ Read number ∷ []) ≡ length r.statements + 1 = length-append r.statements _ in
    let others : length (r.variables ++ name ∷ []) ≡ length r.variables + 1 = length-append r.variables _ in
    let bound : length r.variables ≤ length r.statements = small.variables in
    record { ports = small.ports; statements = omega arith; variables = omega arith })

small_write : (r n : Reader) (o : Option ℕ) (a : Option Argument) → length r.statements < 1000 → IsSmall r → put_write r o a ≡ Some n → IsSmall n
small_write r n None a room small e = absurd (cc)
small_write r n (Some number) None room small e = absurd (cc)
small_write r n (Some number) (Some argument) room small e =
    subst IsSmall (same_of _ n e)
    (let more : length (r.statements ++ Write number argument ∷ []) ≡ length r.statements + 1 = length-append r.statements _ in
    let bound : length r.variables ≤ length r.statements = small.variables in
    record { ports = small.ports; statements = omega arith; variables = omega arith })

abbrev when : Bool → Option Reader → Option Reader
when b o = if b then o else None

read_by : (r n : Reader) (name port : List ℕ) (b : Bool) → may_read r name ≡ b → IsSmall r → when b (put_read r name (find_port In port r.ports)) ≡ Some n → IsSmall n
read_by r n name port false m small e = absurd (cc)
read_by r n name port true m small e =
    small_read r n name (find_port In port r.ports) (lt_of _ _ (and_left _ _ (and_right (in_body r.stage) _ m))) small e

write_by : (r n : Reader) (port : List ℕ) (a : Option Argument) (b : Bool) → may_write r ≡ b → IsSmall r → when b (put_write r (find_port Out port r.ports) a) ≡ Some n → IsSmall n
write_by r n port a false m small e = absurd (cc)
write_by r n port a true m small e =
    small_write r n (find_port Out port r.ports) a (lt_of _ _ (and_right (in_body r.stage) _ m)) small e

pub small_step : (r n : Reader) (item : Item) → IsSmall r → step r item ≡ Some n → IsSmall n
small_step r n (APort name way address) small e =
    let g = given_is (may_be_port r name way address) (put_port r name way address) n e in
    subst IsSmall g.same (small_port r _ (lt_of _ _ (and_left _ _ (and_right (in_ports r.stage) _ g.holds))) small)
small_step r n TheSignature small e =
    let g = given_is _ _ n e in
    subst IsSmall g.same (record { ports = small.ports; statements = small.statements; variables = small.variables })
small_step r n TheEquation small e =
    let g = given_is _ _ n e in
    subst IsSmall g.same (record { ports = small.ports; statements = small.statements; variables = small.variables })
small_step r n (ARead name port) small e = read_by r n name port (may_read r name) refl small e
small_step r n (AWrite port words) small e = write_by r n port (argument_of r.variables words) (may_write r) refl small e
small_step r n Other small e = absurd (cc)

small_by : (x : Placed) (xs : List Placed) (r n : Reader) → IsSmall r → ((m : Reader) → IsSmall m → run m xs ≡ Ok n → IsSmall n) → (o : Option Reader) → step r x.item ≡ o → go_on xs x.place o ≡ Ok n → IsSmall n
small_by x xs r n small go None s f = absurd (cc)
small_by x xs r n small go (Some m) s f = go m (small_step r m x.item small s) f

pub small_run : (xs : List Placed) (r n : Reader) → IsSmall r → run r xs ≡ Ok n → IsSmall n
unfolding run
small_run [] r n small e = let same : r ≡ n = cc in subst IsSmall same small
small_run (x ∷ xs) r n small e = small_by x xs r n small (λ m s f. small_run xs m n s f) (step r x.item) refl e

-- ---- statements and declarations one after another

statement_first : (names : List (List ℕ)) (around : Place) (s : Stmt) (rest : List Stmt) → statement_items names around (stmts (s ∷ rest)) ≡ statement_items names around (stmts (s ∷ [])) ++ statement_items names around (stmts rest)
statement_first names around (Take p e) rest = refl
statement_first names around (Let local) rest = refl
statement_first names around (Do e) rest = refl

statements_from : (names : List (List ℕ)) (around : Place) (ss : List Stmt) (i : ℕ) (s : Stmt) → i < length ss → s ≡ get_or ss i s → statement_items names around (stmts (drop i ss)) ≡ statement_items names around (stmts (s ∷ [])) ++ statement_items names around (stmts (drop (suc i) ss))
statements_from names around ss i s within is =
    ap (λ xs. statement_items names around (stmts xs)) (drop-cons ss i s within ∙ ap (λ x. x ∷ drop (suc i) ss) (sym is)) ∙ statement_first names around s (drop (suc i) ss)

decls_from : (names : List (List ℕ)) (ds : List Decl) (i : ℕ) (d : Decl) → i < length ds → d ≡ get_or ds i d → all_items names (drop i ds) ≡ decl_items names d ++ all_items names (drop (suc i) ds)
decls_from names ds i d within is = ap (all_items names) (drop-cons ds i d within ∙ ap (λ x. x ∷ drop (suc i) ds) (sym is))

-- a loop goes on after the part that is taken, or stops with it
pub on_ok : (whole : Result Reader Place) (left part after : List Placed) (r n : Reader) → left ≡ part ++ after → whole ≡ run r left → run r part ≡ Ok n → whole ≡ run n after
on_ok whole left part after r n e w h = w ∙ ap (run r) e ∙ run_ok part after r n h

pub on_err : (whole : Result Reader Place) (left part after : List Placed) (r : Reader) (place : Place) → left ≡ part ++ after → whole ≡ run r left → run r part ≡ Err place → whole ≡ Err place
on_err whole left part after r place e w h = w ∙ ap (run r) e ∙ run_err part after r place h

abbrev pub StatementsLeft : List (List ℕ) → Place → List Stmt → ℕ → Result Reader Place → Reader → Type 0
StatementsLeft names around ss i all r = (all ≡ run r (statement_items names around (stmts (drop i ss)))) × IsSmall r

abbrev pub DeclsLeft : List (List ℕ) → List Decl → ℕ → Result Reader Place → Reader → Type 0
DeclsLeft names ds i all r = (all ≡ run r (all_items names (drop i ds))) × IsSmall r

is_ok : (part : List Placed) (r n : Reader) (wrong : Option Place) → run r part ≡ outcome wrong n → wrong ≡ None → run r part ≡ Ok n
is_ok part r n wrong h e = h ∙ ap (λ w. outcome w n) e

is_err : (part : List Placed) (r n : Reader) (wrong : Option Place) (place : Place) → run r part ≡ outcome wrong n → wrong ≡ Some place → run r part ≡ Err place
is_err part r n wrong place h e = h ∙ ap (λ w. outcome w n) e

pub statement_ok : (names : List (List ℕ)) (around : Place) (ss : List Stmt) (i : ℕ) (s : Stmt) (all : Result Reader Place) (r n : Reader) (wrong : Option Place) → i < length ss → s ≡ get_or ss i s → StatementsLeft names around ss i all r → run r (statement_items names around (stmts (s ∷ []))) ≡ outcome wrong n → wrong ≡ None → StatementsLeft names around ss (i + 1) all n
statement_ok names around ss i s all r n wrong within is left h e =
    let fits = is_ok _ r n wrong h e in
    let next : suc i ≡ i + 1 = omega arith in (
      subst (λ k. all ≡ run n (statement_items names around (stmts (drop k ss)))) next (on_ok all _ _ _ r n (statements_from names around ss i s within is) left.0 fits),
      small_run _ r n left.1 fits,
    )

pub statement_err : (names : List (List ℕ)) (around : Place) (ss : List Stmt) (i : ℕ) (s : Stmt) (all : Result Reader Place) (r n : Reader) (wrong : Option Place) (place : Place) → i < length ss → s ≡ get_or ss i s → StatementsLeft names around ss i all r → run r (statement_items names around (stmts (s ∷ []))) ≡ outcome wrong n → wrong ≡ Some place → all ≡ Err place
statement_err names around ss i s all r n wrong place within is left h e =
    on_err all _ _ _ r place (statements_from names around ss i s within is) left.0 (is_err _ r n wrong place h e)

pub statement_end : (names : List (List ℕ)) (around : Place) (ss : List Stmt) (i : ℕ) (all : Result Reader Place) (r : Reader) → length ss ≤ i → StatementsLeft names around ss i all r → all ≡ Ok r
unfolding run
statement_end names around ss i all r past left = left.0 ∙ ap (λ xs. run r (statement_items names around (stmts xs))) (drop_all i ss past)

pub decl_ok : (names : List (List ℕ)) (ds : List Decl) (i : ℕ) (d : Decl) (all : Result Reader Place) (r n : Reader) (wrong : Option Place) → i < length ds → d ≡ get_or ds i d → DeclsLeft names ds i all r → run r (decl_items names d) ≡ outcome wrong n → wrong ≡ None → DeclsLeft names ds (i + 1) all n
decl_ok names ds i d all r n wrong within is left h e =
    let fits = is_ok _ r n wrong h e in
    let next : suc i ≡ i + 1 = omega arith in (
      subst (λ k. all ≡ run n (all_items names (drop k ds))) next (on_ok all _ _ _ r n (decls_from names ds i d within is) left.0 fits),
      small_run _ r n left.1 fits,
    )

pub decl_err : (names : List (List ℕ)) (ds : List Decl) (i : ℕ) (d : Decl) (all : Result Reader Place) (r n : Reader) (wrong : Option Place) (place : Place) → i < length ds → d ≡ get_or ds i d → DeclsLeft names ds i all r → run r (decl_items names d) ≡ outcome wrong n → wrong ≡ Some place → all ≡ Err place
decl_err names ds i d all r n wrong place within is left h e =
    on_err all _ _ _ r place (decls_from names ds i d within is) left.0 (is_err _ r n wrong place h e)

pub decl_end : (names : List (List ℕ)) (ds : List Decl) (i : ℕ) (all : Result Reader Place) (r : Reader) → length ds ≤ i → DeclsLeft names ds i all r → all ≡ Ok r
unfolding run
decl_end names ds i all r past left = left.0 ∙ ap (λ xs. run r (all_items names xs)) (drop_all i ds past)

-- ---- an equation with its statements

pub bind_stops : (names : List (List ℕ)) (r n : Reader) (place : Place) (o : Option Stmts) (ss : Stmts) (fits : Bool) → Some ss ≡ o → step r TheEquation ≡ given fits n → fits ≡ false → run r (equation_items names place o) ≡ Err place
bind_stops names r n place o ss fits is e f =
    ap (λ p. run r (equation_items names place p)) (sym is) ∙ run_stops r _ (statement_items names place ss) (e ∙ ap (λ b. given b n) f)

pub bind_goes : (names : List (List ℕ)) (r n last : Reader) (place : Place) (o : Option Stmts) (ss : Stmts) (fits : Bool) (wrong : Option Place) → Some ss ≡ o → step r TheEquation ≡ given fits n → fits ≡ true → run n (statement_items names place ss) ≡ outcome wrong last → run r (equation_items names place o) ≡ outcome wrong last
bind_goes names r n last place o ss fits wrong is e f h =
    ap (λ p. run r (equation_items names place p)) (sym is) ∙ run_taken r n _ (statement_items names place ss) (e ∙ ap (λ b. given b n) f) ∙ h

pub bind_none : (names : List (List ℕ)) (r : Reader) (place : Place) (o : Option Stmts) → None ≡ o → run r (equation_items names place o) ≡ Err place
bind_none names r place o is = ap (λ p. run r (equation_items names place p)) (sym is) ∙ run_other r place []
