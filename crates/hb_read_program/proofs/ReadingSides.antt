-- The names of a signature are read beside an equation, whatever the equation's state is.
use Rattle.std.proofs.Common.{◌≡◌, ℕ, ◌+◌, List, [], ◌∷◌, ◌++◌, Option, Some, None, is_some, refl, sym, ap, subst, ◌∙◌, append_assoc}
use Rattle.hb_base.specs.declared.name.Name.{Name}
use Rattle.hb_base.specs.declared.place.Place.{Place}
use Rattle.hb_tokens.specs.declared.token.Token.{Token}
use Rattle.hb_tokens.specs.declared.word.Word.TheVariants as word
use Rattle.hb_tree.specs.declared.types.NameAt.{NameAt}
use Rattle.hb_grammar.specs.Tokens.{IsWord, IsComma, first_place}
use Rattle.hb_grammar.specs.Expressions as expressions
use Rattle.hb_grammar.specs.Expressions.{ReadsName}
use Rattle.hb_grammar.specs.Declarations as grammar
use Rattle.hb_grammar.specs.Declarations.{a_name, ReadsNames}
use Rattle.hb_engine.specs.Tables.{row_null, row_turn}
use Rattle.hb_engine.proofs.EngineLaw.{append_none, rows}
use Rattle.hb_read_expressions.specs.declared.state.State.{State}
use Rattle.hb_read_declarations.specs.declared.node.DeclNode.TheVariants as node
use Rattle.hb_read_declarations.specs.Combined.{mapped}
use Rattle.hb_read_declarations.specs.Nodes.{named, counted}
use Rattle.hb_read_declarations.specs.Readers.{Out}
use Rattle.hb_read_declarations.specs.Worths.{kind_var, kind_word, kind_mark, mark}
use Rattle.hb_read_declarations.proofs.Known.{some_none, none_is}
use Rattle.hb_read_declarations.proofs.WorthLaws.{var_is, op_is, mark_is, word_is}
use Rattle.hb_read_program.specs.Rules.{item}
use Rattle.hb_read_program.specs.declared.symbol.Symbol.TheVariants as symbol
use Rattle.hb_read_program.specs.declared.symbol.Count.TheVariants as count
use Rattle.hb_read_program.specs.declared.symbol.Leaf.TheVariants as leaf
use Rattle.hb_read_program.specs.Frames.{waits, reads_line, turn_to, frames_of, Side, Spot, spot_if, name_spot, operator_spot, close_spot, comma_if, side_moved, side_start, first_at, sig_behind, sig_turn, sig_if, expr_moved, or_line, still_line, begun_line, head_turn}
use Rattle.hb_read_program.specs.declared.side.Side.TheVariants as side
use Rattle.hb_read_program.specs.declared.side.Spot.TheVariants as spot
use Rattle.hb_read_program.proofs.Counting.{none_plus, one_more, counts, next_suc}
use Rattle.hb_read_program.proofs.TableLaws.{leaf_known}
use Rattle.hb_read_program.proofs.Fits.{an_eq, line_of}
use Rattle.hb_read_program.proofs.Turns.{line_first}
use Rattle.hb_read_program.proofs.Finishes.{Rows, rows_as, no_head}
use Rattle.hb_read_program.proofs.ReadingFields.{row_from}

-- names that are read stay, whatever the equation's state is

still_side : (e : Option State) (p : Place) (k : ℕ) (out : Out) (s : Spot) → still_line e (side.Names p k out s) ≡ Some (turn_to (reads_line e (side.Names p k out s) ∷ []) [])
still_side None p k out s = refl
still_side (Some x) p k out s = refl

still_at : (e : Option State) (d : Side) (p : Place) (k : ℕ) (out : Out) (s : Spot) → d ≡ side.Names p k out s → still_line e d ≡ Some (turn_to (reads_line e (side.Names p k out s) ∷ []) [])
still_at e d p k out s i = ap (still_line e) i ∙ still_side e p k out s

-- a name
name_then : (e : Option State) (p : Place) (k : ℕ) (out : Out) {ts us vs : List Token} {q : Place} {name : Name} {ms : Out} → ReadsName ts q name us → ((r : Option State) → Rows (reads_line r (side.Names p k out (spot.Named (a_name q name))) ∷ []) us ms vs) → Rows (reads_line e (side.Names p k out spot.Want) ∷ []) ts ms vs
name_then e p k out (expressions.var {t} {name} d) g =
    let r = expr_moved e t in
    row_turn {n = turn_to (reads_line r (side.Names p k out (spot.Named (a_name t.place name))) ∷ []) []}
    (still_at r (side_moved (side.Names p k out spot.Want) t) p k out (spot.Named (a_name t.place name)) (ap (λ o. spot_if (name_spot o (mark 40 t)) p k out) (var_is t d))) (g r)
name_then e p k out (expressions.op {t} {s} {r = c} {name} d f h) g =
    let r = expr_moved e t in
    let u = expr_moved r s in
    let v = expr_moved u c in
    row_turn {n = turn_to (reads_line r (side.Names p k out (spot.Open t.place)) ∷ []) []}
    (still_at r (side_moved (side.Names p k out spot.Want) t) p k out (spot.Open t.place) (ap (λ x. spot_if (name_spot (kind_var t.place x) (kind_mark 40 t.place x)) p k out) d))
    (row_turn {n = turn_to (reads_line u (side.Names p k out (spot.Operator t.place name)) ∷ []) []}
    (still_at u (side_moved (side.Names p k out (spot.Open t.place)) s) p k out (spot.Operator t.place name) (ap (λ o. spot_if (mapped (operator_spot t.place) o) p k out) (op_is s f)))
    (row_turn {n = turn_to (reads_line v (side.Names p k out (spot.Named (a_name t.place name))) ∷ []) []}
    (still_at v (side_moved (side.Names p k out (spot.Operator t.place name)) c) p k out (spot.Named (a_name t.place name)) (ap (λ o. spot_if (mapped (close_spot t.place name) o) p k out) (mark_is c h)))
    (g v)))

-- `,` behind a name
comma_then : (e : Option State) (p : Place) (k : ℕ) (out : Out) (n : NameAt) {t : Token} {ts vs : List Token} {ms : Out} → IsComma t → ((r : Option State) → Rows (reads_line r (side.Names (first_at k p n) (k + 1) (out ++ named n) spot.Want) ∷ []) ts ms vs) → Rows (reads_line e (side.Names p k out (spot.Named n)) ∷ []) (t ∷ ts) ms vs
comma_then e p k out n {t} d g =
    let r = expr_moved e t in
    row_turn {n = turn_to (reads_line r (side.Names (first_at k p n) (k + 1) (out ++ named n) spot.Want) ∷ []) []}
    (ap (λ x. or_line (sig_if (is_some (kind_word word.DoubleColon t.place x)) (sig_turn p k out n t)) (still_line r (side_moved (side.Names p k out (spot.Named n)) t))) d
    ∙ still_at r (side_moved (side.Names p k out (spot.Named n)) t) (first_at k p n) (k + 1) (out ++ named n) spot.Want (ap (λ o. comma_if o p k out n) (mark_is t d)))
    (g r)

-- `::` behind a name
colons_then : (e : Option State) (p : Place) (k : ℕ) (out : Out) (n : NameAt) {t : Token} {ts vs : List Token} {ms : Out} → IsWord word.DoubleColon t → Rows (frames_of sig_behind (first_at k p n) 0 t) ts ms vs → Rows (reads_line e (side.Names p k out (spot.Named n)) ∷ []) (t ∷ ts) (((out ++ named n) ++ node.Names (k + 1) ∷ []) ++ ms) vs
colons_then e p k out n {t} d h =
    row_turn {n = sig_turn p k out n t}
    (ap (λ b. or_line (sig_if b (sig_turn p k out n t)) (still_line (expr_moved e t) (side_moved (side.Names p k out (spot.Named n)) t))) (ap is_some (word_is t d))) h

-- the place of the first of the names, so many of which are read
abbrev names_at : ℕ → Place → List NameAt → Place
names_at k p [] = p
names_at k p (n ∷ ns) = first_at k p n

later_at : (k : ℕ) (p : Place) (ns : List NameAt) → names_at (k + 1) p ns ≡ p
later_at k p [] = refl
later_at k p (n ∷ ns) = ap (λ m. first_at m p n) (next_suc k)

-- the nodes of a signature whose names stand behind these
abbrev names_sig : Out → ℕ → List NameAt → Out → Place → Out
names_sig out k ns x p = ((out ++ (counted named ns).nodes) ++ node.Names (k + (counted named ns).count) ∷ []) ++ (x ++ node.Sig p ∷ [])

names_more : (out : Out) (k : ℕ) (n : NameAt) (ns : List NameAt) (x : Out) (p : Place) → names_sig (out ++ named n) (k + 1) ns x p ≡ names_sig out k (n ∷ ns) x p
names_more out k n ns x p =
    ap (λ m. (((out ++ named n) ++ (counted named ns).nodes) ++ node.Names m ∷ []) ++ (x ++ node.Sig p ∷ [])) (counts k (counted named ns).count)
    ∙ ap (λ xs. (xs ++ node.Names (k + (1 + (counted named ns).count)) ∷ []) ++ (x ++ node.Sig p ∷ [])) (append_assoc out (named n) (counted named ns).nodes)

names_row : (e : Option State) (p : Place) (k : ℕ) (out x : Out) {ts rs us vs : List Token} {ns : List NameAt} (c : Token) → ReadsNames ts ns rs → rs ≡ c ∷ us → IsWord word.DoubleColon c → ((q : Place) → Rows (frames_of sig_behind q 0 c) us (x ++ node.Sig q ∷ []) vs) → Rows (reads_line e (side.Names p k out spot.Want) ∷ []) ts (names_sig out k ns x (names_at k p ns)) vs
names_row e p k out x c (grammar.last_name {place} {name} h) i d g =
    name_then e p k out h (λ r. row_from i
    (rows_as (ap (λ m. ((out ++ named (a_name place name)) ++ node.Names m ∷ []) ++ (x ++ node.Sig (first_at k p (a_name place name)) ∷ [])) (one_more k))
    (colons_then r p k out (a_name place name) d (g (first_at k p (a_name place name))))))
names_row e p k out x c (grammar.more_names {place} {name} {names} h s j) i d g =
    let n = a_name place name in
    name_then e p k out h (λ r. comma_then r p k out n s (λ u.
    rows_as (ap (names_sig (out ++ named n) (k + 1) names x) (later_at k (first_at k p n) names) ∙ names_more out k n names x (first_at k p n))
    (names_row u (first_at k p n) (k + 1) (out ++ named n) x c j i d g)))

-- where no name is read yet
abbrev no_place : Place
no_place = record { line = 0; col = 0 }

-- what the line reads, a declaration may begin with
pub line_top : (p : Place) (n : ℕ) {ts us vs : List Token} {ms ls : Out} → Rows (reads_line (Some an_eq.start) side_start ∷ []) ts ms us → ((q : Place) → Rows (waits symbol.AfterTop q (n + 1) ∷ []) us ls vs) → Rows (waits symbol.Tops p n ∷ []) ts (ms ++ ls) vs
line_top p n (row_null e d) after = absurd (some_none e (ap (mapped (λ ns. ns ++ node.Equation ∷ [])) (none_is (an_eq.done an_eq.start) (leaf_known leaf.Equation).nothing)))
line_top p n {us} {vs} {ls} (row_turn {n = m} {ms = xs} {t} {ts} e d) after =
    let fs = frames_of (item symbol.AfterTop count.Next ∷ []) t.place n t in
    rows_as (sym (append_assoc m.nodes xs ls))
    (row_turn {n = turn_to (m.frames ++ fs) m.nodes}
    (ap (λ o. head_turn o symbol.Tops p n t) (no_head symbol.Tops t (line_first t m (line_of (Some an_eq.start) side_start t e))) ∙ ap (λ o. begun_line o fs) e)
    (subst (λ gs. Rows gs ts (xs ++ ls) vs) (sym (append_none (m.frames ++ fs))) (rows (subst (λ gs. Rows gs ts xs us) (append_none m.frames) d) (after t.place))))

pub name_first : {ts us : List Token} {p : Place} {name : Name} → ReadsName ts p name us → p ≡ first_place ts
name_first (expressions.var d) = refl
name_first (expressions.op d f h) = refl

names_first : (p : Place) {ts us : List Token} {ns : List NameAt} → ReadsNames ts ns us → names_at 0 p ns ≡ first_place ts
names_first p (grammar.last_name h) = name_first h
names_first p (grammar.more_names h s g) = name_first h

-- the names, `::` and what stands behind, where a declaration may begin
pub sig_line : (p : Place) (n : ℕ) (x : Out) {ts us vs ws : List Token} {ns : List NameAt} {ls : Out} (c : Token) → ReadsNames ts ns (c ∷ us) → IsWord word.DoubleColon c → ((q : Place) → Rows (frames_of sig_behind q 0 c) us (x ++ node.Sig q ∷ []) vs) → ((q : Place) → Rows (waits symbol.AfterTop q (n + 1) ∷ []) vs ls ws) → Rows (waits symbol.Tops p n ∷ []) ts ((((counted named ns).nodes ++ node.Names (counted named ns).count ∷ []) ++ (x ++ node.Sig (first_place ts) ∷ [])) ++ ls) ws
sig_line p n x {ts} {ns} c h d g after =
    line_top p n
    (rows_as (ap (λ m. ((counted named ns).nodes ++ node.Names m ∷ []) ++ (x ++ node.Sig (names_at 0 no_place ns) ∷ [])) (none_plus (counted named ns).count) ∙ ap (λ q. ((counted named ns).nodes ++ node.Names (counted named ns).count ∷ []) ++ (x ++ node.Sig q ∷ [])) (names_first no_place h))
    (names_row (Some an_eq.start) no_place 0 [] x c h refl d g)) after
