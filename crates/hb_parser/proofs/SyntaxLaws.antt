-- What an exact reader of programs tells of a list of tokens: the program, or the first wrong token.
use Rattle.std.proofs.Common.{◌≡◌, Bool, true, false, List, [], ◌∷◌, ◌++◌, Option, Some, None, is_some, refl, sym, ap, subst, ◌∙◌}
use Rattle.std.proofs.lemmas.List.{append-nil, append_assoc}
use Rattle.std.specs.Prelude.{◌&&◌, not}
use Rattle.hb_base.specs.declared.place.Place.{Place}
use Rattle.hb_tokens.specs.declared.token.Token.{Token}
use Rattle.hb_tokens.specs.declared.token.TokenKind.{TokenKind}
use Rattle.hb_tokens.specs.declared.token.TokenKind.TheVariants as kind
use Rattle.hb_tokens.specs.Ends.{is_end_kind, ends_once}
use Rattle.hb_tree.specs.declared.declaration.Program.{Program}
use Rattle.hb_grammar.specs.Tokens.{IsEnd}
use Rattle.hb_grammar.specs.Declarations.{Derives}
use Rattle.hb_grammar.specs.Reading.{Reader, Runs, stop, take, Reached, after as after_token, Exact}
use Rattle.hb_grammar.proofs.FirstWrong.{LeadsTo, here, taken, leads_runs, taken_can_go_on, refused_ends}
use Rattle.hb_read_declarations.specs.declared.node.DeclNode.{DeclNode}
use Rattle.hb_read_declarations.specs.Nodes.{program_nodes}
use Rattle.hb_read_declarations.specs.Exactly.{ProgramRead, Made}
use Rattle.hb_read_declarations.proofs.Program.{derived, deriving_reads}
use Rattle.hb_parser.specs.Parsing.{CanGoOn, FirstWrong, HasNodes}

-- the reader reads the programs
abbrev pub ReadsPrograms : {S : Type 0} → Reader S (List DeclNode) → Type 0
ReadsPrograms reader = Exact reader (Made ProgramRead program_nodes)

not_nothing : {A : Type 0} (xs : List A) (y : A) (zs : List A) → [] ≡ xs ++ y ∷ zs → ⊥
not_nothing [] y zs e = cc
not_nothing (x ∷ xs) y zs e = cc

-- where the reader is whole behind all tokens, they are a program
pub whole_read : {S : Type 0} {reader : Reader S (List DeclNode)} {s : S} {ts : List Token} {nodes : List DeclNode} → ReadsPrograms reader → LeadsTo reader reader.start ts s → reader.done s ≡ Some nodes → HasNodes ts nodes
whole_read {reader} {ts} {nodes} exact l d =
    let run : Runs reader reader.start (ts ++ []) nodes [] = leads_runs l (stop d) in
    let made = exact.sound (subst (λ xs. Runs reader reader.start xs nodes []) (append-nil ts) run) in
    record { program = made.thing; derives = derived made.read; are = made.is }

derives_read : {ts : List Token} {p : Program} → Derives ts p → Made ProgramRead program_nodes ts (program_nodes p) []
derives_read {p} d = record { thing = p; read = deriving_reads d; is = refl }

-- where the reader refuses a token, that is the first wrong one
pub refused_wrong : {S : Type 0} {reader : Reader S (List DeclNode)} {s : S} {before : List Token} (t : Token) (after : List Token) → ReadsPrograms reader → LeadsTo reader reader.start before s → reader.move s t ≡ None → FirstWrong (before ++ t ∷ after) t.place
refused_wrong {reader} {before} t after exact l e =
    let live = taken_can_go_on exact l in
    record {
      before = before;
      token = t;
      after = after;
      tokens = refl;
      good = record { rest = live.0; program = live.2.thing; derives = derived live.2.read };
      wrong = λ can. no_program can (subst (λ ts. Derives ts can.program) (append_assoc before (t ∷ []) can.rest) can.derives);
      here = refl;
    }
  where
    no_program : (can : CanGoOn (before ++ t ∷ [])) → Derives (before ++ t ∷ can.rest) can.program → ⊥
    no_program can d =
        let end = refused_ends exact l e (derives_read d) in
        not_nothing end.0 t can.rest end.1

-- two runs over all the tokens say the same
same_some : {A : Type 0} {a b : A} {o : Option A} → o ≡ Some a → o ≡ Some b → a ≡ b
same_some d e = cc

runs_alone : {S V : Type 0} {reader : Reader S V} {s : S} {ts : List Token} {v w : V} → Runs reader s ts v [] → Runs reader s ts w [] → v ≡ w
runs_alone (stop d) (stop e) = same_some d e
runs_alone {S} {reader} {w} (take {ts} m h) (take n g) = let P : S → Type 0 = λ q. Runs reader q ts w [] in runs_alone h (subst P (same_some n m) g)

-- two programs of the same tokens have the same nodes
pub nodes_alone : {S : Type 0} {reader : Reader S (List DeclNode)} {ts : List Token} {p q : Program} → ReadsPrograms reader → Derives ts p → Derives ts q → program_nodes p ≡ program_nodes q
nodes_alone exact d e = runs_alone (exact.complete (derives_read d)) (exact.complete (derives_read e))

-- a list whose last token, and no other, is the end leads to a whole program
is_end : (k : TokenKind) → is_end_kind k ≡ true → k ≡ kind.End
is_end kind.End e = refl
is_end k e = cc

and_right : (a b : Bool) → (a && b) ≡ true → b ≡ true
and_right true b e = e
and_right false b e = cc

pub all_taken : {S : Type 0} {reader : Reader S (List DeclNode)} {s r : S} {ts : List Token} → ((t : Token) → IsEnd t → (s r : S) → Reached reader s → reader.move s t ≡ Some r → is_some (reader.done r) ≡ true) → Reached reader s → LeadsTo reader s ts r → ends_once ts ≡ true → is_some (reader.done r) ≡ true
all_taken ends h here e = cc
all_taken ends h (taken {s} {r} {t} m here) e = ends t (is_end t.kind e) s r h m
all_taken ends h (taken {t} m (taken {t = u} {ts} n l)) e = all_taken ends (after_token h m) (taken n l) (and_right (not (is_end_kind t.kind)) (ends_once (u ∷ ts)) e)

-- The first wrong token is one, and there is none in a program.

begins_less : (before : List Token) (rest : List Token) → CanGoOn (before ++ rest) → CanGoOn before
begins_less before rest can = record { rest = rest ++ can.rest; program = can.program; derives = subst (λ ts. Derives ts can.program) (append_assoc before rest can.rest) can.derives }

pub derives_right : {ts : List Token} {p : Program} {place : Place} → Derives ts p → FirstWrong ts place → ⊥
derives_right {p} d w = w.wrong (record { rest = w.after; program = p; derives = subst (λ ts. Derives ts p) (w.tokens ∙ sym (append_assoc w.before (w.token ∷ []) w.after)) d })

-- two ways to split a list at an item: at the same place, or one is before the other
data Splits {A : Type 0} (xs : List A) (x : A) (ys : List A) (y : A) : Type 0 where
  same_place : xs ≡ ys → x ≡ y → Splits xs x ys y
  first_before : (zs : List A) → ys ≡ xs ++ x ∷ zs → Splits xs x ys y
  second_before : (zs : List A) → xs ≡ ys ++ y ∷ zs → Splits xs x ys y

heads : {A : Type 0} {x y : A} {xs ys : List A} → x ∷ xs ≡ y ∷ ys → x ≡ y
heads e = cc

tails : {A : Type 0} {x y : A} {xs ys : List A} → x ∷ xs ≡ y ∷ ys → xs ≡ ys
tails e = cc

both_longer : {A : Type 0} {xs ys : List A} {a b : A} → a ≡ b → xs ≡ ys → a ∷ xs ≡ b ∷ ys
both_longer e d = cc

longer : {A : Type 0} {x y : A} {xs ys : List A} {a b : A} → a ≡ b → Splits xs x ys y → Splits (a ∷ xs) x (b ∷ ys) y
longer e (same_place d g) = same_place (both_longer e d) g
longer e (first_before zs d) = first_before zs (both_longer (sym e) d)
longer e (second_before zs d) = second_before zs (both_longer e d)

splits : {A : Type 0} (xs : List A) (x : A) (us : List A) (ys : List A) (y : A) (vs : List A) → xs ++ x ∷ us ≡ ys ++ y ∷ vs → Splits xs x ys y
splits [] x us [] y vs e = same_place refl (heads e)
splits [] x us (b ∷ ys) y vs e = first_before ys (ap (λ z. z ∷ ys) (sym (heads e)))
splits (a ∷ xs) x us [] y vs e = second_before xs (ap (λ z. z ∷ xs) (heads e))
splits (a ∷ xs) x us (b ∷ ys) y vs e = longer (heads e) (splits xs x us ys y vs (tails e))

not_before : (before : List Token) (t : Token) (rest : List Token) {ts : List Token} → ts ≡ before ++ t ∷ rest → CanGoOn ts → CanGoOn (before ++ t ∷ [])
not_before before t rest e can = begins_less (before ++ t ∷ []) rest (subst CanGoOn (e ∙ sym (append_assoc before (t ∷ []) rest)) can)

pub wrong_alone : {ts : List Token} {p q : Place} → FirstWrong ts p → FirstWrong ts q → p ≡ q
wrong_alone {p} {q} v w = by_splits (splits v.before v.token v.after w.before w.token w.after (sym v.tokens ∙ w.tokens))
  where
    by_splits : Splits v.before v.token w.before w.token → p ≡ q
    by_splits (same_place d e) = v.here ∙ ap (λ (t : Token). t.place) e ∙ sym w.here
    by_splits (first_before zs e) = absurd (v.wrong (not_before v.before v.token zs e w.good))
    by_splits (second_before zs e) = absurd (w.wrong (not_before w.before w.token zs e v.good))
