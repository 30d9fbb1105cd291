-- The reader of equations, and what it reads as a definition of one row.
use Rattle.std.proofs.Common.{◌≡◌, ℕ, Bool, false, List, [], ◌∷◌, refl, ap, subst, ◌∙◌}
use Rattle.hb_base.specs.declared.name.Name.{Name}
use Rattle.hb_tokens.specs.declared.token.Token.{Token}
use Rattle.hb_tree.specs.Expressions.{Binds, NoBinds, MoreBinds, Equations, NoEquations, MoreEquations, Equation}
use Rattle.hb_tree.specs.declared.statement.Bind.{Bind}
use Rattle.hb_tree.specs.ExpressionViews.{equations, binds}
use Rattle.hb_grammar.specs.Tokens.{first_place, IsSemicolon, IsCloseBrace}
use Rattle.hb_grammar.specs.Expressions as grammar
use Rattle.hb_grammar.specs.Expressions.{ReadsEquation, ReadsMoreBinds}
use Rattle.hb_read_patterns.specs.declared.reader.PatReader.{PatReader}
use Rattle.hb_read_expressions.specs.declared.node.ExprNode.{ExprNode}
use Rattle.hb_read_expressions.specs.Nodes.{put_rows}
use Rattle.hb_read_expressions.specs.Exactly.{EquationOf}
use Rattle.hb_read_expressions.specs.Moves.{equation_reader}
use Rattle.hb_read_declarations.specs.Codes.{member, not}
use Rattle.hb_read_declarations.specs.Nodes.{valued, bind_of}
use Rattle.hb_read_declarations.specs.Readers.{an_equation}
use Rattle.hb_read_declarations.proofs.Known.{Known, known_by}
use Rattle.hb_read_declarations.proofs.MappedLaws.{worth_known}
use Rattle.hb_read_declarations.specs.Exactly.{Made}
use Rattle.hb_read_declarations.proofs.Lists.{Block, no_thing, empty_thing, last_in, more_in}

-- what an equation begins with: names, `_`, numbers, bits and `(`
abbrev pub equation_codes : List ℕ
equation_codes = 0 ∷ 1 ∷ 2 ∷ 4 ∷ 5 ∷ 100 ∷ []

-- what goes on with a whole one: names, numbers, bits, operators, a dot, `(`, `[`, a backquote and `where`
abbrev pub going_codes : List ℕ
going_codes = 0 ∷ 2 ∷ 3 ∷ 4 ∷ 5 ∷ 6 ∷ 20 ∷ 100 ∷ 151 ∷ 156 ∷ []

-- `::` and the end stand in no equation
abbrev pub outside_codes : List ℕ
outside_codes = 43 ∷ 7 ∷ []

abbrev pub inside : ℕ → Bool
inside c = not (member c outside_codes)

-- what is to be known of the reader of equations
abbrev pub EquationKnown : PatReader → Type 0
EquationKnown pats = Known (equation_reader pats) EquationOf false equation_codes (λ c. member c going_codes) inside

-- a definition of one row, at its first token
pub data EquationRead : List Token → Bind → List Token → Type 0 where
  equation_read : {ts us : List Token} {name : Name} {row : Equation} → ReadsEquation ts name (equations (row ∷ [])) us →
      EquationRead ts (record { name = name; place = first_place ts; rows = row ∷ [] }) us

abbrev bind_nodes : Bind → List ExprNode
bind_nodes b = put_rows b.name b.place (equations b.rows) []

row_made : {ts us : List Token} {v : List ExprNode} (name : Name) {row : Equations} → v ≡ put_rows name (first_place ts) row [] → ReadsEquation ts name row us → Made EquationRead bind_nodes ts v us
row_made {ts} name e (grammar.plain {us} {ps} {e = x} d f h) =
    let row : Equation = record { pats = ps; first = first_place us; body = x; local = NoBinds } in
    record { thing = record { name = name; place = first_place ts; rows = row ∷ [] }; read = equation_read (grammar.plain d f h); is = e }
row_made {ts} name e (grammar.with_where {us} {ps} {e = x} {bs} d f h g k) =
    let row : Equation = record { pats = ps; first = first_place us; body = x; local = bs } in
    record { thing = record { name = name; place = first_place ts; rows = row ∷ [] }; read = equation_read (grammar.with_where d f h g k); is = e }

pub equation_made : {ts us : List Token} {v : List ExprNode} → EquationOf ts v us → Made EquationRead bind_nodes ts v us
equation_made h = row_made h.name h.is h.reads

made_of : {ts us : List Token} {v : List ExprNode} {b : Bind} → v ≡ bind_nodes b → EquationRead ts b us → EquationOf ts v us
made_of e (equation_read {name} {row} h) = record { name = name; row = equations (row ∷ []); reads = h; is = e }

pub made_equation : {ts us : List Token} {v : List ExprNode} → Made EquationRead bind_nodes ts v us → EquationOf ts v us
made_equation m = made_of m.is m.read

pub an_equation_known : (pats : PatReader) → EquationKnown pats →
    Known (an_equation pats) (Made EquationRead bind_of) false equation_codes (λ c. member c going_codes) inside
an_equation_known pats k =
    worth_known bind_nodes valued (known_by (λ ts v us h. equation_made h) (λ ts v us h. made_equation h) k)

-- blocks of equations

last_row : (t : Token) {ts us : List Token} {b : Bind} → EquationRead ts b (t ∷ us) → IsCloseBrace t → ReadsMoreBinds ts (binds (b ∷ [])) us
last_row t (equation_read h) e = grammar.last_bind h e

more_rows : (t : Token) (bs : List Bind) {ts us vs : List Token} {b : Bind} → EquationRead ts b (t ∷ us) → IsSemicolon t → ReadsMoreBinds us (binds bs) vs → ReadsMoreBinds ts (binds (b ∷ bs)) vs
more_rows t bs (equation_read h) s g = grammar.more_binds h s g

pub binds_from : {ts us : List Token} {bs : List Bind} → Block EquationRead ts bs us → ReadsMoreBinds ts (binds bs) us
binds_from (no_thing e) = grammar.no_bind e
binds_from (empty_thing s h) = grammar.empty_bind s (binds_from h)
binds_from (last_in {t} h e) = last_row t h e
binds_from (more_in {t} {xs} h s g) = more_rows t xs h s (binds_from g)

abbrev rows_list : Equations → List Equation
rows_list NoEquations = []
rows_list (MoreEquations ps first e bs rows) = record { pats = ps; first = first; body = e; local = bs } ∷ rows_list rows

abbrev binds_list : Binds → List Bind
binds_list NoBinds = []
binds_list (MoreBinds name place rows bs) = record { name = name; place = place; rows = rows_list rows } ∷ binds_list bs

rows_again : (rows : List Equation) → rows_list (equations rows) ≡ rows
rows_again [] = refl
rows_again (r ∷ rows) = ap (λ rest. r ∷ rest) (rows_again rows)

binds_again : (bs : List Bind) → binds_list (binds bs) ≡ bs
binds_again [] = refl
binds_again (b ∷ bs) = ap (λ rows. let c : Bind = record { name = b.name; place = b.place; rows = rows } in c ∷ binds_list (binds bs)) (rows_again b.rows) ∙ ap (λ rest. b ∷ rest) (binds_again bs)

equation_back : {ts us : List Token} {name : Name} {row : Equations} → ReadsEquation ts name row us → EquationRead ts (record { name = name; place = first_place ts; rows = rows_list row }) us
equation_back (grammar.plain d f h) = equation_read (grammar.plain d f h)
equation_back (grammar.with_where d f h g k) = equation_read (grammar.with_where d f h g k)

binds_back_of : {ts us : List Token} {bs : Binds} → ReadsMoreBinds ts bs us → Block EquationRead ts (binds_list bs) us
binds_back_of (grammar.no_bind e) = no_thing e
binds_back_of (grammar.empty_bind s h) = empty_thing s (binds_back_of h)
binds_back_of (grammar.last_bind h e) = last_in (equation_back h) e
binds_back_of (grammar.more_binds h s g) = more_in (equation_back h) s (binds_back_of g)

pub binds_back : {ts us : List Token} (bs : List Bind) → ReadsMoreBinds ts (binds bs) us → Block EquationRead ts bs us
binds_back {ts} {us} bs h = let P : List Bind → Type 0 = λ bs. Block EquationRead ts bs us in subst P (binds_again bs) (binds_back_of h)
