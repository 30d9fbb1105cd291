-- What small trees show of the definitions: node order, what hides a name, and what names mean at the top.
use Rattle.std.proofs.Common.{◌≡◌, ℕ, Bool, List, [], ◌∷◌, ◌++◌, Some, None, true, false, refl}
use Rattle.hb_base.specs.declared.name.Name.{Name}
use Rattle.hb_base.specs.declared.place.Place.{Place}
use Rattle.hb_tree.specs.Patterns as pattern
use Rattle.hb_tree.specs.Patterns.{Pat, APat, MorePats, NoPats}
use Rattle.hb_tree.specs.Expressions.{Expr, AnExpr, ExprKind, Var, Number, Apply, Run, Lambda, Let, Case, Exprs, NoExprs, MoreExprs, NoAlts, MoreAlts, Binds, NoBinds, MoreBinds, Equations, NoEquations, MoreEquations}
use Rattle.hb_tree.specs.Initials.{Each, Cell}
use Rattle.hb_tree.specs.declared.types.NameAt.{NameAt}
use Rattle.hb_tree.specs.declared.declaration.Fix.TheVariants as fix
use Rattle.hb_tree.specs.declared.declaration.Decl.{Decl}
use Rattle.hb_tree.specs.declared.declaration.Decl.TheVariants as decl
use Rattle.hb_resolved.specs.declared.resolved.Target.{Target}
use Rattle.hb_resolved.specs.declared.resolved.Target.TheVariants as target
use Rattle.hb_resolved.specs.declared.resolved.Use.{Use}
use Rattle.hb_resolved.specs.Nodes.{expr_nodes, rows_nodes}
use Rattle.hb_resolved.specs.Scopes.{Scope}
use Rattle.hb_resolved.specs.Uses.{expr_uses, init_uses, decls_uses}
use Rattle.hb_resolved.specs.Things.{primitives, variables, first_meaning, repeated, missing}
use Rattle.hb_resolved.specs.Kept.{is_settled}

-- ---- how the trees are written: each node stands at the column of its number

abbrev name : ℕ → Name
name n = record { 0 = n }

abbrev column : ℕ → Place
column n = record { line = 1; col = n }

abbrev written : ℕ → ℕ → NameAt
written col x = record { place = column col; name = name x }

abbrev e : ℕ → ExprKind → Expr
e n kind = AnExpr n (column n) kind

-- a variable, and a pattern that is one
abbrev v : ℕ → ℕ → Expr
v n x = e n (Var (name x))

abbrev p : ℕ → ℕ → Pat
p n x = APat n (column n) (pattern.Var (name x))

-- a definition of one row
abbrev row : List Pat → Expr → Binds → Equations
row ps body local = MoreEquations ps (column 0) body local NoEquations

abbrev defines : ℕ → List Pat → Expr → Binds → Binds
defines x ps body bs = MoreBinds (name x) (column 0) (row ps body NoBinds) bs

-- ---- what nodes use

abbrev uses : ℕ → ℕ → Target → Use
uses n x t = record { place = column n; name = Some (name x); target = t }

abbrev uses_none : ℕ → Use
uses_none n = record { place = column n; name = None; target = target.None }

abbrev is_variable : ℕ → Use
is_variable n = record { place = column n; name = None; target = target.Local n }

-- `infixl 6 +`, `f = g` and `g = 5`, where `f` is the name 1, `g` the name 2, and `+` the name 3
abbrev program : List Decl
program =
    decl.Fixity (column 0) fix.Left 6 (written 0 3 ∷ [])
    ∷ decl.Equation (record { name = name 1; place = column 0; rows = record { pats = []; first = column 0; body = v 0 2; local = NoBinds } ∷ [] })
    ∷ decl.Equation (record { name = name 2; place = column 1; rows = record { pats = []; first = column 1; body = e 1 (Number 5); local = NoBinds } ∷ [] })
    ∷ []

-- what the names of this program mean at its top; the constructor 0 has the name 0
abbrev scope : Scope
scope = record { variables = target.None ∷ target.Top 1 ∷ target.Top 2 ∷ target.None ∷ []; constructors = target.Con 0 ∷ [] }

-- ---- node order

-- `f (g f) g`
a_head_comes_before_its_arguments_and_parts_before_the_whole : expr_nodes (e 6 (Apply (e 4 (Apply (v 0 1) (e 3 (Apply (v 1 2) (v 2 1))))) (v 5 2))) ≡ 0 ∷ 1 ∷ 2 ∷ 3 ∷ 4 ∷ 5 ∷ 6 ∷ []
a_head_comes_before_its_arguments_and_parts_before_the_whole = refl

-- `case f of { C x -> x }`
a_pattern_comes_before_its_alternative : expr_nodes (e 4 (Case (v 0 1) (MoreAlts (APat 2 (column 2) (pattern.Con (name 0) (MorePats (p 1 3) NoPats))) (v 3 3) NoAlts))) ≡ 0 ∷ 1 ∷ 2 ∷ 3 ∷ 4 ∷ []
a_pattern_comes_before_its_alternative = refl

-- `x = x where g = 5`, with the parameter `x`
what_where_defines_comes_behind_the_expression : rows_nodes (row (p 0 3 ∷ []) (v 1 3) (defines 2 [] (e 2 (Number 5)) NoBinds)) ≡ 0 ∷ 1 ∷ 2 ∷ []
what_where_defines_comes_behind_the_expression = refl

-- ---- what hides a name

-- `(\ f -> f) f`
a_parameter_hides_its_name_in_the_body_alone : expr_uses scope (e 4 (Apply (e 2 (Lambda (p 0 1 ∷ []) (v 1 1))) (v 3 1))) ≡ is_variable 0 ∷ uses 1 1 (target.Local 0) ∷ uses_none 2 ∷ uses 3 1 (target.Top 1) ∷ uses_none 4 ∷ []
a_parameter_hides_its_name_in_the_body_alone = refl

-- `let { f = g; g = 5 } in g`
a_local_value_is_not_known_before_it_and_hides_its_name_there : expr_uses scope (e 3 (Let (defines 1 [] (v 0 2) (defines 2 [] (e 1 (Number 5)) NoBinds)) (v 2 2))) ≡ uses 0 2 target.None ∷ uses_none 1 ∷ uses 2 2 (target.Local 1) ∷ uses_none 3 ∷ []
a_local_value_is_not_known_before_it_and_hides_its_name_there = refl

-- `let { f x = g; g x = f } in f`
functions_next_to_each_other_know_one_another : expr_uses scope (e 5 (Let (defines 1 (p 0 3 ∷ []) (v 1 2) (defines 2 (p 2 3 ∷ []) (v 3 1) NoBinds)) (v 4 1))) ≡ is_variable 0 ∷ uses 1 2 (target.Local 3) ∷ is_variable 2 ∷ uses 3 1 (target.Local 1) ∷ uses 4 1 (target.Local 1) ∷ uses_none 5 ∷ []
functions_next_to_each_other_know_one_another = refl

-- `each f -> f`, where seven nodes are numbered
the_name_of_each_has_the_next_number : init_uses 7 scope (Each (column 0) (written 0 1) (Cell (column 0) (v 0 1))) ≡ uses 0 1 (target.Local 7) ∷ []
the_name_of_each_has_the_next_number = refl

-- ---- the top

a_definition_means_its_declaration : first_meaning (primitives ++ variables 0 0 program) (name 2) ≡ target.Top 2
a_definition_means_its_declaration = refl

the_first_primitive : first_meaning (primitives ++ variables 0 0 program) (name 31) ≡ target.Prim 0
the_first_primitive = refl

the_last_primitive : first_meaning (primitives ++ variables 0 0 program) (name 68) ≡ target.Prim 37
the_last_primitive = refl

the_name_of_a_fixity_is_no_definition : first_meaning (primitives ++ variables 0 0 program) (name 3) ≡ target.None
the_name_of_a_fixity_is_no_definition = refl

a_use_at_the_top_has_the_number_of_its_declaration : decls_uses 2 scope program ≡ uses 0 2 (target.Top 2) ∷ uses_none 1 ∷ []
a_use_at_the_top_has_the_number_of_its_declaration = refl

a_name_that_comes_again_is_told_where_it_does : repeated [] (written 1 1 ∷ written 2 2 ∷ written 3 1 ∷ []) ≡ written 3 1 ∷ []
a_name_that_comes_again_is_told_where_it_does = refl

a_name_without_its_other_is_missing : missing (written 1 1 ∷ []) (written 2 2 ∷ written 3 1 ∷ []) ≡ written 2 2 ∷ []
a_name_without_its_other_is_missing = refl

-- ---- what is settled

a_run_is_not_settled : is_settled (e 2 (Apply (v 0 1) (e 1 (Run (MoreExprs (v 1 1) NoExprs) NoExprs)))) ≡ false
a_run_is_not_settled = refl

an_application_is_settled : is_settled (e 2 (Apply (v 0 1) (v 1 2))) ≡ true
an_application_is_settled = refl
