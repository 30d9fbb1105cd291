-- The nodes of an initialiser put that initialiser on its stack.
use Rattle.std.proofs.Common.{◌≡◌, ◌+◌, refl, ap, ◌∙◌, List, [], ◌∷◌, ◌++◌, length, Option, Some, None, arith}
use mathlib.Core.List.{reverse_aux}
use Rattle.hb_tree.specs.declared.initial.FieldInit.{FieldInit}
use Rattle.hb_tree.specs.Initials.{InitExpr, Each, Fields, Cell, FieldInits, NoFieldInits, MoreFieldInits}
use Rattle.hb_tree.specs.Lists.{field_init_list}
use Rattle.hb_tree.proofs.ListLaws.{field_inits-list}
use Rattle.hb_read_expressions.specs.Nodes.{expr_nodes}
use Rattle.hb_read_declarations.specs.declared.node.DeclNode.TheVariants as node
use Rattle.hb_read_declarations.specs.Nodes.{valued, named, fields_count, init_nodes, field_init_nodes, start_of}
use Rattle.hb_build.proofs.BuildingLaws.{then, both}
use Rattle.hb_build_expressions.specs.ExpressionSteps.{with_exprs as with_expr_list}
use Rattle.hb_build_expressions.specs.Taking.{off}
use Rattle.hb_build_expressions.proofs.ExpressionsFound.{expr_found}
use Rattle.hb_build_program.specs.declared.parts.Starts.{Starts}
use Rattle.hb_build_program.specs.declared.builder.DeclBuilder.{DeclBuilder}
use Rattle.hb_build_program.specs.States.{starts, state}
use Rattle.hb_build_program.specs.DeclarationSteps.{in_exprs, of_init_fields, stepped}
use Rattle.hb_build_program.specs.ParsedProgram.{IsParsedInit, AreParsedInits, IsParsedStart}
use Rattle.hb_build_program.proofs.Counted.{Leads, all_of_them_off}
use Rattle.hb_build_program.proofs.PartsFound.{with_exprs, name_on, all_valued}

abbrev with_starts : DeclBuilder → Starts → DeclBuilder
with_starts s starts = state s.types s.exprs s.heads s.members starts s.decls s.whole

-- one initialiser more
abbrev init_on : DeclBuilder → InitExpr → DeclBuilder
init_on s i = with_starts s (starts (i ∷ s.starts.inits) s.starts.fields s.starts.given)

-- these fields more, the last one on top
abbrev fields_on : DeclBuilder → List FieldInit → DeclBuilder
fields_on s fs = with_starts s (starts s.starts.inits (reverse_aux fs s.starts.fields) s.starts.given)

length_more : {A : Type 0} (x : A) (xs : List A) → 1 + length xs ≡ length (x ∷ xs)
length_more x xs = omega arith

count_is : (fs : FieldInits) → fields_count fs ≡ length (field_init_list fs)
count_is NoFieldInits = refl
count_is (MoreFieldInits name i fs) = ap (λ n. 1 + n) (count_is fs) ∙ length_more (record { name = name; init = i }) (field_init_list fs)

fields_off : (fs : FieldInits) (stack : List FieldInit) → off (fields_count fs) (reverse_aux (field_init_list fs) stack) [] ≡ Some (field_init_list fs, stack)
fields_off fs stack = ap (λ n. off n (reverse_aux (field_init_list fs) stack) []) (count_is fs) ∙ all_of_them_off (field_init_list fs) stack

mutual
  init_in : (s : DeclBuilder) (i : InitExpr) → IsParsedInit i → Leads s (init_nodes i) (init_on s i)
  init_in s (Each place name i) u =
      let s1 : DeclBuilder = name_on s name in
      both stepped s s1 (init_on s (Each place name i)) (named name) (init_nodes i ++ node.InitEach place ∷ []) refl
      (then stepped s1 (init_on s1 i) (init_nodes i) (node.InitEach place) (init_in s1 i u))
  init_in s (Fields place fs) u =
      let s1 : DeclBuilder = fields_on s (field_init_list fs) in
      then stepped s s1 (field_init_nodes fs) (node.InitFields place (fields_count fs)) (fields_in s fs u)
      ∙ ap (of_init_fields s1 place) (fields_off fs s.starts.fields)
      ∙ ap (λ l. Some (init_on s (Fields place l))) (field_inits-list fs)
  init_in s (Cell place e) u =
      let s1 : DeclBuilder = with_exprs s (with_expr_list s.exprs (e ∷ s.exprs.exprs)) in
      then stepped s s1 (valued (expr_nodes e)) (node.InitCell place)
      (all_valued s (Some s.exprs) (expr_nodes e) ∙ ap (in_exprs s) (expr_found s.exprs [] s.exprs e u refl))

  fields_in : (s : DeclBuilder) (fs : FieldInits) → AreParsedInits fs → Leads s (field_init_nodes fs) (fields_on s (field_init_list fs))
  fields_in s NoFieldInits u = refl
  fields_in s (MoreFieldInits name i fs) u =
      let s1 : DeclBuilder = name_on s name in
      let s2 : DeclBuilder = fields_on s (record { name = name; init = i } ∷ []) in
      both stepped s s2 (fields_on s (field_init_list (MoreFieldInits name i fs))) (named name ++ (init_nodes i ++ node.InitField ∷ [])) (field_init_nodes fs)
      (both stepped s s1 s2 (named name) (init_nodes i ++ node.InitField ∷ []) refl (then stepped s1 (init_on s1 i) (init_nodes i) node.InitField (init_in s1 i u.0)))
      (fields_in s2 fs u.1)

-- what an area begins with
abbrev pub start_on : DeclBuilder → Option InitExpr → DeclBuilder
start_on s init = with_starts s (starts s.starts.inits s.starts.fields (init ∷ s.starts.given))

pub start_in : (s : DeclBuilder) (init : Option InitExpr) → IsParsedStart init → Leads s (start_of init) (start_on s init)
start_in s None u = refl
start_in s (Some i) u = then stepped s (init_on s i) (init_nodes i) node.Init (init_in s i u)
