-- What is built so far of a program: the parts of types and of expressions, the small parts of declarations, the members of
-- types and classes, and the initialisers, each kind on a stack of its own, whose top is the first of its list.
use Rattle.std.specs.Prelude.{ℕ, List, [], Option, None}
use Rattle.hb_tree.specs.declared.types.NameAt.{NameAt}
use Rattle.hb_tree.specs.declared.types.PredExpr.{PredExpr}
use Rattle.hb_tree.specs.declared.types.Sig.{Sig}
use Rattle.hb_tree.specs.declared.declaration.FieldDecl.{FieldDecl}
use Rattle.hb_tree.specs.declared.declaration.DataCon.{DataCon}
use Rattle.hb_tree.specs.declared.declaration.BitPart.{BitPart}
use Rattle.hb_tree.specs.declared.declaration.BitCon.{BitCon}
use Rattle.hb_tree.specs.declared.declaration.StructPart.{StructPart}
use Rattle.hb_tree.specs.declared.declaration.Depend.{Depend}
use Rattle.hb_tree.specs.declared.declaration.Decl.{Decl}
use Rattle.hb_tree.specs.declared.declaration.Program.{Program}
use Rattle.hb_tree.specs.declared.initial.FieldInit.{FieldInit}
use Rattle.hb_tree.specs.Types.{TypeExpr}
use Rattle.hb_tree.specs.Initials.{InitExpr}
use Rattle.hb_build.specs.declared.type_builder.TypeBuilder.{TypeBuilder}
use Rattle.hb_build.specs.TypeSteps.{start as no_types}
use Rattle.hb_build_expressions.specs.declared.builder.ExprBuilder.{ExprBuilder}
use Rattle.hb_build_expressions.specs.ExpressionSteps.{start as no_exprs}
use Rattle.hb_build_program.specs.declared.parts.Heads.{Heads}
use Rattle.hb_build_program.specs.declared.parts.Members.{Members}
use Rattle.hb_build_program.specs.declared.parts.Starts.{Starts}
use Rattle.hb_build_program.specs.declared.builder.DeclBuilder.{DeclBuilder}

-- names, lists of names, numbers, lists of types, and the context of a class
abbrev pub heads : List NameAt → List (List NameAt) → List (Option ℕ) → List (List TypeExpr) → Option (List PredExpr) → Heads
heads names lists numbers types supers = record { names = names; lists = lists; numbers = numbers; types = types; supers = supers }

abbrev pub members : List Sig → List DataCon → List FieldDecl → List BitPart → List BitCon → List StructPart → List Depend → Members
members sigs cons fields bit_parts bit_cons struct_parts depends = record { sigs = sigs; cons = cons; fields = fields; bit_parts = bit_parts; bit_cons = bit_cons; struct_parts = struct_parts; depends = depends }

abbrev pub starts : List InitExpr → List FieldInit → List (Option InitExpr) → Starts
starts inits fields given = record { inits = inits; fields = fields; given = given }

abbrev pub state : TypeBuilder → ExprBuilder → Heads → Members → Starts → List Decl → Option Program → DeclBuilder
state types exprs heads members starts decls whole = record { types = types; exprs = exprs; heads = heads; members = members; starts = starts; decls = decls; whole = whole }

abbrev pub no_heads : Heads
no_heads = heads [] [] [] [] None

abbrev pub no_members : Members
no_members = members [] [] [] [] [] [] []

abbrev pub no_starts : Starts
no_starts = starts [] [] []

-- these declarations, and nothing else
abbrev pub between : List Decl → DeclBuilder
between decls = state no_types no_exprs no_heads no_members no_starts decls None

abbrev pub start : DeclBuilder
start = between []
