-- How a node of a program changes what is built so far. Each node takes its parts off the stacks and puts the whole on.
-- Where the parts are not there, no program has such nodes.
use Rattle.std.specs.Prelude.{ℕ, List, [], ◌∷◌, length, reverse, Option, Some, None, nat_eq, if◌then◌else◌}
use Rattle.hb_base.specs.declared.place.Place.{Place}
use Rattle.hb_base.specs.declared.port.Dir.{Dir}
use Rattle.hb_tree.specs.declared.types.NameAt.{NameAt}
use Rattle.hb_tree.specs.declared.types.PredExpr.{PredExpr}
use Rattle.hb_tree.specs.declared.types.Sig.{Sig}
use Rattle.hb_tree.specs.declared.declaration.BitPart.{BitPart}
use Rattle.hb_tree.specs.declared.declaration.Decl.TheVariants as decl
use Rattle.hb_tree.specs.declared.declaration.Fix.{Fix}
use Rattle.hb_tree.specs.declared.initial.FieldInit.{FieldInit}
use Rattle.hb_tree.specs.declared.statement.Bind.{Bind}
use Rattle.hb_tree.specs.Types.{TypeExpr}
use Rattle.hb_tree.specs.Expressions.{Expr}
use Rattle.hb_tree.specs.Initials.{InitExpr, Each, Fields, Cell}
use Rattle.hb_tree.specs.InitialViews.{field_inits}
use Rattle.hb_read_declarations.specs.declared.node.DeclNode.{DeclNode}
use Rattle.hb_read_declarations.specs.declared.node.DeclNode.TheVariants as node
use Rattle.hb_build.specs.declared.type_builder.TypeBuilder.{TypeBuilder}
use Rattle.hb_build.specs.TypeSteps.{state as types_of, stepped as type_stepped}
use Rattle.hb_build_expressions.specs.declared.builder.ExprBuilder.{ExprBuilder}
use Rattle.hb_build_expressions.specs.ExpressionSteps.{state as exprs_of, with_exprs, stepped as expr_stepped}
use Rattle.hb_build_expressions.specs.Taking.{off, two_off}
use Rattle.hb_build_program.specs.declared.parts.Heads.{Heads}
use Rattle.hb_build_program.specs.declared.parts.Members.{Members}
use Rattle.hb_build_program.specs.declared.parts.Starts.{Starts}
use Rattle.hb_build_program.specs.declared.builder.DeclBuilder.{DeclBuilder}
use Rattle.hb_build_program.specs.States.{heads, members, starts, state}
use Rattle.hb_build_program.specs.MemberSteps.{with_name, of_names, with_number, with_names, with_lists, with_sig, with_con, with_fields, with_depend, with_tag, of_bit_fields, with_bit_con, with_pad, of_struct_fields}

abbrev pub in_types : DeclBuilder → Option TypeBuilder → Option DeclBuilder
in_types s None = None
in_types s (Some types) = Some (state types s.exprs s.heads s.members s.starts s.decls s.whole)

abbrev pub in_exprs : DeclBuilder → Option ExprBuilder → Option DeclBuilder
in_exprs s None = None
in_exprs s (Some exprs) = Some (state s.types exprs s.heads s.members s.starts s.decls s.whole)

abbrev pub in_heads : DeclBuilder → Option Heads → Option DeclBuilder
in_heads s None = None
in_heads s (Some heads) = Some (state s.types s.exprs heads s.members s.starts s.decls s.whole)

abbrev pub in_members : DeclBuilder → Option Members → Option DeclBuilder
in_members s None = None
in_members s (Some members) = Some (state s.types s.exprs s.heads members s.starts s.decls s.whole)

abbrev pub in_starts : DeclBuilder → Starts → Option DeclBuilder
in_starts s starts = Some (state s.types s.exprs s.heads s.members starts s.decls s.whole)

-- a count is the one that is built
abbrev pub checked : DeclBuilder → ℕ → ℕ → Option DeclBuilder
checked s count here = if nat_eq count here then Some s else None

-- so many types, and no other, become a list
abbrev pub of_types : DeclBuilder → ℕ → TypeBuilder → Heads → Option DeclBuilder
of_types s count t h = if nat_eq count (length t.types) then Some (state (types_of t.context t.preds []) s.exprs (heads h.names h.lists h.numbers (reverse t.types ∷ h.types) h.supers) s.members s.starts s.decls s.whole) else None

-- a signature behind the head of a class is one of its methods; any other is a declaration
abbrev pub with_method : DeclBuilder → Option (List PredExpr) → Sig → Option DeclBuilder
with_method s None sig = Some (state s.types s.exprs s.heads s.members s.starts (decl.Sig sig ∷ s.decls) s.whole)
with_method s (Some supers) sig = in_members s (Some (with_sig s.members sig))

-- the last list of names, the context and the last type become a signature
abbrev pub of_sig : DeclBuilder → Place → List (List NameAt) → Option (List PredExpr) → List TypeExpr → Option DeclBuilder
of_sig s place (names ∷ lists) (Some context) (a ∷ types) = with_method (state (types_of None s.types.preds types) s.exprs (with_lists s.heads lists) s.members s.starts s.decls s.whole) s.heads.supers (record { place = place; names = names; context = context; body = a })
of_sig s place _ _ _ = None

-- the last name and the last list of types become a constructor
abbrev pub of_data_con : DeclBuilder → Heads → List NameAt → List (List TypeExpr) → Option DeclBuilder
of_data_con s h (name ∷ names) (args ∷ types) = Some (state s.types s.exprs (heads names h.lists h.numbers types h.supers) (with_con s.members (record { name = name; args = args })) s.starts s.decls s.whole)
of_data_con s h _ _ = None

-- the last list of names and the last type become fields
abbrev pub of_fields : DeclBuilder → List (List NameAt) → List TypeExpr → Option DeclBuilder
of_fields s (names ∷ lists) (a ∷ types) = Some (state (types_of s.types.context s.types.preds types) s.exprs (with_lists s.heads lists) (with_fields s.members (record { names = names; of = a })) s.starts s.decls s.whole)
of_fields s _ _ = None

-- the last name and the last parts become a bitdata constructor
abbrev pub of_bit_con : DeclBuilder → List NameAt → Option (List BitPart × List BitPart) → Option DeclBuilder
of_bit_con s (name ∷ names) (Some parts) = Some (state s.types s.exprs (with_names s.heads names) (with_bit_con s.members name parts) s.starts s.decls s.whole)
of_bit_con s _ _ = None

-- the last two lists of names become a dependency
abbrev pub of_depend : DeclBuilder → Option ((List NameAt × List NameAt) × List (List NameAt)) → Option DeclBuilder
of_depend s None = None
of_depend s (Some two) = Some (state s.types s.exprs (with_lists s.heads two.1) (with_depend s.members (record { from = two.0.0; to = two.0.1 })) s.starts s.decls s.whole)

-- the dependencies end the head of a class: the context before it makes room for those of its signatures
abbrev pub of_depends : DeclBuilder → ℕ → TypeBuilder → Heads → Option DeclBuilder
of_depends s count t h = if nat_eq count (length s.members.depends) then Some (state (types_of None t.preds t.types) s.exprs (heads h.names h.lists h.numbers h.types t.context) s.members s.starts s.decls s.whole) else None

-- the last initialiser becomes that of each element, by the last name
abbrev pub of_each : DeclBuilder → Place → List NameAt → List InitExpr → Option DeclBuilder
of_each s place (name ∷ names) (i ∷ inits) = Some (state s.types s.exprs (with_names s.heads names) s.members (starts (Each place name i ∷ inits) s.starts.fields s.starts.given) s.decls s.whole)
of_each s place _ _ = None

-- the last initialiser becomes that of a field, by the last name
abbrev pub of_field : DeclBuilder → List NameAt → List InitExpr → Option DeclBuilder
of_field s (name ∷ names) (i ∷ inits) = Some (state s.types s.exprs (with_names s.heads names) s.members (starts inits (record { name = name; init = i } ∷ s.starts.fields) s.starts.given) s.decls s.whole)
of_field s _ _ = None

-- the last fields become an initialiser
abbrev pub of_init_fields : DeclBuilder → Place → Option (List FieldInit × List FieldInit) → Option DeclBuilder
of_init_fields s place None = None
of_init_fields s place (Some fields) = in_starts s (starts (Fields place (field_inits fields.0) ∷ s.starts.inits) fields.1 s.starts.given)

-- the last expression becomes an initialiser
abbrev pub of_cell : DeclBuilder → Place → List Expr → Option DeclBuilder
of_cell s place (e ∷ rest) = Some (state s.types (with_exprs s.exprs rest) s.heads s.members (starts (Cell place e ∷ s.starts.inits) s.starts.fields s.starts.given) s.decls s.whole)
of_cell s place [] = None

-- the last initialiser is that of an area
abbrev pub of_init : DeclBuilder → List InitExpr → Option DeclBuilder
of_init s (i ∷ inits) = in_starts s (starts inits s.starts.fields (Some i ∷ s.starts.given))
of_init s [] = None

-- definitions on their stack
abbrev pub with_binds : ExprBuilder → List Bind → ExprBuilder
with_binds e binds = exprs_of e.pats.parts e.exprs e.fields e.alts e.stmts binds

-- the last definition is a declaration
abbrev pub of_equation : DeclBuilder → List Bind → Option DeclBuilder
of_equation s (b ∷ binds) = Some (state s.types (with_binds s.exprs binds) s.heads s.members s.starts (decl.Equation b ∷ s.decls) s.whole)
of_equation s [] = None

abbrev pub of_fixity : DeclBuilder → Place → Fix → ℕ → List (List NameAt) → Option DeclBuilder
of_fixity s place fix k (names ∷ lists) = Some (state s.types s.exprs (with_lists s.heads lists) s.members s.starts (decl.Fixity place fix k names ∷ s.decls) s.whole)
of_fixity s place fix k [] = None

-- all constructors become a data type
abbrev pub of_data : DeclBuilder → Place → Heads → Members → List NameAt → List (List NameAt) → Option DeclBuilder
of_data s place h m (name ∷ names) (params ∷ lists) = Some (state s.types s.exprs (heads names lists h.numbers h.types h.supers) (members m.sigs [] m.fields m.bit_parts m.bit_cons m.struct_parts m.depends) s.starts (decl.Data place name params (reverse m.cons) ∷ s.decls) s.whole)
of_data s place h m _ _ = None

-- all constructors become a bitdata type
abbrev pub of_bitdata : DeclBuilder → Place → Heads → Members → List NameAt → List (Option ℕ) → Option DeclBuilder
of_bitdata s place h m (name ∷ names) (width ∷ numbers) = Some (state s.types s.exprs (heads names h.lists numbers h.types h.supers) (members m.sigs m.cons m.fields m.bit_parts [] m.struct_parts m.depends) s.starts (decl.Bitdata place name width (reverse m.bit_cons) ∷ s.decls) s.whole)
of_bitdata s place h m _ _ = None

-- all parts become a struct
abbrev pub of_struct : DeclBuilder → Place → Heads → Members → List NameAt → List (Option ℕ) → Option DeclBuilder
of_struct s place h m (name ∷ names) (bytes ∷ numbers) = Some (state s.types s.exprs (heads names h.lists numbers h.types h.supers) (members m.sigs m.cons m.fields m.bit_parts m.bit_cons [] m.depends) s.starts (decl.Struct place name bytes (reverse m.struct_parts) ∷ s.decls) s.whole)
of_struct s place h m _ _ = None

-- the last initialiser and the last number become an area with this name and type
abbrev pub area_of : DeclBuilder → Place → NameAt → TypeExpr → Heads → List (Option InitExpr) → List (Option ℕ) → Option DeclBuilder
area_of s place name a h (init ∷ given) (align ∷ numbers) = Some (state s.types s.exprs (heads h.names h.lists numbers h.types h.supers) s.members (starts s.starts.inits s.starts.fields given) (decl.Area place name init a align ∷ s.decls) s.whole)
area_of s place name a h _ _ = None

-- the last name and type, initialiser and number become an area
abbrev pub of_area : DeclBuilder → Place → List NameAt → List TypeExpr → Option DeclBuilder
of_area s place (name ∷ names) (a ∷ types) = area_of (state (types_of s.types.context s.types.preds types) s.exprs (with_names s.heads names) s.members s.starts s.decls s.whole) place name a (with_names s.heads names) s.starts.given s.heads.numbers
of_area s place _ _ = None

-- the last name and type become a port
abbrev pub of_port : DeclBuilder → Place → Dir → ℕ → ℕ → List NameAt → List TypeExpr → Option DeclBuilder
of_port s place dir width k (name ∷ names) (a ∷ types) = Some (state (types_of s.types.context s.types.preds types) s.exprs (with_names s.heads names) s.members s.starts (decl.Port place name dir a width k ∷ s.decls) s.whole)
of_port s place dir width k _ _ = None

-- all dependencies and all signatures become a class
abbrev pub of_class : DeclBuilder → Place → Heads → Members → Option (List PredExpr) → List NameAt → List (List NameAt) → Option DeclBuilder
of_class s place h m (Some context) (name ∷ names) (params ∷ lists) = Some (state s.types s.exprs (heads names lists h.numbers h.types None) (members [] m.cons m.fields m.bit_parts m.bit_cons m.struct_parts []) s.starts (decl.Class place context name params (reverse m.depends) (reverse m.sigs) ∷ s.decls) s.whole)
of_class s place h m _ _ _ = None

-- the last list of types, the context and all definitions become an instance
abbrev pub of_instance : DeclBuilder → Place → Heads → Option (List PredExpr) → List NameAt → List (List TypeExpr) → Option DeclBuilder
of_instance s place h (Some context) (name ∷ names) (args ∷ types) = Some (state (types_of None s.types.preds s.types.types) (with_binds s.exprs []) (heads names h.lists h.numbers types h.supers) s.members s.starts (decl.Instance place name args context (reverse s.exprs.binds) ∷ s.decls) s.whole)
of_instance s place h _ _ _ = None

-- so many declarations, and no other, are a program
abbrev pub of_program : DeclBuilder → ℕ → Option DeclBuilder
of_program s count = if nat_eq count (length s.decls) then Some (state s.types s.exprs s.heads s.members s.starts [] (Some (record { decls = reverse s.decls }))) else None

abbrev pub stepped : DeclBuilder → DeclNode → Option DeclBuilder
stepped s (node.Type n) = in_types s (type_stepped s.types n)
stepped s (node.Expr n) = in_exprs s (expr_stepped s.exprs n)
stepped s (node.Name place name) = in_heads s (Some (with_name s.heads place name))
stepped s (node.Names count) = in_heads s (of_names s.heads (off count s.heads.names []))
stepped s (node.Types count) = of_types s count s.types s.heads
stepped s node.NoNumber = in_heads s (Some (with_number s.heads None))
stepped s (node.Number k) = in_heads s (Some (with_number s.heads (Some k)))
stepped s (node.Sig place) = of_sig s place s.heads.lists s.types.context s.types.types
stepped s (node.Sigs count) = checked s count (length s.members.sigs)
stepped s node.Equation = of_equation s s.exprs.binds
stepped s (node.Equations count) = checked s count (length s.exprs.binds)
stepped s (node.Fixity place fix k) = of_fixity s place fix k s.heads.lists
stepped s node.DataCon = of_data_con s s.heads s.heads.names s.heads.types
stepped s (node.DataCons count) = checked s count (length s.members.cons)
stepped s node.Fields = of_fields s s.heads.lists s.types.types
stepped s (node.Tag width k) = in_members s (Some (with_tag s.members width k))
stepped s node.BitFields = in_members s (of_bit_fields s.members s.members.fields)
stepped s (node.BitCon count) = of_bit_con s s.heads.names (off count s.members.bit_parts [])
stepped s (node.BitCons count) = checked s count (length s.members.bit_cons)
stepped s (node.Pad k) = in_members s (Some (with_pad s.members k))
stepped s node.StructFields = in_members s (of_struct_fields s.members s.members.fields)
stepped s (node.StructParts count) = checked s count (length s.members.struct_parts)
stepped s node.Depend = of_depend s (two_off s.heads.lists)
stepped s (node.Depends count) = of_depends s count s.types s.heads
stepped s (node.InitEach place) = of_each s place s.heads.names s.starts.inits
stepped s node.InitField = of_field s s.heads.names s.starts.inits
stepped s (node.InitFields place count) = of_init_fields s place (off count s.starts.fields [])
stepped s (node.InitCell place) = of_cell s place s.exprs.exprs
stepped s node.NoInit = in_starts s (starts s.starts.inits s.starts.fields (None ∷ s.starts.given))
stepped s node.Init = of_init s s.starts.inits
stepped s (node.Data place) = of_data s place s.heads s.members s.heads.names s.heads.lists
stepped s (node.Bitdata place) = of_bitdata s place s.heads s.members s.heads.names s.heads.numbers
stepped s (node.Struct place) = of_struct s place s.heads s.members s.heads.names s.heads.numbers
stepped s (node.Area place) = of_area s place s.heads.names s.types.types
stepped s (node.Port place dir width k) = of_port s place dir width k s.heads.names s.types.types
stepped s (node.Class place) = of_class s place s.heads s.members s.heads.supers s.heads.names s.heads.lists
stepped s (node.Instance place) = of_instance s place s.heads s.types.context s.heads.names s.heads.types
stepped s (node.Program count) = of_program s count
