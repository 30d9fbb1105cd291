-- The nodes of a declaration and of a program: the nodes of the parts in their order, then the form itself.
use Rattle.std.specs.Prelude.{ℕ, ◌+◌, List, [], ◌∷◌, ◌++◌, Option, Some, None}
use Rattle.hb_tree.specs.declared.types.NameAt.{NameAt}
use Rattle.hb_tree.specs.declared.types.PredExpr.{PredExpr}
use Rattle.hb_tree.specs.declared.types.Sig.{Sig}
use Rattle.hb_tree.specs.declared.declaration.FieldDecl.{FieldDecl}
use Rattle.hb_tree.specs.declared.declaration.DataCon.{DataCon}
use Rattle.hb_tree.specs.declared.declaration.BitPart.{BitPart}
use Rattle.hb_tree.specs.declared.declaration.BitPart.TheVariants as bit_part
use Rattle.hb_tree.specs.declared.declaration.BitCon.{BitCon}
use Rattle.hb_tree.specs.declared.declaration.StructPart.{StructPart}
use Rattle.hb_tree.specs.declared.declaration.StructPart.TheVariants as struct_part
use Rattle.hb_tree.specs.declared.declaration.Depend.{Depend}
use Rattle.hb_tree.specs.declared.declaration.Decl.{Decl}
use Rattle.hb_tree.specs.declared.declaration.Decl.TheVariants as decl
use Rattle.hb_tree.specs.declared.declaration.Program.{Program}
use Rattle.hb_tree.specs.declared.statement.Bind.{Bind}
use Rattle.hb_tree.specs.ExpressionViews.{equations}
use Rattle.hb_tree.specs.Types.{TypeExpr}
use Rattle.hb_tree.specs.Initials.{InitExpr, Each, Fields, Cell, FieldInits, NoFieldInits, MoreFieldInits}
use Rattle.hb_read_types.specs.declared.node.TypeNode.{TypeNode}
use Rattle.hb_read_types.specs.declared.node.TypeNode.TheVariants as type_node
use Rattle.hb_read_types.specs.Nodes.{type_nodes, pred_nodes, context_nodes}
use Rattle.hb_read_expressions.specs.declared.node.ExprNode.{ExprNode}
use Rattle.hb_read_expressions.specs.Nodes.{expr_nodes, put_rows}
use Rattle.hb_read_declarations.specs.declared.node.DeclNode.{DeclNode}
use Rattle.hb_read_declarations.specs.declared.node.DeclNode.TheVariants as node

-- so many things, and the nodes of them all
pub record Counted : Type 0 where
  pub count : ℕ
  pub nodes : List DeclNode

abbrev pub counted_as : ℕ → List DeclNode → Counted
counted_as count nodes = record { count = count; nodes = nodes }

abbrev pub no_things : Counted
no_things = counted_as 0 []

abbrev pub one_thing : List DeclNode → Counted
one_thing nodes = counted_as 1 nodes

abbrev pub plus : Counted → Counted → Counted
plus a b = counted_as (a.count + b.count) (a.nodes ++ b.nodes)

-- the things of a list
abbrev pub counted : {A : Type 0} → (A → List DeclNode) → List A → Counted
counted f [] = no_things
counted f (x ∷ xs) = plus (one_thing (f x)) (counted f xs)

-- the things, and a node that has their count
abbrev pub closed : (ℕ → DeclNode) → Counted → List DeclNode
closed whole c = c.nodes ++ whole c.count ∷ []

-- nodes of types and of expressions among those of declarations

abbrev pub typed : List TypeNode → List DeclNode
typed [] = []
typed (n ∷ ns) = node.Type n ∷ typed ns

abbrev pub valued : List ExprNode → List DeclNode
valued [] = []
valued (n ∷ ns) = node.Expr n ∷ valued ns

abbrev pub type_of : TypeExpr → List DeclNode
type_of a = typed (type_nodes a)

abbrev pub pred_of : PredExpr → List DeclNode
pred_of p = typed (pred_nodes p)

-- a context, with its count
abbrev pub context_whole : ℕ → DeclNode
context_whole count = node.Type (type_node.Context count)

abbrev pub named : NameAt → List DeclNode
named n = node.Name n.place n.name ∷ []

abbrev pub names_of : List NameAt → List DeclNode
names_of names = closed node.Names (counted named names)

abbrev pub number_of : Option ℕ → List DeclNode
number_of None = node.NoNumber ∷ []
number_of (Some k) = node.Number k ∷ []

abbrev pub sig_of : Sig → List DeclNode
sig_of s = (names_of s.names ++ typed (context_nodes s.context ++ type_nodes s.body)) ++ node.Sig s.place ∷ []

abbrev pub data_con_of : DataCon → List DeclNode
data_con_of c = named c.name ++ (closed node.Types (counted type_of c.args) ++ node.DataCon ∷ [])

abbrev pub fields_of : FieldDecl → List DeclNode
fields_of f = names_of f.names ++ (type_of f.of ++ node.Fields ∷ [])

abbrev pub bit_part_of : BitPart → List DeclNode
bit_part_of (bit_part.Tag width k) = node.Tag width k ∷ []
bit_part_of (bit_part.Fields f) = fields_of f ++ node.BitFields ∷ []

abbrev pub bit_con_of : BitCon → List DeclNode
bit_con_of c = named c.name ++ closed node.BitCon (counted bit_part_of c.parts)

abbrev pub struct_part_of : StructPart → List DeclNode
struct_part_of (struct_part.Pad k) = node.Pad k ∷ []
struct_part_of (struct_part.Fields f) = fields_of f ++ node.StructFields ∷ []

abbrev pub depend_of : Depend → List DeclNode
depend_of d = names_of d.from ++ (names_of d.to ++ node.Depend ∷ [])

abbrev pub bind_of : Bind → List DeclNode
bind_of b = valued (put_rows b.name b.place (equations b.rows) [])

abbrev pub fields_count : FieldInits → ℕ
fields_count NoFieldInits = 0
fields_count (MoreFieldInits name i fs) = 1 + fields_count fs

abbrev mutual
  pub init_nodes : InitExpr → List DeclNode
  init_nodes (Each place name i) = named name ++ (init_nodes i ++ node.InitEach place ∷ [])
  init_nodes (Fields place fs) = field_init_nodes fs ++ node.InitFields place (fields_count fs) ∷ []
  init_nodes (Cell place e) = valued (expr_nodes e) ++ node.InitCell place ∷ []

  pub field_init_nodes : FieldInits → List DeclNode
  field_init_nodes NoFieldInits = []
  field_init_nodes (MoreFieldInits name i fs) = (named name ++ (init_nodes i ++ node.InitField ∷ [])) ++ field_init_nodes fs

abbrev pub start_of : Option InitExpr → List DeclNode
start_of None = node.NoInit ∷ []
start_of (Some i) = init_nodes i ++ node.Init ∷ []

abbrev pub decl_nodes : Decl → List DeclNode
decl_nodes (decl.Sig s) = sig_of s
decl_nodes (decl.Equation b) = bind_of b ++ node.Equation ∷ []
decl_nodes (decl.Fixity p fix k names) = names_of names ++ node.Fixity p fix k ∷ []
decl_nodes (decl.Data p name params cons) = (named name ++ (names_of params ++ closed node.DataCons (counted data_con_of cons))) ++ node.Data p ∷ []
decl_nodes (decl.Bitdata p name width cons) = (named name ++ (number_of width ++ closed node.BitCons (counted bit_con_of cons))) ++ node.Bitdata p ∷ []
decl_nodes (decl.Struct p name bytes parts) = (named name ++ (number_of bytes ++ closed node.StructParts (counted struct_part_of parts))) ++ node.Struct p ∷ []
decl_nodes (decl.Area p name init a align) = (named name ++ (start_of init ++ (type_of a ++ number_of align))) ++ node.Area p ∷ []
decl_nodes (decl.Port p name dir a width k) = named name ++ (type_of a ++ node.Port p dir width k ∷ [])
decl_nodes (decl.Class p ps name params ds sigs) =
    ((typed (context_nodes ps) ++ (named name ++ names_of params))
    ++ (closed node.Depends (counted depend_of ds) ++ closed node.Sigs (counted sig_of sigs))) ++ node.Class p ∷ []
decl_nodes (decl.Instance p name types ps rows) =
    (named name ++ (closed node.Types (counted type_of types)
    ++ (closed context_whole (counted pred_of ps) ++ closed node.Equations (counted bind_of rows)))) ++ node.Instance p ∷ []

abbrev pub program_nodes : Program → List DeclNode
program_nodes p = closed node.Program (counted decl_nodes p.decls)
