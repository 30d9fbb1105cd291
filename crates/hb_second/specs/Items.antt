-- What each declaration and each statement of a program is by itself, whatever stands before it.
use Rattle.std.specs.Prelude.{ℕ, Bool, true, false, ◌&&◌, ◌==◌, if◌then◌else◌, List, [], ◌∷◌, ◌++◌, map, slice_get, codes, Option, Some, None, option_map}
use Rattle.std.specs.Str.{bytes_eq}
use Rattle.hb_base.specs.declared.name.Name.{Name}
use Rattle.hb_base.specs.declared.place.Place.{Place}
use Rattle.hb_base.specs.declared.port.Dir.{Dir}
use Rattle.hb_tree.specs.Types as type
use Rattle.hb_tree.specs.Patterns as pat
use Rattle.hb_tree.specs.Expressions.{Expr, AnExpr, Var, Bits, Apply, Run, Do, Select, Update, Exprs, NoExprs, MoreExprs, Stmts, NoStmts, TakeThen, LetThen, DoThen, Binds, NoBinds, MoreBinds, Equation}
use Rattle.hb_tree.specs.declared.types.NameAt.{NameAt}
use Rattle.hb_tree.specs.declared.types.Sig.{Sig}
use Rattle.hb_tree.specs.declared.statement.Bind.{Bind}
use Rattle.hb_tree.specs.declared.declaration.Decl.{Decl}
use Rattle.hb_tree.specs.declared.declaration.Decl.TheVariants as decl
use Rattle.hb_tree.specs.declared.declaration.Program.{Program}
use Rattle.hb_second.specs.declared.source.Operator.{Operator}
use Rattle.hb_second.specs.Names.{operator_named}

-- a literal of eight bits, or a variable
pub data Word : Type 0 where
  Byte : ℕ → Word
  Called : List ℕ → Word

-- one word, or two with an operator between them
pub data Given : Type 0 where
  One : Word → Given
  Two : Word → Operator → Word → Given

-- `port NAME :: DIR (Bit 8) at ADDRESS` with an address of 32 bits; `main :: M Unit`; `main = do`; `NAME <- readPort
-- PORT`; `writePort PORT GIVEN`; or anything else
pub data Item : Type 0 where
  APort : List ℕ → Dir → ℕ → Item
  TheSignature : Item
  TheEquation : Item
  ARead : List ℕ → List ℕ → Item
  AWrite : List ℕ → Given → Item
  Other : Item

pub record Placed : Type 0 where
  pub place : Place
  pub item : Item

abbrev pub at : Place → Item → Placed
at place item = record { place = place; item = item }

-- ---- names, by their texts

abbrev pub text_or_none : Option (List ℕ) → List ℕ
text_or_none None = []
text_or_none (Some text) = text

-- the text of a name, and no bytes where the table does not have it
abbrev pub text_of : List (List ℕ) → Name → List ℕ
text_of names name = text_or_none (slice_get names name.0)

abbrev pub is_named : List (List ℕ) → List ℕ → Name → Bool
is_named names text name = bytes_eq (text_of names name) text

-- ---- types

abbrev pub is_con : List (List ℕ) → List ℕ → type.TypeExpr → Bool
is_con names text (type.AType place (type.Con name)) = is_named names text name
is_con names text t = false

abbrev pub is_number : ℕ → type.TypeExpr → Bool
is_number value (type.AType place (type.Number n)) = n == value
is_number value t = false

-- `Bit 8`
abbrev pub is_byte_type : List (List ℕ) → type.TypeExpr → Bool
is_byte_type names (type.AType place (type.Apply f x)) = is_con names (codes "Bit") f && is_number 8 x
is_byte_type names t = false

-- `M Unit`
abbrev pub is_action_type : List (List ℕ) → type.TypeExpr → Bool
is_action_type names (type.AType place (type.Apply f x)) = is_con names (codes "M") f && is_con names (codes "Unit") x
is_action_type names t = false

-- ---- expressions

abbrev pub variable_of : Expr → Option Name
variable_of (AnExpr node place (Var name)) = Some name
variable_of e = None

abbrev pub is_this : List (List ℕ) → List ℕ → Option Name → Bool
is_this names text None = false
is_this names text (Some name) = is_named names text name

-- the variable of this text
abbrev pub is_variable : List (List ℕ) → List ℕ → Expr → Bool
is_variable names text e = is_this names text (variable_of e)

abbrev pub word_of : List (List ℕ) → Expr → Option Word
word_of names (AnExpr node place (Bits width value)) = if width == 8 then Some (Byte value) else None
word_of names (AnExpr node place (Var name)) = Some (Called (text_of names name))
word_of names e = None

abbrev pub operator_at : List (List ℕ) → Option Name → Option Operator
operator_at names None = None
operator_at names (Some name) = operator_named (text_of names name)

abbrev pub two_of : Option Word → Option Operator → Option Word → Option Given
two_of (Some a) (Some operator) (Some b) = Some (Two a operator b)
two_of a operator b = None

-- one operator
abbrev pub operator_in : List (List ℕ) → Exprs → Option Operator
operator_in names (MoreExprs e NoExprs) = operator_at names (variable_of e)
operator_in names operators = None

-- two operands
abbrev pub run_given : List (List ℕ) → Exprs → Option Operator → Option Given
run_given names (MoreExprs a (MoreExprs b NoExprs)) operator = two_of (word_of names a) operator (word_of names b)
run_given names operands operator = None

abbrev pub given_of : List (List ℕ) → Expr → Option Given
given_of names (AnExpr node place (Run operands operators)) = run_given names operands (operator_in names operators)
given_of names e = option_map One (word_of names e)

-- ---- statements

abbrev pub read_of : List (List ℕ) → Name → Option Name → Item
read_of names name None = Other
read_of names name (Some port) = ARead (text_of names name) (text_of names port)

-- what `NAME <- expression` is
abbrev pub call_item : List (List ℕ) → Name → Expr → Item
call_item names name (AnExpr node place (Apply f x)) =
    if is_variable names (codes "readPort") f then read_of names name (variable_of x) else Other
call_item names name e = Other

-- what `pattern <- expression` is
abbrev pub take_item : List (List ℕ) → pat.Pat → Expr → Item
take_item names (pat.APat node place (pat.Var name)) e = call_item names name e
take_item names p e = Other

abbrev pub write_of : List (List ℕ) → Option Name → Option Given → Item
write_of names (Some port) (Some given) = AWrite (text_of names port) given
write_of names port given = Other

-- what an expression is as a statement
abbrev pub do_item : List (List ℕ) → Expr → Item
do_item names (AnExpr node place (Apply (AnExpr node' place' (Apply f port)) x)) =
    if is_variable names (codes "writePort") f then write_of names (variable_of port) (given_of names x) else Other
do_item names e = Other

abbrev pub pat_place : pat.Pat → Place
pat_place (pat.APat node place kind) = place

-- the place of the leftmost part of an expression
abbrev pub first_place : Expr → Place
first_place (AnExpr node place (Apply f x)) = first_place f
first_place (AnExpr node place (Run (MoreExprs e es) os)) = first_place e
first_place (AnExpr node place (Select e name)) = first_place e
first_place (AnExpr node place (Update e fields)) = first_place e
first_place (AnExpr node place kind) = place

-- the place of the first definition; without one, that of the equation around
abbrev pub let_place : Place → Binds → Place
let_place around NoBinds = around
let_place around (MoreBinds name place rows rest) = place

abbrev pub statement_items : List (List ℕ) → Place → Stmts → List Placed
statement_items names around NoStmts = []
statement_items names around (TakeThen p e rest) = at (pat_place p) (take_item names p e) ∷ statement_items names around rest
statement_items names around (LetThen local rest) = at (let_place around local) Other ∷ statement_items names around rest
statement_items names around (DoThen e rest) = at (first_place e) (do_item names e) ∷ statement_items names around rest

-- ---- declarations

-- the port is one of eight bits, and its address is written with 32
abbrev pub is_byte_port : List (List ℕ) → type.TypeExpr → ℕ → Bool
is_byte_port names of width = is_byte_type names of && (width == 32)

abbrev pub port_item : Bool → List ℕ → Dir → ℕ → Item
port_item true name way address = APort name way address
port_item false name way address = Other

abbrev pub is_empty : {A : Type 0} → List A → Bool
is_empty [] = true
is_empty (a ∷ rest) = false

abbrev pub is_main_alone : List (List ℕ) → List NameAt → Bool
is_main_alone names (name ∷ []) = is_named names (codes "main") name.name
is_main_alone names all = false

abbrev pub is_main_signature : List (List ℕ) → Sig → Bool
is_main_signature names sig = is_main_alone names sig.names && (is_empty sig.context && is_action_type names sig.body)

abbrev pub signature_item : List (List ℕ) → Sig → Item
signature_item names sig = if is_main_signature names sig then TheSignature else Other

abbrev pub do_of : Expr → Option Stmts
do_of (AnExpr node place (Do all)) = Some all
do_of e = None

abbrev pub no_binds : Binds → Bool
no_binds NoBinds = true
no_binds (MoreBinds name place rows rest) = false

-- a row without patterns and without `where`
abbrev pub is_plain : Equation → Bool
is_plain row = is_empty row.pats && no_binds row.local

-- the statements of one plain row
abbrev pub row_statements : List Equation → Option Stmts
row_statements (row ∷ []) = if is_plain row then do_of row.body else None
row_statements rows = None

-- the statements of `main = do ..`
abbrev pub main_statements : List (List ℕ) → Bind → Option Stmts
main_statements names bind = if is_named names (codes "main") bind.name then row_statements bind.rows else None

abbrev pub equation_items : List (List ℕ) → Place → Option Stmts → List Placed
equation_items names place None = at place Other ∷ []
equation_items names place (Some all) = at place TheEquation ∷ statement_items names place all

-- an equation `main = do ..` is an item by itself, and then each of its statements is one
abbrev pub decl_items : List (List ℕ) → Decl → List Placed
decl_items names (decl.Sig sig) = at sig.place (signature_item names sig) ∷ []
decl_items names (decl.Equation bind) = equation_items names bind.place (main_statements names bind)
decl_items names (decl.Fixity place fix level all) = at place Other ∷ []
decl_items names (decl.Data place name params constructors) = at place Other ∷ []
decl_items names (decl.Bitdata place name width constructors) = at place Other ∷ []
decl_items names (decl.Struct place name size parts) = at place Other ∷ []
decl_items names (decl.Area place name init of alignment) = at place Other ∷ []
decl_items names (decl.Port place name way of width number) = at place (port_item (is_byte_port names of width) (text_of names name.name) way number) ∷ []
decl_items names (decl.Class place context name params depends sigs) = at place Other ∷ []
decl_items names (decl.Instance place name types context binds) = at place Other ∷ []

abbrev pub all_items : List (List ℕ) → List Decl → List Placed
all_items names [] = []
all_items names (d ∷ rest) = decl_items names d ++ all_items names rest

-- the items of a program in their order
abbrev pub items_of : List (List ℕ) → Program → List Placed
items_of names program = all_items names program.decls

abbrev pub without_places : List Placed → List Item
without_places items = map (λ (placed : Placed). placed.item) items
