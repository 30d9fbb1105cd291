-- The second form of a program, as a grammar on items: each constructor is one line of it.
use Rattle.std.specs.Prelude.{◌≡◌, ◌^◌, ℕ, ◌<◌, ◌≤◌, Bool, true, false, nat_lt, if◌then◌else◌, List, [], ◌∷◌, ◌++◌, length, Option, Some, None, option_map, position}
use Rattle.std.specs.Str.{bytes_eq}
use Rattle.hb_base.specs.declared.port.Port.{Port}
use Rattle.hb_base.specs.declared.port.Dir.{Dir}
use Rattle.hb_base.specs.declared.port.Dir.TheVariants.{In, Out}
use Rattle.hb_tree.specs.declared.declaration.Program.{Program}
use Rattle.hb_second.specs.declared.source.Atom.{Atom}
use Rattle.hb_second.specs.declared.source.Atom.TheVariants.{Literal, Variable}
use Rattle.hb_second.specs.declared.source.Operator.{Operator}
use Rattle.hb_second.specs.declared.source.Argument.{Argument}
use Rattle.hb_second.specs.declared.source.Argument.TheVariants.{Atom as OneAtom, Operation}
use Rattle.hb_second.specs.declared.source.Statement.{Statement}
use Rattle.hb_second.specs.declared.source.Statement.TheVariants.{Read, Write}
use Rattle.hb_second.specs.declared.source.Source.{Source}
use Rattle.hb_second.specs.Names.{is_new_name, is_new_address, find_port}
use Rattle.hb_second.specs.Items.{Word, Byte, Called, Given, One, Two, Item, APort, TheSignature, TheEquation, ARead, AWrite, items_of, without_places}

-- a name and an address that a next port may have
pub record IsNextPort (ports : List Port) (name : List ℕ) (address : ℕ) : Type 0 where
  pub new_name : is_new_name ports [] name ≡ true
  pub high : 2 ^ 31 ≤ address
  pub within : address < 2 ^ 32
  pub new_address : is_new_address ports address ≡ true

abbrev pub port_of : List ℕ → Dir → ℕ → Port
port_of name way address = record { name = name; dir = way; width = 1; address = address }

-- ports, and one more after them
pub data Ports : List Port → List Item → Type 0 where
  no_port : Ports [] []
  one_port_more : (ports : List Port) (items : List Item) (name : List ℕ) (way : Dir) (address : ℕ) → Ports ports items → IsNextPort ports name address → Ports (ports ++ port_of name way address ∷ []) (items ++ APort name way address ∷ [])

-- the byte of a literal, or the number of the variable of this name
abbrev pub atom_of : List (List ℕ) → Word → Option Atom
atom_of variables (Byte value) = if nat_lt value 256 then Some (Literal value) else None
atom_of variables (Called name) = option_map Variable (position (bytes_eq name) variables)

abbrev pub operation_of : Option Atom → Option Operator → Option Atom → Option Argument
operation_of (Some a) (Some operator) (Some b) = Some (Operation a operator b)
operation_of a operator b = None

-- an atom, or two with an operator between
abbrev pub argument_of : List (List ℕ) → Given → Option Argument
argument_of variables (One word) = option_map OneAtom (atom_of variables word)
argument_of variables (Two a operator b) = operation_of (atom_of variables a) (Some operator) (atom_of variables b)

-- statements with the variables that they bind, and one more after them; the Bool says that the last one writes
pub data Body (ports : List Port) : Bool → List (List ℕ) → List Statement → List Item → Type 0 where
  no_statement : Body ports false [] [] []
  one_read_more : (writes : Bool) (variables : List (List ℕ)) (ss : List Statement) (items : List Item) (name port : List ℕ) (number : ℕ) → Body ports writes variables ss items → is_new_name ports variables name ≡ true → find_port In port ports ≡ Some number → Body ports false (variables ++ name ∷ []) (ss ++ Read number ∷ []) (items ++ ARead name port ∷ [])
  one_write_more : (writes : Bool) (variables : List (List ℕ)) (ss : List Statement) (items : List Item) (port : List ℕ) (number : ℕ) (given : Given) (argument : Argument) → Body ports writes variables ss items → find_port Out port ports ≡ Some number → argument_of variables given ≡ Some argument → Body ports true variables (ss ++ Write number argument ∷ []) (items ++ AWrite port given ∷ [])

-- ports, `main :: M Unit`, `main = do`, statements
abbrev pub whole : List Item → List Item → List Item
whole ports body = ports ++ TheSignature ∷ TheEquation ∷ body

-- these items are this source: 1 to 256 ports, 1 to 1,000 statements, the last of which writes
pub record Form (items : List Item) (source : Source) : Type 0 where
  pub variables : List (List ℕ)
  pub port_items : List Item
  pub body_items : List Item
  pub ports : Ports source.ports port_items
  pub body : Body source.ports true variables source.statements body_items
  pub order : items ≡ whole port_items body_items
  pub few_ports : length source.ports ≤ 256
  pub few_statements : length source.statements ≤ 1000

-- the program, whose names have these texts, is this source
abbrev pub IsForm : List (List ℕ) → Program → Source → Type 0
IsForm names program source = Form (without_places (items_of names program)) source
