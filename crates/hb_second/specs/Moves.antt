-- What a reader of items does with each: which item may come, and what it is then known to have read.
use Rattle.std.specs.Prelude.{ℕ, Bool, true, false, ◌&&◌, ◌||◌, ◌≤◌, nat_lt, nat_le, if◌then◌else◌, List, [], ◌∷◌, ◌++◌, length, Option, Some, None, Result, Ok, Err}
use Rattle.hb_base.specs.declared.port.Port.{Port}
use Rattle.hb_base.specs.declared.port.Dir.{Dir}
use Rattle.hb_base.specs.declared.port.Dir.TheVariants.{In, Out}
use Rattle.hb_base.specs.declared.place.Place.{Place}
use Rattle.hb_base.specs.declared.name.Name.{Name}
use Rattle.hb_second.specs.declared.source.Argument.{Argument}
use Rattle.hb_second.specs.declared.source.Statement.TheVariants.{Read, Write}
use Rattle.hb_second.specs.declared.reader.Stage.{Stage}
use Rattle.hb_second.specs.declared.reader.Stage.TheVariants.{Ports, Equation, Statements, Written}
use Rattle.hb_second.specs.declared.reader.Reader.{Reader}
use Rattle.hb_second.specs.Names.{is_new_name, is_new_address, has_port, find_port}
use Rattle.hb_second.specs.Items.{Item, APort, TheSignature, TheEquation, ARead, AWrite, Other, text_of, Placed}
use Rattle.hb_second.specs.Form.{port_of, argument_of}

-- nothing but ports has come
abbrev pub in_ports : Stage → Bool
in_ports Ports = true
in_ports Equation = false
in_ports Statements = false
in_ports Written = false

-- the signature of `main` came last
abbrev pub at_equation : Stage → Bool
at_equation Ports = false
at_equation Equation = true
at_equation Statements = false
at_equation Written = false

-- the equation of `main` has come
abbrev pub in_body : Stage → Bool
in_body Ports = false
in_body Equation = false
in_body Statements = true
in_body Written = true

abbrev pub given : Bool → Reader → Option Reader
given test reader = if test then Some reader else None

-- an In port may stand where an Out port stands before, or may still come
abbrev pub may_go : Dir → List Port → Bool
may_go In ports = has_port Out ports || nat_lt (length ports) 255
may_go Out ports = true

-- the address is above the memory, of 32 bits, and no other port's
abbrev pub is_port_address : List Port → ℕ → Bool
is_port_address ports address = nat_le 0x8000_0000 address && (nat_lt address 0x1_0000_0000 && is_new_address ports address)

abbrev pub is_next_port : List Port → List ℕ → ℕ → Bool
is_next_port ports name address = is_new_name ports [] name && is_port_address ports address

abbrev pub may_be_port : Reader → List ℕ → Dir → ℕ → Bool
may_be_port reader name way address =
    in_ports reader.stage && (nat_lt (length reader.ports) 256 && (may_go way reader.ports && is_next_port reader.ports name address))

abbrev pub put_port : Reader → List ℕ → Dir → ℕ → Reader
put_port reader name way address = record reader { ports = reader.ports ++ port_of name way address ∷ [] }

abbrev pub may_read : Reader → List ℕ → Bool
may_read reader name = in_body reader.stage && (nat_lt (length reader.statements) 999 && is_new_name reader.ports reader.variables name)

abbrev pub put_read : Reader → List ℕ → Option ℕ → Option Reader
put_read reader name None = None
put_read reader name (Some number) = Some (record reader {
  stage = Statements;
  variables = reader.variables ++ name ∷ [];
  statements = reader.statements ++ Read number ∷ [];
})

abbrev pub may_write : Reader → Bool
may_write reader = in_body reader.stage && nat_lt (length reader.statements) 1000

abbrev pub put_write : Reader → Option ℕ → Option Argument → Option Reader
put_write reader (Some number) (Some argument) = Some (record reader { stage = Written; statements = reader.statements ++ Write number argument ∷ [] })
put_write reader number argument = None

-- what a write makes of a reader
abbrev pub written : Reader → List ℕ → Option Argument → Option Reader
written reader port argument = if may_write reader then put_write reader (find_port Out port reader.ports) argument else None

-- the same, where the port may have no name
abbrev pub named_write : Reader → List (List ℕ) → Option Name → Option Argument → Option Reader
named_write reader names None argument = None
named_write reader names (Some port) argument = written reader (text_of names port) argument

-- what an item makes of a reader, or none where it cannot stand
abbrev pub step : Reader → Item → Option Reader
step reader (APort name way address) = given (may_be_port reader name way address) (put_port reader name way address)
step reader TheSignature = given (in_ports reader.stage && has_port Out reader.ports) (record reader { stage = Equation })
step reader TheEquation = given (at_equation reader.stage) (record reader { stage = Statements })
step reader (ARead name port) = if may_read reader name then put_read reader name (find_port In port reader.ports) else None
step reader (AWrite port words) = written reader port (argument_of reader.variables words)
step reader Other = None

-- what items make of a reader, or the place of the first that cannot stand
unfoldable pub run : Reader → List Placed → Result Reader Place
run reader [] = Ok reader
run reader (x ∷ rest) = elim (step reader x.item) [ None ↦ Err x.place | Some next ↦ run next rest ]

-- the reader before the first item
abbrev pub start : Reader
start = record { stage = Ports; ports = []; variables = []; statements = [] }

-- what a reader holds is few
pub record IsSmall (reader : Reader) : Type 0 where
  pub ports : length reader.ports ≤ 256
  pub statements : length reader.statements ≤ 1000
  pub variables : length reader.variables ≤ length reader.statements

-- a reader, or a place
abbrev pub outcome : Option Place → Reader → Result Reader Place
outcome None reader = Ok reader
outcome (Some place) reader = Err place

abbrev pub wrong_at : Bool → Place → Option Place
wrong_at true place = None
wrong_at false place = Some place
