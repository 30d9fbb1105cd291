-- The names that ports and variables may have, and what a name or an operator stands for.
use Rattle.std.specs.Prelude.{ℕ, Bool, true, false, ◌&&◌, not, ◌==◌, nat_le, if◌then◌else◌, List, [], ◌∷◌, length, codes, Option, Some, None, position}
use Rattle.std.specs.List.{list_any, list_all}
use Rattle.std.specs.Str.{bytes_eq}
use Rattle.hb_base.specs.PortName.{is_lower}
use Rattle.hb_base.specs.declared.port.Port.{Port}
use Rattle.hb_base.specs.declared.port.Dir.{Dir}
use Rattle.hb_base.specs.declared.port.Dir.TheVariants.{In, Out}
use Rattle.hb_second.specs.declared.source.Operator.{Operator}
use Rattle.hb_second.specs.declared.source.Operator.TheVariants.{Add, Sub, And, Or, Xor}

-- words that are taken: reserved words, words of Habit that this profile leaves out, the names of the primitives
-- and of the prelude, of those that have lower-case letters alone, and `main`
abbrev pub taken_words : List (List ℕ)
taken_words =
    codes "area" ∷ codes "bitdata" ∷ codes "struct" ∷ codes "port" ∷ codes "class" ∷ codes "instance"
    ∷ codes "data" ∷ codes "infix" ∷ codes "infixl" ∷ codes "infixr" ∷ codes "where" ∷ codes "let"
    ∷ codes "in" ∷ codes "do" ∷ codes "of" ∷ codes "case" ∷ codes "if" ∷ codes "then" ∷ codes "else"
    ∷ codes "each" ∷ codes "fields" ∷ codes "aligned" ∷ codes "at"
    ∷ codes "module" ∷ codes "import" ∷ codes "export" ∷ codes "deriving" ∷ codes "default" ∷ codes "type"
    ∷ codes "newtype" ∷ codes "foreign" ∷ codes "opaque" ∷ codes "fails"
    ∷ codes "return" ∷ codes "halt" ∷ codes "complement" ∷ codes "shl" ∷ codes "shr" ∷ codes "not"
    ∷ codes "when" ∷ codes "unless" ∷ codes "forever" ∷ codes "main" ∷ []

-- 1 to 64 lower-case letters
abbrev pub is_short_lower : List ℕ → Bool
is_short_lower name = nat_le 1 (length name) && (nat_le (length name) 64 && list_all is_lower name)

-- and no word that is taken
abbrev pub is_free_name : List ℕ → Bool
is_free_name name = is_short_lower name && not (list_any (bytes_eq name) taken_words)

-- no port has the name, and no variable
abbrev pub is_new_name : List Port → List (List ℕ) → List ℕ → Bool
is_new_name ports variables name =
    is_free_name name && (not (list_any (λ (port : Port). bytes_eq name port.name) ports) && not (list_any (bytes_eq name) variables))

-- no port has this address
abbrev pub is_new_address : List Port → ℕ → Bool
is_new_address ports address = not (list_any (λ (port : Port). port.address == address) ports)

abbrev pub same_way : Dir → Dir → Bool
same_way In In = true
same_way In Out = false
same_way Out In = false
same_way Out Out = true

abbrev pub has_port : Dir → List Port → Bool
has_port way ports = list_any (λ (port : Port). same_way port.dir way) ports

-- the number of the port that goes this way and has this name
abbrev pub find_port : Dir → List ℕ → List Port → Option ℕ
find_port way name ports = position (λ (port : Port). same_way port.dir way && bytes_eq name port.name) ports

-- `+`, `-`, `.&.`, `.|.` and `.^.`
abbrev pub operator_named : List ℕ → Option Operator
operator_named text =
    if bytes_eq text (codes "+") then Some Add
    else if bytes_eq text (codes "-") then Some Sub
    else if bytes_eq text (codes ".&.") then Some And
    else if bytes_eq text (codes ".|.") then Some Or
    else if bytes_eq text (codes ".^.") then Some Xor
    else None
