-- What bytes say of an image, field by field: the image, or the first field that is not all there or breaks its rule.
use Rattle.std.specs.Prelude.{◌≡◌, ℕ, zero, suc, ◌+◌, ◌%◌, ◌^◌, Bool, ◌==◌, ◌&&◌, ◌||◌, not, nat_lt, nat_le, if◌then◌else◌, List, [], ◌∷◌, ◌++◌, length, take, drop, codes, Result, Ok, Err}
use Rattle.std.specs.Int.{Width, w16, w32, byte_len, from_le_bytes}
use Rattle.std.specs.List.{list_all, list_any}
use Rattle.std.specs.Str.{bytes_eq}
use Rattle.hb_base.specs.PortName.{is_port_name}
use Rattle.hb_base.specs.declared.port.Dir.{Dir}
use Rattle.hb_base.specs.declared.port.Dir.TheVariants.{In, Out}
use Rattle.hb_base.specs.declared.port.Port.{Port}
use Rattle.hb_image.specs.declared.fault.Field.{Field}
use Rattle.hb_image.specs.declared.fault.Field.TheVariants as fields
use Rattle.hb_image.specs.declared.fault.ImageError.{ImageError}
use Rattle.hb_image.specs.declared.fault.ImageError.TheVariants.{Short, Bad, Memory}
use Rattle.hb_image.specs.declared.image.Image.{Image}
use Rattle.hb_image.specs.Rules.{most_words}

infixl 10 ◌>>=◌
abbrev pub ◌>>=◌ : {A B : Type 0} → Result A ImageError → (A → Result B ImageError) → Result B ImageError
(Ok x) >>= f = f x
(Err e) >>= f = Err e

-- a field that is all there, and keeps its rule or breaks it
abbrev pub kept : {A : Type 0} → Field → Bool → A → Result A ImageError
kept field keeps x = if keeps then Ok x else Err (Bad field)

-- so many bytes, and what follows them
abbrev pub bytes_at : ℕ → List ℕ → Result (List ℕ × List ℕ) ImageError
bytes_at n bytes = if nat_lt (length bytes) n then Err Short else Ok (take n bytes, drop n bytes)

abbrev pub byte_at : List ℕ → Result (ℕ × List ℕ) ImageError
byte_at [] = Err Short
byte_at (b ∷ bytes) = Ok (b, bytes)

-- a number of this width, and what follows it
abbrev pub number_at : Width → List ℕ → Result (ℕ × List ℕ) ImageError
number_at w bytes = bytes_at (byte_len w) bytes >>= λ n. Ok (from_le_bytes w n.0, n.1)

-- a number with a rule
abbrev pub field_at : Field → (ℕ → Bool) → Width → List ℕ → Result (ℕ × List ℕ) ImageError
field_at field rule w bytes = number_at w bytes >>= λ n. kept field (rule n.0) n

abbrev pub byte_field_at : Field → (ℕ → Bool) → List ℕ → Result (ℕ × List ℕ) ImageError
byte_field_at field rule bytes = byte_at bytes >>= λ n. kept field (rule n.0) n

-- ---- the fields of fixed length

unfoldable pub magic_at : List ℕ → Result (List ℕ × List ℕ) ImageError
magic_at bytes = bytes_at 4 bytes >>= λ magic. kept fields.Magic (bytes_eq magic.0 (codes "HBIM")) magic

unfoldable pub version_at : List ℕ → Result (ℕ × List ℕ) ImageError
version_at bytes = field_at fields.Version (λ n. n == 1) w16 bytes

unfoldable pub count_at : List ℕ → Result (ℕ × List ℕ) ImageError
count_at bytes = field_at fields.Ports (λ n. nat_le n 256) w16 bytes

unfoldable pub areas_at : List ℕ → Result (ℕ × List ℕ) ImageError
areas_at bytes = field_at fields.Areas (λ n. nat_le n 16777216) w32 bytes

abbrev pub is_stack : ℕ → Bool
is_stack n = ((n % 4) == 0) && (nat_le 4096 n && nat_le n 16777216)

unfoldable pub stack_at : List ℕ → Result (ℕ × List ℕ) ImageError
stack_at bytes = field_at fields.Stack is_stack w32 bytes

unfoldable pub code_at : List ℕ → Result (ℕ × List ℕ) ImageError
code_at bytes = field_at fields.Code (λ n. nat_le 1 n && nat_le n most_words) w32 bytes

-- ---- a port

abbrev pub dir_from : ℕ → Dir
dir_from kind = if kind == 0 then In else Out

unfoldable pub kind_at : List ℕ → Result (Dir × List ℕ) ImageError
kind_at bytes = byte_field_at fields.Kind (λ n. nat_le n 1) bytes >>= λ kind. Ok (dir_from kind.0, kind.1)

abbrev pub is_width : ℕ → Bool
is_width n = (n == 1) || ((n == 2) || (n == 4))

unfoldable pub width_at : List ℕ → Result (ℕ × List ℕ) ImageError
width_at bytes = byte_field_at fields.Width is_width bytes

unfoldable pub length_at : List ℕ → Result (ℕ × List ℕ) ImageError
length_at bytes = byte_field_at fields.Length (λ n. nat_le 1 n && nat_le n 64) bytes

-- no byte of the port is one of these bytes
abbrev pub is_apart : ℕ → ℕ → Port → Bool
is_apart address width port = nat_le (port.address + port.width) address || nat_le (address + width) port.address

-- from 80000000, at a multiple of the width, apart from the ports before
abbrev pub is_address : List Port → ℕ → ℕ → Bool
is_address ports width address = nat_le (2 ^ 31) address && (((address % width) == 0) && list_all (is_apart address width) ports)

unfoldable pub address_at : List Port → ℕ → List ℕ → Result (ℕ × List ℕ) ImageError
address_at ports width bytes = field_at fields.Address (is_address ports width) w32 bytes

-- a port's name, and that of no port before
abbrev pub is_new_name : List Port → List ℕ → Bool
is_new_name ports name = is_port_name name && not (list_any (λ port. bytes_eq port.name name) ports)

unfoldable pub name_at : List Port → ℕ → List ℕ → Result (List ℕ × List ℕ) ImageError
name_at ports len bytes = bytes_at len bytes >>= λ name. kept fields.Name (is_new_name ports name.0) name

-- the port that comes behind these ports
unfoldable pub port_at : List Port → List ℕ → Result (Port × List ℕ) ImageError
port_at ports bytes = do
  dir ← kind_at bytes
  width ← width_at dir.1
  len ← length_at width.1
  address ← address_at ports width.0 len.1
  name ← name_at ports len.0 address.1
  Ok (record { name = name.0; dir = dir.0; width = width.0; address = address.0 }, name.1)

-- these ports, and so many more
unfoldable pub ports_at : ℕ → List Port → List ℕ → Result (List Port × List ℕ) ImageError
ports_at zero ports bytes = Ok (ports, bytes)
ports_at (suc n) ports bytes = do
  port ← port_at ports bytes
  ports_at n (ports ++ port.0 ∷ []) port.1

-- ---- the words

unfoldable pub words_at : ℕ → List ℕ → Result (List ℕ × List ℕ) ImageError
words_at zero bytes = Ok ([], bytes)
words_at (suc n) bytes = do
  word ← number_at w32 bytes
  others ← words_at n word.1
  Ok (word.0 ∷ others.0, others.1)

-- ---- an image

-- the number of ports
unfoldable pub front_at : List ℕ → Result (ℕ × List ℕ) ImageError
front_at bytes = do
  magic ← magic_at bytes
  version ← version_at magic.1
  count_at version.1

-- the bytes of the areas and of the stack, and the number of words
unfoldable pub sizes_at : List ℕ → Result ((ℕ × ℕ × ℕ) × List ℕ) ImageError
sizes_at bytes = do
  areas ← areas_at bytes
  stack ← stack_at areas.1
  code ← code_at stack.1
  Ok ((areas.0, stack.0, code.0), code.1)

unfoldable pub image_of : List ℕ → Result Image ImageError
image_of bytes = do
  count ← front_at bytes
  sizes ← sizes_at count.1
  ports ← ports_at count.0 [] sizes.1
  code ← words_at sizes.0.2 ports.1
  kept fields.Tail (length code.1 == 0) (record { ports = ports.0; areas = sizes.0.0; stack = sizes.0.1; code = code.0 })

-- ---- what a function of the code answers

-- memory may run out at any place
abbrev pub Fails : {A : Type 0} → ImageError → Result A ImageError → Type 0
Fails Short reading = reading ≡ Err Short
Fails (Bad field) reading = reading ≡ Err (Bad field)
Fails Memory reading = Unit {0}

-- the answer, seen by view, is what reading gives, unless memory ran out
abbrev pub Gives : {X A : Type 0} → (X → A) → Result X ImageError → Result A ImageError → Type 0
Gives view (Ok x) reading = reading ≡ Ok (view x)
Gives view (Err e) reading = Fails e reading
