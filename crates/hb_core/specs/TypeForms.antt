-- Types by their forms, and types that are the same.
use Rattle.std.specs.Prelude.{ℕ, zero, suc, ◌+◌, Bool, true, false, ◌&&◌, ◌==◌, List, [], ◌∷◌, Option, Some, None}
use Rattle.hb_types.specs.declared.atom.Atom.{Atom}
use Rattle.hb_types.specs.declared.atom.Atom.TheVariants.{Var, Con, Nat}
use Rattle.hb_types.specs.Types.{Ty, Unknown, Leaf, Apply}

-- ---- constructors of types

-- `Action` is `M`, and a declared one counts from 0 among the data, bitdata and struct declarations in text order
pub data TyCon : Type 0 where
  Unsigned : TyCon
  Signed : TyCon
  Bit : TyCon
  Ix : TyCon
  NonZero : TyCon
  Action : TyCon
  In : TyCon
  Out : TyCon
  Ref : TyCon
  Arrow : TyCon
  Stored : TyCon
  BigEndian : TyCon
  Array : TyCon
  Declared : ℕ → TyCon

-- the constructor of a number: first the built-in ones, then the declared ones
abbrev pub tycon : ℕ → TyCon
tycon zero = Unsigned
tycon (suc zero) = Signed
tycon (suc (suc zero)) = Bit
tycon (suc (suc (suc zero))) = Ix
tycon (suc (suc (suc (suc zero)))) = NonZero
tycon (suc (suc (suc (suc (suc zero))))) = Action
tycon (suc (suc (suc (suc (suc (suc zero)))))) = In
tycon (suc (suc (suc (suc (suc (suc (suc zero))))))) = Out
tycon (suc (suc (suc (suc (suc (suc (suc (suc zero)))))))) = Ref
tycon (suc (suc (suc (suc (suc (suc (suc (suc (suc zero))))))))) = Arrow
tycon (suc (suc (suc (suc (suc (suc (suc (suc (suc (suc zero)))))))))) = Stored
tycon (suc (suc (suc (suc (suc (suc (suc (suc (suc (suc (suc zero))))))))))) = BigEndian
tycon (suc (suc (suc (suc (suc (suc (suc (suc (suc (suc (suc (suc zero)))))))))))) = Array
tycon (suc (suc (suc (suc (suc (suc (suc (suc (suc (suc (suc (suc (suc n))))))))))))) = Declared n

abbrev pub tycon_number : TyCon → ℕ
tycon_number Unsigned = 0
tycon_number Signed = 1
tycon_number Bit = 2
tycon_number Ix = 3
tycon_number NonZero = 4
tycon_number Action = 5
tycon_number In = 6
tycon_number Out = 7
tycon_number Ref = 8
tycon_number Arrow = 9
tycon_number Stored = 10
tycon_number BigEndian = 11
tycon_number Array = 12
tycon_number (Declared n) = n + 13

abbrev pub con_type : TyCon → Ty
con_type c = Leaf (Con (tycon_number c))

abbrev pub number_type : ℕ → Ty
number_type n = Leaf (Nat n)

-- a constructor at one type
abbrev pub at_one : TyCon → Ty → Ty
at_one c t = Apply (con_type c) t

abbrev pub arrow : Ty → Ty → Ty
arrow a b = Apply (Apply (con_type Arrow) a) b

-- from arguments to a result
abbrev pub arrows : List Ty → Ty → Ty
arrows [] t = t
arrows (a ∷ as') t = arrow a (arrows as' t)

-- ---- the form of a type

-- a constructor with the types that it is applied to, a number, a variable, or a type of another form
pub data Form : Type 0 where
  Of : TyCon → List Ty → Form
  ANumber : ℕ → Form
  AVariable : ℕ → Form
  OtherForm : Form

abbrev pub applied_to : Ty → List Ty → Form
applied_to (Leaf (Con c)) args = Of (tycon c) args
applied_to (Leaf (Nat n)) [] = ANumber n
applied_to (Leaf (Nat n)) (t ∷ args) = OtherForm
applied_to (Leaf (Var v)) [] = AVariable v
applied_to (Leaf (Var v)) (t ∷ args) = OtherForm
applied_to (Unknown n) args = OtherForm
applied_to (Apply f x) args = applied_to f (x ∷ args)

abbrev pub form : Ty → Form
form t = applied_to t []

abbrev pub number_in : Form → Option ℕ
number_in (ANumber n) = Some n
number_in (Of c ts) = None
number_in (AVariable v) = None
number_in OtherForm = None

-- the number that a type is, if it is one
abbrev pub type_number : Ty → Option ℕ
type_number t = number_in (form t)

-- ---- types that are the same

abbrev pub same_atom : Atom → Atom → Bool
same_atom (Var v) (Var w) = v == w
same_atom (Con c) (Con d) = c == d
same_atom (Nat m) (Nat n) = m == n
same_atom a b = false

abbrev pub same_type : Ty → Ty → Bool
same_type (Unknown m) (Unknown n) = m == n
same_type (Leaf a) (Leaf b) = same_atom a b
same_type (Apply f x) (Apply g y) = same_type f g && same_type x y
same_type t u = false

abbrev pub same_types : List Ty → List Ty → Bool
same_types [] [] = true
same_types (t ∷ ts) (u ∷ us) = same_type t u && same_types ts us
same_types ts us = false
