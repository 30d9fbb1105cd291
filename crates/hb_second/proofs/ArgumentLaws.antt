-- What a write is given, by its words and by its atoms.
use Rattle.std.proofs.Common.{◌≡◌, ℕ, ◌<◌, ◌≤◌, Bool, true, false, List, [], ◌∷◌, length, Option, Some, None, refl, arith}
use Rattle.std.specs.Prelude.{option_map, option_and_then, if◌then◌else◌, nat_lt}
use Rattle.hb_base.specs.declared.name.Name.{Name}
use Rattle.hb_second.specs.declared.source.Atom.{Atom}
use Rattle.hb_second.specs.declared.source.Atom.TheVariants.{Literal}
use Rattle.hb_second.specs.declared.source.Operator.{Operator}
use Rattle.hb_second.specs.declared.source.Argument.TheVariants.{Atom as OneAtom}
use Rattle.hb_second.specs.declared.reader.Reader.{Reader}
use Rattle.hb_tree.specs.Expressions.{Expr}
use Rattle.hb_tree.specs.ExpressionViews.{exprs, binds}
use Rattle.hb_tree.specs.declared.statement.Bind.{Bind}
use Rattle.hb_second.specs.Items.{Word, Byte, Given, One, two_of, operator_in, run_given, write_of, no_binds}
use Rattle.hb_second.specs.Form.{atom_of, argument_of, operation_of}
use Rattle.hb_second.specs.Moves.{step, named_write, put_write, may_write}

pub byte_word : (vs : List (List ℕ)) (b : Bool) (value : ℕ) → (if b then if nat_lt value 256 then Some (Literal value) else None else None) ≡ option_and_then (atom_of vs) (if b then Some (Byte value) else None)
byte_word vs true value = refl
byte_word vs false value = refl

no_second : (o : Option Operator) (a : Option Atom) → operation_of a o None ≡ None
no_second None None = refl
no_second None (Some a) = refl
no_second (Some o) None = refl
no_second (Some o) (Some a) = refl

pub two_argument : (vs : List (List ℕ)) (a : Option Word) (o : Option Operator) (b : Option Word) → operation_of (option_and_then (atom_of vs) a) o (option_and_then (atom_of vs) b) ≡ option_and_then (argument_of vs) (two_of a o b)
two_argument vs None o b = refl
two_argument vs (Some a) None b = by_first (atom_of vs a)
  where
    by_first : (x : Option Atom) → operation_of x None (option_and_then (atom_of vs) b) ≡ None
    by_first None = refl
    by_first (Some x) = refl
two_argument vs (Some a) (Some o) None = no_second (Some o) (atom_of vs a)
two_argument vs (Some a) (Some o) (Some b) = refl

pub one_argument : (vs : List (List ℕ)) (a : Option Word) → option_map OneAtom (option_and_then (atom_of vs) a) ≡ option_and_then (argument_of vs) (option_map One a)
one_argument vs None = refl
one_argument vs (Some a) = refl

by_no_argument : (r : Reader) (b : Bool) (n : Option ℕ) → (if b then put_write r n None else None) ≡ None
by_no_argument r true None = refl
by_no_argument r true (Some n) = refl
by_no_argument r false n = refl

pub write_is : (r : Reader) (names : List (List ℕ)) (port : Option Name) (words : Option Given) → step r (write_of names port words) ≡ named_write r names port (option_and_then (argument_of r.variables) words)
write_is r names None None = refl
write_is r names None (Some words) = refl
write_is r names (Some port) None = absurd_later
  where
    absurd_later : step r (write_of names (Some port) None) ≡ named_write r names (Some port) None
    absurd_later = by_symmetry (by_no_argument r (may_write r) _)
      where
        by_symmetry : {x : Option Reader} → x ≡ None → None ≡ x
        by_symmetry e = cc
write_is r names (Some port) (Some words) = refl

-- ---- runs of another length

pub many_operators : (names : List (List ℕ)) (all : List Expr) → 2 ≤ length all → None ≡ operator_in names (exprs all)
many_operators names [] h = absurd (omega arith)
many_operators names (a ∷ []) h = absurd (omega arith)
many_operators names (a ∷ b ∷ rest) h = refl

pub few_operands : (vs names : List (List ℕ)) (all : List Expr) (operator : Option Operator) → length all < 2 → None ≡ option_and_then (argument_of vs) (run_given names (exprs all) operator)
few_operands vs names [] operator h = refl
few_operands vs names (a ∷ []) operator h = refl
few_operands vs names (a ∷ b ∷ rest) operator h = absurd (omega arith)

pub many_operands : (vs names : List (List ℕ)) (all : List Expr) (operator : Option Operator) → 3 ≤ length all → None ≡ option_and_then (argument_of vs) (run_given names (exprs all) operator)
many_operands vs names [] operator h = absurd (omega arith)
many_operands vs names (a ∷ []) operator h = absurd (omega arith)
many_operands vs names (a ∷ b ∷ []) operator h = absurd (omega arith)
many_operands vs names (a ∷ b ∷ c ∷ rest) operator h = refl

-- where a definition stands there are some
pub some_binds : (local : List Bind) → 1 ≤ length local → false ≡ no_binds (binds local)
some_binds [] h = absurd (omega arith)
some_binds (b ∷ rest) h = refl
