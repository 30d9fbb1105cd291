-- The first refusal of a program by its names: of the first rule that is broken, the fault at the earliest place.
use Rattle.std.specs.Prelude.{ℕ, List, [], ◌∷◌, ◌++◌, slice_get, take, Option, Some, None}
use Rattle.hb_base.specs.declared.name.Name.{Name}
use Rattle.hb_base.specs.declared.refusal.Code.{Code}
use Rattle.hb_base.specs.declared.refusal.Code.TheVariants.{E06, E07, E08, E09}
use Rattle.hb_base.specs.declared.refusal.Refusal.{Refusal}
use Rattle.hb_tree.specs.declared.types.NameAt.{NameAt}
use Rattle.hb_tree.specs.declared.declaration.Decl.{Decl}
use Rattle.hb_resolved.specs.Scopes.{Scope}
use Rattle.hb_resolved.specs.Things.{signed, defined, missing}
use Rattle.hb_settle.specs.Order.{earliest}
use Rattle.hb_settle.specs.Uneven.{uneven}
use Rattle.hb_settle.specs.Clashes.{clashes}
use Rattle.hb_scope.specs.Unbound.{unbound}
use Rattle.hb_scope.specs.Twice.{twice}

-- definitions without signature, and signatures without definition
abbrev pub lone : List Decl → List NameAt
lone ds = missing (signed ds) (defined ds) ++ missing (defined ds) (signed ds)

abbrev pub text_or_none : Option (List ℕ) → List ℕ
text_or_none None = []
text_or_none (Some text) = text

-- the refusal for the earliest of some faults, or else the other
abbrev pub told : List (List ℕ) → Code → Option NameAt → Option Refusal → Option Refusal
told names code None other = other
told names code (Some at) other = Some (record { code = code; place = at.place; detail = take 200 (text_or_none (slice_get names at.name.0)) })

-- `prelude` and `source` are as they are written, `settled` is the settled program of both, with so many nodes, and `scope` what
-- names mean at its top
abbrev pub first_refusal : List (List ℕ) → (prelude source settled : List Decl) → ℕ → Scope → Option Refusal
first_refusal names prelude source settled nodes scope =
    told names E06 (earliest (unbound nodes scope settled))
    (told names E07 (earliest (twice settled ++ uneven prelude ++ uneven source))
    (told names E08 (earliest (clashes (prelude ++ source) prelude ++ clashes (prelude ++ source) source))
    (told names E09 (earliest (lone settled)) None)))
