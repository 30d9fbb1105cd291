-- The rows of a definition that have another number of patterns than its first row, over a program as it is written: there
-- each row is a definition of its own, and those of one name that stand next to each other belong together.
use Rattle.std.specs.Prelude.{ℕ, Bool, true, false, ◌&&◌, List, [], ◌∷◌, ◌++◌, length, nat_eq, Option, Some, None, if◌then◌else◌}
use Rattle.hb_base.specs.declared.name.Name.{Name}
use Rattle.hb_base.specs.declared.place.Place.{Place}
use Rattle.hb_tree.specs.Expressions.{Binds, NoBinds, MoreBinds, Equations, NoEquations, MoreEquations}
use Rattle.hb_tree.specs.ExpressionViews.{equations}
use Rattle.hb_tree.specs.declared.types.NameAt.{NameAt}
use Rattle.hb_tree.specs.declared.declaration.Decl.{Decl}
use Rattle.hb_tree.specs.declared.declaration.Decl.TheVariants as decl
use Rattle.hb_settle.specs.Pieces.{Piece, ARun, ABlock, ARow, ASelection, AConstruction, AnUpdate, AStart, decls_pieces}

-- a definition that rows may still belong to: its name, and the number of patterns of its first row
pub record Open : Type 0 where
  pub name : Name
  pub width : ℕ

abbrev pub width_of : Equations → ℕ
width_of NoEquations = 0
width_of (MoreEquations ps first e bs rows) = length ps

-- the next row belongs to the definition
abbrev pub goes_on : Option Open → Name → Bool
goes_on None x = false
goes_on (Some d) x = nat_eq d.name.0 x.0

abbrev pub is_as_wide : Option Open → ℕ → Bool
is_as_wide None w = true
is_as_wide (Some d) w = nat_eq d.width w

abbrev pub row_flaws : Option Open → Name → Place → Equations → List NameAt
row_flaws d x at rows =
    if goes_on d x
    then (if is_as_wide d (width_of rows) then [] else record { place = at; name = x } ∷ [])
    else []

abbrev pub next_open : Option Open → Name → Equations → Option Open
next_open d x rows = if goes_on d x then d else Some (record { name = x; width = width_of rows })

abbrev pub block_flaws : Option Open → Binds → List NameAt
block_flaws d NoBinds = []
block_flaws d (MoreBinds x at rows bs) = row_flaws d x at rows ++ block_flaws (next_open d x rows) bs

abbrev pub piece_flaws : Piece → List NameAt
piece_flaws (ABlock bs) = block_flaws None bs
piece_flaws p = []

abbrev pub pieces_flaws : List Piece → List NameAt
pieces_flaws [] = []
pieces_flaws (p ∷ ps) = piece_flaws p ++ pieces_flaws ps

-- at the top any other declaration stands between
abbrev pub top_flaws : Option Open → List Decl → List NameAt
top_flaws d [] = []
top_flaws d (decl.Equation b ∷ ds) = row_flaws d b.name b.place (equations b.rows) ++ top_flaws (next_open d b.name (equations b.rows)) ds
top_flaws d (x ∷ ds) = top_flaws None ds

abbrev pub uneven : List Decl → List NameAt
uneven ds = top_flaws None ds ++ pieces_flaws (decls_pieces ds)
