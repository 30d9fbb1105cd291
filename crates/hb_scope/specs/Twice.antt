-- The names that are declared or bound twice, each where it comes again, over the settled program of the prelude and a source.
use Rattle.std.specs.Prelude.{ℕ, ◌+◌, Bool, true, false, ◌&&◌, ◌||◌, not, List, [], ◌∷◌, ◌++◌, map, nat_eq, if◌then◌else◌}
use Rattle.std.specs.List.{list_any, range_with_len}
use Rattle.hb_base.specs.declared.name.Name.{Name}
use Rattle.hb_base.specs.declared.place.Place.{Place}
use Rattle.hb_tree.specs.Patterns.{Pat}
use Rattle.hb_tree.specs.Expressions.{Binds, NoBinds, MoreBinds}
use Rattle.hb_tree.specs.declared.types.NameAt.{NameAt}
use Rattle.hb_tree.specs.declared.types.Sig.{Sig}
use Rattle.hb_tree.specs.declared.declaration.BitCon.{BitCon}
use Rattle.hb_tree.specs.declared.declaration.Decl.{Decl}
use Rattle.hb_tree.specs.declared.declaration.Decl.TheVariants as decl
use Rattle.hb_resolved.specs.declared.resolved.Binder.{Binder}
use Rattle.hb_resolved.specs.Scopes.{row_binders}
use Rattle.hb_resolved.specs.Things.{a_name, sig_names, con_names, repeated}
use Rattle.hb_settle.specs.Pieces.{Piece, ARun, ABlock, ARow, ASelection, AConstruction, AnUpdate, AStart, decls_pieces}
use Rattle.hb_scope.specs.Unbound.{is_name, of_all, bit_part_fields, struct_fields, field_names, start_names, bind_names}

-- ---- types, classes, constructors, fixities

-- the types, and then the predicates, that no declaration makes
abbrev pub built_in : List Name
built_in = a_name 1 ∷ a_name 2 ∷ map a_name (range_with_len 8 15)

abbrev pub sort_names : List Decl → List NameAt
sort_names [] = []
sort_names (decl.Data at name params cons ∷ ds) = name ∷ sort_names ds
sort_names (decl.Bitdata at name width cons ∷ ds) = name ∷ sort_names ds
sort_names (decl.Struct at name bytes parts ∷ ds) = name ∷ sort_names ds
sort_names (decl.Class at context name params depends sigs ∷ ds) = name ∷ sort_names ds
sort_names (d ∷ ds) = sort_names ds

abbrev pub fixity_names : List Decl → List NameAt
fixity_names [] = []
fixity_names (decl.Fixity at fix level names ∷ ds) = names ++ fixity_names ds
fixity_names (d ∷ ds) = fixity_names ds

-- ---- variables of the top

-- a signature and a definition of one name belong together; any other two are two declarations
pub data Role : Type 0 where
  Signed : Role
  Defined : Role
  Other : Role

abbrev pub go_together : Role → Role → Bool
go_together Signed Defined = true
go_together Defined Signed = true
go_together a b = false

pub record Entry : Type 0 where
  pub at : NameAt
  pub role : Role

abbrev pub entries_of : Role → List NameAt → List Entry
entries_of r names = map (λ n. record { at = n; role = r }) names

abbrev pub top_entries : List Decl → List Entry
top_entries [] = []
top_entries (decl.Sig s ∷ ds) = entries_of Signed s.names ++ top_entries ds
top_entries (decl.Equation b ∷ ds) = record { at = record { place = b.place; name = b.name }; role = Defined } ∷ top_entries ds
top_entries (decl.Area at name init of align ∷ ds) = record { at = name; role = Other } ∷ top_entries ds
top_entries (decl.Port at name way of width number ∷ ds) = record { at = name; role = Other } ∷ top_entries ds
top_entries (decl.Class at context name params depends sigs ∷ ds) = entries_of Other (sig_names sigs) ++ top_entries ds
top_entries (d ∷ ds) = top_entries ds

-- the second of two entries that declare one name twice
abbrev pub is_again : Entry → Entry → Bool
is_again before e = is_name before.at.name e.at.name && not (go_together before.role e.role)

abbrev pub again : List Entry → List Entry → List NameAt
again seen [] = []
again seen (e ∷ es) =
    if list_any (λ before. is_again before e) seen then e.at ∷ again (e ∷ seen) es else again (e ∷ seen) es

abbrev pub nowhere : Place
nowhere = record { line = 0; col = 0 }

abbrev pub primitive_entries : List Entry
primitive_entries = map (λ n. record { at = record { place = nowhere; name = a_name (31 + n) }; role = Other }) (range_with_len 0 38)

-- ---- lists in which each name comes once

abbrev pub binder_name : Binder → NameAt
binder_name b = record { place = b.place; name = b.name }

abbrev pub bit_cons_twice : List BitCon → List NameAt
bit_cons_twice [] = []
bit_cons_twice (c ∷ cs) = repeated [] (bit_part_fields c.parts) ++ bit_cons_twice cs

abbrev pub decl_twice : Decl → List NameAt
decl_twice (decl.Data at name params cons) = repeated [] params
decl_twice (decl.Bitdata at name width cons) = bit_cons_twice cons
decl_twice (decl.Struct at name bytes parts) = repeated [] (struct_fields parts)
decl_twice (decl.Class at context name params depends sigs) = repeated [] params
decl_twice d = []

abbrev pub piece_twice : Piece → List NameAt
piece_twice (ABlock bs) = repeated [] (bind_names bs)
piece_twice (ARow ps) = repeated [] (map binder_name (row_binders ps))
piece_twice (AnUpdate fs) = repeated [] (field_names fs)
piece_twice (AStart fs) = repeated [] (start_names fs)
piece_twice p = []

-- ---- all of them

abbrev pub twice : List Decl → List NameAt
twice ds =
    repeated built_in (sort_names ds)
    ++ repeated [] (con_names ds)
    ++ again primitive_entries (top_entries ds)
    ++ repeated [] (fixity_names ds)
    ++ of_all decl_twice ds
    ++ of_all piece_twice (decls_pieces ds)
