-- How the logic stores equations.
use Rattle.std.specs.Prelude.{List, refl}
use Rattle.std.specs.Coded.{Coded, code_by, coded×, coded_list}
use Rattle.hb_types.specs.Types.{Ty}
use Rattle.hb_types.specs.TypeCodes.{coded_types}
use Rattle.hb_unknowns.specs.declared.node.Entry.{Entry}
use Rattle.hb_unknowns.specs.contracts.node.Entry as entry
use Rattle.hb_unknowns.specs.Equations.{Equations, equations}

abbrev pub coded_equations : Coded Equations
coded_equations = code_by (List Ty × List Entry) (coded× coded_types (coded_list entry.the_row.coded)) (λ e. (e.types, e.entries)) (λ p. equations p.0 p.1) (λ _. refl)
