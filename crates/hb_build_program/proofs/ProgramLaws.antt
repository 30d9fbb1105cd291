-- What the builder of programs answers, and that a program as it is read is determined by its nodes.
use Rattle.std.proofs.Common.{◌≡◌, refl, ap, sym, ◌∙◌, List, Option, Some, None}
use Rattle.hb_tree.specs.declared.declaration.Program.{Program}
use Rattle.hb_read_declarations.specs.declared.node.DeclNode.{DeclNode}
use Rattle.hb_read_declarations.specs.Nodes.{program_nodes}
use Rattle.hb_build.specs.Building.{built}
use Rattle.hb_build.proofs.BuildingLaws.{same}
use Rattle.hb_build_program.specs.declared.builder.DeclBuilder.{DeclBuilder}
use Rattle.hb_build_program.specs.States.{start}
use Rattle.hb_build_program.specs.DeclarationSteps.{stepped}
use Rattle.hb_build_program.specs.ParsedProgram.{IsParsed}
use Rattle.hb_build_program.proofs.DeclarationsFound.{program_found}

-- the program, where its last node is taken
abbrev pub program_of : Option DeclBuilder → Option Program
program_of None = None
program_of (Some s) = s.whole

pub program_is : (s : Option DeclBuilder) (nodes : List DeclNode) (p : Program) → s ≡ built stepped (Some start) nodes → IsParsed p → nodes ≡ program_nodes p → program_of s ≡ Some p
program_is s nodes p b u h = ap program_of (b ∙ ap (built stepped (Some start)) h ∙ program_found p u)

-- two programs as they are read that have the same nodes are one
pub programs_alike : (p q : Program) → IsParsed p → IsParsed q → program_nodes p ≡ program_nodes q → p ≡ q
programs_alike p q u v e = same p q (sym (program_is (built stepped (Some start) (program_nodes p)) (program_nodes p) p refl u refl) ∙ program_is (built stepped (Some start) (program_nodes p)) (program_nodes p) q refl v e)
