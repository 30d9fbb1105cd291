-- What the grammar says of a program, the table says.
use Rattle.std.proofs.Common.{◌≡◌, ◌+◌, true, List, [], ◌∷◌, ◌++◌, is_some, ap, ◌∙◌}
use Rattle.hb_tokens.specs.declared.token.Token.{Token}
use Rattle.hb_tree.specs.declared.declaration.Decl.{Decl}
use Rattle.hb_tree.specs.declared.declaration.Program.{Program}
use Rattle.hb_grammar.specs.Tokens.{IsEnd}
use Rattle.hb_grammar.specs.Declarations as grammar
use Rattle.hb_grammar.specs.Declarations.{ReadsDecl}
use Rattle.hb_read_declarations.specs.Exactly.{ProgramRead, program_read}
use Rattle.hb_engine.proofs.EngineLaw.{append_none, rows}
use Rattle.hb_read_declarations.specs.declared.node.DeclNode.TheVariants as node
use Rattle.hb_read_declarations.specs.Nodes.{counted, decl_nodes, program_nodes}
use Rattle.hb_read_declarations.specs.Worths.{kind_end}
use Rattle.hb_read_program.specs.Rules.{heads, fits}
use Rattle.hb_read_program.specs.declared.symbol.Kind.TheVariants as kind
use Rattle.hb_read_program.specs.declared.symbol.Put.TheVariants as put
use Rattle.hb_read_program.specs.declared.symbol.Symbol.TheVariants as symbol
use Rattle.hb_read_program.specs.Frames.{program_start}
use Rattle.hb_read_program.proofs.Counting.{none_plus}
use Rattle.hb_read_program.proofs.Finishes.{Rows, rows_as}
use Rattle.hb_read_program.proofs.Reading.{by_head, a_token}
use Rattle.hb_read_program.proofs.ReadingLists.{found_at}
use Rattle.hb_read_program.proofs.ReadingDecls.{DeclPuts, data_puts, decls_read}
use Rattle.hb_read_program.proofs.ReadingFixity.{fixity_puts}
use Rattle.hb_read_program.proofs.ReadingArea.{area_puts}
use Rattle.hb_read_program.proofs.ReadingLines.{equation_puts}
use Rattle.hb_read_program.proofs.ReadingBits.{bitdata_puts}
use Rattle.hb_read_program.proofs.ReadingStructs.{struct_puts}
use Rattle.hb_read_program.proofs.ReadingPorts.{port_puts}
use Rattle.hb_read_program.proofs.ReadingSigs.{sig_puts}
use Rattle.hb_read_program.proofs.ReadingClasses.{class_puts}
use Rattle.hb_read_program.proofs.ReadingInstances.{instance_puts}

-- a declaration
pub decl_puts : {ts us : List Token} {d : Decl} → ReadsDecl ts d us → DeclPuts d ts us
decl_puts (grammar.signature h) = sig_puts h
decl_puts (grammar.equation h) = equation_puts h
decl_puts (grammar.fixity {fix} d e l h) = fixity_puts fix d e l h
decl_puts (grammar.data_decl d e h f g) = data_puts d e h f g
decl_puts (grammar.bitdata_decl d e h f g) = bitdata_puts d e h f g
decl_puts (grammar.struct_decl d e h f g l) = struct_puts d e h f g l
decl_puts (grammar.area_decl d e h f g k) = area_puts d e h f g k
decl_puts (grammar.port_decl {dir} d e f g h i j) = port_puts dir d e f g h i j
decl_puts (grammar.class_decl d h e g k l) = class_puts d h e g k l
decl_puts (grammar.instance_decl d e h g k) = instance_puts d e h g k

end_fits : (t : Token) → IsEnd t → fits kind.End t ≡ true
end_fits t e = ap (λ k. is_some (kind_end t.place k)) e

-- whatever the grammar reads as a program, the table reads
pub program_rows : {ts us : List Token} {p : Program} → ProgramRead ts p us → Rows (program_start ∷ []) ts (program_nodes p) us
program_rows (program_read {t} {s} {ds} d h e) =
    rows_as (append_none ((counted decl_nodes ds).nodes ++ node.Program (0 + (counted decl_nodes ds).count) ∷ []) ∙ ap (λ k. (counted decl_nodes ds).nodes ++ node.Program k ∷ []) (none_plus (counted decl_nodes ds).count))
    (by_head symbol.Program (record { line = 0; col = 0 }) 0 (found_at (heads symbol.Program) t d) (rows (decls_read (λ ts us d h. decl_puts h) t.place 0 h) (a_token kind.End put.Nothing t.place 0 (end_fits s e))))
