-- A program and its end, read as the grammar says.
use Rattle.std.proofs.Common.{◌≡◌, List, [], ◌∷◌, refl, subst}
use Rattle.hb_tokens.specs.declared.token.Token.{Token}
use Rattle.hb_tree.specs.declared.declaration.Program.{Program}
use Rattle.hb_grammar.specs.Declarations as grammar
use Rattle.hb_grammar.specs.Declarations.{ReadsDecls, Derives}
use Rattle.hb_read_declarations.specs.Exactly.{ProgramRead, program_read}

-- where nothing is left, it is a program

nothing_left : {ts us : List Token} {p : Program} → ProgramRead ts p us → us ≡ [] → Derives ts p
nothing_left (program_read {s} {ts} {ds} d h f) e = let P : List Token → Type 0 = λ us. ReadsDecls ts ds (s ∷ us) in grammar.program d (subst P e h) f

pub derived : {ts : List Token} {p : Program} → ProgramRead ts p [] → Derives ts p
derived h = nothing_left h refl

pub deriving_reads : {ts : List Token} {p : Program} → Derives ts p → ProgramRead ts p []
deriving_reads (grammar.program d h f) = program_read d h f
