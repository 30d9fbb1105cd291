-- The table keeps what is asked of it, by computation.
use Rattle.std.proofs.Common.{◌≡◌, true, refl}
use Rattle.hb_read_program.specs.Rules.{Symbol}
use Rattle.hb_read_program.specs.declared.symbol.Leaf.TheVariants as leaf
use Rattle.hb_read_program.specs.declared.symbol.Symbol.TheVariants as symbol
use Rattle.hb_read_program.specs.declared.symbol.Things.TheVariants as things
use Rattle.hb_read_program.specs.Sets.{keeps, ends_within}

pub table_keeps : (s : Symbol) → keeps s ≡ true
table_keeps (symbol.One k p) = refl
table_keeps (symbol.Read leaf.Type) = refl
table_keeps (symbol.Read leaf.Atype) = refl
table_keeps (symbol.Read leaf.Pred) = refl
table_keeps (symbol.Read leaf.Qualified) = refl
table_keeps (symbol.Read leaf.Expr) = refl
table_keeps (symbol.Read leaf.Equation) = refl
table_keeps (symbol.Close f) = refl
table_keeps (symbol.More things.Names) = refl
table_keeps (symbol.More things.Infixes) = refl
table_keeps (symbol.More things.FieldNames) = refl
table_keeps (symbol.More things.DataCons) = refl
table_keeps (symbol.More things.BitCons) = refl
table_keeps (symbol.More things.StructParts) = refl
table_keeps (symbol.More things.Depends) = refl
table_keeps (symbol.More things.Preds) = refl
table_keeps (symbol.Digit fix) = refl
table_keeps symbol.Program = refl
table_keeps symbol.Tops = refl
table_keeps symbol.AfterTop = refl
table_keeps symbol.Infix = refl
table_keeps symbol.Name = refl
table_keeps symbol.Vars = refl
table_keeps symbol.SomeVars = refl
table_keeps symbol.Atypes = refl
table_keeps symbol.SomeAtypes = refl
table_keeps symbol.Size = refl
table_keeps symbol.Align = refl
table_keeps symbol.DataCon = refl
table_keeps symbol.BitPart = refl
table_keeps symbol.BitParts = refl
table_keeps symbol.MoreBitParts = refl
table_keeps symbol.BitCon = refl
table_keeps symbol.StructPart = refl
table_keeps symbol.Start = refl
table_keeps symbol.Init = refl
table_keeps symbol.FieldInit = refl
table_keeps symbol.MoreInits = refl
table_keeps symbol.Direction = refl
table_keeps symbol.Depend = refl
table_keeps symbol.Depends = refl
table_keeps symbol.Methods = refl
table_keeps symbol.Sigs = refl
table_keeps symbol.AfterSig = refl
table_keeps symbol.Conditions = refl
table_keeps symbol.Body = refl
table_keeps symbol.Rows = refl
table_keeps symbol.AfterRow = refl
table_keeps symbol.ClassHead = refl

pub table_ends : (s : Symbol) → ends_within 20 s ≡ true
table_ends (symbol.One k p) = refl
table_ends (symbol.Read leaf.Type) = refl
table_ends (symbol.Read leaf.Atype) = refl
table_ends (symbol.Read leaf.Pred) = refl
table_ends (symbol.Read leaf.Qualified) = refl
table_ends (symbol.Read leaf.Expr) = refl
table_ends (symbol.Read leaf.Equation) = refl
table_ends (symbol.Close f) = refl
table_ends (symbol.More things.Names) = refl
table_ends (symbol.More things.Infixes) = refl
table_ends (symbol.More things.FieldNames) = refl
table_ends (symbol.More things.DataCons) = refl
table_ends (symbol.More things.BitCons) = refl
table_ends (symbol.More things.StructParts) = refl
table_ends (symbol.More things.Depends) = refl
table_ends (symbol.More things.Preds) = refl
table_ends (symbol.Digit fix) = refl
table_ends symbol.Program = refl
table_ends symbol.Tops = refl
table_ends symbol.AfterTop = refl
table_ends symbol.Infix = refl
table_ends symbol.Name = refl
table_ends symbol.Vars = refl
table_ends symbol.SomeVars = refl
table_ends symbol.Atypes = refl
table_ends symbol.SomeAtypes = refl
table_ends symbol.Size = refl
table_ends symbol.Align = refl
table_ends symbol.DataCon = refl
table_ends symbol.BitPart = refl
table_ends symbol.BitParts = refl
table_ends symbol.MoreBitParts = refl
table_ends symbol.BitCon = refl
table_ends symbol.StructPart = refl
table_ends symbol.Start = refl
table_ends symbol.Init = refl
table_ends symbol.FieldInit = refl
table_ends symbol.MoreInits = refl
table_ends symbol.Direction = refl
table_ends symbol.Depend = refl
table_ends symbol.Depends = refl
table_ends symbol.Methods = refl
table_ends symbol.Sigs = refl
table_ends symbol.AfterSig = refl
table_ends symbol.Conditions = refl
table_ends symbol.Body = refl
table_ends symbol.Rows = refl
table_ends symbol.AfterRow = refl
table_ends symbol.ClassHead = refl
