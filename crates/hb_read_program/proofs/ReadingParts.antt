-- What the grammar says is what the table says: things with readers of their own, sizes, infixes, fields and areas.
use Rattle.std.proofs.Common.{ℕ, List, [], ◌∷◌, Option, refl}
use Rattle.hb_base.specs.declared.name.Name.{Name}
use Rattle.hb_base.specs.declared.place.Place.{Place}
use Rattle.hb_tokens.specs.declared.token.Token.{Token}
use Rattle.hb_tree.specs.declared.types.NameAt.{NameAt}
use Rattle.hb_tree.specs.Types.{TypeExpr}
use Rattle.hb_grammar.specs.Types.{name_at, ReadsType}
use Rattle.hb_grammar.specs.Expressions as expressions
use Rattle.hb_grammar.specs.Expressions.{ReadsInfix}
use Rattle.hb_grammar.specs.Declarations as grammar
use Rattle.hb_grammar.specs.Declarations.{a_name, ReadsInfixes, ReadsFieldNames, ReadsFieldDecl, ReadsSize, ReadsAlign}
use Rattle.hb_engine.specs.Tables.{row_end}
use Rattle.hb_engine.proofs.EngineLaw.{append_none, rows}
use Rattle.hb_read_declarations.specs.Nodes.{named, names_of, number_of, type_of}
use Rattle.hb_read_declarations.specs.Readers.{Out}
use Rattle.hb_read_declarations.proofs.Known.{if_true}
use Rattle.hb_read_declarations.proofs.Lists.{made, head_of}
use Rattle.hb_read_declarations.proofs.Names.{InfixRead, infixes_back}
use Rattle.hb_read_program.specs.Rules.{Leaf, heads, fits}
use Rattle.hb_read_program.specs.declared.symbol.Kind.TheVariants as kind
use Rattle.hb_read_program.specs.declared.symbol.Symbol.TheVariants as symbol
use Rattle.hb_read_program.specs.declared.symbol.Things.TheVariants as things
use Rattle.hb_read_program.specs.declared.symbol.Leaf.TheVariants as leaf
use Rattle.hb_read_program.specs.Frames.{waits}
use Rattle.hb_read_program.proofs.TableLaws.{LeafReads}
use Rattle.hb_read_program.proofs.Finishes.{Rows, rows_as, LeafBegun, leaf_begun, leaf_symbol}
use Rattle.hb_read_program.proofs.Reading.{by_head, by_nothing, a_var, a_mark, a_number, op_fits, mark_fits, name_put}
use Rattle.hb_read_program.proofs.ReadingLists.{found_at, Puts, things_read}

-- a thing with a reader of its own
leaf_alone : (l : Leaf) (p : Place) (n : ℕ) {ts us : List Token} {v : Out} → LeafBegun l (symbol.Read l) p n [] ts v us → Rows (waits (symbol.Read l) p n ∷ []) ts v us
leaf_alone l p n {us} {v} (leaf_begun t rest e k) = rows_as (append_none v) (k [] us row_end)

pub leaf_read : (l : Leaf) (p : Place) (n : ℕ) {ts us : List Token} {v : Out} → LeafReads l ts v us → Rows (waits (symbol.Read l) p n ∷ []) ts v us
leaf_read l p n h = leaf_alone l p n (leaf_symbol l (symbol.Read l) p n [] refl h)

pub type_read : (p : Place) (n : ℕ) {ts us : List Token} {a : TypeExpr} → ReadsType ts a us → Rows (waits (symbol.Read leaf.Type) p n ∷ []) ts (type_of a) us
type_read p n {a} h = leaf_read leaf.Type p n (made a h)

-- ["/" number] and ["aligned" number]
pub size_read : (p : Place) (n : ℕ) {ts us : List Token} {o : Option ℕ} → ReadsSize ts o us → Rows (waits symbol.Size p n ∷ []) ts (number_of o) us
size_read p n grammar.no_size = by_nothing symbol.Size p n refl
size_read p n (grammar.size {t} d e) = by_head symbol.Size p n (found_at (heads symbol.Size) t d) (a_number t.place 0 e)

pub align_read : (p : Place) (n : ℕ) {ts us : List Token} {o : Option ℕ} → ReadsAlign ts o us → Rows (waits symbol.Align p n ∷ []) ts (number_of o) us
align_read p n grammar.no_align = by_nothing symbol.Align p n refl
align_read p n (grammar.align {t} d e) = by_head symbol.Align p n (found_at (heads symbol.Align) t d) (a_number t.place 0 e)

-- infix = op | "`" varid "`"
pub infix_read : (p : Place) (n : ℕ) {ts us : List Token} {q : Place} {name : Name} → ReadsInfix ts q name us → Rows (waits symbol.Infix p n ∷ []) ts (named (a_name q name)) us
infix_read p n (expressions.op {t} e) = rows_as (name_put t e refl) (by_head symbol.Infix p n (if_true (fits kind.Op t) _ _ (op_fits t e)) row_end)
infix_read p n (expressions.named {t} {s} {name} d e f) = by_head symbol.Infix p n (found_at (heads symbol.Infix) t d) (rows_as (append_none (named (name_at s name))) (rows (a_var t.place 0 e) (a_mark 96 t.place 0 f)))

infix_puts : Puts symbol.Infix InfixRead named
infix_puts p n ts us a h = infix_read p n h

pub infixes_read : (p q : Place) (n : ℕ) {ts us : List Token} {ns : List NameAt} → ReadsInfixes ts ns us → Rows (waits symbol.Infix p n ∷ waits (symbol.More things.Infixes) q 1 ∷ []) ts (names_of ns) us
infixes_read p q n h = things_read things.Infixes named (λ t e. mark_fits 44 t e) infix_puts p q n (head_of (infixes_back h))
