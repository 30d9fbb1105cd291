-- What a token is to a type or a predicate.
use Rattle.std.specs.Prelude.{ℕ, ◌==◌, if◌then◌else◌}
use Rattle.hb_base.specs.declared.name.Name.{Name}
use Rattle.hb_base.specs.declared.place.Place.{Place}
use Rattle.hb_base.specs.Fixed.{plus, times, power, at_most, wildcard}
use Rattle.hb_tokens.specs.declared.token.Token.{Token}
use Rattle.hb_tokens.specs.declared.token.TokenKind.{TokenKind}
use Rattle.hb_tokens.specs.declared.token.TokenKind.TheVariants.{VarId, ConId, Op, Word as AWord, Number, Bits, Mark, Dot, End}
use Rattle.hb_tokens.specs.declared.word.Word.{Word}
use Rattle.hb_tokens.specs.declared.word.Word.TheVariants.{Equals as EqualsWord, RightArrow}
use Rattle.hb_read_types.specs.declared.node.TypeNode.TheVariants as node
use Rattle.hb_read_types.specs.declared.sort.Sort.{Sort}
use Rattle.hb_read_types.specs.declared.sort.Sort.TheVariants.{Atom, Open, Close, Comma, Arrow, Equals, Plus, Times, Power, AtMost, Other}

abbrev pub word_sort : Word → Sort
word_sort EqualsWord = Equals
word_sort RightArrow = Arrow
word_sort _ = Other

abbrev pub var_sort : Place → Name → Sort
var_sort place name = if name.0 == wildcard.0 then Other else Atom (node.Var place name)

abbrev pub op_sort : Name → Sort
op_sort name = if name.0 == plus.0 then Plus else if name.0 == times.0 then Times else if name.0 == power.0 then Power else if name.0 == at_most.0 then AtMost else Other

-- `(` is 40, `)` 41 and `,` 44
abbrev pub mark_sort : ℕ → Sort
mark_sort byte = if byte == 40 then Open else if byte == 41 then Close else if byte == 44 then Comma else Other

abbrev pub kind_sort : Place → TokenKind → Sort
kind_sort place (VarId name) = var_sort place name
kind_sort place (ConId name) = Atom (node.Con place name)
kind_sort place (Op name) = op_sort name
kind_sort place (AWord word) = word_sort word
kind_sort place (Number number) = Atom (node.Number place number)
kind_sort place (Bits width number) = Other
kind_sort place (Mark byte) = mark_sort byte
kind_sort place Dot = Other
kind_sort place End = Other

abbrev pub sort_of : Token → Sort
sort_of t = kind_sort t.place t.kind
