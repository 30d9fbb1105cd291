-- The grammar of declarations and programs as a table. Each symbol has the ways in which it may begin with a token, and what
-- stands behind that token; a symbol may begin with a thing that has a reader of its own; and it may be nothing, for which the
-- node of a form is put out.
use Rattle.std.specs.Prelude.{ℕ, nat_le, Bool, is_some, if◌then◌else◌, List, [], ◌∷◌, Option, Some, None}
use Rattle.hb_base.specs.declared.name.Name.{Name}
use Rattle.hb_base.specs.declared.place.Place.{Place}
use Rattle.hb_base.specs.declared.port.Dir.TheVariants.{In, Out}
use Rattle.hb_base.specs.Fixed.{pad, slash}
use Rattle.hb_tokens.specs.declared.token.Token.{Token}
use Rattle.hb_tokens.specs.declared.token.TokenKind.{TokenKind}
use Rattle.hb_tokens.specs.declared.token.TokenKind.TheVariants as token
use Rattle.hb_tokens.specs.declared.word.Word.{Word}
use Rattle.hb_tokens.specs.declared.word.Word.TheVariants as word
use Rattle.hb_tree.specs.declared.declaration.Fix.TheVariants.{Left, Right, Neither}
use Rattle.hb_grammar.specs.Declarations.{dir_name}
use Rattle.hb_read_types.specs.declared.node.TypeNode.TheVariants as type_node
use Rattle.hb_read_declarations.specs.declared.node.DeclNode.{DeclNode}
use Rattle.hb_read_declarations.specs.declared.node.DeclNode.TheVariants as node
use Rattle.hb_read_declarations.specs.Worths.{var, con, op, this_con, this_op, this_word, mark, number, digit, bits, end_of}
pub use Rattle.hb_read_program.specs.declared.symbol.Kind.{Kind}
pub use Rattle.hb_read_program.specs.declared.symbol.Kind.TheVariants as kind
pub use Rattle.hb_read_program.specs.declared.symbol.Put.{Put}
pub use Rattle.hb_read_program.specs.declared.symbol.Put.TheVariants as put
pub use Rattle.hb_read_program.specs.declared.symbol.Form.{Form}
pub use Rattle.hb_read_program.specs.declared.symbol.Form.TheVariants as form
pub use Rattle.hb_read_program.specs.declared.symbol.Things.{Things}
pub use Rattle.hb_read_program.specs.declared.symbol.Things.TheVariants as things
pub use Rattle.hb_read_program.specs.declared.symbol.Leaf.{Leaf}
pub use Rattle.hb_read_program.specs.declared.symbol.Leaf.TheVariants as leaf
pub use Rattle.hb_read_program.specs.declared.symbol.Symbol.{Symbol}
pub use Rattle.hb_read_program.specs.declared.symbol.Symbol.TheVariants as symbol
pub use Rattle.hb_read_program.specs.declared.symbol.Count.{Count}
pub use Rattle.hb_read_program.specs.declared.symbol.Count.TheVariants as count
pub use Rattle.hb_read_program.specs.declared.symbol.Item.{Item}
pub use Rattle.hb_read_program.specs.declared.symbol.Production.{Production}
pub use Rattle.hb_read_program.specs.declared.symbol.Production.TheVariants as production
pub use Rattle.hb_read_program.specs.declared.symbol.Head.{Head}

abbrev pub head : Kind → Put → Production → Head
head k p b = record { kind = k; put = p; behind = b }

-- a token that puts nothing out
abbrev pub mute : Kind → Production → Head
mute k b = head k put.Nothing b

abbrev pub word_head : Word → Production → Head
word_head w b = mute (kind.Word w) b

abbrev pub mark_head : ℕ → Production → Head
mark_head m b = mute (kind.Mark m) b

-- `}` and `]`, which put out the node of what they close
abbrev pub close_head : ℕ → Form → Head
close_head m f = head (kind.Mark m) (put.Close f) production.Nothing

-- the mark between things
abbrev pub between : Things → Kind
between things.Names = kind.Mark 44
between things.Infixes = kind.Mark 44
between things.FieldNames = kind.Mark 44
between things.DataCons = kind.Word word.Bar
between things.BitCons = kind.Word word.Bar
between things.StructParts = kind.Word word.Bar
between things.Depends = kind.Mark 44
between things.Preds = kind.Mark 44

abbrev pub thing : Things → Symbol
thing things.Names = symbol.Name
thing things.Infixes = symbol.Infix
thing things.FieldNames = symbol.One kind.Var put.Name
thing things.DataCons = symbol.DataCon
thing things.BitCons = symbol.BitCon
thing things.StructParts = symbol.StructPart
thing things.Depends = symbol.Depend
thing things.Preds = symbol.Read leaf.Pred

abbrev pub things_form : Things → Form
things_form things.Names = form.Names
things_form things.Infixes = form.Names
things_form things.FieldNames = form.Names
things_form things.DataCons = form.DataCons
things_form things.BitCons = form.BitCons
things_form things.StructParts = form.StructParts
things_form things.Depends = form.Depends
things_form things.Preds = form.Context

-- how each symbol begins with a token
abbrev pub heads : Symbol → List Head
heads (symbol.One k p) = head k p production.Nothing ∷ []
heads (symbol.More ts) = mute (between ts) (production.More ts) ∷ []
heads symbol.Program = mark_head 123 production.Program ∷ []
heads symbol.Tops = close_head 125 form.Program ∷ mark_head 59 production.Tops ∷ word_head word.Infixl (production.Fixity Left) ∷ word_head word.Infixr (production.Fixity Right) ∷ word_head word.Infix (production.Fixity Neither) ∷ word_head word.Data production.Data ∷ word_head word.Bitdata production.Bitdata ∷ word_head word.Struct production.Struct ∷ word_head word.Area production.Area ∷ word_head word.Port production.Port ∷ word_head word.Class production.Class ∷ word_head word.Instance production.Instance ∷ []
heads symbol.AfterTop = close_head 125 form.Program ∷ mark_head 59 production.Tops ∷ []
heads (symbol.Digit fix) = mute kind.Digit (production.Fixed fix) ∷ []
heads symbol.Infix = head kind.Op put.Name production.Nothing ∷ mark_head 96 production.Quoted ∷ []
heads symbol.Name = head kind.Var put.Name production.Nothing ∷ mark_head 40 production.Bracketed ∷ []
heads symbol.Vars = head kind.Var put.Name production.Vars ∷ []
heads symbol.SomeVars = head kind.Var put.Name production.FirstVars ∷ []
heads symbol.Size = mute kind.Slash production.Number ∷ []
heads symbol.Align = word_head word.Aligned production.Number ∷ []
heads symbol.DataCon = head kind.Con put.Name production.DataCon ∷ []
heads symbol.BitPart = head kind.Bits put.Tag production.Nothing ∷ head kind.Var put.Name production.BitFields ∷ []
heads symbol.BitParts = close_head 93 form.BitCon ∷ head kind.Bits put.Tag production.FirstBitPart ∷ head kind.Var put.Name production.FirstBitFields ∷ []
heads symbol.MoreBitParts = close_head 93 form.BitCon ∷ word_head word.Bar production.MoreBitParts ∷ []
heads symbol.BitCon = head kind.Con put.Name production.BitCon ∷ []
heads symbol.StructPart = mute kind.Pad production.Padding ∷ head kind.Var put.Name production.StructFields ∷ []
heads symbol.Start = word_head word.LeftArrow production.Start ∷ []
heads symbol.Init = word_head word.Each production.Each ∷ word_head word.Fields production.Fields ∷ []
heads symbol.FieldInit = head kind.Var put.Name production.FieldInit ∷ []
heads symbol.MoreInits = close_head 93 form.InitFields ∷ word_head word.Bar production.MoreInits ∷ []
heads symbol.Direction = mute (kind.Toward In) (production.Address In) ∷ mute (kind.Toward Out) (production.Address Out) ∷ []
heads symbol.Depend = head kind.Var put.Name production.Depend ∷ []
heads symbol.Depends = word_head word.Bar production.Depends ∷ []
heads symbol.Methods = word_head word.Where production.Methods ∷ []
heads symbol.Sigs = close_head 125 form.Sigs ∷ mark_head 59 production.Sigs ∷ head kind.Var put.Name production.SigNames ∷ mark_head 40 production.SigBracketed ∷ []
heads symbol.AfterSig = close_head 125 form.Sigs ∷ mark_head 59 production.Sigs ∷ []
heads symbol.Conditions = word_head word.If production.Conditions ∷ []
heads symbol.Body = word_head word.Where production.Body ∷ []
heads symbol.Rows = close_head 125 form.Equations ∷ mark_head 59 production.Rows ∷ []
heads symbol.AfterRow = close_head 125 form.Equations ∷ mark_head 59 production.Rows ∷ []
heads _ = []

abbrev pub item : Symbol → Count → Item
item s c = record { symbol = s; count = c }

abbrev pub plain : Symbol → Item
plain s = item s count.Zero

abbrev pub a_word : Word → Item
a_word w = plain (symbol.One (kind.Word w) put.Nothing)

abbrev pub a_mark : ℕ → Item
a_mark m = plain (symbol.One (kind.Mark m) put.Nothing)

abbrev pub a_var : Item
a_var = plain (symbol.One kind.Var put.Name)

abbrev pub a_con : Item
a_con = plain (symbol.One kind.Con put.Name)

abbrev pub a_number : Item
a_number = plain (symbol.One kind.Number put.Number)

abbrev pub a_leaf : Leaf → Item
a_leaf l = plain (symbol.Read l)

abbrev pub closing : Form → Item
closing f = plain (symbol.Close f)

abbrev pub more_of : Things → Item
more_of ts = item (symbol.More ts) count.One

-- what stands behind the first token
abbrev pub behind : Production → List Item
behind production.Nothing = []
behind production.Program = plain symbol.Tops ∷ plain (symbol.One kind.End put.Nothing) ∷ []
behind production.Tops = item symbol.Tops count.Same ∷ []
behind (production.Fixity fix) = plain (symbol.Digit fix) ∷ item symbol.AfterTop count.Next ∷ []
behind (production.Fixed fix) = plain symbol.Infix ∷ more_of things.Infixes ∷ item (symbol.Close (form.Fixity fix)) count.Read ∷ []
behind production.Data = a_con ∷ plain symbol.Vars ∷ a_word word.Equals ∷ plain symbol.DataCon ∷ more_of things.DataCons ∷ closing form.Data ∷ item symbol.AfterTop count.Next ∷ []
behind production.Bitdata = a_con ∷ plain symbol.Size ∷ a_word word.Equals ∷ plain symbol.BitCon ∷ more_of things.BitCons ∷ closing form.Bitdata ∷ item symbol.AfterTop count.Next ∷ []
behind production.Struct = a_con ∷ plain symbol.Size ∷ a_mark 91 ∷ plain symbol.StructPart ∷ more_of things.StructParts ∷ a_mark 93 ∷ closing form.Struct ∷ item symbol.AfterTop count.Next ∷ []
behind production.Area = a_var ∷ plain symbol.Start ∷ a_word word.DoubleColon ∷ a_leaf leaf.Type ∷ plain symbol.Align ∷ closing form.Area ∷ item symbol.AfterTop count.Next ∷ []
behind production.Port = a_var ∷ a_word word.DoubleColon ∷ plain symbol.Direction ∷ item symbol.AfterTop count.Next ∷ []
behind production.Class = plain symbol.ClassHead ∷ plain symbol.Depends ∷ plain symbol.Methods ∷ closing form.Class ∷ item symbol.AfterTop count.Next ∷ []
behind production.Instance = a_con ∷ plain symbol.SomeAtypes ∷ plain symbol.Conditions ∷ plain symbol.Body ∷ closing form.Instance ∷ item symbol.AfterTop count.Next ∷ []
behind production.Quoted = a_var ∷ a_mark 96 ∷ []
behind production.Bracketed = plain (symbol.One kind.Op put.NameBefore) ∷ a_mark 41 ∷ []
behind (production.More ts) = plain (thing ts) ∷ item (symbol.More ts) count.Next ∷ []
behind production.Vars = item symbol.Vars count.Next ∷ []
behind production.FirstVars = item symbol.Vars count.One ∷ []
behind production.Number = a_number ∷ []
behind production.DataCon = plain symbol.Atypes ∷ closing form.DataCon ∷ []
behind production.BitFields = more_of things.FieldNames ∷ a_word word.DoubleColon ∷ a_leaf leaf.Type ∷ closing form.Fields ∷ closing form.BitFields ∷ []
behind production.FirstBitPart = item symbol.MoreBitParts count.One ∷ []
behind production.FirstBitFields = more_of things.FieldNames ∷ a_word word.DoubleColon ∷ a_leaf leaf.Type ∷ closing form.Fields ∷ closing form.BitFields ∷ item symbol.MoreBitParts count.One ∷ []
behind production.MoreBitParts = plain symbol.BitPart ∷ item symbol.MoreBitParts count.Next ∷ []
behind production.BitCon = a_mark 91 ∷ plain symbol.BitParts ∷ []
behind production.Padding = plain (symbol.One kind.Number put.Pad) ∷ []
behind production.StructFields = more_of things.FieldNames ∷ a_word word.DoubleColon ∷ a_leaf leaf.Type ∷ closing form.Fields ∷ closing form.StructFields ∷ []
behind production.Start = plain symbol.Init ∷ closing form.Init ∷ []
behind production.Each = a_var ∷ a_word word.RightArrow ∷ plain symbol.Init ∷ closing form.InitEach ∷ []
behind production.Fields = a_mark 91 ∷ plain symbol.FieldInit ∷ item symbol.MoreInits count.One ∷ []
behind production.FieldInit = a_word word.LeftArrow ∷ plain symbol.Init ∷ closing form.InitField ∷ []
behind production.MoreInits = plain symbol.FieldInit ∷ item symbol.MoreInits count.Next ∷ []
behind (production.Address dir) = a_leaf leaf.Atype ∷ a_word word.At ∷ plain (symbol.One kind.Bits (put.Port dir)) ∷ []
behind production.Depend = item symbol.Vars count.One ∷ a_word word.RightArrow ∷ plain symbol.SomeVars ∷ closing form.Depend ∷ []
behind production.Depends = plain symbol.Depend ∷ more_of things.Depends ∷ []
behind production.Methods = a_mark 123 ∷ plain symbol.Sigs ∷ []
behind production.Sigs = item symbol.Sigs count.Same ∷ []
behind production.SigNames = more_of things.Names ∷ a_word word.DoubleColon ∷ a_leaf leaf.Qualified ∷ closing form.Sig ∷ item symbol.AfterSig count.Next ∷ []
behind production.SigBracketed = plain (symbol.One kind.Op put.NameBefore) ∷ a_mark 41 ∷ more_of things.Names ∷ a_word word.DoubleColon ∷ a_leaf leaf.Qualified ∷ closing form.Sig ∷ item symbol.AfterSig count.Next ∷ []
behind production.Conditions = a_leaf leaf.Pred ∷ more_of things.Preds ∷ []
behind production.Body = a_mark 123 ∷ plain symbol.Rows ∷ []
behind production.Rows = item symbol.Rows count.Same ∷ []

-- a symbol that begins with a thing that has a reader of its own: the reader, and what stands behind
pub data Begins : Type 0 where
  no_leaf : Begins
  begins : Leaf → List Item → Begins
  -- a signature or an equation, and then this
  begins_line : List Item → Begins
  -- [context "=>"] conid varid+
  begins_class : Begins

abbrev pub begins_with : Symbol → Begins
begins_with (symbol.Read l) = begins l []
begins_with symbol.Atypes = begins leaf.Atype (item symbol.Atypes count.Next ∷ [])
begins_with symbol.SomeAtypes = begins leaf.Atype (item symbol.Atypes count.One ∷ [])
begins_with symbol.Init = begins leaf.Expr (closing form.InitCell ∷ [])
begins_with symbol.Rows = begins leaf.Equation (item symbol.AfterRow count.Next ∷ [])
begins_with symbol.Tops = begins_line (item symbol.AfterTop count.Next ∷ [])
begins_with symbol.ClassHead = begins_class
begins_with _ = no_leaf

-- a symbol that may be nothing, and the form of the node that is put out for it
abbrev pub nothing_of : Symbol → Option Form
nothing_of (symbol.Close f) = Some f
nothing_of (symbol.More ts) = Some (things_form ts)
nothing_of symbol.Vars = Some form.Names
nothing_of symbol.Atypes = Some form.Types
nothing_of symbol.Size = Some form.NoNumber
nothing_of symbol.Align = Some form.NoNumber
nothing_of symbol.Start = Some form.NoInit
nothing_of symbol.Depends = Some form.Depends
nothing_of symbol.Methods = Some form.Sigs
nothing_of symbol.Conditions = Some form.Context
nothing_of symbol.Body = Some form.Equations
nothing_of _ = None

-- tokens

abbrev pub fits : Kind → Token → Bool
fits kind.Var t = is_some (var t)
fits kind.Con t = is_some (con t)
fits kind.Op t = is_some (op t)
fits kind.Number t = is_some (number t)
fits kind.Digit t = is_some (digit t)
fits kind.Bits t = is_some (bits t)
fits kind.Pad t = is_some (this_con pad t)
fits kind.Slash t = is_some (this_op slash t)
fits (kind.Toward dir) t = is_some (this_con (dir_name dir) t)
fits (kind.Word w) t = is_some (this_word w t)
fits (kind.Mark m) t = is_some (mark m t)
fits kind.End t = is_some (end_of t)

-- the way that begins with this token
abbrev pub found : List Head → Token → Option Head
found [] t = None
found (h ∷ hs) t = if fits h.kind t then Some h else found hs t

abbrev pub name_in : TokenKind → Name
name_in (token.VarId name) = name
name_in (token.ConId name) = name
name_in (token.Op name) = name
name_in _ = pad

abbrev pub number_in : TokenKind → ℕ
number_in (token.Number k) = k
number_in _ = 0

abbrev pub width_in : TokenKind → ℕ
width_in (token.Bits width k) = width
width_in _ = 0

abbrev pub bits_in : TokenKind → ℕ
bits_in (token.Bits width k) = k
bits_in _ = 0

-- a digit is at most 9
abbrev pub digit_in : ℕ → ℕ
digit_in n = if nat_le n 9 then n else 9

-- the node of a form that began at this place and has so many parts
abbrev pub node_of : Form → Place → ℕ → DeclNode
node_of form.Names p n = node.Names n
node_of form.Types p n = node.Types n
node_of form.NoNumber p n = node.NoNumber
node_of form.Sig p n = node.Sig p
node_of form.Sigs p n = node.Sigs n
node_of form.Equations p n = node.Equations n
node_of (form.Fixity fix) p n = node.Fixity p fix (digit_in n)
node_of form.DataCon p n = node.DataCon
node_of form.DataCons p n = node.DataCons n
node_of form.Fields p n = node.Fields
node_of form.BitFields p n = node.BitFields
node_of form.BitCon p n = node.BitCon n
node_of form.BitCons p n = node.BitCons n
node_of form.StructFields p n = node.StructFields
node_of form.StructParts p n = node.StructParts n
node_of form.Depend p n = node.Depend
node_of form.Depends p n = node.Depends n
node_of form.Context p n = node.Type (type_node.Context n)
node_of form.InitEach p n = node.InitEach p
node_of form.InitField p n = node.InitField
node_of form.InitFields p n = node.InitFields p n
node_of form.InitCell p n = node.InitCell p
node_of form.NoInit p n = node.NoInit
node_of form.Init p n = node.Init
node_of form.Data p n = node.Data p
node_of form.Bitdata p n = node.Bitdata p
node_of form.Struct p n = node.Struct p
node_of form.Area p n = node.Area p
node_of form.Class p n = node.Class p
node_of form.Instance p n = node.Instance p
node_of form.Program p n = node.Program n

-- what a token puts out, in a form that began at this place and has so many parts
abbrev pub put_out : Put → Place → ℕ → Token → List DeclNode
put_out put.Nothing p n t = []
put_out put.Name p n t = node.Name t.place (name_in t.kind) ∷ []
put_out put.NameBefore p n t = node.Name p (name_in t.kind) ∷ []
put_out put.Number p n t = node.Number (number_in t.kind) ∷ []
put_out put.Tag p n t = node.Tag (width_in t.kind) (bits_in t.kind) ∷ []
put_out put.Pad p n t = node.Pad (number_in t.kind) ∷ []
put_out (put.Port dir) p n t = node.Port p dir (width_in t.kind) (bits_in t.kind) ∷ []
put_out (put.Close f) p n t = node_of f p n ∷ []
