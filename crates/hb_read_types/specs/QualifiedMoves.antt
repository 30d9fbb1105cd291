-- The reader of a type that may have a context before it, as a machine: both are read side by side, until `=>`.
use Rattle.std.specs.Prelude.{List, [], ◌∷◌, Bool, true, false, Option, Some, None, if◌then◌else◌}
use Rattle.hb_tokens.specs.declared.token.Token.{Token}
use Rattle.hb_tokens.specs.declared.token.TokenKind.{TokenKind}
use Rattle.hb_tokens.specs.declared.token.TokenKind.TheVariants.{Word as AWord}
use Rattle.hb_tokens.specs.declared.word.Word.{Word}
use Rattle.hb_tokens.specs.declared.word.Word.TheVariants.{DoubleArrow}
use Rattle.hb_grammar.specs.Reading.{Reader}
use Rattle.hb_read_types.specs.declared.node.TypeNode.{TypeNode}
use Rattle.hb_read_types.specs.declared.node.TypeNode.TheVariants as node
use Rattle.hb_read_types.specs.declared.type_reader.Now.TheVariants.{Want}
use Rattle.hb_read_types.specs.declared.type_reader.TypeReader.{TypeReader}
use Rattle.hb_read_types.specs.declared.context_reader.ContextReader.{ContextReader}
use Rattle.hb_read_types.specs.declared.qualified_reader.QualifiedReader.{QualifiedReader}
use Rattle.hb_read_types.specs.TypeMoves.{state, type_move, type_done}
use Rattle.hb_read_types.specs.ContextMoves.{context_move, context_done, context_start}

abbrev pub is_double_arrow_word : Word → Bool
is_double_arrow_word DoubleArrow = true
is_double_arrow_word _ = false

abbrev pub is_double_arrow_kind : TokenKind → Bool
is_double_arrow_kind (AWord word) = is_double_arrow_word word
is_double_arrow_kind _ = false

abbrev pub is_double_arrow : Token → Bool
is_double_arrow t = is_double_arrow_kind t.kind

-- the context that may be read, whether a type is read, and its reader
abbrev pub qualified_state : Option ContextReader → Bool → TypeReader → QualifiedReader
qualified_state context is_type types = record { context = context; is_type = is_type; types = types }

-- the type behind these nodes
abbrev pub type_behind : List TypeNode → TypeReader
type_behind nodes = state true Want [] nodes

abbrev pub turned_to : Option (List TypeNode) → Option QualifiedReader
turned_to None = None
turned_to (Some nodes) = Some (qualified_state None true (type_behind nodes))

abbrev pub context_whole : Option ContextReader → Option (List TypeNode)
context_whole None = None
context_whole (Some context) = context_done context

-- `=>`: the type begins behind a whole context
abbrev pub turned : Option ContextReader → Option QualifiedReader
turned context = turned_to (context_whole context)

abbrev pub context_moved : Option ContextReader → Token → Option ContextReader
context_moved None t = None
context_moved (Some context) t = context_move context t

abbrev pub types_moved : Bool → TypeReader → Token → Option TypeReader
types_moved false types t = None
types_moved true types t = type_move types t

-- what takes the token goes on
abbrev pub together : TypeReader → Option TypeReader → Option ContextReader → Option QualifiedReader
together old None None = None
together old None (Some context) = Some (qualified_state (Some context) false old)
together old (Some types) context = Some (qualified_state context true types)

unfoldable pub qualified_move : QualifiedReader → Token → Option QualifiedReader
qualified_move r t = if is_double_arrow t then turned r.context else together r.types (types_moved r.is_type r.types t) (context_moved r.context t)

abbrev pub qualified_done_at : Bool → TypeReader → Option (List TypeNode)
qualified_done_at false types = None
qualified_done_at true types = type_done types

unfoldable pub qualified_done : QualifiedReader → Option (List TypeNode)
qualified_done r = qualified_done_at r.is_type r.types

abbrev pub qualified_start : QualifiedReader
qualified_start = qualified_state (Some (context_start [])) true (type_behind (node.Context 0 ∷ []))

-- the reader of a type that may have a context before it
abbrev pub qualified_reader : Reader QualifiedReader (List TypeNode)
qualified_reader = record { start = qualified_start; move = qualified_move; done = qualified_done }
