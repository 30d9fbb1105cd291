-- What the readers of patterns read: just what the grammar says, and what comes out is the pattern's nodes.
use Rattle.std.specs.Prelude.{◌≡◌, Bool, true, false, List, None}
use Rattle.hb_tokens.specs.declared.token.Token.{Token}
use Rattle.hb_tree.specs.Patterns.{Pat, Pats}
use Rattle.hb_grammar.specs.Patterns.{ReadsPat, ReadsApat, ReadsApats}
use Rattle.hb_grammar.specs.Reading.{Exact}
use Rattle.hb_read_patterns.specs.declared.node.PatNode.{PatNode}
use Rattle.hb_read_patterns.specs.declared.sort.Sort.{Sort}
use Rattle.hb_read_patterns.specs.declared.sort.Sort.TheVariants.{Variable, Wildcard, Number, Bits, Constructor, Open, OpenSquare}
use Rattle.hb_read_patterns.specs.declared.reader.PatReader.{PatReader}
use Rattle.hb_read_patterns.specs.Sorts.{sort_of}
use Rattle.hb_read_patterns.specs.Nodes.{pat_nodes, row_nodes}
use Rattle.hb_read_patterns.specs.Moves.{moved, pat_reader, apat_reader, apats_reader}

-- the tokens ts begin with a pattern of these nodes, and us are left
pub record PatOf (ts : List Token) (nodes : List PatNode) (us : List Token) : Type 0 where
  pub pat : Pat
  pub reads : ReadsPat ts pat us
  pub is : nodes ≡ pat_nodes pat

-- the same of a simple pattern, and of any number of them
pub record ApatOf (ts : List Token) (nodes : List PatNode) (us : List Token) : Type 0 where
  pub pat : Pat
  pub reads : ReadsApat ts pat us
  pub is : nodes ≡ pat_nodes pat

pub record ApatsOf (ts : List Token) (nodes : List PatNode) (us : List Token) : Type 0 where
  pub pats : Pats
  pub reads : ReadsApats ts pats us
  pub is : nodes ≡ row_nodes pats

abbrev pub PatReaderIsExact : Type 0
PatReaderIsExact = Exact pat_reader PatOf

abbrev pub ApatReaderIsExact : Type 0
ApatReaderIsExact = Exact apat_reader ApatOf

abbrev pub ApatsReaderIsExact : Type 0
ApatsReaderIsExact = Exact apats_reader ApatsOf

-- a token that begins a simple pattern, or `[`
abbrev pub goes_on : Sort → Bool
goes_on (Variable name) = true
goes_on Wildcard = true
goes_on (Number k) = true
goes_on (Bits width k) = true
goes_on (Constructor name) = true
goes_on Open = true
goes_on OpenSquare = true
goes_on sort = false

-- no other token is taken
abbrev pub EndsBefore : PatReader → Type 0
EndsBefore reader = (t : Token) → goes_on (sort_of t.kind) ≡ false → moved reader t ≡ None
