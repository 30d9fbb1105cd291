-- What is still to come: the tokens that complete a reader. `K out ts` says that the tokens ts complete what is around,
-- once these nodes are put out.
use Rattle.std.proofs.Common.{◌≡◌, ℕ, List, [], ◌∷◌, ◌++◌, Option, Some, None}
use Rattle.hb_base.specs.declared.name.Name.{Name}
use Rattle.hb_base.specs.declared.place.Place.{Place}
use Rattle.hb_tokens.specs.declared.token.Token.{Token}
use Rattle.hb_tokens.specs.declared.word.Word.TheVariants as word
use Rattle.hb_tree.specs.Patterns.{Pat, Pats, MorePats, FieldPats}
use Rattle.hb_grammar.specs.Tokens.{IsCon, IsWord, IsClose, IsComma, IsOpenSquare, IsCloseSquare}
use Rattle.hb_grammar.specs.Patterns.{ReadsPat, ReadsApats, ReadsApat, ReadsFieldPats}
use Rattle.hb_read_patterns.specs.declared.node.PatNode.{PatNode}
use Rattle.hb_read_patterns.specs.declared.node.PatNode.TheVariants as node
use Rattle.hb_read_patterns.specs.declared.head.Head.{Head}
use Rattle.hb_read_patterns.specs.declared.head.Head.TheVariants.{Whole, Single, Applied, Many}
use Rattle.hb_read_patterns.specs.declared.frame.Frame.{Frame}
use Rattle.hb_read_patterns.specs.declared.frame.Frame.TheVariants.{First, Second, Given}
use Rattle.hb_read_patterns.specs.declared.frame.OpenField.{OpenField}
use Rattle.hb_read_patterns.specs.declared.reader.Last.{Last}
use Rattle.hb_read_patterns.specs.declared.reader.Last.TheVariants.{Wanted, Opened, Named, Done, Bracketed, Parted, Chosen}
use Rattle.hb_read_patterns.specs.declared.reader.PatReader.{PatReader}
use Rattle.hb_read_patterns.specs.Heads.{named_head, named_nodes}
use Rattle.hb_read_patterns.proofs.Puts.{put_pat, put_pats, put_fields, pats_from, fields_from}

-- what is put out after these simple patterns
abbrev pub end_pats : Head → Pats → List PatNode → List PatNode
end_pats Whole ps out = out
end_pats Single ps out = out
end_pats (Applied place con count) ps out = out ++ node.Con place con (pats_from count ps) ∷ []
end_pats (Many count) ps out = out ++ node.Row (pats_from count ps) ∷ []

-- any number of simple patterns
pub data Repeats (K : List PatNode → List Token → Type 0) (head : Head) (out : List PatNode) (ts : List Token) : Type 0 where
  repeats : {ps : Pats} {us : List Token} → ReadsApats ts ps us → K (end_pats head ps (put_pats ps out)) us → Repeats K head out ts

-- after a simple pattern
abbrev pub After : (List PatNode → List Token → Type 0) → Head → List PatNode → List Token → Type 0
After K Whole out ts = K out ts
After K Single out ts = K out ts
After K (Applied place con count) out ts = Repeats K (Applied place con count) out ts
After K (Many count) out ts = Repeats K (Many count) out ts

-- a pattern is to come
pub data ToCome (K : List PatNode → List Token → Type 0) : Head → List PatNode → List Token → Type 0 where
  applied : {t : Token} {ts us : List Token} {name : Name} {p : Pat} {ps : Pats} {out : List PatNode} → IsCon name t → ReadsApats ts (MorePats p ps) us → K (put_pats ps (put_pat p out) ++ node.Con t.place name (pats_from 1 ps) ∷ []) us → ToCome K Whole out (t ∷ ts)
  simple : {head : Head} {ts us : List Token} {p : Pat} {out : List PatNode} → ReadsApat ts p us → After K head (put_pat p out) us → ToCome K head out ts

-- fields are to come, the first one too, and so many were before
pub data Listed (K : List PatNode → List Token → Type 0) (head : Head) (place : Place) (con : Name) (count : ℕ) (out : List PatNode) (ts : List Token) : Type 0 where
  listed : {fs : FieldPats} {r : Token} {us : List Token} → ReadsFieldPats ts fs (r ∷ us) → IsCloseSquare r → After K head (put_fields fs out ++ node.Fields place con (fields_from count fs) ∷ []) us → Listed K head place con count out ts

-- after `con [`
pub data AfterSquare (K : List PatNode → List Token → Type 0) (head : Head) (place : Place) (con : Name) (out : List PatNode) : List Token → Type 0 where
  no_field : {r : Token} {us : List Token} → IsCloseSquare r → After K head (out ++ node.Fields place con 0 ∷ []) us → AfterSquare K head place con out (r ∷ us)
  some_field : {ts : List Token} → Listed K head place con 0 out ts → AfterSquare K head place con out ts

-- after a constructor's name
pub data AfterName (K : List PatNode → List Token → Type 0) (head : Head) (place : Place) (con : Name) (out : List PatNode) : List Token → Type 0 where
  square : {s : Token} {ts : List Token} → IsOpenSquare s → AfterSquare K head place con out ts → AfterName K head place con out (s ∷ ts)
  plain : {ts : List Token} → After K (named_head head place con) (named_nodes head place con out) ts → AfterName K head place con out ts

-- after a pattern in brackets
pub data InFrame (K : List PatNode → List Token → Type 0) : Frame → List PatNode → List Token → Type 0 where
  first_close : {head : Head} {place : Place} {out : List PatNode} {s : Token} {us : List Token} → IsClose s → After K head out us → InFrame K (First head place) out (s ∷ us)
  first_comma : {head : Head} {place : Place} {out : List PatNode} {s r : Token} {ts us : List Token} {q : Pat} → IsComma s → ReadsPat ts q (r ∷ us) → IsClose r → After K head (put_pat q out ++ node.Pair place ∷ []) us → InFrame K (First head place) out (s ∷ ts)
  second_close : {head : Head} {place : Place} {out : List PatNode} {r : Token} {us : List Token} → IsClose r → After K head (out ++ node.Pair place ∷ []) us → InFrame K (Second head place) out (r ∷ us)
  given_last : {head : Head} {f : OpenField} {out : List PatNode} {r : Token} {us : List Token} → IsCloseSquare r → After K head ((out ++ node.Field f.field_place f.field ∷ []) ++ node.Fields f.place f.con f.count ∷ []) us → InFrame K (Given head f) out (r ∷ us)
  given_more : {head : Head} {f : OpenField} {out : List PatNode} {t : Token} {ts : List Token} → IsWord word.Bar t → Listed K head f.place f.con f.count (out ++ node.Field f.field_place f.field ∷ []) ts → InFrame K (Given head f) out (t ∷ ts)

-- after `(`
pub data AfterOpen (K : List PatNode → List Token → Type 0) (head : Head) (place : Place) (out : List PatNode) : List Token → Type 0 where
  empty : {s : Token} {us : List Token} → IsClose s → After K head (out ++ node.Unit place ∷ []) us → AfterOpen K head place out (s ∷ us)
  full : {ts us : List Token} {p : Pat} → ReadsPat ts p us → InFrame K (First head place) (put_pat p out) us → AfterOpen K head place out ts

-- after a field's name
pub data AfterField (K : List PatNode → List Token → Type 0) (frame : Frame) (alone : PatNode) (out : List PatNode) : List Token → Type 0 where
  alone : {ts : List Token} → InFrame K frame (out ++ alone ∷ []) ts → AfterField K frame alone out ts
  given : {s : Token} {ts us : List Token} {p : Pat} → IsWord word.Equals s → ReadsPat ts p us → InFrame K frame (put_pat p out) us → AfterField K frame alone out (s ∷ ts)

-- after a pattern: the brackets close, these are all its nodes, and us are left
abbrev pub Closing : List PatNode → List Token → List Frame → List PatNode → List Token → Type 0
Closing nodes us [] out ts = (out ≡ nodes) × (ts ≡ us)
Closing nodes us (frame ∷ frames) out ts = InFrame (Closing nodes us frames) frame out ts

abbrev pub RestLast : Last → (List PatNode → List Token → Type 0) → Head → List PatNode → List Token → Type 0
RestLast Wanted K head out ts = ToCome K head out ts
RestLast (Opened place) K head out ts = AfterOpen K head place out ts
RestLast (Named place con) K head out ts = AfterName K head place con out ts
RestLast Done K head out ts = After K head out ts
RestLast (Bracketed place con) K head out ts = AfterSquare K head place con out ts
RestLast (Parted place con count) K head out ts = Listed K head place con count out ts
RestLast (Chosen f) K head out ts = AfterField K (Given head f) (node.Var f.field_place f.field) out ts

-- the tokens ts complete the reader to these nodes, and us are left
abbrev pub Rest : List PatNode → List Token → PatReader → List Token → Type 0
Rest nodes us reader ts = RestLast reader.last (Closing nodes us reader.frames) reader.head reader.nodes ts

abbrev pub Leads : List PatNode → List Token → Option PatReader → List Token → Type 0
Leads nodes us None ts = ⊥
Leads nodes us (Some reader) ts = Rest nodes us reader ts

-- there is a token, and what it leads to is completed by the others
abbrev pub LeadsBy : List PatNode → List Token → (Token → Option PatReader) → List Token → Type 0
LeadsBy nodes us next [] = ⊥
LeadsBy nodes us next (t ∷ ts) = Leads nodes us (next t) ts
