-- What completes a reader after a token, with the token before it completes the reader before.
use Rattle.std.proofs.Common.{◌≡◌, ℕ, ◌+◌, List, [], ◌∷◌, ◌++◌, Option, Some, None, sym, subst, ◌⊎◌, inl, inr}
use Rattle.hb_base.specs.declared.name.Name.{Name}
use Rattle.hb_base.specs.declared.place.Place.{Place}
use Rattle.hb_tokens.specs.declared.token.Token.{Token}
use Rattle.hb_tokens.specs.declared.word.Word.TheVariants as word
use Rattle.hb_tree.specs.Patterns.{Pat}
use Rattle.hb_grammar.specs.Tokens.{IsVar, IsCon, IsWord, IsOpen, IsComma}
use Rattle.hb_grammar.specs.Patterns.{ReadsPat, con_applied, apat_alone, no_apat, apat_more, var, any, number, bits, con, unit, inside, pair, no_fields, fields, field_last, field_more, field_alone, field_given}
use Rattle.hb_read_patterns.specs.declared.node.PatNode.{PatNode}
use Rattle.hb_read_patterns.specs.declared.node.PatNode.TheVariants as node
use Rattle.hb_read_patterns.specs.declared.sort.Sort.{Sort}
use Rattle.hb_read_patterns.specs.declared.sort.Sort.TheVariants.{Variable, Wildcard, Number, Bits, Constructor, Open, Close, OpenSquare, CloseSquare, Comma, Bar, Equals}
use Rattle.hb_read_patterns.specs.declared.head.Head.{Head}
use Rattle.hb_read_patterns.specs.declared.head.Head.TheVariants.{Whole, Single, Applied, Many}
use Rattle.hb_read_patterns.specs.declared.frame.Frame.{Frame}
use Rattle.hb_read_patterns.specs.declared.frame.Frame.TheVariants.{First, Second, Given}
use Rattle.hb_read_patterns.specs.declared.reader.Last.{Last}
use Rattle.hb_read_patterns.specs.declared.reader.Last.TheVariants.{Wanted, Opened, Named, Done, Bracketed, Parted, Chosen}
use Rattle.hb_read_patterns.specs.declared.reader.PatReader.{PatReader}
use Rattle.hb_read_patterns.specs.Sorts.{sort_of}
use Rattle.hb_read_patterns.specs.Heads.{named_head, named_nodes}
use Rattle.hb_read_patterns.specs.Starts.{start_of}
use Rattle.hb_read_patterns.specs.declared.start.Start.{Start}
use Rattle.hb_read_patterns.specs.Moves.{started, begin, close, close_frame, go_on, move_opened, move_named, move_field, move_bracketed, move_chosen, move_last, moved}
use Rattle.hb_read_patterns.proofs.Puts.{put_pat}
use Rattle.hb_read_patterns.proofs.Sorting.{Means, means}
use Rattle.hb_read_patterns.proofs.Residuals.{Repeats, repeats, After, ToCome, applied, simple, Listed, listed, AfterSquare, no_field, some_field, AfterName, square, plain, InFrame, first_close, first_comma, second_close, given_last, given_more, AfterOpen, empty, full, AfterField, alone, given, Closing, RestLast, Rest, Leads}

-- any pattern is to come where a whole one may
pub pat_to_come : (K : List PatNode → List Token → Type 0) (out : List PatNode) (ts us : List Token) (p : Pat) → ReadsPat ts p us → K (put_pat p out) us → ToCome K Whole out ts
pat_to_come K out ts us p (con_applied c ds) k = applied c ds k
pat_to_come K out ts us p (apat_alone d) k = simple d k

-- and the other way round
pub record Come (K : List PatNode → List Token → Type 0) (out : List PatNode) (ts : List Token) : Type 0 where
  pub pat : Pat
  pub us : List Token
  pub reads : ReadsPat ts pat us
  pub rest : K (put_pat pat out) us

pub to_come_pat : (K : List PatNode → List Token → Type 0) (out : List PatNode) (ts : List Token) → ToCome K Whole out ts → Come K out ts
to_come_pat K out ts (applied c ds k) = record { pat = _; us = _; reads = con_applied c ds; rest = k }
to_come_pat K out ts (simple d k) = record { pat = _; us = _; reads = apat_alone d; rest = k }

-- a constructor's name that no `[` follows
plain_back : (K : List PatNode → List Token → Type 0) (head : Head) (out : List PatNode) (t : Token) (ts : List Token) (name : Name) → IsCon name t → After K (named_head head t.place name) (named_nodes head t.place name out) ts → ToCome K head out (t ∷ ts)
plain_back K Whole out t ts name m (repeats no_apat k) = simple (con m) k
plain_back K Whole out t ts name m (repeats (apat_more d ds) k) = applied m (apat_more d ds) k
plain_back K Single out t ts name m k = simple (con m) k
plain_back K (Applied place c count) out t ts name m k = simple (con m) k
plain_back K (Many n) out t ts name m k = simple (con m) k

name_back : (K : List PatNode → List Token → Type 0) (head : Head) (out : List PatNode) (t : Token) (ts : List Token) (name : Name) → IsCon name t → AfterName K head t.place name out ts → ToCome K head out (t ∷ ts)
name_back K head out t ts name m (square s (no_field r k)) = simple (no_fields m s r) k
name_back K head out t ts name m (square s (some_field (listed d r k))) = simple (fields m s d r) k
name_back K head out t ts name m (plain k) = plain_back K head out t ts name m k

open_back : (K : List PatNode → List Token → Type 0) (head : Head) (out : List PatNode) (t : Token) (ts : List Token) → IsOpen t → AfterOpen K head t.place out ts → ToCome K head out (t ∷ ts)
open_back K head out t ts m (empty s k) = simple (unit m s) k
open_back K head out t ts m (full d (first_close s k)) = simple (inside m d s) k
open_back K head out t ts m (full d (first_comma s e r k)) = simple (pair m d s e r) k

pub begin_back : (nodes : List PatNode) (us : List Token) (frames : List Frame) (head : Head) (out : List PatNode) (t : Token) (ts : List Token) (k : Sort) → Means k t → Leads nodes us (begin frames head out t.place k) ts → ToCome (Closing nodes us frames) head out (t ∷ ts)
begin_back nodes us frames head out t ts (Variable name) m k = simple (var m) k
begin_back nodes us frames head out t ts Wildcard m k = simple (any m) k
begin_back nodes us frames head out t ts (Number n) m k = simple (number m) k
begin_back nodes us frames head out t ts (Bits width n) m k = simple (bits m) k
begin_back nodes us frames head out t ts (Constructor name) m k = name_back _ head out t ts name m k
begin_back nodes us frames head out t ts Open m k = open_back _ head out t ts m k
begin_back nodes us frames head out t ts sort m k = absurd k

-- a pattern after the comma of a pair
second_back : (K : List PatNode → List Token → Type 0) (head : Head) (place : Place) (out : List PatNode) (t : Token) (ts us : List Token) (q : Pat) → IsComma t → ReadsPat ts q us → InFrame K (Second head place) (put_pat q out) us → InFrame K (First head place) out (t ∷ ts)
second_back K head place out t ts us q m d (second_close r k) = first_comma m d r k

comma_back : (K : List PatNode → List Token → Type 0) (head : Head) (place : Place) (out : List PatNode) (t : Token) (ts : List Token) → IsComma t → Come (InFrame K (Second head place)) out ts → InFrame K (First head place) out (t ∷ ts)
comma_back K head place out t ts m c = second_back K head place out t ts c.us c.pat m c.reads c.rest

pub frame_back : (nodes : List PatNode) (us : List Token) (frame : Frame) (frames : List Frame) (out : List PatNode) (t : Token) (ts : List Token) (k : Sort) → Means k t → Leads nodes us (close_frame frame frames out k) ts → InFrame (Closing nodes us frames) frame out (t ∷ ts)
frame_back nodes us (First head place) frames out t ts Close m k = first_close m k
frame_back nodes us (First head place) frames out t ts Comma m k = comma_back _ head place out t ts m (to_come_pat _ out ts k)
frame_back nodes us (Second head place) frames out t ts Close m k = second_close m k
frame_back nodes us (Given head f) frames out t ts Bar m k = given_more m k
frame_back nodes us (Given head f) frames out t ts CloseSquare m k = given_last m k
frame_back nodes us frame frames out t ts sort m k = absurd k

close_back : (nodes : List PatNode) (us : List Token) (frames : List Frame) (out : List PatNode) (t : Token) (ts : List Token) (k : Sort) → Means k t → Leads nodes us (close frames out k) ts → Closing nodes us frames out (t ∷ ts)
close_back nodes us [] out t ts k m l = absurd l
close_back nodes us (frame ∷ frames) out t ts k m l = frame_back nodes us frame frames out t ts k m l

started_back : (nodes : List PatNode) (us : List Token) (frames : List Frame) (head : Head) (out : List PatNode) (other : Option PatReader) (o : Option Start) (ts : List Token) → Leads nodes us (started frames head out other o) ts → Leads nodes us (started frames head out None o) ts ⊎ Leads nodes us other ts
started_back nodes us frames head out other None ts k = inr k
started_back nodes us frames head out other (Some s) ts k = inl k

-- one more argument
more_applied : (K : List PatNode → List Token → Type 0) (place : Place) (c : Name) (count : ℕ) (out : List PatNode) (ts : List Token) → ToCome K (Applied place c (count + 1)) out ts → Repeats K (Applied place c count) out ts
more_applied K place c count out ts (simple d (repeats ds k)) = repeats (apat_more d ds) k

more_many : (K : List PatNode → List Token → Type 0) (count : ℕ) (out : List PatNode) (ts : List Token) → ToCome K (Many (count + 1)) out ts → Repeats K (Many count) out ts
more_many K count out ts (simple d (repeats ds k)) = repeats (apat_more d ds) k

go_on_back : (nodes : List PatNode) (us : List Token) (frames : List Frame) (head : Head) (out : List PatNode) (t : Token) (ts : List Token) (k : Sort) → Means k t → Leads nodes us (go_on frames head out t.place k) ts → After (Closing nodes us frames) head out (t ∷ ts)
go_on_back nodes us frames Whole out t ts k m l = close_back nodes us frames out t ts k m l
go_on_back nodes us frames Single out t ts k m l = close_back nodes us frames out t ts k m l
go_on_back nodes us frames (Applied place c count) out t ts k m l =
    elim (started_back nodes us frames (Applied place c (count + 1)) out (close frames (out ++ node.Con place c count ∷ []) k) (start_of t.place k) ts l) [
      | inl a ↦ more_applied _ place c count out (t ∷ ts) (begin_back nodes us frames (Applied place c (count + 1)) out t ts k m a)
      | inr b ↦ repeats no_apat (close_back nodes us frames (out ++ node.Con place c count ∷ []) t ts k m b)
    ]
go_on_back nodes us frames (Many count) out t ts k m l =
    elim (started_back nodes us frames (Many (count + 1)) out (close frames (out ++ node.Row count ∷ []) k) (start_of t.place k) ts l) [
      | inl a ↦ more_many _ count out (t ∷ ts) (begin_back nodes us frames (Many (count + 1)) out t ts k m a)
      | inr b ↦ repeats no_apat (close_back nodes us frames (out ++ node.Row count ∷ []) t ts k m b)
    ]

opened_back : (nodes : List PatNode) (us : List Token) (frames : List Frame) (head : Head) (out : List PatNode) (place : Place) (t : Token) (ts : List Token) (k : Sort) → Means k t → Leads nodes us (move_opened frames head out place t.place k) ts → AfterOpen (Closing nodes us frames) head place out (t ∷ ts)
opened_back nodes us frames head out place t ts Close m l = empty m l
opened_back nodes us frames head out place t ts k m l = full_back _ head place out (t ∷ ts) (to_come_pat _ out (t ∷ ts) (begin_back nodes us (First head place ∷ frames) Whole out t ts k m l)) where
  full_back : (K : List PatNode → List Token → Type 0) (head : Head) (place : Place) (out : List PatNode) (ts : List Token) → Come (InFrame K (First head place)) out ts → AfterOpen K head place out ts
  full_back K head place out ts c = full c.reads c.rest

named_back : (nodes : List PatNode) (us : List Token) (frames : List Frame) (head : Head) (out : List PatNode) (place : Place) (c : Name) (t : Token) (ts : List Token) (k : Sort) → Means k t → Leads nodes us (move_named frames head out place c t.place k) ts → AfterName (Closing nodes us frames) head place c out (t ∷ ts)
named_back nodes us frames head out place c t ts OpenSquare m l = square m l
named_back nodes us frames head out place c t ts k m l = plain (go_on_back nodes us frames (named_head head place c) (named_nodes head place c out) t ts k m l)

-- a field after its name
field_back : (K : List PatNode → List Token → Type 0) (head : Head) (place : Place) (c : Name) (count : ℕ) (out : List PatNode) (t : Token) (ts : List Token) (name : Name) → IsVar name t → AfterField K (Given head (record { place = place; con = c; count = count + 1; field_place = t.place; field = name })) (node.Var t.place name) out ts → Listed K head place c count out (t ∷ ts)
field_back K head place c count out t ts name m (alone (given_last r k)) = listed (field_last (field_alone m)) r k
field_back K head place c count out t ts name m (alone (given_more b (listed ds r k))) = listed (field_more (field_alone m) b ds) r k
field_back K head place c count out t ts name m (given e d (given_last r k)) = listed (field_last (field_given m e d)) r k
field_back K head place c count out t ts name m (given e d (given_more b (listed ds r k))) = listed (field_more (field_given m e d) b ds) r k

parted_back : (nodes : List PatNode) (us : List Token) (frames : List Frame) (head : Head) (out : List PatNode) (place : Place) (c : Name) (count : ℕ) (t : Token) (ts : List Token) (k : Sort) → Means k t → Leads nodes us (move_field frames head out place c count t.place k) ts → Listed (Closing nodes us frames) head place c count out (t ∷ ts)
parted_back nodes us frames head out place c count t ts (Variable name) m l = field_back _ head place c count out t ts name m l
parted_back nodes us frames head out place c count t ts k m l = absurd l

bracketed_back : (nodes : List PatNode) (us : List Token) (frames : List Frame) (head : Head) (out : List PatNode) (place : Place) (c : Name) (t : Token) (ts : List Token) (k : Sort) → Means k t → Leads nodes us (move_bracketed frames head out place c t.place k) ts → AfterSquare (Closing nodes us frames) head place c out (t ∷ ts)
bracketed_back nodes us frames head out place c t ts CloseSquare m l = no_field m l
bracketed_back nodes us frames head out place c t ts k m l = some_field (parted_back nodes us frames head out place c 0 t ts k m l)

chosen_back : (nodes : List PatNode) (us : List Token) (frame : Frame) (frames : List Frame) (out : List PatNode) (x : PatNode) (t : Token) (ts : List Token) (k : Sort) → Means k t → Leads nodes us (move_chosen frame frames out x k) ts → AfterField (Closing nodes us frames) frame x out (t ∷ ts)
chosen_back nodes us frame frames out x t ts Equals m l = given_back _ frame x out t ts m (to_come_pat _ out ts l) where
  given_back : (K : List PatNode → List Token → Type 0) (frame : Frame) (x : PatNode) (out : List PatNode) (t : Token) (ts : List Token) → IsWord word.Equals t → Come (InFrame K frame) out ts → AfterField K frame x out (t ∷ ts)
  given_back K frame x out t ts m c = given m c.reads c.rest
chosen_back nodes us frame frames out x t ts k m l = alone (frame_back nodes us frame frames (out ++ x ∷ []) t ts k m l)

last_back : (nodes : List PatNode) (us : List Token) (last : Last) (frames : List Frame) (head : Head) (out : List PatNode) (t : Token) (ts : List Token) (k : Sort) → Means k t → Leads nodes us (move_last last frames head out t.place k) ts → RestLast last (Closing nodes us frames) head out (t ∷ ts)
last_back nodes us Wanted frames head out t ts k m l = begin_back nodes us frames head out t ts k m l
last_back nodes us (Opened place) frames head out t ts k m l = opened_back nodes us frames head out place t ts k m l
last_back nodes us (Named place c) frames head out t ts k m l = named_back nodes us frames head out place c t ts k m l
last_back nodes us Done frames head out t ts k m l = go_on_back nodes us frames head out t ts k m l
last_back nodes us (Bracketed place c) frames head out t ts k m l = bracketed_back nodes us frames head out place c t ts k m l
last_back nodes us (Parted place c count) frames head out t ts k m l = parted_back nodes us frames head out place c count t ts k m l
last_back nodes us (Chosen f) frames head out t ts k m l =
    chosen_back nodes us (Given head f) frames out (node.Var f.field_place f.field) t ts k m l

-- what completes the reader after a token completes the one before, with the token
pub back : (nodes : List PatNode) (us : List Token) (reader next : PatReader) (t : Token) (ts : List Token) → moved reader t ≡ Some next → Rest nodes us next ts → Rest nodes us reader (t ∷ ts)
unfolding moved
back nodes us reader next t ts e l =
    last_back nodes us reader.last reader.frames reader.head reader.nodes t ts (sort_of t.kind) (means t)
    (subst (λ (o : Option PatReader). Leads nodes us o ts) (sym e) l)
