-- What completes a reader begins with a token that it takes, or is nothing where the reader is done.
use Rattle.std.proofs.Common.{◌≡◌, ◌≢◌, ℕ, ◌+◌, List, [], ◌∷◌, ◌++◌, Option, Some, None, refl, sym, ap, subst, ◌⊎◌, inl, inr, ◌∙◌}
use Rattle.hb_base.specs.declared.name.Name.{Name}
use Rattle.hb_base.specs.declared.place.Place.{Place}
use Rattle.hb_tokens.specs.declared.token.Token.{Token}
use Rattle.hb_tree.specs.Patterns.{Pat}
use Rattle.hb_grammar.specs.Patterns.{no_apat, apat_more, ReadsApat, var, any, number, bits, con, unit, inside, pair, no_fields, fields, field_last, field_more, field_alone, field_given}
use Rattle.hb_read_patterns.specs.declared.node.PatNode.{PatNode}
use Rattle.hb_read_patterns.specs.declared.node.PatNode.TheVariants as node
use Rattle.hb_read_patterns.specs.declared.sort.Sort.{Sort}
use Rattle.hb_read_patterns.specs.declared.sort.Sort.TheVariants.{Variable, Wildcard, Number, Bits, Constructor, Open, Close, OpenSquare, CloseSquare, Comma, Bar, Equals, Other}
use Rattle.hb_read_patterns.specs.declared.head.Head.{Head}
use Rattle.hb_read_patterns.specs.declared.head.Head.TheVariants.{Whole, Single, Applied, Many}
use Rattle.hb_read_patterns.specs.declared.frame.Frame.{Frame}
use Rattle.hb_read_patterns.specs.declared.frame.Frame.TheVariants.{First, Second, Given}
use Rattle.hb_read_patterns.specs.declared.reader.Last.{Last}
use Rattle.hb_read_patterns.specs.declared.reader.Last.TheVariants.{Wanted, Opened, Named, Done, Bracketed, Parted, Chosen}
use Rattle.hb_read_patterns.specs.declared.reader.PatReader.{PatReader}
use Rattle.std.specs.Prelude.{if◌then◌else◌}
use Rattle.hb_stack.specs.Stacks.{is_empty}
use Rattle.hb_read_patterns.specs.Sorts.{sort_of}
use Rattle.hb_read_patterns.specs.Heads.{end_head, named_head, named_nodes}
use Rattle.hb_read_patterns.specs.Starts.{start_of}
use Rattle.hb_read_patterns.specs.declared.start.Start.{Start}
use Rattle.hb_read_patterns.specs.Moves.{started, begin, close, close_frame, go_on, move_opened, move_named, move_field, move_bracketed, move_chosen, moved, done, done_last, at_last}
use Rattle.hb_read_patterns.proofs.Puts.{put_pat}
use Rattle.hb_read_patterns.proofs.Sorting.{Means, sort_is}
use Rattle.hb_read_patterns.proofs.Residuals.{repeats, After, ToCome, applied, simple, Listed, listed, AfterSquare, no_field, some_field, AfterName, square, plain, InFrame, first_close, first_comma, second_close, given_last, given_more, AfterOpen, empty, full, AfterField, alone, given, Closing, RestLast, Rest, Leads, LeadsBy}
use Rattle.hb_read_patterns.proofs.Back.{pat_to_come}

-- by the sort of the first token
by_sort : (nodes : List PatNode) (us : List Token) (next : Sort → Option PatReader) (t : Token) (ts : List Token) (k : Sort) → Means k t → k ≢ Other → Leads nodes us (next k) ts → Leads nodes us (next (sort_of t.kind)) ts
by_sort nodes us next t ts k m h l = subst (λ (s : Sort). Leads nodes us (next s) ts) (sym (sort_is k t m h)) l

-- a law of every sort, at the first token
lead_on : (nodes : List PatNode) (us : List Token) (a b : Token → Option PatReader) (ts : List Token) → ((t : Token) (rest : List Token) → Leads nodes us (a t) rest → Leads nodes us (b t) rest) → LeadsBy nodes us a ts → LeadsBy nodes us b ts
lead_on nodes us a b [] f l = l
lead_on nodes us a b (t ∷ ts) f l = f t ts l

apat_forth : (nodes : List PatNode) (us : List Token) (frames : List Frame) (head : Head) (out : List PatNode) (ts vs : List Token) (p : Pat) → ReadsApat ts p vs → After (Closing nodes us frames) head (put_pat p out) vs → LeadsBy nodes us (λ t. begin frames head out t.place (sort_of t.kind)) ts
apat_forth nodes us frames head out ts vs p (var {t = t} {name = name} m) k = by_sort nodes us (begin frames head out t.place) t vs (Variable name) m (λ e. cc) k
apat_forth nodes us frames head out ts vs p (any {t = t} m) k = by_sort nodes us (begin frames head out t.place) t vs Wildcard m (λ e. cc) k
apat_forth nodes us frames head out ts vs p (number {t = t} {k = n} m) k = by_sort nodes us (begin frames head out t.place) t vs (Number n) m (λ e. cc) k
apat_forth nodes us frames head out ts vs p (bits {t = t} {width = width} {k = n} m) k = by_sort nodes us (begin frames head out t.place) t vs (Bits width n) m (λ e. cc) k
apat_forth nodes us frames head out ts vs p (con {t = t} {name = name} m) k = by_sort nodes us (begin frames head out t.place) t vs (Constructor name) m (λ e. cc) (plain (con_alone _ head out t.place name vs k)) where
  con_alone : (K : List PatNode → List Token → Type 0) (head : Head) (out : List PatNode) (place : Place) (name : Name) (ts : List Token) → After K head (out ++ node.Con place name 0 ∷ []) ts → After K (named_head head place name) (named_nodes head place name out) ts
  con_alone K Whole out place name ts k = repeats no_apat k
  con_alone K Single out place name ts k = k
  con_alone K (Applied p c n) out place name ts k = k
  con_alone K (Many n) out place name ts k = k
apat_forth nodes us frames head out ts vs p (unit {t = t} {s = s} m c) k = by_sort nodes us (begin frames head out t.place) t (s ∷ vs) Open m (λ e. cc) (empty c k)
apat_forth nodes us frames head out ts vs p (inside {t = t} {ts = rest} m d c) k = by_sort nodes us (begin frames head out t.place) t rest Open m (λ e. cc) (full d (first_close c k))
apat_forth nodes us frames head out ts vs p (pair {t = t} {ts = rest} m d c e r) k = by_sort nodes us (begin frames head out t.place) t rest Open m (λ e. cc) (full d (first_comma c e r k))
apat_forth nodes us frames head out ts vs p (no_fields {t = t} {s = s} {r = r} {name = name} m o c) k = by_sort nodes us (begin frames head out t.place) t (s ∷ r ∷ vs) (Constructor name) m (λ e. cc) (square o (no_field c k))
apat_forth nodes us frames head out ts vs p (fields {t = t} {s = s} {ts = rest} {name = name} m o d c) k = by_sort nodes us (begin frames head out t.place) t (s ∷ rest) (Constructor name) m (λ e. cc) (square o (some_field (listed d c k)))

begin_forth : (nodes : List PatNode) (us : List Token) (frames : List Frame) (head : Head) (out : List PatNode) (ts : List Token) → ToCome (Closing nodes us frames) head out ts → LeadsBy nodes us (λ t. begin frames head out t.place (sort_of t.kind)) ts
begin_forth nodes us frames head out ts (applied {t = t} {ts = rest} {name = name} m ds k) =
    by_sort nodes us (begin frames Whole out t.place) t rest (Constructor name) m (λ e. cc) (plain (repeats ds k))
begin_forth nodes us frames head out ts (simple d k) = apat_forth nodes us frames head out ts _ _ d k

frame_forth : (nodes : List PatNode) (us : List Token) (frame : Frame) (frames : List Frame) (out : List PatNode) (ts : List Token) → InFrame (Closing nodes us frames) frame out ts → LeadsBy nodes us (λ t. close_frame frame frames out (sort_of t.kind)) ts
frame_forth nodes us frame frames out ts (first_close {head = head} {place = place} {s = t} {us = rest} m k) = by_sort nodes us (close_frame (First head place) frames out) t rest Close m (λ e. cc) k
frame_forth nodes us frame frames out ts (first_comma {head = head} {place = place} {s = t} {ts = rest} {q = q} m d r k) =
    by_sort nodes us (close_frame (First head place) frames out) t rest Comma m (λ e. cc) (pat_to_come _ out rest _ q d (second_close r k))
frame_forth nodes us frame frames out ts (second_close {head = head} {place = place} {r = t} {us = rest} m k) = by_sort nodes us (close_frame (Second head place) frames out) t rest Close m (λ e. cc) k
frame_forth nodes us frame frames out ts (given_last {head = head} {f = f} {r = t} {us = rest} m k) =
    by_sort nodes us (close_frame (Given head f) frames out) t rest CloseSquare m (λ e. cc) k
frame_forth nodes us frame frames out ts (given_more {head = head} {f = f} {t = t} {ts = rest} m k) =
    by_sort nodes us (close_frame (Given head f) frames out) t rest Bar m (λ e. cc) k

-- no bracket is open, and nothing more is taken
pub record Stops (nodes : List PatNode) (us : List Token) (frames : List Frame) (out : List PatNode) (ts : List Token) : Type 0 where
  pub none_open : frames ≡ []
  pub is : out ≡ nodes
  pub left : ts ≡ us

close_forth : (nodes : List PatNode) (us : List Token) (frames : List Frame) (out : List PatNode) (ts : List Token) → Closing nodes us frames out ts → LeadsBy nodes us (λ t. close frames out (sort_of t.kind)) ts ⊎ Stops nodes us frames out ts
close_forth nodes us [] out ts k = inr (record { none_open = refl; is = k.0; left = k.1 })
close_forth nodes us (frame ∷ frames) out ts k = inl (frame_forth nodes us frame frames out ts k)

-- what begins a simple pattern, begins one more
started_forth : (nodes : List PatNode) (us : List Token) (frames : List Frame) (head : Head) (out : List PatNode) (other : Option PatReader) (o : Option Start) (ts : List Token) → Leads nodes us (started frames head out None o) ts → Leads nodes us (started frames head out other o) ts
started_forth nodes us frames head out other None ts k = absurd k
started_forth nodes us frames head out other (Some s) ts k = k

-- a token that ends a pattern begins none
ends_frame : (nodes : List PatNode) (us : List Token) (frame : Frame) (frames frames' : List Frame) (head : Head) (out out' : List PatNode) (place : Place) (k : Sort) (ts : List Token) → Leads nodes us (close_frame frame frames out k) ts → Leads nodes us (started frames' head out' (close_frame frame frames out k) (start_of place k)) ts
ends_frame nodes us (First h p) frames frames' head out out' place (Variable x) ts l = absurd l
ends_frame nodes us (First h p) frames frames' head out out' place Wildcard ts l = absurd l
ends_frame nodes us (First h p) frames frames' head out out' place (Number x) ts l = absurd l
ends_frame nodes us (First h p) frames frames' head out out' place (Bits w x) ts l = absurd l
ends_frame nodes us (First h p) frames frames' head out out' place (Constructor x) ts l = absurd l
ends_frame nodes us (First h p) frames frames' head out out' place Open ts l = absurd l
ends_frame nodes us (First h p) frames frames' head out out' place k ts l = l
ends_frame nodes us (Second h p) frames frames' head out out' place Close ts l = l
ends_frame nodes us (Second h p) frames frames' head out out' place k ts l = absurd l
ends_frame nodes us (Given h f) frames frames' head out out' place Bar ts l = l
ends_frame nodes us (Given h f) frames frames' head out out' place CloseSquare ts l = l
ends_frame nodes us (Given h f) frames frames' head out out' place k ts l = absurd l

ends_started : (nodes : List PatNode) (us : List Token) (frames frames' : List Frame) (head : Head) (out out' : List PatNode) (place : Place) (k : Sort) (ts : List Token) → Leads nodes us (close frames out k) ts → Leads nodes us (started frames' head out' (close frames out k) (start_of place k)) ts
ends_started nodes us [] frames' head out out' place k ts l = absurd l
ends_started nodes us (frame ∷ frames) frames' head out out' place k ts l = ends_frame nodes us frame frames frames' head out out' place k ts l

-- where no more simple patterns come
ends_forth : (nodes : List PatNode) (us : List Token) (frames frames' : List Frame) (head : Head) (out out' : List PatNode) (ts : List Token) → Closing nodes us frames out ts → LeadsBy nodes us (λ t. started frames' head out' (close frames out (sort_of t.kind)) (start_of t.place (sort_of t.kind))) ts ⊎ Stops nodes us frames out ts
ends_forth nodes us frames frames' head out out' ts k =
    elim (close_forth nodes us frames out ts k) [
      | inl l ↦ inl (lead_on nodes us (λ t. close frames out (sort_of t.kind)) (λ t. started frames' head out' (close frames out (sort_of t.kind)) (start_of t.place (sort_of t.kind))) ts (λ t rest. ends_started nodes us frames frames' head out out' t.place (sort_of t.kind) rest) l)
      | inr s ↦ inr s
    ]

go_on_forth : (nodes : List PatNode) (us : List Token) (frames : List Frame) (head : Head) (out : List PatNode) (ts : List Token) → After (Closing nodes us frames) head out ts → LeadsBy nodes us (λ t. go_on frames head out t.place (sort_of t.kind)) ts ⊎ Stops nodes us frames (end_head head out) ts
go_on_forth nodes us frames Whole out ts k = close_forth nodes us frames out ts k
go_on_forth nodes us frames Single out ts k = close_forth nodes us frames out ts k
go_on_forth nodes us frames (Applied place c count) out ts (repeats no_apat k) = ends_forth nodes us frames frames (Applied place c (count + 1)) (out ++ node.Con place c count ∷ []) out ts k
go_on_forth nodes us frames (Applied place c count) out ts (repeats (apat_more d ds) k) =
    inl (lead_on nodes us (λ t. begin frames (Applied place c (count + 1)) out t.place (sort_of t.kind)) (λ t. go_on frames (Applied place c count) out t.place (sort_of t.kind)) ts
    (λ t rest. started_forth nodes us frames (Applied place c (count + 1)) out (close frames (out ++ node.Con place c count ∷ []) (sort_of t.kind)) (start_of t.place (sort_of t.kind)) rest)
    (apat_forth nodes us frames (Applied place c (count + 1)) out ts _ _ d (repeats ds k)))
go_on_forth nodes us frames (Many count) out ts (repeats no_apat k) = ends_forth nodes us frames frames (Many (count + 1)) (out ++ node.Row count ∷ []) out ts k
go_on_forth nodes us frames (Many count) out ts (repeats (apat_more d ds) k) =
    inl (lead_on nodes us (λ t. begin frames (Many (count + 1)) out t.place (sort_of t.kind)) (λ t. go_on frames (Many count) out t.place (sort_of t.kind)) ts
    (λ t rest. started_forth nodes us frames (Many (count + 1)) out (close frames (out ++ node.Row count ∷ []) (sort_of t.kind)) (start_of t.place (sort_of t.kind)) rest)
    (apat_forth nodes us frames (Many (count + 1)) out ts _ _ d (repeats ds k)))

-- nothing that begins a pattern closes `()`
not_empty : (nodes : List PatNode) (us : List Token) (frames : List Frame) (head : Head) (out : List PatNode) (place place' : Place) (k : Sort) (ts : List Token) → Leads nodes us (begin (First head place ∷ frames) Whole out place' k) ts → Leads nodes us (move_opened frames head out place place' k) ts
not_empty nodes us frames head out place place' Close ts l = absurd l
not_empty nodes us frames head out place place' k ts l = l

opened_forth : (nodes : List PatNode) (us : List Token) (frames : List Frame) (head : Head) (out : List PatNode) (place : Place) (ts : List Token) → AfterOpen (Closing nodes us frames) head place out ts → LeadsBy nodes us (λ t. move_opened frames head out place t.place (sort_of t.kind)) ts
opened_forth nodes us frames head out place ts (empty {s = t} {us = rest} m k) = by_sort nodes us (move_opened frames head out place t.place) t rest Close m (λ e. cc) k
opened_forth nodes us frames head out place ts (full d k) =
    lead_on nodes us (λ t. begin (First head place ∷ frames) Whole out t.place (sort_of t.kind)) (λ t. move_opened frames head out place t.place (sort_of t.kind)) ts
    (λ t rest. not_empty nodes us frames head out place t.place (sort_of t.kind) rest)
    (begin_forth nodes us (First head place ∷ frames) Whole out ts (pat_to_come _ out ts _ _ d k))

-- `[` stands nowhere but after a constructor's name
no_square : (nodes : List PatNode) (us : List Token) (frames : List Frame) (out : List PatNode) (ts : List Token) → Leads nodes us (close frames out OpenSquare) ts → ⊥
no_square nodes us [] out ts l = l
no_square nodes us (First h p ∷ frames) out ts l = l
no_square nodes us (Second h p ∷ frames) out ts l = l
no_square nodes us (Given h f ∷ frames) out ts l = l

no_square_after : (nodes : List PatNode) (us : List Token) (frames : List Frame) (head : Head) (out : List PatNode) (place : Place) (ts : List Token) → Leads nodes us (go_on frames head out place OpenSquare) ts → ⊥
no_square_after nodes us frames Whole out place ts l = no_square nodes us frames out ts l
no_square_after nodes us frames Single out place ts l = no_square nodes us frames out ts l
no_square_after nodes us frames (Applied p c n) out place ts l = no_square nodes us frames (out ++ node.Con p c n ∷ []) ts l
no_square_after nodes us frames (Many n) out place ts l = no_square nodes us frames (out ++ node.Row n ∷ []) ts l

not_square : (nodes : List PatNode) (us : List Token) (frames : List Frame) (head : Head) (out : List PatNode) (place : Place) (c : Name) (place' : Place) (k : Sort) (ts : List Token) → Leads nodes us (go_on frames (named_head head place c) (named_nodes head place c out) place' k) ts → Leads nodes us (move_named frames head out place c place' k) ts
not_square nodes us frames head out place c place' OpenSquare ts l = absurd (no_square_after nodes us frames (named_head head place c) (named_nodes head place c out) place' ts l)
not_square nodes us frames head out place c place' k ts l = l

named_forth : (nodes : List PatNode) (us : List Token) (frames : List Frame) (head : Head) (out : List PatNode) (place : Place) (c : Name) (ts : List Token) → AfterName (Closing nodes us frames) head place c out ts → LeadsBy nodes us (λ t. move_named frames head out place c t.place (sort_of t.kind)) ts ⊎ Stops nodes us frames (end_head (named_head head place c) (named_nodes head place c out)) ts
named_forth nodes us frames head out place c ts (square {s = t} {ts = rest} m k) = inl (by_sort nodes us (move_named frames head out place c t.place) t rest OpenSquare m (λ e. cc) k)
named_forth nodes us frames head out place c ts (plain k) =
    elim (go_on_forth nodes us frames (named_head head place c) (named_nodes head place c out) ts k) [
      | inl l ↦ inl (lead_on nodes us (λ t. go_on frames (named_head head place c) (named_nodes head place c out) t.place (sort_of t.kind)) (λ t. move_named frames head out place c t.place (sort_of t.kind)) ts
          (λ t rest. not_square nodes us frames head out place c t.place (sort_of t.kind) rest) l)
      | inr s ↦ inr s
    ]

field_forth : (nodes : List PatNode) (us : List Token) (frames : List Frame) (head : Head) (out : List PatNode) (place : Place) (c : Name) (count : ℕ) (ts : List Token) → Listed (Closing nodes us frames) head place c count out ts → LeadsBy nodes us (λ t. move_field frames head out place c count t.place (sort_of t.kind)) ts
field_forth nodes us frames head out place c count ts (listed {r = r} {us = vs} (field_last (field_alone {t = t} {name = name} m)) e k) =
    by_sort nodes us (move_field frames head out place c count t.place) t (r ∷ vs) (Variable name) m (λ e. cc) (alone (given_last e k))
field_forth nodes us frames head out place c count ts (listed (field_last (field_given {t = t} {s = s} {ts = rest} {name = name} m q d)) e k) =
    by_sort nodes us (move_field frames head out place c count t.place) t (s ∷ rest) (Variable name) m (λ e. cc) (given q d (given_last e k))
field_forth nodes us frames head out place c count ts (listed (field_more {us = rest} {t = b} (field_alone {t = t} {name = name} m) i ds) e k) =
    by_sort nodes us (move_field frames head out place c count t.place) t (b ∷ rest) (Variable name) m (λ e. cc) (alone (given_more i (listed ds e k)))
field_forth nodes us frames head out place c count ts (listed (field_more (field_given {t = t} {s = s} {ts = rest} {name = name} m q d) i ds) e k) =
    by_sort nodes us (move_field frames head out place c count t.place) t (s ∷ rest) (Variable name) m (λ e. cc) (given q d (given_more i (listed ds e k)))

not_closed : (nodes : List PatNode) (us : List Token) (frames : List Frame) (head : Head) (out : List PatNode) (place : Place) (c : Name) (place' : Place) (k : Sort) (ts : List Token) → Leads nodes us (move_field frames head out place c 0 place' k) ts → Leads nodes us (move_bracketed frames head out place c place' k) ts
not_closed nodes us frames head out place c place' CloseSquare ts l = absurd l
not_closed nodes us frames head out place c place' k ts l = l

bracketed_forth : (nodes : List PatNode) (us : List Token) (frames : List Frame) (head : Head) (out : List PatNode) (place : Place) (c : Name) (ts : List Token) → AfterSquare (Closing nodes us frames) head place c out ts → LeadsBy nodes us (λ t. move_bracketed frames head out place c t.place (sort_of t.kind)) ts
bracketed_forth nodes us frames head out place c ts (no_field {r = t} {us = rest} m k) = by_sort nodes us (move_bracketed frames head out place c t.place) t rest CloseSquare m (λ e. cc) k
bracketed_forth nodes us frames head out place c ts (some_field k) =
    lead_on nodes us (λ t. move_field frames head out place c 0 t.place (sort_of t.kind)) (λ t. move_bracketed frames head out place c t.place (sort_of t.kind)) ts
    (λ t rest. not_closed nodes us frames head out place c t.place (sort_of t.kind) rest)
    (field_forth nodes us frames head out place c 0 ts k)

not_equals : (nodes : List PatNode) (us : List Token) (frames : List Frame) (frame : Frame) (out : List PatNode) (x : PatNode) (k : Sort) (ts : List Token) → Leads nodes us (close_frame frame frames (out ++ x ∷ []) k) ts → Leads nodes us (move_chosen frame frames out x k) ts
not_equals nodes us frames (First h p) out x Equals ts l = absurd l
not_equals nodes us frames (Second h p) out x Equals ts l = absurd l
not_equals nodes us frames (Given h f) out x Equals ts l = absurd l
not_equals nodes us frames frame out x k ts l = l

chosen_forth : (nodes : List PatNode) (us : List Token) (frame : Frame) (frames : List Frame) (out : List PatNode) (x : PatNode) (ts : List Token) → AfterField (Closing nodes us frames) frame x out ts → LeadsBy nodes us (λ t. move_chosen frame frames out x (sort_of t.kind)) ts
chosen_forth nodes us frame frames out x ts (alone k) =
    lead_on nodes us (λ t. close_frame frame frames (out ++ x ∷ []) (sort_of t.kind)) (λ t. move_chosen frame frames out x (sort_of t.kind)) ts
    (λ t rest. not_equals nodes us frames frame out x (sort_of t.kind) rest)
    (frame_forth nodes us frame frames (out ++ x ∷ []) ts k)
chosen_forth nodes us frame frames out x ts (given {s = t} {ts = rest} m d k) =
    by_sort nodes us (move_chosen frame frames out x) t rest Equals m (λ e. cc) (pat_to_come _ out rest _ _ d k)

-- a token is taken, or the reader is done
pub data Outcome (nodes : List PatNode) (us : List Token) (reader : PatReader) (ts : List Token) : Type 0 where
  stops : done reader ≡ Some nodes → ts ≡ us → Outcome nodes us reader ts
  goes : LeadsBy nodes us (moved reader) ts → Outcome nodes us reader ts

stops_named : (nodes : List PatNode) (us : List Token) (frames : List Frame) (head : Head) (out : List PatNode) (place : Place) (c : Name) (ts : List Token) → Stops nodes us frames (end_head (named_head head place c) (named_nodes head place c out)) ts → done (at_last frames head (Named place c) out) ≡ Some nodes
unfolding done
stops_named nodes us frames head out place c ts s = ap (λ (fs : List Frame). if is_empty fs then done_last (Named place c) head out else None) s.none_open ∙ ap Some s.is

stops_done : (nodes : List PatNode) (us : List Token) (frames : List Frame) (head : Head) (out : List PatNode) (ts : List Token) → Stops nodes us frames (end_head head out) ts → done (at_last frames head Done out) ≡ Some nodes
unfolding done
stops_done nodes us frames head out ts s = ap (λ (fs : List Frame). if is_empty fs then done_last Done head out else None) s.none_open ∙ ap Some s.is

last_forth : (nodes : List PatNode) (us : List Token) (last : Last) (frames : List Frame) (head : Head) (out : List PatNode) (ts : List Token) → RestLast last (Closing nodes us frames) head out ts → Outcome nodes us (at_last frames head last out) ts
unfolding moved
last_forth nodes us Wanted frames head out ts k = goes (begin_forth nodes us frames head out ts k)
last_forth nodes us (Opened place) frames head out ts k = goes (opened_forth nodes us frames head out place ts k)
last_forth nodes us (Named place c) frames head out ts k =
    elim (named_forth nodes us frames head out place c ts k) [ inl l ↦ goes l | inr s ↦ stops (stops_named nodes us frames head out place c ts s) s.left ]
last_forth nodes us Done frames head out ts k =
    elim (go_on_forth nodes us frames head out ts k) [ inl l ↦ goes l | inr s ↦ stops (stops_done nodes us frames head out ts s) s.left ]
last_forth nodes us (Bracketed place c) frames head out ts k = goes (bracketed_forth nodes us frames head out place c ts k)
last_forth nodes us (Parted place c count) frames head out ts k = goes (field_forth nodes us frames head out place c count ts k)
last_forth nodes us (Chosen f) frames head out ts k =
    goes (chosen_forth nodes us (Given head f) frames out (node.Var f.field_place f.field) ts k)

pub forth : (nodes : List PatNode) (us : List Token) (reader : PatReader) (ts : List Token) → Rest nodes us reader ts → Outcome nodes us reader ts
forth nodes us reader ts k = last_forth nodes us reader.last reader.frames reader.head reader.nodes ts k
