-- How the parts of the reader of programs make a move of its machine.
use Rattle.std.proofs.Common.{◌≡◌, refl, sym, ap, ◌∙◌, ℕ, ◌<◌, true, false, List, [], ◌∷◌, ◌++◌, length, arith}
use Rattle.std.specs.Prelude.{Option, Some, None}
use Rattle.hb_base.specs.declared.place.Place.{Place}
use Rattle.hb_tokens.specs.declared.token.Token.{Token}
use Rattle.hb_engine.specs.Tables.{Thread, thread, turned, moved, whole, put_behind}
use Rattle.hb_read_declarations.specs.declared.node.DeclNode.{DeclNode}
use Rattle.hb_read_declarations.specs.Readers.{Out}
use Rattle.hb_read_program.specs.Rules.{Leaf, Item}
use Rattle.hb_read_program.specs.Frames.{Frame, waits, reads, ATurn, turn_to, LeafState, leaf_reader, begun, count_of, frames_of, frame_turn, frame_nothing, rules}
use Rattle.hb_read_program.specs.declared.frame.Frame.TheVariants as kept
use Rattle.hb_read_program.specs.declared.run.Step.TheVariants as step
use Rattle.hb_read_program.specs.Running.{LeafReader, Kept, seen_leaf, seen_frame, seen, Stepped, Ended, LeafTook, LeafBegan}

-- the last of some symbols goes on the stack first

frames_of_last : (xs : List Item) (i : Item) (p : Place) (n : ℕ) (t : Token) (rest : List Frame) → frames_of (xs ++ i ∷ []) p n t ++ rest ≡ frames_of xs p n t ++ (waits i.symbol p (count_of i.count n t) ∷ rest)
frames_of_last [] i p n t rest = refl
frames_of_last (x ∷ xs) i p n t rest = ap (λ fs. waits x.symbol p (count_of x.count n t) ∷ fs) (frames_of_last xs i p n t rest)

pub pushed_last : (left before : List Item) (i : Item) (p : Place) (n : ℕ) (t : Token) (parts : ℕ) (old new : List Kept) → left ≡ before ++ i ∷ [] → parts ≡ count_of i.count n t → new ≡ kept.Waits i.symbol p parts ∷ old → frames_of before p n t ++ seen new ≡ frames_of left p n t ++ seen old
pushed_last left before i p n t parts old new e c f = rw (f, e, c) (sym (frames_of_last before i p n t (seen old)))

-- a frame took the token, was nothing, or neither

taken_at : (turn : Option ATurn) (nothing : Option Out) (fs : List Frame) (out : Out) (next : Out → Option (Thread Frame DeclNode)) (new : Thread Frame DeclNode) → Stepped step.Taken turn nothing (thread fs out) new → turned turn nothing fs out next ≡ Some new
taken_at (Some n) nothing fs out next new h = ap Some (sym h)
taken_at None nothing fs out next new h = absurd h

refused_at : (turn : Option ATurn) (nothing : Option Out) (fs : List Frame) (out : Out) (next : Out → Option (Thread Frame DeclNode)) (new : Thread Frame DeclNode) → Stepped step.Refused turn nothing (thread fs out) new → turned turn nothing fs out next ≡ None
refused_at (Some n) nothing fs out next new h = absurd h
refused_at None (Some ns) fs out next new h = absurd h
refused_at None None fs out next new h = refl

passed_at : (turn : Option ATurn) (nothing : Option Out) (fs : List Frame) (out : Out) (t : Token) (new : Thread Frame DeclNode) → Stepped step.Passed turn nothing (thread fs out) new → moved rules new.frames new.nodes t ≡ turned turn nothing fs out (λ ns. moved rules fs ns t)
passed_at (Some n) nothing fs out t new h = absurd h
passed_at None None fs out t new h = absurd h
passed_at None (Some ns) fs out t new h = ap (λ s. moved rules s.frames s.nodes t) h

passed_frames_at : (turn : Option ATurn) (nothing : Option Out) (fs : List Frame) (out : Out) (new : Thread Frame DeclNode) → Stepped step.Passed turn nothing (thread fs out) new → new.frames ≡ fs
passed_frames_at (Some n) nothing fs out new h = absurd h
passed_frames_at None None fs out new h = absurd h
passed_frames_at None (Some ns) fs out new h = ap (λ s. s.frames) h

pub when_taken : (f : Kept) (all fs : List Kept) (out : Out) (t : Token) (new : Thread Frame DeclNode) → all ≡ f ∷ fs → Stepped step.Taken (frame_turn (seen_frame f) t) (frame_nothing (seen_frame f)) (thread (seen fs) out) new → moved rules (seen all) out t ≡ Some new
when_taken f all fs out t new e h = rw e (taken_at (frame_turn (seen_frame f) t) (frame_nothing (seen_frame f)) (seen fs) out (λ ns. moved rules (seen fs) ns t) new h)

pub when_refused : (f : Kept) (all fs : List Kept) (out : Out) (t : Token) (new : Thread Frame DeclNode) → all ≡ f ∷ fs → Stepped step.Refused (frame_turn (seen_frame f) t) (frame_nothing (seen_frame f)) (thread (seen fs) out) new → moved rules (seen all) out t ≡ None
when_refused f all fs out t new e h = rw e (refused_at (frame_turn (seen_frame f) t) (frame_nothing (seen_frame f)) (seen fs) out (λ ns. moved rules (seen fs) ns t) new h)

pub when_passed : (f : Kept) (all fs : List Kept) (out : Out) (t : Token) (new : Thread Frame DeclNode) → all ≡ f ∷ fs → Stepped step.Passed (frame_turn (seen_frame f) t) (frame_nothing (seen_frame f)) (thread (seen fs) out) new → moved rules new.frames new.nodes t ≡ moved rules (seen all) out t
when_passed f all fs out t new e h = rw e (passed_at (frame_turn (seen_frame f) t) (frame_nothing (seen_frame f)) (seen fs) out t new h)

pub fewer_frames : (f : Kept) (all fs : List Kept) (out : Out) (t : Token) (new : Thread Frame DeclNode) → all ≡ f ∷ fs → Stepped step.Passed (frame_turn (seen_frame f) t) (frame_nothing (seen_frame f)) (thread (seen fs) out) new → length new.frames < length (seen all)
fewer_frames f all fs out t new e h = rw (e, passed_frames_at (frame_turn (seen_frame f) t) (frame_nothing (seen_frame f)) (seen fs) out new h) (omega arith)

-- a frame that no more tokens are read for

ended_at : (nothing : Option Out) (fs : List Frame) (out new : Out) → Ended true nothing out new → whole rules fs new ≡ put_behind nothing out (λ ns. whole rules fs ns)
ended_at None fs out new h = absurd h
ended_at (Some ns) fs out new h = ap (whole rules fs) h

not_ended_at : (nothing : Option Out) (fs : List Frame) (out new : Out) → Ended false nothing out new → put_behind nothing out (λ ns. whole rules fs ns) ≡ None
not_ended_at None fs out new h = refl
not_ended_at (Some ns) fs out new h = absurd h

pub when_ended : (f : Kept) (all fs : List Kept) (out new : Out) → all ≡ f ∷ fs → Ended true (frame_nothing (seen_frame f)) out new → whole rules (seen fs) new ≡ whole rules (seen all) out
when_ended f all fs out new e h = rw e (ended_at (frame_nothing (seen_frame f)) (seen fs) out new h)

pub when_not_ended : (f : Kept) (all fs : List Kept) (out new : Out) → all ≡ f ∷ fs → Ended false (frame_nothing (seen_frame f)) out new → whole rules (seen all) out ≡ None
when_not_ended f all fs out new e h = rw e (not_ended_at (frame_nothing (seen_frame f)) (seen fs) out new h)

-- a reader of its own that takes a token

abbrev first_or : Frame → List Frame → Frame
first_or x [] = x
first_or x (f ∷ fs) = f

abbrev first_in : Frame → Option ATurn → Frame
first_in x None = x
first_in x (Some n) = first_or x n.frames

began : (l : Leaf) (m : Option (LeafState l)) (x : Frame) (fs : List Frame) → begun l m [] ≡ Some (turn_to (x ∷ []) []) → begun l m fs ≡ Some (turn_to (x ∷ fs) [])
began l None x fs e = cc
began l (Some s) x fs e = let h : reads l s ≡ x = ap (first_in x) e in rw h refl

not_begun : (l : Leaf) (m : Option (LeafState l)) (fs : List Frame) → begun l m [] ≡ None → begun l m fs ≡ None
not_begun l None fs e = refl
not_begun l (Some s) fs e = cc

pub leaf_began : (l : Leaf) (r s : LeafReader) (t : Token) → seen_leaf r ≡ reads l (leaf_reader l).start → LeafTook true (frame_turn (seen_leaf r) t) r s → LeafBegan l t (Some s)
leaf_began l r s t e h = λ fs. began l ((leaf_reader l).move (leaf_reader l).start t) (seen_leaf s) fs (ap (λ f. frame_turn f t) (sym e) ∙ h)

pub leaf_not_begun : (l : Leaf) (r s : LeafReader) (t : Token) → seen_leaf r ≡ reads l (leaf_reader l).start → LeafTook false (frame_turn (seen_leaf r) t) r s → LeafBegan l t None
leaf_not_begun l r s t e h = λ fs. not_begun l ((leaf_reader l).move (leaf_reader l).start t) fs (ap (λ f. frame_turn f t) (sym e) ∙ h.0)
