-- A whole pattern ends before a token that begins no pattern and is no `[`.
use Rattle.std.proofs.Common.{◌≡◌, ◌+◌, Bool, true, false, List, [], ◌∷◌, Option, None, refl, ap}
use Rattle.std.specs.Prelude.{is_some, if◌then◌else◌}
use Rattle.hb_base.specs.declared.name.Name.{Name}
use Rattle.hb_base.specs.declared.place.Place.{Place}
use Rattle.hb_read_patterns.specs.declared.node.PatNode.{PatNode}
use Rattle.hb_read_patterns.specs.declared.sort.Sort.{Sort}
use Rattle.hb_read_patterns.specs.declared.sort.Sort.TheVariants.{Close, OpenSquare, CloseSquare, Comma, Bar, Equals, Other}
use Rattle.hb_read_patterns.specs.declared.start.Start.{Start}
use Rattle.hb_read_patterns.specs.declared.head.Head.{Head}
use Rattle.hb_read_patterns.specs.declared.head.Head.TheVariants.{Whole, Single, Applied, Many}
use Rattle.hb_read_patterns.specs.declared.frame.Frame.{Frame}
use Rattle.hb_read_patterns.specs.declared.reader.Last.{Last}
use Rattle.hb_read_patterns.specs.declared.reader.Last.TheVariants.{Named, Done}
use Rattle.hb_read_patterns.specs.declared.reader.PatReader.{PatReader}
use Rattle.hb_stack.specs.Stacks.{is_empty}
use Rattle.hb_read_patterns.specs.Sorts.{sort_of}
use Rattle.hb_read_patterns.specs.Heads.{named_head, named_nodes}
use Rattle.hb_read_patterns.specs.Starts.{start_of}
use Rattle.hb_read_patterns.specs.Moves.{started, go_on, move_named, move_last, done_last, moved, done}
use Rattle.hb_read_patterns.specs.Exactly.{goes_on, EndsBefore}

not_both : {A : Type 0} → Path Bool true false → A
not_both e = absurd (cc)

no_start : (place : Place) (k : Sort) → goes_on k ≡ false → start_of place k ≡ None
no_start place Close e = refl
no_start place CloseSquare e = refl
no_start place Comma e = refl
no_start place Bar e = refl
no_start place Equals e = refl
no_start place Other e = refl
no_start place k e = not_both e

done_ends : (head : Head) (nodes : List PatNode) (place : Place) (k : Sort) → goes_on k ≡ false → go_on [] head nodes place k ≡ None
done_ends Whole nodes place k e = refl
done_ends Single nodes place k e = refl
done_ends (Applied p c n) nodes place k e = ap (λ (o : Option Start). started [] (Applied p c (n + 1)) nodes None o) (no_start place k e)
done_ends (Many n) nodes place k e = ap (λ (o : Option Start). started [] (Many (n + 1)) nodes None o) (no_start place k e)

named_ends : (head : Head) (nodes : List PatNode) (at : Place) (con : Name) (place : Place) (k : Sort) → goes_on k ≡ false → move_named [] head nodes at con place k ≡ None
named_ends head nodes at con place OpenSquare e = not_both e
named_ends head nodes at con place k e = done_ends (named_head head at con) (named_nodes head at con nodes) place k e

last_ends : (last : Last) (frames : List Frame) (head : Head) (nodes : List PatNode) (place : Place) (k : Sort) → is_some (if is_empty frames then done_last last head nodes else None) ≡ true → goes_on k ≡ false → move_last last frames head nodes place k ≡ None
last_ends (Named at con) [] head nodes place k d e = named_ends head nodes at con place k e
last_ends Done [] head nodes place k d e = done_ends head nodes place k e
last_ends last [] head nodes place k d e = absurd (cc)
last_ends last (frame ∷ frames) head nodes place k d e = absurd (cc)

pub ends_before : (reader : PatReader) → is_some (done reader) ≡ true → EndsBefore reader
unfolding done moved
ends_before reader d t e = last_ends reader.last reader.frames reader.head reader.nodes t.place (sort_of t.kind) d e
