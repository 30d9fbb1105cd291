-- How the logic stores a thread of the reader of programs: by the frames that are kept for it.
use Rattle.std.proofs.Common.{◌≡◌, refl, ap, ◌∙◌, List, [], ◌∷◌}
use Rattle.std.specs.Coded.{Coded, code_by, coded×, coded_list}
use Rattle.hb_engine.specs.Tables.{Thread, thread}
use Rattle.hb_read_declarations.specs.declared.node.DeclNode.{DeclNode}
use Rattle.hb_read_declarations.specs.contracts.node.DeclNode as node_type
use Rattle.hb_read_program.specs.contracts.frame.Frame as kept_type
use Rattle.hb_read_program.specs.declared.symbol.Leaf.TheVariants as leaf
use Rattle.hb_read_program.specs.Rules.{Leaf}
use Rattle.hb_read_program.specs.Frames.{Frame, LeafState, waits, reads, reads_line, reads_class}
use Rattle.hb_read_program.specs.declared.frame.LeafReader.TheVariants as leaf_kept
use Rattle.hb_read_program.specs.declared.frame.Frame.TheVariants as kept
use Rattle.hb_read_program.specs.Running.{LeafReader, Kept, seen_leaf, seen_frame, seen}

abbrev pub kept_leaf : (l : Leaf) → LeafState l → LeafReader
kept_leaf leaf.Type s = leaf_kept.Type s
kept_leaf leaf.Atype s = leaf_kept.Atype s
kept_leaf leaf.Pred s = leaf_kept.Pred s
kept_leaf leaf.Qualified s = leaf_kept.Qualified s
kept_leaf leaf.Expr s = leaf_kept.Expr s
kept_leaf leaf.Equation s = leaf_kept.Equation s

pub seen_kept_leaf : (l : Leaf) (s : LeafState l) → seen_leaf (kept_leaf l s) ≡ reads l s
seen_kept_leaf leaf.Type s = refl
seen_kept_leaf leaf.Atype s = refl
seen_kept_leaf leaf.Pred s = refl
seen_kept_leaf leaf.Qualified s = refl
seen_kept_leaf leaf.Expr s = refl
seen_kept_leaf leaf.Equation s = refl

abbrev pub kept_frame : Frame → Kept
kept_frame (waits s p n) = kept.Waits s p n
kept_frame (reads l s) = kept.Reads (kept_leaf l s)
kept_frame (reads_line e s) = kept.Line e s
kept_frame (reads_class c h) = kept.Class c h

pub seen_kept_frame : (f : Frame) → seen_frame (kept_frame f) ≡ f
seen_kept_frame (waits s p n) = refl
seen_kept_frame (reads l s) = seen_kept_leaf l s
seen_kept_frame (reads_line e s) = refl
seen_kept_frame (reads_class c h) = refl

abbrev pub kept_frames : List Frame → List Kept
kept_frames [] = []
kept_frames (f ∷ fs) = kept_frame f ∷ kept_frames fs

pub seen_kept : (fs : List Frame) → seen (kept_frames fs) ≡ fs
seen_kept [] = refl
seen_kept (f ∷ fs) = ap (λ g. g ∷ seen (kept_frames fs)) (seen_kept_frame f) ∙ ap (λ gs. f ∷ gs) (seen_kept fs)

abbrev pub coded_thread : Coded (Thread Frame DeclNode)
coded_thread = code_by (List Kept × List DeclNode) (coded× (coded_list kept_type.the_row.coded) (coded_list node_type.the_row.coded)) (λ s. (kept_frames s.frames, s.nodes)) (λ p. thread (seen p.0) p.1) (λ s. ap (λ fs. thread fs s.nodes) (seen_kept s.frames))
