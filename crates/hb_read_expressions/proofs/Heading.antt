-- A statement's head, where a token is taken by one of two readers alone.
use Rattle.std.proofs.Common.{◌≡◌, true, false, List, ◌∷◌, ◌++◌, Option, Some, None, is_some, refl, ap, ◌∙◌}
use Rattle.hb_tokens.specs.declared.token.Token.{Token}
use Rattle.hb_read_patterns.specs.declared.node.PatNode.{PatNode}
use Rattle.hb_read_patterns.specs.declared.reader.PatReader.{PatReader}
use Rattle.hb_read_patterns.specs.Moves.{done as pat_done}
use Rattle.hb_read_expressions.specs.declared.ends.StatementHead.{StatementHead}
use Rattle.hb_read_expressions.specs.declared.frame.Frame.TheVariants as frame
use Rattle.hb_read_expressions.specs.declared.now.Now.{Now}
use Rattle.hb_read_expressions.specs.declared.now.Now.TheVariants as now
use Rattle.hb_read_expressions.specs.declared.sort.Sort.{Sort}
use Rattle.hb_read_expressions.specs.declared.sort.Sort.TheVariants as sort
use Rattle.hb_read_expressions.specs.declared.state.Core.{Core}
use Rattle.hb_read_expressions.specs.Inside.{if_done, with_pats}
use Rattle.hb_read_expressions.specs.Nodes.{wrapped}
use Rattle.hb_read_expressions.specs.Settling.{CutTo}
use Rattle.hb_read_expressions.specs.Sorts.{sort_of}
use Rattle.hb_read_expressions.specs.States.{at, state}
use Rattle.hb_read_expressions.specs.Statements.{cut, both, pattern_alone, arrow_at, stmt_next}

none_of : {A : Type 0} (o : Option A) → is_some o ≡ false → o ≡ None
none_of None h = refl
none_of (Some a) h = absurd (cc)

-- where there is no statement's head to go back to, nothing is taken
pub refused_both : (old : Core) (pats : PatReader) (p : Option PatReader) → is_some (cut old.frames old.nodes) ≡ false → both old None pats p ≡ None
refused_both old pats None h = refl
refused_both old pats (Some r) h = ap (pattern_alone r) (none_of (cut old.frames old.nodes) h)

-- where there is one, the reader goes back to it
pub cuts_to : (o : Option Core) (found : Option StatementHead) (new : Core) → is_some o ≡ true → CutTo o found new → o ≡ Some new
cuts_to o (Some head) new h c = c.0
cuts_to o None new h c = absurd (cc)

pub arrow_none : (o : Option Core) (pats : PatReader) (t : Token) → pat_done pats ≡ None → arrow_at o pats t ≡ None
arrow_none None pats t h = refl
arrow_none (Some core) pats t h = ap (λ d. if_done d (λ ns. with_pats pats (stmt_next core.last core.frames (core.nodes ++ wrapped ns) (sort_of t.kind)))) h

pub no_arrow : (o : Option Core) (pats : PatReader) (t : Token) → is_some o ≡ false → arrow_at o pats t ≡ None
no_arrow None pats t h = refl
no_arrow (Some core) pats t h = absurd (cc)

next_is : (last : Now) (head : StatementHead) (x : Sort) (core : Core) (ns : List PatNode) → last ≡ now.StmtPat head.begun head.place head.before → x ≡ sort.LeftArrow → stmt_next last core.frames (core.nodes ++ wrapped ns) x ≡ Some (at (frame.Taken head.begun head.place head.before ∷ core.frames) now.Want (core.nodes ++ wrapped ns))
next_is last head x core ns l k = ap (λ y. stmt_next y core.frames (core.nodes ++ wrapped ns) x) l ∙ ap (λ y. stmt_next (now.StmtPat head.begun head.place head.before) core.frames (core.nodes ++ wrapped ns) y) k

pub arrow_takes : (o : Option Core) (core : Core) (head : StatementHead) (pats : PatReader) (ns : List PatNode) (t : Token) → o ≡ Some core → core.last ≡ now.StmtPat head.begun head.place head.before → pat_done pats ≡ Some ns → sort_of t.kind ≡ sort.LeftArrow → arrow_at o pats t ≡ Some (state (at (frame.Taken head.begun head.place head.before ∷ core.frames) now.Want (core.nodes ++ wrapped ns)) pats false)
arrow_takes o core head pats ns t e l d k =
    ap (λ y. arrow_at y pats t) e
    ∙ ap (λ y. if_done y (λ xs. with_pats pats (stmt_next core.last core.frames (core.nodes ++ wrapped xs) (sort_of t.kind)))) d
    ∙ ap (with_pats pats) (next_is core.last head (sort_of t.kind) core ns l k)
