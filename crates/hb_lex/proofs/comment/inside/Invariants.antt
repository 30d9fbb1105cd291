use Rattle.std.proofs.Common.{◌≡◌, ◌+◌, ◌-◌, ◌<◌, ◌≤◌, length, drop}
use Rattle.hb_lex.proofs.CommentLaws.{size, plus}
use Rattle.hb_lex.proofs.comment.inside.Given as goal

-- the comments that are open count the bytes left
abbrev pub invariant-loop-place : goal.invariant-loop-place
invariant-loop-place l = record {
  counted : size 1 l.bytes ≡ plus l.place (size l.depth (drop l.place l.bytes));
  some : 0 < l.depth;
  few : l.depth ≤ l.place + 1;
  within : l.place ≤ length l.bytes;
}

abbrev pub decreases-loop-place : goal.decreases-loop-place
decreases-loop-place l = length l.bytes - l.place
