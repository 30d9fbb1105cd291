-- The rules of layout, each of one token: what is inserted before it, and what the stack is after it.
-- A token first begins the block that is owed, if one is; else, or if that block is empty, it is aligned where it is the
-- first of its line; and then it acts by its own role. A token for which no rule is given cannot stand.
use Rattle.std.specs.Prelude.{ℕ, Bool, true, false, ◌&&◌, not, ◌==◌, nat_lt, List, [], ◌∷◌, ◌++◌, Option, Some, None, is_none, replicate, if◌then◌else◌}
use Rattle.hb_layout.specs.declared.entry.Opener.{Opener}
use Rattle.hb_layout.specs.declared.entry.Entry.{Entry}
use Rattle.hb_layout.specs.declared.entry.Entry.TheVariants.{Bracket, Explicit, Implicit}
use Rattle.hb_layout.specs.declared.role.Role.{Role}
use Rattle.hb_layout.specs.declared.role.Role.TheVariants.{Block, Of, Follows, In, Opens, Closes, Semicolon, End, Plain}
use Rattle.hb_layout.specs.Roles.{continues}
use Rattle.hb_layout.specs.Stacks.{Stack, opened, innermost, unmarked, close, closed, marked_if, is_let, is_implicit, is_wider, leading, ended_let}

-- the bytes of the marks that are inserted
abbrev pub open_brace : ℕ
open_brace = 123

abbrev pub close_brace : ℕ
close_brace = 125

abbrev pub semicolon : ℕ
semicolon = 59

-- the marks inserted, by their bytes in their order, and the stack after; none where no rule lets the token stand
abbrev pub Move : Type 0
Move = Option (List ℕ × Stack)

abbrev pub inserting : List ℕ → Move → Move
inserting marks None = None
inserting marks (Some m) = Some (marks ++ m.0, m.1)

-- so many `}`
abbrev pub closings : ℕ → List ℕ
closings n = replicate n close_brace

-- The enclosing column is that of the innermost implicit block, if no bracket or explicit block was opened after it,
-- and 0 if there is none.
abbrev pub column_of : Option Entry → ℕ
column_of (Some (Implicit column w)) = column
column_of (Some (Explicit w)) = 0
column_of (Some (Bracket m)) = 0
column_of None = 0

abbrev pub enclosing : Stack → ℕ
enclosing s = column_of (innermost s)

abbrev pub stands_at : ℕ → Option Entry → Bool
stands_at column (Some (Implicit other w)) = column == other
stands_at column (Some (Explicit w)) = false
stands_at column (Some (Bracket m)) = false
stands_at column None = false

-- The rule of lines, of a token that is the first of its line and has not just opened a block. While the innermost
-- entry, due marks aside, is an implicit block of a greater column, it closes with an inserted `}`. If the innermost entry
-- is then an implicit block of the same column, `;` is inserted, unless the token is `then`, `else`, `of` or `in`. A `;`
-- removes the due marks on top.
abbrev pub align_after : Bool → ℕ → Stack → List ℕ × Stack
align_after parts n s = if parts then (closings n ++ semicolon ∷ [], unmarked s) else (closings n, s)

abbrev pub aligned : ℕ → Bool → Stack → List ℕ × Stack
aligned column goes_on s =
    let n = leading (is_wider column) s in
    align_after (stands_at column (innermost (closed n s)) && not goes_on) n (closed n s)

-- The rule of closing brackets, and of `}`. The implicit blocks opened inside its partner close with inserted `}`, and
-- then the partner, which is a bracket of its kind, or for `}` also an explicit block. If that is missing or of another
-- kind, there is no rule.
abbrev pub is_partner : ℕ → Option Entry → Bool
is_partner m (Some (Bracket other)) = m == other
is_partner m (Some (Explicit w)) = m == open_brace
is_partner m (Some (Implicit column w)) = false
is_partner m None = false

abbrev pub bracket_closed : ℕ → Stack → Move
bracket_closed m s =
    let n = leading is_implicit s in
    if is_partner m (innermost (closed n s)) then Some (closings n, close (closed n s)) else None

-- the rule of `in`, with the `}` of the blocks that close
abbrev pub let_ended : Option (ℕ × Stack) → Move
let_ended None = None
let_ended (Some p) = Some (closings p.0, p.1)

-- The rule of the end. All implicit blocks close with inserted `}`; where a bracket or an explicit block is open, there
-- is no rule.
abbrev pub all_closed : Stack → Move
all_closed s =
    let n = leading is_implicit s in
    if is_none (innermost (closed n s)) then Some (closings n, closed n s) else None

-- What a token does by its own role. A comma and `else` are plain: they close nothing.
abbrev pub acted : Role → Stack → Move
acted (Opens m) s = Some ([], opened (Bracket m) ∷ s)
acted (Closes m) s = bracket_closed m s
-- a written `;` removes the due marks on top, as an inserted one does
acted Semicolon s = Some ([], unmarked s)
acted In s = let_ended (ended_let s)
acted End s = all_closed s
acted (Block w) s = Some ([], s)
acted Of s = Some ([], s)
acted Follows s = Some ([], s)
acted Plain s = Some ([], s)

-- a token that has not just opened a block
abbrev pub settled : Bool → ℕ → Role → Stack → Move
settled true column r s =
    let a = aligned column (continues r) s in
    inserting a.0 (acted r a.1)
settled false column r s = acted r s

abbrev pub is_brace : Role → Bool
is_brace (Opens m) = m == open_brace
is_brace r = false

abbrev pub is_end : Role → Bool
is_end End = true
is_end r = false

-- The rule of blocks, of the first token of the text and of a token after `where`, `let`, `of` or `do`.
abbrev pub begun : Opener → Bool → ℕ → Role → Stack → Move
begun w first column r s =
    -- a `{` opens the block itself
    if is_brace r then Some ([], opened (Explicit w) ∷ s)
    -- a token right of the enclosing column, but not the end, opens an implicit block of its column, after a `{`
    else if nat_lt (enclosing s) column && not (is_end r) then inserting (open_brace ∷ []) (acted r (opened (Implicit column w) ∷ s))
    -- else `{` and `}` are inserted: the block is empty, and closed at once
    else inserting (open_brace ∷ close_brace ∷ []) (settled first column r (marked_if (is_let w) s))

-- the move of a token, where the one before it may have opened a block
abbrev pub moved : Option Opener → Bool → ℕ → Role → Stack → Move
moved None first column r s = settled first column r s
moved (Some w) first column r s = begun w first column r s
