-- What a token is to the layout.
use Rattle.std.specs.Prelude.{ℕ, Bool, true, false, ◌||◌, ◌==◌, if◌then◌else◌, Option, Some, None}
use Rattle.hb_tokens.specs.declared.word.Word.{Word}
use Rattle.hb_tokens.specs.declared.word.Word.TheVariants as word
use Rattle.hb_tokens.specs.declared.token.TokenKind.{TokenKind}
use Rattle.hb_tokens.specs.declared.token.TokenKind.TheVariants as kind
use Rattle.hb_layout.specs.declared.entry.Opener.{Opener}
use Rattle.hb_layout.specs.declared.entry.Opener.TheVariants.{Let, Other}
use Rattle.hb_layout.specs.declared.role.Role.{Role}
use Rattle.hb_layout.specs.declared.role.Role.TheVariants.{Block, Of, Follows, In, Opens, Closes, Semicolon, End, Plain}

abbrev pub word_role : Word → Role
word_role word.Where = Block Other
word_role word.Do = Block Other
word_role word.Let = Block Let
word_role word.Of = Of
word_role word.Then = Follows
word_role word.Else = Follows
word_role word.In = In
word_role w = Plain

-- By its byte: `(` is 40, `)` 41, `;` 59, `[` 91, `]` 93, `{` 123, `}` 125. A closing bracket closes its partner.
abbrev pub mark_role : ℕ → Role
mark_role m =
    if m == 40 || m == 91 || m == 123 then Opens m
    else if m == 41 then Closes 40
    else if m == 93 then Closes 91
    else if m == 125 then Closes 123
    else if m == 59 then Semicolon
    else Plain

abbrev pub role_of : TokenKind → Role
role_of (kind.Word w) = word_role w
role_of (kind.Mark m) = mark_role m
role_of kind.End = End
role_of k = Plain

-- `then`, `else`, `of` and `in` go on with what stands before them
abbrev pub continues : Role → Bool
continues Of = true
continues Follows = true
continues In = true
continues r = false

-- the block that a token opens, which begins at the next token: `where`, `let`, `of` and `do` open one
abbrev pub owed_after : Role → Option Opener
owed_after (Block w) = Some w
owed_after Of = Some Other
owed_after r = None
