-- What the reader of programs is exact against.
use Rattle.std.specs.Prelude.{◌≡◌, List, ◌∷◌}
use Rattle.hb_tokens.specs.declared.token.Token.{Token}
use Rattle.hb_tree.specs.declared.declaration.Decl.{Decl}
use Rattle.hb_tree.specs.declared.declaration.Program.{Program}
use Rattle.hb_grammar.specs.Tokens.{IsOpenBrace, IsEnd}
use Rattle.hb_grammar.specs.Declarations.{ReadsDecls}

-- the tokens ts begin with something that the family reads, and v is made of it
pub record Made {A V : Type 0} (Reads : List Token → A → List Token → Type 0) (f : A → V) (ts : List Token) (v : V) (us : List Token) : Type 0 where
  pub thing : A
  pub read : Reads ts thing us
  pub is : v ≡ f thing

-- the tokens ts begin with a program and its end, and us are left
pub data ProgramRead : List Token → Program → List Token → Type 0 where
  program_read : {t s : Token} {ts us : List Token} {ds : List Decl} → IsOpenBrace t → ReadsDecls ts ds (s ∷ us) → IsEnd s → ProgramRead (t ∷ ts) (record { decls = ds }) us
