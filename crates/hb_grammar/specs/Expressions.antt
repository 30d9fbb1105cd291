-- Expressions, statements and equations. An expression stands at its first token, and one in brackets at what is
-- inside; an application stands at the argument that it adds.
use Rattle.std.specs.Prelude.{ℕ, List, [], ◌∷◌}
use Rattle.hb_base.specs.declared.name.Name.{Name}
use Rattle.hb_base.specs.declared.place.Place.{Place}
use Rattle.hb_tokens.specs.declared.token.Token.{Token}
use Rattle.hb_tokens.specs.declared.word.Word.TheVariants as word
use Rattle.hb_tree.specs.Patterns.{Pat, Pats, NoPats, MorePats}
use Rattle.hb_tree.specs.Expressions.{Expr, AnExpr, ExprKind, Var, Con, Number, Bits, Unit, Apply, Run, Lambda, Let, If, Case, Do, Select, Build, Update, Pair, Exprs, NoExprs, MoreExprs, FieldExprs, NoFieldExprs, MoreFieldExprs, Alts, NoAlts, MoreAlts, Stmts, NoStmts, TakeThen, LetThen, DoThen, Binds, NoBinds, MoreBinds, Equations, NoEquations, MoreEquations}
use Rattle.hb_grammar.specs.Tokens.{IsVar, IsCon, IsOp, IsWord, IsNumber, IsBits, IsDot, IsOpen, IsClose, IsComma, IsSemicolon, IsOpenSquare, IsCloseSquare, IsBackquote, IsOpenBrace, IsCloseBrace, first_place}
use Rattle.hb_grammar.specs.Patterns.{ReadsPat, ReadsApat, ReadsApats}

-- an expression as it is read, with no number yet
abbrev pub expression : Place → ExprKind → Expr
expression place kind = AnExpr 0 place kind

abbrev pub place_of : Expr → Place
place_of (AnExpr node place kind) = place

abbrev pub pats_list : Pats → List Pat
pats_list NoPats = []
pats_list (MorePats p ps) = p ∷ pats_list ps

-- name = varid | "(" op ")"
pub data ReadsName : List Token → Place → Name → List Token → Type 0 where
  var : {t : Token} {us : List Token} {name : Name} → IsVar name t → ReadsName (t ∷ us) t.place name us
  op : {t s r : Token} {us : List Token} {name : Name} → IsOpen t → IsOp name s → IsClose r → ReadsName (t ∷ s ∷ r ∷ us) t.place name us

-- infix = op | "`" varid "`"
pub data ReadsInfix : List Token → Place → Name → List Token → Type 0 where
  op : {t : Token} {us : List Token} {name : Name} → IsOp name t → ReadsInfix (t ∷ us) t.place name us
  named : {t s r : Token} {us : List Token} {name : Name} → IsBackquote t → IsVar name s → IsBackquote r → ReadsInfix (t ∷ s ∷ r ∷ us) s.place name us

-- lhs = name apat* | apat infix apat
pub data ReadsLeft : List Token → Name → List Pat → List Token → Type 0 where
  before : {ts us vs : List Token} {place : Place} {name : Name} {ps : Pats} → ReadsName ts place name us → ReadsApats us ps vs → ReadsLeft ts name (pats_list ps) vs
  between : {ts us vs ws : List Token} {place : Place} {name : Name} {p q : Pat} → ReadsApat ts p us → ReadsInfix us place name vs → ReadsApat vs q ws → ReadsLeft ts name (p ∷ q ∷ []) ws

mutual
  -- expr = (apply infix)* (apply | open); one operand stands for itself, several are a run
  pub data ReadsExpr : List Token → Expr → List Token → Type 0 where
    operand : {ts us : List Token} {e : Expr} → ReadsLast ts e us → ReadsExpr ts e us
    operands : {ts us vs ws : List Token} {place : Place} {name : Name} {e : Expr} {es os : Exprs} → ReadsApply ts e us → ReadsInfix us place name vs → ReadsOperands vs es os ws → ReadsExpr ts (expression (first_place ts) (Run (MoreExprs e es) (MoreExprs (expression place (Var name)) os))) ws

  -- (apply infix)* (apply | open), after an operator: the operands and the operators between them
  pub data ReadsOperands : List Token → Exprs → Exprs → List Token → Type 0 where
    last_operand : {ts us : List Token} {e : Expr} → ReadsLast ts e us → ReadsOperands ts (MoreExprs e NoExprs) NoExprs us
    more_operands : {ts us vs ws : List Token} {place : Place} {name : Name} {e : Expr} {es os : Exprs} → ReadsApply ts e us → ReadsInfix us place name vs → ReadsOperands vs es os ws → ReadsOperands ts (MoreExprs e es) (MoreExprs (expression place (Var name)) os) ws

  -- apply | open
  pub data ReadsLast : List Token → Expr → List Token → Type 0 where
    closed : {ts us : List Token} {e : Expr} → ReadsApply ts e us → ReadsLast ts e us
    opened : {ts us : List Token} {e : Expr} → ReadsOpen ts e us → ReadsLast ts e us

  -- open = "\" apat+ "->" expr | "let" block(equation) "in" expr | "if" expr "then" expr "else" expr
  --      | "case" expr "of" block1(pat "->" expr) | "do" block1(stmt), whose last stmt is an expr
  pub data ReadsOpen : List Token → Expr → List Token → Type 0 where
    lambda : {t s : Token} {ts us vs : List Token} {p : Pat} {ps : Pats} {e : Expr} → IsWord word.Backslash t → ReadsApats ts (MorePats p ps) (s ∷ us) → IsWord word.RightArrow s → ReadsExpr us e vs → ReadsOpen (t ∷ ts) (expression t.place (Lambda (pats_list (MorePats p ps)) e)) vs
    let_expr : {t s : Token} {ts us vs : List Token} {bs : Binds} {e : Expr} → IsWord word.Let t → ReadsBinds ts bs (s ∷ us) → IsWord word.In s → ReadsExpr us e vs → ReadsOpen (t ∷ ts) (expression t.place (Let bs e)) vs
    if_expr : {t s r : Token} {ts us vs ws : List Token} {c a b : Expr} → IsWord word.If t → ReadsExpr ts c (s ∷ us) → IsWord word.Then s → ReadsExpr us a (r ∷ vs) → IsWord word.Else r → ReadsExpr vs b ws → ReadsOpen (t ∷ ts) (expression t.place (If c a b)) ws
    case_expr : {t s : Token} {ts us vs : List Token} {e : Expr} {alts : Alts} → IsWord word.Case t → ReadsExpr ts e (s ∷ us) → IsWord word.Of s → ReadsAlts us alts vs → ReadsOpen (t ∷ ts) (expression t.place (Case e alts)) vs
    do_expr : {t : Token} {ts us : List Token} {stmts : Stmts} → IsWord word.Do t → ReadsStmts ts stmts us → ReadsOpen (t ∷ ts) (expression t.place (Do stmts)) us

  -- apply = post+
  pub data ReadsApply : List Token → Expr → List Token → Type 0 where
    applied : {ts us vs : List Token} {f e : Expr} → ReadsPost ts f us → AppliesTo f us e vs → ReadsApply ts e vs

  -- f is applied to the arguments that follow
  pub data AppliesTo : Expr → List Token → Expr → List Token → Type 0 where
    no_argument : {f : Expr} {ts : List Token} → AppliesTo f ts f ts
    argument : {f x e : Expr} {ts us vs : List Token} → ReadsPost ts x us → AppliesTo (expression (place_of x) (Apply f x)) us e vs → AppliesTo f ts e vs

  -- post = atom ("." varid | "[" sep(varid "=" expr, "|") "]")* | conid "[" "]"; a conid followed at once by field
  -- brackets is a construction, and any other post an update
  pub data ReadsPost : List Token → Expr → List Token → Type 0 where
    post_atom : {ts us vs : List Token} {a e : Expr} → ReadsAtom ts a us → Follows (first_place ts) a us e vs → ReadsPost ts e vs
    con_alone : {t : Token} {us : List Token} {name : Name} → IsCon name t → ReadsPost (t ∷ us) (expression t.place (Con name)) us
    con_select : {t s r : Token} {us vs : List Token} {name field : Name} {e : Expr} → IsCon name t → IsDot s → IsVar field r → Follows t.place (expression t.place (Select (expression t.place (Con name)) field)) us e vs → ReadsPost (t ∷ s ∷ r ∷ us) e vs
    build : {t s r : Token} {ts us vs : List Token} {name : Name} {fs : FieldExprs} {e : Expr} → IsCon name t → IsOpenSquare s → ReadsFieldExprs ts fs (r ∷ us) → IsCloseSquare r → Follows t.place (expression t.place (Build name fs)) us e vs → ReadsPost (t ∷ s ∷ ts) e vs
    build_empty : {t s r : Token} {us : List Token} {name : Name} → IsCon name t → IsOpenSquare s → IsCloseSquare r → ReadsPost (t ∷ s ∷ r ∷ us) (expression t.place (Build name NoFieldExprs)) us

  -- selections from and updates of e, which begins at this place
  pub data Follows : Place → Expr → List Token → Expr → List Token → Type 0 where
    nothing_follows : {p : Place} {e : Expr} {ts : List Token} → Follows p e ts e ts
    selected : {p : Place} {e d : Expr} {t s : Token} {us vs : List Token} {name : Name} → IsDot t → IsVar name s → Follows p (expression p (Select e name)) us d vs → Follows p e (t ∷ s ∷ us) d vs
    updated : {p : Place} {e d : Expr} {t s : Token} {ts us vs : List Token} {fs : FieldExprs} → IsOpenSquare t → ReadsFieldExprs ts fs (s ∷ us) → IsCloseSquare s → Follows p (expression p (Update e fs)) us d vs → Follows p e (t ∷ ts) d vs

  -- sep(varid "=" expr, "|")
  pub data ReadsFieldExprs : List Token → FieldExprs → List Token → Type 0 where
    last_field : {t s : Token} {ts us : List Token} {name : Name} {e : Expr} → IsVar name t → IsWord word.Equals s → ReadsExpr ts e us → ReadsFieldExprs (t ∷ s ∷ ts) (MoreFieldExprs t.place name e NoFieldExprs) us
    more_fields : {t s r : Token} {ts us vs : List Token} {name : Name} {e : Expr} {fs : FieldExprs} → IsVar name t → IsWord word.Equals s → ReadsExpr ts e (r ∷ us) → IsWord word.Bar r → ReadsFieldExprs us fs vs → ReadsFieldExprs (t ∷ s ∷ ts) (MoreFieldExprs t.place name e fs) vs

  -- atom = varid | number | bits | name | "(" ")" | "(" expr ")" | "(" expr "," expr ")", a conid left to the posts
  pub data ReadsAtom : List Token → Expr → List Token → Type 0 where
    atom_name : {ts us : List Token} {place : Place} {n : Name} → ReadsName ts place n us → ReadsAtom ts (expression place (Var n)) us
    atom_number : {t : Token} {us : List Token} {k : ℕ} → IsNumber k t → ReadsAtom (t ∷ us) (expression t.place (Number k)) us
    atom_bits : {t : Token} {us : List Token} {width k : ℕ} → IsBits width k t → ReadsAtom (t ∷ us) (expression t.place (Bits width k)) us
    atom_unit : {t s : Token} {us : List Token} → IsOpen t → IsClose s → ReadsAtom (t ∷ s ∷ us) (expression t.place Unit) us
    atom_inside : {t s : Token} {ts us : List Token} {e : Expr} → IsOpen t → ReadsExpr ts e (s ∷ us) → IsClose s → ReadsAtom (t ∷ ts) e us
    atom_pair : {t s r : Token} {ts us vs : List Token} {a b : Expr} → IsOpen t → ReadsExpr ts a (s ∷ us) → IsComma s → ReadsExpr us b (r ∷ vs) → IsClose r → ReadsAtom (t ∷ ts) (expression t.place (Pair a b)) vs

  -- block(equation), each equation a definition of one row, at its first token
  pub data ReadsBinds : List Token → Binds → List Token → Type 0 where
    binds : {t : Token} {ts us : List Token} {bs : Binds} → IsOpenBrace t → ReadsMoreBinds ts bs us → ReadsBinds (t ∷ ts) bs us

  -- [equation] (";" [equation])* "}"
  pub data ReadsMoreBinds : List Token → Binds → List Token → Type 0 where
    no_bind : {t : Token} {us : List Token} → IsCloseBrace t → ReadsMoreBinds (t ∷ us) NoBinds us
    empty_bind : {t : Token} {ts us : List Token} {bs : Binds} → IsSemicolon t → ReadsMoreBinds ts bs us → ReadsMoreBinds (t ∷ ts) bs us
    last_bind : {t : Token} {ts us : List Token} {name : Name} {row : Equations} → ReadsEquation ts name row (t ∷ us) → IsCloseBrace t → ReadsMoreBinds ts (MoreBinds name (first_place ts) row NoBinds) us
    more_binds : {t : Token} {ts us vs : List Token} {name : Name} {row : Equations} {bs : Binds} → ReadsEquation ts name row (t ∷ us) → IsSemicolon t → ReadsMoreBinds us bs vs → ReadsMoreBinds ts (MoreBinds name (first_place ts) row bs) vs

  -- equation = lhs "=" expr ["where" block(equation)]
  pub data ReadsEquation : List Token → Name → Equations → List Token → Type 0 where
    plain : {ts us vs : List Token} {t : Token} {name : Name} {ps : List Pat} {e : Expr} → ReadsLeft ts name ps (t ∷ us) → IsWord word.Equals t → ReadsExpr us e vs → ReadsEquation ts name (MoreEquations ps (first_place us) e NoBinds NoEquations) vs
    with_where : {ts us vs ws : List Token} {t s : Token} {name : Name} {ps : List Pat} {e : Expr} {bs : Binds} → ReadsLeft ts name ps (t ∷ us) → IsWord word.Equals t → ReadsExpr us e (s ∷ vs) → IsWord word.Where s → ReadsBinds vs bs ws → ReadsEquation ts name (MoreEquations ps (first_place us) e bs NoEquations) ws

  -- block1(pat "->" expr)
  pub data ReadsAlts : List Token → Alts → List Token → Type 0 where
    alts : {t : Token} {ts us : List Token} {p : Pat} {e : Expr} {alts : Alts} → IsOpenBrace t → ReadsMoreAlts ts (MoreAlts p e alts) us → ReadsAlts (t ∷ ts) (MoreAlts p e alts) us

  -- [pat "->" expr] (";" [pat "->" expr])* "}"
  pub data ReadsMoreAlts : List Token → Alts → List Token → Type 0 where
    no_alt : {t : Token} {us : List Token} → IsCloseBrace t → ReadsMoreAlts (t ∷ us) NoAlts us
    empty_alt : {t : Token} {ts us : List Token} {alts : Alts} → IsSemicolon t → ReadsMoreAlts ts alts us → ReadsMoreAlts (t ∷ ts) alts us
    last_alt : {t s : Token} {ts us vs : List Token} {p : Pat} {e : Expr} → ReadsPat ts p (t ∷ us) → IsWord word.RightArrow t → ReadsExpr us e (s ∷ vs) → IsCloseBrace s → ReadsMoreAlts ts (MoreAlts p e NoAlts) vs
    more_alts : {t s : Token} {ts us vs ws : List Token} {p : Pat} {e : Expr} {alts : Alts} → ReadsPat ts p (t ∷ us) → IsWord word.RightArrow t → ReadsExpr us e (s ∷ vs) → IsSemicolon s → ReadsMoreAlts vs alts ws → ReadsMoreAlts ts (MoreAlts p e alts) ws

  -- block1(stmt), whose last stmt is an expr
  pub data ReadsStmts : List Token → Stmts → List Token → Type 0 where
    stmts : {t : Token} {ts us : List Token} {stmts : Stmts} → IsOpenBrace t → ReadsMoreStmts ts stmts us → ReadsStmts (t ∷ ts) stmts us

  -- stmt = pat "<-" expr | "let" block(equation) | expr, and what follows it; the last one is an expr
  pub data ReadsMoreStmts : List Token → Stmts → List Token → Type 0 where
    empty_stmt : {t : Token} {ts us : List Token} {stmts : Stmts} → IsSemicolon t → ReadsMoreStmts ts stmts us → ReadsMoreStmts (t ∷ ts) stmts us
    take_stmt : {t s : Token} {ts us vs ws : List Token} {p : Pat} {e : Expr} {stmts : Stmts} → ReadsPat ts p (t ∷ us) → IsWord word.LeftArrow t → ReadsExpr us e (s ∷ vs) → IsSemicolon s → ReadsMoreStmts vs stmts ws → ReadsMoreStmts ts (TakeThen p e stmts) ws
    let_stmt : {t s : Token} {ts us vs : List Token} {bs : Binds} {stmts : Stmts} → IsWord word.Let t → ReadsBinds ts bs (s ∷ us) → IsSemicolon s → ReadsMoreStmts us stmts vs → ReadsMoreStmts (t ∷ ts) (LetThen bs stmts) vs
    do_stmt : {t : Token} {ts us vs : List Token} {e : Expr} {stmts : Stmts} → ReadsExpr ts e (t ∷ us) → IsSemicolon t → ReadsMoreStmts us stmts vs → ReadsMoreStmts ts (DoThen e stmts) vs
    last_stmt : {ts us vs : List Token} {e : Expr} → ReadsExpr ts e us → OnlyCloses us vs → ReadsMoreStmts ts (DoThen e NoStmts) vs

  -- ";"* "}"
  pub data OnlyCloses : List Token → List Token → Type 0 where
    closing : {t : Token} {us : List Token} → IsCloseBrace t → OnlyCloses (t ∷ us) us
    empty_closing : {t : Token} {ts us : List Token} → IsSemicolon t → OnlyCloses ts us → OnlyCloses (t ∷ ts) us
