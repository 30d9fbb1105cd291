-- What a state of the reader of expressions says of the tokens that led to it: which parts are read, and what the parts that
-- are to come will make. The tokens ts are those still to come, and the tokens where a part begins are at the front of what
-- was to come then. Where something is to come, what stands around it is known as a relation `B out ts`: with these nodes out,
-- an expression may begin at the tokens ts.
use Rattle.std.proofs.Common.{◌≡◌, ℕ, ◌+◌, Bool, true, false, List, [], ◌∷◌, length}
use Rattle.hb_base.specs.declared.name.Name.{Name}
use Rattle.hb_base.specs.declared.place.Place.{Place}
use Rattle.hb_tokens.specs.declared.token.Token.{Token}
use Rattle.hb_tokens.specs.declared.word.Word.TheVariants as word
use Rattle.hb_tree.specs.Patterns.{Pat, Pats}
use Rattle.hb_tree.specs.Expressions.{Expr, Exprs, FieldExprs, NoFieldExprs, Alts, Stmts, Binds, Equations}
use Rattle.hb_tree.specs.Expressions as tree
use Rattle.hb_grammar.specs.Tokens.{IsVar, IsCon, IsOp, IsWord, IsOpen, IsComma, IsOpenSquare, IsCloseSquare, IsBackquote, first_place}
use Rattle.hb_grammar.specs.Patterns.{ReadsPat, ReadsApat, ReadsApats}
use Rattle.hb_grammar.specs.Expressions.{expression, place_of, pats_list, ReadsName, ReadsInfix, ReadsLeft, ReadsExpr, ReadsOperands, ReadsLast, ReadsOpen, ReadsApply, AppliesTo, ReadsPost, Follows, ReadsFieldExprs, ReadsBinds, ReadsMoreBinds, ReadsEquation, ReadsMoreAlts, ReadsMoreStmts, OnlyCloses}
use Rattle.hb_grammar.specs.Reading.{Reader, Runs, Reached}
use Rattle.hb_read_patterns.specs.declared.node.PatNode.{PatNode}
use Rattle.hb_read_patterns.specs.declared.reader.PatReader.{PatReader}
use Rattle.hb_read_patterns.specs.Moves.{pat_reader, apat_reader}
use Rattle.hb_read_expressions.specs.declared.node.ExprNode.{ExprNode}
use Rattle.hb_read_expressions.specs.declared.node.ExprNode.TheVariants as node
use Rattle.hb_read_expressions.specs.declared.frame.Begun.{Begun}
use Rattle.hb_read_expressions.specs.declared.frame.Begun.TheVariants.{First, After}
use Rattle.hb_read_expressions.specs.declared.frame.Spot.{Spot}
use Rattle.hb_read_expressions.specs.declared.frame.Spot.TheVariants.{Head, Argument}
use Rattle.hb_read_expressions.specs.declared.frame.Target.{Target}
use Rattle.hb_read_expressions.specs.declared.frame.Target.TheVariants.{Build, Update}
use Rattle.hb_read_expressions.specs.declared.frame.Frame.{Frame}
use Rattle.hb_read_expressions.specs.declared.frame.Frame.TheVariants as frame
use Rattle.hb_read_expressions.specs.declared.now.Purpose.{Purpose}
use Rattle.hb_read_expressions.specs.declared.now.Purpose.TheVariants.{ForLambda, ForRow, ForRight}
use Rattle.hb_read_expressions.specs.declared.now.Now.{Now}
use Rattle.hb_read_expressions.specs.declared.now.Now.TheVariants as now
use Rattle.hb_read_expressions.specs.Nodes.{put, put_expr, put_run, puts, put_fields, put_alts, put_stmts, put_binds, put_rows, put_pat, put_pats, pats_from, exprs_from, fields_from, alts_from, stmts_from, binds_from}
use Rattle.hb_read_expressions.specs.declared.state.Core.{Core}
use Rattle.hb_read_expressions.specs.declared.state.State.{State}
use Rattle.hb_read_expressions.specs.Ends.{target_node}
use Rattle.hb_read_expressions.proofs.Complete.{SomeAlt}
use Rattle.hb_read_expressions.proofs.Heads.{AHead, InHead}

-- an expression that begins at the tokens ts0 with the nodes out0: all nodes out with it, and where it stands
pub data MadeExpr (ts0 : List Token) (out0 : List ExprNode) (us : List Token) : List ExprNode → Place → Type 0 where
  made_expr : {e : Expr} → ReadsExpr ts0 e us → MadeExpr ts0 out0 us (put_expr e out0) (place_of e)

pub data MadeOpen (ts0 : List Token) (out0 : List ExprNode) (us : List Token) : List ExprNode → Place → Type 0 where
  made_open : {e : Expr} → ReadsOpen ts0 e us → MadeOpen ts0 out0 us (put_expr e out0) (place_of e)

-- a post so far, which begins at ts0 and stands where it begins: more of it may follow
pub data MadePost (ts0 : List Token) (out0 : List ExprNode) (begins : Place) (us : List Token) : List ExprNode → Type 0 where
  made_post : {e : Expr} → begins ≡ place_of e → ((d : Expr) (vs : List Token) → Follows begins e us d vs → ReadsPost ts0 d vs) → MadePost ts0 out0 begins us (put_expr e out0)

pub data MadeBinds (ts0 : List Token) (out0 : List ExprNode) (us : List Token) : List ExprNode → ℕ → Type 0 where
  made_binds : {bs : Binds} → ReadsBinds ts0 bs us → MadeBinds ts0 out0 us (put_binds bs out0) (binds_from 0 bs)

pub data MadeApats (ts0 : List Token) (out0 : List ExprNode) (us : List Token) : List ExprNode → ℕ → Type 0 where
  made_apats : {ps : Pats} → ReadsApats ts0 ps us → MadeApats ts0 out0 us (put_pats (pats_list ps) out0) (pats_from 0 (pats_list ps))

pub data MadeRow (ts0 : List Token) (out0 : List ExprNode) (us : List Token) : List ExprNode → Type 0 where
  made_row : {name : Name} {row : Equations} → ReadsEquation ts0 name row us → MadeRow ts0 out0 us (put_rows name (first_place ts0) row out0)

-- an operand is to come
pub data InOperand (B : List ExprNode → List Token → Type 0) : Begun → List ExprNode → List Token → Type 0 where
  at_first : {out : List ExprNode} {ts : List Token} → B out ts → InOperand B (First (first_place ts)) out ts
  at_after : {out0 out : List ExprNode} {ts0 ts : List Token} {n : ℕ} → B out0 ts0 → ((es os : Exprs) (us : List Token) → ReadsOperands ts es os us → MadeExpr ts0 out0 us (put (put_run es (puts os) out) (node.Run (first_place ts0) (exprs_from n os))) (first_place ts0)) → InOperand B (After (first_place ts0) n) out ts

-- a post is to come
pub data InPost (B : List ExprNode → List Token → Type 0) : Spot → List ExprNode → List Token → Type 0 where
  at_head : {begun : Begun} {out : List ExprNode} {ts : List Token} → InOperand B begun out ts → InPost B (Head begun) out ts
  at_argument : {begun : Begun} {out0 : List ExprNode} {ts0 ts : List Token} {f : Expr} → InOperand B begun out0 ts0 → ((e : Expr) (us : List Token) → AppliesTo f ts e us → ReadsApply ts0 e us) → InPost B (Argument begun) (put_expr f out0) ts

-- a post is whole, and selections and updates may follow
pub data IsPost (B : List ExprNode → List Token → Type 0) (spot : Spot) : Place → Place → List ExprNode → List Token → Type 0 where
  is_post : {out0 : List ExprNode} {ts0 ts : List Token} {e : Expr} → InPost B spot out0 ts0 → ((d : Expr) (us : List Token) → Follows (first_place ts0) e ts d us → ReadsPost ts0 d us) → IsPost B spot (first_place ts0) (place_of e) (put_expr e out0) ts

pub data WholePost (B : List ExprNode → List Token → Type 0) (spot : Spot) : Place → List ExprNode → List Token → Type 0 where
  whole_post : {out0 : List ExprNode} {ts0 ts : List Token} {e : Expr} → InPost B spot out0 ts0 → ReadsPost ts0 e ts → WholePost B spot (place_of e) (put_expr e out0) ts

-- after a dot
pub data IsDotted (B : List ExprNode → List Token → Type 0) (spot : Spot) : Place → List ExprNode → List Token → Type 0 where
  is_dotted : {out0 : List ExprNode} {ts0 ts : List Token} {e : Expr} → InPost B spot out0 ts0 → ((t : Token) (d : Expr) (us vs : List Token) (name : Name) → ts ≡ t ∷ us → IsVar name t → Follows (first_place ts0) (expression (first_place ts0) (tree.Select e name)) us d vs → ReadsPost ts0 d vs) → IsDotted B spot (first_place ts0) (put_expr e out0) ts

-- an application is whole, and arguments may follow
pub data WholeApply (B : List ExprNode → List Token → Type 0) : Begun → Place → List ExprNode → List Token → Type 0 where
  whole_apply : {begun : Begun} {out0 : List ExprNode} {ts0 ts : List Token} {f : Expr} → InOperand B begun out0 ts0 → ((e : Expr) (us : List Token) → AppliesTo f ts e us → ReadsApply ts0 e us) → WholeApply B begun (place_of f) (put_expr f out0) ts

pub data WholeLast (B : List ExprNode → List Token → Type 0) : Begun → Place → List ExprNode → List Token → Type 0 where
  whole_last : {begun : Begun} {out0 : List ExprNode} {ts0 ts : List Token} {e : Expr} → InOperand B begun out0 ts0 → ReadsLast ts0 e ts → WholeLast B begun (place_of e) (put_expr e out0) ts

pub data WholeOpen (B : List ExprNode → List Token → Type 0) : Begun → Place → List ExprNode → List Token → Type 0 where
  whole_open : {begun : Begun} {out0 : List ExprNode} {ts0 ts : List Token} {e : Expr} → InOperand B begun out0 ts0 → ReadsOpen ts0 e ts → WholeOpen B begun (place_of e) (put_expr e out0) ts

pub data WholeExpr (B : List ExprNode → List Token → Type 0) : Place → Place → List ExprNode → List Token → Type 0 where
  whole_expr : {out0 : List ExprNode} {ts0 ts : List Token} {e : Expr} → B out0 ts0 → ReadsExpr ts0 e ts → WholeExpr B (first_place ts0) (place_of e) (put_expr e out0) ts

-- a bracket is open
pub data IsOpened (B : List ExprNode → List Token → Type 0) (spot : Spot) : Place → List ExprNode → List Token → Type 0 where
  is_opened : {t : Token} {out : List ExprNode} {ts : List Token} → IsOpen t → InPost B spot out (t ∷ ts) → IsOpened B spot t.place out ts

-- and an operator in it
pub data IsOpName (B : List ExprNode → List Token → Type 0) (spot : Spot) : Place → Name → List ExprNode → List Token → Type 0 where
  is_op_name : {t s : Token} {name : Name} {out : List ExprNode} {ts : List Token} → IsOpen t → IsOp name s → InPost B spot out (t ∷ s ∷ ts) → IsOpName B spot t.place name out ts

-- and an expression and a comma in it
pub data IsSecond (B : List ExprNode → List Token → Type 0) (spot : Spot) : Place → List ExprNode → List Token → Type 0 where
  is_second : {t s : Token} {a : Expr} {out0 : List ExprNode} {ts1 ts : List Token} → IsOpen t → ReadsExpr ts1 a (s ∷ ts) → IsComma s → InPost B spot out0 (t ∷ ts1) → IsSecond B spot t.place (put_expr a out0) ts

pub data IsConName (B : List ExprNode → List Token → Type 0) (spot : Spot) : Place → Name → List ExprNode → List Token → Type 0 where
  is_con_name : {t : Token} {name : Name} {out : List ExprNode} {ts : List Token} → IsCon name t → InPost B spot out (t ∷ ts) → IsConName B spot t.place name out ts

-- between backquotes
pub data IsQuoted (B : List ExprNode → List Token → Type 0) (begun : Begun) : List ExprNode → List Token → Type 0 where
  is_quoted : {t : Token} {stands : Place} {out : List ExprNode} {ts : List Token} → IsBackquote t → WholeApply B begun stands out (t ∷ ts) → IsQuoted B begun out ts

pub data IsQuotedName (B : List ExprNode → List Token → Type 0) (begun : Begun) : Place → Name → List ExprNode → List Token → Type 0 where
  is_quoted_name : {t s : Token} {stands : Place} {name : Name} {out : List ExprNode} {ts : List Token} → IsBackquote t → IsVar name s → WholeApply B begun stands out (t ∷ s ∷ ts) → IsQuotedName B begun s.place name out ts

-- fields are to come, after so many
pub data InFields (B : List ExprNode → List Token → Type 0) (spot : Spot) (target : Target) (n : ℕ) : Place → List ExprNode → List Token → Type 0 where
  in_fields : {out0 out : List ExprNode} {ts0 ts : List Token} → InPost B spot out0 ts0 → ((fs : FieldExprs) (r : Token) (us : List Token) → ReadsFieldExprs ts fs (r ∷ us) → IsCloseSquare r → MadePost ts0 out0 (first_place ts0) us (put (put_fields fs out) (target_node target (first_place ts0) (fields_from n fs)))) → InFields B spot target n (first_place ts0) out ts

-- right after `[`: a construction may have no fields
pub data NoFieldsYet (B : List ExprNode → List Token → Type 0) (spot : Spot) : Target → Place → List ExprNode → List Token → Type 0 where
  building : {t s : Token} {name : Name} {out : List ExprNode} {ts : List Token} → IsCon name t → IsOpenSquare s → InPost B spot out (t ∷ s ∷ ts) → NoFieldsYet B spot (Build name) t.place out ts
  updating : {begins : Place} {out : List ExprNode} {ts : List Token} → NoFieldsYet B spot Update begins out ts

pub data IsFieldName (B : List ExprNode → List Token → Type 0) (spot : Spot) (target : Target) (n : ℕ) : Place → Place → Name → List ExprNode → List Token → Type 0 where
  is_field_name : {t : Token} {begins : Place} {name : Name} {out : List ExprNode} {ts : List Token} → IsVar name t → InFields B spot target n begins out (t ∷ ts) → IsFieldName B spot target n begins t.place name out ts

-- `field =` and an expression is to come
pub data InField (B : List ExprNode → List Token → Type 0) (spot : Spot) (target : Target) (n : ℕ) : Place → Place → Name → List ExprNode → List Token → Type 0 where
  in_field : {t s : Token} {begins : Place} {name : Name} {out : List ExprNode} {ts : List Token} → IsVar name t → IsWord word.Equals s → InFields B spot target n begins out (t ∷ s ∷ ts) → InField B spot target n begins t.place name out ts

-- a form that is open to the right, up to its last expression
pub data InOpen (B : List ExprNode → List Token → Type 0) (begun : Begun) (place : Place) (last : ExprNode) : List ExprNode → List Token → Type 0 where
  in_open : {out0 out : List ExprNode} {ts0 ts : List Token} → InOperand B begun out0 ts0 → ((e : Expr) (us : List Token) → ReadsExpr ts e us → MadeOpen ts0 out0 us (put (put_expr e out) last) place) → InOpen B begun place last out ts

-- right after the word of such a form
pub data AfterWord (B : List ExprNode → List Token → Type 0) (w : word.the_data) (begun : Begun) : Place → List ExprNode → List Token → Type 0 where
  after_word : {t : Token} {out : List ExprNode} {ts : List Token} → IsWord w t → InOperand B begun out (t ∷ ts) → AfterWord B w begun t.place out ts

-- `if expr then`
pub data InThen (B : List ExprNode → List Token → Type 0) (begun : Begun) : Place → List ExprNode → List Token → Type 0 where
  in_then : {t s : Token} {c : Expr} {out0 : List ExprNode} {ts1 ts : List Token} → IsWord word.If t → ReadsExpr ts1 c (s ∷ ts) → IsWord word.Then s → InOperand B begun out0 (t ∷ ts1) → InThen B begun t.place (put_expr c out0) ts

-- `case expr of`
pub data AfterOf (B : List ExprNode → List Token → Type 0) (begun : Begun) : Place → List ExprNode → List Token → Type 0 where
  after_of : {t s : Token} {e : Expr} {out0 : List ExprNode} {ts1 ts : List Token} → IsWord word.Case t → ReadsExpr ts1 e (s ∷ ts) → IsWord word.Of s → InOperand B begun out0 (t ∷ ts1) → AfterOf B begun t.place (put_expr e out0) ts

-- alternatives are to come, after so many
pub data InAlts (B : List ExprNode → List Token → Type 0) (begun : Begun) (place : Place) (n : ℕ) : List ExprNode → List Token → Type 0 where
  in_alts : {out0 out : List ExprNode} {ts0 ts : List Token} → InOperand B begun out0 ts0 → ((all : Alts) (us : List Token) → ReadsMoreAlts ts all us → SomeAlt n all → MadeOpen ts0 out0 us (put (put_alts all out) (node.Case place (alts_from n all))) place) → InAlts B begun place n out ts

pub data InAlt (B : List ExprNode → List Token → Type 0) (begun : Begun) (place : Place) (n : ℕ) : List ExprNode → List Token → Type 0 where
  in_alt : {t : Token} {p : Pat} {out : List ExprNode} {ts1 ts : List Token} → ReadsPat ts1 p (t ∷ ts) → IsWord word.RightArrow t → InAlts B begun place n out ts1 → InAlt B begun place n (put_pat p out) ts

-- statements are to come, after so many
pub data InStmts (B : List ExprNode → List Token → Type 0) (begun : Begun) (place : Place) (n : ℕ) : Bool → List ExprNode → List Token → Type 0 where
  in_stmts : {may_end : Bool} {out0 out : List ExprNode} {ts0 ts : List Token} → InOperand B begun out0 ts0 → ((ss : Stmts) (us : List Token) → ReadsMoreStmts ts ss us → MadeOpen ts0 out0 us (put (put_stmts ss out) (node.Do place (stmts_from n ss))) place) → ((us : List Token) → may_end ≡ true → OnlyCloses ts us → MadeOpen ts0 out0 us (put out (node.Do place n)) place) → InStmts B begun place n may_end out ts

pub data InTaken (B : List ExprNode → List Token → Type 0) (begun : Begun) (place : Place) (n : ℕ) : List ExprNode → List Token → Type 0 where
  in_taken : {t : Token} {p : Pat} {may_end : Bool} {out : List ExprNode} {ts1 ts : List Token} → ReadsPat ts1 p (t ∷ ts) → IsWord word.LeftArrow t → InStmts B begun place n may_end out ts1 → InTaken B begun place n (put_pat p out) ts

pub data InStatement (B : List ExprNode → List Token → Type 0) (begun : Begun) (place : Place) (n : ℕ) : ℕ → List ExprNode → List Token → Type 0 where
  in_statement : {may_end : Bool} {out : List ExprNode} {ts : List Token} → InStmts B begun place n may_end out ts → InStatement B begun place n (length out) out ts

-- `name` or `apat`s and an operator before `=`: R n out ts says that an equation may begin at ts, after n, with these nodes out
pub data InRow (R : ℕ → List ExprNode → List Token → Type 0) (name : Name) (n : ℕ) : Place → ℕ → List ExprNode → List Token → Type 0 where
  in_row : {t : Token} {ps : List Pat} {out : List ExprNode} {ts0 ts : List Token} → R n out ts0 → ReadsLeft ts0 name ps (t ∷ ts) → IsWord word.Equals t → InRow R name n (first_place ts0) (pats_from 0 ps) (put_pats ps out) ts

-- `lhs = expr where`
pub data InWhere (R : ℕ → List ExprNode → List Token → Type 0) (name : Name) (n : ℕ) : Place → ℕ → Place → List ExprNode → List Token → Type 0 where
  in_where : {t s : Token} {ps : List Pat} {e : Expr} {out : List ExprNode} {ts0 ts1 ts : List Token} → R n out ts0 → ReadsLeft ts0 name ps (t ∷ ts1) → IsWord word.Equals t → ReadsExpr ts1 e (s ∷ ts) → IsWord word.Where s → InWhere R name n (first_place ts0) (pats_from 0 ps) (first_place ts1) (put_expr e (put_pats ps out)) ts

-- in a block of equations, after so many; O out ts says that its brace may stand at ts
pub data InBlock (O : List ExprNode → List Token → Type 0) (n : ℕ) : List ExprNode → List Token → Type 0 where
  in_block : {out0 out : List ExprNode} {ts0 ts : List Token} → O out0 ts0 → ((bs : Binds) (us : List Token) → ReadsMoreBinds ts bs us → MadeBinds ts0 out0 us (put_binds bs out) (binds_from n bs)) → InBlock O n out ts

-- what is read as a whole
pub data Root : Type 0 where
  an_expr : Root
  an_equation : Root
  a_block : Root

pub data AtRoot (root : Root) (top : List Token) : Root → List ExprNode → List Token → Type 0 where
  at_root : AtRoot root top root [] top

pub data RowAtRoot (root : Root) (top : List Token) : ℕ → List ExprNode → List Token → Type 0 where
  row_at_root : root ≡ an_equation → RowAtRoot root top 0 [] top

abbrev mutual
  -- an expression is to come inside these frames
  pub Below : Root → List Token → List Frame → List ExprNode → List Token → Type 0
  Below root top [] out ts = AtRoot root top an_expr out ts
  Below root top (frame.Bracket spot place ∷ fs) out ts = IsOpened (Below root top fs) spot place out ts
  Below root top (frame.Second spot place ∷ fs) out ts = IsSecond (Below root top fs) spot place out ts
  Below root top (frame.Field spot begins target n place name ∷ fs) out ts = InField (Below root top fs) spot target n begins place name out ts
  Below root top (frame.Lambda begun place n ∷ fs) out ts = InOpen (Below root top fs) begun place (node.Lambda place n) out ts
  Below root top (frame.LetBinds begun place ∷ fs) out ts = ⊥
  Below root top (frame.LetBody begun place n ∷ fs) out ts = InOpen (Below root top fs) begun place (node.Let place n) out ts
  Below root top (frame.If begun place ∷ fs) out ts = AfterWord (Below root top fs) word.If begun place out ts
  Below root top (frame.Then begun place ∷ fs) out ts = InThen (Below root top fs) begun place out ts
  Below root top (frame.Else begun place ∷ fs) out ts = InOpen (Below root top fs) begun place (node.If place) out ts
  Below root top (frame.Case begun place ∷ fs) out ts = AfterWord (Below root top fs) word.Case begun place out ts
  Below root top (frame.Alternative begun place n ∷ fs) out ts = InAlt (Below root top fs) begun place n out ts
  Below root top (frame.Row name place patterns n ∷ fs) out ts = InRow (RowBelow root top fs) name n place patterns out ts
  Below root top (frame.Where name place patterns first n ∷ fs) out ts = ⊥
  Below root top (frame.Block ∷ fs) out ts = ⊥
  Below root top (frame.Statement begun place n mark ∷ fs) out ts = InStatement (Below root top fs) begun place n mark out ts
  Below root top (frame.Taken begun place n ∷ fs) out ts = InTaken (Below root top fs) begun place n out ts

  -- an equation may begin inside these frames, after so many
  pub RowBelow : Root → List Token → List Frame → ℕ → List ExprNode → List Token → Type 0
  RowBelow root top [] n out ts = RowAtRoot root top n out ts
  RowBelow root top (frame.LetBinds begun place ∷ fs) n out ts = InBlock (AfterWord (Below root top fs) word.Let begun place) n out ts
  RowBelow root top (frame.Where name place patterns first before ∷ fs) n out ts = InBlock (InWhere (RowBelow root top fs) name before place patterns first) n out ts
  RowBelow root top (frame.Block ∷ fs) n out ts = (fs ≡ []) × InBlock (AtRoot root top a_block) n out ts
  RowBelow root top (f ∷ fs) n out ts = ⊥

-- the brace of a block may stand at ts
abbrev pub BraceBelow : Root → List Token → List Frame → List ExprNode → List Token → Type 0
BraceBelow root top (frame.LetBinds begun place ∷ fs) out ts = AfterWord (Below root top fs) word.Let begun place out ts
BraceBelow root top (frame.Where name place patterns first before ∷ fs) out ts = InWhere (RowBelow root top fs) name before place patterns first out ts
BraceBelow root top (frame.Block ∷ []) out ts = AtRoot root top a_block out ts
BraceBelow root top fs out ts = ⊥

-- simple patterns are to come, after so many
pub data InLambda (B : List ExprNode → List Token → Type 0) (begun : Begun) (n : ℕ) : Place → List ExprNode → List Token → Type 0 where
  in_lambda : {t : Token} {out0 out : List ExprNode} {ts1 ts : List Token} → IsWord word.Backslash t → InOperand B begun out0 (t ∷ ts1) → ((ps : Pats) (us : List Token) → ReadsApats ts ps us → MadeApats ts1 out0 us (put_pats (pats_list ps) out) (pats_from n (pats_list ps))) → InLambda B begun n t.place out ts

pub data InParams (R : ℕ → List ExprNode → List Token → Type 0) (name : Name) (before n : ℕ) : Place → List ExprNode → List Token → Type 0 where
  in_params : {place : Place} {out0 out : List ExprNode} {ts0 ts1 ts : List Token} → R before out0 ts0 → ReadsName ts0 place name ts1 → ((ps : Pats) (us : List Token) → ReadsApats ts ps us → MadeApats ts1 out0 us (put_pats (pats_list ps) out) (pats_from n (pats_list ps))) → InParams R name before n (first_place ts0) out ts

-- the left pattern of an equation is whole
pub data LeftPat (R : ℕ → List ExprNode → List Token → Type 0) (before : ℕ) : Place → List ExprNode → List Token → Type 0 where
  left_pat : {p : Pat} {out : List ExprNode} {ts0 ts : List Token} → R before out ts0 → ReadsApat ts0 p ts → LeftPat R before (first_place ts0) (put_pat p out) ts

-- and an operator after it
pub data InRight (R : ℕ → List ExprNode → List Token → Type 0) (name : Name) (before : ℕ) : Place → ℕ → List ExprNode → List Token → Type 0 where
  in_right : {p : Pat} {place : Place} {out : List ExprNode} {ts0 ts1 ts : List Token} → R before out ts0 → ReadsApat ts0 p ts1 → ReadsInfix ts1 place name ts → InRight R name before (first_place ts0) 1 (put_pat p out) ts

abbrev pub ForParams : Root → List Token → List Frame → Purpose → ℕ → List ExprNode → List Token → Type 0
ForParams root top fs (ForLambda begun place) n out ts = InLambda (Below root top fs) begun n place out ts
ForParams root top fs (ForRow name place before) n out ts = InParams (RowBelow root top fs) name before n place out ts
ForParams root top fs (ForRight name place before) n out ts = InRight (RowBelow root top fs) name before place n out ts

-- a pattern began where K held, and its reader stands so
pub data InPattern (R : Reader PatReader (List PatNode)) (pats : PatReader) (K : List Token → Type 0) (ts : List Token) : Type 0 where
  in_pattern : {ts1 : List Token} → K ts1 → Reached R pats → ((nodes : List PatNode) (us : List Token) → Runs R pats ts nodes us → Runs R R.start ts1 nodes us) → InPattern R pats K ts

-- an equation's first tokens
pub data IsRowVar (R : ℕ → List ExprNode → List Token → Type 0) (n : ℕ) : Place → Name → List ExprNode → List Token → Type 0 where
  is_row_var : {t : Token} {name : Name} {out : List ExprNode} {ts : List Token} → IsVar name t → R n out (t ∷ ts) → IsRowVar R n t.place name out ts

pub data IsRowOpen (R : ℕ → List ExprNode → List Token → Type 0) (n : ℕ) (pats : PatReader) : Place → List ExprNode → List Token → Type 0 where
  is_row_open : {t : Token} {out : List ExprNode} {ts : List Token} → IsOpen t → R n out (t ∷ ts) → Reached apat_reader pats → ((nodes : List PatNode) (us : List Token) → Runs apat_reader pats ts nodes us → Runs apat_reader apat_reader.start (t ∷ ts) nodes us) → IsRowOpen R n pats t.place out ts

pub data IsRowOp (R : ℕ → List ExprNode → List Token → Type 0) (n : ℕ) : Place → Name → List ExprNode → List Token → Type 0 where
  is_row_op : {t s : Token} {name : Name} {out : List ExprNode} {ts : List Token} → IsOpen t → IsOp name s → R n out (t ∷ s ∷ ts) → IsRowOp R n t.place name out ts

pub data IsRowLeft (R : ℕ → List ExprNode → List Token → Type 0) (n : ℕ) (pats : PatReader) : Place → List ExprNode → List Token → Type 0 where
  is_row_left : {out : List ExprNode} {ts0 ts : List Token} → R n out ts0 → Reached apat_reader pats → ((nodes : List PatNode) (us : List Token) → Runs apat_reader pats ts nodes us → Runs apat_reader apat_reader.start ts0 nodes us) → IsRowLeft R n pats (first_place ts0) out ts

pub data IsRowQuote (R : ℕ → List ExprNode → List Token → Type 0) (n : ℕ) : Place → List ExprNode → List Token → Type 0 where
  is_row_quote : {t : Token} {place : Place} {out : List ExprNode} {ts : List Token} → IsBackquote t → LeftPat R n place out (t ∷ ts) → IsRowQuote R n place out ts

pub data IsRowQuoted (R : ℕ → List ExprNode → List Token → Type 0) (n : ℕ) : Place → Name → List ExprNode → List Token → Type 0 where
  is_row_quoted : {t s : Token} {place : Place} {name : Name} {out : List ExprNode} {ts : List Token} → IsBackquote t → IsVar name s → LeftPat R n place out (t ∷ s ∷ ts) → IsRowQuoted R n place name out ts

-- an equation is whole: the count with it
pub data RowWhole (R : ℕ → List ExprNode → List Token → Type 0) : ℕ → List ExprNode → List Token → Type 0 where
  row_whole : {n : ℕ} {name : Name} {row : Equations} {out : List ExprNode} {ts0 ts : List Token} → R n out ts0 → ReadsEquation ts0 name row ts → RowWhole R (n + 1) (put_rows name (first_place ts0) row out) ts

-- a block is whole
pub data BlockWhole (O : List ExprNode → List Token → Type 0) : ℕ → List ExprNode → List Token → Type 0 where
  block_whole : {bs : Binds} {out : List ExprNode} {ts0 ts : List Token} → O out ts0 → ReadsBinds ts0 bs ts → BlockWhole O (binds_from 0 bs) (put_binds bs out) ts

pub data IsOver (root : Root) (top : List Token) : List Frame → ℕ → List ExprNode → List Token → Type 0 where
  is_over : {n : ℕ} {out : List ExprNode} {ts : List Token} → BlockWhole (AtRoot root top a_block) n out ts → IsOver root top [] n out ts

-- what a state says, with the reader of patterns where it stands, of the tokens to come
abbrev pub StandsAt : Root → List Token → Now → List Frame → List ExprNode → PatReader → List Token → Type 0
StandsAt root top now.Want fs out pats ts = Below root top fs out ts
StandsAt root top (now.Operand begun) fs out pats ts = InOperand (Below root top fs) begun out ts
StandsAt root top (now.Post spot first stands) fs out pats ts = IsPost (Below root top fs) spot first stands out ts
StandsAt root top (now.Con spot place name) fs out pats ts = IsConName (Below root top fs) spot place name out ts
StandsAt root top (now.Sealed spot stands) fs out pats ts = WholePost (Below root top fs) spot stands out ts
StandsAt root top (now.Dotted spot first) fs out pats ts = IsDotted (Below root top fs) spot first out ts
StandsAt root top (now.Opened spot place) fs out pats ts = IsOpened (Below root top fs) spot place out ts
StandsAt root top (now.OpName spot place name) fs out pats ts = IsOpName (Below root top fs) spot place name out ts
StandsAt root top (now.Quoted begun) fs out pats ts = IsQuoted (Below root top fs) begun out ts
StandsAt root top (now.QuotedName begun place name) fs out pats ts = IsQuotedName (Below root top fs) begun place name out ts
StandsAt root top (now.FirstField spot begins target) fs out pats ts = (InFields (Below root top fs) spot target 0 begins out ts) × (NoFieldsYet (Below root top fs) spot target begins out ts)
StandsAt root top (now.NextField spot begins target n) fs out pats ts = InFields (Below root top fs) spot target n begins out ts
StandsAt root top (now.FieldName spot begins target n place name) fs out pats ts = IsFieldName (Below root top fs) spot target n begins place name out ts
StandsAt root top (now.Whole begun stands) fs out pats ts = WholeOpen (Below root top fs) begun stands out ts
StandsAt root top (now.ParamStart purpose n) fs out pats ts = ForParams root top fs purpose n out ts
StandsAt root top (now.Param purpose n) fs out pats ts = InPattern apat_reader pats (ForParams root top fs purpose n out) ts
StandsAt root top now.BindsBrace fs out pats ts = BraceBelow root top fs out ts
StandsAt root top (now.BindStart n) fs out pats ts = RowBelow root top fs n out ts
StandsAt root top (now.RowVar n place name) fs out pats ts = IsRowVar (RowBelow root top fs) n place name out ts
StandsAt root top (now.RowOpen n place) fs out pats ts = IsRowOpen (RowBelow root top fs) n pats place out ts
StandsAt root top (now.RowOp n place name) fs out pats ts = IsRowOp (RowBelow root top fs) n place name out ts
StandsAt root top (now.RowName n place name) fs out pats ts = InParams (RowBelow root top fs) name n 0 place out ts
StandsAt root top (now.RowLeft n place) fs out pats ts = IsRowLeft (RowBelow root top fs) n pats place out ts
StandsAt root top (now.RowQuote n place) fs out pats ts = IsRowQuote (RowBelow root top fs) n place out ts
StandsAt root top (now.RowQuoted n place name) fs out pats ts = IsRowQuoted (RowBelow root top fs) n place name out ts
StandsAt root top (now.RowEnd n) fs out pats ts = RowWhole (RowBelow root top fs) n out ts
StandsAt root top (now.Over n) fs out pats ts = IsOver root top fs n out ts
StandsAt root top (now.LetIn begun place n) fs out pats ts = BlockWhole (AfterWord (Below root top fs) word.Let begun place) n out ts
StandsAt root top (now.CaseBrace begun place) fs out pats ts = AfterOf (Below root top fs) begun place out ts
StandsAt root top (now.AltStart begun place n) fs out pats ts = InAlts (Below root top fs) begun place n out ts
StandsAt root top (now.AltPat begun place n) fs out pats ts = InPattern pat_reader pats (InAlts (Below root top fs) begun place n out) ts
StandsAt root top (now.DoBrace begun place) fs out pats ts = AfterWord (Below root top fs) word.Do begun place out ts
StandsAt root top (now.StmtStart begun place n may_end) fs out pats ts = InStmts (Below root top fs) begun place n may_end out ts
StandsAt root top (now.StmtPat begun place n) fs out pats ts = InPattern pat_reader pats (λ ts1. (may_end : Bool) × InStmts (Below root top fs) begun place n may_end out ts1) ts

-- at a statement's head: the reader of patterns runs from there
pub data Beside (root : Root) (top : List Token) (core : Core) (pats : PatReader) (ts : List Token) : Type 0 where
  running : (h : AHead) → InHead h core.frames core.nodes → InPattern pat_reader pats (λ ts1. (may_end : Bool) × InStmts (Below root top h.frames) h.begun h.place h.statements may_end h.nodes ts1) ts → Beside root top core pats ts

abbrev pub StandsBeside : Root → List Token → Bool → Core → PatReader → List Token → Type 0
StandsBeside root top false core pats ts = Unit {0}
StandsBeside root top true core pats ts = Beside root top core pats ts

pub record Stands (root : Root) (top : List Token) (s : State) (ts : List Token) : Type 0 where
  pub read : StandsAt root top s.core.last s.core.frames s.core.nodes s.pats ts
  pub side : StandsBeside root top s.beside s.core s.pats ts
