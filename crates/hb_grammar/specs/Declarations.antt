-- Declarations, and a whole program.
use Rattle.std.specs.Prelude.{ℕ, ◌≤◌, List, [], ◌∷◌, Option, Some, None}
use Rattle.hb_base.specs.declared.name.Name.{Name}
use Rattle.hb_base.specs.declared.place.Place.{Place}
use Rattle.hb_base.specs.declared.port.Dir.{Dir}
use Rattle.hb_base.specs.declared.port.Dir.TheVariants.{In, Out}
use Rattle.hb_base.specs.Fixed.{pad, in_port, out_port, slash}
use Rattle.hb_tokens.specs.declared.token.Token.{Token}
use Rattle.hb_tokens.specs.declared.word.Word.{Word}
use Rattle.hb_tokens.specs.declared.word.Word.TheVariants as word
use Rattle.hb_tree.specs.declared.types.NameAt.{NameAt}
use Rattle.hb_tree.specs.declared.types.PredExpr.{PredExpr}
use Rattle.hb_tree.specs.declared.types.Sig.{Sig}
use Rattle.hb_tree.specs.declared.declaration.FieldDecl.{FieldDecl}
use Rattle.hb_tree.specs.declared.declaration.DataCon.{DataCon}
use Rattle.hb_tree.specs.declared.declaration.BitPart.{BitPart}
use Rattle.hb_tree.specs.declared.declaration.BitPart.TheVariants as bit_part
use Rattle.hb_tree.specs.declared.declaration.BitCon.{BitCon}
use Rattle.hb_tree.specs.declared.declaration.StructPart.{StructPart}
use Rattle.hb_tree.specs.declared.declaration.StructPart.TheVariants as struct_part
use Rattle.hb_tree.specs.declared.declaration.Depend.{Depend}
use Rattle.hb_tree.specs.declared.declaration.Fix.{Fix}
use Rattle.hb_tree.specs.declared.declaration.Fix.TheVariants.{Left, Right, Neither}
use Rattle.hb_tree.specs.declared.declaration.Decl.{Decl}
use Rattle.hb_tree.specs.declared.declaration.Decl.TheVariants as decl
use Rattle.hb_tree.specs.declared.declaration.Program.{Program}
use Rattle.hb_tree.specs.declared.statement.Bind.{Bind}
use Rattle.hb_tree.specs.Types.{TypeExpr}
use Rattle.hb_tree.specs.Expressions.{Expr, Equation}
use Rattle.hb_tree.specs.ExpressionViews.{equations, binds}
use Rattle.hb_tree.specs.Initials.{InitExpr, Each, Fields, Cell, FieldInits, NoFieldInits, MoreFieldInits}
use Rattle.hb_grammar.specs.Tokens.{IsVar, IsCon, IsOp, IsWord, IsNumber, IsBits, IsEnd, IsComma, IsSemicolon, IsOpenSquare, IsCloseSquare, IsOpenBrace, IsCloseBrace, first_place}
use Rattle.hb_grammar.specs.Types.{ReadsType, ReadsAtype, ReadsAtypes, ReadsPreds, ReadsContext, name_at}
use Rattle.hb_grammar.specs.Expressions.{ReadsName, ReadsInfix, ReadsExpr, ReadsBinds, ReadsEquation}

abbrev pub a_name : Place → Name → NameAt
a_name place name = record { place = place; name = name }

-- sep(name, ",")
pub data ReadsNames : List Token → List NameAt → List Token → Type 0 where
  last_name : {ts us : List Token} {place : Place} {name : Name} → ReadsName ts place name us → ReadsNames ts (a_name place name ∷ []) us
  more_names : {ts us vs : List Token} {t : Token} {place : Place} {name : Name} {names : List NameAt} → ReadsName ts place name (t ∷ us) → IsComma t → ReadsNames us names vs → ReadsNames ts (a_name place name ∷ names) vs

-- sep(infix, ",")
pub data ReadsInfixes : List Token → List NameAt → List Token → Type 0 where
  last_infix : {ts us : List Token} {place : Place} {name : Name} → ReadsInfix ts place name us → ReadsInfixes ts (a_name place name ∷ []) us
  more_infixes : {ts us vs : List Token} {t : Token} {place : Place} {name : Name} {names : List NameAt} → ReadsInfix ts place name (t ∷ us) → IsComma t → ReadsInfixes us names vs → ReadsInfixes ts (a_name place name ∷ names) vs

-- varid*
pub data ReadsVars : List Token → List NameAt → List Token → Type 0 where
  no_var : {ts : List Token} → ReadsVars ts [] ts
  var_more : {t : Token} {ts us : List Token} {name : Name} {names : List NameAt} → IsVar name t → ReadsVars ts names us → ReadsVars (t ∷ ts) (name_at t name ∷ names) us

-- sep(varid, ",")
pub data ReadsFieldNames : List Token → List NameAt → List Token → Type 0 where
  last_var : {t : Token} {us : List Token} {name : Name} → IsVar name t → ReadsFieldNames (t ∷ us) (name_at t name ∷ []) us
  more_vars : {t s : Token} {ts us : List Token} {name : Name} {names : List NameAt} → IsVar name t → IsComma s → ReadsFieldNames ts names us → ReadsFieldNames (t ∷ s ∷ ts) (name_at t name ∷ names) us

-- [context "=>"] type
pub data ReadsQualified : List Token → List PredExpr → TypeExpr → List Token → Type 0 where
  unqualified : {ts us : List Token} {a : TypeExpr} → ReadsType ts a us → ReadsQualified ts [] a us
  qualified : {ts us vs : List Token} {t : Token} {ps : List PredExpr} {a : TypeExpr} → ReadsContext ts ps (t ∷ us) → IsWord word.DoubleArrow t → ReadsType us a vs → ReadsQualified ts ps a vs

-- sig = sep(name, ",") "::" [context "=>"] type
pub data ReadsSig : List Token → Sig → List Token → Type 0 where
  sig : {ts us vs : List Token} {t : Token} {names : List NameAt} {ps : List PredExpr} {a : TypeExpr} → ReadsNames ts names (t ∷ us) → IsWord word.DoubleColon t → ReadsQualified us ps a vs → ReadsSig ts (record { place = first_place ts; names = names; context = ps; body = a }) vs

-- block(sig) without its `{`
pub data ReadsSigs : List Token → List Sig → List Token → Type 0 where
  no_sig : {t : Token} {us : List Token} → IsCloseBrace t → ReadsSigs (t ∷ us) [] us
  empty_sig : {t : Token} {ts us : List Token} {sigs : List Sig} → IsSemicolon t → ReadsSigs ts sigs us → ReadsSigs (t ∷ ts) sigs us
  last_sig : {t : Token} {ts us : List Token} {a : Sig} → ReadsSig ts a (t ∷ us) → IsCloseBrace t → ReadsSigs ts (a ∷ []) us
  more_sigs : {t : Token} {ts us vs : List Token} {a : Sig} {sigs : List Sig} → ReadsSig ts a (t ∷ us) → IsSemicolon t → ReadsSigs us sigs vs → ReadsSigs ts (a ∷ sigs) vs

-- ["where" block(sig)]
pub data ReadsMethods : List Token → List Sig → List Token → Type 0 where
  no_methods : {ts : List Token} → ReadsMethods ts [] ts
  methods : {t s : Token} {ts us : List Token} {sigs : List Sig} → IsWord word.Where t → IsOpenBrace s → ReadsSigs ts sigs us → ReadsMethods (t ∷ s ∷ ts) sigs us

-- ["where" block(equation)]
pub data ReadsInstanceBody : List Token → List Bind → List Token → Type 0 where
  no_body : {ts : List Token} → ReadsInstanceBody ts [] ts
  body : {t : Token} {ts us : List Token} {rows : List Bind} → IsWord word.Where t → ReadsBinds ts (binds rows) us → ReadsInstanceBody (t ∷ ts) rows us

-- fixity = ("infixl" | "infixr" | "infix") digit sep(infix, ",")
abbrev pub fix_word : Fix → Word
fix_word Left = word.Infixl
fix_word Right = word.Infixr
fix_word Neither = word.Infix

-- sep(conid atype*, "|")
pub data ReadsDataCons : List Token → List DataCon → List Token → Type 0 where
  last_con : {t : Token} {ts us : List Token} {name : Name} {args : List TypeExpr} → IsCon name t → ReadsAtypes ts args us → ReadsDataCons (t ∷ ts) (record { name = name_at t name; args = args } ∷ []) us
  more_cons : {t s : Token} {ts us vs : List Token} {name : Name} {args : List TypeExpr} {cons : List DataCon} → IsCon name t → ReadsAtypes ts args (s ∷ us) → IsWord word.Bar s → ReadsDataCons us cons vs → ReadsDataCons (t ∷ ts) (record { name = name_at t name; args = args } ∷ cons) vs

-- sep(varid, ",") "::" type
pub data ReadsFieldDecl : List Token → FieldDecl → List Token → Type 0 where
  field_decl : {ts us vs : List Token} {t : Token} {names : List NameAt} {a : TypeExpr} → ReadsFieldNames ts names (t ∷ us) → IsWord word.DoubleColon t → ReadsType us a vs → ReadsFieldDecl ts (record { names = names; of = a }) vs

-- bits | sep(varid, ",") "::" type
pub data ReadsBitPart : List Token → BitPart → List Token → Type 0 where
  tag : {t : Token} {us : List Token} {width k : ℕ} → IsBits width k t → ReadsBitPart (t ∷ us) (bit_part.Tag width k) us
  bit_fields : {ts us : List Token} {f : FieldDecl} → ReadsFieldDecl ts f us → ReadsBitPart ts (bit_part.Fields f) us

-- sep(bits | sep(varid, ",") "::" type, "|")
pub data ReadsBitParts : List Token → List BitPart → List Token → Type 0 where
  last_bit_part : {ts us : List Token} {p : BitPart} → ReadsBitPart ts p us → ReadsBitParts ts (p ∷ []) us
  more_bit_parts : {ts us vs : List Token} {t : Token} {p : BitPart} {ps : List BitPart} → ReadsBitPart ts p (t ∷ us) → IsWord word.Bar t → ReadsBitParts us ps vs → ReadsBitParts ts (p ∷ ps) vs

-- bcon = conid "[" [sep(bits | sep(varid, ",") "::" type, "|")] "]"
pub data ReadsBitCon : List Token → BitCon → List Token → Type 0 where
  no_bit_parts : {t s r : Token} {us : List Token} {name : Name} → IsCon name t → IsOpenSquare s → IsCloseSquare r → ReadsBitCon (t ∷ s ∷ r ∷ us) (record { name = name_at t name; parts = [] }) us
  bit_parts : {t s r : Token} {ts us : List Token} {name : Name} {ps : List BitPart} → IsCon name t → IsOpenSquare s → ReadsBitParts ts ps (r ∷ us) → IsCloseSquare r → ReadsBitCon (t ∷ s ∷ ts) (record { name = name_at t name; parts = ps }) us

-- sep(bcon, "|")
pub data ReadsBitCons : List Token → List BitCon → List Token → Type 0 where
  last_bit_con : {ts us : List Token} {c : BitCon} → ReadsBitCon ts c us → ReadsBitCons ts (c ∷ []) us
  more_bit_cons : {ts us vs : List Token} {t : Token} {c : BitCon} {cs : List BitCon} → ReadsBitCon ts c (t ∷ us) → IsWord word.Bar t → ReadsBitCons us cs vs → ReadsBitCons ts (c ∷ cs) vs

-- ["/" number]
pub data ReadsSize : List Token → Option ℕ → List Token → Type 0 where
  no_size : {ts : List Token} → ReadsSize ts None ts
  size : {t s : Token} {us : List Token} {k : ℕ} → IsOp slash t → IsNumber k s → ReadsSize (t ∷ s ∷ us) (Some k) us

-- sep(varid, ",") "::" type | "Pad" number
pub data ReadsStructPart : List Token → StructPart → List Token → Type 0 where
  gap : {t s : Token} {us : List Token} {k : ℕ} → IsCon pad t → IsNumber k s → ReadsStructPart (t ∷ s ∷ us) (struct_part.Pad k) us
  struct_fields : {ts us : List Token} {f : FieldDecl} → ReadsFieldDecl ts f us → ReadsStructPart ts (struct_part.Fields f) us

-- sep(sep(varid, ",") "::" type | "Pad" number, "|")
pub data ReadsStructParts : List Token → List StructPart → List Token → Type 0 where
  last_struct_part : {ts us : List Token} {p : StructPart} → ReadsStructPart ts p us → ReadsStructParts ts (p ∷ []) us
  more_struct_parts : {ts us vs : List Token} {t : Token} {p : StructPart} {ps : List StructPart} → ReadsStructPart ts p (t ∷ us) → IsWord word.Bar t → ReadsStructParts us ps vs → ReadsStructParts ts (p ∷ ps) vs

mutual
  -- init = "each" varid "->" init | "fields" "[" sep(varid "<-" init, "|") "]" | expr
  pub data ReadsInit : List Token → InitExpr → List Token → Type 0 where
    each : {t s r : Token} {ts us : List Token} {name : Name} {i : InitExpr} → IsWord word.Each t → IsVar name s → IsWord word.RightArrow r → ReadsInit ts i us → ReadsInit (t ∷ s ∷ r ∷ ts) (Each t.place (name_at s name) i) us
    by_fields : {t s r : Token} {ts us : List Token} {fs : FieldInits} → IsWord word.Fields t → IsOpenSquare s → ReadsFieldInits ts fs (r ∷ us) → IsCloseSquare r → ReadsInit (t ∷ s ∷ ts) (Fields t.place fs) us
    cell : {ts us : List Token} {e : Expr} → ReadsExpr ts e us → ReadsInit ts (Cell (first_place ts) e) us

  -- sep(varid "<-" init, "|")
  pub data ReadsFieldInits : List Token → FieldInits → List Token → Type 0 where
    last_init : {t s : Token} {ts us : List Token} {name : Name} {i : InitExpr} → IsVar name t → IsWord word.LeftArrow s → ReadsInit ts i us → ReadsFieldInits (t ∷ s ∷ ts) (MoreFieldInits (name_at t name) i NoFieldInits) us
    more_inits : {t s r : Token} {ts us vs : List Token} {name : Name} {i : InitExpr} {fs : FieldInits} → IsVar name t → IsWord word.LeftArrow s → ReadsInit ts i (r ∷ us) → IsWord word.Bar r → ReadsFieldInits us fs vs → ReadsFieldInits (t ∷ s ∷ ts) (MoreFieldInits (name_at t name) i fs) vs

-- ["<-" init]
pub data ReadsStart : List Token → Option InitExpr → List Token → Type 0 where
  no_start : {ts : List Token} → ReadsStart ts None ts
  start : {t : Token} {ts us : List Token} {i : InitExpr} → IsWord word.LeftArrow t → ReadsInit ts i us → ReadsStart (t ∷ ts) (Some i) us

-- ["aligned" number]
pub data ReadsAlign : List Token → Option ℕ → List Token → Type 0 where
  no_align : {ts : List Token} → ReadsAlign ts None ts
  align : {t s : Token} {us : List Token} {k : ℕ} → IsWord word.Aligned t → IsNumber k s → ReadsAlign (t ∷ s ∷ us) (Some k) us

-- "In" | "Out"
abbrev pub dir_name : Dir → Name
dir_name In = in_port
dir_name Out = out_port

-- varid+ "->" varid+
pub data ReadsDepend : List Token → Depend → List Token → Type 0 where
  depend : {t : Token} {ts us vs : List Token} {a b : NameAt} {from to : List NameAt} → ReadsVars ts (a ∷ from) (t ∷ us) → IsWord word.RightArrow t → ReadsVars us (b ∷ to) vs → ReadsDepend ts (record { from = a ∷ from; to = b ∷ to }) vs

-- sep(varid+ "->" varid+, ",")
pub data ReadsDependList : List Token → List Depend → List Token → Type 0 where
  last_depend : {ts us : List Token} {d : Depend} → ReadsDepend ts d us → ReadsDependList ts (d ∷ []) us
  more_depends : {ts us vs : List Token} {t : Token} {d : Depend} {ds : List Depend} → ReadsDepend ts d (t ∷ us) → IsComma t → ReadsDependList us ds vs → ReadsDependList ts (d ∷ ds) vs

-- ["|" sep(varid+ "->" varid+, ",")]
pub data ReadsDepends : List Token → List Depend → List Token → Type 0 where
  no_depends : {ts : List Token} → ReadsDepends ts [] ts
  depends : {t : Token} {ts us : List Token} {ds : List Depend} → IsWord word.Bar t → ReadsDependList ts ds us → ReadsDepends (t ∷ ts) ds us

-- [context "=>"], before the head of a class
pub data ReadsSupers : List Token → List PredExpr → List Token → Type 0 where
  no_supers : {ts : List Token} → ReadsSupers ts [] ts
  supers : {t : Token} {ts us : List Token} {ps : List PredExpr} → ReadsContext ts ps (t ∷ us) → IsWord word.DoubleArrow t → ReadsSupers ts ps us

-- ["if" sep(pred, ",")]
pub data ReadsConditions : List Token → List PredExpr → List Token → Type 0 where
  no_conditions : {ts : List Token} → ReadsConditions ts [] ts
  conditions : {t : Token} {ts us : List Token} {ps : List PredExpr} → IsWord word.If t → ReadsPreds ts ps us → ReadsConditions (t ∷ ts) ps us

-- top = sig | equation | fixity | data | bitdata | struct | area | port | class | instance
pub data ReadsDecl : List Token → Decl → List Token → Type 0 where
  signature : {ts us : List Token} {a : Sig} → ReadsSig ts a us → ReadsDecl ts (decl.Sig a) us
  equation : {ts us : List Token} {name : Name} {row : Equation} → ReadsEquation ts name (equations (row ∷ [])) us → ReadsDecl ts (decl.Equation (record { name = name; place = first_place ts; rows = row ∷ [] })) us
  fixity : {t s : Token} {ts us : List Token} {fix : Fix} {k : ℕ} {names : List NameAt} → IsWord (fix_word fix) t → IsNumber k s → k ≤ 9 → ReadsInfixes ts names us → ReadsDecl (t ∷ s ∷ ts) (decl.Fixity t.place fix k names) us
  -- data = "data" conid varid* "=" sep(conid atype*, "|")
  data_decl : {t s r : Token} {ts us vs : List Token} {name : Name} {params : List NameAt} {cons : List DataCon} → IsWord word.Data t → IsCon name s → ReadsVars ts params (r ∷ us) → IsWord word.Equals r → ReadsDataCons us cons vs → ReadsDecl (t ∷ s ∷ ts) (decl.Data t.place (name_at s name) params cons) vs
  -- bitdata = "bitdata" conid ["/" number] "=" sep(bcon, "|")
  bitdata_decl : {t s r : Token} {ts us vs : List Token} {name : Name} {width : Option ℕ} {cons : List BitCon} → IsWord word.Bitdata t → IsCon name s → ReadsSize ts width (r ∷ us) → IsWord word.Equals r → ReadsBitCons us cons vs → ReadsDecl (t ∷ s ∷ ts) (decl.Bitdata t.place (name_at s name) width cons) vs
  -- struct = "struct" conid ["/" number] "[" sep(sep(varid, ",") "::" type | "Pad" number, "|") "]"
  struct_decl : {t s r q : Token} {ts us vs : List Token} {name : Name} {bytes : Option ℕ} {parts : List StructPart} → IsWord word.Struct t → IsCon name s → ReadsSize ts bytes (r ∷ us) → IsOpenSquare r → ReadsStructParts us parts (q ∷ vs) → IsCloseSquare q → ReadsDecl (t ∷ s ∷ ts) (decl.Struct t.place (name_at s name) bytes parts) vs
  -- area = "area" varid ["<-" init] "::" type ["aligned" number]
  area_decl : {t s r : Token} {ts us vs ws : List Token} {name : Name} {init : Option InitExpr} {a : TypeExpr} {align : Option ℕ} → IsWord word.Area t → IsVar name s → ReadsStart ts init (r ∷ us) → IsWord word.DoubleColon r → ReadsType us a vs → ReadsAlign vs align ws → ReadsDecl (t ∷ s ∷ ts) (decl.Area t.place (name_at s name) init a align) ws
  -- port = "port" varid "::" ("In" | "Out") atype "at" bits
  port_decl : {t s r q p o : Token} {ts us : List Token} {name : Name} {dir : Dir} {a : TypeExpr} {width k : ℕ} → IsWord word.Port t → IsVar name s → IsWord word.DoubleColon r → IsCon (dir_name dir) q → ReadsAtype ts a (p ∷ o ∷ us) → IsWord word.At p → IsBits width k o → ReadsDecl (t ∷ s ∷ r ∷ q ∷ ts) (decl.Port t.place (name_at s name) dir a width k) us
  -- class = "class" [context "=>"] conid varid+ ["|" sep(varid+ "->" varid+, ",")] ["where" block(sig)]
  class_decl : {t s : Token} {ts us vs ws xs : List Token} {ps : List PredExpr} {name : Name} {v : NameAt} {params : List NameAt} {ds : List Depend} {sigs : List Sig} → IsWord word.Class t → ReadsSupers ts ps (s ∷ us) → IsCon name s → ReadsVars us (v ∷ params) vs → ReadsDepends vs ds ws → ReadsMethods ws sigs xs → ReadsDecl (t ∷ ts) (decl.Class t.place ps (name_at s name) (v ∷ params) ds sigs) xs
  -- instance = "instance" conid atype+ ["if" sep(pred, ",")] ["where" block(equation)]
  instance_decl : {t s : Token} {ts us vs ws : List Token} {name : Name} {a : TypeExpr} {args : List TypeExpr} {ps : List PredExpr} {rows : List Bind} → IsWord word.Instance t → IsCon name s → ReadsAtypes ts (a ∷ args) us → ReadsConditions us ps vs → ReadsInstanceBody vs rows ws → ReadsDecl (t ∷ s ∷ ts) (decl.Instance t.place (name_at s name) (a ∷ args) ps rows) ws

-- block(top) without its `{`
pub data ReadsDecls : List Token → List Decl → List Token → Type 0 where
  no_decl : {t : Token} {us : List Token} → IsCloseBrace t → ReadsDecls (t ∷ us) [] us
  empty_decl : {t : Token} {ts us : List Token} {ds : List Decl} → IsSemicolon t → ReadsDecls ts ds us → ReadsDecls (t ∷ ts) ds us
  last_decl : {t : Token} {ts us : List Token} {d : Decl} → ReadsDecl ts d (t ∷ us) → IsCloseBrace t → ReadsDecls ts (d ∷ []) us
  more_decls : {t : Token} {ts us vs : List Token} {d : Decl} {ds : List Decl} → ReadsDecl ts d (t ∷ us) → IsSemicolon t → ReadsDecls us ds vs → ReadsDecls ts (d ∷ ds) vs

-- program = block(top), and then the end
pub data Derives : List Token → Program → Type 0 where
  program : {t s : Token} {ts : List Token} {ds : List Decl} → IsOpenBrace t → ReadsDecls ts ds (s ∷ []) → IsEnd s → Derives (t ∷ ts) (record { decls = ds })
