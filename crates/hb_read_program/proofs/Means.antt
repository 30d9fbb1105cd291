-- What each frame means in the grammar: the tokens that it stands for, and the nodes that are put out for them.
use Rattle.std.proofs.Common.{◌≡◌, ℕ, zero, suc, ◌+◌, ◌≤◌, Bool, true, false, List, [], ◌∷◌, ◌++◌, Option, Some}
use Rattle.hb_base.specs.declared.name.Name.{Name}
use Rattle.hb_base.specs.declared.place.Place.{Place}
use Rattle.hb_base.specs.declared.port.Dir.{Dir}
use Rattle.hb_tokens.specs.declared.token.Token.{Token}
use Rattle.hb_tokens.specs.declared.word.Word.TheVariants as word
use Rattle.hb_tree.specs.declared.types.NameAt.{NameAt}
use Rattle.hb_tree.specs.declared.declaration.Fix.{Fix}
use Rattle.hb_tree.specs.declared.declaration.BitPart.{BitPart}
use Rattle.hb_tree.specs.Types.{TypeExpr}
use Rattle.hb_tree.specs.Initials.{InitExpr, FieldInits, NoFieldInits, MoreFieldInits}
use Rattle.hb_grammar.specs.Reading.{Runs}
use Rattle.hb_grammar.specs.Tokens.{IsVar, IsOp, IsCon, IsWord, IsNumber, IsBits, IsClose, IsComma, IsSemicolon, IsCloseSquare, IsCloseBrace}
use Rattle.hb_grammar.specs.Types.{name_at, ReadsType, ReadsAtype, ReadsAtypes, ReadsPred}
use Rattle.hb_grammar.specs.Expressions.{ReadsExpr}
use Rattle.hb_grammar.specs.Declarations.{a_name, dir_name, ReadsInfixes, ReadsVars, ReadsBitPart, ReadsBitParts, ReadsBitCon, ReadsSize, ReadsStructPart}
use Rattle.hb_grammar.specs.Declarations.{ReadsInit, ReadsStart, ReadsAlign, ReadsDepend, ReadsDepends, ReadsSigs, ReadsMethods, ReadsConditions}
use Rattle.hb_grammar.specs.Declarations.{ReadsInstanceBody, ReadsDecls}
use Rattle.hb_read_types.specs.declared.context_reader.ContextReader.{ContextReader}
use Rattle.hb_read_expressions.specs.declared.state.State.{State}
use Rattle.hb_read_declarations.specs.declared.node.DeclNode.{DeclNode}
use Rattle.hb_read_declarations.specs.declared.node.DeclNode.TheVariants as node
use Rattle.hb_read_declarations.specs.Exactly.{ProgramRead}
use Rattle.hb_read_declarations.specs.Nodes.{counted, closed, named, names_of, number_of, type_of, pred_of, context_whole, sig_of, data_con_of, bit_part_of}
use Rattle.hb_read_declarations.specs.Nodes.{bit_con_of, struct_part_of, depend_of, bind_of, init_nodes, field_init_nodes, fields_count, start_of, decl_nodes}
use Rattle.hb_read_declarations.specs.Nodes.{program_nodes}
use Rattle.hb_read_declarations.specs.Readers.{Out, no_context}
use Rattle.hb_read_declarations.proofs.Lists.{Several, Behind, Block}
use Rattle.hb_read_declarations.proofs.Leaves.{VarRead, ConRead}
use Rattle.hb_read_declarations.proofs.Names.{NameRead, InfixRead, SomeVars}
use Rattle.hb_read_declarations.proofs.Parts.{IsBar, DataConRead, ClassHeadRead, class_head_of, SomeTypes, args_of}
use Rattle.hb_read_declarations.proofs.Typing.{Qualified, QualifiedRead, qualified_of}
use Rattle.hb_read_declarations.proofs.Equations.{EquationRead}
use Rattle.hb_read_declarations.proofs.ExprTokens.{expr_of}
use Rattle.hb_read_program.specs.Rules.{Leaf, Symbol, Kind, Put, Form, Things, fits, node_of, put_out}
use Rattle.hb_read_program.specs.declared.symbol.Leaf.TheVariants as leaf
use Rattle.hb_read_program.specs.declared.symbol.Symbol.TheVariants as symbol
use Rattle.hb_read_program.specs.declared.symbol.Things.TheVariants as things
use Rattle.hb_read_program.specs.Frames.{leaf_reader, a_context, Frame, waits, reads, reads_line, reads_class, first_at, Side, Spot, Heading}
use Rattle.hb_read_program.specs.declared.side.Side.TheVariants as side
use Rattle.hb_read_program.specs.declared.side.Spot.TheVariants as spot
use Rattle.hb_read_program.specs.declared.side.Heading.TheVariants as heading
use Rattle.hb_read_program.proofs.Fits.{an_eq}

-- a thing that the grammar's family reads, and the nodes that are made of it
pub data Thing {A : Type 0} (Reads : List Token → A → List Token → Type 0) (f : A → Out) : List Token → Out → List Token → Type 0 where
  thing : {ts us : List Token} {a : A} → Reads ts a us → Thing Reads f ts (f a) us

-- the nodes of some things, and a node that has their count, where so many were counted before
abbrev pub counted_from : {A : Type 0} → (ℕ → DeclNode) → (A → Out) → ℕ → List A → Out
counted_from whole f n xs = (counted f xs).nodes ++ whole (n + (counted f xs).count) ∷ []

-- one token
pub data OneToken (k : Kind) (q : Put) (p : Place) (n : ℕ) : List Token → Out → List Token → Type 0 where
  one_fits : {t : Token} {us : List Token} → fits k t ≡ true → OneToken k q p n (t ∷ us) (put_out q p n t) us

-- no token, and a node
pub data Closes (f : Form) (p : Place) (n : ℕ) : List Token → Out → List Token → Type 0 where
  closes : {ts : List Token} → Closes f p n ts (node_of f p n ∷ []) ts

abbrev pub LeafMeans : Leaf → List Token → Out → List Token → Type 0
LeafMeans leaf.Type = Thing ReadsType type_of
LeafMeans leaf.Atype = Thing ReadsAtype type_of
LeafMeans leaf.Pred = Thing ReadsPred pred_of
LeafMeans leaf.Qualified = Thing QualifiedRead qualified_of
LeafMeans leaf.Expr = Thing ReadsExpr expr_of
LeafMeans leaf.Equation = Thing EquationRead bind_of

-- more things, each behind a mark
abbrev pub MoreMeans : Things → ℕ → List Token → Out → List Token → Type 0
MoreMeans things.Names n = Thing (Several (Behind IsComma NameRead)) (counted_from node.Names named n)
MoreMeans things.Infixes n = Thing (Several (Behind IsComma InfixRead)) (counted_from node.Names named n)
MoreMeans things.FieldNames n = Thing (Several (Behind IsComma VarRead)) (counted_from node.Names named n)
MoreMeans things.DataCons n = Thing (Several (Behind IsBar DataConRead)) (counted_from node.DataCons data_con_of n)
MoreMeans things.BitCons n = Thing (Several (Behind IsBar ReadsBitCon)) (counted_from node.BitCons bit_con_of n)
MoreMeans things.StructParts n = Thing (Several (Behind IsBar ReadsStructPart)) (counted_from node.StructParts struct_part_of n)
MoreMeans things.Depends n = Thing (Several (Behind IsComma ReadsDepend)) (counted_from node.Depends depend_of n)
MoreMeans things.Preds n = Thing (Several (Behind IsComma ReadsPred)) (counted_from context_whole pred_of n)

-- a block behind one of its things
pub data After {A : Type 0} (Reads : List Token → List A → List Token → Type 0) : List Token → List A → List Token → Type 0 where
  after_close : {t : Token} {us : List Token} → IsCloseBrace t → After Reads (t ∷ us) [] us
  after_semicolon : {t : Token} {ts us : List Token} {xs : List A} → IsSemicolon t → Reads ts xs us → After Reads (t ∷ ts) xs us

-- things that may be left out
pub data Optional {A : Type 0} (whole : ℕ → DeclNode) (f : A → Out) (Reads : List Token → List A → List Token → Type 0) (n : ℕ) : List Token → Out → List Token → Type 0 where
  left_out : {ts : List Token} → Optional whole f Reads n ts (whole n ∷ []) ts
  not_left_out : {ts us : List Token} {xs : List A} → Reads ts xs us → Optional whole f Reads n ts (closed whole (counted f xs)) us

-- a fixity behind its word
pub data FixityRest (fix : Fix) (p : Place) : List Token → Out → List Token → Type 0 where
  fixity_rest : {t : Token} {ts us : List Token} {k : ℕ} {names : List NameAt} → IsNumber k t → k ≤ 9 → ReadsInfixes ts names us → FixityRest fix p (t ∷ ts) (names_of names ++ node.Fixity p fix k ∷ []) us

-- a port behind `::`
pub data PortRest (p : Place) : List Token → Out → List Token → Type 0 where
  port_rest : {t s r : Token} {ts us : List Token} (dir : Dir) {a : TypeExpr} {width k : ℕ} → IsCon (dir_name dir) t → ReadsAtype ts a (s ∷ r ∷ us) → IsWord word.At s → IsBits width k r → PortRest p (t ∷ ts) (type_of a ++ node.Port p dir width k ∷ []) us

-- a bitdata constructor behind `[`, and behind one of its parts
pub data BitRest (n : ℕ) : List Token → Out → List Token → Type 0 where
  no_bits : {t : Token} {us : List Token} → IsCloseSquare t → BitRest n (t ∷ us) (node.BitCon n ∷ []) us
  some_bits : {t : Token} {ts us : List Token} {ps : List BitPart} → ReadsBitParts ts ps (t ∷ us) → IsCloseSquare t → BitRest n ts (closed node.BitCon (counted bit_part_of ps)) us

pub data MoreBits (n : ℕ) : List Token → Out → List Token → Type 0 where
  more_bits : {t : Token} {ts us : List Token} {ps : List BitPart} → Several (Behind IsBar ReadsBitPart) ts ps (t ∷ us) → IsCloseSquare t → MoreBits n ts (counted_from node.BitCon bit_part_of n ps) us

-- a field with its initialiser, and more of them up to `]`
pub data FieldMeans : List Token → Out → List Token → Type 0 where
  field_means : {t s : Token} {ts us : List Token} {name : Name} {i : InitExpr} → IsVar name t → IsWord word.LeftArrow s → ReadsInit ts i us → FieldMeans (t ∷ s ∷ ts) (named (name_at t name) ++ (init_nodes i ++ node.InitField ∷ [])) us

pub data FieldsBehind : List Token → FieldInits → List Token → Type 0 where
  no_fields : {t : Token} {us : List Token} → IsCloseSquare t → FieldsBehind (t ∷ us) NoFieldInits us
  next_field : {r t s : Token} {ts us vs : List Token} {name : Name} {i : InitExpr} {fs : FieldInits} → IsWord word.Bar r → IsVar name t → IsWord word.LeftArrow s → ReadsInit ts i us → FieldsBehind us fs vs → FieldsBehind (r ∷ t ∷ s ∷ ts) (MoreFieldInits (name_at t name) i fs) vs

abbrev pub fields_from : Place → ℕ → FieldInits → Out
fields_from p n fs = field_init_nodes fs ++ node.InitFields p (n + fields_count fs) ∷ []

abbrev pub SymbolMeans : Symbol → Place → ℕ → List Token → Out → List Token → Type 0
SymbolMeans (symbol.One k q) p n = OneToken k q p n
SymbolMeans (symbol.Read l) p n = LeafMeans l
SymbolMeans (symbol.Close f) p n = Closes f p n
SymbolMeans (symbol.More k) p n = MoreMeans k n
SymbolMeans symbol.Program p n = Thing ProgramRead program_nodes
SymbolMeans symbol.Tops p n = Thing ReadsDecls (counted_from node.Program decl_nodes n)
SymbolMeans symbol.AfterTop p n = Thing (After ReadsDecls) (counted_from node.Program decl_nodes n)
SymbolMeans (symbol.Digit fix) p n = FixityRest fix p
SymbolMeans symbol.Infix p n = Thing InfixRead named
SymbolMeans symbol.Name p n = Thing NameRead named
SymbolMeans symbol.Vars p n = Thing ReadsVars (counted_from node.Names named n)
SymbolMeans symbol.SomeVars p n = Thing SomeVars names_of
SymbolMeans symbol.Atypes p n = Thing ReadsAtypes (counted_from node.Types type_of n)
SymbolMeans symbol.SomeAtypes p n = Thing SomeTypes args_of
SymbolMeans symbol.Size p n = Thing ReadsSize number_of
SymbolMeans symbol.Align p n = Thing ReadsAlign number_of
SymbolMeans symbol.DataCon p n = Thing DataConRead data_con_of
SymbolMeans symbol.BitPart p n = Thing ReadsBitPart bit_part_of
SymbolMeans symbol.BitParts p n = BitRest n
SymbolMeans symbol.MoreBitParts p n = MoreBits n
SymbolMeans symbol.BitCon p n = Thing ReadsBitCon bit_con_of
SymbolMeans symbol.StructPart p n = Thing ReadsStructPart struct_part_of
SymbolMeans symbol.Start p n = Thing ReadsStart start_of
SymbolMeans symbol.Init p n = Thing ReadsInit init_nodes
SymbolMeans symbol.FieldInit p n = FieldMeans
SymbolMeans symbol.MoreInits p n = Thing FieldsBehind (fields_from p n)
SymbolMeans symbol.Direction p n = PortRest p
SymbolMeans symbol.Depend p n = Thing ReadsDepend depend_of
SymbolMeans symbol.Depends p n = Optional node.Depends depend_of ReadsDepends n
SymbolMeans symbol.Methods p n = Optional node.Sigs sig_of ReadsMethods n
SymbolMeans symbol.Sigs p n = Thing ReadsSigs (counted_from node.Sigs sig_of n)
SymbolMeans symbol.AfterSig p n = Thing (After ReadsSigs) (counted_from node.Sigs sig_of n)
SymbolMeans symbol.Conditions p n = Optional context_whole pred_of ReadsConditions n
SymbolMeans symbol.Body p n = Optional node.Equations bind_of ReadsInstanceBody n
SymbolMeans symbol.Rows p n = Thing (Block EquationRead) (counted_from node.Equations bind_of n)
SymbolMeans symbol.AfterRow p n = Thing (After (Block EquationRead)) (counted_from node.Equations bind_of n)
SymbolMeans symbol.ClassHead p n = Thing ClassHeadRead class_head_of

-- the names of a signature, from where their reading stands
pub data SpotReads : Spot → List Token → List NameAt → List Token → Type 0 where
  want_names : {ts us vs : List Token} {n : NameAt} {ns : List NameAt} → NameRead ts n us → Several (Behind IsComma NameRead) us ns vs → SpotReads spot.Want ts (n ∷ ns) vs
  open_names : {q : Place} {t s : Token} {ts us : List Token} {name : Name} {ns : List NameAt} → IsOp name t → IsClose s → Several (Behind IsComma NameRead) ts ns us → SpotReads (spot.Open q) (t ∷ s ∷ ts) (a_name q name ∷ ns) us
  operator_names : {q : Place} {name : Name} {s : Token} {ts us : List Token} {ns : List NameAt} → IsClose s → Several (Behind IsComma NameRead) ts ns us → SpotReads (spot.Operator q name) (s ∷ ts) (a_name q name ∷ ns) us
  named_names : {n : NameAt} {ts us : List Token} {ns : List NameAt} → Several (Behind IsComma NameRead) ts ns us → SpotReads (spot.Named n) ts (n ∷ ns) us

-- a signature, where so many of its names are read
pub data SigRest (p : Place) (k : ℕ) (out : Out) (s : Spot) : List Token → Out → List Token → Type 0 where
  sig_rest : {t : Token} {ts us vs : List Token} {n : NameAt} {ns : List NameAt} {q : Qualified} → SpotReads s ts (n ∷ ns) (t ∷ us) → IsWord word.DoubleColon t → QualifiedRead us q vs → SigRest p k out s ts (out ++ (counted_from node.Names named k (n ∷ ns) ++ (qualified_of q ++ node.Sig (first_at k p n) ∷ []))) vs

abbrev pub SideMeans : Side → List Token → Out → List Token → Type 0
SideMeans side.Gone ts ms us = ⊥
SideMeans (side.Names p k out s) ts ms us = SigRest p k out s ts ms us

pub data LineMeans (e : Option State) (d : Side) : List Token → Out → List Token → Type 0 where
  by_equation : {s : State} {ts us : List Token} {v : Out} → e ≡ Some s → Runs an_eq s ts v us → LineMeans e d ts (v ++ node.Equation ∷ []) us
  by_signature : {ts us : List Token} {ms : Out} → SideMeans d ts ms us → LineMeans e d ts ms us

-- there is a name among these, or before them
abbrev pub has_names : ℕ → List NameAt → Bool
has_names (suc k) ns = true
has_names zero (n ∷ ns) = true
has_names zero [] = false

pub data HeadingMeans : Heading → List Token → Out → List Token → Type 0 where
  before_names : {ts us vs : List Token} {n : NameAt} {ns : List NameAt} → ConRead ts n us → SomeVars us ns vs → HeadingMeans heading.Before ts (no_context ++ (named n ++ names_of ns)) vs
  among_names : {k : ℕ} {out : Out} {ts us : List Token} {ns : List NameAt} → ReadsVars ts ns us → has_names k ns ≡ true → HeadingMeans (heading.Names k out) ts (no_context ++ (out ++ counted_from node.Names named k ns)) us

pub data ClassMeans (c : Option ContextReader) (h : Heading) : List Token → Out → List Token → Type 0 where
  by_context : {s : ContextReader} {t : Token} {ts us vs ws : List Token} {v : Out} {n : NameAt} {ns : List NameAt} → c ≡ Some s → Runs a_context s ts v (t ∷ us) → IsWord word.DoubleArrow t → ConRead us n vs → SomeVars vs ns ws → ClassMeans c h ts (v ++ (named n ++ names_of ns)) ws
  by_heading : {ts us : List Token} {ms : Out} → HeadingMeans h ts ms us → ClassMeans c h ts ms us

-- what a frame means
abbrev pub Means : Frame → List Token → Out → List Token → Type 0
Means (waits s p n) = SymbolMeans s p n
Means (reads l s) = Runs (leaf_reader l) s
Means (reads_line e d) = LineMeans e d
Means (reads_class c h) = ClassMeans c h
