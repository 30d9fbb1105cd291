-- Lists of the parts of declarations: those with `|` between, and those with a comma; and the head of a class.
use Rattle.std.proofs.Common.{List, [], ◌∷◌, ◌++◌}
use Rattle.hb_base.specs.declared.name.Name.{Name}
use Rattle.hb_tokens.specs.declared.token.Token.{Token}
use Rattle.hb_tokens.specs.declared.word.Word.TheVariants as word
use Rattle.hb_tree.specs.Types.{TypeExpr}
use Rattle.hb_tree.specs.declared.types.NameAt.{NameAt}
use Rattle.hb_tree.specs.declared.types.PredExpr.{PredExpr}
use Rattle.hb_tree.specs.declared.declaration.DataCon.{DataCon}
use Rattle.hb_tree.specs.declared.declaration.BitPart.{BitPart}
use Rattle.hb_tree.specs.declared.declaration.BitCon.{BitCon}
use Rattle.hb_tree.specs.declared.declaration.StructPart.{StructPart}
use Rattle.hb_tree.specs.declared.declaration.Depend.{Depend}
use Rattle.hb_grammar.specs.Tokens.{IsCon, IsWord, IsComma}
use Rattle.hb_grammar.specs.Types.{ReadsAtypes, ReadsPred, ReadsPreds, last_pred, more_preds, name_at}
use Rattle.hb_grammar.specs.Declarations as grammar
use Rattle.hb_grammar.specs.Declarations.{ReadsDataCons, ReadsBitPart, ReadsBitParts, ReadsBitCon, ReadsBitCons}
use Rattle.hb_grammar.specs.Declarations.{ReadsStructPart, ReadsStructParts, ReadsDepend, ReadsDependList, ReadsSupers}
use Rattle.hb_read_declarations.specs.declared.node.DeclNode.TheVariants as node
use Rattle.hb_read_declarations.specs.Nodes.{counted, closed, named, names_of, type_of}
use Rattle.hb_read_declarations.specs.Readers.{Out}
use Rattle.hb_read_declarations.proofs.Lists.{Separated, last_thing, more_things}
use Rattle.hb_read_declarations.proofs.Leaves.{ConRead}
use Rattle.hb_read_declarations.proofs.Names.{SomeVars}
use Rattle.hb_read_declarations.proofs.Typing.{context_of}

-- `|`
abbrev pub IsBar : Token → Type 0
IsBar t = IsWord word.Bar t

-- constructors of data types

pub data DataConRead : List Token → DataCon → List Token → Type 0 where
  data_con : {t : Token} {ts us : List Token} {name : Name} {args : List TypeExpr} → IsCon name t → ReadsAtypes ts args us →
      DataConRead (t ∷ ts) (record { name = name_at t name; args = args }) us

last_data : {ts us : List Token} {c : DataCon} → DataConRead ts c us → ReadsDataCons ts (c ∷ []) us
last_data (data_con d h) = grammar.last_con d h

more_data : (t : Token) {ts us vs : List Token} {c : DataCon} {cs : List DataCon} → DataConRead ts c (t ∷ us) → IsBar t → ReadsDataCons us cs vs → ReadsDataCons ts (c ∷ cs) vs
more_data t (data_con d h) s g = grammar.more_cons d h s g

pub data_cons_from : {ts us : List Token} {cs : List DataCon} → Separated IsBar DataConRead ts cs us → ReadsDataCons ts cs us
data_cons_from (last_thing h) = last_data h
data_cons_from (more_things {t} h s g) = more_data t h s (data_cons_from g)

pub data_cons_back : {ts us : List Token} {cs : List DataCon} → ReadsDataCons ts cs us → Separated IsBar DataConRead ts cs us
data_cons_back (grammar.last_con d h) = last_thing (data_con d h)
data_cons_back (grammar.more_cons d h s g) = more_things (data_con d h) s (data_cons_back g)

-- parts and constructors of bitdata types

pub bit_parts_from : {ts us : List Token} {ps : List BitPart} → Separated IsBar ReadsBitPart ts ps us → ReadsBitParts ts ps us
bit_parts_from (last_thing h) = grammar.last_bit_part h
bit_parts_from (more_things h s g) = grammar.more_bit_parts h s (bit_parts_from g)

pub bit_parts_back : {ts us : List Token} {ps : List BitPart} → ReadsBitParts ts ps us → Separated IsBar ReadsBitPart ts ps us
bit_parts_back (grammar.last_bit_part h) = last_thing h
bit_parts_back (grammar.more_bit_parts h s g) = more_things h s (bit_parts_back g)

pub bit_cons_from : {ts us : List Token} {cs : List BitCon} → Separated IsBar ReadsBitCon ts cs us → ReadsBitCons ts cs us
bit_cons_from (last_thing h) = grammar.last_bit_con h
bit_cons_from (more_things h s g) = grammar.more_bit_cons h s (bit_cons_from g)

pub bit_cons_back : {ts us : List Token} {cs : List BitCon} → ReadsBitCons ts cs us → Separated IsBar ReadsBitCon ts cs us
bit_cons_back (grammar.last_bit_con h) = last_thing h
bit_cons_back (grammar.more_bit_cons h s g) = more_things h s (bit_cons_back g)

-- parts of structs

pub struct_parts_from : {ts us : List Token} {ps : List StructPart} → Separated IsBar ReadsStructPart ts ps us → ReadsStructParts ts ps us
struct_parts_from (last_thing h) = grammar.last_struct_part h
struct_parts_from (more_things h s g) = grammar.more_struct_parts h s (struct_parts_from g)

pub struct_parts_back : {ts us : List Token} {ps : List StructPart} → ReadsStructParts ts ps us → Separated IsBar ReadsStructPart ts ps us
struct_parts_back (grammar.last_struct_part h) = last_thing h
struct_parts_back (grammar.more_struct_parts h s g) = more_things h s (struct_parts_back g)

-- dependencies

pub depend_list_from : {ts us : List Token} {ds : List Depend} → Separated IsComma ReadsDepend ts ds us → ReadsDependList ts ds us
depend_list_from (last_thing h) = grammar.last_depend h
depend_list_from (more_things h s g) = grammar.more_depends h s (depend_list_from g)

pub depend_list_back : {ts us : List Token} {ds : List Depend} → ReadsDependList ts ds us → Separated IsComma ReadsDepend ts ds us
depend_list_back (grammar.last_depend h) = last_thing h
depend_list_back (grammar.more_depends h s g) = more_things h s (depend_list_back g)

-- predicates

pub preds_from : {ts us : List Token} {ps : List PredExpr} → Separated IsComma ReadsPred ts ps us → ReadsPreds ts ps us
preds_from (last_thing h) = last_pred h
preds_from (more_things h s g) = more_preds h s (preds_from g)

pub preds_back : {ts us : List Token} {ps : List PredExpr} → ReadsPreds ts ps us → Separated IsComma ReadsPred ts ps us
preds_back (last_pred h) = last_thing h
preds_back (more_preds h s g) = more_things h s (preds_back g)

-- atype+
pub data SomeTypes : List Token → List TypeExpr → List Token → Type 0 where
  some_types : {ts us : List Token} {a : TypeExpr} {args : List TypeExpr} → ReadsAtypes ts (a ∷ args) us → SomeTypes ts (a ∷ args) us

abbrev pub args_of : List TypeExpr → Out
args_of xs = closed node.Types (counted type_of xs)

-- the head of a class

-- what stands before the rest of a class
pub record ClassHead : Type 0 where
  pub context : List PredExpr
  pub name : NameAt
  pub params : List NameAt

abbrev pub class_head_of : ClassHead → Out
class_head_of h = context_of h.context ++ (named h.name ++ names_of h.params)

pub data ClassHeadRead : List Token → ClassHead → List Token → Type 0 where
  class_head : {ts us vs ws : List Token} {ps : List PredExpr} {n : NameAt} {params : List NameAt} →
      ReadsSupers ts ps us → ConRead us n vs → SomeVars vs params ws →
      ClassHeadRead ts (record { context = ps; name = n; params = params }) ws
