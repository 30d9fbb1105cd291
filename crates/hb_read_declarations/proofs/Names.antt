-- Lists of names: names, names of infixes, names of fields, and variables.
use Rattle.std.proofs.Common.{List, [], ◌∷◌}
use Rattle.hb_tokens.specs.declared.token.Token.{Token}
use Rattle.hb_tree.specs.declared.types.NameAt.{NameAt}
use Rattle.hb_grammar.specs.Tokens.{IsComma}
use Rattle.hb_grammar.specs.Expressions.{ReadsName, ReadsInfix}
use Rattle.hb_grammar.specs.Declarations.{ReadsNames, last_name, more_names, ReadsInfixes, last_infix, more_infixes, ReadsVars, ReadsFieldNames, last_var, more_vars}
use Rattle.hb_read_declarations.proofs.Lists.{Separated, last_thing, more_things}
use Rattle.hb_read_declarations.proofs.Leaves.{VarRead, var_read}

abbrev pub NameRead : List Token → NameAt → List Token → Type 0
NameRead ts n us = ReadsName ts n.place n.name us

abbrev pub InfixRead : List Token → NameAt → List Token → Type 0
InfixRead ts n us = ReadsInfix ts n.place n.name us

-- lists of names

pub names_from : {ts us : List Token} {ns : List NameAt} → Separated IsComma NameRead ts ns us → ReadsNames ts ns us
names_from (last_thing h) = last_name h
names_from (more_things h s g) = more_names h s (names_from g)

pub names_back : {ts us : List Token} {ns : List NameAt} → ReadsNames ts ns us → Separated IsComma NameRead ts ns us
names_back (last_name h) = last_thing h
names_back (more_names h s g) = more_things h s (names_back g)

pub infixes_from : {ts us : List Token} {ns : List NameAt} → Separated IsComma InfixRead ts ns us → ReadsInfixes ts ns us
infixes_from (last_thing h) = last_infix h
infixes_from (more_things h s g) = more_infixes h s (infixes_from g)

pub infixes_back : {ts us : List Token} {ns : List NameAt} → ReadsInfixes ts ns us → Separated IsComma InfixRead ts ns us
infixes_back (last_infix h) = last_thing h
infixes_back (more_infixes h s g) = more_things h s (infixes_back g)

last_field : {ts us : List Token} {n : NameAt} → VarRead ts n us → ReadsFieldNames ts (n ∷ []) us
last_field (var_read e) = last_var e

more_fields : {t : Token} {ts us vs : List Token} {n : NameAt} {ns : List NameAt} → VarRead ts n (t ∷ us) → IsComma t → ReadsFieldNames us ns vs → ReadsFieldNames ts (n ∷ ns) vs
more_fields (var_read e) s g = more_vars e s g

pub field_names_from : {ts us : List Token} {ns : List NameAt} → Separated IsComma VarRead ts ns us → ReadsFieldNames ts ns us
field_names_from (last_thing h) = last_field h
field_names_from (more_things {t} h s g) = more_fields {t = t} h s (field_names_from g)

pub field_names_back : {ts us : List Token} {ns : List NameAt} → ReadsFieldNames ts ns us → Separated IsComma VarRead ts ns us
field_names_back (last_var e) = last_thing (var_read e)
field_names_back (more_vars e s g) = more_things (var_read e) s (field_names_back g)

-- varid+
pub data SomeVars : List Token → List NameAt → List Token → Type 0 where
  some_vars : {ts us : List Token} {n : NameAt} {ns : List NameAt} → ReadsVars ts (n ∷ ns) us → SomeVars ts (n ∷ ns) us
