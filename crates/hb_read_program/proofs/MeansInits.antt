-- What the table says of initialisers of areas, the grammar says.
use Rattle.std.proofs.Common.{◌≡◌, ℕ, ◌+◌, List, [], ◌∷◌, ◌++◌, Some, None, refl, sym, ap, ◌∙◌, append_assoc}
use Rattle.hb_base.specs.declared.name.Name.{Name}
use Rattle.hb_base.specs.declared.place.Place.{Place}
use Rattle.hb_tokens.specs.declared.token.Token.{Token}
use Rattle.hb_tokens.specs.declared.word.Word.TheVariants as word
use Rattle.hb_tree.specs.declared.types.NameAt.{NameAt}
use Rattle.hb_tree.specs.Initials.{InitExpr, Each, Fields, Cell, FieldInits, NoFieldInits, MoreFieldInits}
use Rattle.hb_grammar.specs.Tokens.{IsVar, IsWord, IsOpenSquare, IsCloseSquare}
use Rattle.hb_grammar.specs.Types.{name_at}
use Rattle.hb_grammar.specs.Declarations as grammar
use Rattle.hb_grammar.specs.Declarations.{ReadsInit, ReadsFieldInits}
use Rattle.hb_engine.proofs.Model.{nothing, then}
use Rattle.hb_engine.proofs.EngineLaw.{append_none}
use Rattle.hb_read_declarations.specs.declared.node.DeclNode.TheVariants as node
use Rattle.hb_read_declarations.specs.Nodes.{named, init_nodes, field_init_nodes, fields_count}
use Rattle.hb_read_declarations.specs.Readers.{Out}
use Rattle.hb_read_program.specs.Rules.{head, word_head, close_head, closing, name_in}
use Rattle.hb_read_program.specs.declared.symbol.Kind.TheVariants as kind
use Rattle.hb_read_program.specs.declared.symbol.Put.TheVariants as put
use Rattle.hb_read_program.specs.declared.symbol.Symbol.TheVariants as symbol
use Rattle.hb_read_program.specs.declared.symbol.Form.TheVariants as form
use Rattle.hb_read_program.specs.declared.symbol.Leaf.TheVariants as leaf
use Rattle.hb_read_program.specs.declared.symbol.Production.TheVariants as production
use Rattle.hb_read_program.specs.Frames.{waits}
use Rattle.hb_read_program.proofs.Counting.{none_more, counts}
use Rattle.hb_read_program.proofs.Means.{thing, one_fits, closes, field_means, FieldsBehind, no_fields, next_field, fields_from, Means}
use Rattle.hb_read_program.proofs.MeansLaws.{thing_as, HeadLaw, no_other, and_also, no_leaf_law, BehindLeaf, leaf_law, never_law, nothing_law, SymbolLaw}
use Rattle.hb_read_program.proofs.MeansTokens.{is_var, is_word, is_mark}

-- fields with a mark between, up to `]`

data FieldsTo : List Token → FieldInits → List Token → Type 0 where
  fields_to : {ts us : List Token} {fs : FieldInits} (t : Token) → ReadsFieldInits ts fs (t ∷ us) → IsCloseSquare t → FieldsTo ts fs us

put_field : {t s : Token} (r : Token) {ts us vs : List Token} {name : Name} {i : InitExpr} {fs : FieldInits} → IsVar name t → IsWord word.LeftArrow s → ReadsInit ts i (r ∷ us) → IsWord word.Bar r → FieldsTo us fs vs → FieldsTo (t ∷ s ∷ ts) (MoreFieldInits (name_at t name) i fs) vs
put_field r d e h b (fields_to c g f) = fields_to c (grammar.more_inits d e h b g) f

first_field : {t s : Token} {ts us vs : List Token} {name : Name} {i : InitExpr} {fs : FieldInits} → IsVar name t → IsWord word.LeftArrow s → ReadsInit ts i us → FieldsBehind us fs vs → FieldsTo (t ∷ s ∷ ts) (MoreFieldInits (name_at t name) i fs) vs
first_field d e h (no_fields {t = c} f) = fields_to c (grammar.last_init d e h) f
first_field d e h (next_field {r} b v w i k) = put_field r d e h b (first_field v w i k)

-- varid "<-" init

field_head : HeadLaw symbol.FieldInit (head kind.Var put.Name production.FieldInit)
field_head p n t ts us ms e (then (one_fits {t = s} f) (then (thing h) (then closes nothing))) =
    field_means (is_var t e) (is_word word.LeftArrow s f) h

pub field_law : SymbolLaw symbol.FieldInit
field_law = record { by_head = and_also field_head no_other; by_leaf = no_leaf_law; by_nothing = never_law }

-- more fields

fields_close : HeadLaw symbol.MoreInits (close_head 93 form.InitFields)
fields_close p n t ts us ms e nothing =
    thing_as NoFieldInits (no_fields (is_mark 93 t e)) (ap (λ k. node.InitFields p k ∷ []) (sym (none_more n)))

next_nodes : (p : Place) (n : ℕ) (name : NameAt) (i : InitExpr) (fs : FieldInits) → fields_from p n (MoreFieldInits name i fs) ≡ (named name ++ (init_nodes i ++ node.InitField ∷ [])) ++ (fields_from p (n + 1) fs ++ [])
next_nodes p n name i fs =
    let x : Out = named name ++ (init_nodes i ++ node.InitField ∷ []) in
    append_assoc x (field_init_nodes fs) (node.InitFields p (n + (1 + fields_count fs)) ∷ [])
    ∙ (ap (λ k. x ++ (field_init_nodes fs ++ node.InitFields p k ∷ [])) (sym (counts n (fields_count fs))) ∙ ap (λ m. x ++ m) (sym (append_none (fields_from p (n + 1) fs))))

fields_bar : HeadLaw symbol.MoreInits (word_head word.Bar production.MoreInits)
fields_bar p n t ts us ms e (then (field_means {t = s} {name} {i} d f h) (then (thing {a = fs} k) nothing)) =
    thing_as (MoreFieldInits (name_at s name) i fs) (next_field (is_word word.Bar t e) d f h k) (next_nodes p n (name_at s name) i fs)

pub more_inits_law : SymbolLaw symbol.MoreInits
more_inits_law =
    record { by_head = and_also fields_close (and_also fields_bar no_other); by_leaf = no_leaf_law; by_nothing = never_law }

-- init

init_each : HeadLaw symbol.Init (word_head word.Each production.Each)
init_each p n t ts us ms e (then (one_fits {t = s} f) (then (one_fits {t = r} g) (then (thing {a = i} h) (then closes nothing)))) =
    thing_as (Each t.place (name_at s (name_in s.kind)) i) (grammar.each (is_word word.Each t e) (is_var s f) (is_word word.RightArrow r g) h) refl

first_nodes : (p : Place) (name : NameAt) (i : InitExpr) (fs : FieldInits) → init_nodes (Fields p (MoreFieldInits name i fs)) ≡ (named name ++ (init_nodes i ++ node.InitField ∷ [])) ++ (fields_from p 1 fs ++ [])
first_nodes p name i fs =
    let x : Out = named name ++ (init_nodes i ++ node.InitField ∷ []) in
    append_assoc x (field_init_nodes fs) (node.InitFields p (1 + fields_count fs) ∷ []) ∙ ap (λ m. x ++ m) (sym (append_none (fields_from p 1 fs)))

by_fields : {t s : Token} {ts us : List Token} {fs : FieldInits} → IsWord word.Fields t → IsOpenSquare s → FieldsTo ts fs us → ReadsInit (t ∷ s ∷ ts) (Fields t.place fs) us
by_fields d e (fields_to c h f) = grammar.by_fields d e h f

init_fields : HeadLaw symbol.Init (word_head word.Fields production.Fields)
init_fields p n t ts us ms e (then (one_fits {t = s} f) (then (field_means {t = r} {name} {i} d g h) (then (thing {a = fs} k) nothing))) =
    thing_as (Fields t.place (MoreFieldInits (name_at r name) i fs)) (by_fields (is_word word.Fields t e) (is_mark 91 s f) (first_field d g h k)) (first_nodes t.place (name_at r name) i fs)

init_cell : BehindLeaf symbol.Init leaf.Expr (closing form.InitCell ∷ [])
init_cell p n t ts us vs v ms (thing {a = e} h) (then closes nothing) = thing_as (Cell t.place e) (grammar.cell h) refl

pub init_law : SymbolLaw symbol.Init
init_law =
    record { by_head = and_also init_each (and_also init_fields no_other); by_leaf = leaf_law init_cell; by_nothing = never_law }

-- ["<-" init]

start_init : HeadLaw symbol.Start (word_head word.LeftArrow production.Start)
start_init p n t ts us ms e (then (thing {a = i} h) (then closes nothing)) =
    thing_as (Some i) (grammar.start (is_word word.LeftArrow t e) h) refl

start_nothing : (p : Place) (n : ℕ) (ts : List Token) → Means (waits symbol.Start p n) ts (node.NoInit ∷ []) ts
start_nothing p n ts = thing_as None grammar.no_start refl

pub start_law : SymbolLaw symbol.Start
start_law = record { by_head = and_also start_init no_other; by_leaf = no_leaf_law; by_nothing = nothing_law start_nothing }
