-- The readers of types, predicates and contexts, and which tokens they take.
use Rattle.std.proofs.Common.{◌≡◌, ◌≢◌, ℕ, ◌+◌, Bool, true, false, cond, List, [], ◌∷◌, ◌++◌, Option, Some, None, is_some, refl, ap, ◌∙◌}
use Rattle.std.specs.Prelude.{◌==◌}
use Rattle.hb_base.specs.declared.name.Name.{Name}
use Rattle.hb_base.specs.declared.place.Place.{Place}
use Rattle.hb_base.specs.Fixed.{wildcard}
use Rattle.hb_tokens.specs.declared.token.Token.{Token}
use Rattle.hb_tokens.specs.declared.token.TokenKind.{TokenKind}
use Rattle.hb_tree.specs.Types.{TypeExpr}
use Rattle.hb_tree.specs.declared.types.PredExpr.{PredExpr}
use Rattle.hb_grammar.specs.Types.{ReadsType, ReadsAtype, ReadsPred, ReadsContext}
use Rattle.hb_grammar.specs.Declarations.{ReadsQualified}
use Rattle.hb_grammar.specs.Reading.{Reached, at_start, after}
use Rattle.hb_read_types.specs.declared.node.TypeNode.{TypeNode}
use Rattle.hb_read_types.specs.declared.sort.Sort.{Sort}
use Rattle.hb_read_types.specs.declared.sort.Sort.TheVariants as sort
use Rattle.hb_read_types.specs.declared.type_reader.TypeReader.{TypeReader}
use Rattle.hb_read_types.specs.declared.type_reader.Spot.TheVariants.{First as FirstSpot}
use Rattle.hb_read_types.specs.declared.pred_reader.PredStage.{PredStage}
use Rattle.hb_read_types.specs.declared.pred_reader.PredStage.TheVariants.{Begin, ClassOrType, PowerOrType, Class, First, Middle, Last}
use Rattle.hb_read_types.specs.declared.pred_reader.PredReader.{PredReader}
use Rattle.hb_read_types.specs.declared.context_reader.ContextReader.{ContextReader}
use Rattle.hb_read_types.specs.declared.qualified_reader.QualifiedReader.{QualifiedReader}
use Rattle.hb_read_types.specs.Sorts.{sort_of}
use Rattle.hb_read_types.specs.Nodes.{type_nodes, pred_nodes, context_nodes}
use Rattle.hb_read_types.specs.Reads.{TypeNodesRead, AtypeNodesRead, PredNodesRead, ContextNodesRead, QualifiedNodesRead}
use Rattle.hb_read_types.specs.TypeMoves.{begin, type_move, type_done, type_reader, atype_reader}
use Rattle.hb_read_types.specs.PredMoves.{is_alone_whole, nodes_of, alone_from, typed as in_pred, after_type, in_type, pred_move, pred_done, pred_done_at, move_pred_at, pred_reader}
use Rattle.hb_read_types.specs.ContextMoves.{context_move, context_done, several_done, context_reader}
use Rattle.hb_read_types.specs.QualifiedMoves.{is_double_arrow, qualified_move, qualified_done, context_moved, types_moved, together, turned, qualified_reader}
use Rattle.hb_read_types.proofs.SortLaws.{AtomIs, con_atom, var_atom, number_atom, Is, sort_is}
use Rattle.hb_read_types.proofs.Alone.{Alone, alone_start, alone_move, alone_done, alone_is_whole}
use Rattle.hb_read_types.proofs.TypeExact.{type_exact, atype_exact}
use Rattle.hb_read_types.proofs.PredExact.{pred_exact, PredAlone, pred_alone}
use Rattle.hb_read_types.proofs.ContextExact.{context_exact}
use Rattle.hb_read_types.proofs.QualifiedExact.{type_other, pred_other, context_other, kind_is, qualified_exact}
use Rattle.hb_read_declarations.specs.Codes.{name_code, kind_code, code, member}
use Rattle.hb_read_declarations.specs.Nodes.{typed, type_of, pred_of}
use Rattle.hb_read_declarations.specs.Combined.{worth_of}
use Rattle.hb_read_declarations.specs.Readers.{Out, a_type, an_atype, a_pred, a_qualified}
use Rattle.hb_read_declarations.proofs.Known.{Known, none, some_none, equal_is, member_left, known_by}
use Rattle.hb_read_declarations.proofs.WorthLaws.{name_is}
use Rattle.hb_read_declarations.proofs.MappedLaws.{worth_known}
use Rattle.hb_read_declarations.specs.Exactly.{Made}

-- the tokens of types: names, numbers, operators, `(`, `)`, `,`, `=` and `->`
abbrev pub type_codes : List ℕ
type_codes = 0 ∷ 2 ∷ 3 ∷ 4 ∷ 100 ∷ 101 ∷ 104 ∷ 44 ∷ 48 ∷ []

-- those that a type begins with
abbrev pub begin_codes : List ℕ
begin_codes = 0 ∷ 2 ∷ 4 ∷ 100 ∷ []

abbrev pub in_types : ℕ → Bool
in_types c = member c type_codes

-- with `=>`
abbrev pub qualified_codes : List ℕ
qualified_codes = 0 ∷ 2 ∷ 3 ∷ 4 ∷ 100 ∷ 101 ∷ 104 ∷ 44 ∷ 48 ∷ 49 ∷ []

abbrev pub in_qualified : ℕ → Bool
in_qualified c = member c qualified_codes

zero_if : (b : Bool) (c : ℕ) → b ≡ false → c ≡ cond b 1 0 → c ≡ 0
zero_if true c e d = cc
zero_if false c e d = d

name_not : (name : Name) (b : Bool) → name ≢ wildcard → (name.0 == wildcard.0) ≡ b → b ≡ false
name_not name false n e = refl
name_not name true n e = absurd (n (name_is name wildcard (equal_is name.0 wildcard.0 (name.0 == wildcard.0) refl e)))

atom_code : {place : Place} {n : TypeNode} {k : TokenKind} (xs : List ℕ) → member 0 xs ≡ true → member 2 xs ≡ true → member 4 xs ≡ true → AtomIs place n k → member (kind_code k) xs ≡ true
atom_code xs v c n con_atom = c
atom_code xs v c n (var_atom {name} d) = ap (λ c. member c xs) (zero_if (name.0 == wildcard.0) (name_code name) (name_not name (name.0 == wildcard.0) d refl) refl) ∙ v
atom_code xs v c n number_atom = n

-- a token of another sort is not taken
is_type : (place : Place) (s : Sort) (k : TokenKind) → Is place s k → s ≢ sort.Other → member (kind_code k) type_codes ≡ true
is_type place (sort.Atom n) k e d = atom_code type_codes refl refl refl e
is_type place sort.Open k e d = ap (λ k. member (kind_code k) type_codes) e
is_type place sort.Close k e d = ap (λ k. member (kind_code k) type_codes) e
is_type place sort.Comma k e d = ap (λ k. member (kind_code k) type_codes) e
is_type place sort.Arrow k e d = ap (λ k. member (kind_code k) type_codes) e
is_type place sort.Equals k e d = ap (λ k. member (kind_code k) type_codes) e
is_type place sort.Plus k e d = ap (λ k. member (kind_code k) type_codes) e
is_type place sort.Times k e d = ap (λ k. member (kind_code k) type_codes) e
is_type place sort.Power k e d = ap (λ k. member (kind_code k) type_codes) e
is_type place sort.AtMost k e d = ap (λ k. member (kind_code k) type_codes) e
is_type place sort.Other k e d = absurd (d refl)

taken : {A : Type 0} {o : Option A} {r : A} (t : Token) → (sort_of t ≡ sort.Other → o ≡ None) → o ≡ Some r → member (code t) type_codes ≡ true
taken t f e = is_type t.place (sort_of t) t.kind (sort_is t (sort_of t) refl) (λ d. some_none e (f d))

pub type_takes : (r s : TypeReader) (t : Token) → type_move r t ≡ Some s → member (code t) type_codes ≡ true
type_takes r s t e = taken t (type_other r t) e

pub pred_takes : (r s : PredReader) (t : Token) → pred_move r t ≡ Some s → member (code t) type_codes ≡ true
pred_takes r s t e = taken t (pred_other r t) e

pub context_takes : (r s : ContextReader) (t : Token) → context_move r t ≡ Some s → member (code t) type_codes ≡ true
context_takes r s t e = taken t (context_other r t) e

one_more : (c : ℕ) (b : Bool) → member c type_codes ≡ true → member c qualified_codes ≡ true
one_more c b e = member_left c type_codes (49 ∷ []) e

arrow_code : (t : Token) → is_double_arrow t ≡ true → member (code t) qualified_codes ≡ true
arrow_code t e = ap (λ k. member (kind_code k) qualified_codes) (kind_is t.kind e)

moved_none : (c : Option ContextReader) (t : Token) → sort_of t ≡ sort.Other → context_moved c t ≡ None
moved_none None t e = refl
moved_none (Some r) t e = context_other r t e

types_none : (b : Bool) (r : TypeReader) (t : Token) → sort_of t ≡ sort.Other → types_moved b r t ≡ None
types_none true r t e = type_other r t e
types_none false r t e = refl

choice : {A P : Type 0} (b : Bool) (o p : A) {x : A} → cond b o p ≡ x → (b ≡ true → P) → (p ≡ x → P) → P
choice true o p e f g = f refl
choice false o p e f g = g e

pub qualified_takes : (r s : QualifiedReader) (t : Token) → qualified_move r t ≡ Some s → member (code t) qualified_codes ≡ true
unfolding qualified_move
qualified_takes r s t e =
    choice (is_double_arrow t) (turned r.context) (together r.types (types_moved r.is_type r.types t) (context_moved r.context t)) e
    (λ d. arrow_code t d)
    (λ d. one_more (code t) true (taken t (λ h. ap (λ o. together r.types o (context_moved r.context t)) (types_none r.is_type r.types t h) ∙ ap (together r.types None) (moved_none r.context t h)) d))

-- what begins a type by itself
is_begun : (place : Place) (s : Sort) (k : TokenKind) (nodes : List TypeNode) → Is place s k → is_some (begin false FirstSpot [] nodes place s) ≡ true → member (kind_code k) begin_codes ≡ true
is_begun place (sort.Atom n) k nodes e d = atom_code begin_codes refl refl refl e
is_begun place sort.Open k nodes e d = ap (λ k. member (kind_code k) begin_codes) e
is_begun place _ k nodes e d = cc

begins_alone : (nodes : List TypeNode) (t : Token) → is_some (type_move (alone_from nodes) t) ≡ true → member (code t) begin_codes ≡ true
unfolding type_move
begins_alone nodes t e = is_begun t.place (sort_of t) t.kind nodes (sort_is t (sort_of t) refl) e

in_pred_some : (stage : PredStage) (o : Option TypeReader) {r : PredReader} → in_pred stage o ≡ Some r → is_some o ≡ true
in_pred_some stage None e = cc
in_pred_some stage (Some r) e = refl

done_if : {A : Type 0} (b : Bool) (o p : Option A) {r : A} → b ≡ true → cond b o p ≡ Some r → o ≡ Some r
done_if true o p d e = e
done_if false o p d e = cc

-- the type in a predicate stands by itself
pred_stands_alone : {s : PredReader} → Reached pred_reader s → PredAlone s
pred_stands_alone at_start = alone_start []
pred_stands_alone (after {s} {r} {t} h e) = pred_alone s r t (pred_stands_alone h) e

-- a whole predicate goes on with a type by itself
goes_on : (stage : PredStage) (types : TypeReader) (o : Option (List TypeNode)) {r : PredReader} {nodes : List TypeNode} (t : Token) → Alone types →
    type_done types ≡ o → pred_done_at stage o ≡ Some nodes → in_type stage types t ≡ Some r → member (code t) begin_codes ≡ true
goes_on (Class p n c) types None t l d e f = cc
goes_on (Class p n c) types (Some ns) {r} t l d e f =
    let whole = alone_is_whole types l (ap is_some d) in
    begins_alone (nodes_of types) t
    (in_pred_some (Class p n (c + 1)) (type_move (alone_from (nodes_of types)) t)
    (done_if (is_alone_whole types) (after_type (Class p n c) (nodes_of types) t (sort_of t)) (in_pred (Class p n c) (type_move types t)) whole f))
goes_on (Last fact) types None t l d e f = cc
goes_on (Last fact) types (Some ns) t l d e f =
    let whole = alone_is_whole types l (ap is_some d) in
    let after_it = after_type (Last fact) (nodes_of types) t (sort_of t) in
    absurd (some_none (done_if (is_alone_whole types) after_it (in_pred (Last fact) (type_move types t)) whole f) refl)
goes_on Begin types o t l d e f = cc
goes_on (ClassOrType p n) types o t l d e f = cc
goes_on (PowerOrType p) types o t l d e f = cc
goes_on First types o t l d e f = cc
goes_on (Middle fact) types o t l d e f = cc

pub pred_ends : (r s : PredReader) (t : Token) {nodes : List TypeNode} → PredAlone r → pred_done r ≡ Some nodes → pred_move r t ≡ Some s → member (code t) begin_codes ≡ true
unfolding pred_done pred_move
pred_ends r s t {nodes} l d e = by_stage r.stage r.types l d e
  where
    by_stage : (stage : PredStage) (types : TypeReader) → Alone types → pred_done_at stage (type_done types) ≡ Some nodes → move_pred_at stage types t ≡ Some s → member (code t) begin_codes ≡ true
    by_stage Begin types l d e = cc
    by_stage (ClassOrType p n) types l d e = cc
    by_stage (PowerOrType p) types l d e = cc
    by_stage (Class p n c) types l d e = goes_on (Class p n c) types (type_done types) t l refl d e
    by_stage First types l d e = cc
    by_stage (Middle fact) types l d e = cc
    by_stage (Last fact) types l d e = goes_on (Last fact) types (type_done types) t l refl d e

-- all that is known

null_of : {A : Type 0} (o : Option A) → o ≡ None → is_some o ≡ false
null_of o e = ap is_some e

type_starts : type_done type_reader.start ≡ None
unfolding type_done
type_starts = refl

atype_starts : type_done atype_reader.start ≡ None
unfolding type_done
atype_starts = refl

pred_starts : pred_done pred_reader.start ≡ None
unfolding pred_done
pred_starts = refl

context_starts : context_done context_reader.start ≡ None
unfolding context_done pred_done several_done
context_starts = refl

qualified_starts : qualified_done qualified_reader.start ≡ None
unfolding qualified_done type_done
qualified_starts = refl

pub type_known : Known type_reader TypeNodesRead false type_codes in_types in_types
type_known = record {
  exact = type_exact;
  begins = λ {r} {t} e. type_takes type_reader.start r t e;
  ends = λ {s} {r} {t} h d e. type_takes s r t e;
  takes = λ {s} {r} {t} e. type_takes s r t e;
  nothing = null_of (type_done type_reader.start) type_starts;
}

reached_alone : {s : TypeReader} → Reached atype_reader s → Alone s
reached_alone at_start = alone_start []
reached_alone (after {s} {r} {t} h e) = alone_move s r t (reached_alone h) e

pub atype_known : Known atype_reader AtypeNodesRead false type_codes none in_types
atype_known = record {
  exact = atype_exact;
  begins = λ {r} {t} e. type_takes atype_reader.start r t e;
  ends = λ {s} {r} {t} h d e. absurd (some_none d (alone_done s r t (reached_alone h) e));
  takes = λ {s} {r} {t} e. type_takes s r t e;
  nothing = null_of (type_done atype_reader.start) atype_starts;
}

pub pred_known : Known pred_reader PredNodesRead false type_codes (λ c. member c begin_codes) in_types
pred_known = record {
  exact = pred_exact;
  begins = λ {r} {t} e. pred_takes pred_reader.start r t e;
  ends = λ {s} {r} {t} h d e. pred_ends s r t (pred_stands_alone h) d e;
  takes = λ {s} {r} {t} e. pred_takes s r t e;
  nothing = null_of (pred_done pred_reader.start) pred_starts;
}

pub context_known : Known context_reader ContextNodesRead false type_codes in_types in_types
context_known = record {
  exact = context_exact;
  begins = λ {r} {t} e. context_takes context_reader.start r t e;
  ends = λ {s} {r} {t} h d e. context_takes s r t e;
  takes = λ {s} {r} {t} e. context_takes s r t e;
  nothing = null_of (context_done context_reader.start) context_starts;
}

pub qualified_known : Known qualified_reader QualifiedNodesRead false qualified_codes in_qualified in_qualified
qualified_known = record {
  exact = qualified_exact;
  begins = λ {r} {t} e. qualified_takes qualified_reader.start r t e;
  ends = λ {s} {r} {t} h d e. qualified_takes s r t e;
  takes = λ {s} {r} {t} e. qualified_takes s r t e;
  nothing = null_of (qualified_done qualified_reader.start) qualified_starts;
}

-- with the trees

pub type_made : {ts us : List Token} {v : List TypeNode} → TypeNodesRead ts v us → Made ReadsType type_nodes ts v us
type_made h = record { thing = h.tree; read = h.read; is = h.nodes_of }

pub made_type : {ts us : List Token} {v : List TypeNode} → Made ReadsType type_nodes ts v us → TypeNodesRead ts v us
made_type h = record { tree = h.thing; read = h.read; nodes_of = h.is }

pub atype_made : {ts us : List Token} {v : List TypeNode} → AtypeNodesRead ts v us → Made ReadsAtype type_nodes ts v us
atype_made h = record { thing = h.tree; read = h.read; is = h.nodes_of }

pub made_atype : {ts us : List Token} {v : List TypeNode} → Made ReadsAtype type_nodes ts v us → AtypeNodesRead ts v us
made_atype h = record { tree = h.thing; read = h.read; nodes_of = h.is }

pub pred_made : {ts us : List Token} {v : List TypeNode} → PredNodesRead ts v us → Made ReadsPred pred_nodes ts v us
pred_made h = record { thing = h.tree; read = h.read; is = h.nodes_of }

pub made_pred : {ts us : List Token} {v : List TypeNode} → Made ReadsPred pred_nodes ts v us → PredNodesRead ts v us
made_pred h = record { tree = h.thing; read = h.read; nodes_of = h.is }

pub context_made : {ts us : List Token} {v : List TypeNode} → ContextNodesRead ts v us → Made ReadsContext context_nodes ts v us
context_made h = record { thing = h.tree; read = h.read; is = h.nodes_of }

pub made_context : {ts us : List Token} {v : List TypeNode} → Made ReadsContext context_nodes ts v us → ContextNodesRead ts v us
made_context h = record { tree = h.thing; read = h.read; nodes_of = h.is }

-- a context and a type
pub record Qualified : Type 0 where
  pub context : List PredExpr
  pub body : TypeExpr

abbrev pub QualifiedRead : List Token → Qualified → List Token → Type 0
QualifiedRead ts q us = ReadsQualified ts q.context q.body us

abbrev pub qualified_nodes : Qualified → List TypeNode
qualified_nodes q = context_nodes q.context ++ type_nodes q.body

pub qualified_made : {ts us : List Token} {v : List TypeNode} → QualifiedNodesRead ts v us → Made QualifiedRead qualified_nodes ts v us
qualified_made h = record { thing = record { context = h.context; body = h.tree }; read = h.read; is = h.nodes_of }

pub made_qualified : {ts us : List Token} {v : List TypeNode} → Made QualifiedRead qualified_nodes ts v us → QualifiedNodesRead ts v us
made_qualified h = record { context = h.thing.context; tree = h.thing.body; read = h.read; nodes_of = h.is }

-- with the nodes of declarations

pub a_type_known : Known a_type (Made ReadsType type_of) false type_codes in_types in_types
a_type_known = worth_known type_nodes typed (known_by (λ ts v us h. type_made h) (λ ts v us h. made_type h) type_known)

pub an_atype_known : Known an_atype (Made ReadsAtype type_of) false type_codes none in_types
an_atype_known = worth_known type_nodes typed (known_by (λ ts v us h. atype_made h) (λ ts v us h. made_atype h) atype_known)

pub a_pred_known : Known a_pred (Made ReadsPred pred_of) false type_codes (λ c. member c begin_codes) in_types
a_pred_known = worth_known pred_nodes typed (known_by (λ ts v us h. pred_made h) (λ ts v us h. made_pred h) pred_known)

abbrev pub context_of : List PredExpr → Out
context_of ps = typed (context_nodes ps)

pub a_context_known : Known (worth_of typed context_reader) (Made ReadsContext context_of) false type_codes in_types in_types
a_context_known = worth_known context_nodes typed (known_by (λ ts v us h. context_made h) (λ ts v us h. made_context h) context_known)

abbrev pub qualified_of : Qualified → Out
qualified_of q = typed (qualified_nodes q)

pub a_qualified_known : Known a_qualified (Made QualifiedRead qualified_of) false qualified_codes in_qualified in_qualified
a_qualified_known =
    worth_known qualified_nodes typed (known_by (λ ts v us h. qualified_made h) (λ ts v us h. made_qualified h) qualified_known)
