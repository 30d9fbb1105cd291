-- Patterns. A pattern stands at its first token, and one in brackets at what is inside.
use Rattle.std.specs.Prelude.{ℕ, List, ◌∷◌}
use Rattle.hb_base.specs.declared.name.Name.{Name}
use Rattle.hb_base.specs.declared.place.Place.{Place}
use Rattle.hb_tokens.specs.declared.token.Token.{Token}
use Rattle.hb_tokens.specs.declared.word.Word.TheVariants.{Equals, Bar}
use Rattle.hb_tree.specs.Patterns.{Pat, APat, PatKind, Any, Var, Number, Bits, Con, Fields, Pair, Unit, Pats, NoPats, MorePats, FieldPats, NoFieldPats, MoreFieldPats}
use Rattle.hb_grammar.specs.Tokens.{IsVar, IsWildcard, IsCon, IsWord, IsNumber, IsBits, IsOpen, IsClose, IsComma, IsOpenSquare, IsCloseSquare}

-- a pattern as it is read, with no number yet
abbrev pub pattern : Place → PatKind → Pat
pattern place kind = APat 0 place kind

mutual
  -- pat = conid apat+ | apat
  pub data ReadsPat : List Token → Pat → List Token → Type 0 where
    con_applied : {t : Token} {ts us : List Token} {name : Name} {p : Pat} {ps : Pats} → IsCon name t → ReadsApats ts (MorePats p ps) us → ReadsPat (t ∷ ts) (pattern t.place (Con name (MorePats p ps))) us
    apat_alone : {ts us : List Token} {p : Pat} → ReadsApat ts p us → ReadsPat ts p us

  -- apat*
  pub data ReadsApats : List Token → Pats → List Token → Type 0 where
    no_apat : {ts : List Token} → ReadsApats ts NoPats ts
    apat_more : {ts us vs : List Token} {p : Pat} {ps : Pats} → ReadsApat ts p us → ReadsApats us ps vs → ReadsApats ts (MorePats p ps) vs

  -- apat = varid | "_" | number | bits | conid | "(" ")" | "(" pat ")" | "(" pat "," pat ")"
  --      | conid "[" [sep(varid ["=" pat], "|")] "]"
  pub data ReadsApat : List Token → Pat → List Token → Type 0 where
    var : {t : Token} {us : List Token} {name : Name} → IsVar name t → ReadsApat (t ∷ us) (pattern t.place (Var name)) us
    any : {t : Token} {us : List Token} → IsWildcard t → ReadsApat (t ∷ us) (pattern t.place Any) us
    number : {t : Token} {us : List Token} {k : ℕ} → IsNumber k t → ReadsApat (t ∷ us) (pattern t.place (Number k)) us
    bits : {t : Token} {us : List Token} {width k : ℕ} → IsBits width k t → ReadsApat (t ∷ us) (pattern t.place (Bits width k)) us
    con : {t : Token} {us : List Token} {name : Name} → IsCon name t → ReadsApat (t ∷ us) (pattern t.place (Con name NoPats)) us
    unit : {t s : Token} {us : List Token} → IsOpen t → IsClose s → ReadsApat (t ∷ s ∷ us) (pattern t.place Unit) us
    inside : {t s : Token} {ts us : List Token} {p : Pat} → IsOpen t → ReadsPat ts p (s ∷ us) → IsClose s → ReadsApat (t ∷ ts) p us
    pair : {t s r : Token} {ts us vs : List Token} {p q : Pat} → IsOpen t → ReadsPat ts p (s ∷ us) → IsComma s → ReadsPat us q (r ∷ vs) → IsClose r → ReadsApat (t ∷ ts) (pattern t.place (Pair p q)) vs
    no_fields : {t s r : Token} {us : List Token} {name : Name} → IsCon name t → IsOpenSquare s → IsCloseSquare r → ReadsApat (t ∷ s ∷ r ∷ us) (pattern t.place (Fields name NoFieldPats)) us
    fields : {t s r : Token} {ts us : List Token} {name : Name} {fs : FieldPats} → IsCon name t → IsOpenSquare s → ReadsFieldPats ts fs (r ∷ us) → IsCloseSquare r → ReadsApat (t ∷ s ∷ ts) (pattern t.place (Fields name fs)) us

  -- sep(varid ["=" pat], "|")
  pub data ReadsFieldPats : List Token → FieldPats → List Token → Type 0 where
    field_last : {ts us : List Token} {place : Place} {name : Name} {p : Pat} → ReadsFieldPat ts place name p us → ReadsFieldPats ts (MoreFieldPats place name p NoFieldPats) us
    field_more : {ts us vs : List Token} {t : Token} {place : Place} {name : Name} {p : Pat} {fs : FieldPats} → ReadsFieldPat ts place name p (t ∷ us) → IsWord Bar t → ReadsFieldPats us fs vs → ReadsFieldPats ts (MoreFieldPats place name p fs) vs

  -- varid ["=" pat], where the field alone stands for `f = f`
  pub data ReadsFieldPat : List Token → Place → Name → Pat → List Token → Type 0 where
    field_alone : {t : Token} {us : List Token} {name : Name} → IsVar name t → ReadsFieldPat (t ∷ us) t.place name (pattern t.place (Var name)) us
    field_given : {t s : Token} {ts us : List Token} {name : Name} {p : Pat} → IsVar name t → IsWord Equals s → ReadsPat ts p us → ReadsFieldPat (t ∷ s ∷ ts) t.place name p us
