-- Patterns are stretches.
use Rattle.std.proofs.Common.{List, refl}
use Rattle.hb_base.specs.declared.name.Name.{Name}
use Rattle.hb_base.specs.declared.place.Place.{Place}
use Rattle.hb_tokens.specs.declared.token.Token.{Token}
use Rattle.hb_tree.specs.Patterns.{Pat, Pats, FieldPats}
use Rattle.hb_grammar.specs.Tokens.{first_place}
use Rattle.hb_grammar.specs.Patterns.{ReadsPat, con_applied, apat_alone, ReadsApats, no_apat, apat_more, ReadsApat, var, any, number, bits, con, unit, inside, pair, no_fields, fields, ReadsFieldPats, field_last, field_more, ReadsFieldPat, field_alone, field_given}
use Rattle.hb_grammar_laws.specs.Stretch.{Stretch}
use Rattle.hb_grammar_laws.proofs.Stretching.{nothing, token, next, last, both, reads_as, StandsAt, stands, opens}

mutual
  pub pat_stretch : {ts us : List Token} {p : Pat} → ReadsPat ts p us → Stretch (λ xs ys. ReadsPat xs p ys) ts us
  pat_stretch (con_applied m ps) = next (reads_as (λ xs ys x. con_applied m x) (apats_stretch ps))
  pat_stretch (apat_alone p) = reads_as (λ xs ys x. apat_alone x.1) (apat_stands p)

  pub apats_stretch : {ts us : List Token} {ps : Pats} → ReadsApats ts ps us → Stretch (λ xs ys. ReadsApats xs ps ys) ts us
  apats_stretch no_apat = nothing (λ us. no_apat)
  apats_stretch (apat_more p more) = both (λ xs ys zs x y. apat_more x.1 y) (apat_stands p) (apats_stretch more)

  pub apat_stands : {ts us : List Token} {p : Pat} → ReadsApat ts p us → Stretch (StandsAt (first_place ts) (λ xs ys. ReadsApat xs p ys)) ts us
  apat_stands (var m) = token (λ us. (refl, var m))
  apat_stands (any m) = token (λ us. (refl, any m))
  apat_stands (number m) = token (λ us. (refl, number m))
  apat_stands (bits m) = token (λ us. (refl, bits m))
  apat_stands (con m) = token (λ us. (refl, con m))
  apat_stands (unit o c) = opens (token (λ us. unit o c))
  apat_stands (inside o p c) = opens (reads_as (λ xs ys x. inside o x c) (last (pat_stretch p)))
  apat_stands (pair o p m q c) = opens (both (λ xs ys zs x y. pair o x m y c) (last (pat_stretch p)) (last (pat_stretch q)))
  apat_stands (no_fields m o c) = opens (next (token (λ us. no_fields m o c)))
  apat_stands (fields m o fs c) = opens (next (reads_as (λ xs ys x. fields m o x c) (last (field_pats_stretch fs))))

  pub field_pats_stretch : {ts us : List Token} {fs : FieldPats} → ReadsFieldPats ts fs us → Stretch (λ xs ys. ReadsFieldPats xs fs ys) ts us
  field_pats_stretch (field_last f) = reads_as (λ xs ys x. field_last x) (field_pat_stretch f)
  field_pats_stretch (field_more f m more) = both (λ xs ys zs x y. field_more x m y) (last (field_pat_stretch f)) (field_pats_stretch more)

  pub field_pat_stretch : {ts us : List Token} {place : Place} {name : Name} {p : Pat} → ReadsFieldPat ts place name p us → Stretch (λ xs ys. ReadsFieldPat xs place name p ys) ts us
  field_pat_stretch (field_alone m) = token (λ us. field_alone m)
  field_pat_stretch (field_given m e p) = next (next (reads_as (λ xs ys x. field_given m e x) (pat_stretch p)))

pub apat_stretch : {ts us : List Token} {p : Pat} → ReadsApat ts p us → Stretch (λ xs ys. ReadsApat xs p ys) ts us
apat_stretch r = stands (apat_stands r)
