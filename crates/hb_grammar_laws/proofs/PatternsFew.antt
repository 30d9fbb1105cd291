-- A pattern is at least two things fewer than four for each of its tokens.
use Rattle.std.proofs.Common.{List, ◌+◌, arith}
use Rattle.hb_base.specs.declared.name.Name.{Name}
use Rattle.hb_base.specs.declared.place.Place.{Place}
use Rattle.hb_tokens.specs.declared.token.Token.{Token}
use Rattle.hb_tree.specs.Patterns.{Pat, Pats, FieldPats}
use Rattle.hb_tree.specs.Things.{pat_things, pats_things, field_pats_things}
use Rattle.hb_grammar.specs.Patterns.{ReadsPat, con_applied, apat_alone, ReadsApats, no_apat, apat_more, ReadsApat, var, any, number, bits, con, unit, inside, pair, no_fields, fields, ReadsFieldPats, field_last, field_more, ReadsFieldPat, field_alone, field_given}
use Rattle.hb_grammar_laws.specs.Counting.{AreFew}

mutual
  pub pat_few : {ts us : List Token} {p : Pat} → ReadsPat ts p us → AreFew (pat_things p + 2) ts us
  pat_few (con_applied m ps) = omega (arith, apats_few ps)
  pat_few (apat_alone p) = apat_few p

  pub apats_few : {ts us : List Token} {ps : Pats} → ReadsApats ts ps us → AreFew (pats_things ps) ts us
  apats_few no_apat = omega arith
  apats_few (apat_more p more) = omega (arith, apat_few p, apats_few more)

  pub apat_few : {ts us : List Token} {p : Pat} → ReadsApat ts p us → AreFew (pat_things p + 2) ts us
  apat_few (var m) = omega arith
  apat_few (any m) = omega arith
  apat_few (number m) = omega arith
  apat_few (bits m) = omega arith
  apat_few (con m) = omega arith
  apat_few (unit o c) = omega arith
  apat_few (inside o p c) = omega (arith, pat_few p)
  apat_few (pair o p m q c) = omega (arith, pat_few p, pat_few q)
  apat_few (no_fields m o c) = omega arith
  apat_few (fields m o fs c) = omega (arith, field_pats_few fs)

  pub field_pats_few : {ts us : List Token} {fs : FieldPats} → ReadsFieldPats ts fs us → AreFew (field_pats_things fs) ts us
  field_pats_few (field_last f) = omega (arith, field_pat_few f)
  field_pats_few (field_more f m more) = omega (arith, field_pat_few f, field_pats_few more)

  field_pat_few : {ts us : List Token} {place : Place} {name : Name} {p : Pat} → ReadsFieldPat ts place name p us → AreFew (pat_things p + 1) ts us
  field_pat_few (field_alone m) = omega arith
  field_pat_few (field_given m e p) = omega (arith, pat_few p)
