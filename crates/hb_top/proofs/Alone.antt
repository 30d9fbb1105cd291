-- Bytes are one source at most, and they are refused for one reason at most.
use Rattle.std.proofs.Common.{◌≡◌, ℕ, List, [], codes, sym, ap, subst, refl, arith}
use Rattle.std.specs.List.{IsDistinct}
use Rattle.hb_base.specs.Names.{AreDistinct, with_texts, fixed_names}
use Rattle.hb_base.specs.declared.place.Place.{Place}
use Rattle.hb_base.specs.declared.refusal.Code.TheVariants.{E05}
use Rattle.hb_base.specs.declared.refusal.Refusal.{Refusal}
use Rattle.hb_tree.specs.declared.declaration.Program.{Program}
use Rattle.hb_lex.specs.Bytes.{first_place, place_after}
use Rattle.hb_front.proofs.AloneLaws.{texts_distinct, program_once, first_fault_alone, fault_excludes}
use Rattle.hb_second.specs.Items.{items_of, without_places}
use Rattle.hb_second.specs.declared.source.Source.{Source}
use Rattle.hb_second.specs.Wrong.{FirstWrong}
use Rattle.hb_second.proofs.Answering.{one_form}
use Rattle.hb_second.proofs.WrongOnce.{wrong_once}
use Rattle.hb_top.specs.Sources.{Accepts, Breaks, too_long, no_program, other_form, Refuses}
use Rattle.hb_top.proofs.SourceLaws.{same_form}

all_new : with_texts [] fixed_names ≡ fixed_names
unfolding with_texts
all_new = refl

none_distinct : AreDistinct []
unfolding IsDistinct
none_distinct = tt

fixed_distinct : AreDistinct fixed_names
fixed_distinct = subst AreDistinct all_new (texts_distinct fixed_names [] none_distinct)

-- bytes have at most one source
pub source_alone : (bytes : List ℕ) (s t : Source) → Accepts bytes s → Accepts bytes t → s ≡ t
source_alone bytes s t a b =
    one_form (without_places (items_of a.names a.program)) s t a.form (same_form (λ table p spelled. program_once fixed_distinct a.spelled spelled) t b)

abbrev form_refusal : Place → Refusal
form_refusal place = record { code = E05; place = place; detail = codes "form" }

breaks_once : {bytes : List ℕ} {r q : Refusal} → Breaks bytes r → Breaks bytes q → r ≡ q
breaks_once (too_long l) (too_long m) = refl
breaks_once (too_long l) (no_program short f) = absurd (omega (arith, l, short))
breaks_once (too_long l) (other_form place names program short spelled first) = absurd (omega (arith, l, short))
breaks_once (no_program short f) (too_long l) = absurd (omega (arith, l, short))
breaks_once (no_program short f) (no_program brief g) = first_fault_alone fixed_distinct f g
breaks_once (no_program short f) (other_form place names program brief spelled first) = absurd (fault_excludes fixed_distinct f spelled)
breaks_once (other_form place names program short spelled first) (too_long l) = absurd (omega (arith, l, short))
breaks_once (other_form place names program short spelled first) (no_program brief f) = absurd (fault_excludes fixed_distinct f spelled)
breaks_once {bytes} (other_form place names program short spelled first) (other_form other table q brief spells wrong) =
    let same = program_once fixed_distinct spelled spells in
    let end = place_after first_place bytes in
    ap form_refusal (wrong_once first (subst (λ (p : Program). FirstWrong names p end other) (sym same.0) (subst (λ ns. FirstWrong ns q end other) (sym same.1) wrong)))

-- bytes have at most one refusal
pub refusal_alone : (bytes : List ℕ) (r q : Refusal) → Refuses bytes r → Refuses bytes q → r ≡ q
refusal_alone bytes r q a b = breaks_once a.first b.first
