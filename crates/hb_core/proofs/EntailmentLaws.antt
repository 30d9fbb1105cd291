-- What holds is entailed, whatever is given.
use Rattle.std.proofs.Common.{List}
use Rattle.hb_types.specs.declared.scheme.Pred.{Pred}
use Rattle.hb_types.specs.Uses.{InstanceUse, Uses}
use Rattle.hb_core.specs.View.{View}
use Rattle.hb_core.specs.Entailment.{Chosen, ByItself, ByInstance, AllChosen, NoneChosen, MoreChosen, Entails, Instanced, Fact, AllEntailed, NoneEntailed, MoreEntailed}

module _ (P : View) (givens : List Pred) where
  mutual
    pub chosen_entailed : (p : Pred) (u : InstanceUse) → Chosen P p u → Entails P givens p
    chosen_entailed _ _ (ByItself p is) = Fact p is
    chosen_entailed _ _ (ByInstance n i ts us at long context) = Instanced n i ts at long (all_entailed _ _ context)

    pub all_entailed : (ps : List Pred) (us : Uses) → AllChosen P ps us → AllEntailed P givens ps
    all_entailed _ _ NoneChosen = NoneEntailed
    all_entailed _ _ (MoreChosen p ps u us is more) = MoreEntailed p ps (chosen_entailed p u is) (all_entailed ps us more)
