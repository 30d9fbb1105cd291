use Rattle.std.proofs.Common.{Some, None, ◌&&◌, rules, tests}
use Rattle.std.specs.Str.{bytes_eq}
use Rattle.std.proofs.lemmas.Iterator.Search.{position_from_yields_List}
use Rattle.std.proofs.lemmas.Iterator.{YieldsList-from_slice}
use Rattle.hb_second.specs.Names.{same_way}
use Rattle.hb_second.proofs.spelling.find_port.Goals as goal

pub returns-in-Some : goal.returns-in-Some
returns-in-Some c =
    position_from_yields_List (λ port. same_way port.dir c.args.way && bytes_eq c.args.name.now port.name) _ _ (Some c.in-Some.number) c.in-Some.ensures.ran (YieldsList-from_slice _ c.iter.ensures.rest) (λ x b q k. search (rules, tests))

pub returns-in-None : goal.returns-in-None
returns-in-None c =
    position_from_yields_List (λ port. same_way port.dir c.args.way && bytes_eq c.args.name.now port.name) _ _ None c.in-None.ensures.ran (YieldsList-from_slice _ c.iter.ensures.rest) (λ x b q k. search (rules, tests))
