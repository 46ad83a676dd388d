-- All of the slice's elements pass the test.
use Rattle.std.proofs.Common.{rules, tests, ◌∙◌, take}
use Rattle.std.proofs.lemmas.Iterator.{YieldsList-from_slice}
use Rattle.std.proofs.lemmas.Iterator.Search.{all_from_yields_List}
use Rattle.host.specs.State.{link_in_range}
use Rattle.host.proofs.Slices.{all_every}
use Rattle.host.proofs.link_state.in_range.Goals as goal

pub returns : goal.returns
returns c =
    let l = take c.args.count c.args.l.now.all in
    all_from_yields_List link_in_range _ _ c.all.result c.all.ensures.ran (YieldsList-from_slice l cc) (λ x b q k. search (rules, tests)) ∙ all_every link_in_range l
