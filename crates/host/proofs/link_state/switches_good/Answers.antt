-- All of the slice's elements pass the test.
use Rattle.std.proofs.Common.{rules, tests, ◌∙◌, ap, ℕ, take}
use Rattle.std.proofs.lemmas.Iterator.{YieldsList-from_slice}
use Rattle.std.proofs.lemmas.Iterator.Search.{all_from_yields_List}
use Rattle.host.specs.Settings.{switch_good}
use Rattle.table.specs.Forms.{every}
use Rattle.host.proofs.Slices.{all_every}
use Rattle.host.proofs.link_state.switches_good.Goals as goal

pub returns : goal.returns
returns c =
    let l = take c.count.result c.args.s.now.links in
    all_from_yields_List switch_good _ _ c.all.result c.all.ensures.ran (YieldsList-from_slice l cc) (λ x b q k. search (rules, tests))
    ∙ all_every switch_good l
    ∙ ap (λ (n : ℕ). every switch_good (take n c.args.s.now.links)) c.count.ensures
