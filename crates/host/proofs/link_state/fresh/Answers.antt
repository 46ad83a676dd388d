-- Each link is the fresh link of its setting.
use Rattle.std.proofs.Common.{rules, tests, ap, arith, List}
use Rattle.host.specs.declared.Link.{Link}
use Rattle.host.specs.State.{unset, fresh_link, fresh_links}
use Rattle.host.proofs.Slices.{mapped}
use Rattle.host.proofs.link_state.fresh.Goals as goal

pub returns : goal.returns
unfolding fresh_links
returns c =
    ap (λ (l : List Link). record { all = l }) (mapped fresh_link c.args.s.links _ unset c.map.ensures.items (omega arith) (λ x y p q k. search (rules, tests)))
