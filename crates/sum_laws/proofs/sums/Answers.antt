-- The sums of the blackboard hold, by computing.
use mathlib.Core.Path.{refl}
use Rattle.network_laws.proofs.Opened.{opened}
use Rattle.sum_laws.specs.Exchange.{a_sends, b_gets, b_answers, a_gets, learnt}
use Rattle.sum_laws.specs.Sums.{Sums}
use Rattle.sum_laws.proofs.sums.Goals as goal

sums-hold : Sums
unfolding opened a_sends b_gets b_answers a_gets learnt
sums-hold =
    record {
      checksum = refl;
      checksum_bare = refl;
      leap_day = refl;
      no_leap_day = refl;
      ends_join = refl;
      shorter_by_100 = refl;
      shorter_by_99 = refl;
      comes_up = refl;
      stays_down = refl;
      negative = refl;
      negative_half = refl;
      exchange_tsp = refl;
      exchange_delay = refl;
      exchange_answer = refl;
      exchange_raised = refl;
      exchange_offset = refl;
      midnight_stays = refl;
      midnight_passes = refl;
    }

pub returns : goal.returns
returns c = sums-hold
