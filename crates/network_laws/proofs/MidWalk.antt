-- The walk of specs/MidWalk.antt, by computing.
use mathlib.Core.Path.{refl, ap}
use mathlib.Core.List.{List}
use native.Mathlib.Omega.{arith}
use lib.IntN.{nat_abs}
use lib.ListN.{get_or}
use Rattle.net_table.specs.Tutor.{initialize_table, add, change}
use Rattle.table.specs.declared.Entry.{Entry}
use Rattle.table.specs.Entry.{fresh_entry}
use Rattle.host.specs.Walk.{place_of}
use Rattle.walk.specs.Opening as walk
use Rattle.walk.specs.Boxes.{box1, box2, box3, box4, box5, box_a, box_b, box_c, step}
use Rattle.network_laws.specs.WalkEnds.{walk_on, boxes_on}
use Rattle.network_laws.specs.MidWalk.{before, after, unlike, opened, walked, MidWalk}
use Rattle.network_laws.proofs.Opened as rules

pub mid_walk : MidWalk
unfolding rules.opened initialize_table add change place_of walk.opening walk.copied box1 box2 box3 box4 box5 box_a box_b box_c step walk_on boxes_on before after unlike opened walked
mid_walk =
    record {
      opens = refl;
      is_changed = refl;
      refused = refl;
      ends = record { reply = refl; clock = refl; links = refl; entries = refl; closed = refl };
      for_2 = refl;
      not_for_1 = refl;
      otherwise_for_1 = refl;
      otherwise_not_for_2 = refl;
      unlike_then = λ e. (let z = ap (λ (es : List Entry). nat_abs (get_or es 1 fresh_entry).delay.0) e.entries in absurd (omega (arith, z)));
    }
