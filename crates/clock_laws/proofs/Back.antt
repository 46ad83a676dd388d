-- By computing.
use mathlib.Core.Path.{refl}
use mathlib.Core.List.{[]}
use Rattle.network_laws.proofs.Opened.{opened}
use Rattle.clock.specs.Clock as clock
use Rattle.clock.specs.LineClock.{no_count}
use Rattle.calls.specs.Effects.{adjust, set_by, read, second}
use Rattle.clock_laws.specs.Moves.{moves}
use Rattle.clock_laws.specs.Back.{Sharp}

pub sharp_holds : Sharp
unfolding opened clock.adjust clock.hold_second adjust set_by read second moves
sharp_holds =
    record {
      by_one = record { reads_twice = record { once = refl; again = refl }; meets = refl; before = refl; after = refl };
      among_others = record { reads_twice = record { once = refl; again = refl }; meets = refl; before = refl; after = refl };
      arrival_by_one = record { reads_twice = record { once = refl; again = refl }; meets = refl; before = refl; after = refl };
      wide_count = record { reads_twice = record { once = refl; again = refl }; meets = refl; before = refl; after = refl };
      was_initialized = record { reads_twice = record { once = refl; again = refl }; meets = refl; before = refl; after = refl };
      set_by_129 = record { reads_twice = record { once = refl; again = refl }; meets = refl; before = refl; after = refl };
      arrival_by_129 = record { reads_twice = record { once = refl; again = refl }; meets = refl; before = refl; after = refl };
      two_adjusts = record { reads_twice = record { once = refl; again = refl }; meets = refl; before = refl; after = refl };
      date_changes = record { reads_twice = record { once = refl; again = refl }; meets = refl; before = refl; after = refl };
      date_changes_last = record { reads_twice = record { once = refl; again = refl }; meets = refl; before = refl; after = refl };
      counter_falls = record { reads_twice = record { once = refl; again = refl }; meets = refl; before = refl; after = refl };
      late = record { before = []; count = no_count; its_moves = refl; is_small = refl; no_other = refl };
      day_short = refl;
    }
