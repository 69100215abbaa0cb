-- Fresh tables show that no line was taken.
use mathlib.Core.Path.{refl}
use mathlib.Core.List.{[]}
use native.Mathlib.Omega.{arith}
use Rattle.rules.specs.History.{names, instances}
use Rattle.rules.specs.Lines.{events_of}
use Rattle.rules.specs.Trace.{place_of}
use Rattle.rules.proofs.Tests.{clash}
use Rattle.ranges.proofs.FreshTables.{fresh_valid}
use Rattle.judge.specs.Feed.{place_in, fresh_tables}
use Rattle.judge.proofs.Sizes.{fresh_sized}
use Rattle.promises.specs.Shown.{Shown, Shows}

fresh_shown : Shown [] fresh_tables
unfolding names instances
fresh_shown = record {
  sized = fresh_sized refl;
  singles = record { started = refl; names_counted = refl; cores_counted = refl; entries_counted = refl; first = refl; last = refl };
  each_name = λ n m. absurd (clash _ m refl);
  instance_rows_shown = record { each = λ x m. absurd (clash _ m refl); owned = λ j b. absurd (omega (arith, b)); kept = λ i j b d o n. absurd (omega (arith, b)) };
  each_ticks = λ n m. absurd (clash _ m refl);
  indexed = fresh_valid.indexed;
}

pub fresh_shows : Shows [] fresh_tables
unfolding place_in place_of events_of
fresh_shows = record { place = refl; creator = omega arith; date = omega arith; events = fresh_shown }
