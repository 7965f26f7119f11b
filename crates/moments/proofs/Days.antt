-- Days and their numbers.
use Rattle.std.proofs.Common.{◌≡◌, ℕ, ◌<◌, pos, refl, ap, arith, unsigned_abs, ◌+ℤ◌, ◌-ℤ◌, ◌≤ℤ◌, ℤ, to_z, w64}
use Rattle.std.proofs.lemmas.Int.{by_lt_z, to_z_pos}
use Rattle.jiff.proofs.SpanFacts.{signed_arith}
use Rattle.jiff.specs.Words.{epoch_day, IsYmd}
use Rattle.jiff_core.specs.Calendar.{day_count, days_from_civil, IsEpochDay}
use Rattle.jiff_core.proofs.CalendarLemmas.{day_count-epoch, day_count-lt_year, days_from_civil-day_count}
use Rattle.jiff_core.proofs.DateLemmas.{civil}
use Rattle.jiff_core.specs.declared.civil.date.Date.{Date}

none_apart : (x : ℤ) → x -ℤ x ≡ pos 0
none_apart x = omega (arith, signed_arith)

-- the first day has the number 0
pub first_day : (d : Date) → IsYmd (pos 1970) (pos 1) (pos 1) d → epoch_day d ≡ pos 0
unfolding days_from_civil
first_day d e = rw (e.0, ap unsigned_abs e.1, ap unsigned_abs e.2) (none_apart (pos (day_count (pos 1970) 1 1)))

-- a day's number by the numbers of its date
pub same_day : (d : Date) (y m n : ℕ) → IsYmd (pos y) (pos m) (pos n) d → days_from_civil (pos y) m n ≡ epoch_day d
same_day d y m n e = rw (e.0, ap unsigned_abs e.1, ap unsigned_abs e.2) refl

-- so many days after the first
pub from_first : (first : ℤ) (days : ℕ) → first ≡ pos 0 → days < 2932897 → first +ℤ to_z w64 days ≡ pos days
from_first first days e few = rw (e, to_z_pos w64 days (omega (arith, few))) (ap pos (omega arith))

-- the library has such a day
pub in_reach : (days : ℕ) → days < 2932897 → IsEpochDay (pos days)
in_reach days few = (omega (arith, signed_arith), omega (arith, signed_arith, few))

-- a day that isn't before the first is in no year before 0
pub year_from : (d : Date) (n : ℕ) → epoch_day d ≡ pos n → pos 0 ≤ℤ d.year
year_from d n e = by_lt_z d.year (pos 1970)
    (λ lt. absurd (omega (arith, signed_arith, e, days_from_civil-day_count d.year d.month d.day, day_count-epoch, day_count-lt_year d.year d.month d.day (pos 1970) 1 1 (civil d) (omega arith) lt)))
    (λ ge. omega (arith, signed_arith))
