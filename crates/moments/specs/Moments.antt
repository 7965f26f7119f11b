-- Times in UTC and the seconds since the begin of 1970.
use Rattle.std.specs.Prelude.{◌≡◌, ℕ, ◌+◌, ◌*◌, ◌/◌, ◌%◌, pos, None}
use Rattle.jiff_core.specs.Calendar.{days_from_civil}
use Rattle.mos_fields.specs.declared.time.MosTime.{MosTime}
use Rattle.mos_fields.specs.declared.time.Zone.TheVariants.{Z}

-- the time in UTC, in whole seconds, so many of them after the begin of 1970, where each day has 86,400
pub record IsMoment (seconds : ℕ) (t : MosTime) : Type 0 where
  pub day : days_from_civil (pos t.year) t.month t.day ≡ pos (seconds / 86400)
  pub time : t.hour * 3600 + t.minute * 60 + t.second ≡ seconds % 86400
  pub millis : t.millis ≡ None
  pub zone : t.zone ≡ Z
