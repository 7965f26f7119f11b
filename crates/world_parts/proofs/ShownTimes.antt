-- The time of heartbeats, whatever shows that it exists.
use Rattle.std.proofs.Common.{◌≡◌, None, true, refl}
use Rattle.std.proofs.Math.Bool.{Bool-set}
use Rattle.mos_fields.specs.Limits.{is_day, is_time_of_day, are_millis}
use Rattle.mos_fields.specs.Zones.{is_zone_of}
use Rattle.mos_fields.specs.declared.time.MosTime.{MosTime}
use Rattle.mos_fields.specs.declared.time.Zone.TheVariants as zones
use Rattle.world_laws.specs.World.{own_time}

pub shown-time : (a : is_day 2000 1 1 ≡ true) (b : is_time_of_day 0 0 0 ≡ true) (c : are_millis None ≡ true) (d : is_zone_of zones.None ≡ true)
    → ◌≡◌ {A = MosTime} (record { year = 2000; month = 1; day = 1; hour = 0; minute = 0; second = 0; millis = None; zone = zones.None; day_exists = a; time_exists = b; millis_exist = c; zone_exists = d }) own_time
unfolding own_time
shown-time a b c d = λ i. record {
  year = 2000;
  month = 1;
  day = 1;
  hour = 0;
  minute = 0;
  second = 0;
  millis = None;
  zone = zones.None;
  day_exists = Bool-set _ _ a refl i;
  time_exists = Bool-set _ _ b refl i;
  millis_exist = Bool-set _ _ c refl i;
  zone_exists = Bool-set _ _ d refl i;
}
