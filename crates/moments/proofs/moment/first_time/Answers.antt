use Rattle.std.proofs.Common.{refl}
use Rattle.jiff_core.proofs.StandardFacts.{known_days}
use Rattle.moments.proofs.moment.first_time.Goals as goal

pub returns : goal.returns
returns c = record { day = known_days.0; time = refl; millis = refl; zone = refl }
