use Rattle.std.proofs.Common.{refl, arith, ◌∙◌}
use Rattle.moments.proofs.Days.{same_day, year_from}
use Rattle.moments.proofs.moment.time_on.Goals as goal

pub numbers_of-year-requires : goal.numbers_of-year-requires
numbers_of-year-requires c = year_from c.args.day _ c.requires

pub returns : goal.returns
returns c = record { day = same_day c.args.day _ _ _ c.numbers_of-year.ensures ∙ c.requires; time = omega arith; millis = refl; zone = refl }
