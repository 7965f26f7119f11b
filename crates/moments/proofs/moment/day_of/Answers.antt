use Rattle.std.proofs.Common.{◌∙◌, arith, sym, subst, IsOk}
use Rattle.std.proofs.lemmas.Bool.{false≢true}
use Rattle.jiff.proofs.SpanFacts.{can_add-days, date_add-days}
use Rattle.jiff_core.specs.Calendar.{IsEpochDay}
use Rattle.moments.proofs.Days.{first_day, from_first, in_reach}
use Rattle.moments.proofs.moment.day_of.Goals as goal

pub returns-in-Ok-clause-some : goal.returns-in-Ok-clause-some
returns-in-Ok-clause-some c =
    let few = c.if-days-ge-DAYS.false in (
      c.in-Ok.ensures.value ∙ date_add-days c.date.result _ c.days.result c.days.ensures
          ∙ from_first _ c.args.days (first_day c.date.result c.date.ensures) (omega arith),
      omega arith,
    )

pub returns-in-Err-clause-none : goal.returns-in-Err-clause-none
returns-in-Err-clause-none c =
    let few = c.if-days-ge-DAYS.false in
    let day = from_first _ c.args.days (first_day c.date.result c.date.ensures) (omega arith) in
    let can = (can_add-days c.date.result _ c.days.result c.days.ensures).1 (subst IsEpochDay (sym day) (in_reach c.args.days (omega arith))) in
    absurd (false≢true (subst IsOk c.in-Err.is (c.checked_add.ensures.succeeds.1 can)))
