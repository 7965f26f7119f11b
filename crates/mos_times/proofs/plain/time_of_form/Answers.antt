use Rattle.std.proofs.Common.{◌∙◌, sym}
use Rattle.mos_times.proofs.PlainLemmas.{no_day, no_clock, is_one, one_written}
use Rattle.mos_times.proofs.plain.time_of_form.Goals as goal

pub returns-then-not-is_day-clause-lost : goal.returns-then-not-is_day-clause-lost
returns-then-not-is_day-clause-lost c = no_day c.args.units.now c.year_of-year.result c.two_at-month.result c.two_at-day.result c.requires.form c.year_of-year.ensures.value c.two_at-month.ensures.value c.two_at-day.ensures.value
    (sym c.is_day.ensures ∙ c.if-not-is_day.true)

pub returns-then-not-is_time_of_day-clause-lost : goal.returns-then-not-is_time_of_day-clause-lost
returns-then-not-is_time_of_day-clause-lost c = no_clock c.args.units.now c.two_at-hour.result c.two_at-minute.result c.two_at-second.result c.requires.form c.two_at-hour.ensures.value c.two_at-minute.ensures.value c.two_at-second.ensures.value
    (sym c.is_time_of_day.ensures ∙ c.if-not-is_time_of_day.true)

pub returns-clause-found : goal.returns-clause-found
returns-clause-found c = record {
  plain = is_one c.args.units.now c.year_of-year.result c.two_at-month.result c.two_at-day.result c.two_at-hour.result c.two_at-minute.result c.two_at-second.result c.requires.form c.year_of-year.ensures.value c.two_at-month.ensures.value c.two_at-day.ensures.value
      c.two_at-hour.ensures.value c.two_at-minute.ensures.value c.two_at-second.ensures.value (sym c.is_day.ensures ∙ c.if-not-is_day.false) (sym c.is_time_of_day.ensures ∙ c.if-not-is_time_of_day.false);
  written = one_written c.args.units.now c.year_of-year.result c.two_at-month.result c.two_at-day.result c.two_at-hour.result c.two_at-minute.result c.two_at-second.result c.requires.form c.year_of-year.ensures.value c.two_at-month.ensures.value c.two_at-day.ensures.value
      c.two_at-hour.ensures.value c.two_at-minute.ensures.value c.two_at-second.ensures.value;
}
