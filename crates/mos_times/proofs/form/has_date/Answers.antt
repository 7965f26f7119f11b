use Rattle.mos_times.proofs.PatternLemmas.{date_pattern}
use Rattle.mos_times.proofs.form.has_date.Goals as goal

pub returns : goal.returns
returns c = rw (c.are_two.ensures, c.are_two-2.ensures, c.are_two-3.ensures, c.are_two-4.ensures) (date_pattern c.args.units.now c.requires)
