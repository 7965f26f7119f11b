use Rattle.mos_times.proofs.TextLemmas.{text_found, text_told}
use Rattle.mos_times.proofs.plain.plain_time.Goals as goal

pub returns-clause-found : goal.returns-clause-found
returns-clause-found c = text_found c.args.text.now c.units.result.now c.time_of_units.result c.units.ensures.value c.units.ensures.allowed c.time_of_units.ensures.found

pub returns-clause-plain : goal.returns-clause-plain
returns-clause-plain c = text_told c.args.text.now c.units.result.now c.time_of_units.result c.units.ensures.value c.units.ensures.allowed c.time_of_units.ensures.found c.time_of_units.ensures.lost
