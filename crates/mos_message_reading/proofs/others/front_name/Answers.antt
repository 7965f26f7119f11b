use Rattle.mos_message_reading.proofs.NameLemmas.{allowed_front, named_front, element_front}
use Rattle.mos_message_reading.proofs.others.front_name.Goals as goal

pub name_of-requires-clause-allowed : goal.name_of-requires-clause-allowed
name_of-requires-clause-allowed c = allowed_front c.name_count-count.result c.args.chars.now c.requires.allowed

pub name_of-requires-clause-named : goal.name_of-requires-clause-named
name_of-requires-clause-named c = named_front c.name_count-count.result c.args.chars.now c.name_count-count.ensures.value c.requires.element

pub returns : goal.returns
returns c = element_front c.name_of.result c.name_count-count.result c.args.chars.now c.name_count-count.ensures.value c.requires.element c.name_of.ensures
