use Rattle.mos_message_reading.proofs.NameLemmas.{only_memory}
use Rattle.mos_message_reading.proofs.others.name_of.Goals as goal

pub memory_fault-requires : goal.memory_fault-requires
memory_fault-requires c = only_memory c.args.chars.now c.try_new.result c.in-Err.fault c.requires.allowed c.try_new.ensures.fault c.in-Err.is
