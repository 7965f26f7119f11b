use Rattle.std.specs.Option.{option_copied}
use Rattle.mos_decoder.specs.Bytes.{found_of}
use Rattle.object_reading.proofs.TakingLemmas.{takes_message}
use Rattle.object_reading.proofs.messages.take_message.Goals as goal

pub returns-in-Ok : goal.returns-in-Ok
returns-in-Ok c = takes_message (found_of c.args.found) c.in-Ok.envelope (option_copied c.object_in.result) c.args.number c.args.table.now c.take_object-taken.new.table c.take_object-taken.result c.in-Ok.ensures c.object_in.ensures c.take_object-taken.ensures
