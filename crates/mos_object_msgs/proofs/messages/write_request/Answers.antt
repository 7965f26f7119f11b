use Rattle.std.proofs.Common.{codes, refl, []}
use Rattle.mos_writer.proofs.EncodedLemmas.{element_written, appends_nothing}
use Rattle.mos_object_msgs.proofs.messages.write_request.Goals as goal

pub returns : goal.returns
returns c = element_written (codes "reqMachInfo") [] [] c.args.out.now.items _ _ _ refl refl c.in_ok-push_start.ensures (appends_nothing _) c.in_ok-push_end.ensures
