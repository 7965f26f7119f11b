use Rattle.std.proofs.Common.{codes, refl, ap}
use Rattle.mos_values.specs.Views.{objects_events}
use Rattle.mos_writer.proofs.EncodedLemmas.{element_written}
use Rattle.mos_object_msgs.proofs.messages.write_list_all.Goals as goal

pub returns : goal.returns
returns c = element_written (codes "mosListAll") _ _ c.args.out.now.items _ _ _ refl (ap objects_events c.as_slice.ensures) c.in_ok-push_start.ensures c.in_ok-write_objects.ensures c.in_ok-push_end.ensures
