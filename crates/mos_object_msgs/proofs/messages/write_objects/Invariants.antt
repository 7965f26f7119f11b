use Rattle.std.proofs.Common.{◌≡◌, ◌++◌, take}
use Rattle.mos_values.specs.Views.{objects_events}
use Rattle.mos_writer.specs.Encoded.{encoded}
use Rattle.mos_object_msgs.proofs.messages.write_objects.Given as goal

abbrev pub invariant-loop-object : goal.invariant-loop-object
invariant-loop-object l = l.out.items ≡ l.initial.out.items ++ encoded (objects_events (take l.object-index l.objects))
