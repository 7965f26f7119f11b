use Rattle.std.proofs.Common.{sym}
use Rattle.mos_object_reading.proofs.ObjectLemmas.{objects_hold, objects_read}
use Rattle.mos_object_reading.proofs.object_lists.objects_in.Goals as goal

pub read_objects-requires : goal.read_objects-requires
read_objects-requires c = objects_hold _ c.requires

pub returns : goal.returns
returns c = sym (objects_read _ _ c.requires c.in_ok-objects.ensures)
