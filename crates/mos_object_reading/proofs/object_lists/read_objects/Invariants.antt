use Rattle.std.proofs.Common.{length}
use Rattle.mos_tables.specs.declared.table.Table.TheVariants as tables
use Rattle.mos_values.specs.Views.{mos_obj_events}
use Rattle.mos_cursor.specs.Inner.{inner_events, Holds}
use Rattle.mos_cursor.proofs.Read.{ReadSoFar}
use Rattle.mos_object_reading.proofs.object_lists.read_objects.Given as goal

abbrev pub invariant-next : goal.invariant-next
invariant-next l = ReadSoFar mos_obj_events inner_events (Holds tables.MosObj) l.fn.inner l.objects l.rest.items

abbrev pub decreases-next : goal.decreases-next
decreases-next l = length l.rest.items
