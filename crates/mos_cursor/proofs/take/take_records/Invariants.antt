use Rattle.std.proofs.Common.{length}
use Rattle.mos_fields.specs.Fields.{name_of}
use Rattle.mos_cursor.proofs.Lengths.{TakenRecords}
use Rattle.mos_cursor.proofs.take.take_records.Given as goal

abbrev pub invariant-next : goal.invariant-next
invariant-next l = TakenRecords (name_of l.field) l.initial.cursor l.cursor l.records

abbrev pub decreases-next : goal.decreases-next
decreases-next l = length l.cursor
