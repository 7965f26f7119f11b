use Rattle.std.proofs.Common.{◌≡◌, ◌++◌, length, map}
use Rattle.mos_fields.specs.Fields.{name_of}
use Rattle.mos_cursor.specs.Taking.{leaves_taken, leaves_left}
use Rattle.mos_cursor.specs.Slots.{leaf_of}
use Rattle.mos_cursor.proofs.take.take_leaves.Given as goal

abbrev pub invariant-next : goal.invariant-next
invariant-next l = (leaves_taken (name_of l.field) l.initial.cursor ≡ map leaf_of l.leaves ++ leaves_taken (name_of l.field) l.cursor) × (leaves_left (name_of l.field) l.initial.cursor ≡ leaves_left (name_of l.field) l.cursor)

abbrev pub decreases-next : goal.decreases-next
decreases-next l = length l.cursor
