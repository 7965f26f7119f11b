use Rattle.std.proofs.Common.{◌≡◌, ◌++◌, length}
use Rattle.mos_cursor.specs.Taking.{raws_taken, raws_left}
use Rattle.mos_cursor.proofs.take.take_raws.Given as goal

abbrev pub invariant-next : goal.invariant-next
invariant-next l = (raws_taken l.field l.initial.cursor ≡ l.raws ++ raws_taken l.field l.cursor) × (raws_left l.field l.initial.cursor ≡ raws_left l.field l.cursor)

abbrev pub decreases-next : goal.decreases-next
decreases-next l = length l.cursor
