use Rattle.std.proofs.Common.{◌≡◌, ◌++◌, ◌+◌, ◌<◌, ◌≤◌, ◌^◌, length, reverse, drop, take}
use Rattle.mos_events.specs.EventView.{events_of}
use Rattle.mos_cursor.specs.Taking.{inner_of, behind_of}
use Rattle.mos_cursor.proofs.cursor.left_with_end.Given as goal

abbrev pub invariant-event : goal.invariant-event
invariant-event l = record {
  within : l.left ≤ length l.rest;
  room : l.inside + l.left < 2 ^ 63;
  inner : reverse (events_of (drop l.left l.rest)) ++ inner_of l.inside (reverse (events_of (take l.left l.rest))) ≡ inner_of l.depth (reverse (events_of l.rest));
  behind : behind_of l.inside (reverse (events_of (take l.left l.rest))) ≡ behind_of l.depth (reverse (events_of l.rest));
}

abbrev pub decreases-event : goal.decreases-event
decreases-event l = l.left
