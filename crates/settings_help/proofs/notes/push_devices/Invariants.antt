use Rattle.std.proofs.Common.{◌≡◌, ◌+◌, ◌≤◌, ◌++◌, length}
use Rattle.std.specs.Prelude.{string_bytes}
use Rattle.settings_help.specs.Notes.{device_notes}
use Rattle.settings_help.proofs.notes.push_devices.Given as goal

abbrev pub decreases-loop-rest : goal.decreases-loop-rest
decreases-loop-rest l = length l.rest

abbrev pub invariant-loop-rest : goal.invariant-loop-rest
invariant-loop-rest l =
    (string_bytes l.out ++ device_notes l.file l.ncs_id l.devices l.before l.rest ≡ string_bytes l.initial.out ++ device_notes l.file l.ncs_id l.devices 0 l.devices)
    × (l.before + length l.rest ≤ length l.devices)
