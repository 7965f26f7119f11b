use Rattle.std.proofs.Common.{◌≡◌, ◌≤◌, ◌-◌, ◌++◌, [], length, take}
use Rattle.mos_edits.specs.Entries.{IsAccepted}
use Rattle.script_numbers.specs.Numbers.{AreNumbers}
use Rattle.ncs_core.specs.State.{AreOrders}
use Rattle.ncs_core.proofs.starting.add_all.Given as goal

abbrev pub invariant-entries : goal.invariant-entries
invariant-entries l =
    AreOrders l.journal l.orders × (l.journal ≡ l.initial.journal ++ take l.at l.entries) × IsAccepted [] (l.initial.journal ++ take l.at l.entries) × (l.at ≤ length l.entries) × AreNumbers l.journal l.scripts

abbrev pub decreases-entries : goal.decreases-entries
decreases-entries l = length l.entries - l.at
