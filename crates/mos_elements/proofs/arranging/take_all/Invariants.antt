use Rattle.std.proofs.Common.{◌≡◌, ◌++◌, drop}
use Rattle.mos_grammar.specs.Records.{flat}
use Rattle.mos_events.specs.EventView.{events_of}
use Rattle.mos_elements.specs.Parts.{children_of}
use Rattle.mos_elements.proofs.arranging.take_all.Given as goal

abbrev pub invariant-loop-i : goal.invariant-loop-i
invariant-loop-i l = events_of l.out.items ++ flat (children_of (drop l.i l.children)) ≡ events_of l.initial.out.items ++ flat (children_of l.initial.children)
