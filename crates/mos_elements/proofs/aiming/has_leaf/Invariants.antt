use Rattle.std.proofs.Common.{◌≡◌, length}
use Rattle.mos_fields.specs.Fields.{name_of}
use Rattle.mos_grammar.specs.Records.{has_leaf}
use Rattle.mos_events.specs.EventView.{events_of}
use Rattle.mos_elements.proofs.aiming.has_leaf.Given as goal

abbrev pub invariant-loop-rest : goal.invariant-loop-rest
invariant-loop-rest l = has_leaf (name_of l.field) (events_of l.rest) ≡ has_leaf (name_of l.field) (events_of l.events)

abbrev pub decreases-loop-rest : goal.decreases-loop-rest
decreases-loop-rest l = length l.rest
