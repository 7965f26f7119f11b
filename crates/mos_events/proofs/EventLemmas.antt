-- The events of lists.
use Rattle.std.proofs.Common.{◌≡◌, List, [], ◌∷◌, ◌++◌, length, refl, ap, arith}
use Rattle.mos_events.specs.declared.event.Event.{Event as Stored}
use Rattle.mos_events.specs.EventView.{event_of, events_of}

pub events_append : (es fs : List Stored) → events_of (es ++ fs) ≡ events_of es ++ events_of fs
events_append [] fs = refl
events_append (e ∷ es) fs = ap (λ r. event_of e ∷ r) (events_append es fs)

pub events_length : (es : List Stored) → length (events_of es) ≡ length es
events_length [] = refl
events_length (e ∷ es) = grind (arith, events_length es)
