-- What children add, one after another.
use Rattle.std.proofs.Common.{◌≡◌, List, [], ◌∷◌, ◌++◌, sym}
use Rattle.std.proofs.lemmas.List.{append-nil, map-append}
use Rattle.mos_tables.specs.Events.{Event}
use Rattle.mos_events.specs.EventView.{event_of, events_of}
use Rattle.mos_events.specs.declared.event.Event.{Event as Stored}
use Rattle.mos_elements.specs.declared.child.Child.{Child}
use Rattle.mos_elements.specs.Parts.{child_of, children_of}

pub none_more : (es : List Event) → es ≡ es ++ []
none_more es = sym (append-nil es)

pub many_more : (es fs : List Stored) → events_of (es ++ fs) ≡ events_of es ++ events_of fs
many_more es fs = map-append event_of es fs

pub one_more : (es : List Stored) (e : Stored) → events_of (es ++ e ∷ []) ≡ events_of es ++ event_of e ∷ []
one_more es e = many_more es (e ∷ [])

pub children_more : (cs : List Child) (c : Child) → children_of (cs ++ c ∷ []) ≡ children_of cs ++ child_of c ∷ []
children_more cs c = map-append child_of cs (c ∷ [])
