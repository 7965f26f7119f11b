-- Lists of events in memory.
use Rattle.std.proofs.Common.{◌≡◌, List, [], ◌∷◌, ◌++◌, reverse, refl, sym, ap, ◌∙◌}
use Rattle.std.proofs.lemmas.List.{reverse-append, reverse-reverse}
use Rattle.mos_tables.specs.Events.{Event}
use Rattle.mos_events.specs.declared.event.Event.{Event as Stored}
use Rattle.mos_events.specs.EventView.{event_of, events_of}

events_append : (es fs : List Stored) → events_of (es ++ fs) ≡ events_of es ++ events_of fs
events_append [] fs = refl
events_append (e ∷ es) fs = ap (λ (r : List Event). event_of e ∷ r) (events_append es fs)

events_reverse : (es : List Stored) → events_of (reverse es) ≡ reverse (events_of es)
events_reverse [] = refl
events_reverse (e ∷ es) =
    ap events_of (reverse-append (e ∷ []) es) ∙ events_append (reverse es) (e ∷ []) ∙ ap (λ (z : List Event). z ++ event_of e ∷ []) (events_reverse es) ∙ sym (reverse-append (event_of e ∷ []) (events_of es))

pub reversed_twice : (es : List Stored) → reverse (events_of (reverse es)) ≡ events_of es
reversed_twice es = ap reverse (events_reverse es) ∙ reverse-reverse (events_of es)
