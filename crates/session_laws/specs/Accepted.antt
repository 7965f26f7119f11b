-- The events of a connection that this end accepted, by the messages on it.
use Rattle.std.specs.Prelude.{◌≡◌, Bool, ◌&&◌, cond, List, [], ◌∷◌, ◌++◌, map, ◌⊎◌}
use Rattle.std.specs.Str.{bytes_eq}
use Rattle.mos_values.specs.declared.message.Envelope.{Envelope}
use Rattle.port_events.specs.declared.event.PortEvent.{PortEvent}
use Rattle.port_events.specs.declared.event.Side.{Side}
use Rattle.port_events.specs.declared.event.Side.TheVariants.{Upper, Lower, Editor}
use Rattle.port_events.specs.declared.event.What.TheVariants.{Accepted, EndedIn, Heard}
use Rattle.port_session.specs.Events.{event}
use Rattle.port_session.specs.Serving.{Call}
use Rattle.port_session.specs.declared.port.Port.{Port}

abbrev pub is_for_side : Side → Port → Envelope → Bool
is_for_side Upper p e = bytes_eq e.mos p.mos && bytes_eq e.ncs p.ncs
is_for_side Lower p e = bytes_eq e.mos p.mos && bytes_eq e.ncs p.ncs
is_for_side Editor p e = bytes_eq e.ncs p.ncs

-- the message is for this end
abbrev pub is_for : Port → Envelope → Bool
is_for p e = is_for_side p.side p e

-- Heard of each message for this end, in their order
abbrev pub heard : Port → List Envelope → List PortEvent
heard p [] = []
heard p (e ∷ es) = cond (is_for p e) (event p (Heard e.message) ∷ heard p es) (heard p es)

-- Accepted directly before the first of them
abbrev pub after_accepted : Port → List PortEvent → List PortEvent
after_accepted p [] = []
after_accepted p (x ∷ xs) = event p Accepted ∷ x ∷ xs

-- The events of a connection with these messages.
abbrev pub accepted : Port → List Envelope → List PortEvent
accepted p messages = after_accepted p (heard p messages) ++ event p EndedIn ∷ []

-- All its events were told, or its first one, Accepted, alone: no message for this end was heard then.
abbrev pub IsCut : Port → List Envelope → List Call → Type 0
IsCut p messages calls = (map (λ (c : Call). c.0) calls ++ event p EndedIn ∷ [] ≡ accepted p messages) ⊎ (map (λ (c : Call). c.0) calls ≡ event p Accepted ∷ [])
