-- The events of a connection.
use Rattle.std.specs.Prelude.{ℕ, Option, Some, None}
use Rattle.port_events.specs.declared.event.PortEvent.{PortEvent}
use Rattle.port_events.specs.declared.event.What.{What}
use Rattle.port_session.specs.declared.port.Port.{Port}

-- 0 where the port has no device
abbrev pub device_of : Option ℕ → ℕ
device_of None = 0
device_of (Some d) = d

abbrev pub event : Port → What → PortEvent
event p what = record { side = p.side; device = device_of p.device; link = p.link; what = what }
