-- At which side a port's connections are.
use Rattle.std.specs.Prelude.{◌≡◌, ℕ, Option, Some, None}
use Rattle.port_events.specs.declared.event.Side.{Side}
use Rattle.port_events.specs.declared.event.Side.TheVariants.{Upper, Lower, Editor}
use Rattle.port_links.specs.declared.link.Link.{Link}
use Rattle.port_tcp.specs.declared.port.TcpPort.{TcpPort}

abbrev pub side_of : {R : Type 0} → TcpPort R → Side
side_of p = p.side

-- a connection came, at this side
abbrev pub CameAt : {S K : Type 0} → Side → Option (Link S K) → Type 0
CameAt side None = ⊥
CameAt side (Some link) = link.side ≡ side

-- for how long nothing may come on a connection at this side that others opened, in nanoseconds; an editor's may be silent for
-- ever
abbrev pub quiet_nanos : Side → Option ℕ
quiet_nanos Upper = Some 600000000000
quiet_nanos Lower = Some 600000000000
quiet_nanos Editor = None
