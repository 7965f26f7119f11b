-- Connections in a list, by their places, and what is done with one.
use Rattle.std.specs.Prelude.{◌≡◌, ◌<◌, ℕ, suc, List, [], ◌∷◌, ◌++◌, take, length, slice_index_or, Bool, true, if◌then◌else◌}
use Rattle.world_laws.specs.World.{Direction}
use Rattle.world_laws.specs.World.Direction.{ToServer, ToDevice}
use Rattle.world_parts.specs.declared.packet.EncodedPacket.{EncodedPacket}
use Rattle.world_parts.specs.declared.connection.Connection.{Connection}

-- element `i` of a list is connection `c`, and one of device `d`
pub record IsPlace (xs : List Connection) (d c i : ℕ) : Type 0 where
  pub within : i < length xs
  pub number : c ≡ suc i
  pub own : (x : Connection) → (slice_index_or xs i x).device ≡ d

-- a queue after a packet was written, which is lost where later ones are
abbrev pub with_written : Bool → EncodedPacket → List EncodedPacket → List EncodedPacket
with_written lost u us = if lost then us else us ++ u ∷ []

-- a direction kept its first `k` packets, and the later ones are lost
abbrev pub IsLost : Connection → Direction → ℕ → Connection → Type 0
IsLost x ToServer k y = (y ≡ record x { to_server = y.to_server; lost_server = true }) × (y.to_server.items ≡ take k x.to_server.items)
IsLost x ToDevice k y = (y ≡ record x { to_device = y.to_device; lost_device = true }) × (y.to_device.items ≡ take k x.to_device.items)
