-- The port of one connection.
use Rattle.std.specs.Prelude.{ℕ, Some}
use Rattle.mos_fields.specs.Characters.{Text}
use Rattle.port_session.specs.declared.port.Port.{Port}

-- the port, for a connection of this number of the device with this number and this mosID
abbrev pub at_device : Port → ℕ → ℕ → Text → Port
at_device p n device mos = record { side = p.side; device = Some device; link = n; mos = mos; ncs = p.ncs }
