-- The port of one connection.
use Rattle.std.specs.Prelude.{ℕ}
use Rattle.port_session.specs.declared.port.Port.{Port}

-- the port, for the connection of this number
abbrev pub at_link : Port → ℕ → Port
at_link p n = record { side = p.side; device = p.device; link = n; mos = p.mos; ncs = p.ncs }
