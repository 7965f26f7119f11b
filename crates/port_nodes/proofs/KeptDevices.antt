-- The server keeps its number of devices.
use Rattle.std.proofs.Common.{◌≡◌, Result, Ok, Err, IfOk, OnErr, ap}
use Rattle.mos_machines.specs.Steps.{ServerEvent}
use Rattle.ncs_core.specs.State.{NcsTables, devices_of}
use Rattle.port_replies.specs.Ports.{Asked, ComesTo, server_asked}
use Rattle.port_events.specs.declared.event.PortEvent.{PortEvent}
use Rattle.port_events.specs.declared.answer.PortAnswer.{PortAnswer}
use Rattle.port_machines.specs.Steps.{IsServerRefusal, IsServerStep, NcsStep}

by-asked : {K : Type 0} (m n : NcsTables K) (asked : Asked ServerEvent) (a : PortAnswer) → ComesTo NcsStep m asked a n → devices_of n ≡ devices_of m
by-asked m n (Asked.Steps e saying) a h = h.1.devices
by-asked m n (Asked.Says answer) a h = ap devices_of h.0

pub devices_stay : {K X : Type 0} (m n : NcsTables K) (e : PortEvent) (b : Result PortAnswer X) → IfOk b (λ a. IsServerStep m e a n) → OnErr b (IsServerRefusal m n) → devices_of n ≡ devices_of m
devices_stay m n e (Ok a) h r = by-asked m n (server_asked (devices_of m) m.server.journal e) a h.tables.comes
devices_stay m n e (Err x) h r = r.devices
