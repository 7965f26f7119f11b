-- What an event at a device makes of the parts.
use Rattle.std.specs.Prelude.{◌≡◌, ℕ, ◌+◌, List, length, Bool, true, false}
use Rattle.rundown_log.specs.Memory.{MemoryKeeper}
use Rattle.ncs_core.specs.State.{NcsTables, ncs_of, LeavesRest}
use Rattle.world_scripts.specs.Outcomes.{outcome_of}
use Rattle.world_scripts.specs.declared.outcome.Outcome.{Outcome}
use Rattle.mos_edits.specs.Entries.{Entry, AreEntries}
use Rattle.mos_machines.specs.Views.{IsPeerWithin}
use Rattle.mos_edits.specs.Texts.{set_number}
use Rattle.mos_machines.specs.Device.{gate_got, gate_read}
use Rattle.mos_machines.specs.Messages.{Packet, untagged}
use Rattle.mos_machines.specs.Server.{peer_hear}
use Rattle.world_laws.specs.World.{Connection as Line, Effect, Pairing, PairingEvent, PairingEvent as rows, applied_got, applied_read, opens_one, pairing_step, write_device, write_server}
use Rattle.world_laws.specs.World.Effect.{Wrote}
use Rattle.world_laws.specs.Reached.{HasLinks}
use Rattle.world_stage.specs.declared.play.Play.{Play}
use Rattle.world_laws.specs.Outcomes.{outcome_of as outcome_told}
use Rattle.world_parts.specs.declared.connection.Connection.{Connection}
use Rattle.world_parts.specs.declared.gateway.Gateway.{Gateway}
use Rattle.world_parts.specs.Matching.{HaveEncodings, MatchesConnections, MatchesGateway}
use Rattle.world_stage.specs.Matching.{MatchesPairing}

-- The gateway and the connections of a device after an event that the device is part of, which made this of the pairing. The
-- server's part stays.
pub record IsGatewayStep (l : Pairing) (z : Pairing × Effect) (x : Gateway) (xs : List Connection) (d : ℕ) (o : Outcome) : Type 0 where
  pub gateway : MatchesGateway x z.0
  pub connections : MatchesConnections xs d z.0.connections
  pub peer : z.0.peer ≡ l.peer
  pub outcome : outcome_of o ≡ outcome_told z.1

abbrev pub GatewayStep : List Entry → ℕ → Pairing → PairingEvent → Gateway → List Connection → ℕ → Outcome → Type 0
GatewayStep journal c l e x xs d o = IsGatewayStep l (pairing_step journal c l e) x xs d o

-- The server and the connections of device `d`, from 0, after an event that the server is part of, which made this of the
-- pairing. The gateway's part stays.
pub record IsServerEventStep (l : Pairing) (z : Pairing × Effect) (m : NcsTables MemoryKeeper) (xs : List Connection) (d : ℕ) (o : Outcome) : Type 0 where
  pub peer : (ncs_of m).peers d ≡ z.0.peer
  pub connections : MatchesConnections xs (d + 1) z.0.connections
  pub gate : z.0.gate ≡ l.gate
  pub decks : z.0.decks ≡ l.decks
  pub applied : z.0.applied ≡ l.applied
  pub outcome : outcome_of o ≡ outcome_told z.1

abbrev pub ServerEventStep : ℕ → Pairing → PairingEvent → NcsTables MemoryKeeper → NcsTables MemoryKeeper → List Connection → ℕ → Outcome → Type 0
ServerEventStep c l e n m xs d o = IsServerEventStep l (pairing_step n.server.journal c l e) m xs d o

-- what an event at a device leaves of the server: the other devices, the journal and the keeper
pub record LeavesServer (n m : NcsTables MemoryKeeper) (d : ℕ) : Type 0 where
  pub journal : m.server.journal ≡ n.server.journal
  pub stopped : m.server.stopped ≡ n.server.stopped
  pub others : (b : ℕ) → (b ≡ d → ⊥) → (ncs_of m).peers b ≡ (ncs_of n).peers b
  pub rest : LeavesRest n m

-- ---- events at a device

-- whether the device is part of it; else the server is
abbrev pub is_of_device : PairingEvent → Bool
is_of_device rows.OpenTo = false
is_of_device (rows.Accept c) = true
is_of_device rows.Cut = false
is_of_device rows.Leave = true
is_of_device rows.Send = false
is_of_device rows.Read = true
is_of_device rows.Back = false
is_of_device rows.Dial = true
is_of_device (rows.Admit c) = false
is_of_device rows.Ask = true
is_of_device rows.Hear = false
is_of_device rows.Got = true
is_of_device rows.Hangup = true
is_of_device rows.Miss = false
is_of_device rows.Beat = false
is_of_device rows.DeviceBeat = true
is_of_device (rows.Want r) = true
is_of_device (rows.DecksLeft k) = true
is_of_device rows.Reboot = true

-- What the world's invariant says of a pairing: its links are connections of the right end, the server's views speak of
-- entries that the journal has, and all that is unread has an encoding.
pub record IsReady (journal : List Entry) (l : Pairing) : Type 0 where
  pub links : HasLinks l
  pub entries : AreEntries journal
  pub peer : IsPeerWithin journal l.peer
  pub encodings : HaveEncodings l.connections

-- What an event at device `d`, from 0, makes of a world's parts.
pub record PairingStep (t u : Play) (d : ℕ) (e : PairingEvent) (o : Outcome) : Type 0 where
  pub server : LeavesServer t.ncs u.ncs d
  pub count : length u.connections.items ≡ length t.connections.items + opens_one e
  pub gateways : length u.gateways.items ≡ length t.gateways.items
  pub others : (b : ℕ) (l : Pairing) → (b ≡ d → ⊥) → MatchesPairing t b l → MatchesPairing u b l
  pub pairing : (l : Pairing) → MatchesPairing t d l → IsReady t.ncs.server.journal l → MatchesPairing u d (pairing_step t.ncs.server.journal (length t.connections.items + 1) l e).0
  pub outcome : (l : Pairing) → MatchesPairing t d l → IsReady t.ncs.server.journal l → outcome_of o ≡ outcome_told (pairing_step t.ncs.server.journal (length t.connections.items + 1) l e).1

-- ---- what is read, and what is heard

-- a device after it read a packet
abbrev pub after_read : Pairing → Packet → Pairing
after_read l q = record l { gate = (gate_read l.gate l.decks q.message).0; applied = applied_read l.gate l.applied q.tag q.message (gate_read l.gate l.decks q.message).1 }

-- its answer
abbrev pub read_answer : Pairing → Packet → Packet
read_answer l q = untagged (gate_read l.gate l.decks q.message).1

-- a device after it took an answer
abbrev pub after_got : Pairing → Packet → Pairing
after_got l q = record l { gate = (gate_got l.gate q.message).0; applied = applied_got l.applied q.tag (gate_got l.gate q.message).1 }

-- The packet was read and answered on connection `c`.
pub record IsReadAnswered (l : Pairing) (q : Packet) (x : Gateway) (xs : List Connection) (d c : ℕ) (lines : ℕ → Line) (o : Outcome) : Type 0 where
  pub gateway : MatchesGateway x (after_read l q)
  pub connections : MatchesConnections xs d (set_number lines c (write_server (read_answer l q) (lines c)))
  pub outcome : outcome_of o ≡ outcome_told (Wrote (read_answer l q))

-- The packet was heard and answered on connection `c` of device `d`, from 0.
pub record IsHeardAnswered (n m : NcsTables MemoryKeeper) (q : Packet) (xs : List Connection) (d c : ℕ) (lines : ℕ → Line) (o : Outcome) : Type 0 where
  pub peer : (ncs_of m).peers d ≡ (peer_hear n.server.journal ((ncs_of n).peers d) q.message).0
  pub connections : MatchesConnections xs (d + 1) (set_number lines c (write_device (peer_hear n.server.journal ((ncs_of n).peers d) q.message).1 (lines c)))
  pub outcome : outcome_of o ≡ outcome_told (Wrote (peer_hear n.server.journal ((ncs_of n).peers d) q.message).1)
