-- How packets, connections and gateways in memory stand for those of the world's definition.
use Rattle.std.specs.Prelude.{◌≡◌, ℕ, zero, suc, List, [], ◌∷◌, slice_get, Option, Some, None, ◌==◌, if◌then◌else◌}
use Rattle.std.specs.List.{AllByRecursion}
use Rattle.mos_machines.specs.Messages.{Packet as Said}
use Rattle.mos_machines.specs.Tables.{look, gate_of}
use Rattle.mos_machines.specs.Values.{message_of, IsWritten}
use Rattle.gateway_core.specs.Parts.{decks_of}
use Rattle.world_laws.specs.World.{Connection as Line, Opener as Openers, Pairing}
use Rattle.world_messages.specs.Messages.{IsEncodingOf}
use Rattle.written_laws.specs.Laws.{IsSoundPacket}
use Rattle.written_laws.specs.Worlds.{CarriesOnly, IsShortPacket}
use Rattle.world_parts.specs.declared.packet.Packet.{Packet}
use Rattle.world_parts.specs.declared.packet.EncodedPacket.{EncodedPacket}
use Rattle.world_parts.specs.declared.connection.Opener.{Opener}
use Rattle.world_parts.specs.declared.connection.Opener.TheVariants as openers
use Rattle.world_parts.specs.declared.connection.Connection.{Connection}
use Rattle.world_parts.specs.declared.gateway.Gateway.{Gateway}
use Rattle.world_parts.specs.Told.{tag_of}
use Rattle.world_parts.specs.Carrying.{IsReadable}

-- ---- packets

-- A packet in hand carries what a machine said: the message that stands for it, and its tag.
pub record Carries (p : Packet) (q : Said) : Type 0 where
  pub message : p.message ≡ message_of q.message
  pub tag : tag_of p.tag ≡ q.tag
  pub written : IsWritten q.message

-- A packet on its way between the server and device `d` does so by its bytes: they are the canonical encoding of that message.
pub record CarriesEncoded (d : ℕ) (u : EncodedPacket) (q : Said) : Type 0 where
  pub bytes : IsEncodingOf u.bytes.items d (message_of q.message)
  pub tag : tag_of u.tag ≡ q.tag
  pub written : IsWritten q.message

abbrev pub CarriesAll : ℕ → List EncodedPacket → List Said → Type 0
CarriesAll d [] [] = Unit {0}
CarriesAll d [] (q ∷ qs) = ⊥
CarriesAll d (u ∷ us) [] = ⊥
CarriesAll d (u ∷ us) (q ∷ qs) = CarriesEncoded d u q × CarriesAll d us qs

-- ---- connections

abbrev pub opener_of : Opener → Openers
opener_of openers.Server = Openers.TheServer
opener_of openers.Device = Openers.TheDevice

pub record MatchesConnection (x : Connection) (line : Line) : Type 0 where
  pub opener : opener_of x.opener ≡ line.opener
  pub accepted : x.accepted ≡ line.accepted
  pub to_device : CarriesAll x.device x.to_device.items line.to_device
  pub to_server : CarriesAll x.device x.to_server.items line.to_server
  pub lost_device : x.lost_device ≡ line.lost_device
  pub lost_server : x.lost_server ≡ line.lost_server

-- a connection that there isn't is nobody's
abbrev pub MatchesLine : Option Connection → Line → Type 0
MatchesLine None line = line.opener ≡ Openers.Nobody
MatchesLine (Some x) line = MatchesConnection x line

-- a connection, where it is one of device `d`
abbrev pub own : ℕ → Option Connection → Option Connection
own d None = None
own d (Some x) = if x.device == d then Some x else None

-- connection `c` of device `d`; connections are numbered from 1
abbrev pub connection_at : List Connection → ℕ → ℕ → Option Connection
connection_at xs d zero = None
connection_at xs d (suc c) = own d (slice_get xs c)

-- the connections of device `d`
abbrev pub MatchesConnections : List Connection → ℕ → (ℕ → Line) → Type 0
MatchesConnections xs d lines = (c : ℕ) → MatchesLine (connection_at xs d c) (lines c)

-- those of the other devices are as they were
abbrev pub LeavesOthers : List Connection → List Connection → ℕ → Type 0
LeavesOthers xs ys d = (b : ℕ) (lines : ℕ → Line) → (b ≡ d → ⊥) → MatchesConnections xs b lines → MatchesConnections ys b lines

-- ---- what can be read

-- each unread packet of a connection can be read
abbrev pub IsReadableLine : Option Connection → Type 0
IsReadableLine None = Unit {0}
IsReadableLine (Some x) = AllByRecursion IsReadable x.to_device.items × AllByRecursion IsReadable x.to_server.items

-- the same of the connections of device `d`
abbrev pub AreReadable : List Connection → ℕ → Type 0
AreReadable xs d = (c : ℕ) → IsReadableLine (connection_at xs d c)

-- what a machine said has an encoding, which isn't too long
abbrev pub HasEncoding : Said → Type 0
HasEncoding q = IsSoundPacket q × IsShortPacket q

-- all that is unread on a device's connections has one
abbrev pub HaveEncodings : (ℕ → Line) → Type 0
HaveEncodings lines = (c : ℕ) → CarriesOnly HasEncoding (lines c)

-- some end opened it
abbrev pub IsOpened : Line → Type 0
IsOpened line = line.opener ≡ Openers.Nobody → ⊥

-- ---- gateways

pub record MatchesGateway (x : Gateway) (l : Pairing) : Type 0 where
  pub gate : gate_of x.gate ≡ l.gate
  pub decks : decks_of x.decks ≡ l.decks
  pub applied : look 0 x.applied ≡ l.applied

abbrev pub HasGateway : Option Gateway → Pairing → Type 0
HasGateway None l = ⊥
HasGateway (Some x) l = MatchesGateway x l
