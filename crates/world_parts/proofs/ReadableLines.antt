-- What can be read of what is unread, and what a packet carries that is written or read.
use Rattle.std.proofs.Common.{◌≡◌, ℕ, suc, List, [], ◌∷◌, length, get_or, Option, Some, None, IfNone, IfSome, refl, ap, ◌∙◌, subst, arith}
use Rattle.std.specs.List.{AllByRecursion}
use Rattle.mos_machines.specs.Messages.{Packet as Said}
use Rattle.mos_machines.specs.Values.{message_of}
use Rattle.mos_values.specs.Units.{canonical_units, units_in}
use Rattle.mos_values.specs.declared.message.Message.{Message}
use Rattle.world_laws.specs.World.{Connection as Line, front}
use Rattle.world_messages.specs.Messages.{Encodes, IsEncodingOf, IsShortEnough, IsShortName, mos_name, ncs_name, world_envelope}
use Rattle.written_laws.specs.Worlds.{CarriesOnly, IsShortPacket}
use Rattle.world_parts.specs.declared.packet.Packet.{Packet}
use Rattle.world_parts.specs.declared.packet.EncodedPacket.{EncodedPacket}
use Rattle.world_parts.specs.declared.connection.Connection.{Connection}
use Rattle.world_parts.specs.Told.{tag_of}
use Rattle.world_parts.specs.Carrying.{IsReadable, IsReadAs, IsWrittenAs}
use Rattle.world_parts.specs.Matching.{AreReadable, Carries, CarriesAll, CarriesEncoded, HasEncoding, HaveEncodings, IsReadableLine, MatchesConnections, MatchesLine, own, connection_at}
use Rattle.world_parts.specs.Places.{IsPlace}
use Rattle.world_parts.proofs.Lines.{device-at, own-same, read-at}

-- ---- one packet

short-enough : (d : ℕ) (q : Said) → IsShortName (mos_name d) → IsShortPacket q → IsShortEnough (world_envelope d (message_of q.message))
unfolding units_in canonical_units
short-enough d q n s = let three : length ncs_name ≡ 3 = refl in s (world_envelope d (message_of q.message)) refl (n, omega (arith, three), tt)

encoded-by : (d : ℕ) (u : EncodedPacket) (q : Said) → CarriesEncoded d u q → HasEncoding q → Encodes u.bytes.items (world_envelope d (message_of q.message))
encoded-by d u q c h = c.bytes.encodes h.0 (short-enough d q c.bytes.named h.1)

-- a packet that is written is on its way as what it carried
pub written-carries : (d : ℕ) (p : Packet) (u : EncodedPacket) (q : Said) → IsWrittenAs d p u → Carries p q → CarriesEncoded d u q
written-carries d p u q w c = record {
  bytes = subst (λ (m : Message). IsEncodingOf u.bytes.items d m) c.message w.bytes;
  tag = ap tag_of w.tag ∙ c.tag;
  written = c.written;
}

-- and one that is read carries what was on its way
pub read-carries : (d : ℕ) (u : EncodedPacket) (p : Packet) (q : Said) → CarriesEncoded d u q → HasEncoding q → IsReadAs u p → Carries p q
read-carries d u p q c h r = record {
  message = r.message (world_envelope d (message_of q.message)) (encoded-by d u q c h);
  tag = ap tag_of r.tag ∙ c.tag;
  written = c.written;
}

-- ---- queues

pub front-has : (P : Said → Type 0) (qs : List Said) (q : Said) → AllByRecursion P qs → front qs ≡ Some q → P q
front-has P [] q a e = absurd (cc)
front-has P (x ∷ qs) q a e = let same : x ≡ q = cc in subst P same a.0

pub first-readable : (u : EncodedPacket) (us vs : List EncodedPacket) → vs ≡ u ∷ us → AllByRecursion IsReadable vs → IsReadable u
first-readable u us vs e a = go (subst (λ (xs : List EncodedPacket). AllByRecursion IsReadable xs) e a)
  where
    go : AllByRecursion IsReadable (u ∷ us) → IsReadable u
    go b = b.0

readable-all : (d : ℕ) (us : List EncodedPacket) (qs : List Said) → CarriesAll d us qs → AllByRecursion HasEncoding qs → AllByRecursion IsReadable us
readable-all d [] qs h a = tt
readable-all d (u ∷ us) [] h a = absurd h
readable-all d (u ∷ us) (q ∷ qs) h a = ((world_envelope d (message_of q.message), encoded-by d u q h.0 a.0), readable-all d us qs h.1 a.1)

-- ---- connections

readable-line : (o : Option Connection) (line : Line) → MatchesLine o line → CarriesOnly HasEncoding line → IsReadableLine o
readable-line None line m a = tt
readable-line (Some x) line m a = (readable-all x.device x.to_device.items line.to_device m.to_device a.0, readable-all x.device x.to_server.items line.to_server m.to_server a.1)

pub readable-connections : (xs : List Connection) (d : ℕ) (lines : ℕ → Line) → MatchesConnections xs d lines → HaveEncodings lines → AreReadable xs d
readable-connections xs d lines m a = λ c. readable-line (connection_at xs d c) (lines c) (m c) (a c)

-- those of the connection at a place
pub readable-at : (xs : List Connection) (d c i : ℕ) (x : Connection) → IsPlace xs d c i → x ≡ get_or xs i x → AreReadable xs d → IsReadableLine (Some x)
readable-at xs d c i x p e r = subst (λ (o : Option Connection). IsReadableLine o) (ap (own d) (read-at xs i x p.within e) ∙ own-same d x (device-at xs d c i x p e)) (r (suc i))

-- ---- answers of calls

pub at-some : {X : Type 0} (P : X → Type 0) (o : Option X) (x : X) → o ≡ Some x → IfSome o P → P x
at-some P None x e h = absurd (cc)
at-some P (Some y) x e h = let same : y ≡ x = cc in subst P same h

pub at-none : {X A : Type 0} (o : Option X) → o ≡ None → IfNone o A → A
at-none None e h = h
at-none (Some y) e h = absurd (cc)
