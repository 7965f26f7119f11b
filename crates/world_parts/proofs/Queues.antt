-- What a connection in memory and the one that it stands for come to, by one step on either.
use Rattle.std.proofs.Common.{◌≡◌, ℕ, ◌==◌, ◌<◌, zero, suc, List, [], ◌∷◌, ◌++◌, length, get_or, set, take, Bool, true, false, Option, Some, None, Result, Ok, Err, IfNone, IfSome, OnOk, refl, if◌then◌else◌, sym, ap, ◌∙◌, subst}
use Rattle.mos_edits.specs.Texts.{set_number}
use Rattle.mos_machines.specs.Messages.{Packet as Said}
use Rattle.world_laws.specs.World.{Connection as Line, Opener as Openers, Direction, front, rest, lose, new_connection, write_device, write_server}
use Rattle.world_laws.specs.World.Direction.{ToServer, ToDevice}
use Rattle.world_parts.specs.declared.packet.EncodedPacket.{EncodedPacket as Packet}
use Rattle.world_parts.specs.declared.connection.Opener.{Opener}
use Rattle.world_parts.specs.declared.connection.Opener.TheVariants as openers
use Rattle.world_parts.specs.declared.connection.Connection.{Connection}
use Rattle.world_parts.specs.Matching.{CarriesAll, CarriesEncoded, opener_of, MatchesConnection, MatchesLine, own, connection_at, MatchesConnections}
use Rattle.world_parts.specs.Places.{with_written, IsLost}
use Rattle.world_parts.proofs.Lines.{read-at, line-any}

-- ---- queues

empty-front : (d : ℕ) (ps : List Packet) (qs : List Said) → ps ≡ [] → CarriesAll d ps qs → front qs ≡ None
empty-front d ps qs e h = go qs (subst (λ (xs : List Packet). CarriesAll d xs qs) e h)
  where
    go : (qs : List Said) → CarriesAll d [] qs → front qs ≡ None
    go [] h = refl
    go (q ∷ qs) h = absurd h

first-carried : (d : ℕ) (p : Packet) (ps : List Packet) (qs : List Said) → CarriesAll d (p ∷ ps) qs → (q : Said) × (front qs ≡ Some q) × CarriesEncoded d p q × CarriesAll d ps (rest qs)
first-carried d p ps [] h = absurd h
first-carried d p ps (q ∷ qs) h = (q, refl, h.0, h.1)

carries-push : (d : ℕ) (ps : List Packet) (qs : List Said) (p : Packet) (q : Said) → CarriesAll d ps qs → CarriesEncoded d p q → CarriesAll d (ps ++ p ∷ []) (qs ++ q ∷ [])
carries-push d [] [] p q h c = (c, tt)
carries-push d [] (y ∷ qs) p q h c = absurd h
carries-push d (x ∷ ps) [] p q h c = absurd h
carries-push d (x ∷ ps) (y ∷ qs) p q h c = (h.0, carries-push d ps qs p q h.1 c)

carries-written : (d : ℕ) (b : Bool) (ps : List Packet) (qs : List Said) (p : Packet) (q : Said) → CarriesAll d ps qs → CarriesEncoded d p q → CarriesAll d (with_written b p ps) (if b then qs else qs ++ q ∷ [])
carries-written d true ps qs p q h c = h
carries-written d false ps qs p q h c = carries-push d ps qs p q h c

carries-take : (d k : ℕ) (ps : List Packet) (qs : List Said) → CarriesAll d ps qs → CarriesAll d (take k ps) (take k qs)
carries-take d zero ps qs h = tt
carries-take d (suc k) [] [] h = tt
carries-take d (suc k) [] (q ∷ qs) h = absurd h
carries-take d (suc k) (p ∷ ps) [] h = absurd h
carries-take d (suc k) (p ∷ ps) (q ∷ qs) h = (h.0, carries-take d k ps qs h.1)

-- ---- one connection

pub opened-matches : (o : Opener) (x : Connection) → x ≡ record x { opener = o; accepted = false; lost_device = false; lost_server = false } → x.to_device.items ≡ [] → x.to_server.items ≡ [] → MatchesConnection x (new_connection (opener_of o) [])
opened-matches o x e a b = record {
  opener = ap (λ (z : Connection). opener_of z.opener) e;
  accepted = ap (λ (z : Connection). z.accepted) e;
  to_device = subst (λ (ps : List Packet). CarriesAll x.device ps []) (sym a) tt;
  to_server = subst (λ (ps : List Packet). CarriesAll x.device ps []) (sym b) tt;
  lost_device = ap (λ (z : Connection). z.lost_device) e;
  lost_server = ap (λ (z : Connection). z.lost_server) e;
}

pub accepted-matches : (x y : Connection) (line : Line) → y ≡ record x { accepted = true } → MatchesConnection x line → MatchesConnection y (record line { accepted = true })
accepted-matches x y line e m = subst (λ (z : Connection). MatchesConnection z (record line { accepted = true })) (sym e) (record {
  opener = m.opener;
  accepted = refl;
  to_device = m.to_device;
  to_server = m.to_server;
  lost_device = m.lost_device;
  lost_server = m.lost_server;
})

pub device-front : (x : Connection) (line : Line) → x.to_device.items ≡ [] → MatchesConnection x line → front line.to_device ≡ None
device-front x line e m = empty-front x.device x.to_device.items line.to_device e m.to_device

pub server-front : (x : Connection) (line : Line) → x.to_server.items ≡ [] → MatchesConnection x line → front line.to_server ≡ None
server-front x line e m = empty-front x.device x.to_server.items line.to_server e m.to_server

pub device-taken : (x y : Connection) (p : Packet) (line : Line) → y ≡ record x { to_device = y.to_device } → x.to_device.items ≡ p ∷ y.to_device.items → MatchesConnection x line
    → (q : Said) × (front line.to_device ≡ Some q) × CarriesEncoded x.device p q × MatchesConnection y (record line { to_device = rest line.to_device })
device-taken x y p line e s m =
    let f = first-carried x.device p y.to_device.items line.to_device (subst (λ (ps : List Packet). CarriesAll x.device ps line.to_device) s m.to_device) in (
      f.0,
      f.1,
      f.2,
      subst (λ (z : Connection). MatchesConnection z (record line { to_device = rest line.to_device })) (sym e) (record {
        opener = m.opener;
        accepted = m.accepted;
        to_device = f.3;
        to_server = m.to_server;
        lost_device = m.lost_device;
        lost_server = m.lost_server;
      }),
    )

pub server-taken : (x y : Connection) (p : Packet) (line : Line) → y ≡ record x { to_server = y.to_server } → x.to_server.items ≡ p ∷ y.to_server.items → MatchesConnection x line
    → (q : Said) × (front line.to_server ≡ Some q) × CarriesEncoded x.device p q × MatchesConnection y (record line { to_server = rest line.to_server })
server-taken x y p line e s m =
    let f = first-carried x.device p y.to_server.items line.to_server (subst (λ (ps : List Packet). CarriesAll x.device ps line.to_server) s m.to_server) in (
      f.0,
      f.1,
      f.2,
      subst (λ (z : Connection). MatchesConnection z (record line { to_server = rest line.to_server })) (sym e) (record {
        opener = m.opener;
        accepted = m.accepted;
        to_device = m.to_device;
        to_server = f.3;
        lost_device = m.lost_device;
        lost_server = m.lost_server;
      }),
    )

pub device-written : (x y : Connection) (p : Packet) (q : Said) (line : Line) → y ≡ record x { to_device = y.to_device } → y.to_device.items ≡ with_written x.lost_device p x.to_device.items → CarriesEncoded x.device p q → MatchesConnection x line → MatchesConnection y (write_device q line)
device-written x y p q line e s c m = subst (λ (z : Connection). MatchesConnection z (write_device q line)) (sym e) (record {
  opener = m.opener;
  accepted = m.accepted;
  to_device = subst (λ (ps : List Packet). CarriesAll x.device ps (write_device q line).to_device) (sym s)
      (subst (λ (b : Bool). CarriesAll x.device (with_written x.lost_device p x.to_device.items) (if b then line.to_device else line.to_device ++ q ∷ [])) m.lost_device (carries-written x.device x.lost_device x.to_device.items line.to_device p q m.to_device c));
  to_server = m.to_server;
  lost_device = m.lost_device;
  lost_server = m.lost_server;
})

pub server-written : (x y : Connection) (p : Packet) (q : Said) (line : Line) → y ≡ record x { to_server = y.to_server } → y.to_server.items ≡ with_written x.lost_server p x.to_server.items → CarriesEncoded x.device p q → MatchesConnection x line → MatchesConnection y (write_server q line)
server-written x y p q line e s c m = subst (λ (z : Connection). MatchesConnection z (write_server q line)) (sym e) (record {
  opener = m.opener;
  accepted = m.accepted;
  to_device = m.to_device;
  to_server = subst (λ (ps : List Packet). CarriesAll x.device ps (write_server q line).to_server) (sym s)
      (subst (λ (b : Bool). CarriesAll x.device (with_written x.lost_server p x.to_server.items) (if b then line.to_server else line.to_server ++ q ∷ [])) m.lost_server (carries-written x.device x.lost_server x.to_server.items line.to_server p q m.to_server c));
  lost_device = m.lost_device;
  lost_server = m.lost_server;
})

lost-matches : (way : Direction) (k : ℕ) (x y : Connection) (line : Line) → IsLost x way k y → MatchesConnection x line → MatchesConnection y (lose way k line)
lost-matches ToServer k x y line e m = subst (λ (z : Connection). MatchesConnection z (lose ToServer k line)) (sym e.0) (record {
  opener = m.opener;
  accepted = m.accepted;
  to_device = m.to_device;
  to_server = subst (λ (ps : List Packet). CarriesAll x.device ps (take k line.to_server)) (sym e.1) (carries-take x.device k x.to_server.items line.to_server m.to_server);
  lost_device = m.lost_device;
  lost_server = refl;
})
lost-matches ToDevice k x y line e m = subst (λ (z : Connection). MatchesConnection z (lose ToDevice k line)) (sym e.0) (record {
  opener = m.opener;
  accepted = m.accepted;
  to_device = subst (λ (ps : List Packet). CarriesAll x.device ps (take k line.to_device)) (sym e.1) (carries-take x.device k x.to_device.items line.to_device m.to_device);
  to_server = m.to_server;
  lost_device = refl;
  lost_server = m.lost_server;
})

lost-device : (way : Direction) (k : ℕ) (x y : Connection) → IsLost x way k y → y.device ≡ x.device
lost-device ToServer k x y e = ap (λ (z : Connection). z.device) e.0
lost-device ToDevice k x y e = ap (λ (z : Connection). z.device) e.0

lose-opener : (way : Direction) (k : ℕ) (line : Line) → (lose way k line).opener ≡ line.opener
lose-opener ToServer k line = refl
lose-opener ToDevice k line = refl

-- a connection that loses, whichever device's it is
pub lost-line : (d : ℕ) (way : Direction) (k : ℕ) (x y : Connection) (line : Line) → IsLost x way k y → MatchesLine (own d (Some x)) line → MatchesLine (own d (Some y)) (lose way k line)
lost-line d way k x y line e m =
    subst (λ (n : ℕ). MatchesLine (if n == d then Some y else None) (lose way k line)) (sym (lost-device way k x y e)) (by (x.device == d) m)
  where
    by : (b : Bool) → MatchesLine (if b then Some x else None) line → MatchesLine (if b then Some y else None) (lose way k line)
    by true m = lost-matches way k x y line e m
    by false m = lose-opener way k line ∙ m

-- ---- no connection

pub nobody-at : (xs : List Connection) (d c : ℕ) (lines : ℕ → Line) → connection_at xs d c ≡ None → MatchesConnections xs d lines → (lines c).opener ≡ Openers.Nobody
nobody-at xs d c lines e h = subst (λ (o : Option Connection). MatchesLine o (lines c)) e (h c)

pub opener-is_one : (o : Opener) → opener_of o ≡ Openers.Nobody → ⊥
opener-is_one openers.Server e = cc
opener-is_one openers.Device e = cc

pub opener-same : (a b : Opener) → opener_of a ≡ opener_of b → a ≡ b
opener-same openers.Server openers.Server e = refl
opener-same openers.Server openers.Device e = cc
opener-same openers.Device openers.Server e = cc
opener-same openers.Device openers.Device e = refl

-- whether a packet was taken or not, the connection is of the same device
pub device-kept : (r : Option Packet) (x y : Connection) → IfNone r ((y ≡ x) × (x.to_device.items ≡ [])) → IfSome r (λ p. (y ≡ record x { to_device = y.to_device }) × (x.to_device.items ≡ p ∷ y.to_device.items)) → y.device ≡ x.device
device-kept None x y n s = ap (λ (z : Connection). z.device) n.0
device-kept (Some p) x y n s = ap (λ (z : Connection). z.device) s.0

pub server-kept : (r : Option Packet) (x y : Connection) → IfNone r ((y ≡ x) × (x.to_server.items ≡ [])) → IfSome r (λ p. (y ≡ record x { to_server = y.to_server }) × (x.to_server.items ≡ p ∷ y.to_server.items)) → y.device ≡ x.device
server-kept None x y n s = ap (λ (z : Connection). z.device) n.0
server-kept (Some p) x y n s = ap (λ (z : Connection). z.device) s.0

-- ---- answers of calls

pub on-none : {X : Type 0} {A B : Type 0} (r : Option X) → IfNone r A → (A → B) → IfNone r B
on-none None a f = f a
on-none (Some x) a f = a

pub on-ok : {X Y : Type 0} {A B : Type 0} (r : Result X Y) → OnOk r A → (A → B) → OnOk r B
on-ok (Ok x) a f = f a
on-ok (Err y) a f = a

-- a connection that loses, at its place
pub lost-at : (xs : List Connection) (i c d : ℕ) (way : Direction) (k : ℕ) (x y : Connection) (lines : ℕ → Line) → c ≡ suc i → i < length xs → x ≡ get_or xs i x → IsLost x way k y → MatchesConnections xs d lines → MatchesConnections (set xs i y) d (set_number lines c (lose way k (lines c)))
lost-at xs i c d way k x y lines n w e l h =
    subst (λ (b : ℕ). MatchesConnections (set xs i y) d (set_number lines b (lose way k (lines b)))) (sym n)
    (line-any xs i d y lines (lose way k (lines (suc i))) w (lost-line d way k x y (lines (suc i)) l (subst (λ (o : Option Connection). MatchesLine (own d o) (lines (suc i))) (read-at xs i x w e) (h (suc i)))) h)
