-- What the server's calls make of a pairing.
use Rattle.std.proofs.Common.{◌≡◌, ℕ, ◌+◌, List, Bool, true, false, Option, Some, None, refl, sym, ap, ◌∙◌, subst}
use Rattle.mos_edits.specs.Texts.{set_number}
use Rattle.mos_machines.specs.Server.{Upper, PeerState, is_open, peer_beat, peer_cut, peer_linked, upper_link}
use Rattle.mos_machines.specs.Server.Upper.{Down, Greeting, Open}
use Rattle.mos_machines.specs.Steps.{ServerState, ServerEvent, server_step, with_peer}
use Rattle.rundown_log.specs.Memory.{MemoryKeeper}
use Rattle.ncs_core.specs.State.{NcsTables, ncs_of}
use Rattle.world_scripts.specs.Outcomes.{outcome_of}
use Rattle.world_scripts.specs.declared.outcome.Outcome.{Outcome}
use Rattle.world_laws.specs.Outcomes.{Outcome as Told}
use Rattle.world_laws.specs.World.{Connection as Line, Effect, Opener, Pairing, admits_it, beats_if, cuts, impossible, misses_if}
use Rattle.world_laws.specs.World.Effect.{Performed}
use Rattle.world_laws.specs.World.Opener.{Nobody, TheServer, TheDevice}
use Rattle.world_parts.specs.Matching.{MatchesConnections}
use Rattle.world_parts.specs.declared.connection.Connection.{Connection}
use Rattle.world_stage.specs.Steps.{IsServerEventStep}
use Rattle.world_stage.proofs.OwnLinks.{cut-own, missed-own}
use Rattle.world_stage.proofs.Tables.{peer-written}

-- an event that isn't possible, where the server stays
pub not-possible : (l : Pairing) (n : NcsTables MemoryKeeper) (xs : List Connection) (d : ℕ) (o : Outcome) → (ncs_of n).peers d ≡ l.peer → MatchesConnections xs (d + 1) l.connections → outcome_of o ≡ Told.Impossible → IsServerEventStep l (impossible l) n xs d o
not-possible l n xs d o p m e = record { peer = p; connections = m; gate = refl; decks = refl; applied = refl; outcome = e }

-- an event that writes the server's part alone
pub peer-alone : (l : Pairing) (n m : NcsTables MemoryKeeper) (xs : List Connection) (d : ℕ) (o : Outcome) (f : PeerState → PeerState) → (ncs_of n).peers d ≡ l.peer → ncs_of m ≡ with_peer (ncs_of n) d (f ((ncs_of n).peers d)) → MatchesConnections xs (d + 1) l.connections → outcome_of o ≡ Told.Done
    → IsServerEventStep l (record l { peer = f l.peer }, Performed) m xs d o
peer-alone l n m xs d o f p s c e = record { peer = peer-written n m d (f ((ncs_of n).peers d)) s ∙ ap f p; connections = c; gate = refl; decks = refl; applied = refl; outcome = e }

-- ---- the connection of the server

linked-cut : (l : Pairing) (u : Upper) (k : ℕ) → upper_link u ≡ Some k → cuts l u ≡ (record l { peer = peer_cut l.peer }, Performed)
linked-cut l Down k e = absurd (cc)
linked-cut l (Greeting c) k e = refl
linked-cut l (Open c o) k e = refl

pub cut-is : (n m : NcsTables MemoryKeeper) (d k : ℕ) → upper_link ((ncs_of n).peers d).upper ≡ Some k → ncs_of m ≡ (server_step false (ncs_of n) (ServerEvent.UpperCut d k)).1 → ncs_of m ≡ with_peer (ncs_of n) d (peer_cut ((ncs_of n).peers d))
cut-is n m d k u s = s ∙ ap (λ (z : _ × ServerState). z.1) (cut-own (ncs_of n) d k u)

pub cut-step : (l : Pairing) (n m : NcsTables MemoryKeeper) (xs : List Connection) (d k : ℕ) (o : Outcome) → upper_link ((ncs_of n).peers d).upper ≡ Some k → ncs_of m ≡ (server_step false (ncs_of n) (ServerEvent.UpperCut d k)).1 → (ncs_of n).peers d ≡ l.peer
    → MatchesConnections xs (d + 1) l.connections → outcome_of o ≡ Told.Done → IsServerEventStep l (cuts l l.peer.upper) m xs d o
cut-step l n m xs d k o u s p c e =
    subst (λ (z : Pairing × Effect). IsServerEventStep l z m xs d o) (sym (linked-cut l l.peer.upper k (sym (ap (λ (x : PeerState). upper_link x.upper) p) ∙ u)))
    (peer-alone l n m xs d o peer_cut p (cut-is n m d k u s) c e)

-- ---- the connection of the device

pub missed-is : (n m : NcsTables MemoryKeeper) (d k : ℕ) → ((ncs_of n).peers d).link ≡ Some k → ncs_of m ≡ (server_step false (ncs_of n) (ServerEvent.DeviceDropped d k)).1 → ncs_of m ≡ with_peer (ncs_of n) d (peer_linked None ((ncs_of n).peers d))
missed-is n m d k u s = s ∙ ap (λ (z : _ × ServerState). z.1) (missed-own (ncs_of n) d k u)

pub missed-step : (l : Pairing) (n m : NcsTables MemoryKeeper) (xs : List Connection) (d k : ℕ) (o : Outcome) → ((ncs_of n).peers d).link ≡ Some k → ncs_of m ≡ (server_step false (ncs_of n) (ServerEvent.DeviceDropped d k)).1 → (ncs_of n).peers d ≡ l.peer
    → MatchesConnections xs (d + 1) l.connections → outcome_of o ≡ Told.Done → IsServerEventStep l (misses_if l l.peer.link) m xs d o
missed-step l n m xs d k o u s p c e =
    subst (λ (x : Option ℕ). IsServerEventStep l (misses_if l x) m xs d o) (sym (sym (ap (λ (x : PeerState). x.link) p) ∙ u))
    (peer-alone l n m xs d o (peer_linked None) p (missed-is n m d k u s) c e)

pub beat-step : (l : Pairing) (n m : NcsTables MemoryKeeper) (xs : List Connection) (d : ℕ) (o : Outcome) → is_open ((ncs_of n).peers d).upper ≡ true → ncs_of m ≡ with_peer (ncs_of n) d (peer_beat ((ncs_of n).peers d)) → (ncs_of n).peers d ≡ l.peer
    → MatchesConnections xs (d + 1) l.connections → outcome_of o ≡ Told.Done → IsServerEventStep l (beats_if l (is_open l.peer.upper)) m xs d o
beat-step l n m xs d o u s p c e =
    subst (λ (b : Bool). IsServerEventStep l (beats_if l b) m xs d o) (sym (sym (ap (λ (x : PeerState). is_open x.upper) p) ∙ u))
    (peer-alone l n m xs d o peer_beat p s c e)

pub no-beat : (l : Pairing) (n : NcsTables MemoryKeeper) (xs : List Connection) (d : ℕ) (o : Outcome) → is_open ((ncs_of n).peers d).upper ≡ false → (ncs_of n).peers d ≡ l.peer → MatchesConnections xs (d + 1) l.connections → outcome_of o ≡ Told.Impossible
    → IsServerEventStep l (beats_if l (is_open l.peer.upper)) n xs d o
no-beat l n xs d o u p c e =
    subst (λ (b : Bool). IsServerEventStep l (beats_if l b) n xs d o) (sym (sym (ap (λ (x : PeerState). is_open x.upper) p) ∙ u)) (not-possible l n xs d o p c e)

-- ---- accepting

admitted-not : (l : Pairing) (c : ℕ) (x : Line) (o : Opener) (b : Bool) → (o ≡ TheDevice → b ≡ true) → admits_it l c x o b ≡ impossible l
admitted-not l c x Nobody b h = refl
admitted-not l c x TheServer b h = refl
admitted-not l c x TheDevice true h = refl
admitted-not l c x TheDevice false h = let no : false ≡ true = h refl in absurd (cc)

pub no-admission : (l : Pairing) (n : NcsTables MemoryKeeper) (xs : List Connection) (d c : ℕ) (o : Outcome) → ((l.connections c).opener ≡ TheDevice → (l.connections c).accepted ≡ true) → (ncs_of n).peers d ≡ l.peer → MatchesConnections xs (d + 1) l.connections
    → outcome_of o ≡ Told.Impossible → IsServerEventStep l (admits_it l c (l.connections c) (l.connections c).opener (l.connections c).accepted) n xs d o
no-admission l n xs d c o h p m e =
    subst (λ (z : Pairing × Effect). IsServerEventStep l z n xs d o) (sym (admitted-not l c (l.connections c) (l.connections c).opener (l.connections c).accepted h)) (not-possible l n xs d o p m e)

admitted-so : (l : Pairing) (c : ℕ) (x : Line) (o : Opener) (b : Bool) → o ≡ TheDevice → b ≡ false
    → admits_it l c x o b ≡ (record l { peer = peer_linked (Some c) l.peer; connections = set_number l.connections c (record x { accepted = true }) }, Performed)
admitted-so l c x Nobody b e f = absurd (cc)
admitted-so l c x TheServer b e f = absurd (cc)
admitted-so l c x TheDevice true e f = absurd (cc)
admitted-so l c x TheDevice false e f = refl

pub admission : (l : Pairing) (n m : NcsTables MemoryKeeper) (xs : List Connection) (d c : ℕ) (o : Outcome) → (l.connections c).opener ≡ TheDevice → (l.connections c).accepted ≡ false → (ncs_of n).peers d ≡ l.peer
    → ncs_of m ≡ with_peer (ncs_of n) d (peer_linked (Some c) ((ncs_of n).peers d)) → MatchesConnections xs (d + 1) (set_number l.connections c (record (l.connections c) { accepted = true })) → outcome_of o ≡ Told.Done
    → IsServerEventStep l (admits_it l c (l.connections c) (l.connections c).opener (l.connections c).accepted) m xs d o
admission l n m xs d c o a b p s k e =
    subst (λ (z : Pairing × Effect). IsServerEventStep l z m xs d o) (sym (admitted-so l c (l.connections c) (l.connections c).opener (l.connections c).accepted a b)) (record {
      peer = peer-written n m d (peer_linked (Some c) ((ncs_of n).peers d)) s ∙ ap (peer_linked (Some c)) p;
      connections = k;
      gate = refl;
      decks = refl;
      applied = refl;
      outcome = e;
    })
