-- A world in memory after an event at a device.
use Rattle.std.proofs.Common.{◌≡◌, ℕ, zero, suc, ◌+◌, ◌<◌, List, [], ◌∷◌, length, get_or, slice_get, Bool, true, false, Option, Some, None, refl, sym, ap, ◌∙◌, subst, arith, if◌then◌else◌, ◌==◌, ◌&&◌, nat_le}
use Rattle.std.proofs.lemmas.Bool.Decides.{nat_tests}
use Rattle.std.proofs.lemmas.List.{length-set}
use Rattle.std.proofs.Math.ListN.{set}
use Rattle.mos_edits.specs.Entries.{Entry}
use Rattle.rundown_log.specs.Memory.{MemoryKeeper}
use Rattle.ncs_core.specs.State.{NcsTables, ncs_of, devices_of}
use Rattle.world_scripts.specs.Outcomes.{outcome_of}
use Rattle.world_scripts.specs.declared.outcome.Outcome.{Outcome}
use Rattle.world_laws.specs.Outcomes.{outcome_of as outcome_told, outcome, Outcome as Told}
use Rattle.world_laws.specs.Reached.{HasLinks}
use Rattle.world_laws.specs.World.{Effect, Pairing, PairingEvent, World, WorldEvent, at_device, has_device, opens_one, pairing_step, world_step}
use Rattle.world_laws.specs.World.Effect.{Impossible}
use Rattle.world_laws.specs.World.WorldEvent.{AtDevice}
use Rattle.world_laws.proofs.Reaching.{reached-links, reached-within}
use Rattle.written_laws.specs.Worlds.{KeepsLimits}
use Rattle.world_parts.specs.Matching.{AreReadable, HasGateway, HaveEncodings, LeavesOthers, MatchesConnections, MatchesGateway}
use Rattle.world_parts.specs.declared.gateway.Gateway.{Gateway}
use Rattle.world_parts.proofs.ReadableLines.{readable-connections}
use Rattle.world_stage.specs.Matching.{IsSized, Matches, MatchesKeeper, MatchesPairing, MatchesParts}
use Rattle.world_stage.specs.Steps.{GatewayStep, IsReady, LeavesServer, PairingStep, ServerEventStep}
use Rattle.world_stage.specs.declared.play.Play.{Play}
use Rattle.world_stage.proofs.SoundRuns.{encodings, some-run, soundly-step}
use Rattle.world_stage.proofs.Tables.{leaves-same}

-- ---- one gateway written

get-here : {X : Type 0} (xs : List X) (i : ℕ) (y : X) → i < length xs → slice_get (set xs i y) i ≡ Some y
get-here [] i y h = absurd (omega arith)
get-here (x ∷ xs) zero y h = refl
get-here (x ∷ xs) (suc i) y h = get-here xs i y (omega arith)

get-other : {X : Type 0} (xs : List X) (i b : ℕ) (y : X) → (b ≡ i → ⊥) → slice_get (set xs i y) b ≡ slice_get xs b
get-other [] i b y h = refl
get-other (x ∷ xs) zero zero y h = absurd (h refl)
get-other (x ∷ xs) zero (suc b) y h = refl
get-other (x ∷ xs) (suc i) zero y h = refl
get-other (x ∷ xs) (suc i) (suc b) y h = get-other xs i b y (λ e. h (ap suc e))

pub get-found : {X : Type 0} (xs : List X) (i : ℕ) (y : X) → i < length xs → y ≡ get_or xs i y → slice_get xs i ≡ Some y
get-found [] i y h e = absurd (omega arith)
get-found (x ∷ xs) zero y h e = ap Some (sym e)
get-found (x ∷ xs) (suc i) y h e = get-found xs i y (omega arith) e

other-number : (b d : ℕ) → (b ≡ d → ⊥) → b + 1 ≡ d + 1 → ⊥
other-number b d h e = h (let s : b ≡ d = omega arith in s)

-- ---- an event at a device

pub device-step : (t u : Play) (d : ℕ) (e : PairingEvent) (o : Outcome) (x y : Gateway) → d < length t.gateways.items → slice_get t.gateways.items d ≡ Some x → u.gateways.items ≡ set t.gateways.items d y → u.ncs ≡ t.ncs
    → length u.connections.items ≡ length t.connections.items + opens_one e → LeavesOthers t.connections.items u.connections.items (d + 1)
    → ((journal : List Entry) (l : Pairing) → MatchesGateway x l → MatchesConnections t.connections.items (d + 1) l.connections → HasLinks l → HaveEncodings l.connections → GatewayStep journal (length t.connections.items + 1) l e y u.connections.items (d + 1) o) → PairingStep t u d e o
device-step t u d e o x y h g s n k others f = record {
  server = subst (λ (m : NcsTables MemoryKeeper). LeavesServer t.ncs m d) (sym n) (leaves-same t.ncs d);
  count = k;
  gateways = ap length s ∙ length-set t.gateways.items d y;
  others = λ b l i m. record {
    peer = ap (λ (q : NcsTables MemoryKeeper). (ncs_of q).peers b) n ∙ m.peer;
    gateway = subst (λ (z : Option Gateway). HasGateway z l) (sym (ap (λ (zs : List Gateway). slice_get zs b) s ∙ get-other t.gateways.items d b y i)) m.gateway;
    connections = others (b + 1) l.connections (other-number b d i) m.connections;
  };
  pairing = λ l m r. let step = f t.ncs.server.journal l (subst (λ (z : Option Gateway). HasGateway z l) g m.gateway) m.connections r.links r.encodings in record {
    peer = ap (λ (q : NcsTables MemoryKeeper). (ncs_of q).peers d) n ∙ (m.peer ∙ sym step.peer);
    gateway = subst (λ (z : Option Gateway). HasGateway z (pairing_step t.ncs.server.journal (length t.connections.items + 1) l e).0) (sym (ap (λ (zs : List Gateway). slice_get zs d) s ∙ get-here t.gateways.items d y h)) step.gateway;
    connections = step.connections;
  };
  outcome = λ l m r. (f t.ncs.server.journal l (subst (λ (z : Option Gateway). HasGateway z l) g m.gateway) m.connections r.links r.encodings).outcome;
}

gateway-same : (x : Option Gateway) (l k : Pairing) → k.gate ≡ l.gate → k.decks ≡ l.decks → k.applied ≡ l.applied → HasGateway x l → HasGateway x k
gateway-same None l k g d a m = m
gateway-same (Some x) l k g d a m = record { gate = m.gate ∙ sym g; decks = m.decks ∙ sym d; applied = m.applied ∙ sym a }

pub server-step : (t u : Play) (d : ℕ) (e : PairingEvent) (o : Outcome) → u.gateways.items ≡ t.gateways.items → LeavesServer t.ncs u.ncs d → length u.connections.items ≡ length t.connections.items + opens_one e → LeavesOthers t.connections.items u.connections.items (d + 1)
    → ((l : Pairing) → (ncs_of t.ncs).peers d ≡ l.peer → MatchesConnections t.connections.items (d + 1) l.connections → IsReady t.ncs.server.journal l → ServerEventStep (length t.connections.items + 1) l e t.ncs u.ncs u.connections.items d o) → PairingStep t u d e o
server-step t u d e o g s k others f = record {
  server = s;
  count = k;
  gateways = ap length g;
  others = λ b l i m. record {
    peer = s.others b i ∙ m.peer;
    gateway = subst (λ (zs : List Gateway). HasGateway (slice_get zs b) l) (sym g) m.gateway;
    connections = others (b + 1) l.connections (other-number b d i) m.connections;
  };
  pairing = λ l m r. let step = f l m.peer m.connections r in record {
    peer = step.peer;
    gateway = subst (λ (zs : List Gateway). HasGateway (slice_get zs d) (pairing_step t.ncs.server.journal (length t.connections.items + 1) l e).0) (sym g) (gateway-same (slice_get t.gateways.items d) l (pairing_step t.ncs.server.journal (length t.connections.items + 1) l e).0 step.gate step.decks step.applied m.gateway);
    connections = step.connections;
  };
  outcome = λ l m r. (f l m.peer m.connections r).outcome;
}

-- ---- the world

-- what the invariant of the world says of a pairing, by the journal in memory
pub ready : (t : Play) (w : World) (d : ℕ) → Matches t w → IsReady t.ncs.server.journal (w.pairings (d + 1))
ready t w d m = subst (λ (j : List Entry). IsReady j (w.pairings (d + 1))) (sym m.parts.rest.server.journal) (record {
  links = reached-links w (d + 1) (some-run w m.reached);
  entries = m.parts.entries;
  peer = reached-within w (some-run w m.reached) (d + 1);
  encodings = encodings w (d + 1) m.reached;
})

-- what is unread on the connections of device `d`, from 0, can be read
pub readable-at-device : (t : Play) (w : World) (d : ℕ) → Matches t w → d < devices_of t.ncs → AreReadable t.connections.items (d + 1)
readable-at-device t w d m h =
    readable-connections t.connections.items (d + 1) (w.pairings (d + 1)).connections (m.parts.pairings d (subst (λ (n : ℕ). d < n) m.parts.rest.devices h)).connections
    (encodings w (d + 1) m.reached)

-- each device has its gateway
pub sized-so : (t : Play) (w : World) → Matches t w → IsSized t
sized-so t w m = m.parts.rest.gateways ∙ sym m.parts.rest.devices

-- the pairings after one was written
written : (u : Play) (w : World) (d : ℕ) (l : Pairing) (b : ℕ) (c : Bool) → ((b + 1) == (d + 1)) ≡ c → MatchesPairing u d l → ((b ≡ d → ⊥) → MatchesPairing u b (w.pairings (b + 1))) → MatchesPairing u b (if c then l else w.pairings (b + 1))
written u w d l b true e m n = let here : d ≡ b = grind (arith, nat_tests, e) in subst (λ (x : ℕ). MatchesPairing u x l) here m
written u w d l b false e m n = n (λ h. let no : true ≡ false = grind (arith, nat_tests, e, h) in absurd (cc))

pub keeper-kept : (k : MemoryKeeper) (w : World) (n : MemoryKeeper) → n ≡ k → MatchesKeeper k w → MatchesKeeper n w
keeper-kept k w n e m = subst (λ (x : MemoryKeeper). MatchesKeeper x w) (sym e) m

-- the parts after an event at device `d`, from 0, which made this of its pairing
parts-at : (t u : Play) (w : World) (d : ℕ) (e : PairingEvent) (o : Outcome) (z : Pairing × Effect) → MatchesParts t w → PairingStep t u d e o → MatchesPairing u d z.0 → MatchesParts u (at_device w (d + 1) e z).0
parts-at t u w d e o (l, f) m s p = record {
  rest = record {
    server = record {
      journal = s.server.journal ∙ m.rest.server.journal;
      stopped = s.server.stopped ∙ m.rest.server.stopped;
      keeper = let k = keeper-kept t.ncs.keeper w u.ncs.keeper s.server.rest.keeper m.rest.server.keeper in record { certain = k.certain; doubtful = k.doubtful; failing = k.failing; fails = k.fails; stands = k.stands };
      kept = s.server.rest.kept ∙ m.rest.server.kept;
      running = m.rest.server.running;
    };
    count = s.count ∙ ap (λ (n : ℕ). n + opens_one e) m.rest.count;
    devices = s.server.rest.devices ∙ m.rest.devices;
    gateways = s.gateways ∙ m.rest.gateways;
  };
  pairings = λ b h. written u w d l b ((b + 1) == (d + 1)) refl p (λ n. s.others b (w.pairings (b + 1)) n (m.pairings b h));
  entries = m.entries;
  uncertain = m.uncertain;
}

outcome-at : (w : World) (d : ℕ) (e : PairingEvent) (z : Pairing × Effect) → (at_device w d e z).1 ≡ z.1
outcome-at w d e (l, f) = refl

-- the world and what is told, after an event at a device
abbrev pub StepsSo : Play → World → WorldEvent → Outcome → Type 0
StepsSo u w e o = Matches u (world_step w e).0 × (outcome_of o ≡ outcome w e)

pub at-device : (t u : Play) (w : World) (d : ℕ) (e : PairingEvent) (o : Outcome) → Matches t w → d < w.devices → KeepsLimits (AtDevice (d + 1) e) → PairingStep t u d e o → StepsSo u w (AtDevice (d + 1) e) o
at-device t u w d e o m h limits s =
    let l = w.pairings (d + 1) in
    let there : has_device w (d + 1) ≡ true = grind (arith, nat_tests, h) in
    let journal = m.parts.rest.server.journal in
    let count : length t.connections.items ≡ w.count = m.parts.rest.count in
    let r = ready t w d m in
    let pairing : MatchesPairing u d (pairing_step w.journal (w.count + 1) l e).0 =
    subst (λ (n : ℕ). MatchesPairing u d (pairing_step w.journal (n + 1) l e).0) count (subst (λ (j : List Entry). MatchesPairing u d (pairing_step j (length t.connections.items + 1) l e).0) journal (s.pairing l (m.parts.pairings d h) r)) in
    let told : outcome_of o ≡ outcome_told (pairing_step w.journal (w.count + 1) l e).1 =
    subst (λ (n : ℕ). outcome_of o ≡ outcome_told (pairing_step w.journal (n + 1) l e).1) count (subst (λ (j : List Entry). outcome_of o ≡ outcome_told (pairing_step j (length t.connections.items + 1) l e).1) journal (s.outcome l (m.parts.pairings d h) r)) in (
      record {
        parts = subst (λ (b : Bool). let z : World × Effect = if b then at_device w (d + 1) e (pairing_step w.journal (w.count + 1) l e) else (w, Impossible) in MatchesParts u z.0) (sym there)
            (parts-at t u w d e o (pairing_step w.journal (w.count + 1) l e) m.parts s pairing);
        reached = soundly-step w (AtDevice (d + 1) e) m.reached tt limits;
      },
      subst (λ (b : Bool). let z : World × Effect = if b then at_device w (d + 1) e (pairing_step w.journal (w.count + 1) l e) else (w, Impossible) in outcome_of o ≡ outcome_told z.1) (sym there)
          (told ∙ ap outcome_told (sym (outcome-at w (d + 1) e (pairing_step w.journal (w.count + 1) l e)))),
    )

-- there is no such device
pub no-device : (t : Play) (w : World) (d : ℕ) (e : PairingEvent) (o : Outcome) → Matches t w → has_device w d ≡ false → outcome_of o ≡ Told.Impossible → StepsSo t w (AtDevice d e) o
no-device t w d e o m h k =
    subst (λ (b : Bool). let z : World × Effect = if b then at_device w d e (pairing_step w.journal (w.count + 1) (w.pairings d) e) else (w, Impossible) in Matches t z.0 × (outcome_of o ≡ outcome_told z.1)) (sym h) (m, k)

-- the same by the place of the device
pub at-place : (t u : Play) (w : World) (d p : ℕ) (e : PairingEvent) (o : Outcome) → Matches t w → p + 1 ≡ d → p < devices_of t.ncs → ((b : ℕ) → KeepsLimits (AtDevice b e)) → PairingStep t u p e o → StepsSo u w (AtDevice d e) o
at-place t u w d p e o m s h limits k = subst (λ (x : ℕ). StepsSo u w (AtDevice x e) o) s (at-device t u w p e o m (subst (λ (n : ℕ). p < n) m.parts.rest.devices h) (limits (p + 1)) k)

pub at-no-place : (t : Play) (w : World) (d n : ℕ) (e : PairingEvent) (o : Outcome) → Matches t w → n ≡ devices_of t.ncs → (nat_le 1 d && nat_le d n) ≡ false → outcome_of o ≡ Told.Impossible → StepsSo t w (AtDevice d e) o
at-no-place t w d n e o m s h k = no-device t w d e o m (ap (λ (x : ℕ). nat_le 1 d && nat_le d x) (sym (s ∙ m.parts.rest.devices)) ∙ h) k
