-- A world in memory at its opening, and after commands, losses and restarts.
use Rattle.std.proofs.Common.{◌≡◌, ℕ, zero, suc, ◌+◌, ◌<◌, List, [], ◌∷◌, ◌++◌, length, slice_get, Bool, true, false, Option, Some, None, refl, sym, ap, ◌∙◌, subst, arith, if◌then◌else◌, ◌&&◌, nat_le}
use Rattle.mos_edits.specs.Entries.{Entry, IsEntry, AreEntries, acceptance}
use Rattle.mos_edits.specs.Texts.{set_number}
use Rattle.mos_machines.specs.Server.{Verdict, no_peer, verdict}
use Rattle.mos_machines.specs.Server.Verdict.{Takes, Fails, Refuses}
use Rattle.mos_machines.specs.Steps.{ServerState}
use Rattle.rundown_log.specs.Memory.{Doubt, MemoryKeeper, doubt_of, kept_with, kept as kept_of, settled, settled_doubt}
use Rattle.ncs_core.specs.State.{NcsTables, devices_of, ncs_of}
use Rattle.world_scripts.specs.Outcomes.{outcome_of}
use Rattle.world_scripts.specs.declared.outcome.Outcome.{Outcome}
use Rattle.world_laws.specs.Outcomes.{Outcome as Told, outcome_of as outcome_told}
use Rattle.world_laws.specs.World.{Connection as Line, Direction, Effect, Pairing, World, commanded, kept_journal, lose, no_connection, no_pairing, opening, world_step}
use Rattle.world_laws.specs.World.Effect.{Impossible, Performed}
use Rattle.world_laws.specs.World.WorldEvent.{Command, FailNext, Lose, Restart}
use Rattle.written_laws.specs.Worlds.{IsSoundCommand, KeepsLimits}
use Rattle.world_parts.specs.Matching.{HasGateway, MatchesConnections, MatchesGateway}
use Rattle.world_parts.specs.declared.connection.Connection.{Connection}
use Rattle.world_parts.specs.declared.gateway.Gateway.{Gateway}
use Rattle.world_stage.specs.Commanding.{IsCommanded}
use Rattle.world_stage.specs.Matching.{Matches, MatchesParts, MatchesServer}
use Rattle.world_stage.specs.Playing.{AreNew, IsNewServer, IsRestarted}
use Rattle.world_stage.specs.declared.play.Play.{Play}
use Rattle.world_stage.proofs.Matched.{StepsSo}
use Rattle.world_stage.proofs.SoundRuns.{soundly-opening, soundly-step}

-- ---- the opening

pub new-more : (xs : List Gateway) (x : Gateway) → AreNew xs → MatchesGateway x no_pairing → AreNew (xs ++ x ∷ [])
new-more [] x n m = (m, tt)
new-more (y ∷ ys) x n m = (n.0, new-more ys x n.1 m)

new-at : (xs : List Gateway) (d : ℕ) → AreNew xs → d < length xs → HasGateway (slice_get xs d) no_pairing
new-at [] d n h = absurd (omega arith)
new-at (x ∷ xs) zero n h = n.0
new-at (x ∷ xs) (suc d) n h = new-at xs d n.1 (omega arith)

no-connections : (d : ℕ) → MatchesConnections [] d (λ c. no_connection)
no-connections d zero = refl
no-connections d (suc c) = refl

pub opening-matched : (t : Play) (devices : ℕ) → IsNewServer t.ncs devices → AreNew t.gateways.items → length t.gateways.items ≡ devices → t.connections.items ≡ [] → Matches t (opening devices)
opening-matched t devices n g k c = record {
  parts = record {
    rest = record { server = n.server; count = ap length c; devices = n.count; gateways = k };
    pairings = λ d h. record {
      peer = ap (λ (s : ServerState). s.peers d) n.state;
      gateway = new-at t.gateways.items d g (subst (λ (m : ℕ). d < m) (sym k) h);
      connections = subst (λ (xs : List Connection). MatchesConnections xs (d + 1) (λ e. no_connection)) (sym c) (no-connections (d + 1));
    };
    entries = tt;
    uncertain = λ e h. absurd (cc);
  };
  reached = soundly-opening devices;
}

-- ---- commands

each-push : (es : List Entry) (e : Entry) → AreEntries es → IsEntry e → AreEntries (es ++ e ∷ [])
each-push [] e a i = (i, tt)
each-push (x ∷ xs) e a i = (a.0, each-push xs e a.1 i)

same-gateway : (x : Option Gateway) (l k : Pairing) → k.gate ≡ l.gate → k.decks ≡ l.decks → k.applied ≡ l.applied → HasGateway x l → HasGateway x k
same-gateway None l k g d a m = m
same-gateway (Some x) l k g d a m = record { gate = m.gate ∙ sym g; decks = m.decks ∙ sym d; applied = m.applied ∙ sym a }

commanded-parts : (t u : Play) (w : World) (e : Entry) (v : Verdict) → IsEntry e → MatchesParts t w → u.gateways.items ≡ t.gateways.items → u.connections.items ≡ t.connections.items → devices_of u.ncs ≡ devices_of t.ncs → MatchesServer u.ncs (commanded w e v).0
    → ((d b : ℕ) → (ncs_of t.ncs).peers d ≡ (w.pairings b).peer → (ncs_of u.ncs).peers d ≡ ((commanded w e v).0.pairings b).peer) → MatchesParts u (commanded w e v).0
commanded-parts t u w e Takes i m g c k s p = record {
  rest = record { server = s; count = ap length c ∙ m.rest.count; devices = k ∙ m.rest.devices; gateways = ap length g ∙ m.rest.gateways };
  pairings = λ d h. let q = m.pairings d h in record {
    peer = p d (d + 1) q.peer;
    gateway = subst (λ (xs : List Gateway). HasGateway (slice_get xs d) ((commanded w e Takes).0.pairings (d + 1))) (sym g) (same-gateway (slice_get t.gateways.items d) (w.pairings (d + 1)) ((commanded w e Takes).0.pairings (d + 1)) refl refl refl q.gateway);
    connections = subst (λ (xs : List Connection). MatchesConnections xs (d + 1) (w.pairings (d + 1)).connections) (sym c) q.connections;
  };
  entries = each-push w.journal e m.entries i;
  uncertain = m.uncertain;
}
commanded-parts t u w e Fails i m g c k s p = record {
  rest = record { server = s; count = ap length c ∙ m.rest.count; devices = k ∙ m.rest.devices; gateways = ap length g ∙ m.rest.gateways };
  pairings = λ d h. let q = m.pairings d h in record {
    peer = p d (d + 1) q.peer;
    gateway = subst (λ (xs : List Gateway). HasGateway (slice_get xs d) (w.pairings (d + 1))) (sym g) q.gateway;
    connections = subst (λ (xs : List Connection). MatchesConnections xs (d + 1) (w.pairings (d + 1)).connections) (sym c) q.connections;
  };
  entries = m.entries;
  uncertain = λ x h. let same : e ≡ x = cc in subst (λ (y : Entry). IsEntry y) same i;
}
commanded-parts t u w e (Refuses r) i m g c k s p = record {
  rest = record { server = s; count = ap length c ∙ m.rest.count; devices = k ∙ m.rest.devices; gateways = ap length g ∙ m.rest.gateways };
  pairings = λ d h. let q = m.pairings d h in record {
    peer = p d (d + 1) q.peer;
    gateway = subst (λ (xs : List Gateway). HasGateway (slice_get xs d) (w.pairings (d + 1))) (sym g) q.gateway;
    connections = subst (λ (xs : List Connection). MatchesConnections xs (d + 1) (w.pairings (d + 1)).connections) (sym c) q.connections;
  };
  entries = m.entries;
  uncertain = m.uncertain;
}

pub commanded-so : (t u : Play) (w : World) (e : Entry) (o : Outcome) → IsEntry e → IsSoundCommand (Command e) → KeepsLimits (Command e) → Matches t w → IsCommanded t.ncs u.ncs e o → u.gateways.items ≡ t.gateways.items → u.connections.items ≡ t.connections.items → StepsSo u w (Command e) o
commanded-so t u w e o i sound limits m h g c =
    let k = h.within w m.parts.rest.server in (
      record {
        parts = commanded-parts t u w e (verdict w.stopped w.failing (acceptance w.journal e)) i m.parts g c h.devices k.server k.peers;
        reached = soundly-step w (Command e) m.reached sound limits;
      },
      k.outcome,
    )

-- ---- losses

pub lost-so : (t u : Play) (w : World) (c : ℕ) (way : Direction) (k : ℕ) (o : Outcome) → Matches t w → (nat_le 1 c && nat_le c (length t.connections.items)) ≡ true → u.ncs ≡ t.ncs → u.gateways.items ≡ t.gateways.items → length u.connections.items ≡ length t.connections.items
    → ((d : ℕ) (lines : ℕ → Line) → MatchesConnections t.connections.items d lines → MatchesConnections u.connections.items d (set_number lines c (lose way k (lines c)))) → outcome_of o ≡ Told.Done → StepsSo u w (Lose c way k) o
lost-so t u w c way k o m there n g count lost e =
    let x : World × Effect = (record w { pairings = λ d. record (w.pairings d) { connections = set_number (w.pairings d).connections c (lose way k ((w.pairings d).connections c)) } }, Performed) in
    let here : (nat_le 1 c && nat_le c w.count) ≡ true = subst (λ (j : ℕ). (nat_le 1 c && nat_le c j) ≡ true) m.parts.rest.count there in
    let server = subst (λ (q : NcsTables MemoryKeeper). MatchesServer q w) (sym n) m.parts.rest.server in
    let parts : MatchesParts u x.0 = record {
      rest = record {
        server = record { journal = server.journal; stopped = server.stopped; keeper = record { certain = server.keeper.certain; doubtful = server.keeper.doubtful; failing = server.keeper.failing; fails = server.keeper.fails; stands = server.keeper.stands }; kept = server.kept; running = server.running };
        count = count ∙ m.parts.rest.count;
        devices = ap devices_of n ∙ m.parts.rest.devices;
        gateways = ap length g ∙ m.parts.rest.gateways;
      };
      pairings = λ d h. let q = m.parts.pairings d h in record {
        peer = ap (λ (y : NcsTables MemoryKeeper). (ncs_of y).peers d) n ∙ q.peer;
        gateway = subst (λ (xs : List Gateway). HasGateway (slice_get xs d) (x.0.pairings (d + 1))) (sym g) (same-gateway (slice_get t.gateways.items d) (w.pairings (d + 1)) (x.0.pairings (d + 1)) refl refl refl q.gateway);
        connections = lost (d + 1) (w.pairings (d + 1)).connections q.connections;
      };
      entries = m.parts.entries;
      uncertain = m.parts.uncertain;
    } in (
      record {
        parts = subst (λ (b : Bool). let z : World × Effect = if b then x else (w, Impossible) in MatchesParts u z.0) (sym here) parts;
        reached = soundly-step w (Lose c way k) m.reached tt tt;
      },
      subst (λ (b : Bool). let z : World × Effect = if b then x else (w, Impossible) in outcome_of o ≡ outcome_told z.1) (sym here) e,
    )

pub not-lost : (t : Play) (w : World) (c : ℕ) (way : Direction) (k : ℕ) (o : Outcome) → Matches t w → (nat_le 1 c && nat_le c (length t.connections.items)) ≡ false → outcome_of o ≡ Told.Impossible → StepsSo t w (Lose c way k) o
not-lost t w c way k o m there e =
    let x : World × Effect = (record w { pairings = λ d. record (w.pairings d) { connections = set_number (w.pairings d).connections c (lose way k ((w.pairings d).connections c)) } }, Performed) in
    let here : (nat_le 1 c && nat_le c w.count) ≡ false = subst (λ (j : ℕ). (nat_le 1 c && nat_le c j) ≡ false) m.parts.rest.count there in
    subst (λ (b : Bool). let z : World × Effect = if b then x else (w, Impossible) in Matches t z.0 × (outcome_of o ≡ outcome_told z.1)) (sym here) (m, e)

-- ---- failing appends

pub failing-so : (t u : Play) (w : World) (o : Outcome) → Matches t w → u.ncs ≡ record t.ncs { keeper = record t.ncs.keeper { failing = true } } → u.gateways.items ≡ t.gateways.items → u.connections.items ≡ t.connections.items → outcome_of o ≡ Told.Done → StepsSo u w FailNext o
failing-so t u w o m n g c e = (
  record {
    parts = record {
      rest = record {
        server = record {
          journal = ap (λ (q : NcsTables MemoryKeeper). q.server.journal) n ∙ m.parts.rest.server.journal;
          stopped = ap (λ (q : NcsTables MemoryKeeper). q.server.stopped) n ∙ m.parts.rest.server.stopped;
          keeper = record {
            certain = ap (λ (q : NcsTables MemoryKeeper). q.keeper.certain) n ∙ m.parts.rest.server.keeper.certain;
            doubtful = ap (λ (q : NcsTables MemoryKeeper). q.keeper.doubtful) n ∙ m.parts.rest.server.keeper.doubtful;
            failing = ap (λ (q : NcsTables MemoryKeeper). q.keeper.failing) n;
            fails = ap (λ (q : NcsTables MemoryKeeper). q.keeper.fails) n ∙ m.parts.rest.server.keeper.fails;
            stands = ap (λ (q : NcsTables MemoryKeeper). q.keeper.stands) n ∙ m.parts.rest.server.keeper.stands;
          };
          kept = ap (λ (q : NcsTables MemoryKeeper). q.kept) n ∙ m.parts.rest.server.kept;
          running = m.parts.rest.server.running;
        };
        count = ap length c ∙ m.parts.rest.count;
        devices = ap devices_of n ∙ m.parts.rest.devices;
        gateways = ap length g ∙ m.parts.rest.gateways;
      };
      pairings = λ d h. let q = m.parts.pairings d h in record {
        peer = ap (λ (y : NcsTables MemoryKeeper). (ncs_of y).peers d) n ∙ q.peer;
        gateway = subst (λ (xs : List Gateway). HasGateway (slice_get xs d) (w.pairings (d + 1))) (sym g) q.gateway;
        connections = subst (λ (xs : List Connection). MatchesConnections xs (d + 1) (w.pairings (d + 1)).connections) (sym c) q.connections;
      };
      entries = m.parts.entries;
      uncertain = m.parts.uncertain;
    };
    reached = soundly-step w FailNext m.reached tt tt;
  },
  e,
)

-- ---- restarts

settled-is : (b : Bool) (o : Option Entry) (j : List Entry) → kept_with (settled_doubt b (doubt_of false o)) j ≡ kept_journal j b o
settled-is true (Some e) j = refl
settled-is true None j = refl
settled-is false (Some e) j = refl
settled-is false None j = refl

kept-entries : (j : List Entry) (b : Bool) (o : Option Entry) → AreEntries j → ((e : Entry) → o ≡ Some e → IsEntry e) → AreEntries (kept_journal j b o)
kept-entries j true (Some e) a h = each-push j e a (h e refl)
kept-entries j true None a h = a
kept-entries j false (Some e) a h = a
kept-entries j false None a h = a

pub restarted-so : (t u : Play) (w : World) (kept : Bool) → Matches t w → IsRestarted t.ncs u.ncs kept → u.gateways.items ≡ t.gateways.items → u.connections.items ≡ t.connections.items → Matches u (world_step w (Restart kept)).0
restarted-so t u w kept m r g c =
    let old = m.parts.rest.server in
    let after : kept_of (settled t.ncs.keeper kept) ≡ kept_journal w.journal kept w.uncertain =
    ap (λ (o : Option Doubt). kept_with (settled_doubt kept o) t.ncs.keeper.certain) old.keeper.doubtful ∙ (ap (λ (j : List Entry). kept_with (settled_doubt kept (doubt_of false w.uncertain)) j) old.keeper.certain ∙ settled-is kept w.uncertain w.journal) in
    let entries : u.ncs.keeper.certain ≡ kept_journal w.journal kept w.uncertain = ap (λ (k : MemoryKeeper). k.certain) r.keeper ∙ after in
    record {
      parts = record {
        rest = record {
          server = record {
            journal = r.loaded ∙ after;
            stopped = ap (λ (s : ServerState). s.stopped) r.state;
            keeper = record {
              certain = entries;
              doubtful = ap (λ (k : MemoryKeeper). k.doubtful) r.keeper;
              failing = ap (λ (k : MemoryKeeper). k.failing) r.keeper ∙ old.keeper.failing;
              fails = ap (λ (k : MemoryKeeper). k.fails) r.keeper ∙ old.keeper.fails;
              stands = ap (λ (k : MemoryKeeper). k.stands) r.keeper ∙ old.keeper.stands;
            };
            kept = r.kept ∙ ap Some after;
            running = λ h. refl;
          };
          count = ap length c ∙ m.parts.rest.count;
          devices = r.devices ∙ m.parts.rest.devices;
          gateways = ap length g ∙ m.parts.rest.gateways;
        };
        pairings = λ d h. let q = m.parts.pairings d h in record {
          peer = ap (λ (s : ServerState). s.peers d) r.state;
          gateway = subst (λ (xs : List Gateway). HasGateway (slice_get xs d) (record (w.pairings (d + 1)) { peer = no_peer })) (sym g) (same-gateway (slice_get t.gateways.items d) (w.pairings (d + 1)) (record (w.pairings (d + 1)) { peer = no_peer }) refl refl refl q.gateway);
          connections = subst (λ (xs : List Connection). MatchesConnections xs (d + 1) (w.pairings (d + 1)).connections) (sym c) q.connections;
        };
        entries = kept-entries w.journal kept w.uncertain m.parts.entries m.parts.uncertain;
        uncertain = λ e h. absurd (cc);
      };
      reached = soundly-step w (Restart kept) m.reached tt tt;
    }
