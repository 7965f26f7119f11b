-- A command, as the world's definition has it.
use Rattle.std.proofs.Common.{◌≡◌, ℕ, List, [], ◌∷◌, ◌++◌, Bool, true, false, Option, Some, None, Ok, Err, refl, sym, ap, ◌∙◌, subst}
use Rattle.mos_edits.specs.KeyedLists.{ActFault}
use Rattle.mos_edits.specs.Entries.{Entry, Refusal, acceptance, entry_count}
use Rattle.mos_machines.specs.Messages.{Status, status_text}
use Rattle.mos_machines.specs.Server.{PeerState, Verdict, peer_given, refusal_status, verdict}
use Rattle.mos_machines.specs.Server.Verdict.{Takes, Fails, Refuses}
use Rattle.mos_machines.specs.Steps.{ServerState, ServerEvent, ServerStep, StepAnswer, server_told}
use Rattle.rundown_log.specs.declared.keeper.KeepFault.TheVariants as keeping
use Rattle.rundown_log.specs.Memory.{Doubt, MemoryKeeper, IsAppended, doubt_of, fails_next, kept as kept_of, kept_with}
use Rattle.ncs_core.specs.Commands.{HasCause, LeavesAfter, LeavesKeeper, fault_status}
use Rattle.ncs_core.specs.State.{NcsTables, devices_of, ncs_of}
use Rattle.ncs_core.specs.declared.fault.CommandFault.{CommandFault}
use Rattle.ncs_core.specs.declared.fault.CommandFault.TheVariants.{Stopped, Missing, AlreadyThere, Full, StoreFault, NoMemory}
use Rattle.world_scripts.specs.Outcomes.{outcome_of}
use Rattle.world_scripts.specs.declared.outcome.Outcome.{Outcome}
use Rattle.world_laws.specs.Outcomes.{Outcome as Told, outcome_of as outcome_told}
use Rattle.world_laws.specs.World.{Effect, World, commanded}
use Rattle.world_stage.specs.Commanding.{IsCommanded, IsCommandedIn, IsToldFor, IsToldOf}
use Rattle.world_stage.specs.Matching.{MatchesKeeper, MatchesServer}

-- ---- what fails

no-fault : (k : MemoryKeeper) (b : Bool) → k.fails ≡ [] → k.failing ≡ b → fails_next k ≡ b
no-fault k true f h = rw h refl
no-fault k false f h = rw (h, f) refl

failing-is : (k : MemoryKeeper) (b : Bool) → k.fails ≡ [] → fails_next k ≡ b → k.failing ≡ b
failing-is k b f h = sym (no-fault k k.failing f refl) ∙ h

verdict-is : (a b c d : Bool) (why because : Option Refusal) → a ≡ b → c ≡ d → why ≡ because → verdict a c why ≡ verdict b d because
verdict-is a b c d why because h f g = λ i. verdict (h i) (f i) (g i)

-- the keeper keeps the journal, whatever is in doubt
doubted-kept : (o : Option Entry) (j : List Entry) → kept_with (doubt_of false o) j ≡ j
doubted-kept None j = refl
doubted-kept (Some e) j = refl

kept-journal : (k : MemoryKeeper) (w : World) → MatchesKeeper k w → kept_of k ≡ w.journal
kept-journal k w m = ap (λ (o : Option Doubt). kept_with o k.certain) m.doubtful ∙ (doubted-kept w.uncertain k.certain ∙ m.certain)

-- ---- the step of the server

told-takes : (s t : ServerState) (e : Entry) (b : Bool) → (server_told s e (verdict false b None)).0 ≡ StepAnswer.Told Status.Okay → record (server_told s e (verdict false b None)).1 { faults = t.faults } ≡ t
    → t ≡ record { journal = s.journal ++ e ∷ []; stopped = s.stopped; faults = t.faults; peers = λ d. peer_given e (entry_count s.journal e.ro) (s.peers d) }
told-takes s t e true a n = absurd (cc)
told-takes s t e false a n = sym n

step-takes : (s t : ServerState) (e : Entry) → s.stopped ≡ false → acceptance s.journal e ≡ None → ServerStep s (ServerEvent.Command e) (StepAnswer.Told Status.Okay) t
    → t ≡ record { journal = s.journal ++ e ∷ []; stopped = s.stopped; faults = t.faults; peers = λ d. peer_given e (entry_count s.journal e.ro) (s.peers d) }
step-takes s t e n a st =
    let v = verdict-is s.stopped false st.fails st.fails (acceptance s.journal e) None n refl a in
    told-takes s t e st.fails (sym (ap (λ (w : Verdict). (server_told s e w).0) v) ∙ st.answer) (sym (ap (λ (w : Verdict). record (server_told s e w).1 { faults = t.faults }) v) ∙ st.next)

-- ---- the world of a verdict

-- what is to be shown of the world after a verdict
pub record InWorld (n m : NcsTables MemoryKeeper) (o : Outcome) (w : World) (z : World × Effect) : Type 0 where
  pub server : MatchesServer m z.0
  pub peers : (d b : ℕ) → (ncs_of n).peers d ≡ (w.pairings b).peer → (ncs_of m).peers d ≡ (z.0.pairings b).peer
  pub outcome : outcome_of o ≡ outcome_told z.1

by-verdict : (n m : NcsTables MemoryKeeper) (e : Entry) (o : Outcome) (w : World) (v : Verdict) → verdict w.stopped w.failing (acceptance w.journal e) ≡ v → InWorld n m o w (commanded w e v) → IsCommandedIn n m e o w
by-verdict n m e o w v h i =
    let k : InWorld n m o w (commanded w e (verdict w.stopped w.failing (acceptance w.journal e))) = subst (λ (u : Verdict). InWorld n m o w (commanded w e u)) (sym h) i in
    record { server = k.server; peers = k.peers; outcome = k.outcome }

-- ---- taken

pub commanded-okay : (n m : NcsTables MemoryKeeper) (e : Entry) (o : Outcome) → n.server.stopped ≡ false → acceptance n.server.journal e ≡ None → ServerStep (ncs_of n) (ServerEvent.Command e) (StepAnswer.Told Status.Okay) (ncs_of m) → IsAppended n.keeper e (Ok tt) m.keeper
    → devices_of m ≡ devices_of n → m.kept ≡ Some (kept_of m.keeper) → outcome_of o ≡ Told.Command (status_text Status.Okay) → IsCommanded n m e o
commanded-okay n m e o running accepted step kept devices keeps told = record { devices = devices; within = within }
  where
    after : ncs_of m ≡ record { journal = n.server.journal ++ e ∷ []; stopped = n.server.stopped; faults = m.server.faults; peers = λ d. peer_given e (entry_count n.server.journal e.ro) ((ncs_of n).peers d) }
    after = step-takes (ncs_of n) (ncs_of m) e running accepted step

    within : (w : World) → MatchesServer n w → IsCommandedIn n m e o w
    within w s =
        let ok : w.failing ≡ false = sym s.keeper.failing ∙ failing-is n.keeper false s.keeper.fails kept.1 in
        let v = verdict-is w.stopped false w.failing false (acceptance w.journal e) None (sym s.stopped ∙ running) ok (sym (ap (λ (j : List Entry). acceptance j e) s.journal) ∙ accepted) in
        let entries : m.keeper.certain ≡ w.journal ++ e ∷ [] = ap (λ (k : MemoryKeeper). k.certain) kept.0 ∙ ap (λ (j : List Entry). j ++ e ∷ []) (kept-journal n.keeper w s.keeper) in
        let none : w.uncertain ≡ None = s.running (sym s.stopped ∙ running) in
        by-verdict n m e o w Takes v (record {
          server = record {
            journal = ap (λ (t : ServerState). t.journal) after ∙ ap (λ (j : List Entry). j ++ e ∷ []) s.journal;
            stopped = ap (λ (t : ServerState). t.stopped) after ∙ s.stopped;
            keeper = record {
              certain = entries;
              doubtful = ap (λ (k : MemoryKeeper). k.doubtful) kept.0 ∙ sym (ap (doubt_of false) none);
              failing = ap (λ (k : MemoryKeeper). k.failing) kept.0 ∙ s.keeper.failing;
              fails = ap (λ (k : MemoryKeeper). k.fails) kept.0 ∙ s.keeper.fails;
              stands = ap (λ (k : MemoryKeeper). k.stands) kept.0 ∙ s.keeper.stands;
            };
            kept = keeps ∙ ap Some (ap (λ (k : MemoryKeeper). kept_of k) kept.0 ∙ ap (λ (j : List Entry). j ++ e ∷ []) (kept-journal n.keeper w s.keeper));
            running = s.running;
          };
          peers = λ d b p. ap (λ (t : ServerState). t.peers d) after ∙ (ap (λ (x : PeerState). peer_given e (entry_count n.server.journal e.ro) x) p ∙ ap (λ (j : List Entry). peer_given e (entry_count j e.ro) (w.pairings b).peer) s.journal);
          outcome = told;
        })

-- ---- not taken

-- a refusal leaves the server
refused-so : (n m : NcsTables MemoryKeeper) (e : Entry) (o : Outcome) (status : Status) → ((w : World) → MatchesServer n w → verdict w.stopped w.failing (acceptance w.journal e) ≡ Refuses status) → ncs_of m ≡ ncs_of n → m.keeper ≡ n.keeper
    → devices_of m ≡ devices_of n → m.kept ≡ Some (kept_of m.keeper) → outcome_of o ≡ Told.Command (status_text status) → IsCommanded n m e o
refused-so n m e o status v same keeper devices keeps told = record {
  devices = devices;
  within = λ w s. by-verdict n m e o w (Refuses status) (v w s) (record {
    server = record {
      journal = ap (λ (t : ServerState). t.journal) same ∙ s.journal;
      stopped = ap (λ (t : ServerState). t.stopped) same ∙ s.stopped;
      keeper = subst (λ (k : MemoryKeeper). MatchesKeeper k w) (sym keeper) s.keeper;
      kept = keeps ∙ ap Some (ap (λ (k : MemoryKeeper). kept_of k) keeper ∙ kept-journal n.keeper w s.keeper);
      running = s.running;
    };
    peers = λ d b p. ap (λ (t : ServerState). t.peers d) same ∙ p;
    outcome = told;
  });
}

running-verdict : (n : NcsTables MemoryKeeper) (e : Entry) (r : Refusal) (w : World) → n.server.stopped ≡ false → acceptance n.server.journal e ≡ Some r → MatchesServer n w → verdict w.stopped w.failing (acceptance w.journal e) ≡ Refuses (refusal_status r)
running-verdict n e r w n0 a s = verdict-is w.stopped false w.failing w.failing (acceptance w.journal e) (Some r) (sym s.stopped ∙ n0) refl (sym (ap (λ (j : List Entry). acceptance j e) s.journal) ∙ a)

stopped-verdict : (n : NcsTables MemoryKeeper) (e : Entry) (w : World) → n.server.stopped ≡ true → MatchesServer n w → verdict w.stopped w.failing (acceptance w.journal e) ≡ Refuses Status.Stopped
stopped-verdict n e w n0 s = verdict-is w.stopped true w.failing w.failing (acceptance w.journal e) (acceptance w.journal e) (sym s.stopped ∙ n0) refl refl

failed-so : (n m : NcsTables MemoryKeeper) (e : Entry) (o : Outcome) → n.server.stopped ≡ false → acceptance n.server.journal e ≡ None → ncs_of m ≡ record (ncs_of n) { stopped = true; faults = m.server.faults } → IsAppended n.keeper e (Err keeping.Failed) m.keeper
    → devices_of m ≡ devices_of n → m.kept ≡ Some (kept_of m.keeper) → outcome_of o ≡ Told.Command (status_text Status.StoreFault) → IsCommanded n m e o
failed-so n m e o running accepted after kept devices keeps told = record { devices = devices; within = within }
  where
    within : (w : World) → MatchesServer n w → IsCommandedIn n m e o w
    within w s =
        let fails : w.failing ≡ true = sym s.keeper.failing ∙ failing-is n.keeper true s.keeper.fails kept.1 in
        let v = verdict-is w.stopped false w.failing true (acceptance w.journal e) None (sym s.stopped ∙ running) fails (sym (ap (λ (j : List Entry). acceptance j e) s.journal) ∙ accepted) in
        let entries : m.keeper.certain ≡ w.journal = ap (λ (k : MemoryKeeper). k.certain) kept.0 ∙ kept-journal n.keeper w s.keeper in
        let doubt : m.keeper.doubtful ≡ doubt_of false (Some e) = ap (λ (k : MemoryKeeper). k.doubtful) kept.0 ∙ ap (λ (b : Bool). doubt_of b (Some e)) s.keeper.stands in
        by-verdict n m e o w Fails v (record {
          server = record {
            journal = ap (λ (t : ServerState). t.journal) after ∙ s.journal;
            stopped = ap (λ (t : ServerState). t.stopped) after;
            keeper = record {
              certain = entries;
              doubtful = doubt;
              failing = ap (λ (k : MemoryKeeper). k.failing) kept.0;
              fails = ap (λ (k : MemoryKeeper). k.fails) kept.0 ∙ s.keeper.fails;
              stands = ap (λ (k : MemoryKeeper). k.stands) kept.0 ∙ s.keeper.stands;
            };
            kept = keeps ∙ ap Some (ap (λ (o : Option Doubt). kept_with o m.keeper.certain) doubt ∙ entries);
            running = λ h. absurd (cc);
          };
          peers = λ d b p. ap (λ (t : ServerState). t.peers d) after ∙ p;
          outcome = told;
        })

pub commanded-fault : (n m : NcsTables MemoryKeeper) (e : Entry) (f : CommandFault) (o : Outcome) → HasCause (ncs_of n) e m.server.faults (Err f) → LeavesAfter (ncs_of n) (ncs_of m) n.kept m.kept e (Err f) → LeavesKeeper IsAppended n.keeper m.keeper e (Err f)
    → devices_of m ≡ devices_of n → m.kept ≡ Some (kept_of m.keeper) → IsToldOf (fault_status f) (outcome_of o) → IsCommanded n m e o
commanded-fault n m e Stopped o cause leaves keeper devices keeps told = refused-so n m e o Status.Stopped (λ w s. stopped-verdict n e w cause s) leaves.0 keeper devices keeps told
commanded-fault n m e (Missing id) o cause leaves keeper devices keeps told = refused-so n m e o (Status.Faulty (ActFault.Missing id)) (λ w s. running-verdict n e (Refusal.Faulty (ActFault.Missing id)) w cause.0 cause.1 s) leaves.0 keeper devices keeps told
commanded-fault n m e (AlreadyThere id) o cause leaves keeper devices keeps told = refused-so n m e o (Status.Faulty (ActFault.AlreadyThere id)) (λ w s. running-verdict n e (Refusal.Faulty (ActFault.AlreadyThere id)) w cause.0 cause.1 s) leaves.0 keeper devices keeps told
commanded-fault n m e (Full units) o cause leaves keeper devices keeps told = refused-so n m e o (Status.Full units) (λ w s. running-verdict n e (Refusal.Full units) w cause.0 cause.1 s) leaves.0 keeper devices keeps told
commanded-fault n m e StoreFault o cause leaves keeper devices keeps told = failed-so n m e o cause.0 cause.1 leaves.0 keeper devices keeps told
commanded-fault n m e NoMemory o cause leaves keeper devices keeps told = absurd told

-- ---- what is told

pub told-of : (status : Option Status) (told : Status) (o : Told) → IsToldFor status told → o ≡ Told.Command (status_text told) → IsToldOf status o
told-of None told o h e = absurd h
told-of (Some status) told o h e = e ∙ ap Told.Command h
