-- What a command answers and leaves, by its step of the server.
use Rattle.std.proofs.Common.{◌≡◌, ℕ, ◌≤◌, ◌++◌, ◌∷◌, [], List, Bool, true, false, Option, Some, None, Result, Ok, Err, ◌⊎◌, inl, refl, sym, ap, ◌∙◌, subst, arith}
use Rattle.mos_edits.specs.KeyedLists.{ActFault}
use Rattle.mos_edits.specs.Entries.{Entry, Refusal, acceptance, entry_count}
use Rattle.mos_io.specs.Counts.{Rose}
use Rattle.mos_machines.specs.Messages.{Status}
use Rattle.mos_machines.specs.Server.{Verdict, verdict, refusal_status, peer_given}
use Rattle.mos_machines.specs.Server.Verdict.{Takes, Fails, Refuses}
use Rattle.mos_machines.specs.Steps.{ServerState, ServerEvent, StepAnswer, ServerStep, server_told}
use Rattle.rundown_log.specs.Keeping.{Appends, Keeps, LeavesSo}
use Rattle.rundown_log.specs.declared.keeper.KeepFault.{KeepFault}
use Rattle.rundown_log.specs.declared.keeper.KeepFault.TheVariants as keeping
use Rattle.ncs_core.specs.Accepting.{IsRefusal}
use Rattle.ncs_core.specs.Commands.{IsCommandStep, HasCause, LeavesAfter, LeavesKeeper, is_failed, command_fault_of}
use Rattle.ncs_core.specs.State.{NcsTables, ncs_of, states}
use Rattle.ncs_core.specs.declared.fault.CommandFault.{CommandFault}
use Rattle.ncs_core.specs.declared.fault.CommandFault.TheVariants.{Stopped, Missing, AlreadyThere, Full, StoreFault, NoMemory}

-- the three clauses of a command
pub record IsCommanded (s t : ServerState) (kept kept_now : Option (List Entry)) (e : Entry) (r : Result (Unit {0}) CommandFault) : Type 0 where
  pub step : IsCommandStep s e r t
  pub cause : HasCause s e t.faults r
  pub leaves : LeavesAfter s t kept kept_now e r

-- a command of which the server makes this
by-verdict : (s t : ServerState) (e : Entry) (fails : Bool) (v : Verdict) → verdict s.stopped fails (acceptance s.journal e) ≡ v → t ≡ record (server_told s e v).1 { faults = t.faults } → s.faults ≤ t.faults → (fails ≡ true → Rose s.faults t.faults)
    → ServerStep s (ServerEvent.Command e) (server_told s e v).0 t
by-verdict s t e fails v h n c r = record {
  fails = fails;
  answer = ap (λ (w : Verdict). (server_told s e w).0) h;
  next = ap (λ (w : Verdict). record (server_told s e w).1 { faults = t.faults }) h ∙ sym n;
  count = c;
  rose = r;
}

verdict-is : (a b : Bool) (fails : Bool) (why because : Option Refusal) → a ≡ b → why ≡ because → verdict a fails why ≡ verdict b fails because
verdict-is a b fails why because h g = λ i. verdict (h i) fails (g i)

same-count : (s t : ServerState) → t ≡ s → s.faults ≤ t.faults
same-count s t h = let e : t.faults ≡ s.faults = ap (λ (x : ServerState). x.faults) h in omega arith

not-true : {X : Type 0} → false ≡ true → X
not-true h = absurd (cc)

same-state : (s t : ServerState) → t ≡ s → t ≡ record s { faults = t.faults }
same-state s t h = h ∙ ap (λ (n : ℕ). record s { faults = n }) (sym (ap (λ (x : ServerState). x.faults) h))

refused-step : (s t : ServerState) (e : Entry) (x : Refusal) → s.stopped ≡ false → acceptance s.journal e ≡ Some x → t ≡ s → ServerStep s (ServerEvent.Command e) (StepAnswer.Told (refusal_status x)) t
refused-step s t e x n a h = by-verdict s t e false (Refuses (refusal_status x)) (verdict-is s.stopped false false (acceptance s.journal e) (Some x) n a) (same-state s t h) (same-count s t h) not-true

pub stopped-command : (s t : ServerState) (kept kept_now : Option (List Entry)) (e : Entry) → s.stopped ≡ true → t ≡ s → kept_now ≡ kept → IsCommanded s t kept kept_now e (Err Stopped)
stopped-command s t kept kept_now e n h k = record {
  step = by-verdict s t e false (Refuses Status.Stopped) (verdict-is s.stopped true false (acceptance s.journal e) (acceptance s.journal e) n refl) (same-state s t h) (same-count s t h) not-true;
  cause = n;
  leaves = (h, k);
}

refused-command : (s t : ServerState) (kept kept_now : Option (List Entry)) (e : Entry) (f : CommandFault) → s.stopped ≡ false → IsRefusal (acceptance s.journal e) f → t ≡ s → kept_now ≡ kept → IsCommanded s t kept kept_now e (Err f)
refused-command s t kept kept_now e Stopped n a h k = absurd a
refused-command s t kept kept_now e (Missing id) n a h k = record { step = refused-step s t e (Refusal.Faulty (ActFault.Missing id)) n a h; cause = (n, a); leaves = (h, k) }
refused-command s t kept kept_now e (AlreadyThere id) n a h k = record { step = refused-step s t e (Refusal.Faulty (ActFault.AlreadyThere id)) n a h; cause = (n, a); leaves = (h, k) }
refused-command s t kept kept_now e (Full units) n a h k = record { step = refused-step s t e (Refusal.Full units) n a h; cause = (n, a); leaves = (h, k) }
refused-command s t kept kept_now e StoreFault n a h k = absurd a
refused-command s t kept kept_now e NoMemory n a h k = record { step = h; cause = n; leaves = (h, k) }

failed-command : (s t : ServerState) (kept kept_now : Option (List Entry)) (e : Entry) → s.stopped ≡ false → acceptance s.journal e ≡ None → t ≡ record s { stopped = true; faults = t.faults } → s.faults ≤ t.faults → Rose s.faults t.faults
    → (kept_now ≡ kept) ⊎ Keeps kept kept_now e → IsCommanded s t kept kept_now e (Err StoreFault)
failed-command s t kept kept_now e n a h c r k = record {
  step = by-verdict s t e true Fails (verdict-is s.stopped false true (acceptance s.journal e) None n a) h c (λ _. r);
  cause = (n, a, r);
  leaves = (h, k);
}

-- a command whose edit the keeper didn't keep
unkept-command : (s t : ServerState) (kept kept_now : Option (List Entry)) (e : Entry) (f : KeepFault) → s.stopped ≡ false → acceptance s.journal e ≡ None → t ≡ record s { stopped = is_failed f; faults = t.faults } → s.faults ≤ t.faults
    → Appends kept kept_now s.faults t.faults e (Err f) → IsCommanded s t kept kept_now e (Err (command_fault_of f))
unkept-command s t kept kept_now e keeping.Failed n a h c k = failed-command s t kept kept_now e n a h c k.1 k.0
unkept-command s t kept kept_now e keeping.NoMemory n a h c k =
    refused-command s t kept kept_now e NoMemory n tt (h ∙ (λ i. record s { stopped = sym n i; faults = k.1 i })) k.0

taken-command : (s t : ServerState) (kept kept_now : Option (List Entry)) (e : Entry) → s.stopped ≡ false → acceptance s.journal e ≡ None
    → t ≡ record { journal = s.journal ++ e ∷ []; stopped = s.stopped; faults = t.faults; peers = λ d. peer_given e (entry_count s.journal e.ro) (s.peers d) } → s.faults ≤ t.faults → Keeps kept kept_now e
    → IsCommanded s t kept kept_now e (Ok tt)
taken-command s t kept kept_now e n a h c k = record {
  step = by-verdict s t e false Takes (verdict-is s.stopped false false (acceptance s.journal e) None n a) h c not-true;
  cause = (n, a);
  leaves = k;
}

-- what they leave of the keeper, by its own account
module _ {K : Type 0} (appended : K → Entry → Result (Unit {0}) KeepFault → K → Type 0) (k m : K) (e : Entry) where
  pub refused-keeper : (why : Option Refusal) (f : CommandFault) → IsRefusal why f → m ≡ k → LeavesKeeper appended k m e (Err f)
  refused-keeper why Stopped a h = absurd a
  refused-keeper why (Missing id) a h = h
  refused-keeper why (AlreadyThere id) a h = h
  refused-keeper why (Full units) a h = h
  refused-keeper why StoreFault a h = absurd a
  refused-keeper why NoMemory a h = inl h

  pub unkept-keeper : (f : KeepFault) (r : CommandFault) → r ≡ command_fault_of f → LeavesSo appended k m e (Err f) → LeavesKeeper appended k m e (Err r)
  unkept-keeper f r q h = subst (λ (x : CommandFault). LeavesKeeper appended k m e (Err x)) (sym q) (by f h)
    where
      by : (f : KeepFault) → LeavesSo appended k m e (Err f) → LeavesKeeper appended k m e (Err (command_fault_of f))
      by keeping.Failed h = h
      by keeping.NoMemory h = h

-- The same by the tables: `t` is the server before the command, `b` the same as it is opened up, and `u` the server after it.
module _ {K : Type 0} (t b : NcsTables K) (e : Entry) where
  pub refused-tables : (f : CommandFault) → b ≡ t → t.server.stopped ≡ false → IsRefusal (acceptance t.server.journal e) f → IsCommanded (ncs_of t) (ncs_of b) t.kept b.kept e (Err f)
  refused-tables f v n a = refused-command (ncs_of t) (ncs_of b) t.kept b.kept e f n a (ap ncs_of v) (ap (λ (x : NcsTables K). x.kept) v)

  module _ (u : NcsTables K) where
    pub taken-tables : b ≡ t → t.server.stopped ≡ false → acceptance t.server.journal e ≡ None → u.server.journal ≡ b.server.journal ++ e ∷ [] → u.server.stopped ≡ b.server.stopped
        → states u.server.peers ≡ (λ d. peer_given e (entry_count b.server.journal e.ro) (states b.server.peers d)) → b.server.faults ≤ u.server.faults → Keeps b.kept u.kept e → IsCommanded (ncs_of t) (ncs_of u) t.kept u.kept e (Ok tt)
    taken-tables v n a j s p c k =
        subst (λ (x : NcsTables K). IsCommanded (ncs_of x) (ncs_of u) x.kept u.kept e (Ok tt)) v
        (taken-command (ncs_of b) (ncs_of u) b.kept u.kept e (ap (λ (x : NcsTables K). x.server.stopped) v ∙ n) (ap (λ (x : NcsTables K). acceptance x.server.journal e) v ∙ a)
        (λ i. record { journal = j i; stopped = s i; faults = u.server.faults; peers = p i }) c k)

    pub unkept-tables : (f : KeepFault) (r : CommandFault) → r ≡ command_fault_of f → b ≡ t → t.server.stopped ≡ false → acceptance t.server.journal e ≡ None → u.server.journal ≡ b.server.journal → u.server.stopped ≡ is_failed f
        → states u.server.peers ≡ states b.server.peers → b.server.faults ≤ u.server.faults → Appends b.kept u.kept b.server.faults u.server.faults e (Err f) → IsCommanded (ncs_of t) (ncs_of u) t.kept u.kept e (Err r)
    unkept-tables f r q v n a j s p c k =
        subst (λ (x : NcsTables K). IsCommanded (ncs_of x) (ncs_of u) x.kept u.kept e (Err r)) v
        (subst (λ (x : CommandFault). IsCommanded (ncs_of b) (ncs_of u) b.kept u.kept e (Err x)) (sym q)
        (unkept-command (ncs_of b) (ncs_of u) b.kept u.kept e f (ap (λ (x : NcsTables K). x.server.stopped) v ∙ n) (ap (λ (x : NcsTables K). acceptance x.server.journal e) v ∙ a)
        (λ i. record { journal = j i; stopped = s i; faults = u.server.faults; peers = p i }) c k))
