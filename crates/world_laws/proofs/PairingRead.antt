-- The event `read d`.
use Rattle.std.proofs.Common.{◌≡◌, ℕ, ◌+◌, ◌-◌, ◌<◌, ◌≤◌, List, [], ◌∷◌, length, map, slice_get, Bool, true, false, Option, Some, None, arith, refl, if◌then◌else◌, not, ◌&&◌, ◌==◌, sym, ap, ◌∙◌, subst}
use Rattle.std.proofs.lemmas.Bool.Decides.{nat_tests}
use Rattle.mos_edits.specs.Texts.{Text, same_id, set_order}
use Rattle.mos_edits.specs.Orders.{Order, apply}
use Rattle.mos_edits.specs.Entries.{kind, Entry, entries, entry_count, edit_at, order_at, in_force}
use Rattle.mos_edits.specs.Scripts.{has_number}
use Rattle.mos_edits.proofs.Lacking.{scripts-ok, lacking_order, lacking-none, lacking-script}
use Rattle.mos_machines.specs.Messages.{Message, Tag, Packet, untagged}
use Rattle.mos_machines.specs.Device.{GateState, ReadResult, read_result, gate_read, gate_with, is_in}
use Rattle.mos_machines.specs.Messages.Message.{Heartbeat, RoEdit, RoAck, RoReq, RoReqAll, RoList, RoListAll, RoElementStat, OtherMessage}
use Rattle.mos_machines.specs.Messages.Tag.{Untagged, OfEntry, OfAgain, OfScript, OfList}
use Rattle.world_laws.specs.World.{Pairing, front, applied_step, reads_from, reads_front, reads_if, pairing_step}
use Rattle.world_laws.specs.World.PairingEvent.{Read}
use Rattle.world_laws.proofs.Replication.{Replication, IsInvariant, IsComplete, readable}
use Rattle.world_laws.proofs.Channels.{Channels, PairingOk, replication, channels, transfer_in, in_flight_by, ask_of, incoming_in, DownOk, Tagged}
use Rattle.world_laws.proofs.Joining.{SameLinks, read_pairing, channels_read, readable-in_flight}
use Rattle.world_laws.proofs.Reading.{AnswerTo, read_channels, channels_ok_read, in_flight_read, in_flight_read_none, core_entry, held_entry, core_again, held_again, core_script, held_script, lacks_step, lacks_script, prefix_in_step}
use Rattle.mos_edits.specs.Entries.Kind.{IsWhole, IsAction, IsReady}
use Rattle.mos_machines.specs.Messages.Status.{NotSupported}
use Rattle.mos_edits.specs.KeyedLists.Applied.{Done}
use Rattle.mos_machines.specs.Device.Phase.{InStep}
use Rattle.world_laws.proofs.Replication.Transfer.{TransferEntry, TransferAgain, TransferScript}
use Rattle.world_laws.proofs.Invariant.{PairingInvariant}
use Rattle.mos_machines.specs.Server.{entry_packet, again_packet, script_packet}
use Rattle.mos_edits.proofs.Identifiers.{same-true, same-self, same-false}
use Rattle.mos_edits.proofs.Journals.{JournalOk, order-ready, kind_at, kind_of_at, kinds_entry_count}

pub down_front : (journal : List Entry) (count : ℕ) (l : Pairing) (v : ℕ) (p : Packet) → PairingOk journal count l → l.gate.upper ≡ Some v → front (l.connections v).to_device ≡ Some p → (channels l).down ≡ p ∷ []
down_front journal count l v p ok u f = let d = ok.channels_ok.down in grind arith

ok_read : (journal : List Entry) (count : ℕ) (l : Pairing) (v : ℕ) (p : Packet) (a : Message) (g : GateState) (m : Text → ℕ) → PairingOk journal count l → l.gate.upper ≡ Some v → front (l.connections v).to_device ≡ Some p → SameLinks l.gate g → AnswerTo p.message a
    → (channels (read_pairing l v a g m) ≡ read_channels (channels l) (l.connections v).lost_server a) × PairingOk journal count (read_pairing l v a g m)
ok_read journal count l v p a g m ok u f s an =
    let d = down_front journal count l v p ok u f in
    let w : channels (read_pairing l v a g m) ≡ read_channels (channels l) (l.connections v).lost_server a = channels_read journal count l v a g m ok u s ∙ (rw d refl) in (
      w,
      record {
        unaccepted = grind (arith, nat_tests, ok.unaccepted);
        fresh = grind (arith, nat_tests, ok.fresh);
        upper = grind (arith, nat_tests, ok.upper);
        read = grind (arith, nat_tests, ok.read);
        linked = grind (arith, nat_tests, ok.linked);
        dialed = grind (arith, nat_tests, ok.dialed);
        silent = grind arith;
        channels_ok = rw w (channels_ok_read journal (channels l) p [] (l.connections v).lost_server a ok.channels_ok d an);
      },
    )

-- a read that each order survives
pairing_read : (journal : List Entry) (count : ℕ) (l : Pairing) (v : ℕ) (p : Packet) (a : Message) (g : GateState) (m : Text → ℕ) (lacks : Text → ℕ → Bool) → PairingInvariant journal count l → l.gate.upper ≡ Some v → front (l.connections v).to_device ≡ Some p → SameLinks l.gate g → AnswerTo p.message a
    → ((r : Text) → IsInvariant (replication journal (read_channels (channels l) (l.connections v).lost_server a) r (l.peer.views r) (g.phase r) (m r) (lacks r)) × (g.held r ≡ lacking_order journal r (lacks r) (m r)))
    → PairingInvariant journal count (read_pairing l v a g m)
pairing_read journal count l v p a g m lacks i u f s an each =
    let o = ok_read journal count l v p a g m i.ok u f s an in
    record { ok = o.1; lacks = lacks; replications = λ r. subst (λ (w : Channels). IsInvariant (replication journal w r (l.peer.views r) (g.phase r) (m r) (lacks r))) (sym o.0) (each r).0; holds = λ r. (each r).1 }

-- nothing of order r was read
each_none : (journal : List Entry) (count : ℕ) (l : Pairing) (v : ℕ) (p : Packet) (a : Message) → (i : PairingInvariant journal count l) → l.gate.upper ≡ Some v → front (l.connections v).to_device ≡ Some p → (r : Text) → transfer_in r (p ∷ []) ≡ None
    → IsInvariant (replication journal (read_channels (channels l) (l.connections v).lost_server a) r (l.peer.views r) (l.gate.phase r) (l.applied r) (i.lacks r))
each_none journal count l v p a i u f r n =
    let d = down_front journal count l v p i.ok u f in
    let t = in_flight_read_none journal (channels l) r p [] (l.connections v).lost_server a i.ok.channels_ok d (rw d n) in
    rw t (i.replications r)

abbrev same_gate : GateState → Type 0
same_gate g = SameLinks g g

keeps_links : (g : GateState) → SameLinks g g
keeps_links g = record { upper = refl; link = refl; out = refl }

read_bare : (journal : List Entry) (count : ℕ) (l : Pairing) (v : ℕ) (m : Message) → PairingInvariant journal count l → l.gate.upper ≡ Some v → front (l.connections v).to_device ≡ Some (untagged m) → ((e : Entry) → m ≡ RoEdit e → ⊥)
    → PairingInvariant journal count (reads_from l v (l.connections v) (untagged m) (gate_read l.gate l.decks m)).0
read_bare journal count l v (Heartbeat t) i u f n = pairing_read journal count l v (untagged (Heartbeat t)) (Heartbeat t) l.gate l.applied i.lacks i u f (keeps_links l.gate) refl (λ r. (each_none journal count l v (untagged (Heartbeat t)) (Heartbeat t) i u f r refl, i.holds r))
read_bare journal count l v (RoEdit e) i u f n = absurd (n e refl)
read_bare journal count l v (OtherMessage q) i u f n = pairing_read journal count l v (untagged (OtherMessage q)) (RoAck q NotSupported) l.gate l.applied i.lacks i u f (keeps_links l.gate) tt (λ r. (each_none journal count l v (untagged (OtherMessage q)) (RoAck q NotSupported) i u f r refl, i.holds r))
read_bare journal count l v (RoElementStat q) i u f n = pairing_read journal count l v (untagged (RoElementStat q)) (RoAck q NotSupported) l.gate l.applied i.lacks i u f (keeps_links l.gate) tt (λ r. (each_none journal count l v (untagged (RoElementStat q)) (RoAck q NotSupported) i u f r refl, i.holds r))
read_bare journal count l v (RoAck q t) i u f n = pairing_read journal count l v (untagged (RoAck q t)) (RoAck q NotSupported) l.gate l.applied i.lacks i u f (keeps_links l.gate) tt (λ r. (each_none journal count l v (untagged (RoAck q t)) (RoAck q NotSupported) i u f r refl, i.holds r))
read_bare journal count l v (RoReq q) i u f n = pairing_read journal count l v (untagged (RoReq q)) (RoAck q NotSupported) l.gate l.applied i.lacks i u f (keeps_links l.gate) tt (λ r. (each_none journal count l v (untagged (RoReq q)) (RoAck q NotSupported) i u f r refl, i.holds r))
read_bare journal count l v RoReqAll i u f n = pairing_read journal count l v (untagged RoReqAll) (RoAck [] NotSupported) l.gate l.applied i.lacks i u f (keeps_links l.gate) tt (λ r. (each_none journal count l v (untagged RoReqAll) (RoAck [] NotSupported) i u f r refl, i.holds r))
read_bare journal count l v (RoList q o) i u f n = pairing_read journal count l v (untagged (RoList q o)) (RoAck q NotSupported) l.gate l.applied i.lacks i u f (keeps_links l.gate) tt (λ r. (each_none journal count l v (untagged (RoList q o)) (RoAck q NotSupported) i u f r refl, i.holds r))
read_bare journal count l v (RoListAll qs) i u f n = pairing_read journal count l v (untagged (RoListAll qs)) (RoAck [] NotSupported) l.gate l.applied i.lacks i u f (keeps_links l.gate) tt (λ r. (each_none journal count l v (untagged (RoListAll qs)) (RoAck [] NotSupported) i u f r refl, i.holds r))

-- entry k of order q
abbrev pub the_entry : List Entry → Text → ℕ → Entry
the_entry journal q k = record { ro = q; edit = edit_at journal q k }

abbrev pub entry_result : List Entry → Pairing → Text → ℕ → ReadResult
entry_result journal l q k = read_result l.gate l.decks (the_entry journal q k)

abbrev pub entry_prefix : List Entry → Pairing → Text → ℕ → ℕ
entry_prefix journal l q k = applied_step (kind (edit_at journal q k)) (is_in (l.gate.phase q)) (l.applied q) k (entry_result journal l q k).status

-- what a device in step holds, to which the next entry applies
pub applied_here : (journal : List Entry) → JournalOk journal → (q : Text) (k : ℕ) → k < entry_count journal q → (held : Option Order) (lacks : ℕ → Bool) (prefix : ℕ) → held ≡ lacking_order journal q lacks prefix → k ≡ prefix → ((j : ℕ) → lacks j ≡ false)
    → apply q held (edit_at journal q k) ≡ Done (order_at journal q (k + 1))
applied_here journal lok q k b held lacks prefix h m n =
    let here : held ≡ lacking_order journal q lacks k = subst (λ (z : ℕ). held ≡ lacking_order journal q lacks z) (sym m) h in
    let full : held ≡ order_at journal q k = here ∙ lacking-none journal q k lacks (scripts-ok journal lok q k (omega (arith, b))) n in
    rw full (lok.applies q k b)

-- and to which a READY sent again applies
pub again_applies : (journal : List Entry) → JournalOk journal → (q : Text) (m : ℕ) → 0 < m → m - 1 < entry_count journal q → kind (edit_at journal q (m - 1)) ≡ IsReady → (held : Option Order) (lacks : ℕ → Bool) (prefix : ℕ) → held ≡ lacking_order journal q lacks prefix → m ≡ prefix → ((j : ℕ) → lacks j ≡ false)
    → apply q held (edit_at journal q (m - 1)) ≡ Done held
again_applies journal lok q m p b kd held lacks prefix h s n =
    let suc_m : m - 1 + 1 ≡ m = omega (arith, p) in
    let here : held ≡ lacking_order journal q lacks m = subst (λ (z : ℕ). held ≡ lacking_order journal q lacks z) (sym s) h in
    let full : held ≡ order_at journal q m = here ∙ lacking-none journal q m lacks (scripts-ok journal lok q m (omega (arith, b, p))) n in
    let same_order : order_at journal q m ≡ order_at journal q (m - 1) = subst (λ (z : ℕ). order_at journal q z ≡ order_at journal q (m - 1)) suc_m (order-ready journal lok q (m - 1) b kd) in
    rw full (subst (λ (o : Option Order). apply q o (edit_at journal q (m - 1)) ≡ Done (order_at journal q m)) (sym same_order) (subst (λ (z : ℕ). apply q (order_at journal q (m - 1)) (edit_at journal q (m - 1)) ≡ Done (order_at journal q z)) suc_m (lok.applies q (m - 1) b)))

pub each_entry : (journal : List Entry) (count : ℕ) (l : Pairing) (v : ℕ) (q : Text) (k : ℕ) → JournalOk journal → (i : PairingInvariant journal count l) → l.gate.upper ≡ Some v → front (l.connections v).to_device ≡ Some (entry_packet journal q k) → k < entry_count journal q
    → IsInvariant (replication journal (read_channels (channels l) (l.connections v).lost_server (RoAck q (entry_result journal l q k).status)) q (l.peer.views q) (entry_result journal l q k).phase (entry_prefix journal l q k) (lacks_step (l.gate.phase q) (kind (edit_at journal q k)) (i.lacks q)))
    × ((entry_result journal l q k).held ≡ lacking_order journal q (lacks_step (l.gate.phase q) (kind (edit_at journal q k)) (i.lacks q)) (entry_prefix journal l q k))
each_entry journal count l v q k lok i u f b =
    let d = down_front journal count l v (entry_packet journal q k) i.ok u f in
    let it : transfer_in q (channels l).down ≡ Some (TransferEntry k) = rw d (rw (same-self q) refl) in
    let rd : readable (in_flight_by journal (channels l) q (channels l).upper) ≡ Some (TransferEntry k) = readable-in_flight journal (channels l) q i.ok.channels_ok ∙ it in
    let kd = kind_at journal q k b in
    let t = in_flight_read journal (channels l) q (TransferEntry k) (l.connections v).lost_server (entry_result journal l q k).status i.ok.channels_ok it in
    let step : l.gate.phase q ≡ InStep → k ≡ l.applied q → ((j : ℕ) → i.lacks q j ≡ false) → apply q (l.gate.held q) (edit_at journal q k) ≡ Done (order_at journal q (k + 1)) =
    λ e m n. applied_here journal lok q k b (l.gate.held q) (i.lacks q) (l.applied q) (i.holds q) m n in
    let at_prefix : l.gate.phase q ≡ InStep → (kind (edit_at journal q k) ≡ IsWhole → ⊥) → (k ≡ l.applied q) × ((j : ℕ) → i.lacks q j ≡ false) =
    λ e n. prefix_in_step (replication journal (channels l) q (l.peer.views q) (l.gate.phase q) (l.applied q) (i.lacks q)) (i.replications q) k rd (kind (edit_at journal q k)) kd e n in (
      rw t (core_entry (map kind (entries q journal)) (in_flight_by journal (channels l) q (channels l).upper) (l.peer.views q) (ask_of (channels l) q) (channels l).live (incoming_in q (channels l).heard) (l.gate.phase q) (l.applied q) (i.lacks q) (λ m. in_force journal q m) (i.replications q) k rd (kind (edit_at journal q k)) kd (not (l.connections v).lost_server) l.decks (l.gate.held q) (l.gate.wanted q) (edit_at journal q k) (apply q (l.gate.held q) (edit_at journal q k)) (λ e m n. (order_at journal q (k + 1), step e m n))),
      held_entry journal lok q k b (l.gate.phase q) (kind (edit_at journal q k)) refl (l.applied q) (i.lacks q) l.decks (l.gate.held q) (l.gate.wanted q) (apply q (l.gate.held q) (edit_at journal q k)) (i.holds q) at_prefix step,
    )

-- the order itself, and the others
each_put : (journal : List Entry) (count : ℕ) (l : Pairing) (v : ℕ) (p : Packet) (a : Message) (q : Text) (x : ReadResult) (n : ℕ) (k : ℕ → Bool) → (i : PairingInvariant journal count l) → l.gate.upper ≡ Some v → front (l.connections v).to_device ≡ Some p
    → ((r : Text) → same_id q r ≡ false → transfer_in r (p ∷ []) ≡ None)
    → IsInvariant (replication journal (read_channels (channels l) (l.connections v).lost_server a) q (l.peer.views q) x.phase n k) × (x.held ≡ lacking_order journal q k n)
    → (r : Text) (b : Bool) → same_id r q ≡ b
    → IsInvariant (replication journal (read_channels (channels l) (l.connections v).lost_server a) r (l.peer.views r) (if b then x.phase else l.gate.phase r) (if b then n else l.applied r) (if b then k else i.lacks r)) × ((if b then x.held else l.gate.held r) ≡ lacking_order journal r (if b then k else i.lacks r) (if b then n else l.applied r))
each_put journal count l v p a q x n k i u f other here r true e = subst (λ (z : Text). IsInvariant (replication journal (read_channels (channels l) (l.connections v).lost_server a) z (l.peer.views z) x.phase n k) × (x.held ≡ lacking_order journal z k n)) (sym (same-true r q e)) here
each_put journal count l v p a q x n k i u f other here r false e = (each_none journal count l v p a i u f r (other r (same-false q r e)), i.holds r)

read_entry : (journal : List Entry) (count : ℕ) (l : Pairing) (v : ℕ) (q : Text) (k : ℕ) → JournalOk journal → PairingInvariant journal count l → l.gate.upper ≡ Some v → front (l.connections v).to_device ≡ Some (entry_packet journal q k) → k < entry_count journal q
    → PairingInvariant journal count (reads_from l v (l.connections v) (entry_packet journal q k) (gate_read l.gate l.decks (RoEdit (the_entry journal q k)))).0
read_entry journal count l v q k lok i u f b =
    pairing_read journal count l v (entry_packet journal q k) (RoAck q (entry_result journal l q k).status) (gate_with l.gate q (entry_result journal l q k)) (set_order l.applied q (entry_prefix journal l q k)) (set_order i.lacks q (lacks_step (l.gate.phase q) (kind (edit_at journal q k)) (i.lacks q))) i u f
    (record { upper = refl; link = refl; out = refl }) ((entry_result journal l q k).status, refl)
    (λ r. each_put journal count l v (entry_packet journal q k) (RoAck q (entry_result journal l q k).status) q (entry_result journal l q k) (entry_prefix journal l q k) (lacks_step (l.gate.phase q) (kind (edit_at journal q k)) (i.lacks q)) i u f (λ z e. rw e refl) (each_entry journal count l v q k lok i u f b) r (same_id r q) refl)

-- the READY before m sent again
pub again_facts : (l : Replication) → IsInvariant l → (m : ℕ) → readable l.in_flight ≡ Some (TransferAgain m) → (0 < m) × (m ≤ length l.kinds) × (slice_get l.kinds (m - 1) ≡ Some IsReady) × (l.phase ≡ InStep → (m ≡ l.prefix) × IsComplete l)
again_facts l i m r = grind arith

abbrev pub again_result : List Entry → Pairing → Text → ℕ → ReadResult
again_result journal l q m = entry_result journal l q (m - 1)

pub each_again : (journal : List Entry) (count : ℕ) (l : Pairing) (v : ℕ) (q : Text) (m : ℕ) → JournalOk journal → (i : PairingInvariant journal count l) → l.gate.upper ≡ Some v → front (l.connections v).to_device ≡ Some (again_packet journal q m)
    → IsInvariant (replication journal (read_channels (channels l) (l.connections v).lost_server (RoAck q (again_result journal l q m).status)) q (l.peer.views q) (again_result journal l q m).phase (l.applied q) (i.lacks q))
    × ((again_result journal l q m).held ≡ lacking_order journal q (i.lacks q) (l.applied q))
each_again journal count l v q m lok i u f =
    let d = down_front journal count l v (again_packet journal q m) i.ok u f in
    let it : transfer_in q (channels l).down ≡ Some (TransferAgain m) = rw d (rw (same-self q) refl) in
    let rd : readable (in_flight_by journal (channels l) q (channels l).upper) ≡ Some (TransferAgain m) = readable-in_flight journal (channels l) q i.ok.channels_ok ∙ it in
    let fs = again_facts (replication journal (channels l) q (l.peer.views q) (l.gate.phase q) (l.applied q) (i.lacks q)) (i.replications q) m rd in
    let kd : (m - 1 < entry_count journal q) × (kind (edit_at journal q (m - 1)) ≡ IsReady) = kind_of_at journal q (m - 1) IsReady fs.2 in
    let t = in_flight_read journal (channels l) q (TransferAgain m) (l.connections v).lost_server (again_result journal l q m).status i.ok.channels_ok it in
    let step : l.gate.phase q ≡ InStep → apply q (l.gate.held q) (edit_at journal q (m - 1)) ≡ Done (l.gate.held q) =
    λ e. again_applies journal lok q m fs.0 kd.0 kd.1 (l.gate.held q) (i.lacks q) (l.applied q) (i.holds q) (fs.3 e).0 (fs.3 e).1 in (
      rw (t, kd.1) (core_again (map kind (entries q journal)) (in_flight_by journal (channels l) q (channels l).upper) (l.peer.views q) (ask_of (channels l) q) (channels l).live (incoming_in q (channels l).heard) (l.gate.phase q) (l.applied q) (i.lacks q) (λ n. in_force journal q n) (i.replications q) m rd (not (l.connections v).lost_server) l.decks (l.gate.held q) (l.gate.wanted q) (edit_at journal q (m - 1)) (apply q (l.gate.held q) (edit_at journal q (m - 1))) (λ e. (l.gate.held q, step e))),
      rw kd.1 (held_again (l.gate.phase q) l.decks (l.gate.held q) (l.gate.wanted q) (edit_at journal q (m - 1)) (apply q (l.gate.held q) (edit_at journal q (m - 1))) step ∙ i.holds q),
    )

kept_prefix : (applied : Text → ℕ) (q r : Text) (b : Bool) → same_id r q ≡ b → (if b then applied q else applied r) ≡ applied r
kept_prefix applied q r true e = ap applied (sym (same-true r q e))
kept_prefix applied q r false e = refl

read_again : (journal : List Entry) (count : ℕ) (l : Pairing) (v : ℕ) (q : Text) (m : ℕ) → JournalOk journal → PairingInvariant journal count l → l.gate.upper ≡ Some v → front (l.connections v).to_device ≡ Some (again_packet journal q m)
    → PairingInvariant journal count (reads_from l v (l.connections v) (again_packet journal q m) (gate_read l.gate l.decks (RoEdit (the_entry journal q (m - 1))))).0
read_again journal count l v q m lok i u f =
    pairing_read journal count l v (again_packet journal q m) (RoAck q (again_result journal l q m).status) (gate_with l.gate q (again_result journal l q m)) l.applied (set_order i.lacks q (i.lacks q)) i u f
    (record { upper = refl; link = refl; out = refl }) ((again_result journal l q m).status, refl)
    (λ r. subst (λ (n : ℕ). IsInvariant (replication journal (read_channels (channels l) (l.connections v).lost_server (RoAck q (again_result journal l q m).status)) r (l.peer.views r) (set_order l.gate.phase q (again_result journal l q m).phase r) n (set_order i.lacks q (i.lacks q) r)) × (set_order l.gate.held q (again_result journal l q m).held r ≡ lacking_order journal r (set_order i.lacks q (i.lacks q) r) n))
    (kept_prefix l.applied q r (same_id r q) refl)
    (each_put journal count l v (again_packet journal q m) (RoAck q (again_result journal l q m).status) q (again_result journal l q m) (l.applied q) (i.lacks q) i u f (λ z e. rw e refl) (each_again journal count l v q m lok i u f) r (same_id r q) refl))

-- the script of entry k sent again
pub script_facts : (l : Replication) → IsInvariant l → (k m : ℕ) → readable l.in_flight ≡ Some (TransferScript k m) → (has_number k (l.in_force m) ≡ true) × (m ≤ length l.kinds) × (l.phase ≡ InStep → m ≡ l.prefix)
script_facts l i k m r = grind arith

pub script_kind : (journal : List Entry) → JournalOk journal → (q : Text) (k m : ℕ) → m ≤ entry_count journal q → has_number k (in_force journal q m) ≡ true → kind (edit_at journal q k) ≡ IsAction
script_kind journal lok q k m h n = let x = lacking-script journal q m k (λ j. false) (scripts-ok journal lok q m h) n in rw x.1 refl

pub script_applies : (journal : List Entry) → JournalOk journal → (q : Text) (k m : ℕ) → m ≤ entry_count journal q → has_number k (in_force journal q m) ≡ true → (held : Option Order) (lacks : ℕ → Bool) (prefix : ℕ) → held ≡ lacking_order journal q lacks prefix → m ≡ prefix
    → apply q held (edit_at journal q k) ≡ Done (lacking_order journal q (λ j. lacks j && not (j == k)) prefix)
script_applies journal lok q k m h n held lacks prefix e s =
    let x = lacking-script journal q m k lacks (scripts-ok journal lok q m h) n in
    rw e (subst (λ (z : ℕ). apply q (lacking_order journal q lacks z) (edit_at journal q k) ≡ Done (lacking_order journal q (λ j. lacks j && not (j == k)) z)) s x.3)

pub each_script : (journal : List Entry) (count : ℕ) (l : Pairing) (v : ℕ) (q : Text) (k m : ℕ) → JournalOk journal → (i : PairingInvariant journal count l) → l.gate.upper ≡ Some v → front (l.connections v).to_device ≡ Some (script_packet journal q k m)
    → IsInvariant (replication journal (read_channels (channels l) (l.connections v).lost_server (RoAck q (entry_result journal l q k).status)) q (l.peer.views q) (entry_result journal l q k).phase (l.applied q) (lacks_script (l.gate.phase q) k (i.lacks q)))
    × ((entry_result journal l q k).held ≡ lacking_order journal q (lacks_script (l.gate.phase q) k (i.lacks q)) (l.applied q))
each_script journal count l v q k m lok i u f =
    let d = down_front journal count l v (script_packet journal q k m) i.ok u f in
    let it : transfer_in q (channels l).down ≡ Some (TransferScript k m) = rw d (rw (same-self q) refl) in
    let rd : readable (in_flight_by journal (channels l) q (channels l).upper) ≡ Some (TransferScript k m) = readable-in_flight journal (channels l) q i.ok.channels_ok ∙ it in
    let fs = script_facts (replication journal (channels l) q (l.peer.views q) (l.gate.phase q) (l.applied q) (i.lacks q)) (i.replications q) k m rd in
    let c = kinds_entry_count journal q in
    let n : m ≤ entry_count journal q = omega (arith, fs.1, c) in
    let kd = script_kind journal lok q k m n fs.0 in
    let t = in_flight_read journal (channels l) q (TransferScript k m) (l.connections v).lost_server (entry_result journal l q k).status i.ok.channels_ok it in
    let step : l.gate.phase q ≡ InStep → apply q (l.gate.held q) (edit_at journal q k) ≡ Done (lacking_order journal q (λ j. i.lacks q j && not (j == k)) (l.applied q)) =
    λ e. script_applies journal lok q k m n fs.0 (l.gate.held q) (i.lacks q) (l.applied q) (i.holds q) (fs.2 e) in (
      rw (t, kd) (core_script (map kind (entries q journal)) (in_flight_by journal (channels l) q (channels l).upper) (l.peer.views q) (ask_of (channels l) q) (channels l).live (incoming_in q (channels l).heard) (l.gate.phase q) (l.applied q) (i.lacks q) (λ n. in_force journal q n) (i.replications q) k m rd (not (l.connections v).lost_server) l.decks (l.gate.held q) (l.gate.wanted q) (edit_at journal q k) (apply q (l.gate.held q) (edit_at journal q k)) (λ e. (lacking_order journal q (λ j. i.lacks q j && not (j == k)) (l.applied q), step e))),
      rw kd (held_script journal q k (l.gate.phase q) (l.applied q) (i.lacks q) l.decks (l.gate.held q) (l.gate.wanted q) (edit_at journal q k) (apply q (l.gate.held q) (edit_at journal q k)) (i.holds q) step),
    )

read_script : (journal : List Entry) (count : ℕ) (l : Pairing) (v : ℕ) (q : Text) (k m : ℕ) → JournalOk journal → PairingInvariant journal count l → l.gate.upper ≡ Some v → front (l.connections v).to_device ≡ Some (script_packet journal q k m)
    → PairingInvariant journal count (reads_from l v (l.connections v) (script_packet journal q k m) (gate_read l.gate l.decks (RoEdit (the_entry journal q k)))).0
read_script journal count l v q k m lok i u f =
    pairing_read journal count l v (script_packet journal q k m) (RoAck q (entry_result journal l q k).status) (gate_with l.gate q (entry_result journal l q k)) l.applied (set_order i.lacks q (lacks_script (l.gate.phase q) k (i.lacks q))) i u f
    (record { upper = refl; link = refl; out = refl }) ((entry_result journal l q k).status, refl)
    (λ r. subst (λ (n : ℕ). IsInvariant (replication journal (read_channels (channels l) (l.connections v).lost_server (RoAck q (entry_result journal l q k).status)) r (l.peer.views r) (set_order l.gate.phase q (entry_result journal l q k).phase r) n (set_order i.lacks q (lacks_script (l.gate.phase q) k (i.lacks q)) r)) × (set_order l.gate.held q (entry_result journal l q k).held r ≡ lacking_order journal r (set_order i.lacks q (lacks_script (l.gate.phase q) k (i.lacks q)) r) n))
    (kept_prefix l.applied q r (same_id r q) refl)
    (each_put journal count l v (script_packet journal q k m) (RoAck q (entry_result journal l q k).status) q (entry_result journal l q k) (l.applied q) (lacks_script (l.gate.phase q) k (i.lacks q)) i u f (λ z e. rw e refl) (each_script journal count l v q k m lok i u f) r (same_id r q) refl))

read_tagged : (journal : List Entry) (count : ℕ) (l : Pairing) (v : ℕ) (m : Message) (t : Tag) → JournalOk journal → PairingInvariant journal count l → l.gate.upper ≡ Some v → front (l.connections v).to_device ≡ Some (record { message = m; tag = t }) → Tagged journal (record { message = m; tag = t }) t
    → PairingInvariant journal count (reads_front l v (l.connections v) (Some (record { message = m; tag = t }))).0
read_tagged journal count l v m Untagged lok i u f t = read_bare journal count l v m i u f t
read_tagged journal count l v m (OfList r k) lok i u f t = absurd t
read_tagged journal count l v m (OfEntry q k) lok i u f t =
    subst (λ (p : Packet). PairingInvariant journal count (reads_front l v (l.connections v) (Some p)).0) (sym t.0)
    (read_entry journal count l v q k lok i u (f ∙ ap (λ (p : Packet). Some p) t.0) t.1)
read_tagged journal count l v m (OfAgain q k) lok i u f t =
    subst (λ (p : Packet). PairingInvariant journal count (reads_front l v (l.connections v) (Some p)).0) (sym t)
    (read_again journal count l v q k lok i u (f ∙ ap (λ (p : Packet). Some p) t))
read_tagged journal count l v m (OfScript q j k) lok i u f t =
    subst (λ (p : Packet). PairingInvariant journal count (reads_front l v (l.connections v) (Some p)).0) (sym t.0)
    (read_script journal count l v q j k lok i u (f ∙ ap (λ (p : Packet). Some p) t.0))

read_some : (journal : List Entry) (count : ℕ) (l : Pairing) (v : ℕ) (o : Option Packet) → JournalOk journal → PairingInvariant journal count l → l.gate.upper ≡ Some v → front (l.connections v).to_device ≡ o → PairingInvariant journal count (reads_front l v (l.connections v) o).0
read_some journal count l v None lok i u f = i
read_some journal count l v (Some p) lok i u f =
    let d = down_front journal count l v p i.ok u f in
    let t : DownOk journal (p ∷ []) = subst (λ (ps : List Packet). DownOk journal ps) d i.ok.channels_ok.down in
    read_tagged journal count l v p.message p.tag lok i u f t

reads_go : (journal : List Entry) (count : ℕ) (l : Pairing) (o : Option ℕ) → JournalOk journal → PairingInvariant journal count l → l.gate.upper ≡ o → PairingInvariant journal count (reads_if l o).0
reads_go journal count l None lok i u = i
reads_go journal count l (Some v) lok i u = read_some journal count l v (front (l.connections v).to_device) lok i u refl

-- the event `read d` keeps the invariant
pub keeps_reads : (journal : List Entry) (count n : ℕ) (l : Pairing) → JournalOk journal → PairingInvariant journal count l → PairingInvariant journal count (pairing_step journal n l Read).0
keeps_reads journal count n l lok i = reads_go journal count l l.gate.upper lok i refl
