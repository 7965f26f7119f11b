-- The server's views stay within its journal, and the entry that a device is sent next never falls.
use Rattle.std.proofs.Common.{◌≡◌, ◌⊎◌, inl, inr, ℕ, zero, suc, ◌+◌, ◌-◌, ◌<◌, ◌≤◌, List, [], ◌∷◌, Bool, true, false, Option, arith, refl, if◌then◌else◌, sym, ap, ◌∙◌, subst}
use Rattle.mos_edits.specs.Texts.{Text, same_id, set_order}
use Rattle.mos_edits.specs.Entries.{Entry, Kind, kind, entry_count, edit_at, order_now, in_force}
use Rattle.mos_edits.specs.Scripts.{has_number, without_number}
use Rattle.std.proofs.lemmas.Bool.Decides.{nat_tests}
use Rattle.mos_edits.specs.Entries.Kind.{IsReady}
use Rattle.mos_edits.proofs.Identifiers.{same-true, same-self, same-sym}
use Rattle.mos_machines.specs.Messages.{Status, Message, Packet, untagged}
use Rattle.mos_machines.specs.Messages.Status.{NotNow}
use Rattle.mos_machines.specs.Messages.Message.{Heartbeat, RoAck, RoReq}
use Rattle.mos_machines.specs.Server.{ServerOut, Upper, View, PeerState, peer_opened, peer_cut, is_ready, ready_before, is_success, view_if, view_without, back_to, unasked, answered_by, peer_answered, first_due, beat_or_due, sent, next_by, peer_next, peer_beat, unlisted, peer_linked, settled, peer_settled, is_busy, list_of, peer_hear}
use Rattle.mos_machines.specs.Server.ServerOut.{Idle, SendsEdit, SendsAgain, SendsScript, SendsBeat}
use Rattle.mos_machines.specs.Server.Upper.{Down, Greeting, Open}
use Rattle.mos_machines.specs.Server.View.{Out, Listed, In, From}
use Rattle.mos_machines.proofs.Least.{DueOk, due_ok}
use Rattle.mos_machines.specs.Views.{IsViewWithin, IsOutWithin, IsPeerWithin, entry_after, entry_by, next_entry}
use Rattle.mos_fields.specs.declared.time.MosTime.{MosTime}

-- a step keeps the views within the journal, and lowers no order's next entry
pub record Keeps (journal : List Entry) (s t : PeerState) : Type 0 where
  pub within : IsPeerWithin journal t
  pub rises : (r : Text) → next_entry journal s r ≤ next_entry journal t r

-- the next entry is at most the number of entries
within-count : (journal : List Entry) (s : PeerState) (r : Text) → IsPeerWithin journal s → next_entry journal s r ≤ entry_count journal r
within-count journal s r i = go s.upper refl (by_view (s.views r) (i.views r)) i.out
  where
    by_view : (v : View) → IsViewWithin journal r v → entry_by (entry_count journal r) v ≤ entry_count journal r
    by_view Out h = omega arith
    by_view (Listed m ks) h = h.0
    by_view (In n again scripts) h = h.0
    by_view (From k) h = omega (arith, h)

    go : (u : Upper) → s.upper ≡ u → entry_by (entry_count journal r) (s.views r) ≤ entry_count journal r → IsOutWithin journal s.views u → entry_after r u (entry_by (entry_count journal r) (s.views r)) ≤ entry_count journal r
    go Down e h o = h
    go (Greeting c) e h o = h
    go (Open c Idle) e h o = h
    go (Open c SendsBeat) e h o = h
    go (Open c (SendsAgain q m)) e h o = h
    go (Open c (SendsScript q k m)) e h o = h
    go (Open c (SendsEdit q k)) e h o = by (same_id r q) refl
      where
        by : (b : Bool) → same_id r q ≡ b → (if b then k + 1 else entry_by (entry_count journal r) (s.views r)) ≤ entry_count journal r
        by true y = rw (same-true r q y) (omega (arith, o))
        by false y = h

pub keeps-opened : (journal : List Entry) (c : ℕ) (s : PeerState) → IsPeerWithin journal s → Keeps journal s (peer_opened c s)
keeps-opened journal c s i = record { within = record { views = λ r. tt; out = tt }; rises = λ r. within-count journal s r i }

pub keeps-cut : (journal : List Entry) (s : PeerState) → IsPeerWithin journal s → Keeps journal s (peer_cut s)
keeps-cut journal s i = record { within = record { views = λ r. tt; out = tt }; rises = λ r. within-count journal s r i }

pub keeps-beat : (journal : List Entry) (s : PeerState) → IsPeerWithin journal s → Keeps journal s (peer_beat s)
keeps-beat journal s i = record { within = record { views = i.views; out = i.out }; rises = λ r. omega arith }

-- the connection goes idle, with a new view of one order
idle-back : (journal : List Entry) (s : PeerState) (c : ℕ) (q : Text) (v : View) → IsPeerWithin journal s → IsViewWithin journal q v → next_entry journal s q ≤ entry_by (entry_count journal q) v
    → ((r : Text) → same_id r q ≡ false → next_entry journal s r ≤ entry_by (entry_count journal r) (s.views r)) → Keeps journal s (back_to s c q v).0
idle-back journal s c q v i w n o = record {
  within = record { views = λ r. views r (same_id r q) refl; out = tt };
  rises = λ r. rises r (same_id r q) refl;
}
  where
    views : (r : Text) (b : Bool) → same_id r q ≡ b → IsViewWithin journal r (if b then v else s.views r)
    views r true e = subst (λ (z : Text). IsViewWithin journal z v) (sym (same-true r q e)) w
    views r false e = i.views r

    rises : (r : Text) (b : Bool) → same_id r q ≡ b → next_entry journal s r ≤ entry_by (entry_count journal r) (if b then v else s.views r)
    rises r true e = subst (λ (z : Text). next_entry journal s z ≤ entry_by (entry_count journal z) v) (sym (same-true r q e)) n
    rises r false e = o r e

-- upper_answer

by_open : (journal : List Entry) (s : PeerState) (c : ℕ) (u : Upper) → s.upper ≡ u → IsPeerWithin journal s → ((r : Text) (n : ℕ) → entry_after r u n ≡ n) → Keeps journal s (record { upper = Open c Idle; note = s.note; link = s.link; views = s.views })
by_open journal s c u e i h = record {
  within = record { views = i.views; out = tt };
  rises = λ r. rw (e, h r (entry_by (entry_count journal r) (s.views r))) (same_number (entry_by (entry_count journal r) (s.views r)));
}
  where
    same_number : (n : ℕ) → n ≤ n
    same_number n = omega arith

view-entry : (journal : List Entry) (r : Text) (k : ℕ) (b : Bool) → k < entry_count journal r → IsViewWithin journal r (view_if b (k + 1)) × (k + 1 ≤ entry_by (entry_count journal r) (view_if b (k + 1)))
view-entry journal r k true h = ((omega (arith, h), tt, λ j y. absurd (cc)), omega arith)
view-entry journal r k false h = (tt, omega (arith, h))

view-again : (journal : List Entry) (r : Text) (m : ℕ) (b : Bool) → m ≤ entry_count journal r → IsViewWithin journal r (view_if b m) × (m ≤ entry_by (entry_count journal r) (view_if b m))
view-again journal r m true h = ((h, tt, λ j y. absurd (cc)), omega arith)
view-again journal r m false h = (tt, h)

answer-entry : (journal : List Entry) (s : PeerState) (c : ℕ) (q r : Text) (k : ℕ) (t : Status) (b : Bool) → s.upper ≡ Open c (SendsEdit r k) → IsPeerWithin journal s → same_id q r ≡ b
    → Keeps journal s (if b then back_to s c r (view_if (is_success (is_ready (kind (edit_at journal r k))) t) (k + 1)) else unasked s).0
answer-entry journal s c q r k t false e i y = keeps-cut journal s i
answer-entry journal s c q r k t true e i y =
    let o = i.out in
    let p : (k < entry_count journal r) × ((s.views r ≡ In k false []) ⊎ (s.views r ≡ From k)) = subst (λ (u : Upper). IsOutWithin journal s.views u) e o in
    let v = view-entry journal r k (is_success (is_ready (kind (edit_at journal r k))) t) p.0 in
    idle-back journal s c r (view_if (is_success (is_ready (kind (edit_at journal r k))) t) (k + 1)) i v.0 (rw (e, same-self r) v.1) (λ z n. rw (e, n) (omega arith))

answer-again : (journal : List Entry) (s : PeerState) (c : ℕ) (q r : Text) (m : ℕ) (t : Status) (b : Bool) → s.upper ≡ Open c (SendsAgain r m) → IsPeerWithin journal s → same_id q r ≡ b
    → Keeps journal s (if b then back_to s c r (view_if (is_success true t) m) else unasked s).0
answer-again journal s c q r m t false e i y = keeps-cut journal s i
answer-again journal s c q r m t true e i y =
    let o = i.out in
    let p : s.views r ≡ In m true [] = subst (λ (u : Upper). IsOutWithin journal s.views u) e o in
    let w : IsViewWithin journal r (In m true []) = subst (λ (v : View). IsViewWithin journal r v) p (i.views r) in
    let v = view-again journal r m (is_success true t) w.0 in
    idle-back journal s c r (view_if (is_success true t) m) i v.0 (rw (e, p) v.1) (λ z n. rw e (omega arith))

has-without : (j k : ℕ) (ks : List ℕ) → has_number j (without_number k ks) ≡ true → has_number j ks ≡ true
has-without j k [] h = h
has-without j k (x ∷ xs) h = step (has-without j k xs) h
  where
    step : (has_number j (without_number k xs) ≡ true → has_number j xs ≡ true) → has_number j (without_number k (x ∷ xs)) ≡ true → has_number j (x ∷ xs) ≡ true
    step i h = grind (arith, nat_tests)

view-script : (journal : List Entry) (r : Text) (k m : ℕ) (again : Bool) (scripts : List ℕ) (b : Bool) → IsViewWithin journal r (In m again (k ∷ scripts))
    → IsViewWithin journal r (view_without b k (In m again (k ∷ scripts))) × (m ≤ entry_by (entry_count journal r) (view_without b k (In m again (k ∷ scripts))))
view-script journal r k m again scripts true h = ((h.0, h.1, λ j y. h.2 j (has-without j k (k ∷ scripts) y)), omega arith)
view-script journal r k m again scripts false h = (tt, h.0)

answer-script : (journal : List Entry) (s : PeerState) (c : ℕ) (q r : Text) (k m : ℕ) (t : Status) (b : Bool) → s.upper ≡ Open c (SendsScript r k m) → IsPeerWithin journal s → same_id q r ≡ b
    → Keeps journal s (if b then back_to s c r (view_without (is_success false t) k (s.views r)) else unasked s).0
answer-script journal s c q r k m t false e i y = keeps-cut journal s i
answer-script journal s c q r k m t true e i y =
    let o = i.out in
    let p : (again : Bool) × (scripts : List ℕ) × (s.views r ≡ In m again (k ∷ scripts)) = subst (λ (u : Upper). IsOutWithin journal s.views u) e o in
    let w : IsViewWithin journal r (In m p.0 (k ∷ p.1)) = subst (λ (v : View). IsViewWithin journal r v) p.2 (i.views r) in
    let v = subst (λ (x : View). IsViewWithin journal r (view_without (is_success false t) k x) × (m ≤ entry_by (entry_count journal r) (view_without (is_success false t) k x))) (sym p.2) (view-script journal r k m p.0 p.1 (is_success false t) w) in
    idle-back journal s c r (view_without (is_success false t) k (s.views r)) i v.0 (let n : next_entry journal s r ≡ m = rw (e, p.2) refl in rw n v.1) (λ z n. rw e (omega arith))

keeps-answered-by : (journal : List Entry) (s : PeerState) (u : Upper) (m : Message) → s.upper ≡ u → IsPeerWithin journal s → Keeps journal s (answered_by journal s u m).0
keeps-answered-by journal s (Greeting c) (Heartbeat t) e i = by_open journal s c (Greeting c) e i (λ r n. refl)
keeps-answered-by journal s (Open c SendsBeat) (Heartbeat t) e i = by_open journal s c (Open c SendsBeat) e i (λ r n. refl)
keeps-answered-by journal s (Open c (SendsEdit r k)) (RoAck q t) e i = answer-entry journal s c q r k t (same_id q r) e i refl
keeps-answered-by journal s (Open c (SendsAgain r m)) (RoAck q t) e i = answer-again journal s c q r m t (same_id q r) e i refl
keeps-answered-by journal s (Open c (SendsScript r k m)) (RoAck q t) e i = answer-script journal s c q r k m t (same_id q r) e i refl
keeps-answered-by journal s u m e i = keeps-cut journal s i

pub keeps-answered : (journal : List Entry) (s : PeerState) (m : Message) → IsPeerWithin journal s → Keeps journal s (peer_answered journal s m).0
keeps-answered journal s m i = keeps-answered-by journal s s.upper m refl i

-- next_send

-- what may go out: what its view makes due
abbrev pub IsDue : List Entry → (Text → View) → ServerOut → Type 0
IsDue journal views Idle = Unit {0}
IsDue journal views SendsBeat = Unit {0}
IsDue journal views (SendsEdit r k) = (k < entry_count journal r) × ((views r ≡ In k false []) ⊎ (views r ≡ From k))
IsDue journal views (SendsAgain r m) = views r ≡ In m true []
IsDue journal views (SendsScript r k m) = (again : Bool) × (scripts : List ℕ) × (views r ≡ In m again (k ∷ scripts))

pub due-next : (journal : List Entry) (views : Text → View) (note : Bool) (o : ServerOut) → DueOk views (λ r. 0) journal o → IsDue journal views (beat_or_due note o)
due-next journal views true Idle d = tt
due-next journal views false Idle d = tt
due-next journal views note SendsBeat d = absurd d
due-next journal views note (SendsEdit r k) d = (omega (arith, d.0), d.1)
due-next journal views note (SendsAgain r m) d = d
due-next journal views note (SendsScript r k m) d = d

pub entry-due : (count k : ℕ) (v : View) → (v ≡ In k false []) ⊎ (v ≡ From k) → entry_by count v ≡ k
entry-due count k v (inl h) = rw h refl
entry-due count k v (inr h) = rw h refl

keeps-sent : (journal : List Entry) (now : MosTime) (s : PeerState) (c : ℕ) (o : ServerOut) → s.upper ≡ Open c Idle → IsPeerWithin journal s → IsDue journal s.views o → Keeps journal s (sent journal now s c o).0
keeps-sent journal now s c Idle e i d = record { within = i; rises = λ r. omega arith }
keeps-sent journal now s c SendsBeat e i d = record { within = record { views = i.views; out = tt }; rises = λ r. rw e (omega arith) }
keeps-sent journal now s c (SendsAgain q m) e i d = record { within = record { views = i.views; out = d }; rises = λ r. rw e (omega arith) }
keeps-sent journal now s c (SendsScript q k m) e i d = record { within = record { views = i.views; out = d }; rises = λ r. rw e (omega arith) }
keeps-sent journal now s c (SendsEdit q k) e i d = record { within = record { views = i.views; out = d }; rises = λ r. rw e (rises r (same_id r q) refl) }
  where
    rises : (r : Text) (b : Bool) → same_id r q ≡ b → entry_by (entry_count journal r) (s.views r) ≤ (if b then k + 1 else entry_by (entry_count journal r) (s.views r))
    rises r false y = omega arith
    rises r true y = let n = entry-due (entry_count journal q) k (s.views q) d.1 in rw (same-true r q y) (omega (arith, n))

keeps-next-by : (journal : List Entry) (now : MosTime) (s : PeerState) (u : Upper) → s.upper ≡ u → IsPeerWithin journal s → Keeps journal s (next_by journal now s u).0
keeps-next-by journal now s Down e i = record { within = i; rises = λ r. omega arith }
keeps-next-by journal now s (Greeting c) e i = record { within = i; rises = λ r. omega arith }
keeps-next-by journal now s (Open c Idle) e i = keeps-sent journal now s c (beat_or_due s.note (first_due s.views (λ r. 0) journal)) e i (due-next journal s.views s.note (first_due s.views (λ r. 0) journal) (due_ok s.views (λ r. 0) journal))
keeps-next-by journal now s (Open c SendsBeat) e i = record { within = i; rises = λ r. omega arith }
keeps-next-by journal now s (Open c (SendsEdit r k)) e i = record { within = i; rises = λ r. omega arith }
keeps-next-by journal now s (Open c (SendsAgain r m)) e i = record { within = i; rises = λ r. omega arith }
keeps-next-by journal now s (Open c (SendsScript r k m)) e i = record { within = i; rises = λ r. omega arith }

pub keeps-next : (journal : List Entry) (now : MosTime) (s : PeerState) → IsPeerWithin journal s → Keeps journal s (peer_next journal now s).0
keeps-next journal now s i = keeps-next-by journal now s s.upper refl i

-- device_accepted, device_dropped

-- new views, on the same connection, which raise no entry in flight
abbrev HaveViews : List Entry → PeerState → (Text → View) → Type 0
HaveViews journal s views = ((r : Text) → IsViewWithin journal r (views r)) × IsOutWithin journal views s.upper × ((r : Text) → entry_by (entry_count journal r) (s.views r) ≤ entry_by (entry_count journal r) (views r))

pub after-mono : (r : Text) (u : Upper) (m n : ℕ) → m ≤ n → entry_after r u m ≤ entry_after r u n
after-mono r Down m n h = h
after-mono r (Greeting c) m n h = h
after-mono r (Open c Idle) m n h = h
after-mono r (Open c SendsBeat) m n h = h
after-mono r (Open c (SendsAgain q k)) m n h = h
after-mono r (Open c (SendsScript q j k)) m n h = h
after-mono r (Open c (SendsEdit q k)) m n h = by (same_id r q)
  where
    by : (b : Bool) → (if b then k + 1 else m) ≤ (if b then k + 1 else n)
    by true = omega arith
    by false = h

pub with-views : (journal : List Entry) (s : PeerState) (link : Option ℕ) (note : Bool) (views : Text → View) → IsPeerWithin journal s → HaveViews journal s views → Keeps journal s (record { upper = s.upper; note = note; link = link; views = views })
with-views journal s link note views i h = record {
  within = record { views = h.0; out = h.1 };
  rises = λ r. after-mono r s.upper (entry_by (entry_count journal r) (s.views r)) (entry_by (entry_count journal r) (views r)) (h.2 r);
}

-- a view that changes only where it is Listed leaves what is in flight
out-kept : (journal : List Entry) (f : Text → View → View) (views : Text → View) (u : Upper) → ((r : Text) (n : ℕ) (a : Bool) (ks : List ℕ) → f r (In n a ks) ≡ In n a ks) → ((r : Text) (k : ℕ) → f r (From k) ≡ From k) → IsOutWithin journal views u → IsOutWithin journal (λ r. f r (views r)) u
out-kept journal f views Down g h o = tt
out-kept journal f views (Greeting c) g h o = tt
out-kept journal f views (Open c Idle) g h o = tt
out-kept journal f views (Open c SendsBeat) g h o = tt
out-kept journal f views (Open c (SendsAgain r m)) g h o = ap (λ (v : View). f r v) o ∙ g r m true []
out-kept journal f views (Open c (SendsScript r k m)) g h o = (o.0, o.1, ap (λ (v : View). f r v) o.2 ∙ g r m o.0 (k ∷ o.1))
out-kept journal f views (Open c (SendsEdit r k)) g h o = (o.0, by o.1)
  where
    by : (views r ≡ In k false []) ⊎ (views r ≡ From k) → (f r (views r) ≡ In k false []) ⊎ (f r (views r) ≡ From k)
    by (inl y) = inl (ap (λ (v : View). f r v) y ∙ g r k false [])
    by (inr y) = inr (ap (λ (v : View). f r v) y ∙ h r k)

unlisted-within : (journal : List Entry) (r : Text) (v : View) → IsViewWithin journal r v → IsViewWithin journal r (unlisted v) × (entry_by (entry_count journal r) v ≤ entry_by (entry_count journal r) (unlisted v))
unlisted-within journal r Out h = (tt, omega arith)
unlisted-within journal r (Listed m ks) h = (tt, h.0)
unlisted-within journal r (In n a ks) h = (h, omega arith)
unlisted-within journal r (From k) h = (h, omega arith)

pub keeps-linked : (journal : List Entry) (c : Option ℕ) (s : PeerState) → IsPeerWithin journal s → Keeps journal s (peer_linked c s)
keeps-linked journal c s i = with-views journal s c s.note (λ r. unlisted (s.views r)) i (
  λ r. (unlisted-within journal r (s.views r) (i.views r)).0,
  out-kept journal (λ r. unlisted) s.views s.upper (λ r n a ks. refl) (λ r k. refl) i.out,
  λ r. (unlisted-within journal r (s.views r) (i.views r)).1,
)

-- hear

ready-before : (journal : List Entry) (r : Text) (m : ℕ) → m ≤ entry_count journal r → IsViewWithin journal r (In m (ready_before journal r m) (in_force journal r m))
ready-before journal r zero h = (h, tt, λ j y. y)
ready-before journal r (suc m) h = by (is_ready (kind (edit_at journal r m))) refl
  where
    is_is : (k : Kind) → is_ready k ≡ true → k ≡ IsReady
    is_is k e = grind arith

    pred : m ≡ suc m - 1
    pred = omega arith

    by : (b : Bool) → is_ready (kind (edit_at journal r m)) ≡ b → IsViewWithin journal r (In (suc m) b (in_force journal r (suc m)))
    by false e = (h, tt, λ j y. y)
    by true e = (h, (omega arith, subst (λ (n : ℕ). kind (edit_at journal r n) ≡ IsReady) pred (is_is (kind (edit_at journal r m)) e)), λ j y. y)

settled-within : (journal : List Entry) (b : Bool) (r : Text) (v : View) → IsViewWithin journal r v → IsViewWithin journal r (settled journal b r v) × (entry_by (entry_count journal r) v ≤ entry_by (entry_count journal r) (settled journal b r v))
settled-within journal b r Out h = (tt, omega arith)
settled-within journal true r (Listed m ks) h = (subst (λ (js : List ℕ). IsViewWithin journal r (In m (ready_before journal r m) js)) (sym h.1) (ready-before journal r m h.0), omega arith)
settled-within journal false r (Listed m ks) h = (tt, h.0)
settled-within journal b r (In n a ks) h = (h, omega arith)
settled-within journal b r (From k) h = (h, omega arith)

settled-views : (journal : List Entry) (b : Bool) (s : PeerState) → IsPeerWithin journal s → HaveViews journal s (λ r. settled journal b r (s.views r))
settled-views journal b s i = (
  λ r. (settled-within journal b r (s.views r) (i.views r)).0,
  out-kept journal (λ r. settled journal b r) s.views s.upper (λ r n a ks. refl) (λ r k. refl) i.out,
  λ r. (settled-within journal b r (s.views r) (i.views r)).1,
)

keeps-settled : (journal : List Entry) (b : Bool) (s : PeerState) → IsPeerWithin journal s → Keeps journal s (peer_settled journal b s)
keeps-settled journal b s i = with-views journal s s.link s.note (λ r. settled journal b r (s.views r)) i (settled-views journal b s i)

-- one view written anew, of an order that has nothing in flight
out-other : (journal : List Entry) (views : Text → View) (q : Text) (v : View) (u : Upper) → is_busy q u ≡ false → IsOutWithin journal views u → IsOutWithin journal (set_order views q v) u
out-other journal views q v Down b o = tt
out-other journal views q v (Greeting c) b o = tt
out-other journal views q v (Open c Idle) b o = tt
out-other journal views q v (Open c SendsBeat) b o = tt
out-other journal views q v (Open c (SendsEdit r k)) b o = let n : same_id r q ≡ false = rw (same-sym r q) b in rw n o
out-other journal views q v (Open c (SendsAgain r m)) b o = let n : same_id r q ≡ false = rw (same-sym r q) b in rw n o
out-other journal views q v (Open c (SendsScript r k m)) b o = let n : same_id r q ≡ false = rw (same-sym r q) b in rw n o

keeps-listed : (journal : List Entry) (q : Text) (s : PeerState) → IsPeerWithin journal s → is_busy q s.upper ≡ false
    → Keeps journal s (record { upper = s.upper; note = s.note; link = s.link; views = set_order (λ r. settled journal false r (s.views r)) q (Listed (entry_count journal q) (in_force journal q (entry_count journal q))) })
keeps-listed journal q s i b =
    let h = settled-views journal false s i in
    with-views journal s s.link s.note (set_order (λ r. settled journal false r (s.views r)) q (Listed (entry_count journal q) (in_force journal q (entry_count journal q)))) i (
      λ r. views r (same_id r q) refl,
      out-other journal (λ r. settled journal false r (s.views r)) q (Listed (entry_count journal q) (in_force journal q (entry_count journal q))) s.upper b h.1,
      λ r. rises r (same_id r q) refl,
    )
  where
    count_is : (v : View) → IsViewWithin journal q v → entry_by (entry_count journal q) v ≤ entry_count journal q
    count_is Out h = omega arith
    count_is (Listed m ks) h = h.0
    count_is (In n again scripts) h = h.0
    count_is (From k) h = omega (arith, h)

    views : (r : Text) (c : Bool) → same_id r q ≡ c → IsViewWithin journal r (if c then Listed (entry_count journal q) (in_force journal q (entry_count journal q)) else settled journal false r (s.views r))
    views r false e = (settled-within journal false r (s.views r) (i.views r)).0
    views r true e = rw (same-true r q e) (omega arith, refl)

    rises : (r : Text) (c : Bool) → same_id r q ≡ c → entry_by (entry_count journal r) (s.views r) ≤ entry_by (entry_count journal r) (if c then Listed (entry_count journal q) (in_force journal q (entry_count journal q)) else settled journal false r (s.views r))
    rises r false e = (settled-within journal false r (s.views r) (i.views r)).1
    rises r true e = rw (same-true r q e) (count_is (s.views q) (i.views q))

pub keeps-hear : (journal : List Entry) (s : PeerState) (m : Message) → IsPeerWithin journal s → Keeps journal s (peer_hear journal s m).0
keeps-hear journal s (Heartbeat t) i = keeps-settled journal true s i
keeps-hear journal s (RoReq q) i = go (is_busy q s.upper) refl
  where
    go : (b : Bool) → is_busy q s.upper ≡ b → Keeps journal s (let x : PeerState × Packet = if b then (peer_settled journal false s, untagged (RoAck q NotNow)) else (record { upper = s.upper; note = s.note; link = s.link; views = set_order (λ r. settled journal false r (s.views r)) q (Listed (entry_count journal q) (in_force journal q (entry_count journal q))) }, list_of q (entry_count journal q) (order_now journal q)) in x.0)
    go true b = keeps-settled journal false s i
    go false b = keeps-listed journal q s i b
keeps-hear journal s m i = keeps-settled journal false s i
