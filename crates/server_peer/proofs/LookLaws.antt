-- How far nothing is due, through the server's steps at a device and through an entry at the end of the journal.
use Rattle.std.proofs.Common.{◌≡◌, ℕ, zero, suc, ◌+◌, ◌<◌, ◌≤◌, Bool, true, false, List, [], ◌∷◌, ◌++◌, length, slice_get, take, Option, Some, None, refl, sym, ap, ◌∙◌, subst, inl, inr, if◌then◌else◌, cond, nat_lt, ◌==◌, arith}
use Rattle.std.proofs.lemmas.Bool.Decides.{nat_tests}
use Rattle.std.proofs.lemmas.Bool.{cases_lt}
use Rattle.mos_edits.specs.Texts.{Text, same_id, set_order}
use Rattle.mos_edits.proofs.Identifiers.{same-true}
use Rattle.mos_edits.specs.Scripts.{without_number}
use Rattle.mos_edits.specs.Entries.{Entry, entries, entry_count, kind, edit_at}
use Rattle.mos_fields.specs.declared.time.MosTime.{MosTime}
use Rattle.mos_machines.specs.Messages.{Message}
use Rattle.mos_machines.specs.Messages.Message.{Heartbeat, RoEdit, RoAck, RoReq, RoReqAll, RoList, RoListAll, RoElementStat, OtherMessage}
use Rattle.mos_machines.specs.Server.{ServerOut, Upper, View, PeerState, view_without, due_at, due_in, is_ready, is_success, view_if, unlisted, settled, peer_answered, answered_by, peer_next, next_by, sent, beat_or_due, first_due, view_given, back_to, unasked}
use Rattle.mos_machines.specs.Server.View.{Out, Listed, In, From}
use Rattle.mos_machines.specs.Server.Upper.{Down, Greeting, Open}
use Rattle.mos_machines.specs.Server.ServerOut.{Idle, SendsEdit, SendsAgain, SendsScript, SendsBeat}
use Rattle.mos_machines.specs.Tables.{look, map_rows}
use Rattle.mos_machines.proofs.Least.{due_in-entry}
use Rattle.mos_machines.proofs.RowTables.{look-map}
use Rattle.rundown_log.specs.Positions.{positions}
use Rattle.rundown_log.proofs.PositionLemmas.{stands, stands-at, not-missing}
use Rattle.server_peer.specs.declared.due.Due.{Due}
use Rattle.server_peer.specs.Parts.{flight_view}
use Rattle.server_peer.specs.Dues.{first_from, IsIdleBefore, StandsFrom, only_listed, entry_until, again_until, script_until, out_until}
use Rattle.server_peer.proofs.DueLemmas.{AtMost, idle-before}

-- behind the end of the journal nothing is due
due-behind : (views : Text → View) (before : Text → ℕ) (xs : List Entry) (n : ℕ) → slice_get xs n ≡ None → due_in views before xs n ≡ Idle
due-behind views before [] n e = refl
due-behind views before (x ∷ xs) zero e = absurd (cc)
due-behind views before (x ∷ xs) (suc n) e = due-behind views (set_order before x.ro (before x.ro + 1)) xs n e

-- what the entries before a place come to, and each of them
pub idle-by : (n : ℕ) (journal : List Entry) (views : Text → View) → ((m : ℕ) (y : Entry) → m < n → slice_get journal m ≡ Some y → due_at y.ro (views y.ro) (entry_count (take m journal) y.ro) ≡ Idle) → IsIdleBefore n journal views
idle-by n journal views h m l = by (slice_get journal m) refl
  where
    by : (o : Option Entry) → slice_get journal m ≡ o → due_in views (λ r. 0) journal m ≡ Idle
    by None e = due-behind views (λ r. 0) journal m e
    by (Some y) e =
        let count : 0 + entry_count (take m journal) y.ro ≡ entry_count (take m journal) y.ro = omega arith in
        due_in-entry views (λ r. 0) journal m y e ∙ (ap (λ (k : ℕ). due_at y.ro (views y.ro) k) count ∙ h m y l e)

pub idle-at : (n : ℕ) (journal : List Entry) (views : Text → View) → IsIdleBefore n journal views → (m : ℕ) (y : Entry) → m < n → slice_get journal m ≡ Some y → due_at y.ro (views y.ro) (entry_count (take m journal) y.ro) ≡ Idle
idle-at n journal views i m y l e =
    let count : 0 + entry_count (take m journal) y.ro ≡ entry_count (take m journal) y.ro = omega arith in
    sym (due_in-entry views (λ r. 0) journal m y e ∙ ap (λ (k : ℕ). due_at y.ro (views y.ro) k) count) ∙ i m l

-- of orders of which nothing is known nothing is due
pub idle-out : (n : ℕ) (journal : List Entry) → IsIdleBefore n journal (λ r. Out)
idle-out n journal = idle-by n journal (λ r. Out) (λ m y l e. refl)

pub idle-less : (k n : ℕ) (journal : List Entry) (views : Text → View) → k ≤ n → IsIdleBefore n journal views → IsIdleBefore k journal views
idle-less k n journal views h i m l = i m (omega (arith, h, l))

-- views that make the same due
pub idle-same : (n : ℕ) (journal : List Entry) (views new : Text → View) → ((r : Text) (k : ℕ) → due_at r (new r) k ≡ due_at r (views r) k) → IsIdleBefore n journal views → IsIdleBefore n journal new
idle-same n journal views new s i = idle-by n journal new (λ m y l e. s y.ro (entry_count (take m journal) y.ro) ∙ idle-at n journal views i m y l e)

due-unlisted : (r : Text) (v : View) (k : ℕ) → due_at r (unlisted v) k ≡ due_at r v k
due-unlisted r Out k = refl
due-unlisted r (Listed m ks) k = refl
due-unlisted r (In n again ks) k = refl
due-unlisted r (From j) k = refl

due-unsettled : (journal : List Entry) (r : Text) (v : View) (k : ℕ) → due_at r (settled journal false r v) k ≡ due_at r v k
due-unsettled journal r Out k = refl
due-unsettled journal r (Listed m ks) k = refl
due-unsettled journal r (In n again ks) k = refl
due-unsettled journal r (From j) k = refl

pub idle-unlisted : (n : ℕ) (journal : List Entry) (views : Text → View) → IsIdleBefore n journal views → IsIdleBefore n journal (λ r. unlisted (views r))
idle-unlisted n journal views i = idle-same n journal views (λ r. unlisted (views r)) (λ r k. due-unlisted r (views r) k) i

pub idle-unsettled : (n : ℕ) (journal : List Entry) (views : Text → View) → IsIdleBefore n journal views → IsIdleBefore n journal (λ r. settled journal false r (views r))
idle-unsettled n journal views i = idle-same n journal views (λ r. settled journal false r (views r)) (λ r k. due-unsettled journal r (views r) k) i

-- one view that is written anew
pub idle-set : (n : ℕ) (journal : List Entry) (views : Text → View) (r : Text) (v : View) → ((m : ℕ) (y : Entry) → m < n → slice_get journal m ≡ Some y → y.ro ≡ r → due_at r v (entry_count (take m journal) r) ≡ Idle) → IsIdleBefore n journal views → IsIdleBefore n journal (set_order views r v)
idle-set n journal views r v h i = idle-by n journal (set_order views r v) (λ m y l e. by m y l e (same_id y.ro r) refl)
  where
    by : (m : ℕ) (y : Entry) → m < n → slice_get journal m ≡ Some y → (b : Bool) → same_id y.ro r ≡ b → due_at y.ro (if b then v else views y.ro) (entry_count (take m journal) y.ro) ≡ Idle
    by m y l e true s = let q = same-true y.ro r s in subst (λ (z : Text). due_at z v (entry_count (take m journal) z) ≡ Idle) (sym q) (h m y l e q)
    by m y l e false s = idle-at n journal views i m y l e

pub idle-listed : (n : ℕ) (journal : List Entry) (views : Text → View) (r : Text) (k : ℕ) (ks : List ℕ) → IsIdleBefore n journal views → IsIdleBefore n journal (set_order (λ q. settled journal false q (views q)) r (Listed k ks))
idle-listed n journal views r k ks i = idle-set n journal (λ q. settled journal false q (views q)) r (Listed k ks) (λ m y l e s. refl) (idle-unsettled n journal views i)

-- ---- lists that were taken

settled-at : (journal : List Entry) (r : Text) (v : View) (k : ℕ) → due_at r v k ≡ Idle → due_at r (only_listed journal r v) k ≡ Idle → due_at r (settled journal true r v) k ≡ Idle
settled-at journal r Out k h g = h
settled-at journal r (Listed m ks) k h g = g
settled-at journal r (In n again ks) k h g = h
settled-at journal r (From j) k h g = h

pub idle-settled : (n : ℕ) (journal : List Entry) (rows : List (Text × View)) → StandsFrom n (first_from journal None (map_rows (only_listed journal) rows)) → IsIdleBefore n journal (look Out rows) → IsIdleBefore n journal (λ r. settled journal true r (look Out rows r))
idle-settled n journal rows s i = idle-by n journal (λ r. settled journal true r (look Out rows r)) (λ m y l e. settled-at journal y.ro (look Out rows y.ro) (entry_count (take m journal) y.ro) (idle-at n journal (look Out rows) i m y l e) (idle-at n journal (λ r. only_listed journal r (look Out rows r)) lists m y l e))
  where
    at-most : (m : ℕ) → m < n → (o : Option Due) → StandsFrom n o → AtMost o m → ⊥
    at-most m l None t k = k
    at-most m l (Some d) t k = absurd (omega (arith, t, k, l))

    mapped : IsIdleBefore n journal (look Out (map_rows (only_listed journal) rows))
    mapped m l = by (slice_get journal m) refl
      where
        within : (xs : List Entry) (k : ℕ) (y : Entry) → slice_get xs k ≡ Some y → k < length xs
        within [] k y e = absurd (cc)
        within (x ∷ xs) zero y e = omega arith
        within (x ∷ xs) (suc k) y e = let w = within xs k y e in omega (arith, w)

        by : (o : Option Entry) → slice_get journal m ≡ o → due_in (look Out (map_rows (only_listed journal) rows)) (λ r. 0) journal m ≡ Idle
        by None e = due-behind (look Out (map_rows (only_listed journal) rows)) (λ r. 0) journal m e
        by (Some y) e = idle-before journal (map_rows (only_listed journal) rows) m (within journal m y e) (at-most m l (first_from journal None (map_rows (only_listed journal) rows)) s)

    lists : IsIdleBefore n journal (λ r. only_listed journal r (look Out rows r))
    lists = subst (λ (f : Text → View). IsIdleBefore n journal f) (look-map (only_listed journal) Out Out rows (λ r. refl)) mapped

-- ---- an answer

-- fewer entries of an order stand before a place than before a later one
pub count-rises : (r : Text) (xs : List Entry) (m p : ℕ) → m ≤ p → entry_count (take m xs) r ≤ entry_count (take p xs) r
count-rises r [] zero p h = omega arith
count-rises r [] (suc m) zero h = omega arith
count-rises r [] (suc m) (suc p) h = omega arith
count-rises r (x ∷ xs) zero p h = omega arith
count-rises r (x ∷ xs) (suc m) zero h = absurd (omega (arith, h))
count-rises r (x ∷ xs) (suc m) (suc p) h = by (same_id r x.ro) (count-rises r xs m p (omega (arith, h)))
  where
    by : (b : Bool) → length (entries r (take m xs)) ≤ length (entries r (take p xs)) → length (if b then x.edit ∷ entries r (take m xs) else entries r (take m xs)) ≤ length (if b then x.edit ∷ entries r (take p xs) else entries r (take p xs))
    by true i = omega (arith, i)
    by false i = i

-- before the place of entry `k` stand no more than `k` of its order
before-entry : (journal : List Entry) (r : Text) (k p m : ℕ) → slice_get (positions r journal) k ≡ Some p → m ≤ p → entry_count (take m journal) r ≤ k
before-entry journal r k p m e h =
    let s = stands 0 r journal k p e in
    let place = s.place in
    let p_is : p ≡ s.m = omega (arith, place) in
    let c = s.count in
    let u = count-rises r journal m s.m (omega (arith, h, p_is)) in
    omega (arith, c, u)

in-later : (r : Text) (n k : ℕ) → k < n → due_at r (In n false []) k ≡ Idle
in-later r n k h = by (n == k) refl
  where
    by : (b : Bool) → (n == k) ≡ b → (if b then SendsEdit r k else Idle) ≡ Idle
    by true e = absurd (grind (arith, nat_tests, h, e))
    by false e = refl

view-later : (r : Text) (b : Bool) (n k : ℕ) → k < n → due_at r (view_if b n) k ≡ Idle
view-later r true n k h = in-later r n k h
view-later r false n k h = refl

until-less : (o : Option ℕ) (from : ℕ) → entry_until o from ≤ from
until-less None from = omega arith
until-less (Some p) from = by (nat_lt p from) refl
  where
    by : (b : Bool) → nat_lt p from ≡ b → cond b p from ≤ from
    by true e = grind (arith, nat_tests, e)
    by false e = omega arith

until-place : (p from : ℕ) → entry_until (Some p) from ≤ p
until-place p from = by (nat_lt p from) refl
  where
    by : (b : Bool) → nat_lt p from ≡ b → cond b p from ≤ p
    by true e = omega arith
    by false e = grind (arith, nat_tests, e)

again-less : (journal : List Entry) (r : Text) (m from : ℕ) → again_until journal r m from ≤ from
again-less journal r zero from = omega arith
again-less journal r (suc k) from = until-less (slice_get (positions r journal) k) from

script-less : (v : View) (from : ℕ) → script_until v from ≤ from
script-less Out from = omega arith
script-less (Listed m ks) from = omega arith
script-less (In zero again ks) from = omega arith
script-less (In (suc n) again ks) from = omega arith
script-less (From k) from = omega arith

pub out-less : (journal : List Entry) (v : View) (u : Upper) (from : ℕ) → out_until journal v u from ≤ from
out-less journal v Down from = omega arith
out-less journal v (Greeting c) from = omega arith
out-less journal v (Open c Idle) from = omega arith
out-less journal v (Open c (SendsEdit r k)) from = until-less (slice_get (positions r journal) k) from
out-less journal v (Open c (SendsAgain r m)) from = again-less journal r m from
out-less journal v (Open c (SendsScript r k m)) from = script-less v from
out-less journal v (Open c SendsBeat) from = omega arith

-- the view of an order after its entry `k` was answered makes nothing due up to that entry
entry-answered : (journal : List Entry) (views : Text → View) (r : Text) (k n from : ℕ) (taken : Bool) → k < n → IsIdleBefore from journal views
    → IsIdleBefore (entry_until (slice_get (positions r journal) k) from) journal (set_order views r (view_if taken n))
entry-answered journal views r k n from taken h i = by (slice_get (positions r journal) k) refl
  where
    by : (o : Option ℕ) → slice_get (positions r journal) k ≡ o → IsIdleBefore (entry_until o from) journal (set_order views r (view_if taken n))
    by None e = λ m l. absurd (omega (arith, l))
    by (Some p) e = idle-set (entry_until (Some p) from) journal views r (view_if taken n) (λ m y l t s. let u = until-place p from in let b = before-entry journal r k p m e (omega (arith, l, u)) in view-later r taken n (entry_count (take m journal) r) (omega (arith, b, h))) (idle-less (entry_until (Some p) from) from journal views (until-less (Some p) from) i)

again-answered : (journal : List Entry) (views : Text → View) (r : Text) (m from : ℕ) (taken : Bool) → IsIdleBefore from journal views → IsIdleBefore (again_until journal r m from) journal (set_order views r (view_if taken m))
again-answered journal views r zero from taken i = λ m l. absurd (omega (arith, l))
again-answered journal views r (suc k) from taken i = entry-answered journal views r k (suc k) from taken (omega arith) i

-- behind a list of some entries what is due next stands no earlier once one of its scripts was taken

not-next : (r : Text) (n : ℕ) (again : Bool) (j : ℕ) (js : List ℕ) (c : ℕ) → due_at r (In n again (j ∷ js)) c ≡ Idle → (n == c + 1) ≡ false
not-next r n again j js c e = by (n == c + 1) refl e
  where
    by : (b : Bool) → (n == c + 1) ≡ b → (if b then SendsScript r j n else Idle) ≡ Idle → b ≡ false
    by true f g = absurd (cc)
    by false f g = refl

due-neither : (r : Text) (n : ℕ) (again : Bool) (ks : List ℕ) (c : ℕ) → (n == c + 1) ≡ false → (n == c) ≡ false → due_at r (In n again ks) c ≡ Idle
due-neither r n again (j ∷ js) c e f = ap (λ (b : Bool). if b then SendsScript r j n else Idle) e
due-neither r n true [] c e f = ap (λ (b : Bool). if b then SendsAgain r n else Idle) e
due-neither r n false [] c e f = ap (λ (b : Bool). if b then SendsEdit r c else Idle) f

-- before an entry of an order stands the one before it
record Before (journal : List Entry) (r : Text) (p c : ℕ) : Type 0 where
  pub place : ℕ
  pub less : place < p
  pub entry : Entry
  pub there : slice_get journal place ≡ Some entry
  pub ro : entry.ro ≡ r
  pub count : entry_count (take place journal) r ≡ c

before : (journal : List Entry) (r : Text) (p c : ℕ) (y : Entry) → slice_get journal p ≡ Some y → y.ro ≡ r → entry_count (take p journal) r ≡ suc c → Before journal r p c
before journal r p c y e f n = by (slice_get (positions r journal) c) refl
  where
    more : c < entry_count journal r
    more =
        let s = stands 0 y.ro journal (entry_count (take p journal) y.ro) (0 + p) (stands-at 0 journal p y e) in
        let l : entry_count (take p journal) r < entry_count journal r = subst (λ (z : Text). entry_count (take p journal) z < entry_count journal z) f s.numbered in
        omega (arith, l, n)

    by : (o : Option ℕ) → slice_get (positions r journal) c ≡ o → Before journal r p c
    by None g = absurd (not-missing r journal c more g)
    by (Some q) g =
        let s = stands 0 r journal c q g in
        let count = s.count in
        let l : s.m < p = elim (cases_lt s.m p) [
          | inl l ↦ l
          | inr h ↦ absurd (let u = count-rises r journal p s.m (omega (arith, h)) in omega (arith, u, count, n))
        ] in
        record { place = s.m; less = l; entry = s.entry; there = s.there; ro = sym (same-true r s.entry.ro s.ro); count = count }

module _ (journal : List Entry) (views : Text → View) (r : Text) (k from : ℕ) (i : IsIdleBefore from journal views) where
  idle-here : (p : ℕ) (y : Entry) → p < from → slice_get journal p ≡ Some y → y.ro ≡ r → due_at r (views r) (entry_count (take p journal) r) ≡ Idle
  idle-here p y l e s = subst (λ (z : Text). due_at z (views z) (entry_count (take p journal) z) ≡ Idle) s (idle-at from journal views i p y l e)

  script-taken : (n : ℕ) (again : Bool) (ks : List ℕ) → views r ≡ In (suc n) again ks → (p : ℕ) (y : Entry) → p < from → slice_get journal p ≡ Some y → y.ro ≡ r → due_at r (In (suc n) again (without_number k ks)) (entry_count (take p journal) r) ≡ Idle
  script-taken n again [] v p y l e s = subst (λ (w : View). due_at r w (entry_count (take p journal) r) ≡ Idle) v (idle-here p y l e s)
  script-taken n again (j ∷ js) v p y l e s = due-neither r (suc n) again (without_number k (j ∷ js)) (entry_count (take p journal) r) (next p y l e s) (here (suc n == entry_count (take p journal) r) refl)
    where
      next : (q : ℕ) (z : Entry) → q < from → slice_get journal q ≡ Some z → z.ro ≡ r → (suc n == entry_count (take q journal) r + 1) ≡ false
      next q z h g f = not-next r (suc n) again j js (entry_count (take q journal) r) (subst (λ (w : View). due_at r w (entry_count (take q journal) r) ≡ Idle) v (idle-here q z h g f))

      here : (b : Bool) → (suc n == entry_count (take p journal) r) ≡ b → b ≡ false
      here false f = refl
      here true f =
          let c : entry_count (take p journal) r ≡ suc n = grind (arith, nat_tests, f) in
          let b = before journal r p n y e s c in
          let less = b.less in
          let count = b.count in
          let g = next b.place b.entry (omega (arith, l, less)) b.there b.ro in
          absurd (grind (arith, nat_tests, g, count))

  script-answered : (taken : Bool) → IsIdleBefore (script_until (views r) from) journal (set_order views r (view_without taken k (views r)))
  script-answered taken = by (views r) refl taken
    where
      out : (n : ℕ) → n ≤ from → IsIdleBefore n journal (set_order views r Out)
      out n h = idle-set n journal views r Out (λ p y l e s. refl) (idle-less n from journal views h i)

      by : (v : View) → views r ≡ v → (b : Bool) → IsIdleBefore (script_until v from) journal (set_order views r (view_without b k v))
      by Out e true = out from (omega arith)
      by (Listed m ks) e true = out from (omega arith)
      by (From j) e true = out from (omega arith)
      by (In zero again ks) e true = λ m l. absurd (omega (arith, l))
      by (In (suc n) again ks) e true = idle-set from journal views r (In (suc n) again (without_number k ks)) (λ p y l g s. script-taken n again ks e p y l g s) i
      by v e false = out (script_until v from) (script-less v from)

module _ (journal : List Entry) (note : Bool) (link : Option ℕ) (views : Text → View) (from : ℕ) (i : IsIdleBefore from journal views) where
  by-edit : (c : ℕ) (r q : Text) (k : ℕ) (taken b : Bool) (s : PeerState) → s.views ≡ views → IsIdleBefore (entry_until (slice_get (positions r journal) k) from) journal (if b then back_to s c r (view_if taken (k + 1)) else unasked s).0.views
  by-edit c r q k taken true s e = subst (λ (f : Text → View). IsIdleBefore (entry_until (slice_get (positions r journal) k) from) journal (set_order f r (view_if taken (k + 1)))) (sym e) (entry-answered journal views r k (k + 1) from taken (omega arith) i)
  by-edit c r q k taken false s e = idle-out (entry_until (slice_get (positions r journal) k) from) journal

  by-again : (c : ℕ) (r q : Text) (m : ℕ) (taken b : Bool) (s : PeerState) → s.views ≡ views → IsIdleBefore (again_until journal r m from) journal (if b then back_to s c r (view_if taken m) else unasked s).0.views
  by-again c r q m taken true s e = subst (λ (f : Text → View). IsIdleBefore (again_until journal r m from) journal (set_order f r (view_if taken m))) (sym e) (again-answered journal views r m from taken i)
  by-again c r q m taken false s e = idle-out (again_until journal r m from) journal

  by-script : (c : ℕ) (r q : Text) (k : ℕ) (taken b : Bool) (s : PeerState) → s.views ≡ views → IsIdleBefore (script_until (views r) from) journal (if b then back_to s c r (view_without taken k (s.views r)) else unasked s).0.views
  by-script c r q k taken true s e = subst (λ (f : Text → View). IsIdleBefore (script_until (views r) from) journal (set_order f r (view_without taken k (f r)))) (sym e) (script-answered journal views r k from i taken)
  by-script c r q k taken false s e = idle-out (script_until (views r) from) journal

  by-out : (u : Upper) (m : Message) → IsIdleBefore (out_until journal (flight_view u views) u from) journal (answered_by journal (record { upper = u; note = note; link = link; views = views }) u m).0.views
  by-out Down m = idle-out from journal
  by-out (Greeting c) (Heartbeat time) = i
  by-out (Greeting c) (RoAck q t) = idle-out from journal
  by-out (Greeting c) (RoEdit x) = idle-out from journal
  by-out (Greeting c) (RoReq q) = idle-out from journal
  by-out (Greeting c) RoReqAll = idle-out from journal
  by-out (Greeting c) (RoList q o) = idle-out from journal
  by-out (Greeting c) (RoListAll hs) = idle-out from journal
  by-out (Greeting c) (RoElementStat q) = idle-out from journal
  by-out (Greeting c) (OtherMessage q) = idle-out from journal
  by-out (Open c Idle) m = idle-out from journal
  by-out (Open c SendsBeat) (Heartbeat time) = i
  by-out (Open c SendsBeat) (RoAck q t) = idle-out from journal
  by-out (Open c SendsBeat) (RoEdit x) = idle-out from journal
  by-out (Open c SendsBeat) (RoReq q) = idle-out from journal
  by-out (Open c SendsBeat) RoReqAll = idle-out from journal
  by-out (Open c SendsBeat) (RoList q o) = idle-out from journal
  by-out (Open c SendsBeat) (RoListAll hs) = idle-out from journal
  by-out (Open c SendsBeat) (RoElementStat q) = idle-out from journal
  by-out (Open c SendsBeat) (OtherMessage q) = idle-out from journal
  by-out (Open c (SendsEdit r k)) (RoAck q t) = by-edit c r q k (is_success (is_ready (kind (edit_at journal r k))) t) (same_id q r) (record { upper = Open c (SendsEdit r k); note = note; link = link; views = views }) refl
  by-out (Open c (SendsEdit r k)) (Heartbeat time) = idle-out (entry_until (slice_get (positions r journal) k) from) journal
  by-out (Open c (SendsEdit r k)) (RoEdit x) = idle-out (entry_until (slice_get (positions r journal) k) from) journal
  by-out (Open c (SendsEdit r k)) (RoReq q) = idle-out (entry_until (slice_get (positions r journal) k) from) journal
  by-out (Open c (SendsEdit r k)) RoReqAll = idle-out (entry_until (slice_get (positions r journal) k) from) journal
  by-out (Open c (SendsEdit r k)) (RoList q o) = idle-out (entry_until (slice_get (positions r journal) k) from) journal
  by-out (Open c (SendsEdit r k)) (RoListAll hs) = idle-out (entry_until (slice_get (positions r journal) k) from) journal
  by-out (Open c (SendsEdit r k)) (RoElementStat q) = idle-out (entry_until (slice_get (positions r journal) k) from) journal
  by-out (Open c (SendsEdit r k)) (OtherMessage q) = idle-out (entry_until (slice_get (positions r journal) k) from) journal
  by-out (Open c (SendsAgain r k)) (RoAck q t) = by-again c r q k (is_success true t) (same_id q r) (record { upper = Open c (SendsAgain r k); note = note; link = link; views = views }) refl
  by-out (Open c (SendsAgain r k)) (Heartbeat time) = idle-out (again_until journal r k from) journal
  by-out (Open c (SendsAgain r k)) (RoEdit x) = idle-out (again_until journal r k from) journal
  by-out (Open c (SendsAgain r k)) (RoReq q) = idle-out (again_until journal r k from) journal
  by-out (Open c (SendsAgain r k)) RoReqAll = idle-out (again_until journal r k from) journal
  by-out (Open c (SendsAgain r k)) (RoList q o) = idle-out (again_until journal r k from) journal
  by-out (Open c (SendsAgain r k)) (RoListAll hs) = idle-out (again_until journal r k from) journal
  by-out (Open c (SendsAgain r k)) (RoElementStat q) = idle-out (again_until journal r k from) journal
  by-out (Open c (SendsAgain r k)) (OtherMessage q) = idle-out (again_until journal r k from) journal
  by-out (Open c (SendsScript r k n)) (RoAck q t) = by-script c r q k (is_success false t) (same_id q r) (record { upper = Open c (SendsScript r k n); note = note; link = link; views = views }) refl
  by-out (Open c (SendsScript r k n)) (Heartbeat time) = idle-out (script_until (views r) from) journal
  by-out (Open c (SendsScript r k n)) (RoEdit x) = idle-out (script_until (views r) from) journal
  by-out (Open c (SendsScript r k n)) (RoReq q) = idle-out (script_until (views r) from) journal
  by-out (Open c (SendsScript r k n)) RoReqAll = idle-out (script_until (views r) from) journal
  by-out (Open c (SendsScript r k n)) (RoList q o) = idle-out (script_until (views r) from) journal
  by-out (Open c (SendsScript r k n)) (RoListAll hs) = idle-out (script_until (views r) from) journal
  by-out (Open c (SendsScript r k n)) (RoElementStat q) = idle-out (script_until (views r) from) journal
  by-out (Open c (SendsScript r k n)) (OtherMessage q) = idle-out (script_until (views r) from) journal

pub idle-answered : (journal : List Entry) (s : PeerState) (from : ℕ) (m : Message) → IsIdleBefore from journal s.views → IsIdleBefore (out_until journal (flight_view s.upper s.views) s.upper from) journal (peer_answered journal s m).0.views
idle-answered journal s from m i = by-out journal s.note s.link s.views from i s.upper m

-- ---- what is sent next leaves the views

sent-views : (journal : List Entry) (now : MosTime) (s : PeerState) (c : ℕ) (o : ServerOut) → (sent journal now s c o).0.views ≡ s.views
sent-views journal now s c Idle = refl
sent-views journal now s c SendsBeat = refl
sent-views journal now s c (SendsEdit r k) = refl
sent-views journal now s c (SendsAgain r m) = refl
sent-views journal now s c (SendsScript r k m) = refl

pub next-views : (journal : List Entry) (now : MosTime) (s : PeerState) → (peer_next journal now s).0.views ≡ s.views
next-views journal now s = by s.upper
  where
    by : (u : Upper) → (next_by journal now s u).0.views ≡ s.views
    by Down = refl
    by (Greeting c) = refl
    by (Open c Idle) = sent-views journal now s c (beat_or_due s.note (first_due s.views (λ r. 0) journal))
    by (Open c (SendsEdit r k)) = refl
    by (Open c (SendsAgain r m)) = refl
    by (Open c (SendsScript r k m)) = refl
    by (Open c SendsBeat) = refl

-- ---- an entry at the end of the journal

push-due : (views : Text → View) (before : Text → ℕ) (xs : List Entry) (e : Entry) (m : ℕ) → m < length xs → due_in views before (xs ++ e ∷ []) m ≡ due_in views before xs m
push-due views before [] e m h = absurd (omega (arith, h))
push-due views before (x ∷ xs) e zero h = refl
push-due views before (x ∷ xs) e (suc m) h = push-due views (set_order before x.ro (before x.ro + 1)) xs e m (omega (arith, h))

pub idle-pushed : (n : ℕ) (journal : List Entry) (views : Text → View) (e : Entry) → n ≤ length journal → IsIdleBefore n journal views → IsIdleBefore n (journal ++ e ∷ []) views
idle-pushed n journal views e h i m l = push-due views (λ r. 0) journal e m (omega (arith, h, l)) ∙ i m l

from-later : (r : Text) (n k : ℕ) → k < n → due_at r (From n) k ≡ Idle
from-later r n k h = by (n == k) refl
  where
    by : (b : Bool) → (n == k) ≡ b → (if b then SendsEdit r k else Idle) ≡ Idle
    by true e = absurd (grind (arith, nat_tests, h, e))
    by false e = refl

-- an entry that is given to the device before it stands in the journal
pub idle-given : (n : ℕ) (journal : List Entry) (views : Text → View) (r : Text) (whole : Bool) → IsIdleBefore n journal views → IsIdleBefore n journal (set_order views r (view_given whole (entry_count journal r) (views r)))
idle-given n journal views r whole i = idle-set n journal views r (view_given whole (entry_count journal r) (views r)) (λ m y l e s. by m y l e s whole (views r) refl) i
  where
    left : (m : ℕ) (y : Entry) → m < n → slice_get journal m ≡ Some y → y.ro ≡ r → due_at r (views r) (entry_count (take m journal) r) ≡ Idle
    left m y l e s = subst (λ (z : Text). due_at z (views z) (entry_count (take m journal) z) ≡ Idle) s (idle-at n journal views i m y l e)

    fewer : (m : ℕ) (y : Entry) → slice_get journal m ≡ Some y → y.ro ≡ r → entry_count (take m journal) r < entry_count journal r
    fewer m y e s = subst (λ (z : Text). entry_count (take m journal) z < entry_count journal z) s ((stands 0 y.ro journal (entry_count (take m journal) y.ro) (0 + m) (stands-at 0 journal m y e)).numbered)

    by : (m : ℕ) (y : Entry) → m < n → slice_get journal m ≡ Some y → y.ro ≡ r → (b : Bool) (v : View) → views r ≡ v → due_at r (view_given b (entry_count journal r) v) (entry_count (take m journal) r) ≡ Idle
    by m y l e s true Out h = from-later r (entry_count journal r) (entry_count (take m journal) r) (fewer m y e s)
    by m y l e s true (Listed k ks) h = refl
    by m y l e s true (In k a ks) h = subst (λ (v : View). due_at r v (entry_count (take m journal) r) ≡ Idle) h (left m y l e s)
    by m y l e s true (From k) h = subst (λ (v : View). due_at r v (entry_count (take m journal) r) ≡ Idle) h (left m y l e s)
    by m y l e s false v h = subst (λ (v : View). due_at r v (entry_count (take m journal) r) ≡ Idle) h (left m y l e s)
