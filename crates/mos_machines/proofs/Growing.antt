-- The journal grows by an entry: the server's views stay within it. Then the law of every event of the server.
use Rattle.std.proofs.Common.{◌≡◌, ◌⊎◌, inl, inr, ℕ, ◌-◌, ◌≤◌, List, [], ◌∷◌, ◌++◌, Bool, true, false, ◌&&◌, ◌==◌, Some, None, arith, refl, if◌then◌else◌, sym, subst, ◌∙◌}
use Rattle.std.proofs.lemmas.Bool.Decides.{nat_tests}
use Rattle.mos_edits.specs.Texts.{Text, same_id, set_order}
use Rattle.mos_edits.specs.Entries.{Entry, Kind, kind, entry_count, acceptance}
use Rattle.mos_edits.specs.Scripts.{has_number}
use Rattle.mos_edits.specs.Entries.Kind.{IsWhole}
use Rattle.mos_edits.proofs.Identifiers.{same-true}
use Rattle.mos_edits.proofs.Journals.{Grown, grown_push, grown_force, entry_count_push, edit_push}
use Rattle.mos_machines.specs.Server.{Upper, View, PeerState, peer_opened, peer_cut, peer_answered, peer_next, peer_beat, peer_linked, peer_hear, view_given, peer_given, is_open, is_whole, Verdict, verdict}
use Rattle.mos_machines.specs.Server.ServerOut.{Idle, SendsEdit, SendsAgain, SendsScript, SendsBeat}
use Rattle.mos_machines.specs.Server.Upper.{Down, Greeting, Open}
use Rattle.mos_machines.specs.Server.View.{Out, Listed, In, From}
use Rattle.mos_machines.specs.Server.Verdict.{Takes, Fails, Refuses}
use Rattle.mos_machines.specs.Steps.{ServerState, started, ServerEvent, StepAnswer, with_peer, server_stepped, server_sent, server_says, server_told, unless_stale, is_upper, is_lower, server_step}
use Rattle.mos_machines.specs.Steps.ServerEvent.{Command, UpperOpened, UpperCut, UpperAnswer, Beat, DeviceAccepted, DeviceDropped, NextSend, Hear}
use Rattle.mos_machines.specs.Views.{IsReadyIf, IsViewWithin, IsOutWithin, IsPeerWithin, IsServerWithin, entry_by, next_entry}
use Rattle.mos_machines.proofs.Views.{Keeps, after-mono, keeps-opened, keeps-cut, keeps-beat, keeps-answered, keeps-next, keeps-linked, keeps-hear}

grown-view : (journal new : List Entry) → Grown journal new → (r : Text) (v : View) → IsViewWithin journal r v → IsViewWithin new r v
grown-view journal new g r Out h = tt
grown-view journal new g r (Listed m ks) h = let l = g.longer r in (omega (arith, h.0, l), h.1 ∙ sym (grown_force journal new g r m h.0))
grown-view journal new g r (In n a ks) h = let l = g.longer r in (omega (arith, h.0, l), ready a h.1, λ j y. subst (λ (fs : List ℕ). has_number j fs ≡ true) (sym (grown_force journal new g r n h.0)) (h.2 j y))
  where
    ready : (b : Bool) → IsReadyIf journal r n b → IsReadyIf new r n b
    ready false i = tt
    ready true i = (i.0, rw (g.edit r (n - 1) (omega (arith, i.0, h.0))) i.1)
grown-view journal new g r (From k) h = let l = g.longer r in (omega (arith, h.0, l), rw (g.edit r k h.0) h.1)

grown-by : (journal new : List Entry) → Grown journal new → (r : Text) (v : View) → IsViewWithin journal r v → entry_by (entry_count journal r) v ≤ entry_by (entry_count new r) v
grown-by journal new g r Out h = g.longer r
grown-by journal new g r (Listed m ks) h = omega arith
grown-by journal new g r (In n a ks) h = omega arith
grown-by journal new g r (From k) h = omega arith

-- the view of the order that got the entry
given-view : (journal : List Entry) (e : Entry) (b : Bool) (v : View) → (b ≡ true → kind e.edit ≡ IsWhole) → IsViewWithin journal e.ro v
    → IsViewWithin (journal ++ e ∷ []) e.ro (view_given b (entry_count journal e.ro) v) × (entry_by (entry_count journal e.ro) v ≤ entry_by (entry_count (journal ++ e ∷ []) e.ro) (view_given b (entry_count journal e.ro) v))
given-view journal e true Out w h = let n = entry_count_push journal e in ((omega (arith, n), rw (edit_push journal e) (w refl)), omega arith)
given-view journal e false Out w h = let n = entry_count_push journal e in (tt, omega (arith, n))
given-view journal e true (Listed m ks) w h = let g = grown_push journal e in (grown-view journal (journal ++ e ∷ []) g e.ro (Listed m ks) h, omega arith)
given-view journal e false (Listed m ks) w h = let g = grown_push journal e in (grown-view journal (journal ++ e ∷ []) g e.ro (Listed m ks) h, omega arith)
given-view journal e true (In n a ks) w h = let g = grown_push journal e in (grown-view journal (journal ++ e ∷ []) g e.ro (In n a ks) h, omega arith)
given-view journal e false (In n a ks) w h = let g = grown_push journal e in (grown-view journal (journal ++ e ∷ []) g e.ro (In n a ks) h, omega arith)
given-view journal e true (From k) w h = let g = grown_push journal e in (grown-view journal (journal ++ e ∷ []) g e.ro (From k) h, omega arith)
given-view journal e false (From k) w h = let g = grown_push journal e in (grown-view journal (journal ++ e ∷ []) g e.ro (From k) h, omega arith)

whole-open : (u : Upper) (k : Kind) → is_open u && is_whole k ≡ true → k ≡ IsWhole
whole-open u k h = grind arith

-- what is in flight keeps its view: only a view that is Out changes
given-out : (journal : List Entry) (e : Entry) (b : Bool) (views : Text → View) (u : Upper) → IsOutWithin journal views u → IsOutWithin (journal ++ e ∷ []) (set_order views e.ro (view_given b (entry_count journal e.ro) (views e.ro))) u
given-out journal e b views Down o = tt
given-out journal e b views (Greeting c) o = tt
given-out journal e b views (Open c Idle) o = tt
given-out journal e b views (Open c SendsBeat) o = tt
given-out journal e b views (Open c (SendsAgain r m)) o = by (same_id r e.ro) refl
  where
    stays : (v : View) → v ≡ In m true [] → view_given b (entry_count journal e.ro) v ≡ In m true []
    stays v h = rw h (by_given b)
      where
        by_given : (b : Bool) → view_given b (entry_count journal e.ro) (In m true []) ≡ In m true []
        by_given true = refl
        by_given false = refl

    by : (c : Bool) → same_id r e.ro ≡ c → (if c then view_given b (entry_count journal e.ro) (views e.ro) else views r) ≡ In m true []
    by false y = o
    by true y = stays (views e.ro) (subst (λ (z : Text). views z ≡ In m true []) (same-true r e.ro y) o)
given-out journal e b views (Open c (SendsScript r k m)) o = (o.0, o.1, by (same_id r e.ro) refl)
  where
    stays : (v : View) → v ≡ In m o.0 (k ∷ o.1) → view_given b (entry_count journal e.ro) v ≡ In m o.0 (k ∷ o.1)
    stays v h = rw h (by_given b)
      where
        by_given : (b : Bool) → view_given b (entry_count journal e.ro) (In m o.0 (k ∷ o.1)) ≡ In m o.0 (k ∷ o.1)
        by_given true = refl
        by_given false = refl

    by : (c : Bool) → same_id r e.ro ≡ c → (if c then view_given b (entry_count journal e.ro) (views e.ro) else views r) ≡ In m o.0 (k ∷ o.1)
    by false y = o.2
    by true y = stays (views e.ro) (subst (λ (z : Text). views z ≡ In m o.0 (k ∷ o.1)) (same-true r e.ro y) o.2)
given-out journal e b views (Open c (SendsEdit r k)) o = (let l = (grown_push journal e).longer r in omega (arith, l, o.0), by (same_id r e.ro) refl o.1)
  where
    stays_in : (b : Bool) → view_given b (entry_count journal e.ro) (In k false []) ≡ In k false []
    stays_in true = refl
    stays_in false = refl

    stays_from : (b : Bool) → view_given b (entry_count journal e.ro) (From k) ≡ From k
    stays_from true = refl
    stays_from false = refl

    stays : (v : View) → (v ≡ In k false []) ⊎ (v ≡ From k) → (view_given b (entry_count journal e.ro) v ≡ In k false []) ⊎ (view_given b (entry_count journal e.ro) v ≡ From k)
    stays v (inl h) = inl (rw h (stays_in b))
    stays v (inr h) = inr (rw h (stays_from b))

    by : (c : Bool) → same_id r e.ro ≡ c → (views r ≡ In k false []) ⊎ (views r ≡ From k)
        → ((if c then view_given b (entry_count journal e.ro) (views e.ro) else views r) ≡ In k false []) ⊎ ((if c then view_given b (entry_count journal e.ro) (views e.ro) else views r) ≡ From k)
    by false y h = h
    by true y h = stays (views e.ro) (subst (λ (z : Text). (views z ≡ In k false []) ⊎ (views z ≡ From k)) (same-true r e.ro y) h)

-- a step over a grown journal
pub record Grows (journal new : List Entry) (s t : PeerState) : Type 0 where
  pub within : IsPeerWithin new t
  pub rises : (r : Text) → next_entry journal s r ≤ next_entry new t r

pub grows-given : (journal : List Entry) (e : Entry) (s : PeerState) → IsPeerWithin journal s → Grows journal (journal ++ e ∷ []) s (peer_given e (entry_count journal e.ro) s)
grows-given journal e s i = record {
  within = record { views = λ r. (both r (same_id r e.ro) refl).0; out = given-out journal e (is_open s.upper && is_whole (kind e.edit)) s.views s.upper i.out };
  rises = λ r. after-mono r s.upper (entry_by (entry_count journal r) (s.views r)) (entry_by (entry_count (journal ++ e ∷ []) r) (set_order s.views e.ro (view_given (is_open s.upper && is_whole (kind e.edit)) (entry_count journal e.ro) (s.views e.ro)) r)) (both r (same_id r e.ro) refl).1;
}
  where
    v : View
    v = view_given (is_open s.upper && is_whole (kind e.edit)) (entry_count journal e.ro) (s.views e.ro)

    here : IsViewWithin (journal ++ e ∷ []) e.ro v × (entry_by (entry_count journal e.ro) (s.views e.ro) ≤ entry_by (entry_count (journal ++ e ∷ []) e.ro) v)
    here = given-view journal e (is_open s.upper && is_whole (kind e.edit)) (s.views e.ro) (whole-open s.upper (kind e.edit)) (i.views e.ro)

    both : (r : Text) (b : Bool) → same_id r e.ro ≡ b
        → IsViewWithin (journal ++ e ∷ []) r (if b then v else s.views r) × (entry_by (entry_count journal r) (s.views r) ≤ entry_by (entry_count (journal ++ e ∷ []) r) (if b then v else s.views r))
    both r true y = subst (λ (z : Text). IsViewWithin (journal ++ e ∷ []) z v × (entry_by (entry_count journal z) (s.views z) ≤ entry_by (entry_count (journal ++ e ∷ []) z) v)) (sym (same-true r e.ro y)) here
    both r false y = (grown-view journal (journal ++ e ∷ []) (grown_push journal e) r (s.views r) (i.views r), grown-by journal (journal ++ e ∷ []) (grown_push journal e) r (s.views r) (i.views r))

-- every event of the server
abbrev pub AllGrow : ServerState → ServerState → Type 0
AllGrow s t = (d : ℕ) → Grows s.journal t.journal (s.peers d) (t.peers d)

kept : (s : ServerState) → IsServerWithin s → AllGrow s s
kept s i d = record { within = i d; rises = λ r. omega arith }

with-peer : (s : ServerState) (d : ℕ) (x : PeerState) → IsServerWithin s → Keeps s.journal (s.peers d) x → AllGrow s (with_peer s d x)
with-peer s d x i k b = go (b == d) refl
  where
    go : (c : Bool) → (b == d) ≡ c → Grows s.journal s.journal (s.peers b) (if c then x else s.peers b)
    go false y = record { within = i b; rises = λ r. omega arith }
    go true y = let b_is : d ≡ b = grind (arith, nat_tests, y) in subst (λ (z : ℕ). Grows s.journal s.journal (s.peers z) x) b_is (record { within = k.within; rises = k.rises })

unless-stale : (b : Bool) (s : ServerState) (x : StepAnswer × ServerState) → IsServerWithin s → AllGrow s x.1 → AllGrow s (unless_stale b s x).1
unless-stale true s x i h = h
unless-stale false s x i h = kept s i

told : (s : ServerState) (e : Entry) (v : Verdict) → IsServerWithin s → AllGrow s (server_told s e v).1
told s e Takes i = λ d. grows-given s.journal e (s.peers d) (i d)
told s e Fails i = λ d. record { within = i d; rises = λ r. omega arith }
told s e (Refuses t) i = kept s i

pub server-grows : (fails : Bool) (s : ServerState) (e : ServerEvent) → IsServerWithin s → AllGrow s (server_step fails s e).1
server-grows fails s (Command e) i = told s e (verdict s.stopped fails (acceptance s.journal e)) i
server-grows fails s (UpperOpened d c) i = with-peer s d (peer_opened c (s.peers d)) i (keeps-opened s.journal c (s.peers d) (i d))
server-grows fails s (UpperCut d c) i = unless-stale (is_upper s d c) s (_, with_peer s d (peer_cut (s.peers d))) i (with-peer s d (peer_cut (s.peers d)) i (keeps-cut s.journal (s.peers d) (i d)))
server-grows fails s (UpperAnswer d c m) i = unless-stale (is_upper s d c) s (server_stepped s d (peer_answered s.journal (s.peers d) m)) i (with-peer s d (peer_answered s.journal (s.peers d) m).0 i (keeps-answered s.journal (s.peers d) m (i d)))
server-grows fails s (Beat d) i = with-peer s d (peer_beat (s.peers d)) i (keeps-beat s.journal (s.peers d) (i d))
server-grows fails s (DeviceAccepted d c) i = with-peer s d (peer_linked (Some c) (s.peers d)) i (keeps-linked s.journal (Some c) (s.peers d) (i d))
server-grows fails s (DeviceDropped d c) i = unless-stale (is_lower s d c) s (_, with_peer s d (peer_linked None (s.peers d))) i (with-peer s d (peer_linked None (s.peers d)) i (keeps-linked s.journal None (s.peers d) (i d)))
server-grows fails s (NextSend d c now) i = unless-stale (is_upper s d c) s (server_sent s d (peer_next s.journal now (s.peers d))) i (with-peer s d (peer_next s.journal now (s.peers d)).0 i (keeps-next s.journal now (s.peers d) (i d)))
server-grows fails s (Hear d c m) i = unless-stale (is_lower s d c) s (server_says s d (peer_hear s.journal (s.peers d) m)) i (with-peer s d (peer_hear s.journal (s.peers d) m).0 i (keeps-hear s.journal (s.peers d) m (i d)))

pub started-within : (journal : List Entry) (faults : ℕ) → IsServerWithin (started journal faults)
started-within journal faults d = record { views = λ r. tt; out = tt }
