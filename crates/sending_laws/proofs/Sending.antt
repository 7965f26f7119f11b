-- The entries that a run sends a device have ascending numbers: the next entry that it may be sent never falls, over restarts too.
use Rattle.std.proofs.Common.{◌≡◌, ℕ, ◌+◌, ◌<◌, ◌≤◌, List, [], ◌∷◌, ◌++◌, Bool, true, false, Option, Some, None, arith, refl, sym, ap, ◌∙◌, subst, eq-eqb, if◌then◌else◌, ◌==◌, ◌&&◌, nat_le}
use Rattle.std.proofs.lemmas.Bool.Decides.{nat_tests}
use Rattle.mos_edits.specs.Texts.{Text, same_id, set_number}
use Rattle.mos_edits.specs.Entries.{Entry, entry_count}
use Rattle.mos_edits.proofs.Identifiers.{same-true}
use Rattle.mos_edits.proofs.Journals.{grown_push}
use Rattle.mos_machines.specs.Messages.{Packet, Tag, is_link}
use Rattle.mos_machines.specs.Messages.Tag.{Untagged, OfEntry, OfAgain, OfScript, OfList}
use Rattle.mos_machines.specs.Server.{Upper, PeerState, upper_link, peer_next}
use Rattle.mos_machines.specs.Server.Upper.{Down, Greeting, Open}
use Rattle.mos_machines.specs.Steps.{ServerState, ServerEvent, server_step, sent_answer, server_sent, unless_stale, is_upper}
use Rattle.mos_machines.specs.Steps.ServerEvent.{NextSend}
use Rattle.mos_machines.specs.Steps.StepAnswer.{Sent}
use Rattle.mos_machines.specs.Views.{IsServerWithin, next_entry}
use Rattle.mos_machines.proofs.Growing.{server-grows}
use Rattle.mos_machines.proofs.ServerAnswers.{entry-sent}
use Rattle.mos_machines.proofs.Views.{keeps-cut}
use Rattle.world_laws.specs.World.{own_time, World, WorldEvent, Pairing, PairingEvent, Effect, opening, kept_journal, lose, sends_on, sends_if, pairing_step, has_device, at_device, world_step}
use Rattle.world_laws.specs.World.WorldEvent.{Command, AtDevice, Lose, FailNext, Restart}
use Rattle.world_laws.specs.World.PairingEvent.{Send}
use Rattle.world_laws.specs.World.Effect.{Impossible, Commanded, Connected, Performed, NothingSent, Wrote, Stepped}
use Rattle.world_laws.specs.Machines.{server_of, on_link, server_call, server_after}
use Rattle.world_laws.specs.Reached.{IsReached}
use Rattle.world_laws.proofs.MachineCalls.{world-server, world-command}
use Rattle.world_laws.proofs.Reaching.{reached-opening, reached-step, reached-within}
use Rattle.sending_laws.specs.Sends.{entry_in, in_effect, at_event, entries_sent, times, AreAscending}
use Rattle.sending_laws.proofs.Effects.{effect-there, effect-nowhere, sends-nothing}

-- the next entry that device `d` may be sent
abbrev next_of : ServerState → ℕ → Text → ℕ
next_of s d r = next_entry s.journal (s.peers d) r

-- ---- it never falls

after-rises : (s : ServerState) (o : Option ServerEvent) (d : ℕ) (r : Text) → IsServerWithin s → next_of s d r ≤ next_of (server_after s o) d r
after-rises s None d r i = omega arith
after-rises s (Some e) d r i = (server-grows false s e i d).rises r

kept-longer : (journal : List Entry) (kept : Bool) (o : Option Entry) (r : Text) → entry_count journal r ≤ entry_count (kept_journal journal kept o) r
kept-longer journal true (Some e) r = (grown_push journal e).longer r
kept-longer journal true None r = omega arith
kept-longer journal false o r = omega arith

either-rises : (b : Bool) (x y : World × Effect) (n d : ℕ) (r : Text) → n ≤ next_of (server_of x.0) d r → n ≤ next_of (server_of y.0) d r → let z : World × Effect = if b then x else y in n ≤ next_of (server_of z.0) d r
either-rises true x y n d r h k = h
either-rises false x y n d r h k = k

rises-at : (w : World) (b : ℕ) (e : PairingEvent) (t : Bool) (d : ℕ) (r : Text) → has_device w b ≡ t → IsServerWithin (server_of w) → next_of (server_of w) d r ≤ next_of (server_of (world_step w (AtDevice b e)).0) d r
rises-at w b e true d r h i = subst (λ (s : ServerState). next_of (server_of w) d r ≤ next_of s d r) (sym (world-server w b e h)) (after-rises (server_of w) (server_call b (w.count + 1) (w.pairings b) e) d r i)
rises-at w b e false d r h i =
    subst (λ (t : Bool). let z : World × Effect = if t then at_device w b e (pairing_step w.journal (w.count + 1) (w.pairings b) e) else (w, Impossible) in next_of (server_of w) d r ≤ next_of (server_of z.0) d r) (sym h) (omega arith)

step-rises : (w : World) (e : WorldEvent) (d : ℕ) (r : Text) → IsServerWithin (server_of w) → next_of (server_of w) d r ≤ next_of (server_of (world_step w e).0) d r
step-rises w (Command e) d r i = subst (λ (s : ServerState). next_of (server_of w) d r ≤ next_of s d r) (sym (world-command w e)) ((server-grows w.failing (server_of w) (ServerEvent.Command e) i d).rises r)
step-rises w (AtDevice b e) d r i = rises-at w b e (has_device w b) d r refl i
step-rises w (Lose c way k) d r i =
    either-rises (nat_le 1 c && nat_le c w.count) (record w { pairings = λ d. record (w.pairings d) { connections = set_number (w.pairings d).connections c (lose way k ((w.pairings d).connections c)) } }, Performed) (w, Impossible) (next_of (server_of w) d r) d r (omega arith) (omega arith)
step-rises w FailNext d r i = omega arith
step-rises w (Restart kept) d r i =
    let n = (keeps-cut w.journal (w.pairings d).peer (i d)).rises r in
    let k = kept-longer w.journal kept w.uncertain r in
    omega (arith, n, k)

-- ---- a sent entry was the next, and isn't from then on

own-link : (o : Option ℕ) (c : ℕ) → o ≡ Some c → is_link o c ≡ true
own-link o c e = rw (e, eq-eqb c c refl) refl

on-writes : (l : Pairing) (c : ℕ) (x : PeerState × Option Packet) (p : Packet) → (sends_on l (Some c) x).1 ≡ Wrote p → x.1 ≡ Some p
on-writes l c (s, None) p h = absurd (cc)
on-writes l c (s, Some q) p h = let q_is : q ≡ p = cc in ap (λ (z : Packet). Some z) q_is

pub send-writes : (journal : List Entry) (l : Pairing) (u : Upper) (p : Packet) → (sends_if journal l u).1 ≡ Wrote p → (c : ℕ) × (upper_link u ≡ Some c) × ((peer_next journal own_time l.peer).1 ≡ Some p)
send-writes journal l Down p h = absurd (cc)
send-writes journal l (Greeting c) p h = (c, refl, on-writes l c (peer_next journal own_time l.peer) p h)
send-writes journal l (Open c o) p h = (c, refl, on-writes l c (peer_next journal own_time l.peer) p h)

sent-is : (b : Bool) (s : ServerState) (d : ℕ) (x : PeerState × Option Packet) (p : Packet) → b ≡ true → x.1 ≡ Some p → (unless_stale b s (server_sent s d x)).0 ≡ Sent p
sent-is true s d x p h k = ap sent_answer k
sent-is false s d x p h k = absurd (cc)

same-journal : (b : Bool) (s : ServerState) (d : ℕ) (x : PeerState × Option Packet) → (unless_stale b s (server_sent s d x)).1.journal ≡ s.journal
same-journal true s d (y, p) = refl
same-journal false s d x = refl

send-raises : (w : World) (d : ℕ) (p : Packet) (r : Text) (k : ℕ) → has_device w d ≡ true → (pairing_step w.journal (w.count + 1) (w.pairings d) Send).1 ≡ Wrote p → p.tag ≡ OfEntry r k
    → (next_of (server_of w) d r ≡ k) × (next_of (server_of (world_step w (AtDevice d Send)).0) d r ≡ k + 1)
send-raises w d p r k h o t =
    let x = send-writes w.journal (w.pairings d) (w.pairings d).peer.upper p o in
    let a : (server_step false (server_of w) (NextSend d x.0 own_time)).0 ≡ Sent p =
    sent-is (is_upper (server_of w) d x.0) (server_of w) d (peer_next w.journal own_time (w.pairings d).peer) p (own-link (upper_link (w.pairings d).peer.upper) x.0 x.1) x.2 in
    let n = entry-sent false (server_of w) d x.0 own_time p r k a t in
    let after : server_of (world_step w (AtDevice d Send)).0 ≡ (server_step false (server_of w) (NextSend d x.0 own_time)).1 =
    world-server w d Send h ∙ ap (λ (c : Option ℕ). server_after (server_of w) (on_link (λ b. NextSend d b own_time) c)) x.1 in
    let journal = same-journal (is_upper (server_of w) d x.0) (server_of w) d (peer_next w.journal own_time (w.pairings d).peer) in
    (n.0, ap (λ (s : ServerState). next_of s d r) after ∙ ap (λ (j : List Entry). next_entry j ((server_step false (server_of w) (NextSend d x.0 own_time)).1.peers d) r) journal ∙ n.1)

-- ---- one event

-- what is sent between two values of the next entry: nothing, or one entry
abbrev Sends : List ℕ → ℕ → ℕ → Type 0
Sends [] n m = n ≤ m
Sends (k ∷ ks) n m = (n ≤ k) × (k < m) × (ks ≡ [])

send-sends : (w : World) (d : ℕ) (r : Text) (o : Effect) → has_device w d ≡ true → (pairing_step w.journal (w.count + 1) (w.pairings d) Send).1 ≡ o → next_of (server_of w) d r ≤ next_of (server_of (world_step w (AtDevice d Send)).0) d r
    → Sends (in_effect (entry_in r) o) (next_of (server_of w) d r) (next_of (server_of (world_step w (AtDevice d Send)).0) d r)
send-sends w d r Impossible h e n = n
send-sends w d r (Commanded t) h e n = n
send-sends w d r (Connected c) h e n = n
send-sends w d r Performed h e n = n
send-sends w d r NothingSent h e n = n
send-sends w d r (Stepped s) h e n = n
send-sends w d r (Wrote p) h e n = go p.tag refl
  where
    go : (t : Tag) → p.tag ≡ t → Sends (entry_in r t) (next_of (server_of w) d r) (next_of (server_of (world_step w (AtDevice d Send)).0) d r)
    go Untagged y = n
    go (OfAgain q m) y = n
    go (OfScript q k m) y = n
    go (OfList q m) y = n
    go (OfEntry q k) y = by (same_id r q) refl
      where
        by : (b : Bool) → same_id r q ≡ b → Sends (if b then k ∷ [] else []) (next_of (server_of w) d r) (next_of (server_of (world_step w (AtDevice d Send)).0) d r)
        by false z = n
        by true z =
            let x = send-raises w d p r k h e (y ∙ ap (λ (s : Text). OfEntry s k) (sym (same-true r q z))) in
            (omega (arith, x.0), omega (arith, x.1), refl)

abbrev SendsAt : World → WorldEvent → ℕ → Text → Type 0
SendsAt w e d r = Sends (at_event (entry_in r) d e (world_step w e).1) (next_of (server_of w) d r) (next_of (server_of (world_step w e).0) d r)

nothing-sends : (ks : List ℕ) (n m : ℕ) → ks ≡ [] → n ≤ m → Sends ks n m
nothing-sends [] n m e h = h
nothing-sends (k ∷ ks) n m e h = absurd (cc)

sends-there : (w : World) (d : ℕ) (e : PairingEvent) (r : Text) (t : Bool) → has_device w d ≡ t → next_of (server_of w) d r ≤ next_of (server_of (world_step w (AtDevice d e)).0) d r
    → Sends (in_effect (entry_in r) (world_step w (AtDevice d e)).1) (next_of (server_of w) d r) (next_of (server_of (world_step w (AtDevice d e)).0) d r)
sends-there w d e r false h n = nothing-sends (in_effect (entry_in r) (world_step w (AtDevice d e)).1) (next_of (server_of w) d r) (next_of (server_of (world_step w (AtDevice d e)).0) d r) (ap (λ (o : Effect). in_effect (entry_in r) o) (effect-nowhere w d e h)) n
sends-there w d Send r true h n =
    subst (λ (o : Effect). Sends (in_effect (entry_in r) o) (next_of (server_of w) d r) (next_of (server_of (world_step w (AtDevice d Send)).0) d r)) (sym (effect-there w d Send h)) (send-sends w d r (pairing_step w.journal (w.count + 1) (w.pairings d) Send).1 h refl n)
sends-there w d e r true h n =
    nothing-sends (in_effect (entry_in r) (world_step w (AtDevice d e)).1) (next_of (server_of w) d r) (next_of (server_of (world_step w (AtDevice d e)).0) d r)
    (ap (λ (o : Effect). in_effect (entry_in r) o) (effect-there w d e h) ∙ sends-nothing (entry_in r) refl (λ q m. refl) w.journal (w.count + 1) (w.pairings d) e (λ s. cc)) n

sends-at : (w : World) (b : ℕ) (e : PairingEvent) (d : ℕ) (r : Text) (t : Bool) → (d == b) ≡ t → next_of (server_of w) d r ≤ next_of (server_of (world_step w (AtDevice b e)).0) d r
    → Sends (if t then in_effect (entry_in r) (world_step w (AtDevice b e)).1 else []) (next_of (server_of w) d r) (next_of (server_of (world_step w (AtDevice b e)).0) d r)
sends-at w b e d r false y n = n
sends-at w b e d r true y n =
    let b_is : b ≡ d = grind (arith, nat_tests, y) in
    subst (λ (z : ℕ). Sends (in_effect (entry_in r) (world_step w (AtDevice b e)).1) (next_of (server_of w) z r) (next_of (server_of (world_step w (AtDevice b e)).0) z r)) b_is (sends-there w b e r (has_device w b) refl (subst (λ (z : ℕ). next_of (server_of w) z r ≤ next_of (server_of (world_step w (AtDevice b e)).0) z r) (sym b_is) n))

step-sends : (w : World) (e : WorldEvent) (d : ℕ) (r : Text) → IsServerWithin (server_of w) → SendsAt w e d r
step-sends w (Command e) d r i = step-rises w (Command e) d r i
step-sends w (AtDevice b e) d r i = sends-at w b e d r (d == b) refl (step-rises w (AtDevice b e) d r i)
step-sends w (Lose c way k) d r i = step-rises w (Lose c way k) d r i
step-sends w FailNext d r i = step-rises w FailNext d r i
step-sends w (Restart kept) d r i = step-rises w (Restart kept) d r i

-- ---- a run

asc-from : (n m : ℕ) (ks : List ℕ) → n ≤ m → AreAscending m ks → AreAscending n ks
asc-from n m [] h a = tt
asc-from n m (k ∷ ks) h a = (omega (arith, h, a.0), a.1)

asc-join : (xs : List ℕ) (n m : ℕ) (ys : List ℕ) → Sends xs n m → AreAscending m ys → AreAscending n (xs ++ ys)
asc-join [] n m ys s a = asc-from n m ys s a
asc-join (k ∷ ks) n m ys s a = (s.0, subst (λ (z : List ℕ). AreAscending (k + 1) (z ++ ys)) (sym s.2) (asc-from (k + 1) m ys (omega (arith, s.1)) a))

run-ascends : (w : World) (es : List WorldEvent) (d : ℕ) (r : Text) → IsReached w → AreAscending (next_of (server_of w) d r) (entries_sent d r w es)
run-ascends w [] d r i = tt
run-ascends w (e ∷ es) d r i =
    asc-join (at_event (entry_in r) d e (world_step w e).1) (next_of (server_of w) d r) (next_of (server_of (world_step w e).0) d r) (entries_sent d r (world_step w e).0 es) (step-sends w e d r (reached-within w i)) (run-ascends (world_step w e).0 es d r (reached-step w e i))

pub sent-ascending : (devices : ℕ) (events : List WorldEvent) (d : ℕ) (r : Text) → AreAscending 0 (entries_sent d r (opening devices) events)
sent-ascending devices events d r = asc-from 0 (next_of (server_of (opening devices)) d r) (entries_sent d r (opening devices) events) (omega arith) (run-ascends (opening devices) events d r (reached-opening devices))

-- ---- how often

times-below : (k n : ℕ) (ms : List ℕ) → k < n → AreAscending n ms → times k ms ≡ 0
times-below k n [] h a = refl
times-below k n (m ∷ ms) h a = by (m == k) refl (times-below k (m + 1) ms (omega (arith, h, a.0)) a.1)
  where
    by : (b : Bool) → (m == k) ≡ b → times k ms ≡ 0 → (if b then 1 else 0) + times k ms ≡ 0
    by false y t = omega (arith, t)
    by true y t = absurd (let m_is : m ≡ k = grind (arith, nat_tests, y) in omega (arith, h, a.0, m_is))

times-once : (k n : ℕ) (ms : List ℕ) → AreAscending n ms → times k ms ≤ 1
times-once k n [] a = omega arith
times-once k n (m ∷ ms) a = by (m == k) refl (times-once k (m + 1) ms a.1)
  where
    by : (b : Bool) → (m == k) ≡ b → times k ms ≤ 1 → (if b then 1 else 0) + times k ms ≤ 1
    by false y i = omega (arith, i)
    by true y i = let m_is : m ≡ k = grind (arith, nat_tests, y) in let t = times-below k (m + 1) ms (omega (arith, m_is)) a.1 in omega (arith, t)

pub sent-once : (devices : ℕ) (events : List WorldEvent) (d : ℕ) (r : Text) (k : ℕ) → times k (entries_sent d r (opening devices) events) ≤ 1
sent-once devices events d r k = times-once k 0 (entries_sent d r (opening devices) events) (sent-ascending devices events d r)
