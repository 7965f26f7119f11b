-- What an answer to an entry does to the tables of a device.
use Rattle.std.proofs.Common.{◌≡◌, ℕ, ◌+◌, Bool, true, false, List, Option, Some, None, refl, ap, ◌∙◌, if◌then◌else◌}
use Rattle.mos_edits.specs.Texts.{Text, same_id, set_order}
use Rattle.mos_edits.specs.Entries.{Entry, kind, edit_at}
use Rattle.mos_machines.specs.Messages.{Message}
use Rattle.mos_machines.specs.Messages.Message.{Heartbeat, RoEdit, RoAck, RoReq, RoReqAll, RoList, RoListAll, RoElementStat, OtherMessage}
use Rattle.mos_machines.specs.Messages.Step.{Taken}
use Rattle.mos_machines.specs.Server.{Upper, View, PeerState, view_if, view_without, is_success, is_ready, back_to, unasked, answered_by, peer_answered}
use Rattle.mos_machines.specs.Server.View.{Out}
use Rattle.mos_machines.specs.Server.ServerOut.{Idle, SendsEdit, SendsAgain, SendsScript, SendsBeat}
use Rattle.mos_machines.specs.Server.Upper.{Down, Greeting, Open}
use Rattle.mos_machines.specs.Tables.{look, put_row, PeerTables, peer_of}
use Rattle.mos_machines.proofs.RowTables.{look-put}
use Rattle.server_peer.specs.Parts.{beat_answered, edit_answered, again_answered, script_answered, flight_view, outcome, seen_tables}

back : (c : ℕ) (note : Bool) (link : Option ℕ) (u : Upper) (views : List (Text × View)) (r : Text) (v w : View) → Some (Some w) ≡ Some (Some v)
    → peer_of (record { upper = Open c Idle; note = note; link = link; views = put_row r v views }) ≡ (back_to (peer_of (record { upper = u; note = note; link = link; views = views })) c r w).0
back c note link u views r v w e =
    let v_is : v ≡ w = cc in
    λ i. record { upper = Open c Idle; note = note; link = link; views = (look-put Out views r v ∙ ap (λ (x : View). set_order (look Out views) r x) v_is) i }

entry-by : (b : Bool) (c : ℕ) (note : Bool) (link : Option ℕ) (u : Upper) (views : List (Text × View)) (r : Text) (v w : View) → (if b then Some (Some w) else None) ≡ Some (Some v)
    → peer_of (record { upper = Open c Idle; note = note; link = link; views = put_row r v views })
    ≡ (if b then back_to (peer_of (record { upper = u; note = note; link = link; views = views })) c r w else unasked (peer_of (record { upper = u; note = note; link = link; views = views }))).0
entry-by true c note link u views r v w e = back c note link u views r v w e
entry-by false c note link u views r v w e = absurd (cc)

beat-not : (m : Message) (v : View) {A : Type 0} → beat_answered m ≡ Some (Some v) → A
beat-not (Heartbeat time) v e = absurd (cc)
beat-not (RoEdit x) v e = absurd (cc)
beat-not (RoAck r t) v e = absurd (cc)
beat-not (RoReq r) v e = absurd (cc)
beat-not RoReqAll v e = absurd (cc)
beat-not (RoList r o) v e = absurd (cc)
beat-not (RoListAll hs) v e = absurd (cc)
beat-not (RoElementStat r) v e = absurd (cc)
beat-not (OtherMessage r) v e = absurd (cc)

module _ (journal : List Entry) (c : ℕ) (note : Bool) (link : Option ℕ) (views : List (Text × View)) (v : View) where
  edit-seen : (r : Text) (k : ℕ) (m : Message) → edit_answered journal r k m ≡ Some (Some v)
      → peer_of (record { upper = Open c Idle; note = note; link = link; views = put_row r v views }) ≡ (answered_by journal (peer_of (record { upper = Open c (SendsEdit r k); note = note; link = link; views = views })) (Open c (SendsEdit r k)) m).0
  edit-seen r k (RoAck q t) e = entry-by (same_id q r) c note link (Open c (SendsEdit r k)) views r v (view_if (is_success (is_ready (kind (edit_at journal r k))) t) (k + 1)) e
  edit-seen r k (Heartbeat time) e = absurd (cc)
  edit-seen r k (RoEdit x) e = absurd (cc)
  edit-seen r k (RoReq q) e = absurd (cc)
  edit-seen r k RoReqAll e = absurd (cc)
  edit-seen r k (RoList q o) e = absurd (cc)
  edit-seen r k (RoListAll hs) e = absurd (cc)
  edit-seen r k (RoElementStat q) e = absurd (cc)
  edit-seen r k (OtherMessage q) e = absurd (cc)

  again-seen : (r : Text) (n : ℕ) (m : Message) → again_answered r n m ≡ Some (Some v)
      → peer_of (record { upper = Open c Idle; note = note; link = link; views = put_row r v views }) ≡ (answered_by journal (peer_of (record { upper = Open c (SendsAgain r n); note = note; link = link; views = views })) (Open c (SendsAgain r n)) m).0
  again-seen r n (RoAck q t) e = entry-by (same_id q r) c note link (Open c (SendsAgain r n)) views r v (view_if (is_success true t) n) e
  again-seen r n (Heartbeat time) e = absurd (cc)
  again-seen r n (RoEdit x) e = absurd (cc)
  again-seen r n (RoReq q) e = absurd (cc)
  again-seen r n RoReqAll e = absurd (cc)
  again-seen r n (RoList q o) e = absurd (cc)
  again-seen r n (RoListAll hs) e = absurd (cc)
  again-seen r n (RoElementStat q) e = absurd (cc)
  again-seen r n (OtherMessage q) e = absurd (cc)

  script-seen : (r : Text) (k n : ℕ) (m : Message) → script_answered (look Out views r) r k m ≡ Some (Some v)
      → peer_of (record { upper = Open c Idle; note = note; link = link; views = put_row r v views }) ≡ (answered_by journal (peer_of (record { upper = Open c (SendsScript r k n); note = note; link = link; views = views })) (Open c (SendsScript r k n)) m).0
  script-seen r k n (RoAck q t) e = entry-by (same_id q r) c note link (Open c (SendsScript r k n)) views r v (view_without (is_success false t) k (look Out views r)) e
  script-seen r k n (Heartbeat time) e = absurd (cc)
  script-seen r k n (RoEdit x) e = absurd (cc)
  script-seen r k n (RoReq q) e = absurd (cc)
  script-seen r k n RoReqAll e = absurd (cc)
  script-seen r k n (RoList q o) e = absurd (cc)
  script-seen r k n (RoListAll hs) e = absurd (cc)
  script-seen r k n (RoElementStat q) e = absurd (cc)
  script-seen r k n (OtherMessage q) e = absurd (cc)

seen-by : (journal : List Entry) (u : Upper) (note : Bool) (link : Option ℕ) (views : List (Text × View)) (m : Message) (v : View) → outcome journal (flight_view u (look Out views)) u m ≡ Some (Some v)
    → peer_of (seen_tables (record { upper = u; note = note; link = link; views = views }) (Some v)) ≡ (answered_by journal (peer_of (record { upper = u; note = note; link = link; views = views })) u m).0
seen-by journal Down note link views m v e = absurd (cc)
seen-by journal (Greeting c) note link views m v e = beat-not m v e
seen-by journal (Open c Idle) note link views m v e = absurd (cc)
seen-by journal (Open c (SendsEdit r k)) note link views m v e = edit-seen journal c note link views v r k m e
seen-by journal (Open c (SendsAgain r n)) note link views m v e = again-seen journal c note link views v r n m e
seen-by journal (Open c (SendsScript r k n)) note link views m v e = script-seen journal c note link views v r k n m e
seen-by journal (Open c SendsBeat) note link views m v e = beat-not m v e

pub entry-seen : (journal : List Entry) (p : PeerTables) (m : Message) (v : View) → outcome journal (flight_view p.upper (look Out p.views)) p.upper m ≡ Some (Some v) → peer_of (seen_tables p (Some v)) ≡ (peer_answered journal (peer_of p) m).0
entry-seen journal p m v e = seen-by journal p.upper p.note p.link p.views m v e

-- nothing was asked for that it answers
refused-by : (b : Bool) (s : PeerState) (c : ℕ) (r : Text) (w v : View) → (if b then Some (Some w) else None) ≡ None → (if b then back_to s c r w else unasked s) ≡ unasked s
refused-by true s c r w v e = absurd (cc)
refused-by false s c r w v e = refl

module _ (journal : List Entry) (s : PeerState) where
  refused : (u : Upper) (m : Message) → outcome journal (flight_view u s.views) u m ≡ None → answered_by journal s u m ≡ unasked s
  refused Down m e = refl
  refused (Greeting c) (Heartbeat time) e = absurd (cc)
  refused (Greeting c) (RoEdit x) e = refl
  refused (Greeting c) (RoAck q t) e = refl
  refused (Greeting c) (RoReq q) e = refl
  refused (Greeting c) RoReqAll e = refl
  refused (Greeting c) (RoList q o) e = refl
  refused (Greeting c) (RoListAll hs) e = refl
  refused (Greeting c) (RoElementStat q) e = refl
  refused (Greeting c) (OtherMessage q) e = refl
  refused (Open c Idle) m e = refl
  refused (Open c SendsBeat) (Heartbeat time) e = absurd (cc)
  refused (Open c SendsBeat) (RoEdit x) e = refl
  refused (Open c SendsBeat) (RoAck q t) e = refl
  refused (Open c SendsBeat) (RoReq q) e = refl
  refused (Open c SendsBeat) RoReqAll e = refl
  refused (Open c SendsBeat) (RoList q o) e = refl
  refused (Open c SendsBeat) (RoListAll hs) e = refl
  refused (Open c SendsBeat) (RoElementStat q) e = refl
  refused (Open c SendsBeat) (OtherMessage q) e = refl
  refused (Open c (SendsEdit r k)) (Heartbeat time) e = refl
  refused (Open c (SendsEdit r k)) (RoEdit x) e = refl
  refused (Open c (SendsEdit r k)) (RoAck q t) e = refused-by (same_id q r) s c r (view_if (is_success (is_ready (kind (edit_at journal r k))) t) (k + 1)) Out e
  refused (Open c (SendsEdit r k)) (RoReq q) e = refl
  refused (Open c (SendsEdit r k)) RoReqAll e = refl
  refused (Open c (SendsEdit r k)) (RoList q o) e = refl
  refused (Open c (SendsEdit r k)) (RoListAll hs) e = refl
  refused (Open c (SendsEdit r k)) (RoElementStat q) e = refl
  refused (Open c (SendsEdit r k)) (OtherMessage q) e = refl
  refused (Open c (SendsAgain r n)) (Heartbeat time) e = refl
  refused (Open c (SendsAgain r n)) (RoEdit x) e = refl
  refused (Open c (SendsAgain r n)) (RoAck q t) e = refused-by (same_id q r) s c r (view_if (is_success true t) n) Out e
  refused (Open c (SendsAgain r n)) (RoReq q) e = refl
  refused (Open c (SendsAgain r n)) RoReqAll e = refl
  refused (Open c (SendsAgain r n)) (RoList q o) e = refl
  refused (Open c (SendsAgain r n)) (RoListAll hs) e = refl
  refused (Open c (SendsAgain r n)) (RoElementStat q) e = refl
  refused (Open c (SendsAgain r n)) (OtherMessage q) e = refl
  refused (Open c (SendsScript r k n)) (Heartbeat time) e = refl
  refused (Open c (SendsScript r k n)) (RoEdit x) e = refl
  refused (Open c (SendsScript r k n)) (RoAck q t) e = refused-by (same_id q r) s c r (view_without (is_success false t) k (s.views r)) Out e
  refused (Open c (SendsScript r k n)) (RoReq q) e = refl
  refused (Open c (SendsScript r k n)) RoReqAll e = refl
  refused (Open c (SendsScript r k n)) (RoList q o) e = refl
  refused (Open c (SendsScript r k n)) (RoListAll hs) e = refl
  refused (Open c (SendsScript r k n)) (RoElementStat q) e = refl
  refused (Open c (SendsScript r k n)) (OtherMessage q) e = refl

pub unasked-answer : (journal : List Entry) (p : PeerTables) (m : Message) → outcome journal (flight_view p.upper (look Out p.views)) p.upper m ≡ None → peer_answered journal (peer_of p) m ≡ unasked (peer_of p)
unasked-answer journal p m e = refused journal (peer_of p) p.upper m e

-- a heartbeat was answered
beat-by : (b : Bool) (w : View) {A : Type 0} → (if b then Some (Some w) else None) ≡ Some None → A
beat-by true w e = absurd (cc)
beat-by false w e = absurd (cc)

module _ (journal : List Entry) (note : Bool) (link : Option ℕ) (views : List (Text × View)) where
  beaten : (u : Upper) (m : Message) → outcome journal (flight_view u (look Out views)) u m ≡ Some None
      → (peer_of (seen_tables (record { upper = u; note = note; link = link; views = views }) None), Taken) ≡ answered_by journal (peer_of (record { upper = u; note = note; link = link; views = views })) u m
  beaten Down m e = absurd (cc)
  beaten (Greeting c) (Heartbeat time) e = refl
  beaten (Greeting c) (RoEdit x) e = absurd (cc)
  beaten (Greeting c) (RoAck q t) e = absurd (cc)
  beaten (Greeting c) (RoReq q) e = absurd (cc)
  beaten (Greeting c) RoReqAll e = absurd (cc)
  beaten (Greeting c) (RoList q o) e = absurd (cc)
  beaten (Greeting c) (RoListAll hs) e = absurd (cc)
  beaten (Greeting c) (RoElementStat q) e = absurd (cc)
  beaten (Greeting c) (OtherMessage q) e = absurd (cc)
  beaten (Open c Idle) m e = absurd (cc)
  beaten (Open c SendsBeat) (Heartbeat time) e = refl
  beaten (Open c SendsBeat) (RoEdit x) e = absurd (cc)
  beaten (Open c SendsBeat) (RoAck q t) e = absurd (cc)
  beaten (Open c SendsBeat) (RoReq q) e = absurd (cc)
  beaten (Open c SendsBeat) RoReqAll e = absurd (cc)
  beaten (Open c SendsBeat) (RoList q o) e = absurd (cc)
  beaten (Open c SendsBeat) (RoListAll hs) e = absurd (cc)
  beaten (Open c SendsBeat) (RoElementStat q) e = absurd (cc)
  beaten (Open c SendsBeat) (OtherMessage q) e = absurd (cc)
  beaten (Open c (SendsEdit r k)) (Heartbeat time) e = absurd (cc)
  beaten (Open c (SendsEdit r k)) (RoEdit x) e = absurd (cc)
  beaten (Open c (SendsEdit r k)) (RoAck q t) e = beat-by (same_id q r) (view_if (is_success (is_ready (kind (edit_at journal r k))) t) (k + 1)) e
  beaten (Open c (SendsEdit r k)) (RoReq q) e = absurd (cc)
  beaten (Open c (SendsEdit r k)) RoReqAll e = absurd (cc)
  beaten (Open c (SendsEdit r k)) (RoList q o) e = absurd (cc)
  beaten (Open c (SendsEdit r k)) (RoListAll hs) e = absurd (cc)
  beaten (Open c (SendsEdit r k)) (RoElementStat q) e = absurd (cc)
  beaten (Open c (SendsEdit r k)) (OtherMessage q) e = absurd (cc)
  beaten (Open c (SendsAgain r n)) (Heartbeat time) e = absurd (cc)
  beaten (Open c (SendsAgain r n)) (RoEdit x) e = absurd (cc)
  beaten (Open c (SendsAgain r n)) (RoAck q t) e = beat-by (same_id q r) (view_if (is_success true t) n) e
  beaten (Open c (SendsAgain r n)) (RoReq q) e = absurd (cc)
  beaten (Open c (SendsAgain r n)) RoReqAll e = absurd (cc)
  beaten (Open c (SendsAgain r n)) (RoList q o) e = absurd (cc)
  beaten (Open c (SendsAgain r n)) (RoListAll hs) e = absurd (cc)
  beaten (Open c (SendsAgain r n)) (RoElementStat q) e = absurd (cc)
  beaten (Open c (SendsAgain r n)) (OtherMessage q) e = absurd (cc)
  beaten (Open c (SendsScript r k n)) (Heartbeat time) e = absurd (cc)
  beaten (Open c (SendsScript r k n)) (RoEdit x) e = absurd (cc)
  beaten (Open c (SendsScript r k n)) (RoAck q t) e = beat-by (same_id q r) (view_without (is_success false t) k (look Out views r)) e
  beaten (Open c (SendsScript r k n)) (RoReq q) e = absurd (cc)
  beaten (Open c (SendsScript r k n)) RoReqAll e = absurd (cc)
  beaten (Open c (SendsScript r k n)) (RoList q o) e = absurd (cc)
  beaten (Open c (SendsScript r k n)) (RoListAll hs) e = absurd (cc)
  beaten (Open c (SendsScript r k n)) (RoElementStat q) e = absurd (cc)
  beaten (Open c (SendsScript r k n)) (OtherMessage q) e = absurd (cc)

pub beat-answer : (journal : List Entry) (p : PeerTables) (m : Message) → outcome journal (flight_view p.upper (look Out p.views)) p.upper m ≡ Some None → (peer_of (seen_tables p None), Taken) ≡ peer_answered journal (peer_of p) m
beat-answer journal p m e = beaten journal p.note p.link p.views p.upper m e

-- an entry was answered
taken-by : (b : Bool) (s : PeerState) (c : ℕ) (r : Text) (w v : View) → (if b then Some (Some w) else None) ≡ Some (Some v) → (if b then back_to s c r w else unasked s).1 ≡ Taken
taken-by true s c r w v e = refl
taken-by false s c r w v e = absurd (cc)

module _ (journal : List Entry) (s : PeerState) (v : View) where
  taken : (u : Upper) (m : Message) → outcome journal (flight_view u s.views) u m ≡ Some (Some v) → (answered_by journal s u m).1 ≡ Taken
  taken Down m e = absurd (cc)
  taken (Greeting c) m e = beat-not m v e
  taken (Open c Idle) m e = absurd (cc)
  taken (Open c SendsBeat) m e = beat-not m v e
  taken (Open c (SendsEdit r k)) (Heartbeat time) e = absurd (cc)
  taken (Open c (SendsEdit r k)) (RoEdit x) e = absurd (cc)
  taken (Open c (SendsEdit r k)) (RoAck q t) e = taken-by (same_id q r) s c r (view_if (is_success (is_ready (kind (edit_at journal r k))) t) (k + 1)) v e
  taken (Open c (SendsEdit r k)) (RoReq q) e = absurd (cc)
  taken (Open c (SendsEdit r k)) RoReqAll e = absurd (cc)
  taken (Open c (SendsEdit r k)) (RoList q o) e = absurd (cc)
  taken (Open c (SendsEdit r k)) (RoListAll hs) e = absurd (cc)
  taken (Open c (SendsEdit r k)) (RoElementStat q) e = absurd (cc)
  taken (Open c (SendsEdit r k)) (OtherMessage q) e = absurd (cc)
  taken (Open c (SendsAgain r n)) (Heartbeat time) e = absurd (cc)
  taken (Open c (SendsAgain r n)) (RoEdit x) e = absurd (cc)
  taken (Open c (SendsAgain r n)) (RoAck q t) e = taken-by (same_id q r) s c r (view_if (is_success true t) n) v e
  taken (Open c (SendsAgain r n)) (RoReq q) e = absurd (cc)
  taken (Open c (SendsAgain r n)) RoReqAll e = absurd (cc)
  taken (Open c (SendsAgain r n)) (RoList q o) e = absurd (cc)
  taken (Open c (SendsAgain r n)) (RoListAll hs) e = absurd (cc)
  taken (Open c (SendsAgain r n)) (RoElementStat q) e = absurd (cc)
  taken (Open c (SendsAgain r n)) (OtherMessage q) e = absurd (cc)
  taken (Open c (SendsScript r k n)) (Heartbeat time) e = absurd (cc)
  taken (Open c (SendsScript r k n)) (RoEdit x) e = absurd (cc)
  taken (Open c (SendsScript r k n)) (RoAck q t) e = taken-by (same_id q r) s c r (view_without (is_success false t) k (s.views r)) v e
  taken (Open c (SendsScript r k n)) (RoReq q) e = absurd (cc)
  taken (Open c (SendsScript r k n)) RoReqAll e = absurd (cc)
  taken (Open c (SendsScript r k n)) (RoList q o) e = absurd (cc)
  taken (Open c (SendsScript r k n)) (RoListAll hs) e = absurd (cc)
  taken (Open c (SendsScript r k n)) (RoElementStat q) e = absurd (cc)
  taken (Open c (SendsScript r k n)) (OtherMessage q) e = absurd (cc)

pub entry-taken : (journal : List Entry) (p : PeerTables) (m : Message) (v : View) → outcome journal (flight_view p.upper (look Out p.views)) p.upper m ≡ Some (Some v) → (peer_answered journal (peer_of p) m).1 ≡ Taken
entry-taken journal p m v e = taken journal (peer_of p) v p.upper m e
