-- Messages one after another: what is read is what the grammar says.
use Rattle.std.proofs.Common.{◌≡◌, ℕ, ◌+◌, Bool, true, false, cond, List, [], ◌∷◌, ◌++◌, length, Result, Ok, Err, refl, sym, ap, subst, ◌∙◌, append_assoc, arith}
use Rattle.std.proofs.lemmas.List.{append-nil}
use Rattle.mos_tables.specs.declared.table.Table.TheVariants.{Envelope}
use Rattle.mos_fields.specs.Characters.{Text}
use Rattle.mos_fields.specs.Fields.{same}
use Rattle.mos_fields.specs.Forms.{is_white}
use Rattle.mos_grammar.specs.Tokens.{Token, open_tag, empty_tag, close_tag, text, tail, mark, declaration}
use Rattle.mos_tables.specs.Events.{Event}
use Rattle.mos_grammar.specs.declared.fault.Fault.{Fault}
use Rattle.mos_grammar.specs.declared.fault.Fault.TheVariants.{Tag as misplaced}
use Rattle.mos_grammar.specs.Records.{IsRecord}
use Rattle.mos_grammar.specs.RecordMachine.{State, at, complete, step, opening}
use Rattle.mos_grammar.specs.Streams.{Stage, before_prolog, behind_mark, behind_declaration, may_mark, may_declare, mos_name, IsMessage, white_space, mark_before, declaration_before, element, AreMessages, BeginsMessage, BeginsStream, Position, before_message, inside, inside_of, message_step, then_position, message_run, Reading, settled_at, Outcome, reading, rejected, stream_start, stepped, stream_run}
use Rattle.mos_grammar.proofs.Sound.{same-is, Reads, Takes, forward, back, done_is}
use Rattle.mos_grammar.proofs.Complete.{Sane, SaneOk, sane_step, sane_opening, reads_some}

-- ---- one message

-- the tokens that a position still reads, and the value that then is whole
abbrev pub StillReads : Position → List Token → List Event → Type 0
StillReads (before_message g) r v = IsMessage g v r
StillReads (inside s) r v = Reads s r v

abbrev pub StillTakes : Result Position Fault → List Token → List Event → Type 0
StillTakes (Ok p) r v = StillReads p r v
StillTakes (Err k) r v = ⊥

head_is : (a b : Token) (x y : List Token) → (a ∷ x) ≡ (b ∷ y) → (a ≡ b) × (x ≡ y)
head_is a b x y e = (cc, cc)

opening_reads : (v : List Event) (r : List Token) → IsRecord Envelope mos_name v r → Reads (opening Envelope mos_name) r v
opening_reads v r h = (h.0, h.1, [], h.2, h.3, (refl, h.4))

opening_record : (v : List Event) (r : List Token) → Reads (opening Envelope mos_name) r v → IsRecord Envelope mos_name v r
opening_record v r h = (h.0, h.1, h.3, h.4 ∙ ap (λ (w : List Token). h.1 ++ close_tag mos_name ∷ w) h.5.0, h.5.1)

first_forward : {g : Stage} {v : List Event} {ts : List Token} → IsMessage g v ts → (k : Token) (r : List Token) → (k ∷ r) ≡ ts → StillTakes (message_step (before_message g) k) r v
unfolding message_step
first_forward (white_space {x = x} {y = y} {r = front} w d) k r e = let q = head_is k (text x y) r front e in rw (q.0, w, q.1) d
first_forward (mark_before {r = front} w d) k r e = let q = head_is k mark r front e in rw (q.0, w, q.1) d
first_forward (declaration_before {r = front} w d) k r e = let q = head_is k declaration r front e in rw (q.0, w, q.1) d
first_forward (element {v = v} {tag = tag} {a = a} {r = front} h) k r e = let q = head_is k (open_tag mos_name a tag) r front e in rw (q.0, q.1) (opening_reads v front h)

inside_takes : (o : Result State Fault) (r : List Token) (v : List Event) → Takes o r v → StillTakes (inside_of o) r v
inside_takes (Ok s) r v h = h
inside_takes (Err k) r v h = absurd h

takes_inside : (o : Result State Fault) (r : List Token) (v : List Event) → StillTakes (inside_of o) r v → Takes o r v
takes_inside (Ok s) r v h = h
takes_inside (Err k) r v h = absurd h

pub message_forward : (p : Position) (k : Token) (r : List Token) (v : List Event) → StillReads p (k ∷ r) v → StillTakes (message_step p k) r v
unfolding message_step
message_forward (before_message g) k r v h = first_forward h k r refl
message_forward (inside s) k r v h = inside_takes (step s k) r v (forward s k r v h)

tested : (b : Bool) (x : Result Position Fault) (k : Fault) (r : List Token) (v : List Event) → StillTakes (cond b x (Err k)) r v → (b ≡ true) × StillTakes x r v
tested true x k r v h = (refl, h)
tested false x k r v h = absurd h

pub message_back : (p : Position) (k : Token) (r : List Token) (v : List Event) → StillTakes (message_step p k) r v → StillReads p (k ∷ r) v
unfolding message_step
message_back (inside s) k r v h = back s k r v (takes_inside (step s k) r v h)
message_back (before_message g) (open_tag n a tag) r v h =
    let t = tested (same mos_name n) (Ok (inside (opening Envelope mos_name))) misplaced r v h in
    subst (λ (x : Text). IsMessage g v (open_tag x a tag ∷ r)) (same-is mos_name n t.0) (element (opening_record v r t.1))
message_back (before_message g) (empty_tag n a tag) r v h = absurd h
message_back (before_message g) (close_tag n) r v h = absurd h
message_back (before_message g) (text x y) r v h =
    let t = tested (is_white x) (Ok (before_message g)) misplaced r v h in white_space t.0 t.1
message_back (before_message g) (tail x) r v h = absurd h
message_back (before_message g) mark r v h =
    let t = tested (may_mark g) (Ok (before_message behind_mark)) misplaced r v h in mark_before t.0 t.1
message_back (before_message g) declaration r v h =
    let t = tested (may_declare g) (Ok (before_message behind_declaration)) misplaced r v h in declaration_before t.0 t.1

pub message_run_forward : (ts r : List Token) (p : Position) (v : List Event) → StillReads p (ts ++ r) v → StillTakes (message_run p ts) r v
unfolding message_run
message_run_forward [] r p v h = h
message_run_forward (t ∷ ts) r p v h = go (λ u. message_run_forward ts r u v) (message_step p t) (message_forward p t (ts ++ r) v h)
  where
    go : ((u : Position) → StillReads u (ts ++ r) v → StillTakes (message_run u ts) r v) → (o : Result Position Fault) → StillTakes o (ts ++ r) v → StillTakes (then_position o (λ w. message_run w ts)) r v
    go f (Ok u) g = f u g
    go f (Err k) g = absurd g

pub message_run_back : (ts r : List Token) (p : Position) (v : List Event) → StillTakes (message_run p ts) r v → StillReads p (ts ++ r) v
unfolding message_run
message_run_back [] r p v h = h
message_run_back (t ∷ ts) r p v h = message_back p t (ts ++ r) v (go (λ u. message_run_back ts r u v) (message_step p t) h)
  where
    go : ((u : Position) → StillTakes (message_run u ts) r v → StillReads u (ts ++ r) v) → (o : Result Position Fault) → StillTakes (then_position o (λ w. message_run w ts)) r v → StillTakes o (ts ++ r) v
    go f (Ok u) g = f u g
    go f (Err k) g = absurd g

no_message : {g : Stage} {v : List Event} {ts : List Token} → IsMessage g v ts → ts ≡ [] → ⊥
no_message (white_space w d) e = cc
no_message (mark_before w d) e = cc
no_message (declaration_before w d) e = cc
no_message (element h) e = cc

message_done : (o : Result Position Fault) (v : List Event) → StillTakes o [] v → o ≡ Ok (inside (complete v))
message_done (Err k) v h = absurd h
message_done (Ok (before_message g)) v h = absurd (no_message h refl)
message_done (Ok (inside s)) v h = let e : Ok s ≡ Ok (complete v) = done_is (Ok s) v h in cc

-- Exactly the tokens of a message with a value, each behind what may stand before a message, lead to that value.
pub message_runs : (g : Stage) (v : List Event) (ts : List Token) → IsMessage g v ts → message_run (before_message g) ts ≡ Ok (inside (complete v))
message_runs g v ts h = message_done (message_run (before_message g) ts) v (message_run_forward ts [] (before_message g) v (rw (append-nil ts) h))

pub runs_message : (g : Stage) (v : List Event) (ts : List Token) → message_run (before_message g) ts ≡ Ok (inside (complete v)) → IsMessage g v ts
runs_message g v ts e =
    let takes : StillTakes (message_run (before_message g) ts) [] v = rw e (refl, refl) in
    let h : StillReads (before_message g) (ts ++ []) v = message_run_back ts [] (before_message g) v takes in
    rw (← append-nil ts) h

-- ---- where tokens begin a message

abbrev pub SaneAt : Position → Type 0
SaneAt (before_message g) = Unit {0}
SaneAt (inside s) = Sane s

abbrev pub SaneAtOk : Result Position Fault → Type 0
SaneAtOk (Ok p) = SaneAt p
SaneAtOk (Err k) = Unit {0}

sane_cond : (b : Bool) (x : Result Position Fault) (k : Fault) → SaneAtOk x → SaneAtOk (cond b x (Err k))
sane_cond true x k h = h
sane_cond false x k h = tt

sane_inside : (o : Result State Fault) → SaneOk o → SaneAtOk (inside_of o)
sane_inside (Ok s) h = h
sane_inside (Err k) h = tt

message_sane : (p : Position) (k : Token) → SaneAt p → SaneAtOk (message_step p k)
unfolding message_step
message_sane (inside s) k h = sane_inside (step s k) (sane_step s k h)
message_sane (before_message g) (open_tag n a tag) h = sane_cond (same mos_name n) (Ok (inside (opening Envelope mos_name))) misplaced (sane_opening Envelope mos_name)
message_sane (before_message g) (empty_tag n a tag) h = tt
message_sane (before_message g) (close_tag n) h = tt
message_sane (before_message g) (text x y) h = sane_cond (is_white x) (Ok (before_message g)) misplaced tt
message_sane (before_message g) (tail x) h = tt
message_sane (before_message g) mark h = sane_cond (may_mark g) (Ok (before_message behind_mark)) misplaced tt
message_sane (before_message g) declaration h = sane_cond (may_declare g) (Ok (before_message behind_declaration)) misplaced tt

pub message_sane_run : (ts : List Token) (p : Position) → SaneAt p → SaneAtOk (message_run p ts)
unfolding message_run
message_sane_run [] p h = h
message_sane_run (t ∷ ts) p h = go (λ u. message_sane_run ts u) (message_step p t) (message_sane p t h)
  where
    go : ((u : Position) → SaneAt u → SaneAtOk (message_run u ts)) → (o : Result Position Fault) → SaneAtOk o → SaneAtOk (then_position o (λ w. message_run w ts))
    go f (Ok u) g = f u g
    go f (Err k) g = tt

pub position_reads : (p : Position) → SaneAt p → (r : List Token) × (v : List Event) × StillReads p r v
position_reads (inside s) h = reads_some s h
position_reads (before_message g) h =
    let m = reads_some (opening Envelope mos_name) (sane_opening Envelope mos_name) in
    (open_tag mos_name [] [] ∷ m.0, m.1, element (opening_record m.1 m.0 m.2))

-- Tokens that are read begin a message.
pub message_runs_begin : (g : Stage) (ts : List Token) (p : Position) → message_run (before_message g) ts ≡ Ok p → BeginsMessage g ts
message_runs_begin g ts p e =
    let sane : SaneAtOk (message_run (before_message g) ts) = message_sane_run ts (before_message g) tt in
    let m = position_reads p (rw e at sane) in
    let takes : StillTakes (message_run (before_message g) ts) m.0 m.1 = rw e m.2 in
    (m.0, m.1, message_run_back ts m.0 (before_message g) m.1 takes)

-- Tokens that begin a message are read.
pub message_begins_run : (g : Stage) (ts : List Token) → BeginsMessage g ts → (p : Position) × (message_run (before_message g) ts ≡ Ok p)
message_begins_run g ts b = go (message_run (before_message g) ts) refl (message_run_forward ts b.0 (before_message g) b.1 b.2)
  where
    go : (o : Result Position Fault) → message_run (before_message g) ts ≡ o → StillTakes o b.0 b.1 → (p : Position) × (message_run (before_message g) ts ≡ Ok p)
    go (Ok p) e h = (p, e)
    go (Err k) e h = absurd h

pub message_run_append : (ts us : List Token) (p q : Position) → message_run p ts ≡ Ok q → message_run p (ts ++ us) ≡ message_run q us
unfolding message_run
message_run_append [] us p q e = ap (λ (x : Position). message_run x us) (ok_is p q e)
  where
    ok_is : (p q : Position) → ◌≡◌ {A = Result Position Fault} (Ok p) (Ok q) → p ≡ q
    ok_is p q e = cc
message_run_append (t ∷ ts) us p q e = go (λ x h. message_run_append ts us x q h) (message_step p t) e
  where
    go : ((x : Position) → message_run x ts ≡ Ok q → message_run x (ts ++ us) ≡ message_run q us) → (o : Result Position Fault) → then_position o (λ w. message_run w ts) ≡ Ok q → then_position o (λ w. message_run w (ts ++ us)) ≡ message_run q us
    go f (Ok x) h = f x h
    go f (Err k) h = absurd cc

-- behind a whole message nothing more of it comes
whole_stops : (v : List Event) (more : List Token) (w : List Event) → message_run (inside (complete v)) more ≡ Ok (inside (complete w)) → (more ≡ []) × (v ≡ w)
unfolding message_run message_step step
whole_stops v [] w e = (refl, cc)
whole_stops v (t ∷ more) w e = absurd cc

pub whole_takes_none : (w : List Event) (t : Token) (r : List Token) (q : Position) → message_run (inside (complete w)) (t ∷ r) ≡ Ok q → ⊥
unfolding message_run message_step step
whole_takes_none w t r q h = cc

-- No message begins another, and no tokens are messages of two values.
pub one_form : (g : Stage) (v w : List Event) (ts more : List Token) → IsMessage g v ts → IsMessage g w (ts ++ more) → (more ≡ []) × (v ≡ w)
one_form g v w ts more a b =
    whole_stops v more w (sym (message_run_append ts more (before_message g) (inside (complete v)) (message_runs g v ts a)) ∙ message_runs g w (ts ++ more) b)

-- ---- a stream

-- a message isn't whole yet
abbrev pub IsOpen : Position → Type 0
IsOpen (before_message g) = Unit {0}
IsOpen (inside (at m f fs)) = Unit {0}
IsOpen (inside (complete v)) = ⊥

-- the tokens read are messages, and the beginning of one more
abbrev pub Stands : Reading → List Token → Type 0
Stands s front = (x : List Token) × (r : List Token) × AreMessages s.ready x × (front ≡ x ++ r) × (message_run (before_message before_prolog) r ≡ Ok s.position) × IsOpen s.position

messages_push : (vs : List (List Event)) (x : List Token) (v : List Event) (y : List Token) → AreMessages vs x → IsMessage before_prolog v y → AreMessages (vs ++ v ∷ []) (x ++ y)
messages_push [] x v y h m = (y, [], m, rw h (sym (append-nil y)), refl)
messages_push (w ∷ vs) x v y h m = (h.0, h.1 ++ y, h.2, ap (λ (z : List Token). z ++ y) h.3 ∙ append_assoc h.0 h.1 y, messages_push vs h.1 v y h.4 m)

message_run_last : (ts : List Token) (t : Token) (p q u : Position) → message_run p ts ≡ Ok q → message_step q t ≡ Ok u → message_run p (ts ++ t ∷ []) ≡ Ok u
unfolding message_run
message_run_last ts t p q u e k = message_run_append ts (t ∷ []) p q e ∙ one (message_step q t) k
  where
    one : (o : Result Position Fault) → o ≡ Ok u → then_position o (λ w. message_run w []) ≡ Ok u
    one (Ok w) h = h
    one (Err x) h = absurd cc

-- one more token that is read
stands_next : (s : Reading) (front : List Token) (t : Token) (p : Position) → Stands s front → message_step s.position t ≡ Ok p → Stands (settled_at s.ready p) (front ++ t ∷ [])
unfolding message_run
stands_next s front t (before_message g) h e = (h.0, h.1 ++ t ∷ [], h.2, ap (λ (z : List Token). z ++ t ∷ []) h.3 ∙ append_assoc h.0 h.1 (t ∷ []), message_run_last h.1 t (before_message before_prolog) s.position (before_message g) h.4 e, tt)
stands_next s front t (inside (at m f fs)) h e = (h.0, h.1 ++ t ∷ [], h.2, ap (λ (z : List Token). z ++ t ∷ []) h.3 ∙ append_assoc h.0 h.1 (t ∷ []), message_run_last h.1 t (before_message before_prolog) s.position (inside (at m f fs)) h.4 e, tt)
stands_next s front t (inside (complete v)) h e =
    let m : IsMessage before_prolog v (h.1 ++ t ∷ []) = runs_message before_prolog v (h.1 ++ t ∷ []) (message_run_last h.1 t (before_message before_prolog) s.position (inside (complete v)) h.4 e) in (
      h.0 ++ (h.1 ++ t ∷ []),
      [],
      messages_push s.ready h.0 v (h.1 ++ t ∷ []) h.2 m,
      ap (λ (z : List Token). z ++ t ∷ []) h.3 ∙ append_assoc h.0 h.1 (t ∷ []) ∙ sym (append-nil (h.0 ++ (h.1 ++ t ∷ []))),
      refl,
      tt,
    )

-- what a run from here came to
abbrev pub ComesTo : ℕ → Reading → List Token → List Token → Outcome → Type 0
ComesTo place s front ts (reading u) = Stands u (front ++ ts)
ComesTo place s front ts (rejected i k u) =
    (fitting : List Token) × (t : Token) × (behind : List Token) × (ts ≡ fitting ++ t ∷ behind) × (i ≡ place + length fitting)
    × Stands u (front ++ fitting) × (stream_run place s fitting ≡ reading u) × (message_step u.position t ≡ Err k)

comes_to : (ts : List Token) (place : ℕ) (s : Reading) (front : List Token) → Stands s front → ComesTo place s front ts (stream_run place s ts)
unfolding stream_run
comes_to [] place s front h = rw (append-nil front) h
comes_to (t ∷ ts) place s front h = go (λ p e. comes_to ts (place + 1) (settled_at s.ready p) (front ++ t ∷ []) (stands_next s front t p h e)) (message_step s.position t) refl
  where
    later : (p : Position) → message_step s.position t ≡ Ok p → (o : Outcome) → ComesTo (place + 1) (settled_at s.ready p) (front ++ t ∷ []) ts o → ComesTo place s front (t ∷ ts) o
    later p e (reading u) c = rw (← append_assoc front (t ∷ []) ts) c
    later p e (rejected i k u) c =
        (t ∷ c.0, c.1, c.2, ap (λ (z : List Token). t ∷ z) c.3, omega (arith, c.4), rw (← append_assoc front (t ∷ []) c.0) c.5, rw e c.6, c.7)

    go : ((p : Position) → message_step s.position t ≡ Ok p → ComesTo (place + 1) (settled_at s.ready p) (front ++ t ∷ []) ts (stream_run (place + 1) (settled_at s.ready p) ts))
        → (o : Result Position Fault) → message_step s.position t ≡ o → ComesTo place s front (t ∷ ts) (stepped place s o (λ u. stream_run (place + 1) u ts))
    go f (Ok p) e = later p e (stream_run (place + 1) (settled_at s.ready p) ts) (f p e)
    go f (Err k) e = ([], t, ts, refl, omega arith, rw (append-nil front) h, refl, e)

start_stands : Stands stream_start []
unfolding message_run
start_stands = ([], [], refl, refl, refl, tt)

stands_begin : (s : Reading) (ts : List Token) → Stands s ts → BeginsStream ts
stands_begin s ts h = (s.ready, h.0, h.1, h.2, h.3, message_runs_begin before_prolog h.1 s.position h.4)

-- ---- streams are read

-- a message is read, and then what is behind it
reads_message : (x : List Token) (place : ℕ) (vs : List (List Event)) (p : Position) (v : List Event) (more : List Token) → IsOpen p → message_run p x ≡ Ok (inside (complete v))
    → (q : ℕ) × (stream_run place (record { ready = vs; position = p }) (x ++ more) ≡ stream_run q (record { ready = vs ++ v ∷ []; position = before_message before_prolog }) more)
unfolding stream_run message_run
reads_message [] place vs p v more o e = absurd (not_whole p (ok_is p (inside (complete v)) e) o)
  where
    ok_is : (p q : Position) → ◌≡◌ {A = Result Position Fault} (Ok p) (Ok q) → p ≡ q
    ok_is p q e = cc

    not_whole : (p : Position) → p ≡ inside (complete v) → IsOpen p → ⊥
    not_whole p e o = (subst IsOpen e o)
reads_message (t ∷ x) place vs p v more o e = go (λ q i h. reads_message x (place + 1) vs q v more i h) (message_step p t) e
  where
    go : ((q : Position) → IsOpen q → message_run q x ≡ Ok (inside (complete v)) → (i : ℕ) × (stream_run (place + 1) (record { ready = vs; position = q }) (x ++ more) ≡ stream_run i (record { ready = vs ++ v ∷ []; position = before_message before_prolog }) more))
        → (r : Result Position Fault) → then_position r (λ w. message_run w x) ≡ Ok (inside (complete v))
        → (i : ℕ) × (stepped place (record { ready = vs; position = p }) r (λ u. stream_run (place + 1) u (x ++ more)) ≡ stream_run i (record { ready = vs ++ v ∷ []; position = before_message before_prolog }) more)
    go f (Err k) h = absurd cc
    go f (Ok (before_message g)) h = f (before_message g) tt h
    go f (Ok (inside (at m a fs))) h = f (inside (at m a fs)) tt h
    go f (Ok (inside (complete w))) h =
        let s = whole_stops w x v h in
        (place + 1, rw (s.0, s.1) refl)

reads_messages : (ws : List (List Event)) (x : List Token) (place : ℕ) (vs : List (List Event)) (more : List Token) → AreMessages ws x
    → (q : ℕ) × (us : List (List Event)) × (stream_run place (record { ready = vs; position = before_message before_prolog }) (x ++ more) ≡ stream_run q (record { ready = us; position = before_message before_prolog }) more)
reads_messages [] x place vs more h = (place, vs, rw h refl)
reads_messages (w ∷ ws) x place vs more h =
    let a = reads_message h.0 place vs (before_message before_prolog) w (h.1 ++ more) tt (message_runs before_prolog w h.0 h.2) in
    let b = reads_messages ws h.1 a.0 (vs ++ w ∷ []) more h.4 in
    (b.0, b.1, rw (h.3, append_assoc h.0 h.1 more) (a.1 ∙ b.2))

-- the beginning of a message is read
reads_part : (r : List Token) (place : ℕ) (vs : List (List Event)) (p q : Position) → message_run p r ≡ Ok q → (u : Reading) × (stream_run place (record { ready = vs; position = p }) r ≡ reading u)
unfolding stream_run message_run
reads_part [] place vs p q e = (record { ready = vs; position = p }, refl)
reads_part (t ∷ r) place vs p q e = go (λ w h. reads_part r (place + 1) vs w q h) (message_step p t) e
  where
    go : ((w : Position) → message_run w r ≡ Ok q → (u : Reading) × (stream_run (place + 1) (record { ready = vs; position = w }) r ≡ reading u))
        → (o : Result Position Fault) → then_position o (λ w. message_run w r) ≡ Ok q → (u : Reading) × (stepped place (record { ready = vs; position = p }) o (λ u. stream_run (place + 1) u r) ≡ reading u)
    go f (Err k) h = absurd cc
    go f (Ok (before_message g)) h = f (before_message g) h
    go f (Ok (inside (at m a fs))) h = f (inside (at m a fs)) h
    go f (Ok (inside (complete w))) h = behind r h
      where
        behind : (r : List Token) → message_run (inside (complete w)) r ≡ Ok q → (u : Reading) × (stream_run (place + 1) (record { ready = vs ++ w ∷ []; position = before_message before_prolog }) r ≡ reading u)
        behind [] h = (record { ready = vs ++ w ∷ []; position = before_message before_prolog }, refl)
        behind (t ∷ r) h = absurd (whole_takes_none w t r q h)

-- Tokens that begin a stream are read.
pub begins_read : (ts : List Token) → BeginsStream ts → (u : Reading) × (stream_run 0 stream_start ts ≡ reading u)
begins_read ts b =
    let a = reads_messages b.0 b.1 0 [] b.2 b.3 in
    let m = message_begins_run before_prolog b.2 b.5 in
    let c = reads_part b.2 a.0 a.1 (before_message before_prolog) m.0 m.1 in
    (c.0, rw b.4 (a.2 ∙ c.1))

-- Tokens that are read to the end begin a stream: the messages that are ready, and the beginning of one more.
pub read_begins : (ts : List Token) (u : Reading) → stream_run 0 stream_start ts ≡ reading u → Stands u ts × BeginsStream ts
read_begins ts u e =
    let c : ComesTo 0 stream_start [] ts (stream_run 0 stream_start ts) = comes_to ts 0 stream_start [] start_stands in
    let h : Stands u ts = subst (λ (o : Outcome). ComesTo 0 stream_start [] ts o) e c in
    (h, stands_begin u ts h)

-- the run over tokens that were read, and one more that is refused
stream_run_last : (ts : List Token) (t : Token) (place : ℕ) (s u : Reading) (k : Fault) → stream_run place s ts ≡ reading u → message_step u.position t ≡ Err k → (i : ℕ) × (stream_run place s (ts ++ t ∷ []) ≡ rejected i k u)
unfolding stream_run
stream_run_last [] t place s u k e r = (place, let p : s ≡ u = reading_is s u e in rw (p, r) refl)
  where
    reading_is : (s u : Reading) → reading s ≡ reading u → s ≡ u
    reading_is s u e = cc
stream_run_last (a ∷ ts) t place s u k e r = go (λ w h. stream_run_last ts t (place + 1) w u k h r) (message_step s.position a) e
  where
    go : ((w : Reading) → stream_run (place + 1) w ts ≡ reading u → (i : ℕ) × (stream_run (place + 1) w (ts ++ t ∷ []) ≡ rejected i k u))
        → (o : Result Position Fault) → stepped place s o (λ w. stream_run (place + 1) w ts) ≡ reading u → (i : ℕ) × (stepped place s o (λ w. stream_run (place + 1) w (ts ++ t ∷ [])) ≡ rejected i k u)
    go f (Ok p) h = f (settled_at s.ready p) h
    go f (Err x) h = absurd cc

-- The refusal: the tokens before the place begin a stream, and with the token there they begin none.
pub record Rejects (ts : List Token) (place : ℕ) (k : Fault) (u : Reading) : Type 0 where
  pub fitting : List Token
  pub token : Token
  pub behind : List Token
  pub splits : ts ≡ fitting ++ token ∷ behind
  pub place_is : place ≡ length fitting
  pub stands : Stands u fitting
  pub begins : BeginsStream fitting
  pub empty_text_fault : BeginsStream (fitting ++ token ∷ []) → ⊥
  pub shows : message_step u.position token ≡ Err k

pub rejected_shows : (ts : List Token) (place : ℕ) (k : Fault) (u : Reading) → stream_run 0 stream_start ts ≡ rejected place k u → Rejects ts place k u
rejected_shows ts place k u e =
    let c : ComesTo 0 stream_start [] ts (stream_run 0 stream_start ts) = comes_to ts 0 stream_start [] start_stands in
    let h : ComesTo 0 stream_start [] ts (rejected place k u) = subst (λ (o : Outcome). ComesTo 0 stream_start [] ts o) e c in
    record {
      fitting = h.0;
      token = h.1;
      behind = h.2;
      splits = h.3;
      place_is = omega (arith, h.4);
      stands = h.5;
      begins = stands_begin u h.0 h.5;
      empty_text_fault = (λ b. (let m = begins_read (h.0 ++ h.1 ∷ []) b in let l = stream_run_last h.0 h.1 0 stream_start u k h.6 h.7 in clash m.0 l.0 (sym m.1 ∙ l.1)));
      shows = h.7;
    }
  where
    clash : (m : Reading) (i : ℕ) → reading m ≡ rejected i k u → ⊥
    clash m i e = cc
