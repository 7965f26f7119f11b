-- A connection that this end opened goes on, and ends.
use Rattle.std.proofs.Common.{◌≡◌, ℕ, ◌+◌, ◌*◌, ◌≤◌, cond, Bool, true, false, List, [], ◌∷◌, ◌++◌, length, Option, refl, sym, ap, ◌∙◌, subst, append_assoc, append-nil, arith}
use Rattle.std.proofs.lemmas.List.{length-append}
use Rattle.mos_codec.specs.Codec.{encoding}
use Rattle.mos_fields.specs.declared.time.MosTime.{MosTime}
use Rattle.mos_io.specs.Bytes.{Appends}
use Rattle.mos_io.specs.Paces.{TakesPace, TakesPaces, StopsBy}
use Rattle.mos_io.specs.declared.pacer.Pace.{Pace}
use Rattle.mos_io.specs.declared.pacer.Pace.TheVariants.{Again, Beat as beat, Stop}
use Rattle.mos_values.specs.Sound.{IsSound}
use Rattle.mos_values.specs.declared.message.Envelope.{Envelope}
use Rattle.mos_values.specs.declared.message.Message.{Message}
use Rattle.port_events.specs.declared.answer.PortAnswer.{PortAnswer}
use Rattle.port_events.specs.declared.answer.PortAnswer.TheVariants.{Done, Say, Nothing, Taken, Unasked as unasked, Stale as stale}
use Rattle.port_events.specs.declared.event.PortEvent.{PortEvent}
use Rattle.port_events.specs.declared.event.What.{What}
use Rattle.shared_machine.specs.declared.entry.Entry.{Entry}
use Rattle.port_session.specs.Calls.{Gained}
use Rattle.port_session.specs.Driven.{Reach, reach, OverBy, MayStand, IsCounted, ToldOn, Driving, Broken, DrivenBy, Driven}
use Rattle.port_session.specs.Driving.{Act, dialed_to, next_to, answered_to, paused_to, beaten_to, Moves, Drives, calls_of, bytes_of, read_of, paces_of}
use Rattle.port_session.specs.Events.{event}
use Rattle.port_session.specs.Messages.{is_not_now, own}
use Rattle.port_session.specs.Reading.{InletReads, Halts}
use Rattle.port_session.specs.Writing.{WriteEnds}
use Rattle.port_session.specs.declared.end.End.{End}
use Rattle.port_session.specs.declared.end.End.TheVariants.{Closed, Truncated, BadMessage, ReadFault, WriteFault, Budget, Stale, Unasked, Stopped, NoMemory}
use Rattle.port_session.specs.declared.inlet.Inlet.{Inlet}
use Rattle.port_session.specs.declared.port.Port.{Port}
use Rattle.port_session.specs.declared.stage.At.{At}
use Rattle.port_session.specs.declared.stage.Stage.{Stage}
use Rattle.port_session.specs.declared.stage.Stage.TheVariants.{Begins, Ready, Writes, Awaits, Hears, Rests, Beats, Over}
use Rattle.port_session.proofs.Readings.{begun, few_given, rose_from}
use Rattle.port_session.proofs.Servings.{gains_none, gains_more, appends_none, appends_more}

pub drives_more : (p : Port) (t : Option MosTime) (s : Stage) (i : ℕ) (xs : List Act) (mid : Stage) (j : ℕ) (x : Act) (s' : Stage) (i' : ℕ) → Drives p t s i xs mid j → Moves p t mid j x s' i' → Drives p t s i (xs ++ x ∷ []) s' i'
drives_more p t s i [] mid j x s' i' d m = (s', i', subst (λ (k : ℕ). Moves p t s k x s' i') d.1 (subst (λ (z : Stage). Moves p t z j x s' i') d.0 m), (refl, refl))
drives_more p t s i (y ∷ ys) mid j x s' i' d m = (d.0, d.1, d.2, drives_more p t d.0 d.1 ys mid j x s' i' d.3 m)

pub calls_append : (xs ys : List Act) → calls_of (xs ++ ys) ≡ calls_of xs ++ calls_of ys
calls_append [] ys = refl
calls_append (Act.told e a ∷ xs) ys = ap (λ l. (e, a) ∷ l) (calls_append xs ys)
calls_append (Act.wrote m ∷ xs) ys = calls_append xs ys
calls_append (Act.read m ∷ xs) ys = calls_append xs ys
calls_append (Act.paused q ∷ xs) ys = calls_append xs ys

pub bytes_append : (xs ys : List Act) → bytes_of (xs ++ ys) ≡ bytes_of xs ++ bytes_of ys
bytes_append [] ys = refl
bytes_append (Act.told e a ∷ xs) ys = bytes_append xs ys
bytes_append (Act.wrote m ∷ xs) ys = ap (λ l. encoding m ++ l) (bytes_append xs ys) ∙ sym (append_assoc (encoding m) (bytes_of xs) (bytes_of ys))
bytes_append (Act.read m ∷ xs) ys = bytes_append xs ys
bytes_append (Act.paused q ∷ xs) ys = bytes_append xs ys

pub read_append : (xs ys : List Act) → read_of (xs ++ ys) ≡ read_of xs ++ read_of ys
read_append [] ys = refl
read_append (Act.told e a ∷ xs) ys = read_append xs ys
read_append (Act.wrote m ∷ xs) ys = read_append xs ys
read_append (Act.read m ∷ xs) ys = ap (λ l. m ∷ l) (read_append xs ys)
read_append (Act.paused q ∷ xs) ys = read_append xs ys

pub paces_append : (xs ys : List Act) → paces_of (xs ++ ys) ≡ paces_of xs ++ paces_of ys
paces_append [] ys = refl
paces_append (Act.told e a ∷ xs) ys = paces_append xs ys
paces_append (Act.wrote m ∷ xs) ys = paces_append xs ys
paces_append (Act.read m ∷ xs) ys = paces_append xs ys
paces_append (Act.paused q ∷ xs) ys = ap (λ l. q ∷ l) (paces_append xs ys)

pub paced_more : (a b c : Option (List Pace)) (qs : List Pace) (q : Pace) → TakesPaces a b qs → TakesPace b c q → TakesPaces a c (qs ++ q ∷ [])
paced_more a b c [] q e h = (c, subst (λ (o : Option (List Pace)). TakesPace o c q) e h, refl)
paced_more a b c (r ∷ rs) q s h = (s.0, s.1, paced_more s.0 b c rs q s.2 h)

pub stands_dialed : (a : PortAnswer) (n m : ℕ) → MayStand (dialed_to a) n m
stands_dialed (Say w) n m = tt
stands_dialed stale n m = tt
stands_dialed unasked n m = tt
stands_dialed Done n m = tt
stands_dialed Nothing n m = tt
stands_dialed Taken n m = tt

pub stands_next : (a : PortAnswer) (n m : ℕ) → MayStand (next_to a) n m
stands_next (Say w) n m = tt
stands_next stale n m = tt
stands_next unasked n m = tt
stands_next Done n m = tt
stands_next Nothing n m = tt
stands_next Taken n m = tt

stands_cond : (b : Bool) (n m : ℕ) → MayStand (cond b Rests Ready) n m
stands_cond true n m = tt
stands_cond false n m = tt

pub stands_answered : (e : Message) (a : PortAnswer) (n m : ℕ) → MayStand (answered_to e a) n m
stands_answered e (Say w) n m = tt
stands_answered e stale n m = tt
stands_answered e unasked n m = tt
stands_answered e Done n m = tt
stands_answered e Nothing n m = tt
stands_answered e Taken n m = stands_cond (is_not_now e) n m

pub stands_beaten : (a : PortAnswer) (n m : ℕ) → MayStand (beaten_to a) n m
stands_beaten (Say w) n m = tt
stands_beaten stale n m = tt
stands_beaten unasked n m = tt
stands_beaten Done n m = tt
stands_beaten Nothing n m = tt
stands_beaten Taken n m = tt

pub stands_paced : (q : Pace) (n m k : ℕ) → n ≤ m → StopsBy q m k → MayStand (paused_to q) n k
stands_paced Again n m k le s = tt
stands_paced beat n m k le s = tt
stands_paced Stop n m k le s = rose_from n m k le s

by_over : (p : Port) (was a : Reach) (budget : ℕ) (acts : List Act) (stage : Stage) (id : ℕ) (end : End) → stage ≡ Over end → OverBy end was.stops a.stops → Broken was a budget acts → DrivenBy p was a budget acts stage id end
by_over p was a budget acts stage id Stale e o h = (e, h)
by_over p was a budget acts stage id Unasked e o h = (e, h)
by_over p was a budget acts stage id Stopped e o h = (e, h, o)
by_over p was a budget acts stage id Closed e o h = absurd o
by_over p was a budget acts stage id (Truncated k) e o h = absurd o
by_over p was a budget acts stage id (BadMessage k c) e o h = absurd o
by_over p was a budget acts stage id ReadFault e o h = absurd o
by_over p was a budget acts stage id WriteFault e o h = absurd o
by_over p was a budget acts stage id Budget e o h = absurd o
by_over p was a budget acts stage id NoMemory e o h = absurd o

by_source : (p : Port) (was now : Reach) (budget : ℕ) (acts : List Act) (stage : Stage) (id : ℕ) (end : End) → stage ≡ Awaits → Halts was.left was.source_faults now.left now.source_faults budget (read_of acts) end → Appends was.written now.written (bytes_of acts) → DrivenBy p was now budget acts stage id end
by_source p was now budget acts stage id Closed e h w = record { awaits = e; halts = h; wrote = w }
by_source p was now budget acts stage id (Truncated k) e h w = record { awaits = e; halts = h; wrote = w }
by_source p was now budget acts stage id (BadMessage k c) e h w = record { awaits = e; halts = h; wrote = w }
by_source p was now budget acts stage id ReadFault e h w = record { awaits = e; halts = h; wrote = w }
by_source p was now budget acts stage id Budget e h w = record { awaits = e; halts = h; wrote = w }
by_source p was now budget acts stage id NoMemory e h w = record { halts = h; wrote = w }
by_source p was now budget acts stage id WriteFault e h w = absurd h.ceased
by_source p was now budget acts stage id Stale e h w = absurd h.ceased
by_source p was now budget acts stage id Unasked e h w = absurd h.ceased
by_source p was now budget acts stage id Stopped e h w = absurd h.ceased

by_sink : (p : Port) (was now : Reach) (k : Option (List ℕ)) (n budget : ℕ) (acts : List Act) (stage : Stage) (i : ℕ) (m : Message) (end : End) → stage ≡ Writes m → Halts was.left was.source_faults now.left now.source_faults budget (read_of acts) NoMemory → Appends was.written k (bytes_of acts) → was.sink_faults ≤ n → WriteEnds k now.written n now.sink_faults (encoding (own p (i + 1) m)) end → DrivenBy p was now budget acts stage i end
by_sink p was now k n budget acts stage i m Closed e h w le x = absurd x
by_sink p was now k n budget acts stage i m (Truncated z) e h w le x = absurd x
by_sink p was now k n budget acts stage i m (BadMessage z c) e h w le x = absurd x
by_sink p was now k n budget acts stage i m ReadFault e h w le x = absurd x
by_sink p was now k n budget acts stage i m Budget e h w le x = absurd x
by_sink p was now k n budget acts stage i m NoMemory e h w le x = record { halts = h; wrote = subst (λ (o : Option (List ℕ)). Appends was.written o (bytes_of acts)) (sym x) w }
by_sink p was now k n budget acts stage i m WriteFault e h w le x = record { message = m; writes = e; halts = h; part = x.0.0; begins = (x.0.1, x.0.2); wrote = appends_more was.written k now.written (bytes_of acts) x.0.0 w x.0.3; rose = rose_from was.sink_faults n now.sink_faults le x.1 }
by_sink p was now k n budget acts stage i m Stale e h w le x = absurd x
by_sink p was now k n budget acts stage i m Unasked e h w le x = absurd x
by_sink p was now k n budget acts stage i m Stopped e h w le x = absurd x

abbrev pub Speaks : Stage → Type 0
Speaks Awaits = ⊥
Speaks Begins = Unit {0}
Speaks Ready = Unit {0}
Speaks (Writes m) = Unit {0}
Speaks (Hears e) = Unit {0}
Speaks Rests = Unit {0}
Speaks Beats = Unit {0}
Speaks (Over end) = Unit {0}

-- where no answer is awaited, as many messages were read as written
even : (s : Stage) (i n : ℕ) → Speaks s → IsCounted s i n → i ≡ n
even Awaits i n s c = absurd s
even Begins i n s c = c
even Ready i n s c = c
even (Writes m) i n s c = c
even (Hears e) i n s c = c
even Rests i n s c = c
even Beats i n s c = c
even (Over end) i n s c = c

counted : (s : Stage) (i n : ℕ) → Speaks s → i ≡ n → IsCounted s i n
counted Awaits i n s c = absurd s
counted Begins i n s c = c
counted Ready i n s c = c
counted (Writes m) i n s c = c
counted (Hears e) i n s c = c
counted Rests i n s c = c
counted Beats i n s c = c
counted (Over end) i n s c = c

pub speaks_dialed : (a : PortAnswer) → Speaks (dialed_to a)
speaks_dialed (Say m) = tt
speaks_dialed stale = tt
speaks_dialed unasked = tt
speaks_dialed Done = tt
speaks_dialed Nothing = tt
speaks_dialed Taken = tt

pub speaks_next : (a : PortAnswer) → Speaks (next_to a)
speaks_next (Say m) = tt
speaks_next stale = tt
speaks_next unasked = tt
speaks_next Done = tt
speaks_next Nothing = tt
speaks_next Taken = tt

speaks_cond : (b : Bool) → Speaks (cond b Rests Ready)
speaks_cond true = tt
speaks_cond false = tt

pub speaks_answered : (m : Message) (a : PortAnswer) → Speaks (answered_to m a)
speaks_answered m (Say w) = tt
speaks_answered m stale = tt
speaks_answered m unasked = tt
speaks_answered m Done = tt
speaks_answered m Nothing = tt
speaks_answered m Taken = speaks_cond (is_not_now m)

pub speaks_beaten : (a : PortAnswer) → Speaks (beaten_to a)
speaks_beaten (Say m) = tt
speaks_beaten stale = tt
speaks_beaten unasked = tt
speaks_beaten Done = tt
speaks_beaten Nothing = tt
speaks_beaten Taken = tt

speaks_paused : (q : Pace) → Speaks (paused_to q)
speaks_paused Again = tt
speaks_paused beat = tt
speaks_paused Stop = tt

module _ {M : Type 0} (steps : M → PortEvent → PortAnswer → M → Type 0) (refused : M → M → Type 0) (decks_left : M → ℕ) (start : M) (by : ℕ) (seen : List (Entry PortEvent PortAnswer)) (p : Port) (was : Reach) where
  module _ (here : List (Entry PortEvent PortAnswer)) (a : Reach) (inlet : Inlet) (at : At) (s0 : Stage) (d : Driving steps refused decks_left start by seen here p was a inlet at) (is : at.stage ≡ s0) where
    moved : (x : Act) (s' : Stage) (i' : ℕ) → Moves p was.time s0 at.number x s' i' → Drives p was.time Begins 0 (d.acts ++ x ∷ []) s' i'
    moved x s' i' m = drives_more p was.time Begins 0 d.acts at.stage at.number x s' i' d.drives (subst (λ (z : Stage). Moves p was.time z at.number x s' i') (sym is) m)

    pub stood : MayStand s0 was.stops a.stops
    stood = subst (λ (z : Stage). MayStand z was.stops a.stops) is d.stands

    number_is : IsCounted s0 at.number (length (read_of d.acts))
    number_is = subst (λ (z : Stage). IsCounted z at.number (length (read_of d.acts))) is d.numbered

    -- the number of the next message is far below the budget
    pub numbers_left : (m : Message) → s0 ≡ Writes m → 2 * at.number ≤ inlet.budget
    numbers_left m se =
        let few = few_given was.left was.source_faults a.left a.source_faults inlet.decoder inlet.rejection inlet.count inlet.budget (read_of d.acts) d.reads in
        let within = (d.reads).within in
        let same : at.number ≡ length (read_of d.acts) = subst (λ (z : Stage). IsCounted z at.number (length (read_of d.acts))) se number_is in omega arith

    -- an event was told
    pub told_on : (time : Option MosTime) (later : List (Entry PortEvent PortAnswer)) (what : What) (to : PortAnswer → Stage) (s' : Stage) → time ≡ a.time → ToldOn steps refused decks_left start by here later p what to s'
        → ((answer : PortAnswer) → Moves p was.time s0 at.number (Act.told (event p what) answer) (to answer) at.number) → ((answer : PortAnswer) → MayStand (to answer) was.stops a.stops) → Speaks s0 → ((answer : PortAnswer) → Speaks (to answer))
        → Driving steps refused decks_left start by seen later p was (reach a.left a.source_faults a.written a.sink_faults a.paces a.stops time) inlet (record { stage = s'; number = at.number })
    told_on time later what to s' te g m st q r = let x : Act = Act.told (event p what) g.answer in record {
      acts = d.acts ++ x ∷ [];
      drives = subst (λ (z : Stage). Drives p was.time Begins 0 (d.acts ++ x ∷ []) z at.number) (sym g.is) (moved x (to g.answer) at.number (m g.answer));
      reads = subst (λ (l : List Envelope). InletReads was.left was.source_faults a.left a.source_faults inlet l) (sym (read_append d.acts (x ∷ []) ∙ append-nil (read_of d.acts))) d.reads;
      gained = subst (λ (l : List (PortEvent × PortAnswer)). Gained steps refused decks_left start by seen later l) (sym (calls_append d.acts (x ∷ []))) (gains_more steps refused decks_left start by by seen here later (calls_of d.acts) ((event p what, g.answer) ∷ []) refl d.gained g.gained);
      wrote = subst (λ (l : List ℕ). Appends was.written a.written l) (sym (bytes_append d.acts (x ∷ []) ∙ append-nil (bytes_of d.acts))) d.wrote;
      paced = subst (λ (l : List Pace). TakesPaces was.paces a.paces l) (sym (paces_append d.acts (x ∷ []) ∙ append-nil (paces_of d.acts))) d.paced;
      sink_rises = d.sink_rises;
      stops_rise = d.stops_rise;
      stands = subst (λ (z : Stage). MayStand z was.stops a.stops) (sym g.is) (st g.answer);
      numbered = subst (λ (z : Stage). IsCounted z at.number (length (read_of (d.acts ++ x ∷ [])))) (sym g.is)
          (counted (to g.answer) at.number (length (read_of (d.acts ++ x ∷ []))) (r g.answer) (even s0 at.number (length (read_of d.acts)) q number_is ∙ sym (ap length (read_append d.acts (x ∷ []) ∙ append-nil (read_of d.acts)))));
      time = te ∙ d.time;
    }

    -- a message was written
    wrote_on : (m : Message) → s0 ≡ Writes m → (k : Option (List ℕ)) (n : ℕ) → Appends a.written k (encoding (own p (at.number + 1) m)) → a.sink_faults ≤ n
        → Driving steps refused decks_left start by seen here p was (reach a.left a.source_faults k n a.paces a.stops a.time) inlet (record { stage = Awaits; number = at.number + 1 })
    wrote_on m se k n w le = let e : Envelope = own p (at.number + 1) m in let x : Act = Act.wrote e in record {
      acts = d.acts ++ x ∷ [];
      drives = moved x Awaits (at.number + 1) (subst (λ (z : Stage). Moves p was.time z at.number x Awaits (at.number + 1)) (sym se) (refl, refl, refl));
      reads = subst (λ (l : List Envelope). InletReads was.left was.source_faults a.left a.source_faults inlet l) (sym (read_append d.acts (x ∷ []) ∙ append-nil (read_of d.acts))) d.reads;
      gained = subst (λ (l : List (PortEvent × PortAnswer)). Gained steps refused decks_left start by seen here l) (sym (calls_append d.acts (x ∷ []) ∙ append-nil (calls_of d.acts))) d.gained;
      wrote = subst (λ (l : List ℕ). Appends was.written k l) (sym (bytes_append d.acts (x ∷ []))) (appends_more was.written a.written k (bytes_of d.acts) (encoding e ++ []) d.wrote (subst (λ (l : List ℕ). Appends a.written k l) (sym (append-nil (encoding e))) w));
      paced = subst (λ (l : List Pace). TakesPaces was.paces a.paces l) (sym (paces_append d.acts (x ∷ []) ∙ append-nil (paces_of d.acts))) d.paced;
      sink_rises = let r = d.sink_rises in omega arith;
      stops_rise = d.stops_rise;
      stands = tt;
      numbered = ap (λ (j : ℕ). j + 1) (subst (λ (z : Stage). IsCounted z at.number (length (read_of d.acts))) se number_is ∙ sym (ap length (read_append d.acts (x ∷ []) ∙ append-nil (read_of d.acts))));
      time = d.time;
    }

    pub wrote_next : (m : Message) → s0 ≡ Writes m → (k : Option (List ℕ)) (n j : ℕ) → j ≡ at.number + 1 → Appends a.written k (encoding (own p j m)) → a.sink_faults ≤ n
        → Driving steps refused decks_left start by seen here p was (reach a.left a.source_faults k n a.paces a.stops a.time) inlet (record { stage = Awaits; number = j })
    wrote_next m se k n j je w le = subst (λ (i : ℕ). Driving steps refused decks_left start by seen here p was (reach a.left a.source_faults k n a.paces a.stops a.time) inlet (record { stage = Awaits; number = i })) (sym je)
        (wrote_on m se k n (subst (λ (i : ℕ). Appends a.written k (encoding (own p i m))) je w) le)

    -- a message was read
    pub heard_on : s0 ≡ Awaits → (l : Option (List ℕ)) (f : ℕ) (inlet' : Inlet) (m : Envelope) → InletReads was.left was.source_faults l f inlet' (read_of d.acts ++ m ∷ []) → IsSound m.message
        → Driving steps refused decks_left start by seen here p was (reach l f a.written a.sink_faults a.paces a.stops a.time) inlet' (record { stage = Hears m; number = at.number })
    heard_on se l f inlet' m r so = let x : Act = Act.read m in record {
      acts = d.acts ++ x ∷ [];
      drives = moved x (Hears m) at.number (subst (λ (z : Stage). Moves p was.time z at.number x (Hears m) at.number) (sym se) (refl, refl));
      reads = subst (λ (v : List Envelope). InletReads was.left was.source_faults l f inlet' v) (sym (read_append d.acts (x ∷ []))) r;
      gained = subst (λ (v : List (PortEvent × PortAnswer)). Gained steps refused decks_left start by seen here v) (sym (calls_append d.acts (x ∷ []) ∙ append-nil (calls_of d.acts))) d.gained;
      wrote = subst (λ (v : List ℕ). Appends was.written a.written v) (sym (bytes_append d.acts (x ∷ []) ∙ append-nil (bytes_of d.acts))) d.wrote;
      paced = subst (λ (v : List Pace). TakesPaces was.paces a.paces v) (sym (paces_append d.acts (x ∷ []) ∙ append-nil (paces_of d.acts))) d.paced;
      sink_rises = d.sink_rises;
      stops_rise = d.stops_rise;
      stands = so;
      numbered = subst (λ (z : Stage). IsCounted z at.number (length (read_of d.acts))) se number_is ∙ sym (ap length (read_append d.acts (x ∷ [])) ∙ length-append (read_of d.acts) (m ∷ []));
      time = d.time;
    }

    -- a read gave no message
    pub more_on : (l : Option (List ℕ)) (f : ℕ) (inlet' : Inlet) → InletReads was.left was.source_faults l f inlet' (read_of d.acts)
        → Driving steps refused decks_left start by seen here p was (reach l f a.written a.sink_faults a.paces a.stops a.time) inlet' (record { stage = s0; number = at.number })
    more_on l f inlet' r = record {
      acts = d.acts;
      drives = subst (λ (z : Stage). Drives p was.time Begins 0 d.acts z at.number) is d.drives;
      reads = r;
      gained = d.gained;
      wrote = d.wrote;
      paced = d.paced;
      sink_rises = d.sink_rises;
      stops_rise = d.stops_rise;
      stands = stood;
      numbered = number_is;
      time = d.time;
    }

    -- a pause was made
    pub paused_on : s0 ≡ Rests → (b : Option (List Pace)) (n : ℕ) (q : Pace) (s' : Stage) → TakesPace a.paces b q → a.stops ≤ n → StopsBy q a.stops n → s' ≡ paused_to q
        → Driving steps refused decks_left start by seen here p was (reach a.left a.source_faults a.written a.sink_faults b n a.time) inlet (record { stage = s'; number = at.number })
    paused_on r0 b n q s' h le sb se = let x : Act = Act.paused q in record {
      acts = d.acts ++ x ∷ [];
      drives = subst (λ (z : Stage). Drives p was.time Begins 0 (d.acts ++ x ∷ []) z at.number) (sym se) (moved x (paused_to q) at.number (subst (λ (z : Stage). Moves p was.time z at.number x (paused_to q) at.number) (sym r0) (refl, refl)));
      reads = subst (λ (v : List Envelope). InletReads was.left was.source_faults a.left a.source_faults inlet v) (sym (read_append d.acts (x ∷ []) ∙ append-nil (read_of d.acts))) d.reads;
      gained = subst (λ (v : List (PortEvent × PortAnswer)). Gained steps refused decks_left start by seen here v) (sym (calls_append d.acts (x ∷ []) ∙ append-nil (calls_of d.acts))) d.gained;
      wrote = subst (λ (v : List ℕ). Appends was.written a.written v) (sym (bytes_append d.acts (x ∷ []) ∙ append-nil (bytes_of d.acts))) d.wrote;
      paced = subst (λ (v : List Pace). TakesPaces was.paces b v) (sym (paces_append d.acts (x ∷ []))) (paced_more was.paces a.paces b (paces_of d.acts) q d.paced h);
      sink_rises = d.sink_rises;
      stops_rise = let r = d.stops_rise in omega arith;
      stands = subst (λ (z : Stage). MayStand z was.stops n) (sym se) (stands_paced q was.stops a.stops n d.stops_rise sb);
      numbered = subst (λ (z : Stage). IsCounted z at.number (length (read_of (d.acts ++ x ∷ [])))) (sym se)
          (counted (paused_to q) at.number (length (read_of (d.acts ++ x ∷ []))) (speaks_paused q) (subst (λ (z : Stage). IsCounted z at.number (length (read_of d.acts))) r0 number_is ∙ sym (ap length (read_append d.acts (x ∷ []) ∙ append-nil (read_of d.acts)))));
      time = d.time;
    }

    first : Halts was.left was.source_faults a.left a.source_faults inlet.budget (read_of d.acts) NoMemory
    first = begun was.left was.source_faults a.left a.source_faults inlet.decoder inlet.rejection inlet.count inlet.budget (read_of d.acts) d.reads

    -- there was no memory for an event
    pub no_event : (time : Option MosTime) → time ≡ a.time → Driven steps refused decks_left start by seen here p inlet.budget was (reach a.left a.source_faults a.written a.sink_faults a.paces a.stops time) NoMemory
    no_event time te = record {
      acts = d.acts;
      stage = at.stage;
      number = at.number;
      drives = d.drives;
      gained = d.gained;
      paced = d.paced;
      source_rises = (d.reads).rises;
      sink_rises = d.sink_rises;
      stops_rise = d.stops_rise;
      time = te ∙ d.time;
      how = record { halts = first; wrote = d.wrote };
    }

    -- the stage says that it is over
    pub is_over : (end : End) → s0 ≡ Over end → Driven steps refused decks_left start by seen here p inlet.budget was a end
    is_over end se = let st : OverBy end was.stops a.stops = subst (λ (z : Stage). MayStand z was.stops a.stops) se stood in
        let h : Broken was a inlet.budget d.acts = record { halts = first; wrote = d.wrote } in record {
          acts = d.acts;
          stage = at.stage;
          number = at.number;
          drives = d.drives;
          gained = d.gained;
          paced = d.paced;
          source_rises = (d.reads).rises;
          sink_rises = d.sink_rises;
          stops_rise = d.stops_rise;
          time = d.time;
          how = by_over p was a inlet.budget d.acts at.stage at.number end (is ∙ se) st h;
        }

    -- the source is over while an answer is awaited
    pub read_over : (l : Option (List ℕ)) (f budget : ℕ) (end : End) → s0 ≡ Awaits → Halts was.left was.source_faults l f budget (read_of d.acts) end
        → Driven steps refused decks_left start by seen here p budget was (reach l f a.written a.sink_faults a.paces a.stops a.time) end
    read_over l f budget end se h = let now : Reach = reach l f a.written a.sink_faults a.paces a.stops a.time in record {
      acts = d.acts;
      stage = at.stage;
      number = at.number;
      drives = d.drives;
      gained = d.gained;
      paced = d.paced;
      source_rises = h.rises;
      sink_rises = d.sink_rises;
      stops_rise = d.stops_rise;
      time = d.time;
      how = by_source p was now budget d.acts at.stage at.number end (is ∙ se) h d.wrote;
    }

    -- a message couldn't be written
    write_over : (k : Option (List ℕ)) (n : ℕ) (m : Message) (end : End) → s0 ≡ Writes m → WriteEnds a.written k a.sink_faults n (encoding (own p (at.number + 1) m)) end → a.sink_faults ≤ n
        → Driven steps refused decks_left start by seen here p inlet.budget was (reach a.left a.source_faults k n a.paces a.stops a.time) end
    write_over k n m end se w le = let now : Reach = reach a.left a.source_faults k n a.paces a.stops a.time in record {
      acts = d.acts;
      stage = at.stage;
      number = at.number;
      drives = d.drives;
      gained = d.gained;
      paced = d.paced;
      source_rises = (d.reads).rises;
      sink_rises = let r = d.sink_rises in omega arith;
      stops_rise = d.stops_rise;
      time = d.time;
      how = by_sink p was now a.written a.sink_faults inlet.budget d.acts at.stage at.number m end (is ∙ se) first d.wrote d.sink_rises w;
    }

    pub write_fails : (k : Option (List ℕ)) (n : ℕ) (m : Message) (end : End) → s0 ≡ Writes m → (j : ℕ) → j ≡ at.number + 1 → WriteEnds a.written k a.sink_faults n (encoding (own p j m)) end → a.sink_faults ≤ n
        → Driven steps refused decks_left start by seen here p inlet.budget was (reach a.left a.source_faults k n a.paces a.stops a.time) end
    write_fails k n m end se j je w le = write_over k n m end se (subst (λ (i : ℕ). WriteEnds a.written k a.sink_faults n (encoding (own p i m)) end) je w) le

  pub driven_within : (later : List (Entry PortEvent PortAnswer)) (n m : ℕ) (now : Reach) (end : End) → n ≡ m → Driven steps refused decks_left start by seen later p n was now end → Driven steps refused decks_left start by seen later p m was now end
  driven_within later n m now end e h = subst (λ (k : ℕ). Driven steps refused decks_left start by seen later p k was now end) e h

  pub driving_none : (inlet : Inlet) → InletReads was.left was.source_faults was.left was.source_faults inlet [] → Driving steps refused decks_left start by seen seen p was was inlet (record { stage = Begins; number = 0 })
  driving_none inlet r = record { acts = []; drives = (refl, refl); reads = r; gained = gains_none steps refused decks_left start by seen; wrote = appends_none was.written; paced = refl; sink_rises = omega arith; stops_rise = omega arith; stands = tt; numbered = refl; time = refl }
