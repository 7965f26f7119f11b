-- What is said of lines goes on by one line, or stops there.
use Rattle.std.proofs.Common.{◌≡◌, ℕ, ◌≤◌, inl, inr, Bool, List, [], ◌∷◌, ◌++◌, Option, refl, sym, ap, ◌∙◌, subst, arith, append-nil, Result, Ok, Err}
use Rattle.mos_codec.specs.Codec.{encoding}
use Rattle.mos_io.specs.Bytes.{Appends, AppendsFront}
use Rattle.mos_values.specs.declared.message.Envelope.{Envelope}
use Rattle.mos_values.specs.declared.message.Message.{Message}
use Rattle.port_session.specs.Reading.{Halts, InletReads}
use Rattle.port_session.specs.declared.end.End.{End}
use Rattle.port_session.specs.declared.end.End.TheVariants as ends
use Rattle.port_session.specs.declared.inlet.Inlet.{Inlet}
use Rattle.port_session.proofs.Readings.{begun, reads_none, rose_from}
use Rattle.port_session.proofs.Servings.{appends_more, appends_none}
use Rattle.edit_lines.specs.Answers.{answer_text, is_wanted}
use Rattle.edit_lines.specs.Asked.{asked_of}
use Rattle.edit_lines.specs.Requests.{IsSent, numbered}
use Rattle.edit_lines.specs.declared.asked.Asked.TheVariants as asks
use Rattle.edit_lines.specs.declared.request.Names.{Names}
use Rattle.edit_runs.specs.Runs.{AppendsSome, Going, Handled, HasGiven, HearsTold, IsMessage, IsNewInlet, IsStopped, Refuses, Rises, Sent, Showed, Sides, Stops, Wrote, sides}
use Rattle.edit_runs.specs.Said.{answered, answered_counts, note_text, nothing_said, passed, passed_counts, refused, refused_counts, start_counts}
use Rattle.edit_runs.specs.Said.IsSaid.{begins, passes, refuses, answers}
use Rattle.edit_runs.specs.Statuses.{lost_by, status_at}
use Rattle.edit_runs.specs.declared.counts.Counts.{Counts}
use Rattle.edit_runs.specs.declared.halt.Halt.{Halt}
use Rattle.edit_runs.specs.declared.halt.Halt.TheVariants as whys
use Rattle.edit_runs.specs.declared.status.EditStatus.{EditStatus}
use Rattle.edit_runs.specs.declared.status.EditStatus.TheVariants as statuses

-- ---- single calls

pub front_none : (w : Option (List ℕ)) (bytes : List ℕ) → AppendsFront w w bytes
front_none w bytes = ([], bytes, refl, appends_none w)

pub front_all : (w w' : Option (List ℕ)) (bytes : List ℕ) → Appends w w' bytes → AppendsFront w w' bytes
front_all w w' bytes h = (bytes, [], sym (append-nil bytes), h)

pub some_none : (w : Option (List ℕ)) → AppendsSome w w
some_none w = ([], front_none w [])

pub some_same : (w w' : Option (List ℕ)) → w' ≡ w → AppendsSome w w'
some_same w w' e = subst (λ (o : Option (List ℕ)). AppendsSome w o) (sym e) (some_none w)

pub front_same : (w w' : Option (List ℕ)) (bytes : List ℕ) → w' ≡ w → AppendsFront w w' bytes
front_same w w' bytes e = subst (λ (o : Option (List ℕ)). AppendsFront w o bytes) (sym e) (front_none w bytes)

-- ---- what the connection gave

module _ (l : Option (List ℕ)) (f : ℕ) (l' : Option (List ℕ)) (f' : ℕ) where
  first_given : (budget : ℕ) (given : List Envelope) → Halts l f l' f' budget given ends.NoMemory → HasGiven l f l' f' given
  first_given budget given h = record { more = []; budget = budget; halts = subst (λ (all : List Envelope). Halts l f l' f' budget all ends.NoMemory) (sym (append-nil given)) h }

  pub given_now : (inlet : Inlet) (given : List Envelope) → InletReads l f l' f' inlet given → HasGiven l f l' f' given
  given_now inlet given r = first_given inlet.budget given (begun l f l' f' inlet.decoder inlet.rejection inlet.count inlet.budget given r)

  given_more : (inlet : Inlet) (given : List Envelope) (e : Envelope) → InletReads l f l' f' inlet (given ++ e ∷ []) → HasGiven l f l' f' given
  given_more inlet given e r = record { more = e ∷ []; budget = inlet.budget; halts = begun l f l' f' inlet.decoder inlet.rejection inlet.count inlet.budget (given ++ e ∷ []) r }

  module _ (inlet : Inlet) (given : List Envelope) (line : List ℕ) (sent : Envelope) (k k' : Option (List ℕ)) (n n' : ℕ) where
    -- an answer came, and was told or not
    pub told_by : (e : Envelope) (result : Result Bool Halt) → InletReads l f l' f' inlet (given ++ e ∷ []) → Showed (answer_text sent line e) (is_wanted sent e) k k' n n' result → HearsTold l f l' f' inlet given line sent k k' n n' result
    told_by e (Ok good) r s = record { answer = e; reads = r; good_is = s.0; shows = s.1 }
    told_by e (Err whys.WriteFault) r s = (given_more inlet given e r, ((answer_text sent line e, s.0), s.1))
    told_by e (Err whys.NoMemory) r s = (given_more inlet given e r, s)
    told_by e (Err whys.Unsent) r s = absurd s
    told_by e (Err whys.Unheard) r s = absurd s
    told_by e (Err whys.Unanswered) r s = absurd s

    -- no answer came
    pub untold_by : (budget : ℕ) (end : End) → Halts l f l' f' budget given end → k' ≡ k → HearsTold l f l' f' inlet given line sent k k' n n' (Err (lost_by end))
    untold_by budget ends.NoMemory h e = (first_given budget given h, e)
    untold_by budget ends.Closed h e = (record { budget = budget; end = ends.Closed; halts = h; lost = refl }, e)
    untold_by budget (ends.Truncated b) h e = (record { budget = budget; end = ends.Truncated b; halts = h; lost = refl }, e)
    untold_by budget (ends.BadMessage p c) h e = (record { budget = budget; end = ends.BadMessage p c; halts = h; lost = refl }, e)
    untold_by budget ends.ReadFault h e = (record { budget = budget; end = ends.ReadFault; halts = h; lost = refl }, e)
    untold_by budget ends.Budget h e = (record { budget = budget; end = ends.Budget; halts = h; lost = refl }, e)
    untold_by budget ends.WriteFault h e = absurd h.ceased
    untold_by budget ends.Stale h e = absurd h.ceased
    untold_by budget ends.Unasked h e = absurd h.ceased
    untold_by budget ends.Stopped h e = absurd h.ceased

-- a note couldn't be written
pub refuses_by : (line : List ℕ) (counts : Counts) (w w' : Option (List ℕ)) (f f' : ℕ) (why : Halt) → Wrote w w' f f' (note_text counts.place line) (Err why) → Refuses line counts counts w w' f f' (Err (status_at why counts.place))
refuses_by line counts w w' f f' whys.WriteFault h = h
refuses_by line counts w w' f f' whys.NoMemory h = h
refuses_by line counts w w' f f' whys.Unsent h = absurd h
refuses_by line counts w w' f f' whys.Unheard h = absurd h
refuses_by line counts w w' f f' whys.Unanswered h = absurd h

-- ---- one line

-- the number of the next message, as the code counts it
message_of : (names : Names) (n m : ℕ) (line bytes : List ℕ) (sent : Envelope) → n ≡ m → IsSent names n (asked_of line) bytes sent → IsMessage names m (asked_of line) bytes
message_of names n m line bytes sent e s = inr (sent, subst (λ (k : ℕ). IsSent names k (asked_of line) bytes sent) e s)

module _ (names : Names) (lines : List (List ℕ)) (line : List ℕ) (was a : Sides) (counts : Counts) (inlet : Inlet) (g : Going names lines was a counts inlet) where
  rising : (b : Sides) → a.heard ≤ b.heard → a.sends ≤ b.sends → a.shows ≤ b.shows → a.notes ≤ b.notes → Rises was b
  rising b x y z w = let r = g.rises in record {
    heard = let h = r.heard in omega arith;
    sends = let h = r.sends in omega arith;
    shows = let h = r.shows in omega arith;
    notes = let h = r.notes in omega arith;
  }

  -- a line that is passed over
  pub going_passed : asked_of line ≡ asks.Nothing → Going names (lines ++ line ∷ []) was a (passed_counts counts) inlet
  going_passed e = record {
    said = passed g.said;
    is_said = passes lines line g.said g.is_said e;
    counts_are = ap passed_counts g.counts_are;
    reads = g.reads;
    sent = g.sent;
    shown = g.shown;
    noted = g.noted;
    rises = g.rises;
  }

  -- a line that is no edit
  pub going_refused : (n : Option (List ℕ)) (h : ℕ) → asked_of line ≡ asks.NoEdit → Appends a.noted n (note_text counts.place line) → a.notes ≤ h
      → Going names (lines ++ line ∷ []) was (sides a.left a.heard a.sent a.sends a.shown a.shows n h) (refused_counts counts) inlet
  going_refused n h e x le = record {
    said = refused line g.said;
    is_said = refuses lines line g.said g.is_said e;
    counts_are = ap refused_counts g.counts_are;
    reads = g.reads;
    sent = g.sent;
    shown = g.shown;
    noted = appends_more was.noted a.noted n g.said.noted (note_text g.said.counts.place line) g.noted (subst (λ (c : Counts). Appends a.noted n (note_text c.place line)) g.counts_are x);
    rises = let r = g.rises in record { heard = r.heard; sends = r.sends; shows = r.shows; notes = let z = r.notes in omega arith };
  }

  -- the bytes of a line's message, its number as it was said
  sent_bytes : (m : Message) (bytes : List ℕ) → bytes ≡ encoding (numbered names counts.number m) → bytes ≡ encoding (numbered names g.said.counts.number m)
  sent_bytes m bytes e = subst (λ (c : Counts). bytes ≡ encoding (numbered names c.number m)) g.counts_are e

  -- the line's message, its number as it was said
  sent_now : (m : Message) (sent : Envelope) → sent ≡ numbered names counts.number m → sent ≡ numbered names g.said.counts.number m
  sent_now m sent e = subst (λ (c : Counts). sent ≡ numbered names c.number m) g.counts_are e

  -- a line whose message was answered
  pub going_answered : (b : Sides) (inlet' : Inlet) (bytes : List ℕ) (sent : Envelope) (s : IsSent names counts.number (asked_of line) bytes sent) (good : Bool) (e : Envelope)
      → InletReads was.left was.heard b.left b.heard inlet' (g.said.answers ++ e ∷ []) → good ≡ is_wanted sent e → Appends a.sent b.sent bytes → Appends a.shown b.shown (answer_text sent line e) → b.noted ≡ a.noted → Rises was b
      → Going names (lines ++ line ∷ []) was b (answered_counts good counts) inlet'
  going_answered b inlet' bytes sent s good e reads good_is wrote shown noted rises = let now = sent_now s.message sent s.sent_is in record {
    said = answered names line s.message e g.said;
    is_said = answers lines line g.said s.message e g.is_said s.asks;
    counts_are = let w : good ≡ is_wanted (numbered names g.said.counts.number s.message) e = good_is ∙ ap (λ (x : Envelope). is_wanted x e) now in ap (λ (x : Bool × Counts). answered_counts x.0 x.1) (λ i. (w i, g.counts_are i));
    reads = reads;
    sent = appends_more was.sent a.sent b.sent g.said.sent (encoding (numbered names g.said.counts.number s.message)) g.sent (subst (λ (x : List ℕ). Appends a.sent b.sent x) (sent_bytes s.message bytes s.encodes) wrote);
    shown = appends_more was.shown a.shown b.shown g.said.shown (answer_text (numbered names g.said.counts.number s.message) line e) g.shown (subst (λ (x : Envelope). Appends a.shown b.shown (answer_text x line e)) now shown);
    noted = subst (λ (o : Option (List ℕ)). Appends was.noted o g.said.noted) (sym noted) g.noted;
    rises = rises;
  }

  -- ---- where the run stops

  stopped : (b : Sides) (status : EditStatus) (message : List ℕ) → IsMessage names g.said.counts.number (asked_of line) message → AppendsFront a.sent b.sent message → AppendsSome a.shown b.shown → AppendsSome a.noted b.noted
      → Stops was b g.said.answers g.said.counts.place status → IsStopped names lines line was b status
  stopped b status message is_message sends shows notes why = record {
    said = g.said;
    is_said = g.is_said;
    message = message;
    is_message = is_message;
    between = a;
    sent = g.sent;
    shown = g.shown;
    noted = g.noted;
    sends = sends;
    shows = shows;
    notes = notes;
    why = why;
  }

  given : HasGiven was.left was.heard a.left a.heard g.said.answers
  given = given_now was.left was.heard a.left a.heard inlet g.said.answers g.reads

  -- the number of the line, as it was said
  place : counts.place ≡ g.said.counts.place
  place = ap (λ (c : Counts). c.place) g.counts_are

  -- there was no memory for the line's message
  pub stops_unasked : IsStopped names lines line was a statuses.NoMemory
  stops_unasked = stopped a statuses.NoMemory [] (inl refl) (front_none a.sent []) (some_none a.shown) (some_none a.noted) given

  -- the note couldn't be written
  pub stops_unnoted : (counts' : Counts) (n : Option (List ℕ)) (h : ℕ) (status : EditStatus) → Refuses line counts counts' a.noted n a.notes h (Err status)
      → IsStopped names lines line was (sides a.left a.heard a.sent a.sends a.shown a.shows n h) status
  stops_unnoted counts' n h statuses.WriteFault x = stopped (sides a.left a.heard a.sent a.sends a.shown a.shows n h) statuses.WriteFault [] (inl refl) (front_none a.sent []) (some_none a.shown) (note_text counts.place line, x.0)
      (inr (rose_from was.notes a.notes h g.rises.notes x.1), given)
  stops_unnoted counts' n h statuses.NoMemory x = stopped (sides a.left a.heard a.sent a.sends a.shown a.shows n h) statuses.NoMemory [] (inl refl) (front_none a.sent []) (some_none a.shown) (some_same a.noted n x) given
  stops_unnoted counts' n h statuses.Done x = absurd x
  stops_unnoted counts' n h statuses.Refused x = absurd x
  stops_unnoted counts' n h statuses.Usage x = absurd x
  stops_unnoted counts' n h statuses.ReadFault x = absurd x
  stops_unnoted counts' n h statuses.Lost x = absurd x
  stops_unnoted counts' n h (statuses.Unsent at) x = absurd x
  stops_unnoted counts' n h (statuses.Unheard at) x = absurd x
  stops_unnoted counts' n h (statuses.Unanswered at) x = absurd x

  -- a line that is no edit was noted or not
  pub handled_refused : (n : Option (List ℕ)) (h : ℕ) (counts' : Counts) (result : Result (Unit {0}) EditStatus) → asked_of line ≡ asks.NoEdit → Refuses line counts counts' a.noted n a.notes h result → a.notes ≤ h
      → Handled names lines line was (sides a.left a.heard a.sent a.sends a.shown a.shows n h) counts' inlet result
  handled_refused n h counts' (Ok done) e x le = subst (λ (c : Counts). Going names (lines ++ line ∷ []) was (sides a.left a.heard a.sent a.sends a.shown a.shows n h) c inlet) (sym x.0) (going_refused n h e x.1 le)
  handled_refused n h counts' (Err status) e x le = stops_unnoted counts' n h status x

  module _ (bytes : List ℕ) (sent : Envelope) (s : IsSent names counts.number (asked_of line) bytes sent) where
    is_message : IsMessage names g.said.counts.number (asked_of line) bytes
    is_message = message_of names counts.number g.said.counts.number line bytes sent (ap (λ (c : Counts). c.number) g.counts_are) s

    -- the message couldn't be written
    pub stops_unsent : (w : Option (List ℕ)) (m : ℕ) (why : Halt) → Sent a.sent w a.sends m bytes (Err why)
        → IsStopped names lines line was (sides a.left a.heard w m a.shown a.shows a.noted a.notes) (status_at why counts.place)
    stops_unsent w m whys.Unsent x = stopped (sides a.left a.heard w m a.shown a.shows a.noted a.notes) (statuses.Unsent counts.place) bytes is_message x.0 (some_none a.shown) (some_none a.noted)
        (place, (rose_from was.sends a.sends m g.rises.sends x.1, given))
    stops_unsent w m whys.NoMemory x = stopped (sides a.left a.heard w m a.shown a.shows a.noted a.notes) statuses.NoMemory bytes is_message (front_same a.sent w bytes x) (some_none a.shown) (some_none a.noted) given
    stops_unsent w m whys.Unheard x = absurd x
    stops_unsent w m whys.Unanswered x = absurd x
    stops_unsent w m whys.WriteFault x = absurd x

    -- it was written, and no answer was told
    pub stops_untold : (b : Sides) (inlet' : Inlet) (why : Halt) → Appends a.sent b.sent bytes → b.noted ≡ a.noted → HearsTold was.left was.heard b.left b.heard inlet' g.said.answers line sent a.shown b.shown a.shows b.shows (Err why)
        → IsStopped names lines line was b (status_at why counts.place)
    stops_untold b inlet' whys.Unheard wrote noted x = stopped b (statuses.Unheard counts.place) bytes is_message (front_all a.sent b.sent bytes wrote) (some_same a.shown b.shown x.1) (some_same a.noted b.noted noted) (place, x.0)
    stops_untold b inlet' whys.Unanswered wrote noted x = stopped b (statuses.Unanswered counts.place) bytes is_message (front_all a.sent b.sent bytes wrote) (some_same a.shown b.shown x.1) (some_same a.noted b.noted noted) (place, x.0)
    stops_untold b inlet' whys.WriteFault wrote noted x = stopped b statuses.WriteFault bytes is_message (front_all a.sent b.sent bytes wrote) x.1.0 (some_same a.noted b.noted noted) (inl (rose_from was.shows a.shows b.shows g.rises.shows x.1.1), x.0)
    stops_untold b inlet' whys.NoMemory wrote noted x = stopped b statuses.NoMemory bytes is_message (front_all a.sent b.sent bytes wrote) (some_same a.shown b.shown x.1) (some_same a.noted b.noted noted) x.0
    stops_untold b inlet' whys.Unsent wrote noted x = absurd x

    -- the message was written, and this came of the wait for its answer
    pub going_heard : (b : Sides) (inlet' : Inlet) (good : Bool) → HearsTold was.left was.heard b.left b.heard inlet' g.said.answers line sent a.shown b.shown a.shows b.shows (Ok good) → Appends a.sent b.sent bytes → b.noted ≡ a.noted
        → a.heard ≤ b.heard → a.sends ≤ b.sends → a.shows ≤ b.shows → a.notes ≤ b.notes → Going names (lines ++ line ∷ []) was b (answered_counts good counts) inlet'
    going_heard b inlet' good x wrote noted p q r t = going_answered b inlet' bytes sent s good x.answer x.reads x.good_is wrote x.shows noted (rising b p q r t)

-- ---- the start

-- before the first line
pub going_none : (names : Names) (was : Sides) (inlet : Inlet) → IsNewInlet inlet → Going names [] was was start_counts inlet
going_none names was inlet new = record {
  said = nothing_said;
  is_said = begins;
  counts_are = refl;
  reads = reads_none was.left was.heard inlet.decoder inlet.rejection inlet.count inlet.budget new.nothing new.rejection new.count;
  sent = appends_none was.sent;
  shown = appends_none was.shown;
  noted = appends_none was.noted;
  rises = record { heard = omega arith; sends = omega arith; shows = omega arith; notes = omega arith };
}
