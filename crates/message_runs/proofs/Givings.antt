-- What is said of messages goes on by one message, or stops there.
use Rattle.std.proofs.Common.{◌≡◌, ℕ, ◌/◌, ◌≤◌, inl, inr, Bool, true, ◌&&◌, List, [], ◌∷◌, ◌++◌, length, Option, refl, sym, ap, ◌∙◌, subst, arith, Result, Ok, Err}
use Rattle.mos_codec.specs.Codec.{encoding}
use Rattle.mos_fields.specs.Characters.{units_in}
use Rattle.mos_io.specs.Bytes.{Appends, AppendsFront}
use Rattle.mos_values.specs.declared.message.Envelope.{Envelope}
use Rattle.port_session.specs.Reading.{Halted, InletReads}
use Rattle.port_session.specs.declared.end.End.{End}
use Rattle.port_session.specs.declared.inlet.Inlet.{Inlet}
use Rattle.port_session.proofs.Readings.{reads_none, rose_from}
use Rattle.port_session.proofs.Servings.{appends_more, appends_none}
use Rattle.edit_lines.specs.Answers.{answer_text}
use Rattle.edit_runs.specs.Runs.{HasGiven, HearsTold, IsHearing, IsNewInlet, Sent}
use Rattle.edit_runs.specs.declared.halt.Halt.{Halt}
use Rattle.edit_runs.specs.declared.halt.Halt.TheVariants as whys
use Rattle.edit_runs.proofs.Goings.{front_all, front_none, front_same, given_now}
use Rattle.message_runs.specs.Exchanges.{Exchange, answers_of, are_good, is_good, messages_of, sent_of, told_of, told_text}
use Rattle.message_runs.specs.Given.{Ends, Given, Gives, Giving, Going, IsAnswered, IsOver, IsStopped, Rises, Sides, Stops, Turned, sides}
use Rattle.message_runs.specs.Labels.{label_text}
use Rattle.message_runs.specs.MessageEnds.{ended_by, stopped_by}
use Rattle.message_runs.specs.declared.message_end.MessageEnd.{MessageEnd}
use Rattle.message_runs.specs.declared.message_end.MessageEnd.TheVariants as results
use Rattle.message_runs.proofs.Halves.{half_units}
use Rattle.message_runs.proofs.Exchanged.{answers_more, good_more, messages_more, sent_more, told_more}

-- ---- one message

module _ (was a : Sides) (exchanges : List Exchange) (inlet : Inlet) (g : Going was a exchanges inlet) (e : Envelope) where
  rising : (b : Sides) → a.heard ≤ b.heard → a.sends ≤ b.sends → a.shows ≤ b.shows → Rises was b
  rising b x y z = let r = g.rises in record {
    heard = let h = r.heard in omega arith;
    sends = let h = r.sends in omega arith;
    shows = let h = r.shows in omega arith;
  }

  pub given_before : HasGiven was.left was.heard a.left a.heard (answers_of exchanges)
  given_before = given_now was.left was.heard a.left a.heard inlet (answers_of exchanges) g.reads

  -- there was no memory for the message's bytes and its label
  pub stops_first : Stops was a a (answers_of exchanges) e results.NoMemory
  stops_first = record { sent = front_none a.sent (encoding e); given = given_before; shown = refl }

  module _ (bytes : List ℕ) (bytes_are : bytes ≡ encoding e) where
    -- the message couldn't be written
    pub stops_unsent : (w : Option (List ℕ)) (m : ℕ) (why : Halt) → Sent a.sent w a.sends m bytes (Err why) → Stops was a (sides a.left a.heard w m a.shown a.shows) (answers_of exchanges) e (stopped_by why)
    stops_unsent w m whys.Unsent x = record {
      sent = subst (λ (z : List ℕ). AppendsFront a.sent w z) bytes_are x.0;
      rose = rose_from was.sends a.sends m g.rises.sends x.1;
      given = given_before;
      shown = refl;
    }
    stops_unsent w m whys.NoMemory x = record { sent = front_same a.sent w (encoding e) x; given = given_before; shown = refl }
    stops_unsent w m whys.Unheard x = absurd x
    stops_unsent w m whys.Unanswered x = absurd x
    stops_unsent w m whys.WriteFault x = absurd x

    module _ (b : Sides) (inlet' : Inlet) (sent : Appends a.sent b.sent bytes) (label : List ℕ) where
      was_sent : Appends a.sent b.sent (encoding e)
      was_sent = subst (λ (z : List ℕ). Appends a.sent b.sent z) bytes_are sent

      -- it was written, and no answer was told
      pub stops_untold : (why : Halt) → HearsTold was.left was.heard b.left b.heard inlet' (answers_of exchanges) label e a.shown b.shown a.shows b.shows (Err why) → Stops was a b (answers_of exchanges) e (stopped_by why)
      stops_untold whys.Unheard x = record { sent = was_sent; hung_up = x.0; shown = x.1 }
      stops_untold whys.Unanswered x = record { sent = was_sent; hung_up = x.0; shown = x.1 }
      stops_untold whys.WriteFault x = record { sent = was_sent; shown = x.1.0; rose = rose_from was.shows a.shows b.shows g.rises.shows x.1.1; given = x.0 }
      stops_untold whys.NoMemory x = record { sent = front_all a.sent b.sent (encoding e) was_sent; given = x.0; shown = x.1 }
      stops_untold whys.Unsent x = absurd x

      -- the answer was told
      module _ (label_is : label ≡ label_text e.message) where
        pub is_answered : (good : Bool) → HearsTold was.left was.heard b.left b.heard inlet' (answers_of exchanges) label e a.shown b.shown a.shows b.shows (Ok good) → a.heard ≤ b.heard → a.sends ≤ b.sends → a.shows ≤ b.shows
            → IsAnswered was b exchanges e inlet' good
        is_answered good x p q r = let y : Exchange = record { sent = e; answer = x.answer } in record {
          answer = x.answer;
          good_is = x.good_is;
          going = record {
            reads = subst (λ (all : List Envelope). InletReads was.left was.heard b.left b.heard inlet' all) (answers_more exchanges y) x.reads;
            sent = subst (λ (z : List ℕ). Appends was.sent b.sent z) (sent_more exchanges y) (appends_more was.sent a.sent b.sent (sent_of exchanges) (encoding e) g.sent was_sent);
            shown = subst (λ (z : List ℕ). Appends was.shown b.shown z) (told_more exchanges y) (appends_more was.shown a.shown b.shown (told_of exchanges) (told_text y) g.shown
                (subst (λ (z : List ℕ). Appends a.shown b.shown (answer_text e z x.answer)) label_is x.shows));
            rises = rising b p q r;
          };
        }

-- ---- the messages of the stream

module _ (l : Option (List ℕ)) (f : ℕ) (l' : Option (List ℕ)) (f' : ℕ) (was : Sides) where
  module _ (stream : Inlet) (exchanges : List Exchange) (e : Envelope) (reads : InletReads l f l' f' stream (messages_of exchanges ++ e ∷ [])) (good : Bool) (good_is : good ≡ are_good exchanges) where
    -- the message had an answer
    pub giving_more : (b : Sides) (inlet : Inlet) (answered : Bool) → IsAnswered was b exchanges e inlet answered → Giving l f l' f' was b (good && answered) stream inlet
    giving_more b inlet answered h = let y : Exchange = record { sent = e; answer = h.answer } in record {
      exchanges = exchanges ++ y ∷ [];
      good_is = ap (λ (p : Bool × Bool). p.0 && p.1) (λ i. (good_is i, h.good_is i)) ∙ good_more exchanges y;
      reads = subst (λ (all : List Envelope). InletReads l f l' f' stream all) (messages_more exchanges y) reads;
      going = h.going;
    }

    -- the run stopped at the message
    pub stopped_at : (a b : Sides) (inlet : Inlet) (end : MessageEnd) → Going was a exchanges inlet → Stops was a b (answers_of exchanges) e end → IsStopped l f l' f' was b end
    stopped_at a b inlet end g why = record {
      exchanges = exchanges;
      next = e;
      stream = stream;
      reads = reads;
      between = a;
      sent = g.sent;
      shown = g.shown;
      why = why;
    }

  pub turned_given : (now : Sides) (good : Bool) (stream inlet : Inlet) (result : Result (Unit {0}) MessageEnd) → Given l f l' f' was now good stream inlet result → Turned l f l' f' was now good stream inlet result
  turned_given now good stream inlet (Ok done) h = h
  turned_given now good stream inlet (Err end) h = inr h

  -- the stream gives no more
  pub turned_over : (k : Option (List ℕ)) (h : ℕ) (now : Sides) (good : Bool) (stream inlet : Inlet) (g : Giving l f k h was now good stream inlet) (budget count : ℕ) (end : End) (result : MessageEnd)
      → Halted l f l' f' budget count (messages_of g.exchanges) end → result ≡ ended_by good (count / 2) end → Ends l f l' f' was now result
  turned_over k h now good stream inlet g budget count end result halted e = inl (record {
    exchanges = g.exchanges;
    budget = budget;
    end = end;
    halts = halted.0;
    given = given_now was.left was.heard now.left now.heard inlet (answers_of g.exchanges) g.going.reads;
    sent = g.going.sent;
    shown = g.going.shown;
    result_is = e ∙ ap (λ (n : ℕ). ended_by good n end) (half_units halted.0.read count halted.1) ∙ ap (λ (b : Bool). ended_by b (length (units_in halted.0.read)) end) g.good_is;
  })

  -- the inlets have read
  pub reading_of : (now : Sides) (good : Bool) (stream inlet : Inlet) → Giving l f l' f' was now good stream inlet → IsHearing l' f' stream
  reading_of now good stream inlet g = (l, f, messages_of g.exchanges, g.reads)

  pub hearing_of : (now : Sides) (good : Bool) (stream inlet : Inlet) → Giving l f l' f' was now good stream inlet → IsHearing now.left now.heard inlet
  hearing_of now good stream inlet g = (was.left, was.heard, answers_of g.exchanges, g.going.reads)

-- ---- the start

-- before the first message
pub giving_none : (l : Option (List ℕ)) (f : ℕ) (was : Sides) (stream inlet : Inlet) → IsNewInlet stream → IsNewInlet inlet → Giving l f l f was was true stream inlet
giving_none l f was stream inlet s n = record {
  exchanges = [];
  good_is = refl;
  reads = reads_none l f stream.decoder stream.rejection stream.count stream.budget s.nothing s.rejection s.count;
  going = record {
    reads = reads_none was.left was.heard inlet.decoder inlet.rejection inlet.count inlet.budget n.nothing n.rejection n.count;
    sent = appends_none was.sent;
    shown = appends_none was.shown;
    rises = record { heard = omega arith; sends = omega arith; shows = omega arith };
  };
}
