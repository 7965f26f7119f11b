-- A connection that this end accepted goes on, and ends.
use Rattle.std.proofs.Common.{◌≡◌, ℕ, ◌≤◌, inl, inr, Bool, false, List, [], ◌∷◌, ◌++◌, Option, refl, subst, arith, Result, Ok, Err}
use Rattle.mos_values.specs.declared.message.Envelope.{Envelope}
use Rattle.port_events.specs.declared.answer.PortAnswer.{PortAnswer}
use Rattle.port_events.specs.declared.event.PortEvent.{PortEvent}
use Rattle.shared_machine.specs.declared.entry.Entry.{Entry}
use Rattle.port_session.specs.Answering.{Sides, sides, Going, LastFails, AnsweredBy, Ended, Turn}
use Rattle.port_session.specs.Reading.{InletReads, Halts}
use Rattle.port_session.specs.Serving.{Call, Serves, Fails, Exchanged}
use Rattle.port_session.specs.declared.end.End.{End}
use Rattle.port_session.specs.declared.end.End.TheVariants.{Closed, Truncated, BadMessage, ReadFault, WriteFault, Budget, Stale, Unasked, Stopped, NoMemory}
use Rattle.port_session.specs.declared.inlet.Inlet.{Inlet}
use Rattle.port_session.specs.declared.port.Port.{Port}
use Rattle.port_session.proofs.Readings.{begun, rose_from}
use Rattle.port_session.proofs.Servings.{gains_none, gains_more, appends_none, appends_more, serves_more}

fails_from : (p : Port) (on : Bool) (e : Envelope) (calls : List Call) (out : List ℕ) (a b c : ℕ) (end : End) → a ≤ b → Fails p on e calls out b c end → Fails p on e calls out a c end
fails_from p on e calls out a b c WriteFault le x = (rose_from a b c le x.0, x.1)
fails_from p on e calls out a b c Stale le x = x
fails_from p on e calls out a b c Unasked le x = x
fails_from p on e calls out a b c NoMemory le x = x
fails_from p on e calls out a b c Closed le x = absurd x
fails_from p on e calls out a b c (Truncated k) le x = absurd x
fails_from p on e calls out a b c (BadMessage k d) le x = absurd x
fails_from p on e calls out a b c ReadFault le x = absurd x
fails_from p on e calls out a b c Budget le x = absurd x
fails_from p on e calls out a b c Stopped le x = absurd x

all_served : (p : Port) (was now : Sides) (budget : ℕ) (served : List Envelope) (calls : List Call) (out : List ℕ) (on : Bool) (end : End) → Serves p false served calls out on
    → Halts was.left was.source_faults now.left now.source_faults budget served end → AnsweredBy p was now budget served calls out end
all_served p was now budget served calls out on Closed s h = record { on = on; serves = s; halts = h }
all_served p was now budget served calls out on (Truncated n) s h = record { on = on; serves = s; halts = h }
all_served p was now budget served calls out on (BadMessage n c) s h = record { on = on; serves = s; halts = h }
all_served p was now budget served calls out on ReadFault s h = record { on = on; serves = s; halts = h }
all_served p was now budget served calls out on Budget s h = record { on = on; serves = s; halts = h }
all_served p was now budget served calls out on NoMemory s h = inl (record { on = on; serves = s; halts = h })
all_served p was now budget served calls out on WriteFault s h = absurd h.ceased
all_served p was now budget served calls out on Stale s h = absurd h.ceased
all_served p was now budget served calls out on Unasked s h = absurd h.ceased
all_served p was now budget served calls out on Stopped s h = absurd h.ceased

one_fails : (p : Port) (was now : Sides) (budget : ℕ) (served : List Envelope) (calls : List Call) (out : List ℕ) (end : End) → Halts was.left was.source_faults now.left now.source_faults budget served NoMemory
    → LastFails p served calls out was.sink_faults now.sink_faults end → AnsweredBy p was now budget served calls out end
one_fails p was now budget served calls out WriteFault h l = record { halts = h; last = l }
one_fails p was now budget served calls out Stale h l = record { halts = h; last = l }
one_fails p was now budget served calls out Unasked h l = record { halts = h; last = l }
one_fails p was now budget served calls out NoMemory h l = inr (record { halts = h; last = l })
one_fails p was now budget served calls out Closed h l = absurd l.fails
one_fails p was now budget served calls out (Truncated n) h l = absurd l.fails
one_fails p was now budget served calls out (BadMessage n c) h l = absurd l.fails
one_fails p was now budget served calls out ReadFault h l = absurd l.fails
one_fails p was now budget served calls out Budget h l = absurd l.fails
one_fails p was now budget served calls out Stopped h l = absurd l.fails

module _ {M : Type 0} (steps : M → PortEvent → PortAnswer → M → Type 0) (refused : M → M → Type 0) (decks_left : M → ℕ) (start : M) (by : ℕ) (seen : List (Entry PortEvent PortAnswer)) (p : Port) (was : Sides) where
  -- a read that gave no message
  pub read_on : (here : List (Entry PortEvent PortAnswer)) (a : Sides) (l : Option (List ℕ)) (f : ℕ) (inlet inlet' : Inlet) (on : Bool) (g : Going steps refused decks_left start by seen here p was a inlet on) → InletReads was.left was.source_faults l f inlet' g.served
      → Going steps refused decks_left start by seen here p was (sides l f a.written a.sink_faults) inlet' on
  read_on here a l f inlet inlet' on g r = record { served = g.served; calls = g.calls; out = g.out; reads = r; gained = g.gained; wrote = g.wrote; serves = g.serves; rises = g.rises }

  pub read_out : (here : List (Entry PortEvent PortAnswer)) (a : Sides) (l : Option (List ℕ)) (f : ℕ) (inlet : Inlet) (budget : ℕ) (on : Bool) (end : End) (g : Going steps refused decks_left start by seen here p was a inlet on) → Halts was.left was.source_faults l f budget g.served end
      → Ended steps refused decks_left start by seen here p budget was (sides l f a.written a.sink_faults) end
  read_out here a l f inlet budget on end g h = let now : Sides = sides l f a.written a.sink_faults in record {
    served = g.served;
    calls = g.calls;
    out = g.out;
    gained = g.gained;
    wrote = g.wrote;
    source_rises = h.rises;
    sink_rises = g.rises;
    how = all_served p was now budget g.served g.calls g.out on end g.serves h;
  }

  pub served_on : (here later : List (Entry PortEvent PortAnswer)) (a b : Sides) (inlet inlet' : Inlet) (on : Bool) (e : Envelope) (result : Result Bool End) (g : Going steps refused decks_left start by seen here p was a inlet on)
      → InletReads was.left was.source_faults b.left b.source_faults inlet' (g.served ++ e ∷ [])
      → Exchanged steps refused decks_left start by here later a.written a.sink_faults b.written b.sink_faults p on e result → a.sink_faults ≤ b.sink_faults → Turn steps refused decks_left start by seen later p was b inlet' result
  served_on here later a b inlet inlet' on e (Ok next) g r x le = record {
    served = g.served ++ e ∷ [];
    calls = g.calls ++ x.calls;
    out = g.out ++ x.out;
    reads = r;
    gained = gains_more steps refused decks_left start by by seen here later g.calls x.calls refl g.gained x.gained;
    wrote = appends_more was.written a.written b.written g.out x.out g.wrote x.wrote;
    serves = serves_more p false on next g.served e g.calls x.calls g.out x.out g.serves x.served;
    rises = let r = g.rises in omega arith;
  }
  served_on here later a b inlet inlet' on e (Err end) g r x le = record {
    served = g.served ++ e ∷ [];
    calls = g.calls ++ x.calls;
    out = g.out ++ x.out;
    gained = gains_more steps refused decks_left start by by seen here later g.calls x.calls refl g.gained x.gained;
    wrote = appends_more was.written a.written b.written g.out x.out g.wrote x.wrote;
    source_rises = r.rises;
    sink_rises = let r = g.rises in omega arith;
    how = one_fails p was b inlet'.budget (g.served ++ e ∷ []) (g.calls ++ x.calls) (g.out ++ x.out) end (begun was.left was.source_faults b.left b.source_faults inlet'.decoder inlet'.rejection inlet'.count inlet'.budget (g.served ++ e ∷ []) r) (record {
      before = g.served;
      last = e;
      first_calls = g.calls;
      last_calls = x.calls;
      first_out = g.out;
      last_out = x.out;
      on = on;
      messages = refl;
      serves = g.serves;
      fails = fails_from p on e x.calls x.out was.sink_faults a.sink_faults b.sink_faults end g.rises x.served;
      calls_are = refl;
      out_is = refl;
    });
  }

  pub going_none : (inlet : Inlet) → InletReads was.left was.source_faults was.left was.source_faults inlet [] → Going steps refused decks_left start by seen seen p was was inlet false
  going_none inlet r = record { served = []; calls = []; out = []; reads = r; gained = gains_none steps refused decks_left start by seen; wrote = appends_none was.written; serves = (refl, refl, refl); rises = omega arith }

  pub ended_within : (later : List (Entry PortEvent PortAnswer)) (n m : ℕ) (now : Sides) (end : End) → n ≡ m → Ended steps refused decks_left start by seen later p n was now end → Ended steps refused decks_left start by seen later p m was now end
  ended_within later n m now end e h = subst (λ (k : ℕ). Ended steps refused decks_left start by seen later p k was now end) e h
