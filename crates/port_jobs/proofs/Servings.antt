-- What an accepted connection came to, by what was looked at before.
use Rattle.std.proofs.Common.{◌≡◌, ℕ, ◌≤◌, ◌⊎◌, inl, inr, List, Option, Some, None, refl, sym, ap, subst, arith}
use Rattle.mos_fields.specs.Characters.{Text}
use Rattle.mos_io.specs.Bytes.{Takes}
use Rattle.mos_io.specs.Counts.{Rose}
use Rattle.mos_lexer.specs.Units.{Found as FoundOf}
use Rattle.mos_values.specs.declared.message.Envelope.{Envelope}
use Rattle.port_events.specs.declared.answer.PortAnswer.{PortAnswer}
use Rattle.port_events.specs.declared.event.PortEvent.{PortEvent}
use Rattle.port_fronts.specs.Fronts.{before}
use Rattle.port_session.specs.Answering.{Accepted, AllServed, AnsweredBy, OneFails, Sides, sides}
use Rattle.port_session.specs.Reading.{Ceased, Halts}
use Rattle.port_session.specs.Serving.{Call}
use Rattle.port_session.specs.declared.end.End.{End}
use Rattle.port_session.specs.declared.end.End.TheVariants.{Closed, Truncated, BadMessage, ReadFault, WriteFault, Budget, Stale, Unasked, Stopped, NoMemory}
use Rattle.port_session.specs.declared.port.Port.{Port}
use Rattle.port_session.proofs.Readings.{rose_from}
use Rattle.shared_machine.specs.declared.entry.Entry.{Entry}
use Rattle.port_looking.specs.Looking.{Looks}
use Rattle.port_jobs.specs.Ports.{at_device}
use Rattle.port_jobs.specs.Reports.{AtKnown, AtUnnamed, IsServed, NotFound}

-- ---- a count of faults that rose before

ceased_since : (l : Option (List ℕ)) (f0 f f' budget : ℕ) (read : List ℕ) (found : List FoundOf) (end : End) → f0 ≤ f → Ceased l f f' budget read found end → Ceased l f0 f' budget read found end
ceased_since l f0 f f' budget read found Closed le x = x
ceased_since l f0 f f' budget read found (Truncated n) le x = x
ceased_since l f0 f f' budget read found (BadMessage n k) le x = x
ceased_since l f0 f f' budget read found ReadFault le x = (rose_from f0 f f' le x.0, x.1, x.2)
ceased_since l f0 f f' budget read found WriteFault le x = x
ceased_since l f0 f f' budget read found Budget le x = x
ceased_since l f0 f f' budget read found Stale le x = x
ceased_since l f0 f f' budget read found Unasked le x = x
ceased_since l f0 f f' budget read found Stopped le x = x
ceased_since l f0 f f' budget read found NoMemory le x = x

halts_since : (l l' : Option (List ℕ)) (f0 f f' budget : ℕ) (given : List Envelope) (end : End) → f0 ≤ f → Halts l f l' f' budget given end → Halts l f0 l' f' budget given end
halts_since l l' f0 f f' budget given end le h = record {
  read = h.read;
  found = h.found;
  took = h.took;
  rises = let r = h.rises in omega arith;
  carried = h.carried;
  whole = h.whole;
  within = h.within;
  ceased = ceased_since l' f0 f f' budget h.read h.found end le h.ceased;
}

module _ (p : Port) (l : Option (List ℕ)) (f0 f : ℕ) (k : Option (List ℕ)) (n : ℕ) (now : Sides) (budget : ℕ) (served : List Envelope) (calls : List Call) (out : List ℕ) (le : f0 ≤ f) where
  all_since : (end : End) → AllServed p (sides l f k n) now budget served calls out end → AllServed p (sides l f0 k n) now budget served calls out end
  all_since end a = record { on = a.on; serves = a.serves; halts = halts_since l now.left f0 f now.source_faults budget served end le a.halts }

  one_since : (end : End) → OneFails p (sides l f k n) now budget served calls out end → OneFails p (sides l f0 k n) now budget served calls out end
  one_since end a = record { halts = halts_since l now.left f0 f now.source_faults budget served NoMemory le a.halts; last = a.last }

  answered_since : (end : End) → AnsweredBy p (sides l f k n) now budget served calls out end → AnsweredBy p (sides l f0 k n) now budget served calls out end
  answered_since Closed a = all_since Closed a
  answered_since (Truncated m) a = all_since (Truncated m) a
  answered_since (BadMessage m c) a = all_since (BadMessage m c) a
  answered_since ReadFault a = all_since ReadFault a
  answered_since Budget a = all_since Budget a
  answered_since WriteFault a = one_since WriteFault a
  answered_since Stale a = one_since Stale a
  answered_since Unasked a = one_since Unasked a
  answered_since NoMemory (inl a) = inl (all_since NoMemory a)
  answered_since NoMemory (inr a) = inr (one_since NoMemory a)
  answered_since Stopped a = a

module _ {M : Type 0} (steps : M → PortEvent → PortAnswer → M → Type 0) (refused : M → M → Type 0) (decks_left : M → ℕ) (start : M) (by : ℕ) (seen later : List (Entry PortEvent PortAnswer)) where
  accepted_since : (p : Port) (budget : ℕ) (l : Option (List ℕ)) (f0 f : ℕ) (k : Option (List ℕ)) (n : ℕ) (now : Sides) (end : End) → f0 ≤ f
      → Accepted steps refused decks_left start by seen later p budget (sides l f k n) now end → Accepted steps refused decks_left start by seen later p budget (sides l f0 k n) now end
  accepted_since p budget l f0 f k n now end le a = record {
    served = a.served;
    calls = a.calls;
    last = a.last;
    out = a.out;
    gained = a.gained;
    ended = a.ended;
    wrote = a.wrote;
    source_rises = let r = a.source_rises in omega arith;
    sink_rises = a.sink_rises;
    why = a.why;
    how = answered_since p l f0 f k n now budget a.served a.calls a.out le a.why a.how;
    end_is = a.end_is;
  }

  module _ (p : Port) (names : List Text) (link budget : ℕ) (l l1 : Option (List ℕ)) (f f1 : ℕ) (k : Option (List ℕ)) (n : ℕ) (now : Sides) (found : Option ℕ) (end : End) where
    -- a device was found
    pub served_found : (device : ℕ) (read : List ℕ) → Takes l l1 read → before read l1 ≡ l → f ≤ f1 → Looks names l1 budget read device
        → AtKnown steps refused decks_left start by seen later p names device link budget (sides (before read l1) f1 k n) now found end ⊎ AtUnnamed seen later (sides l1 f1 k n) now found end
        → IsServed steps refused decks_left start by seen later p (Some names) link budget (sides l f k n) now found end
    served_found device read t e le looks (inl a) = inl (record {
      device = device;
      found_is = a.found_is;
      mos = a.mos;
      read = read;
      left = l1;
      kept = a.kept;
      took = t;
      looks = looks;
      named = a.named;
      accepted = accepted_since (at_device p link device a.mos) budget l f f1 k n (sides (before a.kept now.left) now.source_faults now.written now.sink_faults) end le
          (subst (λ (x : Option (List ℕ)). Accepted steps refused decks_left start by seen later (at_device p link device a.mos) budget (sides x f1 k n) (sides (before a.kept now.left) now.source_faults now.written now.sink_faults) end) e a.accepted);
    })
    served_found device read t e le looks (inr a) = inr (record {
      found_is = a.found_is;
      read = read;
      took = subst (λ (x : Option (List ℕ)). Takes l x read) (sym (ap (λ (s : Sides). s.left) a.same)) t;
      rises = let same : now.source_faults ≡ f1 = ap (λ (s : Sides). s.source_faults) a.same in omega arith;
      unseen = a.unseen;
      unwritten = ap (λ (s : Sides). s.written) a.same;
      unfailed = ap (λ (s : Sides). s.sink_faults) a.same;
      cause = subst (λ (x : End). NotFound f now.source_faults x) (sym a.cause) tt;
    })

-- no device was found
module _ {M : Type 0} (steps : M → PortEvent → PortAnswer → M → Type 0) (refused : M → M → Type 0) (decks_left : M → ℕ) (start : M) (by : ℕ) (seen : List (Entry PortEvent PortAnswer)) (p : Port) (names : List Text) (link budget : ℕ) (l l1 : Option (List ℕ)) (f f1 : ℕ) (k : Option (List ℕ)) (n : ℕ) (took : (read : List ℕ) × Takes l l1 read) (le : f ≤ f1) where
  pub served_failed : Rose f f1 → IsServed steps refused decks_left start by seen seen p (Some names) link budget (sides l f k n) (sides l1 f1 k n) None ReadFault
  served_failed rose = inr (record { found_is = refl; read = took.0; took = took.1; rises = le; unseen = refl; unwritten = refl; unfailed = refl; cause = rose })

  pub served_starved : IsServed steps refused decks_left start by seen seen p (Some names) link budget (sides l f k n) (sides l1 f1 k n) None NoMemory
  served_starved = inr (record { found_is = refl; read = took.0; took = took.1; rises = le; unseen = refl; unwritten = refl; unfailed = refl; cause = tt })
