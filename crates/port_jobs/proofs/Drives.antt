-- A worker that dials keeps its clock's time.
use Rattle.std.proofs.Common.{◌≡◌, ℕ, Bool, List, [], ◌∷◌, ◌++◌, Option, sym, ap, ◌∙◌, subst}
use Rattle.mos_fields.specs.declared.time.MosTime.{MosTime}
use Rattle.mos_io.specs.declared.pacer.Pace.{Pace}
use Rattle.port_dialing.specs.Dialing.{Dialed, Dials, Driven, Tries, Try, Worker, dropped, drove, missed, stopped, worker}
use Rattle.port_events.specs.declared.answer.PortAnswer.{PortAnswer}
use Rattle.port_events.specs.declared.event.PortEvent.{PortEvent}
use Rattle.port_session.specs.declared.end.End.{End}
use Rattle.port_session.specs.declared.end.End.TheVariants.{Stopped}
use Rattle.port_session.specs.declared.port.Port.{Port}
use Rattle.shared_machine.specs.declared.entry.Entry.{Entry}

module _ {M : Type 0} (steps : M → PortEvent → PortAnswer → M → Type 0) (refused : M → M → Type 0) (decks_left : M → ℕ) (start : M) (by : ℕ) (p : Port) (budget : ℕ) where
  driven_time : (a b : Worker) (number : ℕ) (end : End) → Driven steps refused decks_left start by p budget a b number end → b.time ≡ a.time
  driven_time a b number end d = sym d.time_last ∙ (d.opened.time ∙ d.time_first)

  tries_time : (a b : Worker) (x : Try) → Tries steps refused decks_left start by p budget a b x → b.time ≡ a.time
  tries_time a b (missed pace) t = t.time
  tries_time a b (dropped number pace) t = t.time
  tries_time a b (drove number end pace) t = driven_time a (worker b.links b.dials t.paces t.stops b.time b.seen) number end t.driven
  tries_time a b (stopped number) t = driven_time a b number Stopped t

  dials_time : (a b : Worker) (xs : List Try) → Dials steps refused decks_left start by p budget a b xs → b.time ≡ a.time
  dials_time a b [] e = ap (λ (w : Worker). w.time) e
  dials_time a b (x ∷ xs) d = dials_time d.0 b xs d.2 ∙ tries_time a d.0 x d.1

  pub dialed_still : (a : Worker) (links : Option (List ℕ)) (dials : ℕ) (paces : Option (List Pace)) (stops : ℕ) (time : Option MosTime) (seen : List (Entry PortEvent PortAnswer)) (starved : Bool)
      → Dialed steps refused decks_left start by p budget a (worker links dials paces stops time seen) starved → Dialed steps refused decks_left start by p budget a (worker links dials paces stops a.time seen) starved
  dialed_still a links dials paces stops time seen starved d =
      subst (λ (t : Option MosTime). Dialed steps refused decks_left start by p budget a (worker links dials paces stops t seen) starved) (dials_time a (worker links dials paces stops time seen) (d.firsts ++ d.last ∷ []) d.dials) d
