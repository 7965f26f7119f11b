-- A worker that dials goes on, and ends.
use Rattle.std.proofs.Common.{◌≡◌, ℕ, ◌≤◌, ◌⊎◌, inl, inr, Bool, true, false, ◌||◌, List, [], ◌∷◌, ◌++◌, Option, Some, None, refl, sym, ap, ◌∙◌, subst, append_assoc, append-nil, arith}
use Rattle.std.specs.List.{AllByRecursion}
use Rattle.mos_fields.specs.declared.time.MosTime.{MosTime}
use Rattle.mos_io.specs.Counts.{Rose}
use Rattle.mos_io.specs.Paces.{StopsBy}
use Rattle.mos_io.specs.declared.pacer.Pace.{Pace}
use Rattle.mos_io.specs.declared.pacer.Pace.TheVariants.{Again, Beat, Stop}
use Rattle.port_events.specs.declared.answer.PortAnswer.{PortAnswer}
use Rattle.port_events.specs.declared.event.PortEvent.{PortEvent}
use Rattle.port_events.specs.declared.event.What.TheVariants.{EndedOut}
use Rattle.port_links.specs.Links.{Gives}
use Rattle.port_session.specs.Calls.{Gained}
use Rattle.port_session.specs.Driven.{DrivenBy, EndsOut, Opened, Reach}
use Rattle.port_session.specs.Driving.{Act, Drives, calls_of}
use Rattle.port_session.specs.Events.{event}
use Rattle.port_session.specs.declared.end.End.{End}
use Rattle.port_session.specs.declared.end.End.TheVariants.{Closed, Truncated, BadMessage, ReadFault, WriteFault, Budget, Stale, Unasked, Stopped, NoMemory}
use Rattle.port_session.specs.declared.port.Port.{Port}
use Rattle.port_session.specs.declared.stage.Stage.{Stage}
use Rattle.port_session.specs.declared.stage.Stage.TheVariants.{Begins}
use Rattle.port_session.proofs.Readings.{rose_from}
use Rattle.port_session.proofs.Servings.{gains_more, gains_none}
use Rattle.shared_machine.specs.declared.entry.Entry.{Entry}
use Rattle.port_dialing.specs.Dialing.{AllOpened, Dialed, Dials, Driven, OneOpened, Tries, Try, Worker, any_starved, dropped, drove, is_last, is_no_memory, is_starved, is_stop, is_stopped, missed, numbers, stopped, worker}
use Rattle.port_dialing.specs.Ports.{at_link}

apart : false ≡ true → ⊥
apart e = cc

-- ---- numbers of connections

gave_none : (a : Option (List ℕ)) → Gives a a []
gave_none None = refl
gave_none (Some l) = ap Some (sym (append-nil l))

gave_more : (a b c : Option (List ℕ)) (x y : List ℕ) → Gives a b x → Gives b c y → Gives a c (x ++ y)
gave_more None b c x y e g = subst (λ (o : Option (List ℕ)). Gives o c y) e g
gave_more (Some l) b c x y e g = let h : Gives (Some (l ++ x)) c y = subst (λ (o : Option (List ℕ)). Gives o c y) e g in h ∙ ap Some (append_assoc l x y)

gave_same : (a b : Option (List ℕ)) → b ≡ a → Gives a b []
gave_same a b e = subst (λ (o : Option (List ℕ)). Gives a o []) (sym e) (gave_none a)

numbers_more : (xs ys : List Try) → numbers (xs ++ ys) ≡ numbers xs ++ numbers ys
numbers_more [] ys = refl
numbers_more (missed pace ∷ xs) ys = numbers_more xs ys
numbers_more (dropped number pace ∷ xs) ys = ap (λ (l : List ℕ). number ∷ l) (numbers_more xs ys)
numbers_more (drove number end pace ∷ xs) ys = ap (λ (l : List ℕ). number ∷ l) (numbers_more xs ys)
numbers_more (stopped number ∷ xs) ys = ap (λ (l : List ℕ). number ∷ l) (numbers_more xs ys)

-- ---- counts

rose_on : (a b c : ℕ) → Rose a b → b ≤ c → Rose a c
rose_on a b c (inl lt) le = inl (omega arith)
rose_on a b c (inr m) le = inr (omega arith)

stop_rose : (pace : Pace) (n m : ℕ) → is_stop pace ≡ true → StopsBy pace n m → Rose n m
stop_rose Stop n m e s = s
stop_rose Again n m e s = absurd (apart e)
stop_rose Beat n m e s = absurd (apart e)

-- ---- lists of events

all_join : (p : Port) (t : Option MosTime) (ns ms : List ℕ) (x y : List (PortEvent × PortAnswer)) → AllOpened p t ns x → AllOpened p t ms y → AllOpened p t (ns ++ ms) (x ++ y)
all_join p t [] ms x y e o = subst (λ (l : List (PortEvent × PortAnswer)). AllOpened p t ms l) (ap (λ (l : List (PortEvent × PortAnswer)). l ++ y) (sym e)) o
all_join p t (n ∷ ns) ms x y s o = (s.0, s.1 ++ y, s.2, all_join p t ns ms s.1 y s.3 o, ap (λ (l : List (PortEvent × PortAnswer)). l ++ y) s.4 ∙ append_assoc s.0 s.1 y)

no_memory : (end : End) → end ≡ NoMemory → is_no_memory end ≡ true
no_memory end e = ap is_no_memory e

ended_whole : (q : Port) (last : List (PortEvent × PortAnswer)) (end : End) → is_no_memory end ≡ false → EndsOut q last end → (a : PortAnswer) × (last ≡ (event q EndedOut, a) ∷ [])
ended_whole q last end ne (inl x) = x
ended_whole q last end ne (inr x) = absurd (apart (sym ne ∙ no_memory end x.1))

one_opened : (q : Port) (t u : Option MosTime) (acts : List Act) (stage : Stage) (number : ℕ) (last : List (PortEvent × PortAnswer)) (end : End) → t ≡ u → Drives q t Begins 0 acts stage number → is_no_memory end ≡ false → EndsOut q last end → OneOpened q u (calls_of acts ++ last)
one_opened q t u acts stage number last end e d ne h = let w = ended_whole q last end ne h in
    (acts, stage, number, w.0, subst (λ (z : Option MosTime). Drives q z Begins 0 acts stage number) e d, ap (λ (l : List (PortEvent × PortAnswer)). calls_of acts ++ l) w.1)

-- a connection that the pacer stopped
stopped_by : (q : Port) (budget : ℕ) (a b : Reach) (acts : List Act) (stage : Stage) (number : ℕ) (why : End) (P : Type 0) → DrivenBy q a b budget acts stage number why → (Stopped ≡ why) ⊎ ((Stopped ≡ NoMemory) × P) → Rose a.stops b.stops
stopped_by q budget a b acts stage number why P h (inl w) = let k : DrivenBy q a b budget acts stage number Stopped = subst (λ (z : End). DrivenBy q a b budget acts stage number z) (sym w) h in k.2
stopped_by q budget a b acts stage number why P h (inr w) = absurd (apart (ap is_no_memory w.0))

-- ---- what dials add

-- what is known of some dials, whatever they were: `starved` says that memory was wanting
pub record Added {M : Type 0} (steps : M → PortEvent → PortAnswer → M → Type 0) (refused : M → M → Type 0) (decks_left : M → ℕ) (start : M) (by : ℕ) (p : Port) (was now : Worker) (ns : List ℕ) (starved : Bool) : Type 0 where
  pub gave : Gives was.links now.links ns
  pub dials_rise : was.dials ≤ now.dials
  pub stops_rise : was.stops ≤ now.stops
  pub time : now.time ≡ was.time
  pub calls : List (PortEvent × PortAnswer)
  pub gained : Gained steps refused decks_left start by was.seen now.seen calls
  pub opened : starved ≡ false → AllOpened p was.time ns calls

either_false : (a b : Bool) → (a || b) ≡ false → (a ≡ false) × (b ≡ false)
either_false false b e = (refl, e)
either_false true b e = absurd (apart (sym e))

module _ {M : Type 0} (steps : M → PortEvent → PortAnswer → M → Type 0) (refused : M → M → Type 0) (decks_left : M → ℕ) (start : M) (by : ℕ) (p : Port) (budget : ℕ) where
  added_none : (a : Worker) → Added steps refused decks_left start by p a a [] false
  added_none a = record { gave = gave_none a.links; dials_rise = omega arith; stops_rise = omega arith; time = refl; calls = []; gained = gains_none steps refused decks_left start by a.seen; opened = λ e. refl }

  added_more : (a b c : Worker) (ns ms : List ℕ) (x y : Bool) → Added steps refused decks_left start by p a b ns x → Added steps refused decks_left start by p b c ms y → Added steps refused decks_left start by p a c (ns ++ ms) (x || y)
  added_more a b c ns ms x y s t = record {
    gave = gave_more a.links b.links c.links ns ms s.gave t.gave;
    dials_rise = let u = s.dials_rise in let v = t.dials_rise in omega arith;
    stops_rise = let u = s.stops_rise in let v = t.stops_rise in omega arith;
    time = t.time ∙ s.time;
    calls = s.calls ++ t.calls;
    gained = gains_more steps refused decks_left start by by a.seen b.seen c.seen s.calls t.calls refl s.gained t.gained;
    opened = λ e. let both = either_false x y e in all_join p a.time ns ms s.calls t.calls (s.opened both.0) (subst (λ (z : Option MosTime). AllOpened p z ms t.calls) s.time (t.opened both.1));
  }

  -- no connection was driven
  added_unseen : (a b : Worker) (ns : List ℕ) (starved : Bool) → Gives a.links b.links ns → a.dials ≤ b.dials → a.stops ≤ b.stops → b.time ≡ a.time → b.seen ≡ a.seen → (starved ≡ false → AllOpened p a.time ns []) → Added steps refused decks_left start by p a b ns starved
  added_unseen a b ns starved g d r t s o = record {
    gave = g;
    dials_rise = d;
    stops_rise = r;
    time = t;
    calls = [];
    gained = subst (λ (seen : List (Entry PortEvent PortAnswer)). Gained steps refused decks_left start by a.seen seen []) (sym s) (gains_none steps refused decks_left start by a.seen);
    opened = o;
  }

  stops_of : (a b : Worker) (number : ℕ) (end : End) → (d : Driven steps refused decks_left start by p budget a b number end) → a.stops ≤ b.stops
  stops_of a b number end d = let o = d.opened.stops_rise in let x = d.stops_first in let y = d.stops_last in omega arith

  added_driven : (a b c : Worker) (number : ℕ) (end : End) → Driven steps refused decks_left start by p budget a b number end → c.links ≡ b.links → c.dials ≡ b.dials → b.stops ≤ c.stops → c.time ≡ b.time → c.seen ≡ b.seen
      → Added steps refused decks_left start by p a c (number ∷ []) (is_no_memory end)
  added_driven a b c number end d el ed rs et es = record {
    gave = subst (λ (o : Option (List ℕ)). Gives a.links o (number ∷ [])) (sym el) d.links;
    dials_rise = let x = d.dials_rise in omega arith;
    stops_rise = let x = stops_of a b number end d in omega arith;
    time = et ∙ (sym d.time_last ∙ (d.opened.time ∙ d.time_first));
    calls = calls_of d.opened.acts ++ d.opened.last;
    gained = subst (λ (seen : List (Entry PortEvent PortAnswer)). Gained steps refused decks_left start by a.seen seen (calls_of d.opened.acts ++ d.opened.last)) (sym es) d.opened.gained;
    opened = λ e. (calls_of d.opened.acts ++ d.opened.last, [], one_opened (at_link p number) d.first.time a.time d.opened.acts d.opened.stage d.opened.number d.opened.last end d.time_first d.opened.drives e d.opened.ended, refl, sym (append-nil (calls_of d.opened.acts ++ d.opened.last)));
  }

  added_one : (a b : Worker) (x : Try) → Tries steps refused decks_left start by p budget a b x → Added steps refused decks_left start by p a b (numbers (x ∷ [])) (is_starved x)
  added_one a b (missed pace) t = added_unseen a b [] false (gave_same a.links b.links t.links) t.dials_rise t.stops_rise t.time t.seen (λ e. refl)
  added_one a b (dropped number pace) t = added_unseen a b (number ∷ []) true t.links t.dials_rise t.stops_rise t.time t.seen (λ e. absurd (apart (sym e)))
  added_one a b (drove number end pace) t = added_driven a (worker b.links b.dials t.paces t.stops b.time b.seen) b number end t.driven refl refl t.stops_rise refl refl
  added_one a b (stopped number) t = added_driven a b b number Stopped t refl refl (omega arith) refl refl

  added_all : (a b : Worker) (xs : List Try) → Dials steps refused decks_left start by p budget a b xs → Added steps refused decks_left start by p a b (numbers xs) (any_starved xs)
  added_all a b [] e = subst (λ (w : Worker). Added steps refused decks_left start by p a w [] false) (sym e) (added_none a)
  added_all a b (x ∷ xs) d =
      subst (λ (ns : List ℕ). Added steps refused decks_left start by p a b ns (is_starved x || any_starved xs)) (sym (numbers_more (x ∷ []) xs))
      (added_more a d.0 b (numbers (x ∷ [])) (numbers xs) (is_starved x) (any_starved xs) (added_one a d.0 x d.1) (added_all d.0 b xs d.2))

  -- ---- one more

  pub dials_none : (a : Worker) → Dials steps refused decks_left start by p budget a a []
  dials_none a = refl

  pub dials_more : (a b c : Worker) (xs : List Try) (x : Try) → Dials steps refused decks_left start by p budget a b xs → Tries steps refused decks_left start by p budget b c x → Dials steps refused decks_left start by p budget a c (xs ++ x ∷ [])
  dials_more a b c [] x e t = (c, subst (λ (w : Worker). Tries steps refused decks_left start by p budget w c x) e t, refl)
  dials_more a b c (y ∷ ys) x d t = (d.0, d.1, dials_more d.0 b c ys x d.2 t)

  rose_dialed : (a b : Worker) (x : Try) → Tries steps refused decks_left start by p budget a b x → Rose a.dials b.dials
  rose_dialed a b (missed pace) t = t.dialed
  rose_dialed a b (dropped number pace) t = t.dialed
  rose_dialed a b (drove number end pace) t = t.driven.dialed
  rose_dialed a b (stopped number) t = t.dialed

  stopped_rose : (a b : Worker) (number : ℕ) → Driven steps refused decks_left start by p budget a b number Stopped → Rose a.stops b.stops
  stopped_rose a b number d =
      let r : Rose d.first.stops d.last.stops = stopped_by (at_link p number) budget d.first d.last d.opened.acts d.opened.stage d.opened.number d.opened.why (d.opened.last ≡ []) d.opened.how d.opened.end_is in
      subst (λ (n : ℕ). Rose n b.stops) d.stops_first (subst (λ (m : ℕ). Rose d.first.stops m) d.stops_last r)

  rose_stopped : (a b : Worker) (x : Try) → Tries steps refused decks_left start by p budget a b x → is_last x ≡ true → Rose a.stops b.stops
  rose_stopped a b (missed pace) t e = stop_rose pace a.stops b.stops e t.stopped
  rose_stopped a b (dropped number pace) t e = stop_rose pace a.stops b.stops e t.stopped
  rose_stopped a b (drove number end pace) t e = rose_from a.stops t.stops b.stops (stops_of a (worker b.links b.dials t.paces t.stops b.time b.seen) number end t.driven) (stop_rose pace t.stops b.stops e t.stopped)
  rose_stopped a b (stopped number) t e = stopped_rose a b number t

  pub dialed_all : (a b c : Worker) (xs : List Try) (x : Try) (starved : Bool) → Dials steps refused decks_left start by p budget a b xs → Tries steps refused decks_left start by p budget b c x
      → AllByRecursion (λ (y : Try). is_last y ≡ false) xs → is_last x ≡ true → starved ≡ any_starved (xs ++ x ∷ []) → Dialed steps refused decks_left start by p budget a c starved
  dialed_all a b c xs x starved d t goes e s =
      let front = added_all a b xs d in
      let whole = added_all a c (xs ++ x ∷ []) (dials_more a b c xs x d t) in record {
        firsts = xs;
        last = x;
        dials = dials_more a b c xs x d t;
        goes_on = goes;
        ends = e;
        starves = s;
        dialed = rose_from a.dials b.dials c.dials front.dials_rise (rose_dialed b c x t);
        stopped = rose_from a.stops b.stops c.stops front.stops_rise (rose_stopped b c x t e);
        given = whole.gave;
        calls = whole.calls;
        gained = whole.gained;
        opened = λ z. whole.opened (sym s ∙ z);
      }

-- ---- one dial

pub is_stopped_is : (end : End) → is_stopped end ≡ true → end ≡ Stopped
is_stopped_is Stopped e = refl
is_stopped_is NoMemory e = absurd (apart e)
is_stopped_is Closed e = absurd (apart e)
is_stopped_is (Truncated k) e = absurd (apart e)
is_stopped_is (BadMessage k c) e = absurd (apart e)
is_stopped_is ReadFault e = absurd (apart e)
is_stopped_is WriteFault e = absurd (apart e)
is_stopped_is Budget e = absurd (apart e)
is_stopped_is Stale e = absurd (apart e)
is_stopped_is Unasked e = absurd (apart e)

pub driven_once : {M : Type 0} (steps : M → PortEvent → PortAnswer → M → Type 0) (refused : M → M → Type 0) (decks_left : M → ℕ) (start : M) (by : ℕ) (p : Port) (budget : ℕ) (a b : Worker) (number : ℕ) (here : Port) (was end : End) (x y : Reach)
    → here ≡ at_link p number → was ≡ end → Gives a.links b.links (number ∷ []) → Rose a.dials b.dials → a.dials ≤ b.dials
    → Opened steps refused decks_left start by a.seen b.seen here budget x y was
    → x.paces ≡ a.paces → y.paces ≡ b.paces → x.stops ≡ a.stops → y.stops ≡ b.stops → x.time ≡ a.time → y.time ≡ b.time
    → Driven steps refused decks_left start by p budget a b number end
driven_once steps refused decks_left start by p budget a b number here was end x y eh ee g r le o px py sx sy tx ty = record {
  links = g;
  dialed = r;
  dials_rise = le;
  first = x;
  last = y;
  opened = subst (λ (z : End). Opened steps refused decks_left start by a.seen b.seen (at_link p number) budget x y z) ee (subst (λ (q : Port). Opened steps refused decks_left start by a.seen b.seen q budget x y was) eh o);
  paces_first = px;
  paces_last = py;
  stops_first = sx;
  stops_last = sy;
  time_first = tx;
  time_last = ty;
}

-- ---- the loop

pub starved_more : (xs : List Try) (x : Try) → any_starved (xs ++ x ∷ []) ≡ (any_starved xs || is_starved x)
starved_more [] x = or_false (is_starved x) where
  or_false : (b : Bool) → (b || false) ≡ b
  or_false false = refl
  or_false true = refl
starved_more (y ∷ ys) x = ap (λ (b : Bool). is_starved y || b) (starved_more ys x) ∙ or_assoc (is_starved y) (any_starved ys) (is_starved x) where
  or_assoc : (a b c : Bool) → (a || (b || c)) ≡ ((a || b) || c)
  or_assoc false b c = refl
  or_assoc true b c = refl

pub starves_on : (xs : List Try) (x : Try) (was next now : Bool) → was ≡ any_starved xs → next ≡ is_starved x → now ≡ (was || next) → now ≡ any_starved (xs ++ x ∷ [])
starves_on xs x was next now e f g = g ∙ (ap (λ (b : Bool). b || next) e ∙ (ap (λ (b : Bool). any_starved xs || b) f ∙ sym (starved_more xs x)))

pub same_caller : {M : Type 0} (steps : M → PortEvent → PortAnswer → M → Type 0) (refused : M → M → Type 0) (decks_left : M → ℕ) (start : M) (by caller : ℕ) (p : Port) (budget : ℕ) (a b : Worker) (x : Try) → by ≡ caller
    → Tries steps refused decks_left start by p budget a b x → Tries steps refused decks_left start caller p budget a b x
same_caller steps refused decks_left start by caller p budget a b x e t = subst (λ (n : ℕ). Tries steps refused decks_left start n p budget a b x) e t

pub goes_more : (xs : List Try) (x : Try) → AllByRecursion (λ (y : Try). is_last y ≡ false) xs → is_last x ≡ false → AllByRecursion (λ (y : Try). is_last y ≡ false) (xs ++ x ∷ [])
goes_more [] x all e = (e, tt)
goes_more (y ∷ ys) x all e = (all.0, goes_more ys x all.1 e)
