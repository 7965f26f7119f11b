-- Each step of the table keeps its rule.
use Rattle.std.proofs.Common.{◌≡◌, ◌≢◌, ℕ, zero, suc, ◌+◌, ◌%◌, ◌^◌, ◌<◌, ◌≤◌, ◌⊎◌, inl, inr, ⊎_elim, List, [], ◌∷◌, ◌++◌, length, set, get_or, true, false, Bool, eqb, refl, sym, ap, ◌∙◌, subst, Some, None, le_refl, le_trans, append_assoc, append-nil, length-append, length-set, arith}
use Rattle.std.proofs.Math.Nat.{mod-eq_of_lt}
use Rattle.std.specs.Prelude.{Option}
use mathlib.Core.Logic.{dite}
use mathlib.Core.Option.{some, none, some-ne-none, some-injective}
use mathlib.Core.Option as maybe
use native.Mathlib.Decide.{ℕ_discrete}
use lib.ListN.{get_elem?}
use lib.Seq.{set-get_or}
use prog.Atomic.{either}
use Rattle.std.specs.declared.snapshot.Snapshot.{Snapshot}
use Rattle.atomic_table.specs.Table.{State, Me, Act, step, keeps, takes, gives, stepped, Allows, Splits, Joins, Valid, carried_after, opening, Final, Seen}
use Rattle.atomic_table.proofs.Lists.{at_set, set_else, set_here, set_again, at_longer, exchanged}
use Rattle.shared_machine.specs.declared.entry.Entry.{Entry}
use Rattle.shared_machine.specs.declared.turn_state.TurnState.{TurnState}
use Rattle.shared_machine.specs.declared.turn_state.TurnState.TheVariants.{Idle, Unnumbered, Waiting, HasTurn, HoldsMachine, Spent}
use Rattle.shared_machine.specs.declared.seat_view.SeatView.{SeatView}
use Rattle.shared_machine.specs.declared.slot_value.SlotValue.{SlotValue}
use Rattle.shared_machine.specs.History.{StartsWith, entry, calls_by, Reaches, IsLegal}
use Rattle.shared_machine.specs.Turns.{HasTicket, IsHoldingMachine, IsNumbered, FitsTurn, RuleHolds, opening_view, spent_view, with_turn, unnumbered_view, with_received, with_seen, ticket_of, ticket_taken, serving_seen, machine_taken, turn_passed, caller_numbered, history_adopted, AddsCall, count_raised, history_learned, ClosesWith}
use Rattle.shared_machine.proofs.Histories.{first_or, starts_all, starts_longer, starts_trans, shorter_begins, inside, at_end, calls_by-append, calls_by-mine, calls_by-else, none_before, own_between, reaches_refusal, reaches_step}

module _ {M E A : Type 0} where
  pub numbered_at : (start : M) (history : List (Entry E A)) (seat : ℕ) (v : SeatView M E A) (st : TurnState M) → IsNumbered start history seat v → IsNumbered start history seat (with_turn v st)
  numbered_at start history seat v st s = record { begins = s.begins; number = s.number; seen = s.seen; received = s.received; own = s.own }

  -- a seat without the turn fits still, where the history goes on with calls of others
  numbered_on : (start : M) (history history' : List (Entry E A)) (seat : ℕ) (v : SeatView M E A) → StartsWith history' history → calls_by seat history' ≡ calls_by seat history → IsNumbered start history seat v → IsNumbered start history' seat v
  numbered_on start history history' seat v more same s = record { begins = s.begins; number = s.number; seen = starts_trans history' history v.seen more s.seen; received = starts_trans history' history v.received more s.received; own = same ∙ s.own }

  fits_on : (start : M) (history history' : List (Entry E A)) (machine machine' : M) (ticket ticket' serving serving' : ℕ) (home home' : maybe.Option (SlotValue M E A)) (seat : ℕ) (v : SeatView M E A)
      → StartsWith history' history → calls_by seat history' ≡ calls_by seat history → ticket ≤ ticket' → ((t : ℕ) → serving ≤ t → t ≢ serving → serving' ≤ t) → (st : TurnState M) → (HasTicket st serving → ⊥)
      → FitsTurn start history machine ticket serving home seat v st → FitsTurn start history' machine' ticket' serving' home' seat v st
  fits_on start history history' machine machine' ticket ticket' serving serving' home home' seat v more same le up Idle not f = numbered_on start history history' seat v more same f
  fits_on start history history' machine machine' ticket ticket' serving serving' home home' seat v more same le up Unnumbered not f =
      record { begins = f.begins; other = f.other; seen = starts_trans history' history v.seen more f.seen; received = starts_trans history' history v.received more f.received; none_own = same ∙ f.none_own }
  fits_on start history history' machine machine' ticket ticket' serving serving' home home' seat v more same le up (Waiting t) not f =
      let a = f.1 in let b = f.2 in (numbered_on start history history' seat v more same f.0, up t f.1 not, omega arith)
  fits_on start history history' machine machine' ticket ticket' serving serving' home home' seat v more same le up (HasTurn t) not f = absurd (not f.1)
  fits_on start history history' machine machine' ticket ticket' serving serving' home home' seat v more same le up (HoldsMachine t m r) not f = absurd (not f.1)
  fits_on start history history' machine machine' ticket ticket' serving serving' home home' seat v more same le up Spent not f = tt

  fits_ticket : (start : M) (history : List (Entry E A)) (machine : M) (ticket ticket' serving : ℕ) (home : maybe.Option (SlotValue M E A)) (seat : ℕ) (v : SeatView M E A) → ticket ≤ ticket' → (st : TurnState M)
      → FitsTurn start history machine ticket serving home seat v st → FitsTurn start history machine ticket' serving home seat v st
  fits_ticket start history machine ticket ticket' serving home seat v le Idle f = f
  fits_ticket start history machine ticket ticket' serving home seat v le Unnumbered f = f
  fits_ticket start history machine ticket ticket' serving home seat v le (Waiting t) f = let b = f.2 in (f.0, f.1, omega arith)
  fits_ticket start history machine ticket ticket' serving home seat v le (HasTurn t) f = let b = f.2 in (f.0, f.1, omega arith, f.3)
  fits_ticket start history machine ticket ticket' serving home seat v le (HoldsMachine t m r) f = let b = f.2 in (f.0, f.1, omega arith, f.3, f.4, f.5)
  fits_ticket start history machine ticket ticket' serving home seat v le Spent f = tt

  below_ticket : (start : M) (history : List (Entry E A)) (machine : M) (ticket serving : ℕ) (home : maybe.Option (SlotValue M E A)) (seat : ℕ) (v : SeatView M E A) (st : TurnState M) (t : ℕ)
      → FitsTurn start history machine ticket serving home seat v st → HasTicket st t → t < ticket
  below_ticket start history machine ticket serving home seat v Idle t f h = absurd h
  below_ticket start history machine ticket serving home seat v Unnumbered t f h = absurd h
  below_ticket start history machine ticket serving home seat v (Waiting u) t f h = subst (λ (z : ℕ). z < ticket) h f.2
  below_ticket start history machine ticket serving home seat v (HasTurn u) t f h = subst (λ (z : ℕ). z < ticket) h f.2
  below_ticket start history machine ticket serving home seat v (HoldsMachine u m r) t f h = subst (λ (z : ℕ). z < ticket) h f.2
  below_ticket start history machine ticket serving home seat v Spent t f h = absurd h

  at_home_now : (h : maybe.Option (SlotValue M E A)) → (h ≡ none → ⊥) → (b : SlotValue M E A) × (h ≡ some b)
  at_home_now none not = absurd (not refl)
  at_home_now (some b) not = (b, refl)

module _ {M E A : Type 0} (steps : M → E → A → M → Type 0) (refusal : M → M → Type 0) (decks_left : M → ℕ) (start : M) where
  abbrev V : Type 0
  V = SeatView M E A

  abbrev B : Type 0
  B = SlotValue M E A

  abbrev H : Type 0
  H = maybe.Option (SlotValue M E A)

  abbrev L : Type 0
  L = List (Entry E A)

  abbrev St : Type 0
  St = State (SlotValue M E A) (SeatView M E A)

  abbrev Mi : Type 0
  Mi = Me (SlotValue M E A) (SeatView M E A)

  abbrev K : St → Type 0
  K s = RuleHolds steps refusal decks_left start s

  rebuilt : (s : St) (k : K s) (id : ℕ) (v w : V) → get_elem? s.views id ≡ some v → (history' : L) (machine' : M) (ticket' serving' : ℕ) (home' : H) (words' : List ℕ) (homes' : List H)
      → words' ≡ length history' ∷ ticket' ∷ serving' ∷ [] → homes' ≡ home' ∷ [] → serving' ≤ ticket' → ticket' < 2 ^ 64 → length history' ≤ serving' + 1 → Reaches steps refusal decks_left start history' machine'
      → ((b : B) → home' ≡ some b → (b.machine ≡ machine') × (length history' ≤ serving'))
      → (home' ≡ none → (HasTicket w.turn serving' × IsHoldingMachine w.turn) ⊎ ((j : ℕ) × (u : V) × (j ≢ id) × (get_elem? s.views j ≡ some u) × HasTicket u.turn serving' × IsHoldingMachine u.turn))
      → ((j : ℕ) (u : V) → j ≢ id → get_elem? s.views j ≡ some u → FitsTurn start history' machine' ticket' serving' home' j u u.turn)
      → FitsTurn start history' machine' ticket' serving' home' id w w.turn
      → ((t j : ℕ) (u : V) → j ≢ id → get_elem? s.views j ≡ some u → HasTicket w.turn t → HasTicket u.turn t → ⊥)
      → ((t : ℕ) → serving' ≤ t → t < ticket' → HasTicket w.turn t ⊎ ((k.serving ≤ t) × (t < k.ticket) × (HasTicket v.turn t → HasTicket w.turn t)))
      → ((by : ℕ) → length s.views ≤ by → calls_by by history' ≡ [])
      → K record { words = words'; homes = homes'; views = set s.views id w }
  rebuilt s k id v w at history' machine' ticket' serving' home' words' homes' words_are homes_are order small counted reached at_home away others mine apart tickets given = record {
    history = history';
    machine = machine';
    ticket = ticket';
    serving = serving';
    home = home';
    words = words_are;
    slot = homes_are;
    order = order;
    small = small;
    counted = counted;
    reached = reached;
    at_home = at_home;
    away = λ e. ⊎_elim (λ (h : HasTicket w.turn serving' × IsHoldingMachine w.turn). (id, w, set_here s.views id w (inside s.views id v at), h.0, h.1))
        (λ (h : (j : ℕ) × (u : V) × (j ≢ id) × (get_elem? s.views j ≡ some u) × HasTicket u.turn serving' × IsHoldingMachine u.turn). (h.0, h.1, set_else s.views id h.0 w h.2 ∙ h.3, h.4, h.5)) (away e);
    each_seat = λ j u e. ⊎_elim (λ (h : (j ≡ id) × (w ≡ u)). subst (λ (z : ℕ × V). FitsTurn start history' machine' ticket' serving' home' z.0 z.1 z.1.turn) (λ i. (sym h.0 i, h.1 i)) mine)
        (λ (h : (j ≢ id) × (get_elem? s.views j ≡ some u)). others j u h.0 h.1) (at_set s.views id j w u e);
    alone = λ i j u x t ei ej hi hj. ⊎_elim
        (λ (a : (i ≡ id) × (w ≡ u)). ⊎_elim (λ (b : (j ≡ id) × (w ≡ x)). a.0 ∙ sym b.0)
        (λ (b : (j ≢ id) × (get_elem? s.views j ≡ some x)). absurd (apart t j x b.0 b.1 (subst (λ (z : V). HasTicket z.turn t) (sym a.1) hi) hj)) (at_set s.views id j w x ej))
        (λ (a : (i ≢ id) × (get_elem? s.views i ≡ some u)). ⊎_elim (λ (b : (j ≡ id) × (w ≡ x)). absurd (apart t i u a.0 a.1 (subst (λ (z : V). HasTicket z.turn t) (sym b.1) hj) hi))
        (λ (b : (j ≢ id) × (get_elem? s.views j ≡ some x)). k.alone i j u x t a.1 b.1 hi hj) (at_set s.views id j w x ej))
        (at_set s.views id i w u ei);
    each_ticket = λ t from to. ⊎_elim (λ (h : HasTicket w.turn t). here_now t h)
        (λ (h : (k.serving ≤ t) × (t < k.ticket) × (HasTicket v.turn t → HasTicket w.turn t)). let o = k.each_ticket t h.0 h.1 in
        dite (ℕ_discrete o.0 id)
        (λ same. here_now t (h.2 (subst (λ (z : V). HasTicket z.turn t) (some-injective o.1 v (sym o.2 ∙ (ap (get_elem? s.views) same ∙ at))) o.3)))
        (λ other. (o.0, o.1, set_else s.views id o.0 w other ∙ o.2, o.3))) (tickets t from to);
    given = λ by le. given by (subst (λ (n : ℕ). n ≤ by) (length-set s.views id w) le);
  }
    where
      here_now : (t : ℕ) → HasTicket w.turn t → (j : ℕ) × (u : V) × (get_elem? (set s.views id w) j ≡ some u) × HasTicket u.turn t
      here_now t h = (id, w, set_here s.views id w (inside s.views id v at), h)

  -- where the slot is out with a seat that is not this one, it stays with that
  still_away : (s : St) (k : K s) (id : ℕ) (v : V) → get_elem? s.views id ≡ some v → (IsHoldingMachine v.turn → ⊥) → k.home ≡ none
      → (j : ℕ) × (u : V) × (j ≢ id) × (get_elem? s.views j ≡ some u) × HasTicket u.turn k.serving × IsHoldingMachine u.turn
  still_away s k id v at not e = let h = k.away e in
      (h.0, h.1, (λ same. not (subst (λ (z : V). IsHoldingMachine z.turn) (some-injective h.1 v (sym h.2 ∙ (ap (get_elem? s.views) same ∙ at))) h.4)), h.2, h.3, h.4)

  -- another seat has another ticket
  apart_from : (s : St) (k : K s) (id : ℕ) (v : V) → get_elem? s.views id ≡ some v → (t j : ℕ) (u : V) → j ≢ id → get_elem? s.views j ≡ some u → HasTicket v.turn t → HasTicket u.turn t → ⊥
  apart_from s k id v at t j u other there mine theirs = other (sym (k.alone id j v u t at there mine theirs))

  -- a step that changes this seat's view alone
  view_changes : (s : St) (k : K s) (id : ℕ) (v w : V) → get_elem? s.views id ≡ some v → (IsHoldingMachine v.turn → ⊥) → ((t : ℕ) → HasTicket w.turn t → HasTicket v.turn t)
      → ((t : ℕ) → HasTicket v.turn t → HasTicket w.turn t)
      → FitsTurn start k.history k.machine k.ticket k.serving k.home id w w.turn → K record { words = s.words; homes = s.homes; views = set s.views id w }
  view_changes s k id v w at not sub sup mine = rebuilt s k id v w at k.history k.machine k.ticket k.serving k.home s.words s.homes k.words k.slot k.order k.small k.counted k.reached k.at_home
      (λ e. inr (still_away s k id v at not e)) (λ j u _ there. k.each_seat j u there) mine (λ t j u other there h. apart_from s k id v at t j u other there (sub t h)) (λ t from to. inr (from, to, sup t)) k.given

  -- the same at a load of the word i
  view_changes_at_load : (i : ℕ) (s : St) (k : K s) (id : ℕ) (v w : V) → get_elem? s.views id ≡ some v → (IsHoldingMachine v.turn → ⊥) → ((t : ℕ) → HasTicket w.turn t → HasTicket v.turn t)
      → ((t : ℕ) → HasTicket v.turn t → HasTicket w.turn t)
      → FitsTurn start k.history k.machine k.ticket k.serving k.home id w w.turn → K record { words = set s.words i (get_or s.words i 0); homes = s.homes; views = set s.views id w }
  view_changes_at_load i s k id v w at not sub sup mine = subst (λ (ws : List ℕ). K record { words = ws; homes = s.homes; views = set s.views id w }) (sym (set-get_or s.words i 0)) (view_changes s k id v w at not sub sup mine)

  fits_as : (s : St) (k : K s) (id : ℕ) (v : V) (st : TurnState M) → get_elem? s.views id ≡ some v → v.turn ≡ st → FitsTurn start k.history k.machine k.ticket k.serving k.home id v st
  fits_as s k id v st at is = subst (FitsTurn start k.history k.machine k.ticket k.serving k.home id v) is (k.each_seat id v at)

  not_holding : (v : V) (st : TurnState M) → v.turn ≡ st → (IsHoldingMachine st → ⊥) → IsHoldingMachine v.turn → ⊥
  not_holding v st is not h = not (subst IsHoldingMachine is h)

  has : (v : V) (st : TurnState M) (t : ℕ) → v.turn ≡ st → HasTicket st t → HasTicket v.turn t
  has v st t is h = subst (λ (z : TurnState M). HasTicket z t) (sym is) h

  had : (v : V) (st : TurnState M) (t : ℕ) → v.turn ≡ st → HasTicket v.turn t → HasTicket st t
  had v st t is h = subst (λ (z : TurnState M). HasTicket z t) is h

  pub takes_ticket : (slots id : ℕ) (me : Mi) (old new : ℕ) → me.0.turn ≡ Idle → new ≡ old + 1 → new < 2 ^ 64
      → Allows K slots id me 1 (λ n. either (eqb n old) new n) (ticket_taken (step slots 1 old new none) me)
  takes_ticket slots id me old new idle up room s k _ at _ = let n : ℕ = get_or s.words 1 0 in
      let count : n ≡ k.ticket = ap (λ ws. get_or ws 1 0) k.words in
      let sat : IsNumbered start k.history id me.0 = fits_as s k id me.0 Idle at idle in
      let P : ℕ → Type 0 = λ x. (w : V) × (a : Act B) × Valid s.homes me.1 a × K (stepped s 1 x id me.1 w a) × ticket_taken (step slots 1 old new none) me n (w, carried_after me.1 a) in
      exchanged n old new P
      (λ hit. let w : V = with_turn me.0 (Waiting n) in let up' : new ≡ k.ticket + 1 = omega arith in let order = k.order in (
        w,
        keeps,
        tt,
        rebuilt s k id me.0 w at k.history k.machine new k.serving k.home (set s.words 1 new) s.homes (ap (λ ws. set ws 1 new) k.words) k.slot (omega arith) room k.counted k.reached k.at_home
            (λ e. inr (still_away s k id me.0 at (not_holding me.0 Idle idle (λ h. h)) e))
            (λ j u _ there. fits_ticket start k.history k.machine k.ticket new k.serving k.home j u (omega arith) u.turn (k.each_seat j u there))
            (numbered_at start k.history id me.0 (Waiting n) sat, omega arith, omega arith)
            (λ t j u other there h g. let b : t < k.ticket = below_ticket start k.history k.machine k.ticket k.serving k.home j u u.turn t (k.each_seat j u there) g in absurd (omega arith))
            (λ t from to. dite (ℕ_discrete t n) (λ is. inl (sym is)) (λ other. inr (from, omega arith, λ h. absurd (had me.0 Idle t idle h))))
            k.given,
        (refl, (λ _. refl), λ miss. absurd (miss hit)),
      ))
      (λ miss. (
        me.0,
        keeps,
        tt,
        subst (λ (ws : List ℕ). K record { words = ws; homes = s.homes; views = set s.views id me.0 }) (sym (set-get_or s.words 1 0))
            (view_changes s k id me.0 me.0 at (not_holding me.0 Idle idle (λ h. h)) (λ t h. h) (λ t h. h) (k.each_seat id me.0 at)),
        (refl, (λ hit. absurd (miss hit)), λ _. refl),
      ))

  pub looks_at_serving : (slots id : ℕ) (me : Mi) (t : ℕ) → me.0.turn ≡ Waiting t → Allows K slots id me 2 (λ n. n) (serving_seen (step slots 2 0 0 none) me)
  looks_at_serving slots id me t waits s k _ at _ = let n : ℕ = get_or s.words 2 0 in
      let now : n ≡ k.serving = ap (λ ws. get_or ws 2 0) k.words in
      let mine = fits_as s k id me.0 (Waiting t) at waits in
      let number : ticket_of me.0.turn ≡ t = ap ticket_of waits in
      dite (ℕ_discrete n t)
      (λ hit. let w : V = with_turn me.0 (HasTurn n) in let below = mine.2 in
      let here = at_home_now k.home (λ e. let h = still_away s k id me.0 at (not_holding me.0 (Waiting t) waits (λ x. x)) e in
      apart_from s k id me.0 at k.serving h.0 h.1 h.2 h.3 (has me.0 (Waiting t) k.serving waits (sym hit ∙ now)) h.4) in (
        w,
        keeps,
        tt,
        view_changes_at_load 2 s k id me.0 w at (not_holding me.0 (Waiting t) waits (λ x. x)) (λ u h. has me.0 (Waiting t) u waits (sym hit ∙ h)) (λ u h. hit ∙ had me.0 (Waiting t) u waits h) (numbered_at start k.history id me.0 (HasTurn n) mine.0, now, omega arith, here),
        (refl, (λ _. refl), λ miss. absurd (miss (hit ∙ sym number))),
      ))
      (λ miss. (
        me.0,
        keeps,
        tt,
        view_changes_at_load 2 s k id me.0 me.0 at (not_holding me.0 (Waiting t) waits (λ x. x)) (λ u h. h) (λ u h. h) (k.each_seat id me.0 at),
        (refl, (λ hit. absurd (miss (hit ∙ number))), λ _. refl),
      ))

  pub takes_machine : (slots id : ℕ) (me : Mi) (t : ℕ) → me.0.turn ≡ HasTurn t → Allows K slots id me 0 (λ n. n) (machine_taken (step slots 0 0 0 none) me)
  takes_machine slots id me t turn s k _ at _ =
      let mine = fits_as s k id me.0 (HasTurn t) at turn in
      let number : ticket_of me.0.turn ≡ t = ap ticket_of turn in
      let b : B = mine.3.0 in
      let there : k.home ≡ some b = mine.3.1 in
      let home = k.at_home b there in
      let w : V = with_turn me.0 (HoldsMachine (ticket_of me.0.turn) b.machine false) in
      let serves : ticket_of me.0.turn ≡ k.serving = number ∙ mine.1 in
      let below = mine.2 in (
        w,
        takes 0 b,
        ap (λ hs. get_elem? hs 0) k.slot ∙ ap some there,
        subst (λ (ws : List ℕ). K record { words = ws; homes = set s.homes 0 none; views = set s.views id w }) (sym (set-get_or s.words 0 0))
            (rebuilt s k id me.0 w at k.history k.machine k.ticket k.serving none s.words (set s.homes 0 none) k.words (ap (λ hs. set hs 0 none) k.slot) k.order k.small k.counted k.reached
            (λ c e. absurd (some-ne-none c (sym e)))
            (λ _. inl (serves, tt))
            (λ j u other at_j. fits_on start k.history k.history k.machine k.machine k.ticket k.ticket k.serving k.serving k.home none j u (starts_all k.history) refl (le_refl k.ticket) (λ x le _. le) u.turn
            (λ h. apart_from s k id me.0 at k.serving j u other at_j (has me.0 (HasTurn t) k.serving turn mine.1) h) (k.each_seat j u at_j))
            (numbered_at start k.history id me.0 w.turn mine.0, serves, omega arith, home.0, refl, λ _. home.1)
            (λ x j u other at_j h g. apart_from s k id me.0 at x j u other at_j (has me.0 (HasTurn t) x turn (sym number ∙ h)) g)
            (λ x from to. inr (from, to, λ h. number ∙ had me.0 (HasTurn t) x turn h))
            k.given),
        (b, refl, refl),
      )

  -- the call of the seat is added to the history
  module _ (refusal_reflexive : (x : M) → refusal x x) where
    adds : (history : L) (v : V) (seat : ℕ) (event : E) (answer : A) (m n : M) → IsNumbered start history seat v → Reaches steps refusal decks_left start history m → steps m event answer n
        → AddsCall steps refusal decks_left v.start v.caller v.seen event answer (decks_left n) (history ++ entry v.caller event answer (decks_left n) ∷ [])
    adds history v seat event answer m n sat reached s = let e : Entry E A = entry v.caller event answer (decks_left n) in let by : ℕ = v.caller in (
      (sat.seen.0, ap (λ (l : L). l ++ e ∷ []) sat.seen.1),
      subst (λ (o : Option M). IsLegal steps refusal decks_left o (history ++ e ∷ [])) (sym sat.begins) (n, reaches_step steps refusal decks_left refusal_reflexive start history m n v.caller event answer reached s),
      calls_by-append by history (e ∷ []) ∙ (λ i. (subst (λ (z : ℕ). calls_by z history ≡ calls_by z v.seen) (sym sat.number) sat.own) i ++ calls_by-mine by e refl i),
    )

    raises_count_at : (slots id : ℕ) (v : V) (b : B) (p : Snapshot (E × A)) (t : ℕ) (x : M) → v.turn ≡ HoldsMachine t x false → b.last_call ≡ Some p → steps x p.value.0 p.value.1 b.machine
        → Allows K slots id (v, (0, b) ∷ []) 0 (λ n. (n + 1) % 2 ^ 64) (count_raised steps refusal decks_left (step slots 0 1 0 none) (v, (0, b) ∷ []))
    raises_count_at slots id v b p t x holds last_call did s k _ at _ = let mine = fits_as s k id v (HoldsMachine t x false) at holds in
        let sat = mine.0 in let n : ℕ = get_or s.words 0 0 in
        let count : n ≡ length k.history = ap (λ ws. get_or ws 0 0) k.words in
        let room : length k.history ≤ k.serving = mine.5 refl in let serves : t ≡ k.serving = mine.1 in let below : t < k.ticket = mine.2 in let small = k.small in
        let e : Entry E A = entry v.caller p.value.0 p.value.1 (decks_left b.machine) in
        let history' : L = k.history ++ e ∷ [] in
        let longer : length history' ≡ length k.history + 1 = length-append k.history (e ∷ []) in
        let fits64 : n + 1 < 2 ^ 64 = omega arith in
        let up : (n + 1) % 2 ^ 64 ≡ length history' = mod-eq_of_lt fits64 ∙ omega arith in
        let reached : Reaches steps refusal decks_left start k.history x = subst (Reaches steps refusal decks_left start k.history) (sym mine.3) k.reached in
        let w : V = record { caller = v.caller; start = v.start; seen = history'; received = v.received; turn = HoldsMachine (ticket_of v.turn) b.machine true } in
        let number : ticket_of v.turn ≡ t = ap ticket_of holds in
        let more : StartsWith history' k.history = (e ∷ [], refl) in
        let others_same : (j : ℕ) → j ≢ id → calls_by j history' ≡ calls_by j k.history = λ j other. calls_by-append j k.history (e ∷ [])
        ∙ (ap (λ (l : L). calls_by j k.history ++ l) (calls_by-else j e (λ same. other (sym same ∙ sat.number))) ∙ append-nil (calls_by j k.history)) in (
          w,
          keeps,
          tt,
          rebuilt s k id v w at history' b.machine k.ticket k.serving k.home (set s.words 0 ((n + 1) % 2 ^ 64)) s.homes
              (ap (λ ws. set ws 0 ((n + 1) % 2 ^ 64)) k.words ∙ ap (λ (c : ℕ). c ∷ k.ticket ∷ k.serving ∷ []) up) k.slot k.order k.small (omega arith)
              (reaches_step steps refusal decks_left refusal_reflexive start k.history x b.machine v.caller p.value.0 p.value.1 reached did)
              (λ c there. absurd (some-ne-none c (sym there ∙ mine.4)))
              (λ _. inl (number ∙ serves, tt))
              (λ j u other there. fits_on start k.history history' k.machine b.machine k.ticket k.ticket k.serving k.serving k.home k.home j u more (others_same j other) (le_refl k.ticket) (λ y le _. le) u.turn
              (λ h. apart_from s k id v at k.serving j u other there (has v (HoldsMachine t x false) k.serving holds serves) h) (k.each_seat j u there)) (
                record { begins = sat.begins; number = sat.number; seen = starts_all history'; received = starts_longer k.history v.received (e ∷ []) sat.received; own = refl },
                number ∙ serves,
                omega arith,
                refl,
                mine.4,
                λ off. absurd (true_not_false off),
              )
              (λ y j u other there h g. apart_from s k id v at y j u other there (has v (HoldsMachine t x false) y holds (sym number ∙ h)) g)
              (λ y from to. inr (from, to, λ h. number ∙ had v (HoldsMachine t x false) y holds h))
              (λ by le. others_same by (λ same. let i = inside s.views id v at in omega arith) ∙ k.given by le),
          λ c q same is.
              let bc : b ≡ c = ap (λ (l : List (ℕ × B)). (first_or {X = ℕ × B} (0, b) l).1) same in
              let pq : p ≡ q = ap (λ (o : Option (Snapshot (E × A))). or_else p o) (sym last_call ∙ (ap (λ (z : B). z.last_call) bc ∙ is)) in (
                refl,
                (
                  history',
                  ap (λ (z : B). record { caller = v.caller; start = v.start; seen = history'; received = v.received; turn = HoldsMachine (ticket_of v.turn) z.machine true }) bc,
                  subst (λ (z : B × Snapshot (E × A)). AddsCall steps refusal decks_left v.start v.caller v.seen z.1.value.0 z.1.value.1 (decks_left z.0.machine) history') (λ i. (bc i, pq i))
                      (adds k.history v id p.value.0 p.value.1 x b.machine sat reached did),
                ),
              ),
        )
      where
        true_not_false : true ≡ false → ⊥
        true_not_false e = Rattle.std.proofs.Common.true≢false e

        or_else : Snapshot (E × A) → Option (Snapshot (E × A)) → Snapshot (E × A)
        or_else d None = d
        or_else d (Some z) = z

    pub raises_count : (slots id : ℕ) (me : Mi) (b : B) (p : Snapshot (E × A)) (t : ℕ) (x : M) → me.1 ≡ (0, b) ∷ [] → me.0.turn ≡ HoldsMachine t x false → b.last_call ≡ Some p → steps x p.value.0 p.value.1 b.machine
        → Allows K slots id me 0 (λ n. (n + 1) % 2 ^ 64) (count_raised steps refusal decks_left (step slots 0 1 0 none) me)
    raises_count slots id me b p t x held holds last_call did =
        subst (λ (c : List (ℕ × B)). Allows K slots id (me.0, c) 0 (λ n. (n + 1) % 2 ^ 64) (count_raised steps refusal decks_left (step slots 0 1 0 none) (me.0, c))) (sym held) (raises_count_at slots id me.0 b p t x holds last_call did)

  module _ (refusal_transitive : (x y z : M) → refusal x y → refusal y z → refusal x z) where
    passes_turn_at : (slots id : ℕ) (v : V) (b : B) (t : ℕ) (x : M) (r : Bool) → v.turn ≡ HoldsMachine t x r → refusal x b.machine
        → Allows K slots id (v, (0, b) ∷ []) 2 (λ n. (n + 1) % 2 ^ 64) (turn_passed (step slots 2 1 0 none) (v, (0, b) ∷ []))
    passes_turn_at slots id v b t x r holds idle s k _ at _ = let mine = fits_as s k id v (HoldsMachine t x r) at holds in
        let n : ℕ = get_or s.words 2 0 in
        let now : n ≡ k.serving = ap (λ ws. get_or ws 2 0) k.words in
        let serves : t ≡ k.serving = mine.1 in let below : t < k.ticket = mine.2 in let small = k.small in let counted = k.counted in
        let fits64 : n + 1 < 2 ^ 64 = omega arith in
        let up : (n + 1) % 2 ^ 64 ≡ k.serving + 1 = mod-eq_of_lt fits64 ∙ omega arith in
        let reached : Reaches steps refusal decks_left start k.history x = subst (Reaches steps refusal decks_left start k.history) (sym mine.3) k.reached in
        let w : V = with_turn v Idle in (
          w,
          gives,
          tt,
          rebuilt s k id v w at k.history b.machine k.ticket (k.serving + 1) (some b) (set s.words 2 ((n + 1) % 2 ^ 64)) (set s.homes 0 (some b))
              (ap (λ ws. set ws 2 ((n + 1) % 2 ^ 64)) k.words ∙ ap (λ (c : ℕ). length k.history ∷ k.ticket ∷ c ∷ []) up) (ap (λ hs. set hs 0 (some b)) k.slot) (omega arith) k.small (omega arith)
              (reaches_refusal steps refusal decks_left refusal_transitive start k.history x b.machine reached idle)
              (λ c there. (ap (λ (z : B). z.machine) (sym (some-injective b c there)), counted))
              (λ none. absurd (some-ne-none b none))
              (λ j u other there. fits_on start k.history k.history k.machine b.machine k.ticket k.ticket k.serving (k.serving + 1) k.home (some b) j u (starts_all k.history) refl (le_refl k.ticket) (λ y le not. omega arith) u.turn
              (λ h. apart_from s k id v at k.serving j u other there (has v (HoldsMachine t x r) k.serving holds serves) h) (k.each_seat j u there))
              (numbered_at start k.history id v Idle mine.0)
              (λ y j u other there h g. h)
              (λ y from to. inr (omega arith, to, λ h. let same : t ≡ y = had v (HoldsMachine t x r) y holds h in absurd (omega arith)))
              k.given,
          (refl, refl),
        )

    pub passes_turn : (slots id : ℕ) (me : Mi) (b : B) (t : ℕ) (x : M) (r : Bool) → me.1 ≡ (0, b) ∷ [] → me.0.turn ≡ HoldsMachine t x r → refusal x b.machine
        → Allows K slots id me 2 (λ n. (n + 1) % 2 ^ 64) (turn_passed (step slots 2 1 0 none) me)
    passes_turn slots id me b t x r held holds idle =
        subst (λ (c : List (ℕ × B)). Allows K slots id (me.0, c) 2 (λ n. (n + 1) % 2 ^ 64) (turn_passed (step slots 2 1 0 none) (me.0, c))) (sym held) (passes_turn_at slots id me.0 b t x r holds idle)

  pub splits : (id : ℕ) (v : V) → v.turn ≡ Idle → Splits K id v v (unnumbered_view v)
  splits id v idle s k at = let sat = fits_as s k id v Idle at idle in
      let vs : List V = s.views ++ unnumbered_view v ∷ [] in
      let k' : K record { words = s.words; homes = s.homes; views = vs } = record {
        history = k.history;
        machine = k.machine;
        ticket = k.ticket;
        serving = k.serving;
        home = k.home;
        words = k.words;
        slot = k.slot;
        order = k.order;
        small = k.small;
        counted = k.counted;
        reached = k.reached;
        at_home = k.at_home;
        away = λ e. let h = k.away e in (h.0, h.1, at_longer s.views (unnumbered_view v ∷ []) h.0 h.1 h.2, h.3, h.4);
        each_seat = λ j u e. ⊎_elim (λ (h : get_elem? s.views j ≡ some u). k.each_seat j u h)
            (λ (h : (j ≡ length s.views) × (unnumbered_view v ≡ u)). subst (λ (z : ℕ × V). FitsTurn start k.history k.machine k.ticket k.serving k.home z.0 z.1 z.1.turn) (λ i. (sym h.0 i, h.1 i))
            (record {
              begins = sat.begins;
              other = λ same. let i : id < length s.views = inside s.views id v at in let n : v.caller ≡ id = sat.number in omega arith;
              seen = sat.seen;
              received = (k.history, refl);
              none_own = k.given (length s.views) (le_refl (length s.views));
            })) (at_end s.views (unnumbered_view v) u j e);
        alone = λ i j u x t ei ej hi hj. ⊎_elim
            (λ (a : get_elem? s.views i ≡ some u). ⊎_elim (λ (b : get_elem? s.views j ≡ some x). k.alone i j u x t a b hi hj)
            (λ (b : (j ≡ length s.views) × (unnumbered_view v ≡ x)). absurd (subst (λ (z : V). HasTicket z.turn t) (sym b.1) hj)) (at_end s.views (unnumbered_view v) x j ej))
            (λ (a : (i ≡ length s.views) × (unnumbered_view v ≡ u)). absurd (subst (λ (z : V). HasTicket z.turn t) (sym a.1) hi)) (at_end s.views (unnumbered_view v) u i ei);
        each_ticket = λ t from to. let o = k.each_ticket t from to in (o.0, o.1, at_longer s.views (unnumbered_view v ∷ []) o.0 o.1 o.2, o.3);
        given = λ by le. let l : length vs ≡ length s.views + 1 = length-append s.views (unnumbered_view v ∷ []) in k.given by (omega arith);
      } in
      subst (λ (us : List V). K record { words = s.words; homes = s.homes; views = us ++ unnumbered_view v ∷ [] }) (sym (set_again s.views id v at)) k'

  pub joins : (id : ℕ) (v : V) (other : ℕ) (w : V) → v.turn ≡ Idle → w.turn ≡ Unnumbered → Joins K id v other w (with_received v w) spent_view
  joins id v other w idle fresh s k at apart there =
      let sat = fits_as s k id v Idle at idle in
      let there_before : get_elem? s.views other ≡ some w = sym (set_else s.views id other (with_received v w) apart) ∙ there in
      let new = fits_as s k other w Unnumbered there_before fresh in
      let w' : V = with_received v w in
      let fit : FitsTurn start k.history k.machine k.ticket k.serving k.home id w' w'.turn = subst (FitsTurn start k.history k.machine k.ticket k.serving k.home id w') (sym idle)
      (record { begins = sat.begins; number = sat.number; seen = sat.seen; received = new.seen; own = sat.own }) in
      let k1 = view_changes s k id v w' at (not_holding v Idle idle (λ h. h)) (λ t h. h) (λ t h. h) fit in
      view_changes record { words = s.words; homes = s.homes; views = set s.views id w' } k1 other w spent_view there (not_holding w Unnumbered fresh (λ h. h)) (λ t h. absurd h) (λ t h. absurd (had w Unnumbered t fresh h)) tt

  pub numbers_caller : (slots id : ℕ) (me : Mi) → me.0.turn ≡ Unnumbered → Allows K slots id me 0 (λ n. n) (caller_numbered (step slots 0 0 0 none) me)
  numbers_caller slots id me is s k _ at _ = let new = fits_as s k id me.0 Unnumbered at is in let none_seen = none_before id k.history me.0.seen new.seen new.none_own in
      let w : V = record { caller = id; start = me.0.start; seen = me.0.seen; received = []; turn = Idle } in (
        w,
        keeps,
        tt,
        view_changes_at_load 0 s k id me.0 w at (not_holding me.0 Unnumbered is (λ h. h)) (λ t h. absurd h) (λ t h. absurd (had me.0 Unnumbered t is h))
            (record { begins = new.begins; number = refl; seen = new.seen; received = (k.history, refl); own = new.none_own ∙ sym none_seen }),
        λ _. (id, (λ e. new.other (sym e)), none_seen, refl, refl),
      )

  fits_idle : (history : L) (machine : M) (ticket serving : ℕ) (home : H) (id : ℕ) (w : V) → w.turn ≡ Idle → IsNumbered start history id w → FitsTurn start history machine ticket serving home id w w.turn
  fits_idle history machine ticket serving home id w is sat = subst (FitsTurn start history machine ticket serving home id w) (sym is) sat

  pub learns_history : (slots id : ℕ) (me : Mi) → me.0.turn ≡ Idle → Allows K slots id me 0 (λ n. n) (history_learned steps refusal decks_left (step slots 0 0 0 none) me)
  learns_history slots id me is s k _ at _ = let sat = fits_as s k id me.0 Idle at is in
      let w : V = with_seen me.0 k.history in (
        w,
        keeps,
        tt,
        view_changes_at_load 0 s k id me.0 w at (not_holding me.0 Idle is (λ h. h)) (λ t h. h) (λ t h. h)
            (fits_idle k.history k.machine k.ticket k.serving k.home id w is (record { begins = sat.begins; number = sat.number; seen = starts_all k.history; received = (k.history, refl); own = refl })),
        λ _. (
          k.history,
          refl,
          refl,
          sat.seen,
          sat.received,
          subst (λ (o : Option M). IsLegal steps refusal decks_left o k.history) (sym sat.begins) (k.machine, k.reached),
          subst (λ (z : ℕ). calls_by z k.history ≡ calls_by z me.0.seen) (sym sat.number) sat.own,
        ),
      )

  pub adopts_history : (slots id : ℕ) (me : Mi) → me.0.turn ≡ Idle → length me.0.seen ≤ length me.0.received → Allows K slots id me 0 (λ n. n) (history_adopted (step slots 0 0 0 none) me)
  adopts_history slots id me is le s k _ at _ = let sat = fits_as s k id me.0 Idle at is in
      let w : V = with_seen me.0 me.0.received in
      let more = shorter_begins k.history me.0.seen me.0.received sat.seen sat.received le in
      let own = own_between id k.history me.0.received me.0.seen sat.received more sat.own in (
        w,
        keeps,
        tt,
        view_changes_at_load 0 s k id me.0 w at (not_holding me.0 Idle is (λ h. h)) (λ t h. h) (λ t h. h)
            (fits_idle k.history k.machine k.ticket k.serving k.home id w is (record { begins = sat.begins; number = sat.number; seen = sat.received; received = (k.history, refl); own = sat.own ∙ sym own })),
        λ _ _. (refl, refl, more, subst (λ (z : ℕ). calls_by z me.0.received ≡ calls_by z me.0.seen) (sym sat.number) own),
      )

  pub opens : ((x : M) → refusal x x) → (b : B) → b.machine ≡ start → K (opening (0 ∷ 0 ∷ 0 ∷ []) (b ∷ []) (opening_view start))
  opens refusal_reflexive b is = record {
    history = [];
    machine = start;
    ticket = 0;
    serving = 0;
    home = some b;
    words = refl;
    slot = refl;
    order = omega arith;
    small = omega arith;
    counted = omega arith;
    reached = refusal_reflexive start;
    at_home = λ c e. (ap (λ (z : B). z.machine) (sym (some-injective b c e)) ∙ is, omega arith);
    away = λ e. absurd (some-ne-none b e);
    each_seat = one;
    alone = alone_one;
    each_ticket = λ t from to. absurd (omega arith);
    given = λ _ _. refl;
  }
    where
      one : (j : ℕ) (v : V) → get_elem? (opening_view start ∷ []) j ≡ some v → FitsTurn start [] start 0 0 (some b) j v v.turn
      one zero v e = subst (λ (z : V). FitsTurn start [] start 0 0 (some b) 0 z z.turn) (some-injective (opening_view start) v e)
          (record { begins = refl; number = refl; seen = ([], refl); received = ([], refl); own = refl })
      one (suc j) v e = absurd (some-ne-none v (sym e))

      alone_one : (i j : ℕ) (u v : V) (t : ℕ) → get_elem? (opening_view start ∷ []) i ≡ some u → get_elem? (opening_view start ∷ []) j ≡ some v → HasTicket u.turn t → HasTicket v.turn t → i ≡ j
      alone_one zero zero u v t ei ej hi hj = refl
      alone_one zero (suc j) u v t ei ej hi hj = absurd (some-ne-none v (sym ej))
      alone_one (suc i) j u v t ei ej hi hj = absurd (some-ne-none u (sym ei))

  -- what is taken out at the end, by a seat that has the turn
  pub closes : (id : ℕ) (v : V) (t : ℕ) (words : List ℕ) (slots : List B) (b : B) → v.turn ≡ HasTurn t → Final (Seen K id v) words slots → get_elem? slots 0 ≡ some b
      → ClosesWith steps refusal decks_left v.start v.caller v.seen b.machine
  closes id v t words slots b turn final at =
      let s = final.0 in let k = final.1.0 in
      let mine = fits_as s k id v (HasTurn t) final.1.1 turn in
      let home = k.at_home mine.3.0 mine.3.1 in
      let there : get_elem? slots 0 ≡ some mine.3.0 = final.4 0 mine.3.0 (ap (λ hs. get_elem? hs 0) k.slot ∙ ap some mine.3.1) in
      let same : mine.3.0 ≡ b = some-injective mine.3.0 b (sym there ∙ at) in
      (start, mine.0.begins, (k.history, mine.0.seen, subst (λ (z : ℕ). calls_by z k.history ≡ calls_by z v.seen) (sym mine.0.number) mine.0.own, subst (Reaches steps refusal decks_left start k.history) (sym home.0 ∙ ap (λ (z : B). z.machine) same) k.reached))

  pub opens_as : ((x : M) → refusal x x) → (slots : List B) (b : B) → slots ≡ b ∷ [] → b.machine ≡ start → K (opening (0 ∷ 0 ∷ 0 ∷ []) slots (opening_view start))
  opens_as refusal_reflexive slots b one is = subst (λ (xs : List B). K (opening (0 ∷ 0 ∷ 0 ∷ []) xs (opening_view start))) (sym one) (opens refusal_reflexive b is)
