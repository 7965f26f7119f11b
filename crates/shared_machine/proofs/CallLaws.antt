-- From what the steps tell to what the public calls promise.
use Rattle.std.proofs.Common.{◌≡◌, ℕ, ◌≤◌, List, length, sym, ap, ◌∙◌, subst}
use Rattle.atomic_table.specs.Table.{Me}
use Rattle.shared_machine.specs.declared.entry.Entry.{Entry}
use Rattle.shared_machine.specs.declared.seat_view.SeatView.{SeatView}
use Rattle.shared_machine.specs.declared.slot_value.SlotValue.{SlotValue}
use Rattle.std.specs.Prelude.{Option, Some, None}
use Rattle.shared_machine.specs.History.{StartsWith, calls_by, IsLegal, IsLegalFrom}
use Rattle.shared_machine.specs.declared.turn_state.TurnState.{TurnState}
use Rattle.shared_machine.specs.declared.turn_state.TurnState.TheVariants.{Idle}
use Rattle.shared_machine.specs.Turns.{with_received, with_seen, with_turn, idle_with_seen, AddsCall, ClosesWith}
use Rattle.shared_machine.specs.Passes.{Follows}
use Rattle.shared_machine.specs.History.{Reaches}
use Rattle.shared_machine.proofs.Histories.{starts_length, reaches_first}

module _ {M E A : Type 0} where
  -- a received what b has seen, and learned the history so far; b received that, so it is no shorter than what b had seen
  pub received_longer : (a0 b0 a1 b1 a2 b3 : Me (SlotValue M E A) (SeatView M E A)) (x : List (Entry E A)) → b1 ≡ b0 → a1 ≡ (with_received a0.0 b0.0, a0.1) → a2.0 ≡ with_seen a1.0 x → StartsWith x a1.0.received
      → b3 ≡ (with_received b1.0 a2.0, b1.1) → length b3.0.seen ≤ length b3.0.received
  received_longer a0 b0 a1 b1 a2 b3 x b1_is a1_is a2_is begins b3_is =
      let front : a1.0.received ≡ b0.0.seen = ap (λ (m : Me (SlotValue M E A) (SeatView M E A)). m.0.received) a1_is in
      let seen : b3.0.seen ≡ b0.0.seen = ap (λ (m : Me (SlotValue M E A) (SeatView M E A)). m.0.seen) b3_is ∙ ap (λ (m : Me (SlotValue M E A) (SeatView M E A)). m.0.seen) b1_is in
      let received : b3.0.received ≡ x = ap (λ (m : Me (SlotValue M E A) (SeatView M E A)). m.0.received) b3_is ∙ ap (λ (v : SeatView M E A). v.seen) a2_is in
      let long : length a1.0.received ≤ length x = starts_length x a1.0.received begins in
      subst (λ (z : List (Entry E A) × List (Entry E A)). length z.0 ≤ length z.1) (λ i. ((front ∙ sym seen) i, sym received i)) long

module _ {M E A : Type 0} (steps : M → E → A → M → Type 0) (refusal : M → M → Type 0) (decks_left : M → ℕ) where
  -- where a history that was told of is the one that is seen
  pub legal_as : (o : Option M) (start : M) (seen later : List (Entry E A)) → o ≡ Some start → seen ≡ later → IsLegal steps refusal decks_left o later → IsLegalFrom steps refusal decks_left start seen
  legal_as o start seen later is same h =
      subst (λ (l : List (Entry E A)). IsLegalFrom steps refusal decks_left start l) (sym same) (subst (λ (z : Option M). IsLegal steps refusal decks_left z later) is h)

  -- what the raised count tells, once the turn is passed on
  pub call_added : (old m f : SeatView M E A) (st st' : TurnState M) (later : List (Entry E A)) (p : E × A) (event : E) (answer : A) (n : ℕ) → m ≡ with_turn old st
      → f ≡ record { caller = m.caller; start = m.start; seen = later; received = m.received; turn = st' } → p ≡ (event, answer) → AddsCall steps refusal decks_left m.start m.caller m.seen p.0 p.1 n later
      → (with_turn f Idle ≡ idle_with_seen old later) × AddsCall steps refusal decks_left old.start old.caller old.seen event answer n later
  call_added old m f st st' later p event answer n m_is f_is p_is h = (
    ap (λ (z : SeatView M E A). with_turn z Idle) f_is ∙ ap (λ (z : SeatView M E A). idle_with_seen z later) m_is,
    subst (λ (z : SeatView M E A × (E × A)). AddsCall steps refusal decks_left z.0.start z.0.caller z.0.seen z.1.0 z.1.1 n later) (λ i. (m_is i, p_is i)) h,
  )

  -- what a turn tells, as the public call says it
  pub call_follows : (v x y : SeatView M E A) (st : TurnState M) (start : M) (later : List (Entry E A)) (event : E) (answer : A) (n : ℕ) → x ≡ with_turn v st → y ≡ idle_with_seen x later → v.start ≡ Some start
      → AddsCall steps refusal decks_left x.start x.caller x.seen event answer n later → Follows steps refusal decks_left start v.caller v.seen event answer y.seen
  call_follows v x y st start later event answer n x_is y_is start_is h =
      let g : AddsCall steps refusal decks_left v.start v.caller v.seen event answer n later = subst (λ (z : SeatView M E A). AddsCall steps refusal decks_left z.start z.caller z.seen event answer n later) x_is h in
      subst (λ (l : List (Entry E A)). Follows steps refusal decks_left start v.caller v.seen event answer l) (sym (ap (λ (z : SeatView M E A). z.seen) y_is))
      (g.0.0, n, g.0.1, subst (λ (z : Option M). IsLegal steps refusal decks_left z later) start_is g.1, g.2)

  -- one hub was made with one machine
  pub reaches_same : (o : Option M) (start was : M) (history seen : List (Entry E A)) (end : M) → o ≡ Some start → o ≡ Some was → Reaches steps refusal decks_left was history end → Reaches steps refusal decks_left start history end
  reaches_same o start was history seen end is same h = subst (λ (z : M). Reaches steps refusal decks_left z history end) (ap (some_or start) (sym same ∙ is)) h
    where
      some_or : M → Option M → M
      some_or d None = d
      some_or d (Some z) = z

  -- callers that have seen the same close with the same machine
  pub closes_same : (o o' : Option M) (by by' : ℕ) (seen seen' : List (Entry E A)) (end : M) → o' ≡ o → by' ≡ by → seen' ≡ seen → ClosesWith steps refusal decks_left o' by' seen' end → ClosesWith steps refusal decks_left o by seen end
  closes_same o o' by by' seen seen' end is_o is_by is_seen h = (
    h.0,
    sym is_o ∙ h.1,
    (
      h.2.0,
      subst (λ (l : List (Entry E A)). StartsWith h.2.0 l) is_seen h.2.1,
      subst (λ (z : ℕ × List (Entry E A)). calls_by z.0 h.2.0 ≡ calls_by z.0 z.1) (λ i. (is_by i, is_seen i)) h.2.2,
      h.2.3,
    ),
  )

-- of a machine with a rest, what holds of the machine alone
module _ {M D E A : Type 0} (steps : M → E → A → M → Type 0) (refusal : M → M → Type 0) (decks_left : M → ℕ) where
  pub legal_first : (start : M × D) (history : List (Entry E A)) → IsLegalFrom (λ (s : M × D) e a (t : M × D). steps s.0 e a t.0) (λ (s t : M × D). refusal s.0 t.0) (λ (s : M × D). decks_left s.0) start history
      → IsLegalFrom steps refusal decks_left start.0 history
  legal_first start history h = (h.0.0, reaches_first steps refusal decks_left start history h.0 h.1)

  pub follows_first : (start : M × D) (by : ℕ) (seen : List (Entry E A)) (event : E) (answer : A) (later : List (Entry E A))
      → Follows (λ (s : M × D) e a (t : M × D). steps s.0 e a t.0) (λ (s t : M × D). refusal s.0 t.0) (λ (s : M × D). decks_left s.0) start by seen event answer later → Follows steps refusal decks_left start.0 by seen event answer later
  follows_first start by seen event answer later f = (f.0, f.1, f.2, legal_first start later f.3, f.4)
