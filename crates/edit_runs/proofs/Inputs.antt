-- What is said of the lines of an input.
use Rattle.std.proofs.Common.{◌≡◌, ℕ, List, [], ◌∷◌, ◌++◌, take, Option, Bool, true, false, ◌≤◌, inl, inr, refl, sym, ap, ◌∙◌, subst, append_assoc, append-nil, Result, Ok, Err}
use mathlib.Core.List.{map-append}
use Rattle.port_session.specs.declared.inlet.Inlet.{Inlet}
use Rattle.port_session.proofs.Readings.{rose_from, takes_none}
use Rattle.line_reader.specs.Lines.{Gives, HasLast, HasLine, Stands, ended, pending}
use Rattle.line_reader.specs.declared.reader.LineReader.{LineReader}
use Rattle.edit_lines.specs.declared.request.Names.{Names}
use Rattle.edit_runs.specs.Runs.{Breaks, Ends, Going, IsBroken, IsNewInlet, IsOver, IsStarved, IsStopped, Sides, Taken, TakenLast, Talking, Turned, fronts, line_front}
use Rattle.edit_runs.specs.Said.{start_counts}
use Rattle.edit_runs.specs.declared.counts.Counts.{Counts}
use Rattle.edit_runs.specs.declared.status.EditStatus.{EditStatus}
use Rattle.edit_runs.specs.declared.status.EditStatus.TheVariants as statuses
use Rattle.edit_runs.proofs.Goings.{going_none}

fronts_more : (most : ℕ) (lines : List (List ℕ)) (line : List ℕ) → fronts most (lines ++ line ∷ []) ≡ fronts most lines ++ take most line ∷ []
fronts_more most lines line = map-append (take most) lines (line ∷ [])

module _ (names : Names) (l l' : Option (List ℕ)) (was now : Sides) (counts : Counts) (inlet : Inlet) where
  -- all was said of one more line
  going_more : (most : ℕ) (lines : List (List ℕ)) (line held : List ℕ) → held ≡ take most line → Going names (fronts most lines ++ held ∷ []) was now counts inlet → Going names (fronts most (lines ++ line ∷ [])) was now counts inlet
  going_more most lines line held e g = subst (λ (all : List (List ℕ)). Going names all was now counts inlet) (ap (λ (x : List ℕ). fronts most lines ++ x ∷ []) e ∙ sym (fronts_more most lines line)) g

  -- a line that is ended by a line feed
  pub talking_more : (r s : LineReader) (lines : List (List ℕ)) (h : HasLine l l' r lines) → Stands l l' s (lines ++ h.current ∷ []) → s.most ≡ r.most → Going names (fronts r.most lines ++ r.line.items ∷ []) was now counts inlet → Talking names l l' s was now counts inlet
  talking_more r s lines h stands most g = record {
    lines = lines ++ h.current ∷ [];
    stands = stands;
    going = subst (λ (n : ℕ). Going names (fronts n (lines ++ h.current ∷ [])) was now counts inlet) (sym most) (going_more r.most lines h.current r.line.items h.held g);
  }

  -- what stands behind the last line feed
  pub over_last : (r : LineReader) (lines : List (List ℕ)) (h : HasLast l l' r lines) → Going names (fronts r.most lines ++ r.line.items ∷ []) was now counts inlet → IsOver names l l' r was now counts inlet
  over_last r lines h g = record { lines = lines; input = h; going = going_more r.most lines h.current r.line.items h.held g }

module _ (names : Names) (l l' : Option (List ℕ)) (was now : Sides) (status : EditStatus) (r : LineReader) (lines : List (List ℕ)) (stopped : IsStopped names (fronts r.most lines) r.line.items was now status) where
  pub broken_line : HasLine l l' r lines → IsBroken names l l' r.most was now status
  broken_line h = record {
    lines = lines;
    line = r.line.items;
    gives = record { read = h.read; behind = (h.current ++ 10 ∷ []) ++ pending r; took = h.took; is = h.is ∙ append_assoc (ended lines) (h.current ++ 10 ∷ []) (pending r); each = h.each };
    next = record { current = h.current; rest = 10 ∷ pending r; is = append_assoc h.current (10 ∷ []) (pending r); no_end = h.no_end; ended = refl; held = h.held };
    stopped = stopped;
  }

  pub broken_last : HasLast l l' r lines → IsBroken names l l' r.most was now status
  broken_last h = record {
    lines = lines;
    line = r.line.items;
    gives = record { read = h.read; behind = h.current; took = h.took; is = h.is; each = h.each };
    next = record { current = h.current; rest = []; is = sym (append-nil h.current); no_end = h.no_end; ended = h.at_end; held = h.held };
    stopped = stopped;
  }

-- ---- one step

module _ (names : Names) (l l' : Option (List ℕ)) (f f' : ℕ) (r : LineReader) (was now : Sides) (counts : Counts) (inlet : Inlet) where
  breaks_by : (most : ℕ) (status : EditStatus) → IsBroken names l l' most was now status → Breaks names l l' most was now status
  breaks_by most statuses.NoMemory h = inl h
  breaks_by most statuses.Done h = h
  breaks_by most statuses.Refused h = h
  breaks_by most statuses.Usage h = h
  breaks_by most statuses.ReadFault h = h
  breaks_by most statuses.Lost h = h
  breaks_by most (statuses.Unsent at) h = h
  breaks_by most (statuses.Unheard at) h = h
  breaks_by most (statuses.Unanswered at) h = h
  breaks_by most statuses.WriteFault h = h

  -- a line at which the run stopped
  pub turned_broken : (status : EditStatus) → IsBroken names l l' r.most was now status → Turned names l l' f f' r was now counts inlet (Err status)
  turned_broken statuses.ReadFault h = absurd h.stopped.why
  turned_broken statuses.NoMemory h = inl h
  turned_broken statuses.Done h = h
  turned_broken statuses.Refused h = h
  turned_broken statuses.Usage h = h
  turned_broken statuses.Lost h = h
  turned_broken (statuses.Unsent at) h = h
  turned_broken (statuses.Unheard at) h = h
  turned_broken (statuses.Unanswered at) h = h
  turned_broken statuses.WriteFault h = h

  pub turned_taken : (result : Result Bool EditStatus) → Taken names l l' r was now counts inlet result → Turned names l l' f f' r was now counts inlet result
  turned_taken (Ok true) h = h
  turned_taken (Ok false) h = absurd h
  turned_taken (Err status) h = turned_broken status h

  pub turned_last : (result : Result Bool EditStatus) → TakenLast names l l' r was now counts inlet result → Turned names l l' f f' r was now counts inlet result
  turned_last (Ok true) h = absurd h
  turned_last (Ok false) h = h
  turned_last (Err status) h = turned_broken status h

  -- ---- the end

  module _ (f0 : ℕ) (le : f0 ≤ f) (most : r.most ≡ line_front) where
    broken_front : (status : EditStatus) → IsBroken names l l' r.most was now status → IsBroken names l l' line_front was now status
    broken_front status h = subst (λ (n : ℕ). IsBroken names l l' n was now status) most h

    -- a step ends the run
    pub ends_by : (status : EditStatus) → Turned names l l' f f' r was now counts inlet (Err status) → Ends names l l' f0 f' was now status
    ends_by statuses.ReadFault h = record { reader = r; counts = counts; inlet = inlet; rose = rose_from f0 f f' le h.0; talking = h.1; most = most }
    ends_by statuses.NoMemory h = subst (λ (n : ℕ). Breaks names l l' n was now statuses.NoMemory) most h
    ends_by statuses.Done h = absurd h.stopped.why
    ends_by statuses.Refused h = absurd h.stopped.why
    ends_by statuses.Usage h = absurd h.stopped.why
    ends_by statuses.Lost h = absurd h.stopped.why
    ends_by (statuses.Unsent at) h = broken_front (statuses.Unsent at) h
    ends_by (statuses.Unheard at) h = broken_front (statuses.Unheard at) h
    ends_by (statuses.Unanswered at) h = broken_front (statuses.Unanswered at) h
    ends_by statuses.WriteFault h = broken_front statuses.WriteFault h

    ends_good : (status : EditStatus) (good : Bool) → counts.good ≡ good → (counts.good ≡ true → status ≡ statuses.Done) → (counts.good ≡ false → status ≡ statuses.Refused) → IsOver names l l' r was now counts inlet → Ends names l l' f0 f' was now status
    ends_good status true e if_good if_bad h = subst (λ (s : EditStatus). Ends names l l' f0 f' was now s) (sym (if_good e)) (record { reader = r; counts = counts; inlet = inlet; over = h; most = most; good_is = e })
    ends_good status false e if_good if_bad h = subst (λ (s : EditStatus). Ends names l l' f0 f' was now s) (sym (if_bad e)) (record { reader = r; counts = counts; inlet = inlet; over = h; most = most; good_is = e })

    -- the input is at its end
    pub ends_over : (status : EditStatus) → (counts.good ≡ true → status ≡ statuses.Done) → (counts.good ≡ false → status ≡ statuses.Refused) → IsOver names l l' r was now counts inlet → Ends names l l' f0 f' was now status
    ends_over status if_good if_bad h = ends_good status counts.good refl if_good if_bad h

-- a step that came to the end of no line
pub talking_on : (names : Names) (l l' : Option (List ℕ)) (r s : LineReader) (was now : Sides) (counts : Counts) (inlet : Inlet) (lines : List (List ℕ)) → Stands l l' s lines → s.most ≡ r.most → Going names (fronts r.most lines) was now counts inlet
    → Talking names l l' s was now counts inlet
talking_on names l l' r s was now counts inlet lines stands most g = record { lines = lines; stands = stands; going = subst (λ (n : ℕ). Going names (fronts n lines) was now counts inlet) (sym most) g }

-- there was no memory for more of the line
pub starved_on : (names : Names) (l l' : Option (List ℕ)) (r s : LineReader) (was now : Sides) (counts : Counts) (inlet : Inlet) (lines : List (List ℕ)) → Gives l l' lines → s.most ≡ r.most → Going names (fronts r.most lines) was now counts inlet
    → Breaks names l l' s.most was now statuses.NoMemory
starved_on names l l' r s was now counts inlet lines gives most g = inr (record { lines = lines; gives = gives; counts = counts; inlet = inlet; going = subst (λ (n : ℕ). Going names (fronts n lines) was now counts inlet) (sym most) g })

-- before the first line
pub starved_first : (names : Names) (l : Option (List ℕ)) (was : Sides) (inlet : Inlet) → IsNewInlet inlet → IsStarved names l l line_front was was
starved_first names l was inlet new = record {
  lines = [];
  gives = record { read = []; behind = []; took = takes_none l; is = refl; each = tt };
  counts = start_counts;
  inlet = inlet;
  going = going_none names was inlet new;
}

pub talking_none : (names : Names) (l : Option (List ℕ)) (r : LineReader) (was : Sides) (inlet : Inlet) → Stands l l r [] → IsNewInlet inlet → Talking names l l r was was start_counts inlet
talking_none names l r was inlet stands new = record { lines = []; stands = stands; going = going_none names was inlet new }
