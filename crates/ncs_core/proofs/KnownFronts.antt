-- What of the keeper is known.
use Rattle.std.proofs.Common.{◌≡◌, ℕ, ◌≤◌, Bool, true, false, List, [], ◌∷◌, ◌++◌, length, drop, Option, Some, None, Ok, Err, inl, inr, refl, sym, ap, ◌∙◌, subst, arith}
use Rattle.std.proofs.lemmas.List.{append-nil}
use Rattle.mos_edits.specs.Entries.{Entry, acceptance, IsAccepted}
use Rattle.rundown_log.specs.Keeping.{Appends, AreBehind, AreKept, AreSoMany, Certainty, LeavesCertain, all_certain}
use Rattle.rundown_log.specs.Memory.{Doubt, MemoryKeeper, certainty, doubted, kept, kept_with, settled, settled_doubt}
use Rattle.rundown_log.specs.declared.keeper.KeepFault.{KeepFault}
use Rattle.rundown_log.specs.declared.keeper.KeepFault.TheVariants.{Failed, NoMemory}
use Rattle.ncs_core.specs.Commands.{is_failed}
use Rattle.ncs_core.specs.Starting.{AreHeld, IsEntryCause, IsFront, IsKept, IsLoadedFront, IsStartCause}
use Rattle.ncs_core.specs.declared.fault.StartCause.{StartCause}
use Rattle.ncs_core.specs.declared.fault.StartCause.TheVariants.{StoreFault, BadEntry, NoMemory as NoMemoryToStart}
use Rattle.ncs_core.proofs.AcceptedRows.{accepted-more}

-- ---- where nothing is loaded yet, and where all is

pub empty-front : (kept : Option (List Entry)) → IsLoadedFront kept []
empty-front None = record { accepted = tt; front = tt }
empty-front (Some kept) = record { accepted = tt; front = (kept, refl) }

pub all-held : (kept now : Option (List Entry)) (c : Certainty) (j : List Entry) → now ≡ kept → c ≡ all_certain kept → AreKept kept j → IsAccepted [] j → IsKept false now c j
all-held kept now c j same is k a = subst (λ (o : Option (List Entry)). IsKept false o c j) (sym same) (record { accepted = a; held = by kept k is })
  where
    by : (o : Option (List Entry)) → AreKept o j → c ≡ all_certain o → AreHeld false o c j
    by None k e = tt
    by (Some xs) k e = (sym k, e ∙ ap (λ (ys : List Entry). all_certain (Some ys)) (sym k))

pub front-kept : (stopped : Bool) (kept : Option (List Entry)) (c : Certainty) (j : List Entry) → IsKept stopped kept c j → IsLoadedFront kept j
front-kept stopped kept c j h = record { accepted = h.accepted; front = by stopped kept h.held }
  where
    by : (b : Bool) (o : Option (List Entry)) → AreHeld b o c j → IsFront o j
    by b None h = tt
    by true (Some xs) h = h.1
    by false (Some xs) h = ([], h.0 ∙ sym (append-nil j))

-- ---- loading what is behind

longer : (j rest : List Entry) → length j ≤ length (j ++ rest)
longer [] rest = omega arith
longer (x ∷ xs) rest = let h : length xs ≤ length (xs ++ rest) = longer xs rest in omega arith

behind-front : (j rest : List Entry) → drop (length j) (j ++ rest) ≡ rest
behind-front [] rest = refl
behind-front (x ∷ xs) rest = behind-front xs rest

pub so-many : (kept : Option (List Entry)) (j : List Entry) → IsFront kept j → AreSoMany kept (length j)
so-many None j h = tt
so-many (Some kept) j h = subst (λ (xs : List Entry). length j ≤ length xs) (sym h.1) (longer j h.0)

pub all-kept : (kept : Option (List Entry)) (j es : List Entry) → IsFront kept j → AreBehind kept (length j) es → AreKept kept (j ++ es)
all-kept None j es h b = tt
all-kept (Some kept) j es h b = ap (λ (xs : List Entry). j ++ xs) (b ∙ (ap (drop (length j)) h.1 ∙ behind-front j h.0)) ∙ sym h.1

pub start-cause : (kept : Option (List Entry)) (es : List Entry) (a b : ℕ) (f : StartCause) → AreKept kept es → IsEntryCause es f → IsStartCause kept a b f
start-cause kept es a b StoreFault k h = absurd h
start-cause kept es a b (BadEntry n) k h = (es, k, h)
start-cause kept es a b NoMemoryToStart k h = tt

-- ---- commands

held-more : (before after : Option (List Entry)) (fb fa : ℕ) (c d : Certainty) (j : List Entry) (e : Entry) → AreHeld false before c j → Appends before after fb fa e (Ok tt) → LeavesCertain before after c d e (Ok tt) → AreHeld false after d (j ++ e ∷ [])
held-more None after fb fa c d j e h k l = subst (λ (z : Option (List Entry)). AreHeld false z d (j ++ e ∷ [])) (sym k) tt
held-more (Some kept) after fb fa c d j e h k l =
    let is : kept ++ e ∷ [] ≡ j ++ e ∷ [] = ap (λ (xs : List Entry). xs ++ e ∷ []) h.0 in
    subst (λ (z : Option (List Entry)). AreHeld false z d (j ++ e ∷ [])) (sym k) (is, l ∙ (ap all_certain k ∙ ap (λ (xs : List Entry). all_certain (Some xs)) is))

pub known-kept : (stopped : Bool) (before after : Option (List Entry)) (fb fa : ℕ) (c d : Certainty) (j t : List Entry) (e : Entry) → stopped ≡ false → IsKept stopped before c j → acceptance j e ≡ None → Appends before after fb fa e (Ok tt) → LeavesCertain before after c d e (Ok tt) → t ≡ j ++ e ∷ []
    → IsKept stopped after d t
known-kept true before after fb fa c d j t e s h a p l is = absurd cc
known-kept false before after fb fa c d j t e s h a p l is =
    subst (λ (xs : List Entry). IsKept false after d xs) (sym is) (record { accepted = accepted-more [] j e h.accepted a; held = held-more before after fb fa c d j e h.held p l })

held-same : (before after : Option (List Entry)) (c d : Certainty) (j : List Entry) → after ≡ before → d ≡ c → AreHeld false before c j → AreHeld false after d j
held-same before after c d j e f h = subst (λ (z : Option (List Entry)). AreHeld false z d j) (sym e) (subst (λ (z : Certainty). AreHeld false before z j) (sym f) h)

one-doubtful : (before after : Option (List Entry)) (fb fa : ℕ) (c d : Certainty) (j : List Entry) (e : Entry) → AreHeld false before c j → Appends before after fb fa e (Err Failed) → LeavesCertain before after c d e (Err Failed) → AreHeld true after d j
one-doubtful None after fb fa c d j e h (inl same, rose) l = subst (λ (z : Option (List Entry)). AreHeld true z d j) (sym same) tt
one-doubtful None after fb fa c d j e h (inr more, rose) l = subst (λ (z : Option (List Entry)). AreHeld true z d j) (sym more) tt
one-doubtful (Some kept) after fb fa c d j e h (inl same, rose) l =
    subst (λ (z : Option (List Entry)). AreHeld true z d j) (sym same) (ap (λ (x : Certainty). x.certain) l ∙ ap Some h.0, ([], h.0 ∙ sym (append-nil j)))
one-doubtful (Some kept) after fb fa c d j e h (inr more, rose) l =
    subst (λ (z : Option (List Entry)). AreHeld true z d j) (sym more) (ap (λ (x : Certainty). x.certain) l ∙ ap Some h.0, (e ∷ [], ap (λ (xs : List Entry). xs ++ e ∷ []) h.0))

pub known-unkept : (stopped now : Bool) (before after : Option (List Entry)) (fb fa : ℕ) (c d : Certainty) (j t : List Entry) (e : Entry) (fault : KeepFault) → stopped ≡ false → now ≡ is_failed fault → IsKept stopped before c j → Appends before after fb fa e (Err fault)
    → LeavesCertain before after c d e (Err fault) → t ≡ j → IsKept now after d t
known-unkept true now before after fb fa c d j t e fault s n h p l is = absurd cc
known-unkept false now before after fb fa c d j t e Failed s n h p l is =
    subst (λ (xs : List Entry). IsKept now after d xs) (sym is) (subst (λ (z : Bool). IsKept z after d j) (sym n) (record { accepted = h.accepted; held = one-doubtful before after fb fa c d j e h.held p l }))
known-unkept false now before after fb fa c d j t e NoMemory s n h p l is =
    subst (λ (xs : List Entry). IsKept now after d xs) (sym is) (subst (λ (z : Bool). IsKept z after d j) (sym n) (record { accepted = h.accepted; held = held-same before after c d j p.0 l h.held }))

-- ---- settling

none-doubted : (o : Option Doubt) → doubted o ≡ None → o ≡ None
none-doubted None e = refl
none-doubted (Some d) e = absurd (cc)

doubted-settled : (b : Bool) (o : Option Doubt) → doubted (settled_doubt b o) ≡ doubted o
doubted-settled b None = refl
doubted-settled b (Some d) = refl

behind-certain : (b : Bool) (o : Option Doubt) (xs : List Entry) → (rest : List Entry) × (kept_with (settled_doubt b o) xs ≡ xs ++ rest)
behind-certain b None xs = ([], sym (append-nil xs))
behind-certain true (Some d) xs = (d.entry ∷ [], refl)
behind-certain false (Some d) xs = ([], sym (append-nil xs))

held-settled : (stopped b : Bool) (k : MemoryKeeper) (j : List Entry) → AreHeld stopped (Some (kept k)) (certainty k) j → AreHeld stopped (Some (kept (settled k b))) (certainty (settled k b)) j
held-settled true b k j h =
    let is : k.certain ≡ j = cc in
    let rest = behind-certain b k.doubtful k.certain in
    (h.0, (rest.0, rest.1 ∙ ap (λ (xs : List Entry). xs ++ rest.0) is))
held-settled false b k j h =
    let none : k.doubtful ≡ None = none-doubted k.doubtful (ap (λ (c : Certainty). c.doubtful) h.1) in
    let same : settled_doubt b k.doubtful ≡ k.doubtful = ap (settled_doubt b) none ∙ sym none in
    (ap (λ (o : Option Doubt). kept_with o k.certain) same ∙ h.0, ap (λ (o : Option Entry). record { certain = Some k.certain; doubtful = o }) (doubted-settled b k.doubtful) ∙ h.1)

pub kept-settled : (stopped b : Bool) (k m : MemoryKeeper) (j : List Entry) → m ≡ settled k b → IsKept stopped (Some (kept k)) (certainty k) j → IsKept stopped (Some (kept m)) (certainty m) j
kept-settled stopped b k m j e h = subst (λ (x : MemoryKeeper). IsKept stopped (Some (kept x)) (certainty x) j) (sym e) (record { accepted = h.accepted; held = held-settled stopped b k j h.held })
