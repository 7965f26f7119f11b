-- What is known of a keeper beside which a journal stands in memory.
use Rattle.std.proofs.Common.{◌≡◌, ℕ, Bool, true, false, List, [], ◌∷◌, ◌++◌, Option, Some, None, Ok, Err, inl, inr, refl, sym, ap, ◌∙◌, subst}
use Rattle.std.proofs.lemmas.List.{append-nil}
use Rattle.mos_edits.specs.Entries.{Entry}
use Rattle.rundown_log.specs.Keeping.{Appends, AreHeld, AreKept, Certainty, IsFront, LeavesCertain, all_certain}
use Rattle.rundown_log.specs.Memory.{Doubt, MemoryKeeper, certainty, doubted, kept, kept_with, settled, settled_doubt}
use Rattle.rundown_log.specs.declared.keeper.KeepFault.TheVariants.{Failed}

-- all that is kept was loaded
pub held-loaded : (kept now : Option (List Entry)) (c : Certainty) (j : List Entry) → now ≡ kept → c ≡ all_certain kept → AreKept kept j → AreHeld false now c j
held-loaded kept now c j same is k = subst (λ (o : Option (List Entry)). AreHeld false o c j) (sym same) (by kept k is)
  where
    by : (o : Option (List Entry)) → AreKept o j → c ≡ all_certain o → AreHeld false o c j
    by None k e = tt
    by (Some xs) k e = (sym k, e ∙ ap (λ (ys : List Entry). all_certain (Some ys)) (sym k))

-- the journal is the front of what is kept
pub held-front : (stopped : Bool) (kept : Option (List Entry)) (c : Certainty) (j : List Entry) → AreHeld stopped kept c j → IsFront kept j
held-front stopped None c j h = tt
held-front true (Some xs) c j h = h.1
held-front false (Some xs) c j h = ([], h.0 ∙ sym (append-nil j))

-- one more entry was kept
pub held-more : (before after : Option (List Entry)) (fb fa : ℕ) (c d : Certainty) (j : List Entry) (e : Entry) → AreHeld false before c j → Appends before after fb fa e (Ok tt) → LeavesCertain before after c d e (Ok tt) → AreHeld false after d (j ++ e ∷ [])
held-more None after fb fa c d j e h k l = subst (λ (z : Option (List Entry)). AreHeld false z d (j ++ e ∷ [])) (sym k) tt
held-more (Some kept) after fb fa c d j e h k l =
    let is : kept ++ e ∷ [] ≡ j ++ e ∷ [] = ap (λ (xs : List Entry). xs ++ e ∷ []) h.0 in
    subst (λ (z : Option (List Entry)). AreHeld false z d (j ++ e ∷ [])) (sym k) (is, l ∙ (ap all_certain k ∙ ap (λ (xs : List Entry). all_certain (Some xs)) is))

-- none was
pub held-same : (before after : Option (List Entry)) (c d : Certainty) (j : List Entry) → after ≡ before → d ≡ c → AreHeld false before c j → AreHeld false after d j
held-same before after c d j e f h = subst (λ (z : Option (List Entry)). AreHeld false z d j) (sym e) (subst (λ (z : Certainty). AreHeld false before z j) (sym f) h)

-- an append failed: its entry is in doubt
pub held-doubtful : (before after : Option (List Entry)) (fb fa : ℕ) (c d : Certainty) (j : List Entry) (e : Entry) → AreHeld false before c j → Appends before after fb fa e (Err Failed) → LeavesCertain before after c d e (Err Failed) → AreHeld true after d j
held-doubtful None after fb fa c d j e h (inl same, rose) l = subst (λ (z : Option (List Entry)). AreHeld true z d j) (sym same) tt
held-doubtful None after fb fa c d j e h (inr more, rose) l = subst (λ (z : Option (List Entry)). AreHeld true z d j) (sym more) tt
held-doubtful (Some kept) after fb fa c d j e h (inl same, rose) l =
    subst (λ (z : Option (List Entry)). AreHeld true z d j) (sym same) (ap (λ (x : Certainty). x.certain) l ∙ ap Some h.0, ([], h.0 ∙ sym (append-nil j)))
held-doubtful (Some kept) after fb fa c d j e h (inr more, rose) l =
    subst (λ (z : Option (List Entry)). AreHeld true z d j) (sym more) (ap (λ (x : Certainty). x.certain) l ∙ ap Some h.0, (e ∷ [], ap (λ (xs : List Entry). xs ++ e ∷ []) h.0))

-- ---- the entry in doubt is settled

none-doubted : (o : Option Doubt) → doubted o ≡ None → o ≡ None
none-doubted None e = refl
none-doubted (Some d) e = absurd (cc)

doubted-settled : (b : Bool) (o : Option Doubt) → doubted (settled_doubt b o) ≡ doubted o
doubted-settled b None = refl
doubted-settled b (Some d) = refl

behind-certain : (b : Bool) (o : Option Doubt) (xs : List Entry) → (rest : List Entry) × (kept_with (settled_doubt b o) xs ≡ xs ++ rest)
behind-certain b None xs = ([], sym (append-nil xs))
behind-certain true (Some d) xs = (d.entry ∷ [], refl)
behind-certain false (Some d) xs = ([], sym (append-nil xs))

pub held-settled : (stopped b : Bool) (k : MemoryKeeper) (j : List Entry) → AreHeld stopped (Some (kept k)) (certainty k) j → AreHeld stopped (Some (kept (settled k b))) (certainty (settled k b)) j
held-settled true b k j h =
    let is : k.certain ≡ j = cc in
    let rest = behind-certain b k.doubtful k.certain in
    (h.0, (rest.0, rest.1 ∙ ap (λ (xs : List Entry). xs ++ rest.0) is))
held-settled false b k j h =
    let none : k.doubtful ≡ None = none-doubted k.doubtful (ap (λ (c : Certainty). c.doubtful) h.1) in
    let same : settled_doubt b k.doubtful ≡ k.doubtful = ap (settled_doubt b) none ∙ sym none in
    (ap (λ (o : Option Doubt). kept_with o k.certain) same ∙ h.0, ap (λ (o : Option Entry). record { certain = Some k.certain; doubtful = o }) (doubted-settled b k.doubtful) ∙ h.1)
