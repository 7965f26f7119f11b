-- The laws of rejections alone.
use Rattle.std.proofs.Common.{◌≡◌, ℕ, ◌+◌, ◌<◌, true, List, [], ◌∷◌, ◌++◌, length, refl, sym, ap, subst, ◌∙◌, append_assoc, arith, ◌⊎◌, inl, inr}
use Rattle.std.specs.Prelude.{nat_lt, ◌&&◌}
use Rattle.std.proofs.lemmas.Bool.{and_parts}
use Rattle.std.proofs.lemmas.Bool.Decides.{nat_tests}
use Rattle.std.proofs.lemmas.List.{append-nil, append_cancel_left, append_cancel_right}
use Rattle.std.proofs.lemmas.List.Folds.{list_all-append}
use Rattle.mos_tables.specs.Events.{Event}
use Rattle.mos_lexer.specs.declared.kind.Kind.{Kind}
use Rattle.mos_lexer.specs.Encodings.{Encodes, AreEncodings}
use Rattle.mos_lexer.specs.Laws.{are_units, run_on}
use Rattle.mos_lexer.specs.Units.{Reader, start_reader, UnitStep, rejects, unit_step, UnitRun, still_reads, completed, rejected_at, then_units, unit_run, StreamReader, start_stream, StreamRun, reads_stream, rejects_stream, stream_units}
use Rattle.mos_lexer.proofs.UnitLaws.{encodings_read, pieces_one}
use Rattle.mos_rejections.specs.Rejections.{IsOpen, IsRejection}
use Rattle.mos_rejections.specs.Laws.{values, StreamIsExact, RejectionsAreRead, RejectionsAreOne, RejectionsAreApart, StreamRejectionsAreRead}
use Rattle.mos_rejections.proofs.Amp.{last_one}
use Rattle.mos_rejections.proofs.UnitReading.{UnitsAt, start_at, RunFacts, run_facts, streams_exact}
use Rattle.mos_rejections.proofs.OpenReads.{open_read}
use Rattle.mos_rejections.proofs.OneRejection.{shown_unit}

units_parts : (a b : List ℕ) → are_units (a ++ b) ≡ true → (are_units a ≡ true) × (are_units b ≡ true)
units_parts a b h = and_parts (are_units a) (are_units b) (sym (list_all-append (λ (u : ℕ). nat_lt u 65536) a b) ∙ h)

-- where the reader stands behind code units that begin a message
standing : (us : List ℕ) → are_units us ≡ true → IsOpen us → (s : Reader) × (unit_run start_reader us ≡ still_reads s) × UnitsAt us s
standing us w o = let r = open_read us o in (r.0, r.1, (subst (λ (z : UnitRun). RunFacts us z) r.1 (run_facts us [] start_reader start_at (omega arith) w)).0)

pub rejections_read : RejectionsAreRead
unfolding unit_run
rejections_read us rest place k w r =
    let a : are_units (r.before ++ r.last ∷ []) ≡ true = ap are_units (sym r.whole) ∙ w in
    let b = units_parts r.before (r.last ∷ []) a in
    let s = standing r.before b.0 r.open_before in
    let small : r.last < 65536 = (let c : (nat_lt r.last 65536 && true) ≡ true = b.1 in grind (arith, nat_tests)) in
    let step : unit_step s.0 r.last ≡ rejects place k = shown_unit r.before r.last s.0 s.2 small place k r.shows in
    ap (unit_run start_reader) (ap (λ (z : List ℕ). z ++ rest) r.whole ∙ append_assoc r.before (r.last ∷ []) rest) ∙ pieces_one start_reader r.before (r.last ∷ rest) ∙ ap (λ (z : UnitRun). run_on z (r.last ∷ rest)) s.1
    ∙ ap (λ (z : UnitStep). then_units z rest (λ t. unit_run t rest)) step

-- the same without what follows
read_alone : (us : List ℕ) (place : ℕ) (k : Kind) → are_units us ≡ true → IsRejection us place k → unit_run start_reader us ≡ rejected_at place k
read_alone us place k w r = ap (unit_run start_reader) (sym (append-nil us)) ∙ rejections_read us [] place k w r

no_open : {A : Type 0} (o : UnitRun) (s : Reader) (place : ℕ) (k : Kind) → o ≡ still_reads s → o ≡ rejected_at place k → A
no_open o s place k e f = absurd (no_same (sym e ∙ f))
  where
    no_same : still_reads s ≡ rejected_at place k → ⊥
    no_same e = cc

no_message : {A : Type 0} (o : UnitRun) (began : ℕ) (v : List Event) (rest : List ℕ) (place : ℕ) (k : Kind) → o ≡ completed began v rest → o ≡ rejected_at place k → A
no_message o began v rest place k e f = absurd (no_same (sym e ∙ f))
  where
    no_same : completed began v rest ≡ rejected_at place k → ⊥
    no_same e = cc

-- ---- one front

-- a list is empty or has a last element
ends_or_none : (m : List ℕ) → (m ≡ []) ⊎ ((n : List ℕ) × (d : ℕ) × (m ≡ n ++ d ∷ []))
ends_or_none [] = inl refl
ends_or_none (c ∷ m) = inr (go (ends_or_none m))
  where
    go : (m ≡ []) ⊎ ((n : List ℕ) × (d : ℕ) × (m ≡ n ++ d ∷ [])) → (n : List ℕ) × (d : ℕ) × (c ∷ m ≡ n ++ d ∷ [])
    go (inl e) = ([], c, ap (λ (z : List ℕ). c ∷ z) e)
    go (inr h) = (c ∷ h.0, h.1, ap (λ (z : List ℕ). c ∷ z) h.2)

-- of two fronts one begins the other
one_begins : (x y a b : List ℕ) → x ++ a ≡ y ++ b → ((m : List ℕ) × (y ≡ x ++ m)) ⊎ ((m : List ℕ) × (x ≡ y ++ m))
one_begins [] y a b e = inl (y, refl)
one_begins (c ∷ x) [] a b e = inr (c ∷ x, refl)
one_begins (c ∷ x) (d ∷ y) a b e = go (one_begins x y a b h.1)
  where
    heads : (c d : ℕ) (x y : List ℕ) → (c ∷ x) ≡ (d ∷ y) → (c ≡ d) × (x ≡ y)
    heads c d x y e = (cc, cc)

    h : (c ≡ d) × (x ++ a ≡ y ++ b)
    h = heads c d (x ++ a) (y ++ b) e

    go : ((m : List ℕ) × (y ≡ x ++ m)) ⊎ ((m : List ℕ) × (x ≡ y ++ m)) → ((m : List ℕ) × (d ∷ y ≡ c ∷ (x ++ m))) ⊎ ((m : List ℕ) × (c ∷ x ≡ d ∷ (y ++ m)))
    go (inl k) = inl (k.0, ap (λ (z : ℕ). z ∷ y) (sym h.0) ∙ ap (λ (z : List ℕ). c ∷ z) k.1)
    go (inr k) = inr (k.0, ap (λ (z : ℕ). z ∷ x) h.0 ∙ ap (λ (z : List ℕ). d ∷ z) k.1)

-- a rejection begins no longer one
begins_none : (us m : List ℕ) (p q : ℕ) (k l : Kind) → are_units us ≡ true → IsRejection us p k → IsRejection (us ++ m) q l → m ≡ []
begins_none us m p q k l w r t = go (ends_or_none m)
  where
    go : (m ≡ []) ⊎ ((n : List ℕ) × (d : ℕ) × (m ≡ n ++ d ∷ [])) → m ≡ []
    go (inl e) = e
    go (inr h) =
        let e : t.before ≡ us ++ h.0 = (last_one t.before (us ++ h.0) t.last h.1 (sym t.whole ∙ ap (λ (z : List ℕ). us ++ z) h.2 ∙ sym (append_assoc us h.0 (h.1 ∷ [])))).0 in
        let s = open_read t.before t.open_before in
        no_open (unit_run start_reader t.before) s.0 p k s.1 (ap (unit_run start_reader) e ∙ rejections_read us h.0 p k w r)

same_rejection : (p q : ℕ) (k l : Kind) → rejected_at p k ≡ rejected_at q l → (p ≡ q) × (k ≡ l)
same_rejection p q k l e = (cc, cc)

pub rejections_one : RejectionsAreOne
rejections_one us vs a b p q k l wu wv e r t =
    let s = same_rejection p q k l (sym (rejections_read us a p k wu r) ∙ ap (unit_run start_reader) e ∙ rejections_read vs b q l wv t) in
    (go (one_begins us vs a b e), s.0, s.1)
  where
    go : ((m : List ℕ) × (vs ≡ us ++ m)) ⊎ ((m : List ℕ) × (us ≡ vs ++ m)) → us ≡ vs
    go (inl h) = let i : h.0 ≡ [] = begins_none us h.0 p q k l wu r (subst (λ (z : List ℕ). IsRejection z q l) h.1 t) in sym (h.1 ∙ ap (λ (z : List ℕ). us ++ z) i ∙ append-nil us)
    go (inr h) = let i : h.0 ≡ [] = begins_none vs h.0 q p l k wv t (subst (λ (z : List ℕ). IsRejection z p k) h.1 r) in h.1 ∙ ap (λ (z : List ℕ). vs ++ z) i ∙ append-nil vs

pub rejections_apart : RejectionsAreApart
rejections_apart us more place k w r = (opened, message, front)
  where
    opened : IsOpen (us ++ more) → ⊥
    opened o = let s = open_read (us ++ more) o in no_open (unit_run start_reader (us ++ more)) s.0 place k s.1 (rejections_read us more place k w r)

    message : (v : List Event) → Encodes v (us ++ more) → ⊥
    message v e = let c = encodings_read v (us ++ more) [] e in no_message (unit_run start_reader (us ++ more)) c.0 v [] place k (ap (unit_run start_reader) (sym (append-nil (us ++ more))) ∙ c.1) (rejections_read us more place k w r)

    front : (v : List Event) (x r : List ℕ) → us ≡ x ++ r → Encodes v x → ⊥
    front v x b i e = let c = encodings_read v x b e in no_message (unit_run start_reader us) c.0 v b place k (ap (unit_run start_reader) i ∙ c.1) (read_alone us place k w r)

-- ---- streams

-- no message stands at the front
abbrev NoMessage : List ℕ → Type 0
NoMessage a = (v : List Event) (x r : List ℕ) → a ≡ x ++ r → Encodes v x → ⊥

same_message : (i j : ℕ) (v w : List Event) (x y : List ℕ) → completed i v x ≡ completed j w y → (v ≡ w) × (x ≡ y)
same_message i j v w x y e = (cc, cc)

-- messages up to where none stands are the same
stream_one : (vs ws : List (List Event)) (x y a b : List ℕ) → AreEncodings vs x → AreEncodings ws y → x ++ a ≡ y ++ b → NoMessage a → NoMessage b → (vs ≡ ws) × (x ≡ y)
stream_one [] [] x y a b h k e f g = (refl, h ∙ sym k)
stream_one [] (w ∷ ws) x y a b h k e f g =
    absurd (f w k.0 (k.1 ++ b) (ap (λ (z : List ℕ). z ++ a) (sym h) ∙ e ∙ ap (λ (z : List ℕ). z ++ b) k.3 ∙ append_assoc k.0 k.1 b) k.2)
stream_one (v ∷ vs) [] x y a b h k e f g =
    absurd (g v h.0 (h.1 ++ a) (ap (λ (z : List ℕ). z ++ b) (sym k) ∙ sym e ∙ ap (λ (z : List ℕ). z ++ a) h.3 ∙ append_assoc h.0 h.1 a) h.2)
stream_one (v ∷ vs) (w ∷ ws) x y a b h k e f g =
    let i : h.0 ++ (h.1 ++ a) ≡ k.0 ++ (k.1 ++ b) = sym (append_assoc h.0 h.1 a) ∙ ap (λ (z : List ℕ). z ++ a) (sym h.3) ∙ e ∙ ap (λ (z : List ℕ). z ++ b) k.3 ∙ append_assoc k.0 k.1 b in
    let m = encodings_read v h.0 (h.1 ++ a) h.2 in
    let n = encodings_read w k.0 (k.1 ++ b) k.2 in
    let o = same_message m.0 n.0 v w (h.1 ++ a) (k.1 ++ b) (sym m.1 ∙ ap (unit_run start_reader) i ∙ n.1) in
    let c : h.0 ≡ k.0 = append_cancel_right h.0 k.0 (k.1 ++ b) (ap (λ (z : List ℕ). h.0 ++ z) (sym o.1) ∙ i) in
    let r = stream_one vs ws h.1 k.1 a b h.4 k.4 o.1 f g in
    (ap (λ (z : List Event). z ∷ vs) o.0 ∙ ap (λ (z : List (List Event)). w ∷ z) r.0, h.3 ∙ ap (λ (z : List ℕ). z ++ h.1) c ∙ ap (λ (z : List ℕ). k.0 ++ z) r.1 ∙ sym k.3)

-- no message stands at the front of what shows a rejection, or of what begins a message
rejection_no_message : (us rest : List ℕ) (place : ℕ) (k : Kind) → are_units us ≡ true → IsRejection us place k → NoMessage (us ++ rest)
rejection_no_message us rest place k w r v x b i e = let c = encodings_read v x b e in no_message (unit_run start_reader (us ++ rest)) c.0 v b place k (ap (unit_run start_reader) i ∙ c.1) (rejections_read us rest place k w r)

open_no_message : (us : List ℕ) → IsOpen us → NoMessage us
open_no_message us o v x b i e =
    let s = open_read us o in
    let c = encodings_read v x b e in
    no_same s.0 c.0 (sym s.1 ∙ ap (unit_run start_reader) i ∙ c.1)
  where
    no_same : (s : Reader) (j : ℕ) → still_reads s ≡ completed j v b → ⊥
    no_same s j e = cc

pub stream_rejections_read : StreamRejectionsAreRead
stream_rejections_read vs x us rest near k w enc r = go (stream_units start_stream (x ++ (us ++ rest))) refl (streams_exact (x ++ (us ++ rest)) w)
  where
    wu : are_units us ≡ true
    wu = (units_parts us rest (units_parts x (us ++ rest) w).1).0

    go : (o : StreamRun) → stream_units start_stream (x ++ (us ++ rest)) ≡ o → StreamIsExact (x ++ (us ++ rest)) o → (s : StreamReader) × (stream_units start_stream (x ++ (us ++ rest)) ≡ rejects_stream s (length x + near) k) × (values s.ready ≡ vs)
    go (reads_stream s) i h =
        let m = stream_one vs (values s.ready) x h.0 (us ++ rest) h.1 enc h.3 h.2 (rejection_no_message us rest near k wu r) (open_no_message h.1 h.5) in
        let b : us ++ rest ≡ h.1 = append_cancel_left x (us ++ rest) h.1 (h.2 ∙ ap (λ (z : List ℕ). z ++ h.1) (sym m.1)) in
        let o = open_read h.1 h.5 in
        no_open (unit_run start_reader (us ++ rest)) o.0 near k (ap (unit_run start_reader) b ∙ o.1) (rejections_read us rest near k wu r)
    go (rejects_stream s place l) i h =
        let wr : are_units h.1 ≡ true = (units_parts h.1 h.2 (units_parts h.0 (h.1 ++ h.2) (ap are_units (sym h.4) ∙ w)).1).0 in
        let m = stream_one vs (values s.ready) x h.0 (us ++ rest) (h.1 ++ h.2) enc h.5 h.4 (rejection_no_message us rest near k wu r) (rejection_no_message h.1 h.2 h.3 l wr h.7) in
        let b : us ++ rest ≡ h.1 ++ h.2 = append_cancel_left x (us ++ rest) (h.1 ++ h.2) (h.4 ∙ ap (λ (z : List ℕ). z ++ (h.1 ++ h.2)) (sym m.1)) in
        let q = rejections_one us h.1 rest h.2 near h.3 k l wu wr b r h.7 in
        (s, i ∙ ap (λ (z : ℕ). rejects_stream s z l) (h.6 ∙ ap (λ (z : List ℕ). length z + h.3) (sym m.1) ∙ ap (λ (z : ℕ). length x + z) (sym q.1)) ∙ ap (rejects_stream s (length x + near)) (sym q.2), sym m.0)
