-- What is sent next, by the entry that was found first.
use Rattle.std.proofs.Common.{◌≡◌, ℕ, zero, suc, ◌-◌, ◌<◌, ◌≤◌, Bool, true, false, List, [], ◌∷◌, length, slice_get, Option, Some, None, IsSome, refl, sym, ap, ◌∙◌, subst, cond, arith}
use Rattle.mos_fields.specs.declared.time.MosTime.{MosTime}
use Rattle.mos_edits.specs.Texts.{Text}
use Rattle.mos_edits.specs.declared.edit.Edit.{Edit}
use Rattle.mos_edits.proofs.Identifiers.{same-true}
use Rattle.mos_edits.specs.Entries.{Entry, entry_count, edit_at}
use Rattle.mos_machines.specs.Messages.{Packet}
use Rattle.mos_machines.specs.Server.{ServerOut, Upper, View, PeerState, beat_or_due, sent, next_by, peer_next}
use Rattle.mos_machines.specs.Server.View.{Out, Listed, In, From}
use Rattle.mos_machines.specs.Server.Upper.{Down, Greeting, Open}
use Rattle.mos_machines.specs.Server.ServerOut.{Idle, SendsEdit, SendsAgain, SendsScript, SendsBeat}
use Rattle.mos_machines.specs.Tables.{look, row_ids, PeerTables, peer_of}
use Rattle.mos_machines.specs.Values.{edit_message}
use Rattle.order_table.specs.Rows.{IsAscending, find_row, value_or}
use Rattle.order_table.proofs.Looked.{look-found}
use Rattle.rundown_log.specs.Positions.{positions}
use Rattle.rundown_log.proofs.PositionLemmas.{count-within, stands}
use Rattle.machine_answers.specs.declared.answers.Sent.TheVariants as sents
use Rattle.machine_answers.specs.declared.answers.Tag.TheVariants as tags
use Rattle.server_peer.specs.declared.due.Due.{Due}
use Rattle.server_peer.specs.declared.due.DueKind.{DueKind}
use Rattle.server_peer.specs.declared.due.DueKind.TheVariants as due
use Rattle.server_peer.specs.Parts.{idle_link, sent_of, sent_idle, IsNumbered}
use Rattle.server_peer.specs.Dues.{due_found, due_again, due_first, due_of, first_from, place_number, sent_number, kind_out, kind_tag, due_out, due_tag, out_at, out_due, IsScriptDue, IsSource}
use Rattle.server_peer.proofs.DueLemmas.{OfRow, due-stands, first-is, first-due}

found-kind : (number : ℕ) (kind : DueKind) (o : Option ℕ) (d : Due) → due_found number kind o ≡ Some d → (d.kind ≡ kind) × (d.number ≡ number)
found-kind number kind None d e = absurd (cc)
found-kind number kind (Some p) d e = let f : record { place = p; number = number; kind = kind } ≡ d = cc in (ap (λ (x : Due). x.kind) (sym f), ap (λ (x : Due). x.number) (sym f))

again-kind : (journal : List Entry) (r : Text) (m : ℕ) (kind : DueKind) (d : Due) → due_again journal r m kind ≡ Some d → (d.kind ≡ kind) × (d.number ≡ m)
again-kind journal r zero kind d e = absurd (cc)
again-kind journal r (suc n) kind d e = found-kind (suc n) kind (slice_get (positions r journal) n) d e

script-first : (journal : List Entry) (r : Text) (n : ℕ) (again : Bool) (scripts : List ℕ) (d : Due) (k : ℕ) (o : Option ℕ) → slice_get scripts 0 ≡ o → due_first journal r n again o ≡ Some d → d.kind ≡ due.Script k → d.number ≤ entry_count journal r → IsScriptDue journal r k (In n again scripts)
script-first journal r n again scripts d k (Some j) s e f w =
    let h = again-kind journal r n (due.Script j) d e in
    let g : due.Script j ≡ due.Script k = sym h.0 ∙ f in
    let j_is : j ≡ k = cc in
    record { n = n; again = again; scripts = scripts; is = refl; first = s ∙ ap (λ (x : ℕ). Some x) j_is; within = subst (λ (x : ℕ). x ≤ entry_count journal r) h.1 w }
script-first journal r n true scripts d k None s e f w = absurd (let h = again-kind journal r n due.Again d e in let g : due.Again ≡ due.Script k = sym h.0 ∙ f in cc)
script-first journal r n false scripts d k None s e f w = absurd (let h = found-kind n due.Edit (slice_get (positions r journal) n) d e in let g : due.Edit ≡ due.Script k = sym h.0 ∙ f in cc)

script-of : (journal : List Entry) (r : Text) (v : View) (d : Due) (k : ℕ) → due_of journal r v ≡ Some d → d.kind ≡ due.Script k → d.number ≤ entry_count journal r → IsScriptDue journal r k v
script-of journal r Out d k e f w = absurd (cc)
script-of journal r (Listed m ks) d k e f w = absurd (cc)
script-of journal r (In n again ks) d k e f w = script-first journal r n again ks d k (slice_get ks 0) refl e f w
script-of journal r (From n) d k e f w = absurd (let h = found-kind n due.Edit (slice_get (positions r journal) n) d e in let g : due.Edit ≡ due.Script k = sym h.0 ∙ f in cc)

module _ (journal : List Entry) (rows : List (Text × View)) (d : Due) (a : IsAscending (row_ids rows)) (e : first_from journal None rows ≡ Some d) where
  pub place-within : d.place < length journal
  place-within = let o = first-is journal rows d a e in (due-stands journal o.r (look Out rows o.r) d o.is).within

  row-of : (o : OfRow journal rows d) → IsSome (find_row o.r rows)
  row-of o = by (find_row o.r rows) (look-found Out o.r rows)
    where
      by : (f : Option View) → look Out rows o.r ≡ value_or Out f → IsSome f
      by None l = absurd (let h : due_of journal o.r Out ≡ Some d = subst (λ (v : View). due_of journal o.r v ≡ Some d) l o.is in cc)
      by (Some v) l = refl

  module _ (y : Entry) (t : slice_get journal d.place ≡ Some y) where
    pub row-there : IsSome (find_row y.ro rows)
    row-there =
        let o = first-is journal rows d a e in
        let s = due-stands journal o.r (look Out rows o.r) d o.is in
        let same : Some s.entry ≡ Some y = sym s.there ∙ t in
        let y_is : s.entry ≡ y = cc in
        subst (λ (r : Text). IsSome (find_row r rows)) (s.ro ∙ ap (λ (x : Entry). x.ro) y_is) (row-of o)

    pub edit-there : edit_at journal y.ro (place_number d.kind d.number) ≡ y.edit
    edit-there =
        let o = first-is journal rows d a e in
        let s = due-stands journal o.r (look Out rows o.r) d o.is in
        let same : Some s.entry ≡ Some y = sym s.there ∙ t in
        let y_is : s.entry ≡ y = cc in
        sym (ap (λ (x : Entry). x.edit) (sym y_is) ∙ (s.edit ∙ ap (λ (r : Text). edit_at journal r (place_number d.kind d.number)) (s.ro ∙ ap (λ (x : Entry). x.ro) y_is)))

    pub number-there : length journal ≤ 18446744073709551615 → IsNumbered (due_out y.ro d)
    number-there b = by d.kind refl
      where
        by : (kind : DueKind) → d.kind ≡ kind → IsNumbered (kind_out y.ro d.number kind)
        by due.Again f = tt
        by (due.Script k) f = tt
        by due.Edit f =
            let o = first-is journal rows d a e in
            let n : d.number < entry_count journal o.r = subst (λ (kind : DueKind). place_number kind d.number < entry_count journal o.r) f (due-stands journal o.r (look Out rows o.r) d o.is).numbered in
            let w = count-within o.r journal in
            omega (arith, n, w, b)

    -- where a script is due, it is the first of those that its view has
    pub script-there : (k : ℕ) → d.kind ≡ due.Script k → IsScriptDue journal y.ro k (look Out rows y.ro)
    script-there k f =
        let o = first-is journal rows d a e in
        let s = due-stands journal o.r (look Out rows o.r) d o.is in
        let same : Some s.entry ≡ Some y = sym s.there ∙ t in
        let y_is : s.entry ≡ y = cc in
        let n : place_number (due.Script k) d.number < entry_count journal o.r = subst (λ (kind : DueKind). place_number kind d.number < entry_count journal o.r) f s.numbered in
        subst (λ (r : Text). IsScriptDue journal r k (look Out rows r)) (s.ro ∙ ap (λ (x : Entry). x.ro) y_is) (script-of journal o.r (look Out rows o.r) d k o.is f (omega (arith, n)))

    -- its entry stands where the number of the order's entry says, and each other one at its own place
    pub script-source : (k place : ℕ) → d.kind ≡ due.Script k → slice_get (positions y.ro journal) k ≡ Some place → IsSource journal d place
    script-source k place f g =
        let s = stands 0 y.ro journal k place g in
        let at = s.place in
        let place_is : place ≡ s.m = omega (arith, at) in
        record {
          first = y;
          at = t;
          entry = s.entry;
          there = ap (slice_get journal) place_is ∙ s.there;
          ro = sym (same-true y.ro s.entry.ro s.ro);
          edit = s.edit ∙ ap (λ (kind : DueKind). edit_at journal y.ro (sent_number kind d.number)) (sym f);
        }

    pub place-source : sent_number d.kind d.number ≡ place_number d.kind d.number → IsSource journal d d.place
    place-source f = record { first = y; at = t; entry = y; there = t; ro = refl; edit = sym edit-there ∙ ap (edit_at journal y.ro) (sym f) }

pub record EntryAt (journal : List Entry) (n : ℕ) : Type 0 where
  pub entry : Entry
  pub there : slice_get journal n ≡ Some entry

pub entry-at : (journal : List Entry) (n : ℕ) → n < length journal → EntryAt journal n
entry-at [] n h = absurd (omega (arith, h))
entry-at (x ∷ xs) zero h = record { entry = x; there = refl }
entry-at (x ∷ xs) (suc n) h = let g = entry-at xs n (omega (arith, h)) in record { entry = g.entry; there = g.there }

within-by : (xs : List Entry) (n : ℕ) (y : Entry) → slice_get xs n ≡ Some y → n < length xs
within-by [] n y e = absurd (cc)
within-by (x ∷ xs) zero y e = omega arith
within-by (x ∷ xs) (suc n) y e = let w = within-by xs n y e in omega (arith, w)

pub source-within : (journal : List Entry) (d : Due) (place : ℕ) → IsSource journal d place → place < length journal
source-within journal d place s = within-by journal place s.entry s.there

idle-is : (u : Upper) (c : ℕ) → idle_link u ≡ Some c → u ≡ Open c Idle
idle-is Down c e = absurd (cc)
idle-is (Greeting b) c e = absurd (cc)
idle-is (Open b Idle) c e = ap (λ (x : ℕ). Open x Idle) (let f : b ≡ c = cc in f)
idle-is (Open b (SendsEdit r k)) c e = absurd (cc)
idle-is (Open b (SendsAgain r m)) c e = absurd (cc)
idle-is (Open b (SendsScript r k m)) c e = absurd (cc)
idle-is (Open b SendsBeat) c e = absurd (cc)

module _ (journal : List Entry) (now : MosTime) (p : PeerTables) (c : ℕ) (a : IsAscending (row_ids p.views)) (i : idle_link p.upper ≡ Some c) where
  next-open : peer_next journal now (peer_of p) ≡ sent journal now (peer_of p) c (beat_or_due p.note (out_due journal (first_from journal None p.views)))
  next-open =
      ap (λ (u : Upper). next_by journal now (peer_of p) u) (idle-is p.upper c i)
      ∙ ap (λ (o : ServerOut). sent journal now (peer_of p) c (beat_or_due p.note o)) (first-due journal p.views a)

  pub next-beat : first_from journal None p.views ≡ None → peer_next journal now (peer_of p) ≡ sent_idle now (peer_of p) c
  next-beat e = next-open ∙ (ap (λ (o : Option Due). sent journal now (peer_of p) c (beat_or_due p.note (out_due journal o))) e ∙ by p.note)
    where
      by : (b : Bool) → sent journal now (peer_of p) c (beat_or_due b Idle) ≡ sent [] now (peer_of p) c (beat_or_due b Idle)
      by true = refl
      by false = refl

  module _ (d : Due) (e : first_from journal None p.views ≡ Some d) (y : Entry) (t : slice_get journal d.place ≡ Some y) where
    next-due : peer_next journal now (peer_of p) ≡ sent journal now (peer_of p) c (beat_or_due p.note (due_out y.ro d))
    next-due = next-open ∙ (ap (λ (o : Option Due). sent journal now (peer_of p) c (beat_or_due p.note (out_due journal o))) e ∙ ap (λ (o : Option Entry). sent journal now (peer_of p) c (beat_or_due p.note (out_at d o))) t)

    next-answer : sent_of (peer_next journal now (peer_of p)).1 ≡ sents.Out (edit_message (edit_at journal y.ro (sent_number d.kind d.number))) (due_tag y.ro d)
    next-answer = ap (λ (x : PeerState × Option Packet). sent_of x.1) next-due ∙ by d.kind
      where
        by : (kind : DueKind) → sent_of (sent journal now (peer_of p) c (beat_or_due p.note (kind_out y.ro d.number kind))).1 ≡ sents.Out (edit_message (edit_at journal y.ro (sent_number kind d.number))) (kind_tag y.ro d.number kind)
        by due.Edit = refl
        by due.Again = refl
        by (due.Script k) = refl

    next-state : (peer_next journal now (peer_of p)).0 ≡ peer_of (record p { upper = Open c (due_out y.ro d) })
    next-state = ap (λ (x : PeerState × Option Packet). x.0) next-due ∙ by d.kind
      where
        by : (kind : DueKind) → (sent journal now (peer_of p) c (beat_or_due p.note (kind_out y.ro d.number kind))).0 ≡ peer_of (record p { upper = Open c (kind_out y.ro d.number kind) })
        by due.Edit = refl
        by due.Again = refl
        by (due.Script k) = refl

  -- the same by the entry that is sent
  module _ (d : Due) (e : first_from journal None p.views ≡ Some d) (place : ℕ) (s : IsSource journal d place) (z : Entry) (t : slice_get journal place ≡ Some z) where
    source-is : s.entry ≡ z
    source-is = let same : Some s.entry ≡ Some z = sym s.there ∙ t in cc

    source-ro : s.first.ro ≡ z.ro
    source-ro = sym s.ro ∙ ap (λ (x : Entry). x.ro) source-is

    pub source-row : IsSome (find_row z.ro p.views)
    source-row = subst (λ (r : Text). IsSome (find_row r p.views)) source-ro (row-there journal p.views d a e s.first s.at)

    pub source-number : length journal ≤ 18446744073709551615 → IsNumbered (due_out z.ro d)
    source-number b = subst (λ (r : Text). IsNumbered (due_out r d)) source-ro (number-there journal p.views d a e s.first s.at b)

    pub source-answer : sent_of (peer_next journal now (peer_of p)).1 ≡ sents.Out (edit_message z.edit) (due_tag z.ro d)
    source-answer = next-answer d e s.first s.at ∙ (λ k. sents.Out (edit_message ((sym s.edit ∙ ap (λ (x : Entry). x.edit) source-is) k)) (due_tag (source-ro k) d))

    pub source-state : (peer_next journal now (peer_of p)).0 ≡ peer_of (record p { upper = Open c (due_out z.ro d) })
    source-state = next-state d e s.first s.at ∙ ap (λ (r : Text). peer_of (record p { upper = Open c (due_out r d) })) source-ro
