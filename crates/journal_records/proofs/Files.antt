-- Files of records, and what they stand for.
use Rattle.std.proofs.Common.{◌≡◌, ◌≢◌, ◌⊎◌, inl, inr, ℕ, zero, suc, ◌<◌, List, [], ◌∷◌, ◌++◌, length, drop, refl, sym, ◌∙◌, ap, subst, arith, append_assoc, length-append}
use Rattle.std.proofs.lemmas.Bool.{cases_eq}
use Rattle.std.proofs.lemmas.List.Elements.{All-append}
use Rattle.std.specs.Prelude.{All}
use Rattle.mos_edits.specs.Entries.{Entry}
use Rattle.journal_bytes.specs.Journals.{entry_bytes}
use Rattle.entry_spellings.specs.Spellings.{Spells}
use Rattle.journal_records.specs.Records.{length_bytes, record_bytes, records, staged, at_rest, IsWritable, IsRecord, BeginsNoRecord, Scans, ScansAlike}
use Rattle.journal_records.proofs.Lengths.{length-length_bytes, same_length}
use Rattle.journal_records.proofs.Fields.{same_front, other_byte, no_byte, records-push, all_one}

all_first : (e : Entry) (es : List Entry) → All IsWritable (e ∷ es) → IsWritable e
all_first e es all = all zero e (omega arith)

all_rest : (e : Entry) (es : List Entry) → All IsWritable (e ∷ es) → All IsWritable es
all_rest e es all k d within = all (suc k) d (omega (arith, within))

-- a record with more behind it
whole : (f : Entry) (fs : List Entry) (x y : List ℕ) → All IsWritable (f ∷ fs) → 0 < length y → x ≡ records (f ∷ fs) ++ y → IsRecord x f (records fs ++ y)
whole f fs x y all more e = record {
  split = e ∙ append_assoc (record_bytes f) (records fs) y;
  writable = all_first f fs all;
  more = omega (arith, more, length-append (records fs) y);
}

-- what two records at the front of the same bytes have behind the byte 1
split_two : (e f : Entry) (x y : List ℕ) → record_bytes e ++ x ≡ record_bytes f ++ y → length_bytes (length (entry_bytes e)) ++ (entry_bytes e ++ x) ≡ length_bytes (length (entry_bytes f)) ++ (entry_bytes f ++ y)
split_two e f x y is =
    sym (append_assoc (length_bytes (length (entry_bytes e))) (entry_bytes e) x)
    ∙ (ap (λ (l : List ℕ). drop 1 l) is ∙ append_assoc (length_bytes (length (entry_bytes f))) (entry_bytes f) y)

-- the law that bytes are the spelling of one entry at most
module _ (one : (bytes : List ℕ) (e f : Entry) → Spells bytes e → Spells bytes f → e ≡ f) where
  same_first : (e f : Entry) (x y : List ℕ) → IsWritable e → IsWritable f → record_bytes e ++ x ≡ record_bytes f ++ y → (e ≡ f) × (x ≡ y)
  same_first e f x y a b is =
      let fields = same_front (length_bytes (length (entry_bytes e))) (length_bytes (length (entry_bytes f))) (entry_bytes e ++ x) (entry_bytes f ++ y)
      (length-length_bytes (length (entry_bytes e)) ∙ sym (length-length_bytes (length (entry_bytes f)))) (split_two e f x y is) in
      let messages = same_front (entry_bytes e) (entry_bytes f) x y (same_length (length (entry_bytes e)) (length (entry_bytes f)) a.fits b.fits fields.0) fields.1 in
      (one (entry_bytes f) e f (subst (λ (l : List ℕ). Spells l e) messages.0 a.spelled) b.spelled, messages.1)

  one_list : (es fs : List Entry) (x y : List ℕ) → All IsWritable es → All IsWritable fs → (0 < length es → 0 < length x) → (0 < length fs → 0 < length y)
      → BeginsNoRecord x → BeginsNoRecord y → records es ++ x ≡ records fs ++ y → es ≡ fs
  one_list [] [] x y all also stays remains over done is = refl
  one_list [] (f ∷ fs) x y all also stays remains over done is = absurd (over f (records fs ++ y) (whole f fs x y also (remains (omega arith)) is))
  one_list (e ∷ es) [] x y all also stays remains over done is = absurd (done e (records es ++ x) (whole e es y x all (stays (omega arith)) (sym is)))
  one_list (e ∷ es) (f ∷ fs) x y all also stays remains over done is =
      let both = same_first e f (records es ++ x) (records fs ++ y) (all_first e es all) (all_first f fs also)
      (sym (append_assoc (record_bytes e) (records es) x) ∙ (is ∙ append_assoc (record_bytes f) (records fs) y)) in
      let rest = one_list es fs x y (all_rest e es all) (all_rest f fs also) (λ some. stays (omega arith)) (λ some. remains (omega arith)) over done both.1 in
      ap (λ (z : Entry). z ∷ es) both.0 ∙ ap (λ (l : List Entry). f ∷ l) rest

  -- a file stands for one list of entries
  pub scans_one : (bytes : List ℕ) (es fs : List Entry) → Scans bytes es → Scans bytes fs → es ≡ fs
  scans_one bytes es fs s t = one_list es fs s.end t.end s.writable t.writable s.stays t.stays s.over t.over (sym s.split ∙ t.split)

  pub scans_alike : (c d : List ℕ) (es : List Entry) → Scans c es → Scans d es → ScansAlike c d
  scans_alike c d es s t fs = (λ u. subst (Scans d) (scans_one c es fs s u) t, λ u. subst (Scans c) (scans_one d es fs t u) s)

-- one byte alone begins no record
lone_byte : (x : ℕ) → BeginsNoRecord (x ∷ [])
lone_byte x e more is =
    let sizes = ap length is.split ∙ length-append (record_bytes e) more in
    let inner = length-append (length_bytes (length (entry_bytes e))) (entry_bytes e) in
    omega (arith, sizes, inner, length-length_bytes (length (entry_bytes e)))

pub scans_end : (es : List Entry) (x : ℕ) (rest : List ℕ) → All IsWritable es → BeginsNoRecord (x ∷ rest) → Scans (records es ++ x ∷ rest) es
scans_end es x rest all over = record { end = x ∷ rest; split = refl; writable = all; stays = λ some. omega arith; over = over }

pub scans_other : (es : List Entry) (x : ℕ) (rest : List ℕ) → All IsWritable es → x ≢ 1 → Scans (records es ++ x ∷ rest) es
scans_other es x rest all other = scans_end es x rest all (other_byte x rest other)

pub scans_lone : (es : List Entry) (x : ℕ) → All IsWritable es → Scans (records es ++ x ∷ []) es
scans_lone es x all = scans_end es x [] all (lone_byte x)

pub scans_at_rest : (es : List Entry) → All IsWritable es → Scans (at_rest es) es
scans_at_rest es all = scans_lone es 0 all

pub scans_nothing : (es : List Entry) → length es ≡ 0 → Scans [] es
scans_nothing [] none = record { end = []; split = refl; writable = λ k d within. absurd (omega (arith, within)); stays = λ some. omega (arith, some); over = no_byte }
scans_nothing (e ∷ es) none = absurd (omega (arith, none))

pub all_push : (es : List Entry) (e : Entry) → All IsWritable es → IsWritable e → All IsWritable (es ++ e ∷ [])
all_push es e all also = All-append IsWritable es (e ∷ []) all (all_one e also)

-- a byte 1 in front of what an append wrote makes it a record
pub at_rest-push : (es : List Entry) (e : Entry) → records es ++ 1 ∷ staged e ≡ at_rest (es ++ e ∷ [])
at_rest-push es e =
    let front : 1 ∷ staged e ≡ record_bytes e ++ 0 ∷ [] = ap (λ (l : List ℕ). 1 ∷ l) (sym (append_assoc (length_bytes (length (entry_bytes e))) (entry_bytes e) (0 ∷ []))) in
    ap (λ (l : List ℕ). records es ++ l) front ∙ (sym (append_assoc (records es) (record_bytes e) (0 ∷ [])) ∙ ap (λ (l : List ℕ). l ++ 0 ∷ []) (sym (records-push es e)))

-- whatever byte stands there, the record counts or it doesn't
pub scans_either : (es : List Entry) (e : Entry) (x : ℕ) → All IsWritable es → IsWritable e → Scans (records es ++ x ∷ staged e) es ⊎ Scans (records es ++ x ∷ staged e) (es ++ e ∷ [])
scans_either es e x all also = elim (cases_eq x 1) [
  | inl one ↦ inr (subst (λ (f : List ℕ). Scans f (es ++ e ∷ [])) (sym (at_rest-push es e) ∙ ap (λ (k : ℕ). records es ++ k ∷ staged e) (sym one)) (scans_at_rest (es ++ e ∷ []) (all_push es e all also)))
  | inr other ↦ inl (scans_other es x (staged e) all other)
]
