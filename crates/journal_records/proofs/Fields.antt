-- How a record begins.
use Rattle.std.proofs.Common.{◌≡◌, ◌≢◌, inl, inr, ℕ, zero, suc, ◌<◌, ◌≤◌, ◌+◌, ◌-◌, ◌^◌, List, [], ◌∷◌, ◌++◌, length, take, drop, get_or, refl, sym, ◌∙◌, ap, subst, arith, append_assoc, length-append, length-drop, take-append-drop}
use Rattle.std.proofs.lemmas.Bool.{cases_lt}
use Rattle.std.proofs.lemmas.List.Elements.{All-append}
use Rattle.std.proofs.lemmas.List.{append-nil, get_or_past, append_cancel_left, take_at, length-take, get_or-take, drop-drop}
use Rattle.std.specs.Int.{from_be_bytes, w64}
use Rattle.std.specs.Prelude.{Some, None, All}
use Rattle.mos_edits.specs.Entries.{Entry}
use Rattle.journal_bytes.specs.Journals.{entry_bytes}
use Rattle.entry_spellings.specs.Spellings.{Spells, SpellsNone}
use Rattle.journal_records.specs.Records.{length_bytes, record_bytes, IsWritable, IsRecord, BeginsNoRecord, records, HasLength, HasMessage, HasFirst, HasScanned, IsScan}
use Rattle.journal_records.proofs.Lengths.{length-length_bytes, same_length, length_read}

-- two lists of one length at the front are one list, and so is what is behind
pub same_front : (a b x y : List ℕ) → length a ≡ length b → a ++ x ≡ b ++ y → (a ≡ b) × (x ≡ y)
same_front a b x y long e =
    let front : a ≡ b = sym (take_at a x (length a) refl) ∙ (ap (λ (l : List ℕ). take (length a) l) e ∙ take_at b y (length a) (sym long)) in
    (front, append_cancel_left b x y (ap (λ (l : List ℕ). l ++ x) (sym front) ∙ e))

pub has_length : (rest : List ℕ) (n : ℕ) → 8 ≤ length rest → ((i : ℕ) → get_or rest i 0 < 256) → n < 2 ^ 64 → n ≡ from_be_bytes w64 (take 8 rest) → HasLength rest (Some n)
has_length rest n long bytes fits is =
    (fits, sym (ap (λ (l : List ℕ). l ++ drop 8 rest) (length_read (take 8 rest) n eight small is) ∙ take-append-drop 8 rest))
  where
    eight : length (take 8 rest) ≡ 8
    eight = length-take 8 rest ∙ omega (arith, long)

    small : (i : ℕ) → get_or (take 8 rest) i 0 < 256
    small i = elim (cases_lt i 8) [
      | inl within ↦ subst (λ (b : ℕ). b < 256) (sym (get_or-take 8 rest i 0 within)) (bytes i)
      | inr past ↦ subst (λ (b : ℕ). b < 256) (sym (get_or_past (take 8 rest) i 0 (omega (arith, past, eight)))) (omega arith)
    ]

parts_of : (k n : ℕ) (l : List ℕ) → take n (drop k l) ++ drop (k + n) l ≡ drop k l
parts_of k n l = ap (λ (x : List ℕ). take n (drop k l) ++ x) (sym (drop-drop n k l)) ∙ take-append-drop n (drop k l)

pub at_least : (rest : List ℕ) (n : ℕ) → HasLength rest (Some n) → 8 ≤ length rest
at_least rest n has = let sizes = ap length has.1 ∙ length-append (length_bytes n) (drop 8 rest) in omega (arith, sizes, length-length_bytes n)

pub has_message : (rest : List ℕ) (n : ℕ) → HasLength rest (Some n) → n < length rest - 8 → HasMessage rest (Some n)
has_message rest n has more =
    let parts : take n (drop 8 rest) ++ drop (8 + n) rest ≡ drop 8 rest = parts_of 8 n rest in
    (has.0, has.1 ∙ ap (λ (l : List ℕ). length_bytes n ++ l) (sym parts), omega (arith, more))

pub has_no_length : (rest : List ℕ) → HasLength rest None → HasMessage rest None
has_no_length rest short message more fits some is =
    let long = ap length is ∙ length-append (length_bytes (length message)) (message ++ more) in
    omega (arith, short, long, length-length_bytes (length message))

pub has_no_message : (rest : List ℕ) (n : ℕ) → HasLength rest (Some n) → length rest - 8 ≤ n → HasMessage rest None
has_no_message rest n has few message more fits some is =
    let parts = same_front (length_bytes n) (length_bytes (length message)) (drop 8 rest) (message ++ more) (length-length_bytes n ∙ sym (length-length_bytes (length message))) (sym has.1 ∙ is) in
    let same = same_length n (length message) has.0 fits parts.0 in
    let sizes : length (drop 8 rest) ≡ length message + length more = ap length parts.1 ∙ length-append message more in
    omega (arith, sizes, same, few, some, length-drop 8 rest)

length-message : (rest : List ℕ) (n : ℕ) → 8 + n < length rest → length (take n (drop 8 rest)) ≡ n
length-message rest n within = length-take n (drop 8 rest) ∙ omega (arith, within, length-drop 8 rest)

-- a message that is an entry's spelling makes a record
pub is_first : (rest : List ℕ) (n : ℕ) (e : Entry) → HasMessage rest (Some n) → Spells (take n (drop 8 rest)) e → IsRecord (1 ∷ rest) e (drop (8 + n) rest)
is_first rest n e has spells =
    let message = take n (drop 8 rest) in
    let behind = drop (8 + n) rest in
    let long : n ≡ length (entry_bytes e) = sym (length-message rest n has.2) ∙ ap length spells.spelled in
    let split : rest ≡ (length_bytes (length (entry_bytes e)) ++ entry_bytes e) ++ behind =
    has.1 ∙ (ap (λ (k : ℕ). length_bytes k ++ (message ++ behind)) long
    ∙ (ap (λ (m : List ℕ). length_bytes (length (entry_bytes e)) ++ (m ++ behind)) spells.spelled
    ∙ sym (append_assoc (length_bytes (length (entry_bytes e))) (entry_bytes e) behind))) in
    record {
      split = ap (λ (l : List ℕ). 1 ∷ l) split;
      writable = record { spelled = subst (λ (l : List ℕ). Spells l e) spells.spelled spells; fits = subst (λ (k : ℕ). k < 2 ^ 64) long has.0 };
      more = omega (arith, has.2, length-drop (8 + n) rest);
    }

pub first_found : (rest message : List ℕ) (n : ℕ) (e : Entry) → HasMessage rest (Some n) → message ≡ take n (drop 8 rest) → Spells message e → HasFirst (1 ∷ rest) (Some (e, 9 + n))
first_found rest message n e has is spells =
    let more : suc (8 + n) ≡ 9 + n = omega arith in
    let at_front : IsRecord (1 ∷ rest) e (drop (suc (8 + n)) (1 ∷ rest)) = is_first rest n e has (subst (λ (l : List ℕ). Spells l e) is spells) in
    (omega (arith, has.2), subst (λ (k : ℕ). IsRecord (1 ∷ rest) e (drop k (1 ∷ rest))) more at_front)

-- what a record's split says behind the byte 1
behind_one : (rest more : List ℕ) (e : Entry) → 1 ∷ rest ≡ record_bytes e ++ more → rest ≡ length_bytes (length (entry_bytes e)) ++ (entry_bytes e ++ more)
behind_one rest more e split =
    ap (λ (l : List ℕ). drop 1 l) split ∙ append_assoc (length_bytes (length (entry_bytes e))) (entry_bytes e) more

pub no_record : (rest : List ℕ) → HasMessage rest None → BeginsNoRecord (1 ∷ rest)
no_record rest none e more is = none (entry_bytes e) more is.writable.fits is.more (behind_one rest more e is.split)

pub not_spelled : (rest : List ℕ) (n : ℕ) → HasMessage rest (Some n) → SpellsNone (take n (drop 8 rest)) → BeginsNoRecord (1 ∷ rest)
not_spelled rest n has none e more is =
    let fields = same_front (length_bytes n) (length_bytes (length (entry_bytes e))) (take n (drop 8 rest) ++ drop (8 + n) rest) (entry_bytes e ++ more)
    (length-length_bytes n ∙ sym (length-length_bytes (length (entry_bytes e)))) (sym has.1 ∙ behind_one rest more e is.split) in
    let long = same_length n (length (entry_bytes e)) has.0 is.writable.fits fields.0 in
    let messages = same_front (take n (drop 8 rest)) (entry_bytes e) (drop (8 + n) rest) more (length-message rest n has.2 ∙ long) fields.1 in
    none e (subst (λ (l : List ℕ). Spells l e) (sym messages.0) is.writable.spelled)

pub none_found : (rest message : List ℕ) (n : ℕ) → HasMessage rest (Some n) → message ≡ take n (drop 8 rest) → SpellsNone message → BeginsNoRecord (1 ∷ rest)
none_found rest message n has is none = not_spelled rest n has (subst SpellsNone is none)

-- another byte than 1 begins no record, and no byte does neither
pub other_byte : (x : ℕ) (rest : List ℕ) → x ≢ 1 → BeginsNoRecord (x ∷ rest)
other_byte x rest other e more is = other (ap (λ (l : List ℕ). get_or l 0 0) is.split)

pub no_byte : BeginsNoRecord []
no_byte e more is = absurd (cc is.split)

-- ---- from record to record

pub records-push : (es : List Entry) (e : Entry) → records (es ++ e ∷ []) ≡ records es ++ record_bytes e
records-push [] e = append-nil (record_bytes e)
records-push (x ∷ es) e = ap (λ (l : List ℕ). record_bytes x ++ l) (records-push es e) ∙ sym (append_assoc (record_bytes x) (records es) (record_bytes e))

pub all_one : (e : Entry) → IsWritable e → All IsWritable (e ∷ [])
all_one e p zero d within = p
all_one e p (suc k) d within = absurd (omega (arith, within))

pub scanned_none : (bytes : List ℕ) → HasScanned bytes [] bytes
scanned_none bytes = record { split = refl; writable = λ k d within. absurd (omega (arith, within)); stays = λ none. omega (arith, none) }

pub scanned_more : (bytes rest : List ℕ) (es : List Entry) (e : Entry) (n : ℕ) → HasScanned bytes es rest → IsRecord rest e (drop n rest) → HasScanned bytes (es ++ e ∷ []) (drop n rest)
scanned_more bytes rest es e n so_far is = record {
  split = so_far.split ∙ (ap (λ (l : List ℕ). records es ++ l) is.split ∙ (sym (append_assoc (records es) (record_bytes e) (drop n rest)) ∙ ap (λ (l : List ℕ). l ++ drop n rest) (sym (records-push es e))));
  writable = All-append IsWritable es (e ∷ []) so_far.writable (all_one e is.writable);
  stays = λ some. is.more;
}

pub scanned_all : (bytes rest : List ℕ) (es : List Entry) → HasScanned bytes es rest → BeginsNoRecord rest → IsScan bytes es (length bytes - length rest)
scanned_all bytes rest es so_far over = record {
  scans = record { end = rest; split = so_far.split; writable = so_far.writable; stays = so_far.stays; over = over };
  place = omega (arith, ap length so_far.split ∙ length-append (records es) rest);
}
