-- What steps come to.
use Rattle.std.proofs.Common.{◌≡◌, ℕ, zero, suc, ◌+◌, ◌-◌, ◌<◌, ◌≤◌, List, [], ◌∷◌, ◌++◌, length, take, drop, slice_range, Option, Some, None, refl, sym, ap, ◌∙◌, arith}
use Rattle.std.proofs.lemmas.List.{append_assoc, append-nil, drop-drop, drop-take, length-drop, length-take, length-take-le, take-append-drop}
use Rattle.mos_io.specs.Bytes.{IsAtEnd, Takes}
use Rattle.line_reader.specs.declared.reader.LineReader.{LineReader}
use Rattle.line_reader.specs.Lines.{Gives, HasNoEnd, HasRoom, IsEnd, Stands, HasLine, HasLast, ended, pending}

-- the front of bytes of which a front was held
held_front : (most : ℕ) (xs ys : List ℕ) → take most (take most xs ++ ys) ≡ take most (xs ++ ys)
held_front zero xs ys = refl
held_front (suc n) [] ys = refl
held_front (suc n) (x ∷ xs) ys = ap (λ z. x ∷ z) (held_front n xs ys)

both_no_end : (xs ys : List ℕ) → HasNoEnd xs → HasNoEnd ys → HasNoEnd (xs ++ ys)
both_no_end [] ys h k = k
both_no_end (x ∷ xs) ys (n, h) k = (n, both_no_end xs ys h k)

-- bytes behind others of the room
behind : (xs : List ℕ) (at end count : ℕ) → count < length (slice_range xs at end) → drop (count + 1) (slice_range xs at end) ≡ slice_range xs (at + (count + 1)) end
behind xs at end count h =
    let short : length (slice_range xs at end) ≤ end - at = omega (arith, length-take (end - at) (drop at xs)) in
    let m = end - (at + (count + 1)) in
    let is : end - at ≡ (count + 1) + m = omega (arith, h, short) in
    ap (λ n. drop (count + 1) (take n (drop at xs))) is ∙ (drop-take (count + 1) m (drop at xs) ∙ ap (take m) (drop-drop (count + 1) at xs))

-- how many bytes stand between two places of the room
pub span : (xs : List ℕ) (at end : ℕ) → end ≤ length xs → length (slice_range xs at end) ≡ end - at
span xs at end h = length-take-le (end - at) (drop at xs) (omega (arith, h, length-drop at xs))

-- a place that stands behind another leaves fewer
pub fewer : (r : LineReader) (now : ℕ) → HasRoom r → r.at < r.end → r.at < now → length (slice_range r.piece.items now r.end) < length (pending r)
fewer r now h k m = let ok = r.piece.ok in let short : r.end ≤ length r.piece.items = omega (arith, ok, h.end) in omega (arith, span r.piece.items r.at r.end short, span r.piece.items now r.end short, k, m)

-- so many bytes, a line feed and what stands behind it
module _ (count : ℕ) (p : List ℕ) (e : IsEnd p (Some count)) where
  parts : (xs : List ℕ) → xs ++ p ≡ (xs ++ (take count p ++ 10 ∷ [])) ++ drop (count + 1) p
  parts xs =
      let cut : p ≡ take count p ++ 10 ∷ drop (count + 1) p = sym (take-append-drop count p) ∙ ap (λ z. take count p ++ z) e.2 in
      ap (λ z. xs ++ z) cut ∙ (ap (λ z. xs ++ z) (sym (append_assoc (take count p) (10 ∷ []) (drop (count + 1) p))) ∙ sym (append_assoc xs (take count p ++ 10 ∷ []) (drop (count + 1) p)))

pub line_ended : (l l' : Option (List ℕ)) (r s : LineReader) (lines : List (List ℕ)) (count : ℕ) → IsEnd (pending r) (Some count)
    → s.line.items ≡ take r.most (r.line.items ++ take count (pending r)) → pending s ≡ slice_range r.piece.items (r.at + (count + 1)) r.end → s.most ≡ r.most → Stands l l' r lines → HasLine l l' s lines
line_ended l l' r s lines count e line rest most h =
    let front = take count (pending r) in
    record {
      read = h.read;
      current = h.current ++ front;
      took = h.took;
      is = h.is ∙ (parts count (pending r) e (ended lines ++ h.current)
          ∙ (ap (λ z. z ++ drop (count + 1) (pending r)) (regroup (ended lines) h.current front (10 ∷ []))
          ∙ ap (λ z. (ended lines ++ ((h.current ++ front) ++ 10 ∷ [])) ++ z) (behind r.piece.items r.at r.end count e.1 ∙ sym rest)));
      each = h.each;
      no_end = both_no_end h.current front h.no_end e.0;
      held = line ∙ (ap (λ z. take r.most (z ++ front)) h.held ∙ (held_front r.most h.current front ∙ ap (λ n. take n (h.current ++ front)) (sym most)));
    }
  where
    regroup : (a b c d : List ℕ) → (a ++ b) ++ (c ++ d) ≡ a ++ ((b ++ c) ++ d)
    regroup a b c d = append_assoc a b (c ++ d) ∙ ap (λ z. a ++ z) (sym (append_assoc b c d))

takes_more : (a b c : Option (List ℕ)) (xs ys : List ℕ) → Takes a b xs → Takes b c ys → Takes a c (xs ++ ys)
takes_more None b c xs ys h k = none b h k
  where
    none : (b : Option (List ℕ)) → b ≡ None → Takes b c ys → c ≡ None
    none None e k = k
    none (Some left) e k = absurd (cc)
takes_more (Some left) b c xs ys (rest, is, e) k = some b e k
  where
    some : (b : Option (List ℕ)) → b ≡ Some rest → Takes b c ys → (more : List ℕ) × (left ≡ (xs ++ ys) ++ more) × (c ≡ Some more)
    some None e k = absurd (cc)
    some (Some was) e (more, k, f) = let same : was ≡ rest = cc in (more, is ∙ (ap (λ z. xs ++ z) (sym same ∙ k) ∙ sym (append_assoc xs ys more)), f)

-- one more piece was read
pub piece_read : (l a b : Option (List ℕ)) (r s : LineReader) (lines : List (List ℕ)) (piece : List ℕ) → pending r ≡ [] → pending s ≡ piece → s.line.items ≡ r.line.items → s.most ≡ r.most
    → Takes a b piece → Stands l a r lines → Stands l b s lines
piece_read l a b r s lines piece none some line most took h = record {
  read = h.read ++ piece;
  current = h.current;
  took = takes_more l a b h.read piece h.took took;
  is = ap (λ z. z ++ piece) (h.is ∙ (ap (λ z. (ended lines ++ h.current) ++ z) none ∙ append-nil (ended lines ++ h.current))) ∙ ap (λ z. (ended lines ++ h.current) ++ z) (sym some);
  each = h.each;
  no_end = h.no_end;
  held = line ∙ (h.held ∙ ap (λ n. take n h.current) (sym most));
}

at_end_still : (a b : Option (List ℕ)) → IsAtEnd a → Takes a b [] → IsAtEnd b
at_end_still None None i t = tt
at_end_still None (Some x) i t = absurd (cc)
at_end_still (Some left) None i (rest, is, e) = absurd (cc)
at_end_still (Some left) (Some x) i (rest, is, e) = let f : x ≡ rest = cc in f ∙ (sym is ∙ i)

-- there is no more
pub all_read : (l a b : Option (List ℕ)) (r s : LineReader) (lines : List (List ℕ)) → pending r ≡ [] → s.line.items ≡ r.line.items → s.most ≡ r.most → IsAtEnd a → Takes a b [] → Stands l a r lines → HasLast l b s lines
all_read l a b r s lines none line most ends took h = record {
  read = h.read ++ [];
  current = h.current;
  took = takes_more l a b h.read [] h.took took;
  at_end = at_end_still a b ends took;
  is = append-nil h.read ∙ (h.is ∙ (ap (λ z. (ended lines ++ h.current) ++ z) none ∙ append-nil (ended lines ++ h.current)));
  each = h.each;
  no_end = h.no_end;
  held = line ∙ (h.held ∙ ap (λ n. take n h.current) (sym most));
}

-- a piece at the front of the room
pub all_room : (count : ℕ) (xs ys : List ℕ) → xs ≡ ys → slice_range xs 0 count ≡ take count ys
all_room count xs ys e = ap (λ n. take n xs) (let z : count - 0 ≡ count = omega arith in z) ∙ ap (take count) e

-- ---- the lines that were given

pub gives_open : (l l' : Option (List ℕ)) (r : LineReader) (lines : List (List ℕ)) → Stands l l' r lines → Gives l l' lines
gives_open l l' r lines h = record { read = h.read; behind = h.current ++ pending r; took = h.took; is = h.is ∙ append_assoc (ended lines) h.current (pending r); each = h.each }

pub gives_ended : (l l' : Option (List ℕ)) (r : LineReader) (lines : List (List ℕ)) → HasLine l l' r lines → Gives l l' lines
gives_ended l l' r lines h = record { read = h.read; behind = (h.current ++ 10 ∷ []) ++ pending r; took = h.took; is = h.is ∙ append_assoc (ended lines) (h.current ++ 10 ∷ []) (pending r); each = h.each }

pub gives_last : (l l' : Option (List ℕ)) (r : LineReader) (lines : List (List ℕ)) → HasLast l l' r lines → Gives l l' lines
gives_last l l' r lines h = record { read = h.read; behind = h.current; took = h.took; is = h.is; each = h.each }
