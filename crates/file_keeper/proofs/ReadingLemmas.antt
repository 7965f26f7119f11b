-- Bytes that are read piece by piece.
use Rattle.std.proofs.Common.{◌≡◌, ◌∙◌, ◌+◌, ◌-◌, ◌≤◌, ◌<◌, ◌^◌, ℕ, List, [], ◌++◌, length, take, drop, Option, Some, None, ap, sym, refl, subst, arith}
use Rattle.std.proofs.lemmas.List.{append_assoc, append-nil, length-append, length-drop, take_at}
use Rattle.std.specs.Io.KnownBytes.{Consumes, Keeps}
use Rattle.journal_bytes.specs.Journals.{HasRead, ReaderState}
use Rattle.mos_decoder.proofs.PairLemmas.{few_units}
use Rattle.mos_reader.specs.Answers.{fed}
use Rattle.file_keeper.specs.Reading.{HasCome}

pub consumes_none : (s : Option (List ℕ)) → Consumes s s []
consumes_none None = tt
consumes_none (Some xs) = refl

pub consumes_keeps : (s a b : Option (List ℕ)) (bytes : List ℕ) → Consumes s a bytes → Keeps a b → Consumes s b bytes
consumes_keeps None a b bytes c k = tt
consumes_keeps (Some xs) None b bytes c k = absurd c
consumes_keeps (Some xs) (Some ys) None bytes c k = absurd k
consumes_keeps (Some xs) (Some ys) (Some zs) bytes c k = c ∙ ap (λ z. bytes ++ z) (sym k)

pub consumes_more : (s a b : Option (List ℕ)) (bytes more : List ℕ) → Consumes s a bytes → Consumes a b more → Consumes s b (bytes ++ more)
consumes_more None a b bytes more c d = tt
consumes_more (Some xs) None b bytes more c d = absurd c
consumes_more (Some xs) (Some ys) None bytes more c d = absurd d
consumes_more (Some xs) (Some ys) (Some zs) bytes more c d = c ∙ (ap (λ z. bytes ++ z) d ∙ sym (append_assoc bytes more zs))

-- at the start
pub come_none : (s : Option (List ℕ)) (r : ReaderState) → HasRead r [] → HasCome s s 0 r
come_none s r h = record { bytes = []; consumed = consumes_none s; count = refl; read = h }

-- a read that was interrupted
pub come_same : (s a b : Option (List ℕ)) (total : ℕ) (r : ReaderState) → HasCome s a total r → Keeps a b → HasCome s b (total + 0) r
come_same s a b total r h k = let e = h.count in record { bytes = h.bytes; consumed = consumes_keeps s a b h.bytes h.consumed k; count = omega (arith, e); read = h.read }

-- one more piece
pub come_more : (s a b : Option (List ℕ)) (total n : ℕ) (more : List ℕ) (r t : ReaderState) → (h : HasCome s a total r) → Consumes a b more → length more ≡ n → HasRead t (h.bytes ++ more)
    → HasCome s b (total + n) t
come_more s a b total n more r t h c l k =
    let q = length-append h.bytes more in
    let e = h.count in
    record { bytes = h.bytes ++ more; consumed = consumes_more s a b h.bytes more h.consumed c; count = omega (arith, q, e, l); read = k }

-- a read of no bytes
pub come_end : (s a b : Option (List ℕ)) (total : ℕ) (more : List ℕ) (r : ReaderState) → HasCome s a total r → Consumes a b more → more ≡ [] → HasCome s b total r
come_end s a b total more r h c e =
    record {
      bytes = h.bytes;
      consumed = subst (Consumes s b) (ap (λ z. h.bytes ++ z) e ∙ append-nil h.bytes) (consumes_more s a b h.bytes more h.consumed c);
      count = h.count;
      read = h.read;
    }

-- the same of a file that doesn't tell its bytes
pub come_untold : (s a : Option (List ℕ)) (total : ℕ) (r : ReaderState) → HasCome s a total r → HasCome None None total r
come_untold s a total r h = record { bytes = h.bytes; consumed = tt; count = h.count; read = h.read }

pub room_left : (s a : Option (List ℕ)) (total n : ℕ) (r : ReaderState) → HasCome s a total r → total ≤ 1099511627776 → n ≤ 65536 → fed r.decoder.bytes.stream + n < 2 ^ 64
room_left s a total n r h l m =
    let e = h.count in
    let u = h.read.0.taken.read.handed.units in
    let f = few_units None h.bytes in
    omega (arith, e, u, f, l, m)

-- ---- the entries behind the first so many

pub turned : {X : Type 0} (known count : ℕ) (xs ys zs : List X) → count ≡ length xs → ys ≡ drop known xs ++ take known xs → zs ≡ take (count - known) ys → zs ≡ drop known xs
turned known count xs ys zs q y z = z ∙ (ap (λ l. take (count - known) l) y ∙ take_at (drop known xs) (take known xs) (count - known) (length-drop known xs ∙ ap (λ n. n - known) (sym q)))
