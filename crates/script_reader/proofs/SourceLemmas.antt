-- What was read of a source.
use Rattle.std.proofs.Common.{◌≡◌, ℕ, ◌<◌, ◌≤◌, ◌+◌, ◌^◌, List, [], ◌∷◌, ◌++◌, take, unwrap_or, refl, sym, ap, ◌∙◌, subst, arith, inl, inr}
use Rattle.std.specs.Prelude.{Option, Some, None, Result, Ok, Err, IfOk, IfErr}
use Rattle.std.proofs.lemmas.List.{append_assoc, append-nil}
use Rattle.mos_io.specs.Bytes.{Falls, IsAtEnd, Takes}
use Rattle.mos_io.specs.Counts.{Rose}
use Rattle.script_reader.specs.declared.fault.ScriptFault.{ScriptFault}
use Rattle.script_reader.specs.declared.fault.ScriptFault.TheVariants as faults
use Rattle.script_reader.specs.declared.script.Script.{Script as Held}
use Rattle.script_reader.specs.Reading.{IsBounded, Reads, ReadsAll, IsScriptRead, IsFault}
use Rattle.script_reader.specs.Readers.{Reader, HasRead, Feeds, Ends, IsFed}
use Rattle.world_scripts.specs.WorldEvents.{events_of}

pub rose_after : (a b c : ℕ) → a ≤ b → Rose b c → Rose a c
rose_after a b c h (inl r) = inl (omega (arith, h, r))
rose_after a b c h (inr r) = inr r

pub reads_none : (a : Option (List ℕ)) → Reads a a []
reads_none a = λ left e. (left, refl, e)

pub reads_more : (a b c : Option (List ℕ)) (bytes more : List ℕ) → Reads a b bytes → Takes b c more → Reads a c (bytes ++ more)
reads_more a b c bytes more r t = λ left e.
    let p = r left e in
    let q = subst (λ o. Takes o c more) p.2 t in
    (q.0, p.1 ∙ (ap (λ y. bytes ++ y) q.1 ∙ sym (append_assoc bytes more q.0)), q.2)

-- nothing was given, at the end of the input
pub reads_all : (a b c : Option (List ℕ)) (bytes buf : List ℕ) (n : ℕ) → n ≡ 0 → Reads a b bytes → IsAtEnd b → Takes b c (take n buf) → ReadsAll a c bytes
reads_all a b c bytes buf n z r i t = λ left e.
    let p = r left e in
    let rest = p.0 in
    let nil : rest ≡ [] = subst IsAtEnd p.2 i in
    let q = subst (λ o. Takes o c (take n buf)) p.2 t in
    let none : take n buf ++ q.0 ≡ [] = sym q.1 ∙ nil in
    (sym (p.1 ∙ (ap (λ y. bytes ++ y) nil ∙ append-nil bytes)), q.2 ∙ ap Some (behind_nil (take n buf) q.0 none))
  where
    behind_nil : (x y : List ℕ) → x ++ y ≡ [] → y ≡ []
    behind_nil [] y e = e
    behind_nil (u ∷ x) y e = absurd (cc)

pub falls_bounded : (b c : Option ℕ) (n : ℕ) → IsBounded b → Falls b c n → IsBounded c × (unwrap_or b 0 ≡ unwrap_or c 0 + n)
falls_bounded None c n i f = absurd i
falls_bounded (Some b) c n i (rest, e, g) = (subst IsBounded (sym g) (let l : rest < 2 ^ 64 = omega (arith, i, e) in l), e ∙ ap (λ z. unwrap_or z 0 + n) (sym g))

-- ---- faults

-- a piece in which a line is none
pub piece_fault : (a b : Option (List ℕ)) (m n : ℕ) (bytes : List ℕ) (r : Reader) (k : ScriptFault) → Reads a b bytes → Feeds bytes r (Err k) → IsFault a b m n k
piece_fault a b m n bytes r (faults.Refused line) reads h = record { bytes = bytes; reads = inl (reads, h) }
piece_fault a b m n bytes r faults.ReadFault reads h = absurd h
piece_fault a b m n bytes r faults.NoMemory reads h = tt

-- ---- the end of the input

module _ (a b : Option (List ℕ)) (r : Reader) (fed : IsFed a b r) where
  end_fault : (m n : ℕ) (k : ScriptFault) → Ends fed.bytes (Err k) → IsFault a b m n k
  end_fault m n (faults.Refused line) h = record { bytes = fed.bytes; reads = inr (fed.reads, h) }
  end_fault m n faults.ReadFault h = absurd h
  end_fault m n faults.NoMemory h = absurd h

  pub end_faults : (m n : ℕ) (answer : Result Held ScriptFault) → ((bytes : List ℕ) → HasRead r bytes → Ends bytes answer) → IfErr answer (λ k. IsFault a b m n k)
  end_faults m n (Ok s) h = tt
  end_faults m n (Err k) h = end_fault m n k (h fed.bytes fed.read)

  pub end_reads : (answer : Result Held ScriptFault) → ((bytes : List ℕ) → HasRead r bytes → Ends bytes answer) → IfOk answer (λ s. IsScriptRead a b s.devices (events_of s.events))
  end_reads (Ok s) h = record { bytes = fed.bytes; reads = fed.reads; script = h fed.bytes fed.read }
  end_reads (Err k) h = tt
