-- Connections in a list and those of the world's definition, where one of them is written anew or one more comes.
use Rattle.std.proofs.Common.{◌≡◌, ℕ, ◌<◌, ◌==◌, zero, suc, List, [], ◌∷◌, ◌++◌, length, get_or, set, Bool, true, false, Option, Some, None, refl, arith, if◌then◌else◌, sym, ap, ◌∙◌, subst, eq-eqb}
use Rattle.std.specs.List.{slice_get}
use Rattle.std.proofs.Math.Dec.{eqb-suc-zero, eqb-zero-suc, eqb-suc-suc}
use Rattle.std.proofs.lemmas.Bool.{eqb-true}
use Rattle.std.proofs.lemmas.List.{set-get_or}
use Rattle.std.proofs.lemmas.Option.{slice_get_read}
use Rattle.mos_edits.specs.Texts.{set_number}
use Rattle.world_laws.specs.World.{Connection as Line}
use Rattle.world_parts.specs.declared.connection.Connection.{Connection}
use Rattle.world_parts.specs.Matching.{MatchesConnection, MatchesLine, own, MatchesConnections, LeavesOthers}
use Rattle.world_parts.specs.Places.{IsPlace}

-- ---- one element of a list

get-set : {X : Type 0} (xs : List X) (i : ℕ) (y : X) → i < length xs → (k : ℕ) → slice_get (set xs i y) k ≡ (if k == i then Some y else slice_get xs k)
get-set [] i y h k = absurd (omega arith)
get-set (x ∷ xs) zero y h zero = refl
get-set (x ∷ xs) zero y h (suc k) = rw (eqb-suc-zero k) refl
get-set (x ∷ xs) (suc i) y h zero = rw (eqb-zero-suc i) refl
get-set (x ∷ xs) (suc i) y h (suc k) = rw (eqb-suc-suc k i) (get-set xs i y (omega arith) k)

get-push : {X : Type 0} (xs : List X) (y : X) (k : ℕ) → slice_get (xs ++ y ∷ []) k ≡ (if k == length xs then Some y else slice_get xs k)
get-push [] y zero = refl
get-push [] y (suc k) = rw (eqb-suc-zero k) refl
get-push (x ∷ xs) y zero = rw (eqb-zero-suc (length xs)) refl
get-push (x ∷ xs) y (suc k) = rw (eqb-suc-suc k (length xs)) (get-push xs y k)

get-end : {X : Type 0} (xs : List X) → slice_get xs (length xs) ≡ None
get-end [] = refl
get-end (x ∷ xs) = get-end xs

-- ---- whose connection it is

pub own-same : (d : ℕ) (x : Connection) → x.device ≡ d → own d (Some x) ≡ Some x
own-same d x e = rw (eq-eqb x.device d e) refl

own-other : (b d : ℕ) (x : Connection) → x.device ≡ d → (b ≡ d → ⊥) → own b (Some x) ≡ None
own-other b d x e n = go (x.device == b) refl
  where
    go : (t : Bool) → (x.device == b) ≡ t → (if t then Some x else None) ≡ None
    go true s = absurd (n (sym (eqb-true x.device b s) ∙ e))
    go false s = refl

-- ---- a list `ys` that is `xs`, but for `y` at place `i`

pub line-with : (xs ys : List Connection) (i d : ℕ) (y : Connection) (lines : ℕ → Line) (line : Line) → ((k : ℕ) → slice_get ys k ≡ (if k == i then Some y else slice_get xs k)) → MatchesLine (own d (Some y)) line → MatchesConnections xs d lines
    → MatchesConnections ys d (set_number lines (suc i) line)
line-with xs ys i d y lines line w m h zero = rw (eqb-zero-suc i) (h zero)
line-with xs ys i d y lines line w m h (suc k) = rw (eqb-suc-suc k i, w k) (by (k == i))
  where
    by : (b : Bool) → MatchesLine (own d (if b then Some y else slice_get xs k)) (if b then line else lines (suc k))
    by true = m
    by false = h (suc k)

-- what stood there was of no other device
pub others-with : (xs ys : List Connection) (i d : ℕ) (y : Connection) → ((k : ℕ) → slice_get ys k ≡ (if k == i then Some y else slice_get xs k)) → y.device ≡ d
    → ((b : ℕ) → (b ≡ d → ⊥) → own b (slice_get xs i) ≡ None) → LeavesOthers xs ys d
others-with xs ys i d y w e none b lines n h zero = h zero
others-with xs ys i d y w e none b lines n h (suc k) = rw (w k) (by (k == i) refl)
  where
    by : (t : Bool) → (k == i) ≡ t → MatchesLine (own b (if t then Some y else slice_get xs k)) (lines (suc k))
    by true s = rw (own-other b d y e n) (subst (λ (o : Option Connection). MatchesLine o (lines (suc k))) (ap (λ (j : ℕ). own b (slice_get xs j)) (eqb-true k i s) ∙ none b n) (h (suc k)))
    by false s = h (suc k)

-- ---- connection `c` at its place

pub read-at : (xs : List Connection) (i : ℕ) (x : Connection) → i < length xs → x ≡ get_or xs i x → slice_get xs i ≡ Some x
read-at xs i x h e = slice_get_read xs (length xs) i x refl h e

pub device-at : (xs : List Connection) (d c i : ℕ) (x : Connection) → IsPlace xs d c i → x ≡ get_or xs i x → x.device ≡ d
device-at xs d c i x p e = ap (λ (z : Connection). z.device) e ∙ p.own x

pub line-at : (xs : List Connection) (d c i : ℕ) (x : Connection) (lines : ℕ → Line) → IsPlace xs d c i → x ≡ get_or xs i x → MatchesConnections xs d lines → MatchesConnection x (lines c)
line-at xs d c i x lines p e h =
    subst (λ (k : ℕ). MatchesConnection x (lines k)) (sym p.number)
    (subst (λ (o : Option Connection). MatchesLine o (lines (suc i))) (ap (own d) (read-at xs i x p.within e) ∙ own-same d x (device-at xs d c i x p e)) (h (suc i)))

pub line-put : (xs : List Connection) (d c i : ℕ) (y : Connection) (lines : ℕ → Line) (line : Line) → IsPlace xs d c i → y.device ≡ d → MatchesConnection y line → MatchesConnections xs d lines → MatchesConnections (set xs i y) d (set_number lines c line)
line-put xs d c i y lines line p e m h =
    subst (λ (k : ℕ). MatchesConnections (set xs i y) d (set_number lines k line)) (sym p.number)
    (line-with xs (set xs i y) i d y lines line (get-set xs i y p.within) (subst (λ (o : Option Connection). MatchesLine o line) (sym (own-same d y e)) m) h)

pub others-put : (xs : List Connection) (d c i : ℕ) (x y : Connection) → IsPlace xs d c i → x ≡ get_or xs i x → y.device ≡ d → LeavesOthers xs (set xs i y) d
others-put xs d c i x y p e s =
    others-with xs (set xs i y) i d y (get-set xs i y p.within) s
    (λ b n. ap (own b) (read-at xs i x p.within e) ∙ own-other b d x (device-at xs d c i x p e) n)

-- what is written as it was changes nothing
pub put-same : (xs : List Connection) (i : ℕ) (x y : Connection) → x ≡ get_or xs i x → y ≡ x → set xs i y ≡ xs
put-same xs i x y e s = ap (set xs i) (s ∙ e) ∙ set-get_or xs i x

-- a connection at a place, whose device is not said
pub line-any : (xs : List Connection) (i d : ℕ) (y : Connection) (lines : ℕ → Line) (line : Line) → i < length xs → MatchesLine (own d (Some y)) line → MatchesConnections xs d lines → MatchesConnections (set xs i y) d (set_number lines (suc i) line)
line-any xs i d y lines line w m h = line-with xs (set xs i y) i d y lines line (get-set xs i y w) m h

-- ---- one more

pub line-push : (xs : List Connection) (d : ℕ) (y : Connection) (lines : ℕ → Line) (line : Line) → y.device ≡ d → MatchesConnection y line → MatchesConnections xs d lines → MatchesConnections (xs ++ y ∷ []) d (set_number lines (suc (length xs)) line)
line-push xs d y lines line e m h =
    line-with xs (xs ++ y ∷ []) (length xs) d y lines line (get-push xs y) (subst (λ (o : Option Connection). MatchesLine o line) (sym (own-same d y e)) m) h

pub others-push : (xs : List Connection) (d : ℕ) (y : Connection) → y.device ≡ d → LeavesOthers xs (xs ++ y ∷ []) d
others-push xs d y e = others-with xs (xs ++ y ∷ []) (length xs) d y (get-push xs y) e (λ b n. ap (own b) (get-end xs))
