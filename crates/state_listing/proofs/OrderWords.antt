-- The words of an order's stories.
use Rattle.std.proofs.Common.{◌≡◌, ℕ, zero, suc, ◌+◌, List, [], ◌∷◌, ◌++◌, map, drop, slice_get, Some, None, Result, Ok, Err, OnOk, refl, sym, ap, ◌∙◌, arith}
use Rattle.std.proofs.lemmas.List.{append_assoc, append-nil}
use Rattle.mos_edits.specs.Orders.{Story, Order}
use Rattle.world_scripts.specs.Listing.{story_word}
use Rattle.state_listing.specs.Words.{behind}

drop-at : {X : Type 0} (xs : List X) (i : ℕ) (x : X) → slice_get xs i ≡ Some x → drop i xs ≡ x ∷ drop (suc i) xs
drop-at [] i x e = absurd (cc)
drop-at (y ∷ ys) zero x e = ap (λ z. z ∷ ys) (let f : y ≡ x = cc in f)
drop-at (y ∷ ys) (suc i) x e = drop-at ys i x e

drop-past : {X : Type 0} (xs : List X) (i : ℕ) → slice_get xs i ≡ None → drop (suc i) xs ≡ drop i xs
drop-past [] zero e = refl
drop-past [] (suc i) e = refl
drop-past (y ∷ ys) zero e = absurd (cc)
drop-past (y ∷ ys) (suc i) e = drop-past ys i e

next : (i : ℕ) → suc i ≡ i + 1
next i = omega arith

behind-one : (w : List ℕ) (ws : List (List ℕ)) → behind (w ∷ []) ++ behind ws ≡ behind (w ∷ ws)
behind-one w ws = ap (λ z. z ++ behind ws) (append-nil (32 ∷ w))

more : (o : Order) (before after : List ℕ) (stories : List Story) (i : ℕ) (s : Story) → slice_get stories i ≡ Some s → after ≡ before ++ behind (story_word o s ∷ [])
    → after ++ behind (map (story_word o) (drop (i + 1) stories)) ≡ before ++ behind (map (story_word o) (drop i stories))
more o before after stories i s at is =
    let rest = map (story_word o) (drop (i + 1) stories) in
    let front : drop i stories ≡ s ∷ drop (i + 1) stories = drop-at stories i s at ∙ ap (λ n. s ∷ drop n stories) (next i) in
    ap (λ z. z ++ behind rest) is ∙ (append_assoc before (behind (story_word o s ∷ [])) (behind rest) ∙ (ap (λ z. before ++ z) (behind-one (story_word o s) rest) ∙ ap (λ ss. before ++ behind (map (story_word o) ss)) (sym front)))

-- one more story was told, or there was no memory
pub story-told : {A E : Type 0} (r : Result A E) (o : Order) (before after : List ℕ) (stories : List Story) (i : ℕ) (s : Story) → slice_get stories i ≡ Some s → OnOk r (after ≡ before ++ behind (story_word o s ∷ []))
    → OnOk r (after ++ behind (map (story_word o) (drop (i + 1) stories)) ≡ before ++ behind (map (story_word o) (drop i stories)))
story-told (Ok a) o before after stories i s at is = more o before after stories i s at is
story-told (Err e) o before after stories i s at is = tt

-- there is none
pub none-told : (o : Order) (line : List ℕ) (stories : List Story) (i : ℕ) → slice_get stories i ≡ None → line ++ behind (map (story_word o) (drop (i + 1) stories)) ≡ line ++ behind (map (story_word o) (drop i stories))
none-told o line stories i at = ap (λ ss. line ++ behind (map (story_word o) ss)) (ap (λ n. drop n stories) (sym (next i)) ∙ drop-past stories i at)
