-- Made events, one after another.
use Rattle.std.proofs.Common.{◌≡◌, ℕ, zero, suc, ◌+◌, ◌-◌, ◌*◌, ◌%◌, ◌^◌, ◌<◌, Some, None, [], ◌∷◌, Result, Ok, Err, IfOk, MatchResult, ap, ◌∙◌, refl, arith}
use Rattle.std.proofs.Math.Nat.{mod-add-mod}
use Rattle.mos_values.specs.Distinct.{AreDistinct, story_ids}
use Rattle.mos_values.specs.StoryValue.{Story}
use Rattle.mos_edits.specs.declared.edit.Edit.{Edit}
use Rattle.world_scripts.specs.declared.world_event.WorldEvent.{WorldEvent as Held}
use Rattle.world_scripts.specs.WorldEvents.{event_of as seen}
use Rattle.world_scripts.specs.declared.making.Making.{Making}
use Rattle.world_scripts.specs.Made.{made_from, made_event, made_after, commands, HandsNext}

-- a product that wrapped, and a sum behind it
pub wrapped : (x : ℕ) → (x * 6364136223846793005 % 2 ^ 64 + 1442695040888963407) % 2 ^ 64 ≡ (x * 6364136223846793005 + 1442695040888963407) % 2 ^ 64
wrapped x = mod-add-mod (x * 6364136223846793005) (2 ^ 64) 1442695040888963407

-- where nothing is left
pub hands_none : (n : ℕ) (m : Making) → n ≡ 0 → HandsNext (made_from n m) None (made_from n m)
unfolding made_from
hands_none zero m h = (refl, refl)
hands_none (suc n) m h = absurd (omega arith)

-- where an event is left
pub hands_first : (n : ℕ) (m : Making) → 0 < n → HandsNext (made_from n m) (Some (made_event m)) (made_from (n - 1) (made_after m))
unfolding made_from
hands_first zero m h = absurd (omega arith)
hands_first (suc n) m h = let e : suc n - 1 ≡ n = omega arith in rw e (refl, refl)

-- a command of an edit that was made
pub commanded : {E F : Type 0} (x : Edit) (a : Result Edit E) (e : Result Held F) → IfOk a (λ y. y ≡ x) → IfOk e (λ o. MatchResult a (λ y. seen o ≡ commands y) (λ f. ⊥)) → IfOk e (λ o. seen o ≡ commands x)
commanded x (Ok y) (Ok o) h i = i ∙ ap commands h
commanded x (Err f) (Ok o) h i = absurd i
commanded x a (Err f) h i = tt

-- one story
pub distinct_one : (s : Story) → AreDistinct (story_ids (s ∷ []))
distinct_one s = λ i j d before within. absurd (omega arith)
