-- Runs of a world in memory.
use Rattle.std.proofs.Common.{◌≡◌, ℕ, zero, suc, ◌+◌, ◌<◌, ◌≤◌, List, [], ◌∷◌, ◌++◌, drop, get_or, length, Option, Some, Result, Ok, Err, IfOk, refl, ap, ◌∙◌, sym, subst, arith}
use Rattle.std.proofs.lemmas.List.{drop_more}
use Rattle.world_scripts.specs.Outcomes.{outcome_of}
use Rattle.world_scripts.specs.declared.outcome.Outcome.{Outcome as Seen}
use Rattle.world_laws.specs.Outcomes.{Outcome, outcome, outcomes}
use Rattle.world_laws.specs.World.{World, WorldEvent, opening, run, world_step}
use Rattle.world_stage.specs.Matching.{Shows}
use Rattle.world_stage.specs.Stages.{IsPlayed}
use Rattle.world_stage.specs.declared.play.Play.{Play}

-- a world is shown from which the rest of the events leads to where all lead
pub record RunsOn (x : Option Play) (devices : ℕ) (rest all : List WorldEvent) : Type 0 where
  pub world : World
  pub shows : Shows x world
  pub leads : run world rest ≡ run (opening devices) all

pub run-more : (w : World) (es : List WorldEvent) (e : WorldEvent) → run w (es ++ e ∷ []) ≡ (world_step (run w es) e).0
run-more w [] e = refl
run-more w (x ∷ xs) e = run-more (world_step w x).0 xs e

pub outcomes-more : (w : World) (es : List WorldEvent) (e : WorldEvent) → outcomes w (es ++ e ∷ []) ≡ outcomes w es ++ outcome (run w es) e ∷ []
outcomes-more w [] e = refl
outcomes-more w (x ∷ xs) e = ap (λ (os : List Outcome). outcome w x ∷ os) (outcomes-more (world_step w x).0 xs e)

-- a stage that plays one more event
pub played-more : (x y : Option Play) (devices : ℕ) (es : List WorldEvent) (os : List Outcome) (e : WorldEvent) (o : Outcome) → IsPlayed (Some x) devices es os → Shows y (world_step (run (opening devices) es) e).0 × (o ≡ outcome (run (opening devices) es) e) → IsPlayed (Some y) devices (es ++ e ∷ []) (os ++ o ∷ [])
played-more x y devices es os e o p s = (
  subst (λ (w : World). Shows y w) (sym (run-more (opening devices) es e)) s.0,
  ap (λ (ps : List Outcome). ps ++ o ∷ []) p.1 ∙ (ap (λ (q : Outcome). outcomes (opening devices) es ++ q ∷ []) s.1 ∙ sym (outcomes-more (opening devices) es e)),
)

-- the same by what a step answers
pub told-more : {E : Type 0} (s : Option (Option Play)) (x y : Option Play) (e : WorldEvent) (r : Result Seen E) → s ≡ Some x → IfOk r (λ o. (w : World) → Shows x w → Shows y (world_step w e).0 × (outcome_of o ≡ outcome w e))
    → IfOk r (λ o. (devices : ℕ) (es : List WorldEvent) (os : List Outcome) → IsPlayed s devices es os → IsPlayed (Some y) devices (es ++ e ∷ []) (os ++ outcome_of o ∷ []))
told-more s x y e (Ok o) h f = λ devices es os p. let q = subst (λ (z : Option (Option Play)). IsPlayed z devices es os) h p in played-more x y devices es os e (outcome_of o) q (f (run (opening devices) es) q.0)
told-more s x y e (Err n) h f = tt

-- ---- the events that are left

pub ahead : {X : Type 0} (xs : List X) (n : ℕ) (x : X) → n < length xs → x ≡ get_or xs n x → drop n xs ≡ x ∷ drop (n + 1) xs
ahead {X = X} xs n x h e = drop_more xs n x h ∙ ap (λ (z : X). z ∷ drop (n + 1) xs) (sym e)

pub none-left : {X : Type 0} (xs : List X) (n : ℕ) → length xs ≤ n → drop n xs ≡ []
none-left [] zero h = refl
none-left [] (suc n) h = refl
none-left (x ∷ xs) zero h = absurd (omega arith)
none-left (x ∷ xs) (suc n) h = none-left xs n (omega arith)
