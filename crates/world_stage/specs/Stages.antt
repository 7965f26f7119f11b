-- What a stage that plays the world's definition tells and shows.
use Rattle.std.specs.Prelude.{◌≡◌, ℕ, List, Option, Some, None}
use Rattle.world_laws.specs.Outcomes.{Outcome, outcomes}
use Rattle.world_laws.specs.World.{World, WorldEvent, opening, run}
use Rattle.world_stage.specs.declared.play.Play.{Play}
use Rattle.world_stage.specs.Matching.{Shows}

-- the world that is shown is this one
abbrev pub ShowsStage : Option (Option Play) → World → Type 0
ShowsStage None w = ⊥
ShowsStage (Some x) w = Shows x w

-- a world is shown
abbrev pub ShowsWorld : Option (Option Play) → Type 0
ShowsWorld shown = (w : World) × ShowsStage shown w

-- These are the outcomes of the run, and the world that it ends in is shown.
abbrev pub IsPlayed : Option (Option Play) → ℕ → List WorldEvent → List Outcome → Type 0
IsPlayed shown devices es os = ShowsStage shown (run (opening devices) es) × (os ≡ outcomes (opening devices) es)
