-- The state lines of a world in memory, device after device.
use Rattle.std.specs.Prelude.{◌≡◌, ℕ, suc, ◌<◌, List, ◌++◌, Option}
use Rattle.mos_edits.specs.Texts.{Text}
use Rattle.world_laws.specs.World.{World}
use Rattle.world_scripts.specs.Listing.{IsViewed, Lists, device_lines, devices_lines}
use Rattle.world_stage.specs.Matching.{Shows}
use Rattle.world_stage.specs.declared.play.Play.{Play}

-- Behind what stood `before`, `after` has the lines of device `d`, from 0, of the world that is shown.
pub record IsDeviceShown (shown : Option Play) (d : ℕ) (before after : List ℕ) : Type 0 where
  pub viewed : List Text
  pub text : List ℕ
  pub lists : (w : World) → Shows shown w → Lists (IsViewed w.journal (w.pairings (suc d))) viewed
  pub lines : (w : World) → Shows shown w → text ≡ device_lines (suc d) (w.pairings (suc d)) viewed
  pub appends : after ≡ before ++ text

-- The same of so many devices, from the first one.
pub record AreDevicesShown (shown : Option Play) (count : ℕ) (before after : List ℕ) : Type 0 where
  pub viewed : ℕ → List Text
  pub text : List ℕ
  pub lists : (w : World) → Shows shown w → (d : ℕ) → d < count → Lists (IsViewed w.journal (w.pairings (suc d))) (viewed (suc d))
  pub lines : (w : World) → Shows shown w → text ≡ devices_lines count 1 w.pairings viewed
  pub appends : after ≡ before ++ text
