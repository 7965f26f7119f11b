-- What is said of a view that is shown is what is said of the view.
use Rattle.std.proofs.Common.{◌≡◌, refl}
use Rattle.mos_machines.specs.Server.{View}
use Rattle.server_peer.specs.Parts.{shown_view}
use Rattle.world_scripts.specs.Listing.{view_words}
use Rattle.state_listing.specs.Words.{shown_words}

pub shown : (v : View) → shown_words (shown_view v) ≡ view_words v
shown View.Out = refl
shown (View.Listed m scripts) = refl
shown (View.In n again scripts) = refl
shown (View.From k) = refl
