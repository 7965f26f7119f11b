-- Words behind a line's first.
use Rattle.std.specs.Prelude.{ℕ, List, [], ◌∷◌, ◌++◌, codes}
use Rattle.std.specs.List.{flat_map}
use Rattle.std.specs.Fmt.{decimal}
use Rattle.server_peer.specs.declared.view.View.{View}
use Rattle.server_peer.specs.declared.view.View.TheVariants as views
use Rattle.world_scripts.specs.Listing.{due_words, again_words}

-- each behind a space
abbrev pub behind : List (List ℕ) → List ℕ
behind words = flat_map (λ (w : List ℕ). 32 ∷ w) words

-- what the server takes a device to hold of an order, as it shows it
abbrev pub shown_words : View → List (List ℕ)
shown_words views.Out = codes "out" ∷ []
shown_words (views.Listed m) = codes "listed" ∷ decimal m ∷ []
shown_words (views.In n again scripts) = codes "in" ∷ decimal n ∷ (due_words scripts ++ again_words again)
shown_words (views.From k) = codes "from" ∷ decimal k ∷ []
