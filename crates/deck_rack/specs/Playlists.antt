-- Playlists: what a device is to play of an order.
use Rattle.std.specs.Prelude.{List, [], ◌∷◌, ◌++◌, Option, None, Some, if◌then◌else◌}
use Rattle.mos_edits.specs.Texts.{Text, same_id}
use Rattle.mos_edits.specs.Orders.{Order}
use Rattle.mos_values.specs.declared.item.Item.{Item}
use Rattle.mos_values.specs.StoryValue.{Story}
use Rattle.deck_rack.specs.declared.plays.PlayItem.{PlayItem}

-- an item as it is played, where its mosID is that of the device
abbrev pub played : Text → Item → List PlayItem
played mos i = if same_id i.mos mos then record { item = i.id; obj = i.obj } ∷ [] else []

-- those of a story, in order
abbrev pub played_items : Text → List Item → List PlayItem
played_items mos [] = []
played_items mos (i ∷ is) = played mos i ++ played_items mos is

-- those of all stories, in order
abbrev pub played_stories : Text → List Story → List PlayItem
played_stories mos [] = []
played_stories mos (s ∷ ss) = played_items mos s.items ++ played_stories mos ss

-- the playlist of an order for a device, which is empty where there is no order; scripts are no part of it
abbrev pub playlist_of : Option Order → Text → List PlayItem
playlist_of None mos = []
playlist_of (Some o) mos = played_stories mos o.stories
