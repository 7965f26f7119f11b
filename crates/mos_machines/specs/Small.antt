-- Orders whose numbers of samples are those that a field may have.
use Rattle.std.specs.Prelude.{ℕ, ◌<◌, List, [], ◌∷◌, Option, Some, None}
use Rattle.mos_edits.specs.Orders.{Item, Story, OrderBody}

-- a number of samples, where it is there, fits into 32 bits
abbrev pub IsSmall : Option ℕ → Type 0
IsSmall None = Unit {0}
IsSmall (Some n) = n < 4294967296

abbrev pub IsSmallItem : Item → Type 0
IsSmallItem i = IsSmall i.ed_start × IsSmall i.ed_dur × IsSmall i.user_timing_dur

abbrev pub AreSmallItems : List Item → Type 0
AreSmallItems [] = Unit {0}
AreSmallItems (i ∷ is) = IsSmallItem i × AreSmallItems is

abbrev pub AreSmallStories : List Story → Type 0
AreSmallStories [] = Unit {0}
AreSmallStories (s ∷ ss) = AreSmallItems s.items × AreSmallStories ss

abbrev pub IsSmallOrder : OrderBody → Type 0
IsSmallOrder o = AreSmallStories o.stories
