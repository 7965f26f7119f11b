-- Headers, items and stories without raw elements are sound, and so is a body of such.
use Rattle.std.proofs.Common.{◌≡◌, List, [], ◌∷◌, ◌++◌, None, sym, ap, ◌∙◌, subst}
use Rattle.mos_fields.specs.Characters.{Text}
use Rattle.mos_tables.specs.declared.table.Table.TheVariants as tables
use Rattle.mos_values.specs.declared.header.Header.{Header}
use Rattle.mos_values.specs.declared.item.Item.{Item}
use Rattle.mos_values.specs.OrderValue.{OrderBody}
use Rattle.mos_values.specs.Parts.{must, maybe, maybe_as, maybe_raw, raws}
use Rattle.mos_values.specs.Sound.{AllFit, AreSoundStories, IsSoundBody, IsSoundItem, IsSoundStory}
use Rattle.mos_values.specs.StoryValue.{Story}
use Rattle.mos_values.specs.Views.{header_events, item_events, story_head_events}

abbrev header_of : Text → Text → List Text → List Text → Header
header_of ro slug metadata others = record { ro = ro; slug = slug; channel = None; ed_start = None; ed_dur = None; trigger = None; macro_in = None; macro_out = None; metadata = metadata; others = others }

pub plain-header : (ro slug : Text) (metadata others : List Text) → metadata ≡ [] → others ≡ [] → AllFit tables.Body (header_events (record { ro = ro; slug = slug; channel = None; ed_start = None; ed_dur = None; trigger = None; macro_in = None; macro_out = None; metadata = metadata; others = others }))
unfolding header_events must maybe raws
plain-header ro slug metadata others m o =
    subst (λ (xs : List Text). AllFit tables.Body (header_events (header_of ro slug xs others))) (sym m)
    (subst (λ (xs : List Text). AllFit tables.Body (header_events (header_of ro slug [] xs))) (sym o) (tt, (tt, tt)))

abbrev pub item_of : Text → Text → Text → List Text → List Text → Item
item_of id obj mos metadata others = record { id = id; slug = None; obj = obj; mos = mos; mos_abstract = None; obj_paths = None; channel = None; ed_start = None; ed_dur = None; user_timing_dur = None; trigger = None; macro_in = None; macro_out = None; metadata = metadata; others = others }

pub plain-item : (id obj mos : Text) (metadata others : List Text) → metadata ≡ [] → others ≡ [] → IsSoundItem (item_of id obj mos metadata others)
unfolding item_events must maybe maybe_as maybe_raw raws
plain-item id obj mos metadata others m o =
    subst (λ (xs : List Text). IsSoundItem (item_of id obj mos xs others)) (sym m)
    (subst (λ (xs : List Text). IsSoundItem (item_of id obj mos [] xs)) (sym o) (tt, (tt, (tt, tt))))

abbrev pub story_of : Text → Story
story_of id = record { id = id; slug = None; num = None; metadata = []; others = []; items = [] }

short-story : (id : Text) (i : Item) → IsSoundItem i → IsSoundStory (record (story_of id) { items = i ∷ [] })
unfolding story_head_events must maybe raws
short-story id i sound = ((tt, tt), (sound, tt))

-- a story to which an item was added
pub plain-story : (id : Text) (i : Item) (s t : Story) → s ≡ story_of id → t ≡ record s { items = s.items ++ i ∷ [] } → IsSoundItem i → IsSoundStory t
plain-story id i s t e h sound = subst IsSoundStory (sym (h ∙ ap (λ (x : Story). record x { items = x.items ++ i ∷ [] }) e)) (short-story id i sound)

one-more : (xs : List Story) (s : Story) → AreSoundStories xs → IsSoundStory s → AreSoundStories (xs ++ s ∷ [])
one-more [] s h k = (k, tt)
one-more (x ∷ xs) s h k = (h.0, one-more xs s h.1 k)

-- a body to which a story was added
pub plain-body : (b t : OrderBody) (s : Story) → t ≡ record b { stories = b.stories ++ s ∷ [] } → IsSoundBody b → IsSoundStory s → IsSoundBody t
plain-body b t s e h k = subst IsSoundBody (sym e) (h.0, one-more b.stories s h.1 k)

pub empty-body : (header : Header) (b : OrderBody) → b ≡ record { header = header; stories = [] } → AllFit tables.Body (header_events header) → IsSoundBody b
empty-body header b e h = subst IsSoundBody (sym e) (h, tt)
