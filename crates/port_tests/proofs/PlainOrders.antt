-- Headers and stories without raw elements are sound.
use Rattle.std.proofs.Common.{◌≡◌, List, [], ◌∷◌, ◌++◌, None, sym, ap, ◌∙◌, subst}
use Rattle.mos_fields.specs.Characters.{Text}
use Rattle.mos_tables.specs.declared.table.Table.TheVariants as tables
use Rattle.mos_values.specs.declared.header.Header.{Header}
use Rattle.mos_values.specs.Parts.{must, maybe, raws}
use Rattle.mos_values.specs.Sound.{AllFit, AreSoundStories, IsSoundStory}
use Rattle.mos_values.specs.StoryValue.{Story}
use Rattle.mos_values.specs.Views.{header_events, story_head_events}

abbrev plain : Text → Text → List Text → List Text → Header
plain ro slug metadata others = record { ro = ro; slug = slug; channel = None; ed_start = None; ed_dur = None; trigger = None; macro_in = None; macro_out = None; metadata = metadata; others = others }

pub plain-header : (ro slug : Text) (metadata others : List Text) → metadata ≡ [] → others ≡ [] → AllFit tables.Body (header_events (record { ro = ro; slug = slug; channel = None; ed_start = None; ed_dur = None; trigger = None; macro_in = None; macro_out = None; metadata = metadata; others = others }))
unfolding header_events must maybe raws
plain-header ro slug metadata others m o =
    subst (λ (xs : List Text). AllFit tables.Body (header_events (plain ro slug xs others))) (sym m)
    (subst (λ (xs : List Text). AllFit tables.Body (header_events (plain ro slug [] xs))) (sym o) (tt, (tt, tt)))

abbrev pub story_of : Text → Story
story_of id = record { id = id; slug = None; num = None; metadata = []; others = []; items = [] }

plain-story : (id : Text) → IsSoundStory (story_of id)
unfolding story_head_events must maybe raws
plain-story id = ((tt, tt), tt)

-- such a story alone
pub plain-stories : (id : Text) (none stories : List Story) (s : Story) → none ≡ [] → s ≡ story_of id → stories ≡ none ++ s ∷ [] → AreSoundStories stories
plain-stories id none stories s n e h = subst AreSoundStories (sym (h ∙ (ap (λ (xs : List Story). xs ++ s ∷ []) n ∙ ap (λ (x : Story). x ∷ []) e))) (plain-story id, tt)
