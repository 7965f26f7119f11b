-- What a device plays of one story more.
use Rattle.std.proofs.Common.{◌≡◌, ℕ, zero, suc, ◌+◌, List, [], ◌∷◌, ◌++◌, drop, slice_get, Some, refl, sym, ap, subst, append_assoc, ◌∙◌, arith}
use Rattle.mos_edits.specs.Texts.{Text}
use Rattle.mos_values.specs.StoryValue.{Story}
use Rattle.deck_rack.specs.declared.plays.PlayItem.{PlayItem}
use Rattle.deck_rack.specs.Playlists.{played_items, played_stories}

stories-more : (mos : Text) (ss : List Story) (n : ℕ) (s : Story) → slice_get ss n ≡ Some s → played_stories mos (drop n ss) ≡ played_items mos s.items ++ played_stories mos (drop (suc n) ss)
stories-more mos [] n s h = absurd (cc)
stories-more mos (x ∷ ss) zero s h = let e : x ≡ s = cc in ap (λ (y : Story). played_items mos y.items ++ played_stories mos ss) e
stories-more mos (x ∷ ss) (suc n) s h = stories-more mos ss n s h

pub story-step : (mos : Text) (ss : List Story) (n : ℕ) (s : Story) (before after : List PlayItem) → slice_get ss n ≡ Some s → after ≡ before ++ played_items mos s.items
    → after ++ played_stories mos (drop (n + 1) ss) ≡ before ++ played_stories mos (drop n ss)
story-step mos ss n s before after h e =
    let k : n + 1 ≡ suc n = omega arith in
    ap (λ (l : List PlayItem). l ++ played_stories mos (drop (n + 1) ss)) e
    ∙ append_assoc before (played_items mos s.items) (played_stories mos (drop (n + 1) ss))
    ∙ ap (λ (l : List PlayItem). before ++ l) (ap (λ (j : ℕ). played_items mos s.items ++ played_stories mos (drop j ss)) k ∙ sym (stories-more mos ss n s h))
