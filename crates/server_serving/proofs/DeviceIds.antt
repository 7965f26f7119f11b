-- The mosIDs of the first devices.
use Rattle.std.proofs.Common.{◌≡◌, ℕ, ◌+◌, List, [], ◌∷◌, ◌++◌, take, map, Option, Some, ap, sym, ◌∙◌}
use Rattle.std.specs.Prelude.{slice_get}
use Rattle.std.proofs.lemmas.List.{map-append, take-map, take_more}
use Rattle.std.proofs.lemmas.Option.{get_or_from_slice_get, slice_get_within}
use Rattle.mos_fields.specs.Characters.{Text}
use Rattle.end_settings.specs.Devices.{mos_ids}
use Rattle.end_settings.specs.declared.devices.DeviceSettings.{DeviceSettings}

-- that of one device more
pub more_ids : (ds : List DeviceSettings) (i : ℕ) (d : DeviceSettings) (a b : List Text) → slice_get ds i ≡ Some d → a ≡ take i (mos_ids ds) → b ≡ a ++ d.mos_id ∷ []
    → b ≡ take (i + 1) (mos_ids ds)
more_ids ds i d a b s p q =
    let id : DeviceSettings → Text = λ (e : DeviceSettings). e.mos_id in
    q ∙ (ap (λ (l : List Text). l ++ d.mos_id ∷ []) (p ∙ take-map id i ds)
    ∙ (sym (map-append id (take i ds) (d ∷ []))
    ∙ (ap (λ (e : DeviceSettings). map id (take i ds ++ e ∷ [])) (sym (get_or_from_slice_get ds i d d s))
    ∙ (ap (map id) (sym (take_more ds i d (slice_get_within ds i d s))) ∙ sym (take-map id (i + 1) ds)))))
