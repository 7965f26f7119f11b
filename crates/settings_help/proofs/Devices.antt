-- Lines on devices of which one was taken out in front.
use Rattle.std.proofs.Common.{◌≡◌, ℕ, suc, ◌+◌, ◌-◌, ◌≤◌, List, [], ◌∷◌, ◌++◌, length, take, drop, get_or, ap, ◌∙◌, arith, add-one}
use Rattle.std.proofs.lemmas.List.{append_assoc, take_rest}
use Rattle.mos_fields.specs.Characters.{Text}
use Rattle.end_settings.specs.declared.devices.DeviceSettings.{DeviceSettings}
use Rattle.settings_help.specs.Notes.{both_notes, device_notes}

further_notes : (file : List ℕ) (id : Text) (all : List DeviceSettings) (n : ℕ) (x : List DeviceSettings) (d : DeviceSettings) → 1 ≤ length x → d ≡ get_or x 0 d
    → both_notes file id all n d ++ device_notes file id all (n + 1) (take (length x - 1) (drop 1 x)) ≡ device_notes file id all n x
further_notes file id all n [] d h i = absurd (omega (arith, h))
further_notes file id all n (e ∷ x) d h i =
    ap (λ z. both_notes file id all n d ++ device_notes file id all (n + 1) z) (take_rest (e ∷ x) 1)
    ∙ ap (λ k. both_notes file id all n d ++ device_notes file id all k x) (add-one n)
    ∙ ap (λ a. both_notes file id all n a ++ device_notes file id all (suc n) x) i

-- after its lines were appended
pub notes_turn : (file : List ℕ) (id : Text) (all : List DeviceSettings) (n : ℕ) (x : List DeviceSettings) (d : DeviceSettings) (out new : List ℕ) → 1 ≤ length x → d ≡ get_or x 0 d → new ≡ out ++ both_notes file id all n d
    → new ++ device_notes file id all (n + 1) (take (length x - 1) (drop 1 x)) ≡ out ++ device_notes file id all n x
notes_turn file id all n x d out new h i e =
    ap (λ z. z ++ device_notes file id all (n + 1) (take (length x - 1) (drop 1 x))) e
    ∙ append_assoc out (both_notes file id all n d) (device_notes file id all (n + 1) (take (length x - 1) (drop 1 x)))
    ∙ ap (λ z. out ++ z) (further_notes file id all n x d h i)

pub fewer_left : (x : List DeviceSettings) (n most : ℕ) → 1 ≤ length x → n + length x ≤ most → n + 1 + length (take (length x - 1) (drop 1 x)) ≤ most
fewer_left [] n most h f = absurd (omega (arith, h))
fewer_left (d ∷ x) n most h f =
    let same : length (take (length (d ∷ x) - 1) (drop 1 (d ∷ x))) ≡ length x = ap length (take_rest (d ∷ x) 1) in
    omega (arith, f, same)
