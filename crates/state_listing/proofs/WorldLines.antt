-- The lines of several devices, one more at the end.
use Rattle.std.proofs.Common.{◌≡◌, ℕ, zero, suc, ◌+◌, List, ◌++◌, sym, ap, ◌∙◌, arith}
use Rattle.std.proofs.lemmas.List.{append_assoc, append-nil}
use Rattle.mos_edits.specs.Texts.{Text}
use Rattle.world_laws.specs.World.{Pairing}
use Rattle.world_scripts.specs.Listing.{device_lines, devices_lines}

pub devices-more : (k d : ℕ) (pairings : ℕ → Pairing) (viewed : ℕ → List Text)
    → devices_lines (suc k) d pairings viewed ≡ devices_lines k d pairings viewed ++ device_lines (d + k) (pairings (d + k)) (viewed (d + k))
devices-more zero d pairings viewed =
    append-nil (device_lines d (pairings d) (viewed d)) ∙ ap (λ (e : ℕ). device_lines e (pairings e) (viewed e)) (let n : d ≡ d + 0 = omega arith in n)
devices-more (suc k) d pairings viewed =
    let n : (d + 1) + k ≡ d + suc k = omega arith in
    ap (λ (ys : List ℕ). device_lines d (pairings d) (viewed d) ++ ys) (devices-more k (d + 1) pairings viewed ∙ ap (λ (e : ℕ). devices_lines k (d + 1) pairings viewed ++ device_lines e (pairings e) (viewed e)) n)
    ∙ sym (append_assoc (device_lines d (pairings d) (viewed d)) (devices_lines k (d + 1) pairings viewed) (device_lines (d + suc k) (pairings (d + suc k)) (viewed (d + suc k))))
