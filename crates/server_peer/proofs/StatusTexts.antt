-- Texts of roAcks are compared by their code units.
use Rattle.std.proofs.Common.{◌≡◌, codes, true, refl}
use Rattle.std.specs.Str.{bytes_eq}
use Rattle.mos_fields.specs.Characters.{are_allowed, units_of}
use Rattle.mos_fields.proofs.OrderLemmas.{same_by_units}
use Rattle.mos_edits.specs.Texts.{Text, same_id}

pub okay-text : (t : Text) → are_allowed t ≡ true → bytes_eq (units_of t) (units_of (codes "OK")) ≡ same_id t (codes "OK")
unfolding same_id
okay-text t a = same_by_units t (codes "OK") a refl

pub deck-text : (t : Text) → are_allowed t ≡ true → bytes_eq (units_of t) (units_of (codes "NO DECK")) ≡ same_id t (codes "NO DECK")
unfolding same_id
deck-text t a = same_by_units t (codes "NO DECK") a refl
