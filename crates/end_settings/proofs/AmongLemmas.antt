-- Two texts are the same.
use Rattle.std.proofs.Common.{◌≡◌, Bool, true, sym, ap, ◌∙◌}
use Rattle.std.proofs.lemmas.Bool.Decides.{same_from_decides}
use Rattle.std.specs.Bool.{Decides}
use Rattle.mos_fields.specs.Characters.{Text}
use Rattle.mos_fields.specs.Fields.{same}
use Rattle.mos_fields.proofs.WordLemmas.{same_is, same_self}

self_of : (x y : Text) → x ≡ y → same x y ≡ true
self_of x y e = sym (ap (same x) e) ∙ same_self x

pub decided_same : (r : Bool) (x y : Text) → Decides r (x ≡ y) → r ≡ same x y
decided_same r x y d =
    let other : Decides (same x y) (x ≡ y) = (same_is x y, self_of x y) in
    same_from_decides r (same x y) d other
