-- Keys in memory, to be looked up.
use Rattle.std.specs.Prelude.{◌≡◌, List, is_some}
use Rattle.std.specs.BTreeMap.{get, BTreeMap}
use Rattle.std.specs.Cmp.Lexicographic.{slice_cmp}
use Rattle.std.specs.Ordering.{nat_cmp}
use Rattle.mos_fields.specs.Characters.{Text}
use Rattle.mos_fields.specs.Forms.{among}

-- the map has these keys
pub record Holds {V : Type 0} (m : BTreeMap Text V) (ks : List Text) : Type 0 where
  pub has : (x : Text) → among x ks ≡ is_some (get (slice_cmp nat_cmp) m x)
