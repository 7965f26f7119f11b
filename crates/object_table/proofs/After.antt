-- A list with one object more.
use Rattle.std.proofs.Common.{◌≡◌, List, [], ◌∷◌, ◌++◌, refl}
use Rattle.mos_values.specs.declared.mos_obj.MosObj.{MosObj}
use Rattle.object_table.specs.Objects.{objects_from, objects_after, taken}

from-more : (xs os : List MosObj) (o : MosObj) → objects_from xs (os ++ o ∷ []) ≡ taken o (objects_from xs os)
from-more xs [] o = refl
from-more xs (p ∷ os) o = from-more (taken p xs) os o

pub after-more : (os : List MosObj) (o : MosObj) → objects_after (os ++ o ∷ []) ≡ taken o (objects_after os)
after-more os o = from-more [] os o
