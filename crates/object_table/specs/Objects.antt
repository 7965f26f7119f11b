-- The objects that a list of objects leaves: the last one of each objID.
use Rattle.std.specs.Prelude.{◌≡◌, ℕ, zero, suc, List, [], ◌∷◌, Bool, true, false, Option, None, Some, if◌then◌else◌, map, codes}
use Rattle.mos_fields.specs.Characters.{Text}
use Rattle.mos_edits.specs.Texts.{same_id}
use Rattle.mos_values.specs.declared.mos_obj.MosObj.{MosObj}

-- the objIDs, in order
abbrev pub object_ids : List MosObj → List Text
object_ids xs = map (λ (x : MosObj). x.id) xs

-- whether a status says that the object is no more
abbrev pub says_deleted : Option Text → Bool
says_deleted None = false
says_deleted (Some status) = same_id status (codes "DELETED")

-- an object in the place of the one that has its objID, or behind all where none has
abbrev pub put_object : MosObj → List MosObj → List MosObj
put_object o [] = o ∷ []
put_object o (x ∷ xs) = if same_id o.id x.id then o ∷ xs else x ∷ put_object o xs

-- what is left without the object of that objID
abbrev pub without_object : Text → List MosObj → List MosObj
without_object id [] = []
without_object id (x ∷ xs) = if same_id id x.id then xs else x ∷ without_object id xs

-- what the objects are once one more is taken
abbrev pub taken : MosObj → List MosObj → List MosObj
taken o xs = if says_deleted o.status then without_object o.id xs else put_object o xs

-- what they are once more are taken, one after the other
abbrev pub objects_from : List MosObj → List MosObj → List MosObj
objects_from xs [] = xs
objects_from xs (o ∷ os) = objects_from (taken o xs) os

-- what a list of objects leaves
abbrev pub objects_after : List MosObj → List MosObj
objects_after os = objects_from [] os

-- the object of an objID, where there is one
abbrev pub find_object : Text → List MosObj → Option MosObj
find_object id [] = None
find_object id (x ∷ xs) = if same_id id x.id then Some x else find_object id xs

-- the first object of that objID stands at the place
abbrev pub StandsAt : Text → List MosObj → ℕ → Type 0
StandsAt id [] n = ⊥
StandsAt id (x ∷ xs) zero = same_id id x.id ≡ true
StandsAt id (x ∷ xs) (suc n) = (same_id id x.id ≡ false) × StandsAt id xs n
