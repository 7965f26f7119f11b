-- Objects that are taken into a table, one after the other.
use Rattle.std.specs.Prelude.{List, [], ◌∷◌, Bool, true, false, if◌then◌else◌, nat_lt}
use Rattle.mos_values.specs.declared.mos_obj.MosObj.{MosObj}
use Rattle.object_table.specs.Objects.{taken}
use Rattle.object_table.specs.Sizes.{list_size, size_limit}

-- whether a table has no room for these objects
abbrev pub is_too_much : List MosObj → Bool
is_too_much xs = nat_lt size_limit (list_size xs)

-- The table once these are taken in order, up to the first for which there is no room; and whether there was room for all.
abbrev pub take_all : List MosObj → List MosObj → List MosObj × Bool
take_all table [] = (table, true)
take_all table (o ∷ os) = if is_too_much (taken o table) then (table, false) else take_all (taken o table) os
