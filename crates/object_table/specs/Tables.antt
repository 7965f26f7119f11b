-- What a table keeps beside its objects, and why it doesn't take one.
use Rattle.std.specs.Prelude.{◌≡◌, ℕ, ◌<◌, ◌≤◌, List}
use Rattle.mos_fields.specs.Characters.{Text}
use Rattle.mos_values.specs.Units.{capped}
use Rattle.mos_values.specs.declared.mos_obj.MosObj.{MosObj}
use Rattle.object_table.specs.Objects.{object_ids}
use Rattle.object_table.specs.Sizes.{list_size, size_limit}
use Rattle.object_table.specs.declared.fault.TableFault.{TableFault}
use Rattle.object_table.specs.declared.fault.TableFault.TheVariants.{Full, NoMemory}

-- the identifiers by which the objects are found, and how many code units the list of all has
pub record IsKept (objects : List MosObj) (places : List Text) (units : ℕ) : Type 0 where
  pub placed : places ≡ object_ids objects
  pub counted : units ≡ list_size objects
  pub within : list_size objects ≤ size_limit

-- why the objects can't be these: the list of all would pass the limit. Memory may run out of any cause.
abbrev pub IsFault : List MosObj → TableFault → Type 0
IsFault after (Full units) = (size_limit < list_size after) × (units ≡ capped (list_size after))
IsFault after NoMemory = Unit {0}
