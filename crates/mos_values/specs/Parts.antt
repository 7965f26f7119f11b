-- What the fields of a record add to its value, one field after another.
use Rattle.std.specs.Prelude.{ℕ, List, [], ◌∷◌, ◌++◌, Option, Some, None, map}
use Rattle.mos_fields.specs.Characters.{Text}
use Rattle.mos_fields.specs.declared.field.Field.{Field}
use Rattle.mos_fields.specs.declared.field.Field.TheVariants as fields
use Rattle.mos_fields.specs.Fields.{name_of}
use Rattle.mos_tables.specs.Events.{Attribute, Event, leaf, raw, opens, closes}

-- a field with a text
unfoldable pub must : Field → Text → List Event
must f x = leaf (name_of f) [] x ∷ []

-- one that may be absent
unfoldable pub maybe : Field → Option Text → List Event
maybe f None = []
maybe f (Some x) = must f x

-- one that may be absent, of a value with a canonical text
unfoldable pub maybe_as : {A : Type 0} → (A → Text) → Field → Option A → List Event
maybe_as write f None = []
maybe_as write f (Some a) = must f (write a)

-- a raw element
unfoldable pub must_raw : Field → Text → List Event
must_raw f x = raw f x ∷ []

-- one that may be absent
unfoldable pub maybe_raw : Field → Option Text → List Event
maybe_raw f None = []
maybe_raw f (Some x) = must_raw f x

-- any number of them
unfoldable pub raws : Field → List Text → List Event
raws f xs = map (raw f) xs

-- one part after another
abbrev pub joined : List (List Event) → List Event
joined [] = []
joined (es ∷ ess) = es ++ joined ess

-- an attribute of this name
abbrev pub attribute : Field → Text → Attribute
attribute f x = record { name = name_of f; value = x }

-- an element with attributes, with what stands in it
abbrev pub element_with : Text → List Attribute → List Event → List Event
element_with n g es = opens n g ∷ (es ++ closes n ∷ [])

-- an element without attributes
abbrev pub element : Text → List Event → List Event
element n es = element_with n [] es
