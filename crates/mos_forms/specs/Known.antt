-- The attributes that the tables name, by their values, and what a start tag gives of them.
use Rattle.std.specs.Prelude.{◌≡◌, List, [], ◌∷◌, Option, Some, None}
use Rattle.mos_fields.specs.Characters.{Text}
use Rattle.mos_fields.specs.Values.{word_of}
use Rattle.mos_fields.specs.declared.field.Field.{Field}
use Rattle.mos_fields.specs.declared.field.Field.TheVariants as fields
use Rattle.mos_fields.specs.declared.level.Level.TheVariants.{Ro, Story, Item}
use Rattle.mos_fields.specs.declared.operation.Operation.TheVariants.{Insert, Replace, Move, Delete, Swap}
use Rattle.mos_tables.specs.Events.{Attribute}
use Rattle.mos_grammar.specs.declared.fault.Fault.TheVariants.{Value as wrong_value}
use Rattle.mos_grammar.specs.Records.{attribute_fault, given_of}
use Rattle.mos_events.specs.declared.known_attribute.KnownAttribute.{KnownAttribute}
use Rattle.mos_events.specs.declared.known_attribute.KnownAttribute.TheVariants as known
use Rattle.mos_events.specs.EventView.{attribute_of, attributes_of}
use Rattle.mos_forms.specs.declared.given.Given.{Given}
use Rattle.mos_forms.specs.declared.given.Given.TheVariants.{Known, Faulty}

-- the attribute's value
abbrev pub value_text : KnownAttribute → Text
value_text k = (attribute_of k).value

-- what an attribute of this name may be
unfoldable pub values_for : Field → List KnownAttribute
values_for fields.DeviceType = known.Ncs ∷ known.Mos ∷ []
values_for fields.Number = known.Number 0 ∷ known.Number 1 ∷ known.Number 2 ∷ known.Number 3 ∷ known.Number 4 ∷ known.Number 5 ∷ known.Number 6 ∷ known.Number 7 ∷ known.Number 8 ∷ known.Number 9 ∷ []
values_for fields.ElementKind = known.Element Ro ∷ known.Element Story ∷ known.Element Item ∷ []
values_for fields.OperationKind = known.Operation Insert ∷ known.Operation Replace ∷ known.Operation Move ∷ known.Operation Delete ∷ known.Operation Swap ∷ []
values_for f = []

-- the one with this value
abbrev pub known_in : List KnownAttribute → Text → Option KnownAttribute
known_in ks x = word_of value_text ks x

-- what is given where the attribute is there once, by what its value is
abbrev pub given_as : Field → Option KnownAttribute → Given
given_as f None = Faulty (wrong_value f)
given_as f (Some k) = Known (Some k)

-- the attribute that a table names is given, or lacks or has a fault
pub record IsGivenAs (wanted : Option Field) (given : List Attribute) (k : Option KnownAttribute) : Type 0 where
  pub fine : attribute_fault wanted given ≡ None
  pub is : attributes_of k ≡ given_of wanted given

abbrev pub IsGiven : Option Field → List Attribute → Given → Type 0
IsGiven wanted given (Known k) = IsGivenAs wanted given k
IsGiven wanted given (Faulty f) = attribute_fault wanted given ≡ Some f
