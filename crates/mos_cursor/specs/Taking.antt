-- The parts of columns, taken from the front of events.
use Rattle.std.specs.Prelude.{◌≡◌, ℕ, zero, suc, Bool, true, false, cond, List, [], ◌∷◌}
use Rattle.mos_fields.specs.Characters.{Text}
use Rattle.mos_fields.specs.Fields.{name_of, same, same_field}
use Rattle.mos_fields.specs.declared.field.Field.{Field}
use Rattle.mos_tables.specs.declared.column.Column.{Column}
use Rattle.mos_tables.specs.declared.column.Shape.{Shape}
use Rattle.mos_tables.specs.declared.column.Shape.TheVariants.{Leaf, Raw, Record, Message}
use Rattle.mos_tables.specs.declared.column.Often.{Often}
use Rattle.mos_tables.specs.declared.column.Often.TheVariants.{One, Optional, Any, Many, Count}
use Rattle.mos_tables.specs.Events.{Attribute, Event, leaf, raw, opens, closes}
use Rattle.mos_cursor.specs.Parts.{LeafPart, RecordPart, Part, absent, one_leaf, leaves, one_raw, raws, one_record, records, message}

-- ---- a text

abbrev pub leaf_taken : Text → List Event → Part
leaf_taken n [] = absent
leaf_taken n (leaf m g x ∷ es) = cond (same m n) (one_leaf (record { given = g; text = x })) absent
leaf_taken n (raw f x ∷ es) = absent
leaf_taken n (opens m g ∷ es) = absent
leaf_taken n (closes m ∷ es) = absent

abbrev pub leaf_left : Text → List Event → List Event
leaf_left n [] = []
leaf_left n (leaf m g x ∷ es) = cond (same m n) es (leaf m g x ∷ es)
leaf_left n (raw f x ∷ es) = raw f x ∷ es
leaf_left n (opens m g ∷ es) = opens m g ∷ es
leaf_left n (closes m ∷ es) = closes m ∷ es

-- texts

abbrev pub leaves_taken : Text → List Event → List LeafPart
leaves_taken n [] = []
leaves_taken n (leaf m g x ∷ es) = cond (same m n) (record { given = g; text = x } ∷ leaves_taken n es) []
leaves_taken n (raw f x ∷ es) = []
leaves_taken n (opens m g ∷ es) = []
leaves_taken n (closes m ∷ es) = []

abbrev pub leaves_left : Text → List Event → List Event
leaves_left n [] = []
leaves_left n (leaf m g x ∷ es) = cond (same m n) (leaves_left n es) (leaf m g x ∷ es)
leaves_left n (raw f x ∷ es) = raw f x ∷ es
leaves_left n (opens m g ∷ es) = opens m g ∷ es
leaves_left n (closes m ∷ es) = closes m ∷ es

-- ---- raw elements

abbrev pub raw_taken : Field → List Event → Part
raw_taken f [] = absent
raw_taken f (leaf m g x ∷ es) = absent
raw_taken f (raw h x ∷ es) = cond (same_field h f) (one_raw x) absent
raw_taken f (opens m g ∷ es) = absent
raw_taken f (closes m ∷ es) = absent

abbrev pub raw_left : Field → List Event → List Event
raw_left f [] = []
raw_left f (leaf m g x ∷ es) = leaf m g x ∷ es
raw_left f (raw h x ∷ es) = cond (same_field h f) es (raw h x ∷ es)
raw_left f (opens m g ∷ es) = opens m g ∷ es
raw_left f (closes m ∷ es) = closes m ∷ es

abbrev pub raws_taken : Field → List Event → List Text
raws_taken f [] = []
raws_taken f (leaf m g x ∷ es) = []
raws_taken f (raw h x ∷ es) = cond (same_field h f) (x ∷ raws_taken f es) []
raws_taken f (opens m g ∷ es) = []
raws_taken f (closes m ∷ es) = []

abbrev pub raws_left : Field → List Event → List Event
raws_left f [] = []
raws_left f (leaf m g x ∷ es) = leaf m g x ∷ es
raws_left f (raw h x ∷ es) = cond (same_field h f) (raws_left f es) (raw h x ∷ es)
raws_left f (opens m g ∷ es) = opens m g ∷ es
raws_left f (closes m ∷ es) = closes m ∷ es

-- ---- records

-- the events up to the end of a record, inside so many further records
abbrev pub inner_of : ℕ → List Event → List Event
inner_of d [] = []
inner_of d (leaf m g x ∷ es) = leaf m g x ∷ inner_of d es
inner_of d (raw f x ∷ es) = raw f x ∷ inner_of d es
inner_of d (opens m g ∷ es) = opens m g ∷ inner_of (suc d) es
inner_of zero (closes m ∷ es) = []
inner_of (suc d) (closes m ∷ es) = closes m ∷ inner_of d es

-- and behind it
abbrev pub behind_of : ℕ → List Event → List Event
behind_of d [] = []
behind_of d (leaf m g x ∷ es) = behind_of d es
behind_of d (raw f x ∷ es) = behind_of d es
behind_of d (opens m g ∷ es) = behind_of (suc d) es
behind_of zero (closes m ∷ es) = es
behind_of (suc d) (closes m ∷ es) = behind_of d es

abbrev pub opened : List Attribute → List Event → RecordPart
opened g es = record { given = g; inner = inner_of 0 es }

abbrev pub record_taken : Text → List Event → Part
record_taken n [] = absent
record_taken n (leaf m g x ∷ es) = absent
record_taken n (raw f x ∷ es) = absent
record_taken n (opens m g ∷ es) = cond (same m n) (one_record (opened g es)) absent
record_taken n (closes m ∷ es) = absent

abbrev pub record_left : Text → List Event → List Event
record_left n [] = []
record_left n (leaf m g x ∷ es) = leaf m g x ∷ es
record_left n (raw f x ∷ es) = raw f x ∷ es
record_left n (opens m g ∷ es) = cond (same m n) (behind_of 0 es) (opens m g ∷ es)
record_left n (closes m ∷ es) = closes m ∷ es

-- records of this name, and what is left behind them
pub data TakesRecords (n : Text) : List Event → List RecordPart → List Event → Type 0 where
  no_more : {es : List Event} → record_taken n es ≡ absent → TakesRecords n es [] es
  one_more : {es r : List Event} {p : RecordPart} {ps : List RecordPart} → record_taken n es ≡ one_record p → TakesRecords n (record_left n es) ps r → TakesRecords n es (p ∷ ps) r

-- ---- a message's element

abbrev pub message_taken : Field → List Event → Part
message_taken f [] = absent
message_taken f (leaf m g x ∷ es) = absent
message_taken f (raw h x ∷ es) = one_raw x
message_taken f (opens m g ∷ es) = message m (opened g es)
message_taken f (closes m ∷ es) = absent

abbrev pub message_left : List Event → List Event
message_left [] = []
message_left (leaf m g x ∷ es) = leaf m g x ∷ es
message_left (raw h x ∷ es) = es
message_left (opens m g ∷ es) = behind_of 0 es
message_left (closes m ∷ es) = closes m ∷ es

-- ---- a column

-- at most one element
abbrev pub is_one_at_most : Often → Bool
is_one_at_most One = true
is_one_at_most Optional = true
is_one_at_most Any = false
is_one_at_most Many = false
is_one_at_most (Count k) = false

abbrev pub TakesAs : Field → Shape → Bool → List Event → Part → List Event → Type 0
TakesAs f (Leaf form) true es p r = (p ≡ leaf_taken (name_of f) es) × (r ≡ leaf_left (name_of f) es)
TakesAs f (Leaf form) false es p r = (p ≡ leaves (leaves_taken (name_of f) es)) × (r ≡ leaves_left (name_of f) es)
TakesAs f Raw true es p r = (p ≡ raw_taken f es) × (r ≡ raw_left f es)
TakesAs f Raw false es p r = (p ≡ raws (raws_taken f es)) × (r ≡ raws_left f es)
TakesAs f (Record u) true es p r = (p ≡ record_taken (name_of f) es) × (r ≡ record_left (name_of f) es)
TakesAs f (Record u) false es p r = (ps : List RecordPart) × (p ≡ records ps) × TakesRecords (name_of f) es ps r
TakesAs f Message b es p r = (p ≡ message_taken f es) × (r ≡ message_left es)

-- the part of the column, and what is left behind it
pub record Takes (c : Column) (es : List Event) (p : Part) (r : List Event) : Type 0 where
  pub taken : TakesAs c.field c.shape (is_one_at_most c.often) es p r

-- the parts of columns
abbrev pub TakesAll : List Column → List Event → List Part → List Event → Type 0
TakesAll [] es [] r = r ≡ es
TakesAll [] es (p ∷ ps) r = ⊥
TakesAll (c ∷ cs) es [] r = ⊥
TakesAll (c ∷ cs) es (p ∷ ps) r = (m : List Event) × Takes c es p m × TakesAll cs m ps r

-- ---- what the events begin with

abbrev pub begins_leaf : Text → List Event → Bool
begins_leaf n (leaf m g x ∷ es) = same m n
begins_leaf n es = false

abbrev pub begins_raw : Field → List Event → Bool
begins_raw f (raw h x ∷ es) = same_field h f
begins_raw f es = false

abbrev pub begins_record : Text → List Event → Bool
begins_record n (opens m g ∷ es) = same m n
begins_record n es = false

abbrev pub begins_message : List Event → Bool
begins_message (raw h x ∷ es) = true
begins_message (opens m g ∷ es) = true
begins_message es = false
