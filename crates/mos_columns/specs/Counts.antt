-- How often the fields of columns were seen, and what that shows.
use Rattle.std.specs.Prelude.{ℕ, Bool, true, false, cond, List, [], ◌∷◌, Option, Some, None, map, drop, length, nat_lt, ◌&&◌, not, ◌+◌}
use Rattle.mos_fields.specs.Characters.{Text}
use Rattle.mos_fields.specs.Fields.{same_field}
use Rattle.mos_fields.specs.declared.field.Field.{Field}
use Rattle.mos_fields.specs.declared.field.Field.TheVariants as fields
use Rattle.mos_tables.specs.declared.column.Column.{Column}
use Rattle.mos_tables.specs.declared.table.Table.{Table}
use Rattle.mos_tables.specs.Tables.{columns, is_ack, ack_columns}
use Rattle.mos_grammar.specs.declared.fault.Fault.{Fault}
use Rattle.mos_grammar.specs.declared.fault.Fault.TheVariants.{Twice as twice, Order as out_of_order}
use Rattle.mos_grammar.specs.Records.{times, least_count, is_single, is_named, lack_of, or_else}

-- how often the field of each column was seen
abbrev pub counts_of : List Column → List Field → List ℕ
counts_of cs seen = map (λ (c : Column). times c.field seen) cs

-- some field was seen
abbrev pub any_counted : List ℕ → Bool
any_counted [] = false
any_counted (k ∷ ks) = cond (nat_lt 0 k) true (any_counted ks)

-- the first required field that was not seen
abbrev pub lacking_by : List Column → List ℕ → Option Fault
lacking_by [] ks = None
lacking_by (c ∷ cs) [] = None
lacking_by (c ∷ cs) (k ∷ ks) = cond (nat_lt k (least_count c.often)) (Some (lack_of c.field)) (lacking_by cs ks)

-- twice, out of order
abbrev pub repeated_by : List Column → List ℕ → Text → Option Fault
repeated_by [] ks n = None
repeated_by (c ∷ cs) [] n = None
repeated_by (c ∷ cs) (k ∷ ks) n = cond (is_named c n) (cond (is_single c.often && nat_lt 0 k) (Some (twice c.field)) (cond (any_counted ks) (Some (out_of_order c.field)) None)) (repeated_by cs ks n)

-- the first required field before the column of this name that was not seen
abbrev pub before_by : List Column → List ℕ → Text → Option Fault
before_by [] ks n = None
before_by (c ∷ cs) [] n = None
before_by (c ∷ cs) (k ∷ ks) n = cond (is_named c n) None (cond (nat_lt k (least_count c.often)) (Some (lack_of c.field)) (before_by cs ks n))

-- what a tag shows
abbrev pub tag_fault_by : List Column → List ℕ → Text → Option Fault
tag_fault_by cs ks n = or_else (repeated_by cs ks n) (before_by cs ks n)

-- where the column of this name stands, behind all where there is none
abbrev pub place_of : List Column → Text → ℕ
place_of [] n = 0
place_of (c ∷ cs) n = cond (is_named c n) 0 (1 + place_of cs n)

-- where the first required field that was not seen stands, behind all where there is none
abbrev pub lack_place : List Column → List ℕ → ℕ
lack_place [] ks = 0
lack_place (c ∷ cs) [] = length (c ∷ cs)
lack_place (c ∷ cs) (k ∷ ks) = cond (nat_lt k (least_count c.often)) 0 (1 + lack_place cs ks)

-- the first of these columns: itself, its lack, and what its field shows that is seen again or too late
abbrev pub head_of : List Column → Option Column
head_of [] = None
head_of (c ∷ cs) = Some c

abbrev pub head_lack : List Column → Option Fault
head_lack [] = None
head_lack (c ∷ cs) = Some (lack_of c.field)

abbrev pub head_repeated : List Column → List ℕ → Option Fault
head_repeated [] ks = None
head_repeated (c ∷ cs) [] = None
head_repeated (c ∷ cs) (k ∷ ks) = cond (is_single c.often && nat_lt 0 k) (Some (twice c.field)) (cond (any_counted ks) (Some (out_of_order c.field)) None)

-- what a record's end tag shows: of roAck the fields of a group are wanted where one of them was there
abbrev pub end_fault_by : Table → List ℕ → Option Fault
end_fault_by t ks = cond (is_ack t && not (any_counted (drop 2 ks))) (lacking_by ack_columns ks) (lacking_by (columns t) ks)

-- one more field was seen
abbrev pub bumped : List Column → List ℕ → Field → List ℕ
bumped [] ks f = ks
bumped (c ∷ cs) [] f = []
bumped (c ∷ cs) (k ∷ ks) f = cond (same_field c.field f) (k + 1) k ∷ bumped cs ks f

-- the record's own fields of roAck, in front of its groups
abbrev pub own_fields : List Field
own_fields = fields.RoID ∷ fields.RoStatus ∷ []

-- how often a field stands among those
unfoldable pub own_count : Field → ℕ
own_count f = times f own_fields

-- the fields of a group that has ended count no more: the record's own fields alone count
abbrev pub restarted : List Column → List ℕ → List ℕ
restarted [] ks = ks
restarted (c ∷ cs) [] = []
restarted (c ∷ cs) (k ∷ ks) = own_count c.field ∷ restarted cs ks

-- behind one more field: the status of a group of roAck ends the group
abbrev pub noted_by : Table → List ℕ → Field → List ℕ
noted_by t ks f = cond (is_ack t && same_field f fields.Status) (restarted (columns t) ks) (bumped (columns t) ks f)

-- each count may still grow by one
abbrev pub may_grow : List ℕ → Bool
may_grow [] = true
may_grow (k ∷ ks) = nat_lt k 18446744073709551615 && may_grow ks
