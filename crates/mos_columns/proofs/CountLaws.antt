-- What counts show is what the fields seen show.
use Rattle.std.proofs.Common.{◌≡◌, ℕ, Bool, true, false, cond, List, [], ◌∷◌, ◌++◌, Some, None, refl, ap, ◌∙◌}
use Rattle.std.specs.Prelude.{Option, nat_lt, ◌&&◌, not}
use Rattle.mos_fields.specs.Characters.{Text}
use Rattle.mos_fields.specs.declared.field.Field.{Field}
use Rattle.mos_tables.specs.declared.column.Column.{Column}
use Rattle.mos_tables.specs.declared.table.Table.{Table}
use Rattle.mos_tables.specs.declared.table.Table.TheVariants.{Envelope, Body, HeaderPatch, Story, Item, MosObj, Heartbeat, NoFields, ListMachInfo, SupportedProfiles, MosAck, MosReqObj, MosReqAll, MosListAll, OneOrder, RoListAll, ElementStat, Action, Target, Source, ReadyToAir, RoAck, StorySend}
use Rattle.mos_tables.specs.Tables.{columns, is_ack, ack_columns, group_columns}
use Rattle.mos_grammar.specs.Records.{times, least_count, is_named, lack_of, any_seen, lacking, repeated, before_column, field_fault, or_else, wanted, seen_behind}
use Rattle.mos_fields.specs.Fields.{same_field}
use Rattle.mos_fields.specs.declared.field.Field.TheVariants as fields
use Rattle.mos_grammar.specs.declared.fault.Fault.{Fault}
use Rattle.mos_grammar.proofs.Seen.{times_push}
use Rattle.mos_columns.specs.Counts.{counts_of, any_counted, lacking_by, repeated_by, before_by, tag_fault_by, end_fault_by, bumped, noted_by, own_count, own_fields, restarted}

pub any_is : (cs : List Column) (seen : List Field) → any_counted (counts_of cs seen) ≡ any_seen cs seen
any_is [] seen = refl
any_is (c ∷ cs) seen = ap (cond (nat_lt 0 (times c.field seen)) true) (any_is cs seen)

pub lacking_is : (cs : List Column) (seen : List Field) → lacking_by cs (counts_of cs seen) ≡ lacking cs seen
lacking_is [] seen = refl
lacking_is (c ∷ cs) seen = ap (cond (nat_lt (times c.field seen) (least_count c.often)) (Some (lack_of c.field))) (lacking_is cs seen)

pub repeated_is : (cs : List Column) (seen : List Field) (n : Text) → repeated_by cs (counts_of cs seen) n ≡ repeated cs seen n
repeated_is [] seen n = refl
repeated_is (c ∷ cs) seen n = rw (any_is cs seen, repeated_is cs seen n) refl

pub before_is : (cs : List Column) (seen : List Field) (n : Text) → before_by cs (counts_of cs seen) n ≡ lacking (before_column cs n) seen
before_is [] seen n = refl
before_is (c ∷ cs) seen n = go (is_named c n) (before_is cs seen n)
  where
    go : (b : Bool) → before_by cs (counts_of cs seen) n ≡ lacking (before_column cs n) seen
        → cond b None (cond (nat_lt (times c.field seen) (least_count c.often)) (Some (lack_of c.field)) (before_by cs (counts_of cs seen) n)) ≡ lacking (cond b [] (c ∷ before_column cs n)) seen
    go true e = refl
    go false e = ap (cond (nat_lt (times c.field seen) (least_count c.often)) (Some (lack_of c.field))) e

pub tag_fault_is : (cs : List Column) (ks : List ℕ) (n : Text) (seen : List Field) → ks ≡ counts_of cs seen → tag_fault_by cs ks n ≡ field_fault cs seen n
tag_fault_is cs ks n seen e = rw (e, repeated_is cs seen n, before_is cs seen n) refl

-- roAck is the one with groups
groups_are : (t : Table) → is_ack t ≡ true → columns t ≡ ack_columns ++ group_columns
groups_are RoAck e = refl
groups_are Envelope e = absurd cc
groups_are Body e = absurd cc
groups_are HeaderPatch e = absurd cc
groups_are Story e = absurd cc
groups_are Item e = absurd cc
groups_are MosObj e = absurd cc
groups_are Heartbeat e = absurd cc
groups_are NoFields e = absurd cc
groups_are ListMachInfo e = absurd cc
groups_are SupportedProfiles e = absurd cc
groups_are MosAck e = absurd cc
groups_are MosReqObj e = absurd cc
groups_are MosReqAll e = absurd cc
groups_are MosListAll e = absurd cc
groups_are OneOrder e = absurd cc
groups_are RoListAll e = absurd cc
groups_are ElementStat e = absurd cc
groups_are (Action o) e = absurd cc
groups_are (Target o) e = absurd cc
groups_are (Source o a) e = absurd cc
groups_are ReadyToAir e = absurd cc
groups_are StorySend e = absurd cc

pub end_fault_is : (t : Table) (ks : List ℕ) (seen : List Field) → ks ≡ counts_of (columns t) seen → end_fault_by t ks ≡ lacking (wanted t seen) seen
end_fault_is t ks seen e = ap (end_fault_by t) e ∙ go (is_ack t) refl
  where
    two : (b : Bool) → cond (not b) (lacking_by ack_columns (counts_of (ack_columns ++ group_columns) seen)) (lacking_by (ack_columns ++ group_columns) (counts_of (ack_columns ++ group_columns) seen)) ≡ lacking (cond (not b) ack_columns (ack_columns ++ group_columns)) seen
    two true = lacking_is (ack_columns ++ group_columns) seen
    two false = refl

    go : (b : Bool) → is_ack t ≡ b → end_fault_by t (counts_of (columns t) seen) ≡ lacking (wanted t seen) seen
    go true i = rw (i, groups_are t i, any_is group_columns seen) (two (any_seen group_columns seen))
    go false i = rw i (lacking_is (columns t) seen)

pub bumped_is : (cs : List Column) (seen : List Field) (f : Field) → bumped cs (counts_of cs seen) f ≡ counts_of cs (seen ++ f ∷ [])
bumped_is [] seen f = refl
bumped_is (c ∷ cs) seen f = rw (times_push c.field f seen, bumped_is cs seen f) refl

pub restarted_is : (cs : List Column) (seen : List Field) → restarted cs (counts_of cs seen) ≡ counts_of cs own_fields
unfolding own_count
restarted_is [] seen = refl
restarted_is (c ∷ cs) seen = ap (λ (z : List ℕ). times c.field own_fields ∷ z) (restarted_is cs seen)

pub noted_is : (t : Table) (ks : List ℕ) (seen : List Field) (f : Field) → ks ≡ counts_of (columns t) seen → noted_by t ks f ≡ counts_of (columns t) (seen_behind t seen f)
noted_is t ks seen f e = ap (λ (z : List ℕ). noted_by t z f) e ∙ go (is_ack t && same_field f fields.Status)
  where
    go : (b : Bool) → cond b (restarted (columns t) (counts_of (columns t) seen)) (bumped (columns t) (counts_of (columns t) seen) f) ≡ counts_of (columns t) (cond b (fields.RoID ∷ fields.RoStatus ∷ []) (seen ++ f ∷ []))
    go true = restarted_is (columns t) seen
    go false = bumped_is (columns t) seen f

pub or_none : (k : Option Fault) → k ≡ or_else k None
or_none None = refl
or_none (Some f) = refl
