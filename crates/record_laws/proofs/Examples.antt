-- Worked cases of the words.
use Rattle.std.proofs.Common.{◌≡◌, ℕ, List, Err, [], ◌∷◌, ◌++◌, refl, ap, ◌∙◌, arith, inl}
use Rattle.std.specs.Prelude.{codes}
use Rattle.mos_fields.specs.declared.field.Field.TheVariants as fields
use Rattle.mos_fields.specs.declared.form.Form.TheVariants as forms
use Rattle.mos_tables.specs.declared.table.Table.TheVariants.{Body, Story, Item, OneOrder, RoAck, ReadyToAir}
use Rattle.mos_tables.specs.declared.column.Shape.TheVariants.{Record}
use Rattle.mos_tables.specs.declared.column.Often.TheVariants.{Any}
use Rattle.mos_tables.specs.Tables.{column, columns, required, optional, raw_list}
use Rattle.mos_fields.specs.declared.field.Field.{Field}
use Rattle.mos_tables.specs.declared.table.Table.{Table}
use Rattle.mos_grammar.specs.declared.fault.Fault.TheVariants.{Twice as twice, Order as out_of_order, Missing as missing}
use Rattle.mos_grammar.specs.Tokens.{open_tag, close_tag}
use Rattle.mos_grammar.specs.Records.{Child, seen_of, role, admission, end_fault}
use Rattle.mos_grammar.specs.RecordMachine.{State, at, between, step}
use Rattle.record_laws.specs.Words.{copies, Fills}
use Rattle.record_laws.specs.Rows.{LacksFirst, IsTwice, IsOrder, IsMissing}

-- a roCreate with its two required fields, a channel, two stories, and an element of another name before the stories
filled_order : Fills Body (fields.RoID ∷ fields.RoSlug ∷ fields.RoChannel ∷ fields.Kept ∷ fields.StoryTag ∷ fields.StoryTag ∷ [])
filled_order = (1, _, refl, refl, (1, _, refl, refl, (1, _, omega arith, refl, (0, _, omega arith, refl, (0, _, omega arith, refl, (0, _, omega arith, refl, (0, _, omega arith, refl, (0, _, omega arith, refl, (0, _, tt, refl, (2, [], tt, refl, refl))))))))))

-- a roDelete with its one field
filled_delete : Fills OneOrder (fields.RoID ∷ [])
filled_delete = (1, [], refl, refl, refl)

-- two of it fill nothing, and neither does none
two_orders : Fills OneOrder (fields.RoID ∷ fields.RoID ∷ []) → ⊥
two_orders h = (let e : fields.RoID ∷ fields.RoID ∷ [] ≡ fields.RoID ∷ h.1 = h.3 ∙ ap (λ (k : ℕ). copies k fields.RoID ++ h.1) h.2 in let r = h.4 in cc)

no_order : Fills OneOrder [] → ⊥
no_order h = (let e : [] ≡ fields.RoID ∷ h.1 = h.3 ∙ ap (λ (k : ℕ). copies k fields.RoID ++ h.1) h.2 in cc)

-- a roAck with one group without a channel
filled_ack : Fills RoAck (fields.RoID ∷ fields.RoStatus ∷ fields.StoryID ∷ fields.ItemID ∷ fields.ObjID ∷ fields.Status ∷ [])
filled_ack = (
  1,
  fields.RoID ∷ fields.RoStatus ∷ [],
  fields.StoryID ∷ fields.ItemID ∷ fields.ObjID ∷ fields.Status ∷ [],
  (1, _, refl, refl, (1, [], refl, refl, refl)),
  (fields.StoryID ∷ fields.ItemID ∷ fields.ObjID ∷ fields.Status ∷ [], [], (1, _, refl, refl, (1, _, refl, refl, (1, _, refl, refl, (0, _, omega arith, refl, (1, [], refl, refl, refl))))), refl, refl),
  refl,
)

-- a second roID is Twice(roID)
second_order : IsTwice (columns ReadyToAir) (fields.RoID ∷ []) (codes "roID") fields.RoID
second_order = record {
  before = [];
  column = required fields.RoID forms.Id;
  behind = required fields.RoAir forms.Air ∷ [];
  is = record { columns_are = refl; named = refl; first = tt };
  field_is = refl;
  single = tt;
  stands = omega arith;
}

-- in a story a slug behind its number is Order(storySlug)
late_slug : IsOrder (columns Story) (fields.StoryID ∷ fields.StoryNum ∷ []) (codes "storySlug") fields.StorySlug
late_slug = record {
  before = required fields.StoryID forms.Key ∷ [];
  column = optional fields.StorySlug forms.Slug;
  behind = optional fields.StoryNum forms.Text ∷ raw_list fields.Metadata ∷ column fields.ItemTag (Record Item) Any ∷ [];
  is = record { columns_are = refl; named = refl; first = (refl, tt) };
  field_is = refl;
  not_twice = λ s w. absurd (omega arith);
  later = inl (omega arith);
}

-- a roAir before any roID is Missing(roID)
early_air : IsMissing (columns ReadyToAir) [] (codes "roAir") fields.RoID
early_air = record {
  before = required fields.RoID forms.Id ∷ [];
  column = required fields.RoAir forms.Air;
  behind = [];
  is = record { columns_are = refl; named = refl; first = (refl, tt) };
  lacks = record { before = []; column = required fields.RoID forms.Id; behind = []; columns_are = refl; field_is = refl; lacks = λ w. absurd (omega arith); enough = tt };
}

-- and so is the end tag behind a roID alone of its roAir
no_air : LacksFirst (columns ReadyToAir) (fields.RoID ∷ []) fields.RoAir
no_air = record {
  before = required fields.RoID forms.Id ∷ [];
  column = required fields.RoAir forms.Air;
  behind = [];
  columns_are = refl;
  field_is = refl;
  lacks = λ w. absurd (omega arith);
  enough = (omega arith, tt);
}

-- ---- the machine tells the same

abbrev children : List Field → List Child
children [] = []
children (f ∷ fs) = (f, []) ∷ children fs

-- a record of the table with children of these fields
abbrev opened : Table → List Field → State
opened t fs = at between (record { table = t; name = []; place = fields.Message; given = []; taken = []; before = children fs }) []

tells_second : step (opened ReadyToAir (fields.RoID ∷ [])) (open_tag (codes "roID") [] []) ≡ Err (twice fields.RoID)
unfolding step admission role seen_of
tells_second = refl

tells_late : step (opened Story (fields.StoryID ∷ fields.StoryNum ∷ [])) (open_tag (codes "storySlug") [] []) ≡ Err (out_of_order fields.StorySlug)
unfolding step admission role seen_of
tells_late = refl

tells_early : step (opened ReadyToAir []) (open_tag (codes "roAir") [] []) ≡ Err (missing fields.RoID)
unfolding step admission role seen_of
tells_early = refl

tells_end : step (opened ReadyToAir (fields.RoID ∷ [])) (close_tag []) ≡ Err (missing fields.RoAir)
unfolding step end_fault seen_of
tells_end = refl
