-- Worked examples of actions and of sizes, computed.
use Rattle.std.proofs.Common.{◌≡◌, List, [], ◌∷◌, refl, Some, None}
use Rattle.std.specs.Prelude.{codes}
use Rattle.mos_values.specs.Headers.{patch_of}
use Rattle.mos_edits.specs.Orders.{Header}
use Rattle.mos_edits.specs.Sizes.{list_units, list_all_units, field_units}
use Rattle.mos_edits.specs.Texts.{Text, same_id}
use Rattle.mos_edits.specs.KeyedLists.{Applied, ListAction, act_list}
use Rattle.mos_edits.specs.KeyedLists.ActFault.{Missing, AlreadyThere}
use Rattle.mos_edits.specs.KeyedLists.Applied.{Done, Fault}
use Rattle.mos_edits.specs.KeyedLists.ListAction.{Insert, Replace, Move, Delete, Swap}

abbrev a : Text
a = 65 ∷ []

abbrev b : Text
b = 66 ∷ []

abbrev c : Text
c = 67 ∷ []

abbrev d : Text
d = 68 ∷ []

abbrev e : Text
e = 69 ∷ []

abbrev abc : List Text
abc = a ∷ b ∷ c ∷ []

abbrev on : ListAction Text → List Text → Applied (List Text)
on action xs = act_list (λ id. id) action xs

move_before : on (Move a (c ∷ [])) abc ≡ Done (c ∷ a ∷ b ∷ [])
unfolding same_id
move_before = refl

move_before_itself : on (Move a (a ∷ [])) abc ≡ Fault (Missing a)
unfolding same_id
move_before_itself = refl

move_to_the_end : on (Move [] (b ∷ a ∷ [])) abc ≡ Done (c ∷ b ∷ a ∷ [])
unfolding same_id
move_to_the_end = refl

move_twice : on (Move [] (b ∷ b ∷ [])) abc ≡ Fault (Missing b)
unfolding same_id
move_twice = refl

swap_with_itself : on (Swap a a) abc ≡ Done abc
unfolding same_id
swap_with_itself = refl

swap_ends : on (Swap a c) abc ≡ Done (c ∷ b ∷ a ∷ [])
unfolding same_id
swap_ends = refl

swap_missing : on (Swap a e) abc ≡ Fault (Missing e)
unfolding same_id
swap_missing = refl

delete_twice : on (Delete (b ∷ b ∷ [])) abc ≡ Fault (Missing b)
unfolding same_id
delete_twice = refl

delete_two : on (Delete (c ∷ a ∷ [])) abc ≡ Done (b ∷ [])
unfolding same_id
delete_two = refl

insert_at_the_end : on (Insert [] (d ∷ [])) abc ≡ Done (a ∷ b ∷ c ∷ d ∷ [])
unfolding same_id
insert_at_the_end = refl

insert_before : on (Insert b (d ∷ e ∷ [])) abc ≡ Done (a ∷ d ∷ e ∷ b ∷ c ∷ [])
unfolding same_id
insert_before = refl

insert_present : on (Insert a (c ∷ [])) abc ≡ Fault (AlreadyThere c)
unfolding same_id
insert_present = refl

insert_twice : on (Insert [] (d ∷ e ∷ d ∷ [])) abc ≡ Fault (AlreadyThere d)
unfolding same_id
insert_twice = refl

-- the target is looked for before the sources
insert_before_missing : on (Insert e (c ∷ [])) abc ≡ Fault (Missing e)
unfolding same_id
insert_before_missing = refl

replace_with_itself : on (Replace b (b ∷ e ∷ [])) (a ∷ b ∷ c ∷ d ∷ []) ≡ Done (a ∷ b ∷ e ∷ c ∷ d ∷ [])
unfolding same_id
replace_with_itself = refl

replace_present : on (Replace b (d ∷ [])) (a ∷ b ∷ e ∷ c ∷ d ∷ []) ≡ Fault (AlreadyThere d)
unfolding same_id
replace_present = refl

replace_nothing : on (Replace [] (d ∷ [])) abc ≡ Fault (Missing [])
unfolding same_id
replace_nothing = refl

-- sizes: roID and roSlug of one letter, and a roChannel of three
abbrev header : Header
header = record { ro = codes "R"; slug = codes "S"; channel = Some (codes "xxx"); ed_start = None; ed_dur = None; trigger = None; macro_in = None; macro_out = None; metadata = []; others = [] }

-- `<roList><roID>R</roID><roSlug>S</roSlug><roChannel>xxx</roChannel></roList>`
list_of_three : list_units (record { header = header; stories = [] }) ≡ 75
list_of_three = refl

-- `<roListAll><ro><roID>R</roID><roSlug>S</roSlug><roChannel>xxx</roChannel></ro></roListAll>`
list_all_of_three : list_all_units (patch_of header ∷ []) ≡ 90
list_all_of_three = refl

-- `<roSlug>a&amp;b</roSlug>`: an escaped character counts as it is written
escaped_slug : field_units 6 (codes "a&b") ≡ 24
escaped_slug = refl
