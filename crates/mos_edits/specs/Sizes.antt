-- How many code units (UTF-16) the canonical elements roList of an order, roListAll, and roStorySend have.
use Rattle.std.specs.Prelude.{ℕ, ◌+◌, ◌-◌, ◌*◌, ◌^◌, List, [], ◌∷◌, Option, Some, None, if◌then◌else◌, ◌==◌, nat_lt, min}
use Rattle.mos_edits.specs.Texts.{Text}
use Rattle.mos_edits.specs.Orders.{Item, Story, Header, HeaderPatch, OrderBody, StorySend}

-- a character past U+FFFF is a pair of code units
abbrev pub char_units : ℕ → ℕ
char_units c = if nat_lt c 65536 then 1 else 2

-- `&lt;` and `&gt;`, `&amp;`, `&quot;` and `&apos;`; any other character stands for itself
abbrev pub escaped_units : ℕ → ℕ
escaped_units c =
    if c == 60 then 4 else (if c == 62 then 4 else (if c == 38 then 5 else (if c == 34 then 6 else (if c == 39 then 6 else char_units c))))

abbrev pub text_units : Text → ℕ
text_units [] = 0
text_units (c ∷ cs) = escaped_units c + text_units cs

abbrev pub raw_units : Text → ℕ
raw_units [] = 0
raw_units (c ∷ cs) = char_units c + raw_units cs

abbrev pub raws_units : List Text → ℕ
raws_units [] = 0
raws_units (x ∷ xs) = raw_units x + raws_units xs

-- the start tag and the end tag of an element whose name has that many letters
abbrev pub tags_units : ℕ → ℕ
tags_units letters = 2 * letters + 5

abbrev pub field_units : ℕ → Text → ℕ
field_units letters t = tags_units letters + text_units t

abbrev pub optional_units : ℕ → Option Text → ℕ
optional_units letters None = 0
optional_units letters (Some t) = field_units letters t

abbrev pub optional_raw_units : Option Text → ℕ
optional_raw_units None = 0
optional_raw_units (Some t) = raw_units t

-- the decimal digits of a number of samples, at most 4294967295
abbrev pub digits : ℕ → ℕ
digits n =
    if nat_lt n 10 then 1 else (if nat_lt n 100 then 2 else (if nat_lt n 1000 then 3 else (if nat_lt n 10000 then 4 else (if nat_lt n 100000 then 5 else
    (if nat_lt n 1000000 then 6 else (if nat_lt n 10000000 then 7 else (if nat_lt n 100000000 then 8 else (if nat_lt n 1000000000 then 9 else 10))))))))

abbrev pub number_units : ℕ → Option ℕ → ℕ
number_units letters None = 0
number_units letters (Some n) = tags_units letters + digits n

-- itemID, itemSlug, objID, mosID, mosAbstract, objPaths, itemChannel, itemEdStart, itemEdDur, itemUserTimingDur,
-- itemTrigger, macroIn, macroOut, mosExternalMetadata and elements of other names, in `item`
abbrev pub item_units : Item → ℕ
item_units i =
    tags_units 4 + field_units 6 i.id + optional_units 8 i.slug + field_units 5 i.obj + field_units 5 i.mos + optional_raw_units i.mos_abstract + optional_raw_units i.obj_paths
    + optional_units 11 i.channel + number_units 11 i.ed_start + number_units 9 i.ed_dur + number_units 17 i.user_timing_dur + optional_units 11 i.trigger
    + optional_units 7 i.macro_in + optional_units 8 i.macro_out + raws_units i.metadata + raws_units i.others

abbrev pub items_units : List Item → ℕ
items_units [] = 0
items_units (i ∷ more) = item_units i + items_units more

-- storyID, storySlug, storyNum, mosExternalMetadata and elements of other names, and the items, in `story`
abbrev pub story_units : Story → ℕ
story_units s =
    tags_units 5 + field_units 7 s.id + optional_units 9 s.slug + optional_units 8 s.num + raws_units s.metadata + raws_units s.others + items_units s.items

abbrev pub stories_units : List Story → ℕ
stories_units [] = 0
stories_units (s ∷ more) = story_units s + stories_units more

-- roChannel, roEdStart, roEdDur, roTrigger, macroIn, macroOut
abbrev pub header_rest_units : Option Text → Option Text → Option Text → Option Text → Option Text → Option Text → ℕ
header_rest_units channel ed_start ed_dur trigger macro_in macro_out =
    optional_units 9 channel + optional_units 9 ed_start + optional_units 7 ed_dur + optional_units 9 trigger + optional_units 7 macro_in + optional_units 8 macro_out

-- roID, roSlug, the fields above, mosExternalMetadata and elements of other names
abbrev pub header_units : Header → ℕ
header_units h =
    field_units 4 h.ro + field_units 6 h.slug + header_rest_units h.channel h.ed_start h.ed_dur h.trigger h.macro_in h.macro_out + raws_units h.metadata + raws_units h.others

abbrev pub patch_units : HeaderPatch → ℕ
patch_units h =
    field_units 4 h.ro + optional_units 6 h.slug + header_rest_units h.channel h.ed_start h.ed_dur h.trigger h.macro_in h.macro_out + raws_units h.metadata + raws_units h.others

-- the element roList
abbrev pub list_units : OrderBody → ℕ
list_units o = tags_units 6 + header_units o.header + stories_units o.stories

-- each header in an element `ro`
abbrev pub ros_units : List HeaderPatch → ℕ
ros_units [] = 0
ros_units (h ∷ more) = tags_units 2 + patch_units h + ros_units more

-- the element roListAll
abbrev pub list_all_units : List HeaderPatch → ℕ
list_all_units headers = tags_units 9 + ros_units headers

-- the element roStorySend: roID, storyID, storySlug, storyNum, storyBody, mosExternalMetadata and elements of other names
abbrev pub send_units : StorySend → ℕ
send_units s =
    tags_units 11 + field_units 4 s.ro + field_units 7 s.story + optional_units 9 s.slug + optional_units 8 s.num + raw_units s.body + raws_units s.metadata + raws_units s.others

-- the limits of a server
abbrev pub list_limit : ℕ
list_limit = 8000000

abbrev pub list_all_limit : ℕ
list_all_limit = 8100000

abbrev pub send_limit : ℕ
send_limit = 8000000

-- a number of code units as a call tells it
abbrev pub at_most_64_bits : ℕ → ℕ
at_most_64_bits n = min n (2 ^ 64 - 1)
