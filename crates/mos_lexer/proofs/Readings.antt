-- Worked readings of the grammar, each an input with its place and kind, or with the canonical encodings of its messages.
use Rattle.std.specs.Prelude.{◌≡◌, ℕ, List, [], ◌∷◌, ◌++◌, map, codes, refl}
use Rattle.mos_fields.specs.Characters.{Text}
use Rattle.mos_fields.specs.declared.field.Field.TheVariants as fields
use Rattle.mos_fields.specs.Names.{may_grow}
use Rattle.mos_fields.specs.References.{reference_of, begins_reference}
use Rattle.mos_fields.specs.Raw.{is_tail}
use Rattle.mos_fields.specs.Forms.{reads}
use Rattle.mos_tables.specs.Canonical.{canonical}
use Rattle.mos_grammar.specs.Records.{seen_of, end_fault, role, field_events, admission, empty_admission, arranged, nested, keys}
use Rattle.mos_grammar.specs.RecordMachine.{step}
use Rattle.mos_grammar.specs.Streams.{message_step}
use Rattle.mos_lexer.specs.LexMachine.{lex_step}
use Rattle.mos_lexer.specs.declared.kind.Kind.{Kind}
use Rattle.mos_lexer.specs.declared.kind.Kind.TheVariants as kinds
use Rattle.mos_lexer.specs.Units.{unit_step, Found, StreamRun, reads_stream, rejects_stream, start_stream, stream_units}

-- the canonical encodings of the messages read, or the place and the kind
data Answer : Type 0 where
  reads_all : List Text → Answer
  rejects_at : ℕ → Kind → Answer

answer_of : StreamRun → Answer
answer_of (reads_stream s) = reads_all (map (λ (f : Found). canonical f.value) s.ready)
answer_of (rejects_stream s place k) = rejects_at place k

answer : List ℕ → Answer
answer us = answer_of (stream_units start_stream us)

-- an empty required text shows at the tag behind its start tag, whatever tag that is
empty_text_end : answer (codes "<mos><mosID>m</mosID><ncsID>n</ncsID><roDelete><roID></x>") ≡ rejects_at 53 (kinds.Value fields.RoID)
unfolding answer answer_of stream_units unit_step lex_step may_grow reference_of begins_reference message_step step admission empty_admission role field_events reads end_fault seen_of arranged nested keys is_tail canonical
empty_text_end = refl

empty_text_start : answer (codes "<mos><mosID>m</mosID><ncsID>n</ncsID><roDelete><roID><x>") ≡ rejects_at 53 (kinds.Value fields.RoID)
unfolding answer answer_of stream_units unit_step lex_step may_grow reference_of begins_reference message_step step admission empty_admission role field_events reads end_fault seen_of arranged nested keys is_tail canonical
empty_text_start = refl

empty_text_tag : answer (codes "<mos><mosID>m</mosID><ncsID>n</ncsID><roDelete><roID/>") ≡ rejects_at 47 (kinds.Value fields.RoID)
unfolding answer answer_of stream_units unit_step lex_step may_grow reference_of begins_reference message_step step admission empty_admission role field_events reads end_fault seen_of arranged nested keys is_tail canonical
empty_text_tag = refl

empty_text_own_end : answer (codes "<mos><mosID>m</mosID><ncsID>n</ncsID><roDelete><roID></roID>") ≡ rejects_at 53 (kinds.Value fields.RoID)
unfolding answer answer_of stream_units unit_step lex_step may_grow reference_of begins_reference message_step step admission empty_admission role field_events reads end_fault seen_of arranged nested keys is_tail canonical
empty_text_own_end = refl

-- a comment is no tag
comment_in_field : answer (codes "<mos><mosID>m</mosID><ncsID>n</ncsID><roDelete><roID><!") ≡ rejects_at 53 kinds.Tag
unfolding answer answer_of stream_units unit_step lex_step may_grow reference_of begins_reference message_step step admission empty_admission role field_events reads end_fault seen_of arranged nested keys is_tail canonical
comment_in_field = refl

-- a misplaced text shows at the next `<`, at its first unit
misplaced_text : answer (codes "<mos><mosID>m</mosID><ncsID>n</ncsID><roDelete> x<") ≡ rejects_at 47 kinds.Tag
unfolding answer answer_of stream_units unit_step lex_step may_grow reference_of begins_reference message_step step admission empty_admission role field_events reads end_fault seen_of arranged nested keys is_tail canonical
misplaced_text = refl

text_of_wrong_type : answer (codes "<mos><mosID>m</mosID><ncsID>n</ncsID><heartbeat><time> now<") ≡ rejects_at 54 (kinds.Value fields.TimeTag)
unfolding answer answer_of stream_units unit_step lex_step may_grow reference_of begins_reference message_step step admission empty_admission role field_events reads end_fault seen_of arranged nested keys is_tail canonical
text_of_wrong_type = refl

-- on one token Twice comes before Missing
attribute_before_missing : answer (codes "<mos><mosID>m</mosID><ncsID>n</ncsID><roElementAction operation=\"SWAP\" operation=\"MOVE\">") ≡ rejects_at 37 (kinds.Twice fields.OperationKind)
unfolding answer answer_of stream_units unit_step lex_step may_grow reference_of begins_reference message_step step admission empty_admission role field_events reads end_fault seen_of arranged nested keys is_tail canonical
attribute_before_missing = refl

-- an unknown operation on an empty tag lacks its roID first
missing_before_value : answer (codes "<mos><mosID>m</mosID><ncsID>n</ncsID><roElementAction operation=\"Q\"/>") ≡ rejects_at 37 (kinds.Missing fields.RoID)
unfolding answer answer_of stream_units unit_step lex_step may_grow reference_of begins_reference message_step step admission empty_admission role field_events reads end_fault seen_of arranged nested keys is_tail canonical
missing_before_value = refl

-- of two lacking fields the outer record comes first
outer_missing_first : answer (codes "<mos><roElementAction operation=\"Q\"/>") ≡ rejects_at 5 (kinds.Missing fields.MosID)
unfolding answer answer_of stream_units unit_step lex_step may_grow reference_of begins_reference message_step step admission empty_admission role field_events reads end_fault seen_of arranged nested keys is_tail canonical
outer_missing_first = refl

-- a number that no digits help any more
entity_early : answer (codes "<mos><mosID>m</mosID><ncsID>n</ncsID><roDelete><roID>&#x110000") ≡ rejects_at 53 kinds.Entity
unfolding answer answer_of stream_units unit_step lex_step may_grow reference_of begins_reference message_step step admission empty_admission role field_events reads end_fault seen_of arranged nested keys is_tail canonical
entity_early = refl

entity_zero : answer (codes "<mos><mosID>m</mosID><ncsID>n</ncsID><roDelete><roID>a&#0;") ≡ rejects_at 54 kinds.Entity
unfolding answer answer_of stream_units unit_step lex_step may_grow reference_of begins_reference message_step step admission empty_admission role field_events reads end_fault seen_of arranged nested keys is_tail canonical
entity_zero = refl

entity_word : answer (codes "<mos><mosID>m</mosID><ncsID>n</ncsID><roDelete><roID>a&lx") ≡ rejects_at 54 kinds.Entity
unfolding answer answer_of stream_units unit_step lex_step may_grow reference_of begins_reference message_step step admission empty_admission role field_events reads end_fault seen_of arranged nested keys is_tail canonical
entity_word = refl

-- references in a start tag are looked at
entity_in_value : answer (codes "<mos><mosID>m</mosID><ncsID>n</ncsID><roDelete><roID a=\"&b") ≡ rejects_at 56 kinds.Entity
unfolding answer answer_of stream_units unit_step lex_step may_grow reference_of begins_reference message_step step admission empty_admission role field_events reads end_fault seen_of arranged nested keys is_tail canonical
entity_in_value = refl

-- a raw element out of place is refused at the end of its start tag
raw_out_of_place : answer (codes "<mos><mosID>m</mosID><ncsID>n</ncsID><roDelete><roID>r</roID></roDelete><x>") ≡ rejects_at 72 kinds.Tag
unfolding answer answer_of stream_units unit_step lex_step may_grow reference_of begins_reference message_step step admission empty_admission role field_events reads end_fault seen_of arranged nested keys is_tail canonical
raw_out_of_place = refl

-- a second declaration is whole before it is refused
second_declaration : answer (codes "<?xml ?><?xml ?>") ≡ rejects_at 8 kinds.Tag
unfolding answer answer_of stream_units unit_step lex_step may_grow reference_of begins_reference message_step step admission empty_admission role field_events reads end_fault seen_of arranged nested keys is_tail canonical
second_declaration = refl

-- `<?xml?>` begins no token
short_declaration : answer (codes "<?xml?") ≡ rejects_at 0 kinds.Tag
unfolding answer answer_of stream_units unit_step lex_step may_grow reference_of begins_reference message_step step admission empty_admission role field_events reads end_fault seen_of arranged nested keys is_tail canonical
short_declaration = refl

other_instruction : answer (codes "<?x ") ≡ rejects_at 0 kinds.Tag
unfolding answer answer_of stream_units unit_step lex_step may_grow reference_of begins_reference message_step step admission empty_admission role field_events reads end_fault seen_of arranged nested keys is_tail canonical
other_instruction = refl

comment : answer (codes "<!") ≡ rejects_at 0 kinds.Tag
unfolding answer answer_of stream_units unit_step lex_step may_grow reference_of begins_reference message_step step admission empty_admission role field_events reads end_fault seen_of arranged nested keys is_tail canonical
comment = refl

-- a declaration inside a message is whole before it is refused
declaration_inside : answer (codes "<mos><?xml &zz; ?>") ≡ rejects_at 5 kinds.Tag
unfolding answer answer_of stream_units unit_step lex_step may_grow reference_of begins_reference message_step step admission empty_admission role field_events reads end_fault seen_of arranged nested keys is_tail canonical
declaration_inside = refl

-- a reference to white space is no white space between elements
reference_between : answer (codes "<mos>&#32;<") ≡ rejects_at 5 kinds.Tag
unfolding answer answer_of stream_units unit_step lex_step may_grow reference_of begins_reference message_step step admission empty_admission role field_events reads end_fault seen_of arranged nested keys is_tail canonical
reference_between = refl

-- a message element lacks mosID first
message_before_ids : answer (codes "<mos><roDelete>") ≡ rejects_at 5 (kinds.Missing fields.MosID)
unfolding answer answer_of stream_units unit_step lex_step may_grow reference_of begins_reference message_step step admission empty_admission role field_events reads end_fault seen_of arranged nested keys is_tail canonical
message_before_ids = refl

message_before_ncs : answer (codes "<mos><mosID>m</mosID><roDelete>") ≡ rejects_at 21 (kinds.Missing fields.NcsID)
unfolding answer answer_of stream_units unit_step lex_step may_grow reference_of begins_reference message_step step admission empty_admission role field_events reads end_fault seen_of arranged nested keys is_tail canonical
message_before_ncs = refl

end_before_message : answer (codes "<mos><mosID>m</mosID><ncsID>n</ncsID></mos>") ≡ rejects_at 37 kinds.Tag
unfolding answer answer_of stream_units unit_step lex_step may_grow reference_of begins_reference message_step step admission empty_admission role field_events reads end_fault seen_of arranged nested keys is_tail canonical
end_before_message = refl

bare_envelope : answer (codes "<mos/>") ≡ rejects_at 0 (kinds.Missing fields.MosID)
unfolding answer answer_of stream_units unit_step lex_step may_grow reference_of begins_reference message_step step admission empty_admission role field_events reads end_fault seen_of arranged nested keys is_tail canonical
bare_envelope = refl

mos_id_after_message : answer (codes "<mos><mosID>m</mosID><ncsID>n</ncsID><roDelete><roID>r</roID></roDelete><mosID>") ≡ rejects_at 72 (kinds.Twice fields.MosID)
unfolding answer answer_of stream_units unit_step lex_step may_grow reference_of begins_reference message_step step admission empty_admission role field_events reads end_fault seen_of arranged nested keys is_tail canonical
mos_id_after_message = refl

message_id_after_message : answer (codes "<mos><mosID>m</mosID><ncsID>n</ncsID><roDelete><roID>r</roID></roDelete><messageID>") ≡ rejects_at 72 (kinds.Order fields.MessageID)
unfolding answer answer_of stream_units unit_step lex_step may_grow reference_of begins_reference message_step step admission empty_admission role field_events reads end_fault seen_of arranged nested keys is_tail canonical
message_id_after_message = refl

second_message : answer (codes "<mos><mosID>m</mosID><ncsID>n</ncsID><roDelete><roID>r</roID></roDelete><roReq>") ≡ rejects_at 72 kinds.Tag
unfolding answer answer_of stream_units unit_step lex_step may_grow reference_of begins_reference message_step step admission empty_admission role field_events reads end_fault seen_of arranged nested keys is_tail canonical
second_message = refl

-- the attributes of a second message element are not looked at
second_action : answer (codes "<mos><mosID>m</mosID><ncsID>n</ncsID><roDelete><roID>r</roID></roDelete><roElementAction>") ≡ rejects_at 72 kinds.Tag
unfolding answer answer_of stream_units unit_step lex_step may_grow reference_of begins_reference message_step step admission empty_admission role field_events reads end_fault seen_of arranged nested keys is_tail canonical
second_action = refl

-- behind the status of a group only a storyID may come
item_behind_group : answer (codes "<mos><mosID>m</mosID><ncsID>n</ncsID><roAck><roID>r</roID><roStatus>OK</roStatus><storyID>s</storyID><itemID>i</itemID><objID>o</objID><status>x</status><itemID>") ≡ rejects_at 153 (kinds.Missing fields.StoryID)
unfolding answer answer_of stream_units unit_step lex_step may_grow reference_of begins_reference message_step step admission empty_admission role field_events reads end_fault seen_of arranged nested keys is_tail canonical
item_behind_group = refl

status_behind_group : answer (codes "<mos><mosID>m</mosID><ncsID>n</ncsID><roAck><roID>r</roID><roStatus>OK</roStatus><storyID>s</storyID><itemID>i</itemID><objID>o</objID><status>x</status><status>") ≡ rejects_at 153 (kinds.Missing fields.StoryID)
unfolding answer answer_of stream_units unit_step lex_step may_grow reference_of begins_reference message_step step admission empty_admission role field_events reads end_fault seen_of arranged nested keys is_tail canonical
status_behind_group = refl

second_story_in_group : answer (codes "<mos><mosID>m</mosID><ncsID>n</ncsID><roAck><roID>r</roID><roStatus>OK</roStatus><storyID>s</storyID><storyID>") ≡ rejects_at 101 (kinds.Twice fields.StoryID)
unfolding answer answer_of stream_units unit_step lex_step may_grow reference_of begins_reference message_step step admission empty_admission role field_events reads end_fault seen_of arranged nested keys is_tail canonical
second_story_in_group = refl

group_before_status : answer (codes "<mos><mosID>m</mosID><ncsID>n</ncsID><roAck><roID>r</roID><storyID>") ≡ rejects_at 58 (kinds.Missing fields.RoStatus)
unfolding answer answer_of stream_units unit_step lex_step may_grow reference_of begins_reference message_step step admission empty_admission role field_events reads end_fault seen_of arranged nested keys is_tail canonical
group_before_status = refl

group_not_ended : answer (codes "<mos><mosID>m</mosID><ncsID>n</ncsID><roAck><roID>r</roID><roStatus>OK</roStatus><storyID>s</storyID><itemID>i</itemID></roAck>") ≡ rejects_at 119 (kinds.Missing fields.ObjID)
unfolding answer answer_of stream_units unit_step lex_step may_grow reference_of begins_reference message_step step admission empty_admission role field_events reads end_fault seen_of arranged nested keys is_tail canonical
group_not_ended = refl

-- a third ID of a SWAP is out of place
third_swapped : answer (codes "<mos><mosID>m</mosID><ncsID>n</ncsID><roElementAction operation=\"SWAP\"><roID>r</roID><element_source><storyID>a</storyID><storyID>b</storyID><storyID>") ≡ rejects_at 141 kinds.Tag
unfolding answer answer_of stream_units unit_step lex_step may_grow reference_of begins_reference message_step step admission empty_admission role field_events reads end_fault seen_of arranged nested keys is_tail canonical
third_swapped = refl

-- a single ID of a SWAP lacks the second
one_swapped : answer (codes "<mos><mosID>m</mosID><ncsID>n</ncsID><roElementAction operation=\"SWAP\"><roID>r</roID><element_source><storyID>a</storyID></element_source>") ≡ rejects_at 121 (kinds.Missing fields.StoryID)
unfolding answer answer_of stream_units unit_step lex_step may_grow reference_of begins_reference message_step step admission empty_admission role field_events reads end_fault seen_of arranged nested keys is_tail canonical
one_swapped = refl

empty_source : answer (codes "<mos><mosID>m</mosID><ncsID>n</ncsID><roElementAction operation=\"MOVE\"><roID>r</roID><element_target><storyID>s</storyID><itemID>i</itemID></element_target><element_source></element_source>") ≡ rejects_at 172 (kinds.Missing fields.ItemID)
unfolding answer answer_of stream_units unit_step lex_step may_grow reference_of begins_reference message_step step admission empty_admission role field_events reads end_fault seen_of arranged nested keys is_tail canonical
empty_source = refl

insert_without_target : answer (codes "<mos><mosID>m</mosID><ncsID>n</ncsID><roElementAction operation=\"INSERT\"><roID>r</roID><element_source>") ≡ rejects_at 87 (kinds.Missing fields.ElementTarget)
unfolding answer answer_of stream_units unit_step lex_step may_grow reference_of begins_reference message_step step admission empty_admission role field_events reads end_fault seen_of arranged nested keys is_tail canonical
insert_without_target = refl

insert_without_anything : answer (codes "<mos><mosID>m</mosID><ncsID>n</ncsID><roElementAction operation=\"INSERT\"><roID>r</roID></roElementAction>") ≡ rejects_at 87 (kinds.Missing fields.ElementTarget)
unfolding answer answer_of stream_units unit_step lex_step may_grow reference_of begins_reference message_step step admission empty_admission role field_events reads end_fault seen_of arranged nested keys is_tail canonical
insert_without_anything = refl

target_after_source : answer (codes "<mos><mosID>m</mosID><ncsID>n</ncsID><roElementAction operation=\"DELETE\"><roID>r</roID><element_source><storyID>a</storyID></element_source><element_target>") ≡ rejects_at 140 (kinds.Order fields.ElementTarget)
unfolding answer answer_of stream_units unit_step lex_step may_grow reference_of begins_reference message_step step admission empty_admission role field_events reads end_fault seen_of arranged nested keys is_tail canonical
target_after_source = refl

item_in_swap_target : answer (codes "<mos><mosID>m</mosID><ncsID>n</ncsID><roElementAction operation=\"SWAP\"><roID>r</roID><element_target><storyID>s</storyID><itemID>") ≡ rejects_at 121 kinds.Tag
unfolding answer answer_of stream_units unit_step lex_step may_grow reference_of begins_reference message_step step admission empty_admission role field_events reads end_fault seen_of arranged nested keys is_tail canonical
item_in_swap_target = refl

item_in_swap_target_first : answer (codes "<mos><mosID>m</mosID><ncsID>n</ncsID><roElementAction operation=\"SWAP\"><roID>r</roID><element_target><itemID>") ≡ rejects_at 101 (kinds.Missing fields.StoryID)
unfolding answer answer_of stream_units unit_step lex_step may_grow reference_of begins_reference message_step step admission empty_admission role field_events reads end_fault seen_of arranged nested keys is_tail canonical
item_in_swap_target_first = refl

-- an INSERT at an item takes items
stories_for_items : answer (codes "<mos><mosID>m</mosID><ncsID>n</ncsID><roElementAction operation=\"INSERT\"><roID>r</roID><element_target><storyID>s</storyID><itemID>i</itemID></element_target><element_source><story>") ≡ rejects_at 174 kinds.Tag
unfolding answer answer_of stream_units unit_step lex_step may_grow reference_of begins_reference message_step step admission empty_admission role field_events reads end_fault seen_of arranged nested keys is_tail canonical
stories_for_items = refl

-- the itemIDs of one story are apart
same_items : answer (codes "<mos><mosID>m</mosID><ncsID>n</ncsID><roElementAction operation=\"INSERT\"><roID>r</roID><element_target><storyID>s</storyID></element_target><element_source><story><storyID>s</storyID><item><itemID>i</itemID><objID>o</objID><mosID>m</mosID></item><item><itemID>i<") ≡ rejects_at 260 (kinds.Value fields.ItemID)
unfolding answer answer_of stream_units unit_step lex_step may_grow reference_of begins_reference message_step step admission empty_admission role field_events reads end_fault seen_of arranged nested keys is_tail canonical
same_items = refl

-- the storyIDs of one body are apart
same_stories : answer (codes "<mos><mosID>m</mosID><ncsID>n</ncsID><roCreate><roID>r</roID><roSlug>x</roSlug><story><storyID>s</storyID></story><story><storyID>s<") ≡ rejects_at 130 (kinds.Value fields.StoryID)
unfolding answer answer_of stream_units unit_step lex_step may_grow reference_of begins_reference message_step step admission empty_admission role field_events reads end_fault seen_of arranged nested keys is_tail canonical
same_stories = refl

field_twice : answer (codes "<mos><mosID>m</mosID><ncsID>n</ncsID><roCreate><roID>r</roID><roSlug>x</roSlug><roSlug>") ≡ rejects_at 79 (kinds.Twice fields.RoSlug)
unfolding answer answer_of stream_units unit_step lex_step may_grow reference_of begins_reference message_step step admission empty_admission role field_events reads end_fault seen_of arranged nested keys is_tail canonical
field_twice = refl

field_out_of_order : answer (codes "<mos><mosID>m</mosID><ncsID>n</ncsID><roCreate><roID>r</roID><roSlug>x</roSlug><roTrigger>t</roTrigger><roChannel>") ≡ rejects_at 103 (kinds.Order fields.RoChannel)
unfolding answer answer_of stream_units unit_step lex_step may_grow reference_of begins_reference message_step step admission empty_admission role field_events reads end_fault seen_of arranged nested keys is_tail canonical
field_out_of_order = refl

list_out_of_order : answer (codes "<mos><mosID>m</mosID><ncsID>n</ncsID><roCreate><roID>r</roID><roSlug>x</roSlug><story><storyID>s</storyID></story><mosExternalMetadata>") ≡ rejects_at 114 (kinds.Order fields.Metadata)
unfolding answer answer_of stream_units unit_step lex_step may_grow reference_of begins_reference message_step step admission empty_admission role field_events reads end_fault seen_of arranged nested keys is_tail canonical
list_out_of_order = refl

field_missing : answer (codes "<mos><mosID>m</mosID><ncsID>n</ncsID><roCreate><roID>r</roID><roChannel>") ≡ rejects_at 61 (kinds.Missing fields.RoSlug)
unfolding answer answer_of stream_units unit_step lex_step may_grow reference_of begins_reference message_step step admission empty_admission role field_events reads end_fault seen_of arranged nested keys is_tail canonical
field_missing = refl

-- white space alone in an optional number is absent, but the field was there
absent_number_is_there : answer (codes "<mos><mosID>m</mosID><ncsID>n</ncsID><roCreate><roID>r</roID><roSlug>x</roSlug><story><storyID>s</storyID><item><itemID>i</itemID><objID>o</objID><mosID>m</mosID><itemEdDur> </itemEdDur><itemEdDur>") ≡ rejects_at 186 (kinds.Twice fields.ItemEdDur)
unfolding answer answer_of stream_units unit_step lex_step may_grow reference_of begins_reference message_step step admission empty_admission role field_events reads end_fault seen_of arranged nested keys is_tail canonical
absent_number_is_there = refl

device_missing : answer (codes "<mos><mosID>m</mosID><ncsID>n</ncsID><listMachInfo><supportedProfiles>") ≡ rejects_at 51 (kinds.Missing fields.DeviceType)
unfolding answer answer_of stream_units unit_step lex_step may_grow reference_of begins_reference message_step step admission empty_admission role field_events reads end_fault seen_of arranged nested keys is_tail canonical
device_missing = refl

device_word : answer (codes "<mos><mosID>m</mosID><ncsID>n</ncsID><listMachInfo><supportedProfiles deviceType=\"X\">") ≡ rejects_at 51 (kinds.Value fields.DeviceType)
unfolding answer answer_of stream_units unit_step lex_step may_grow reference_of begins_reference message_step step admission empty_admission role field_events reads end_fault seen_of arranged nested keys is_tail canonical
device_word = refl

wrong_end : answer (codes "<mos><mosID>m</mosID><ncsID>n</ncsID><roDelete><roID>r</x>") ≡ rejects_at 54 kinds.Tag
unfolding answer answer_of stream_units unit_step lex_step may_grow reference_of begins_reference message_step step admission empty_admission role field_events reads end_fault seen_of arranged nested keys is_tail canonical
wrong_end = refl

-- `story` stands in no header without stories
story_in_header : answer (codes "<mos><mosID>m</mosID><ncsID>n</ncsID><roMetadataReplace><roID>r</roID><story>") ≡ rejects_at 70 kinds.Tag
unfolding answer answer_of stream_units unit_step lex_step may_grow reference_of begins_reference message_step step admission empty_admission role field_events reads end_fault seen_of arranged nested keys is_tail canonical
story_in_header = refl

other_in_source : answer (codes "<mos><mosID>m</mosID><ncsID>n</ncsID><roElementAction operation=\"DELETE\"><roID>r</roID><element_source><x>") ≡ rejects_at 103 kinds.Tag
unfolding answer answer_of stream_units unit_step lex_step may_grow reference_of begins_reference message_step step admission empty_admission role field_events reads end_fault seen_of arranged nested keys is_tail canonical
other_in_source = refl

other_root : answer (codes "<mosx>") ≡ rejects_at 0 kinds.Tag
unfolding answer answer_of stream_units unit_step lex_step may_grow reference_of begins_reference message_step step admission empty_admission role field_events reads end_fault seen_of arranged nested keys is_tail canonical
other_root = refl

-- the canonical encoding is read as itself
whole_message : answer (codes "<mos><mosID>m</mosID><ncsID>n</ncsID><roDelete><roID>r</roID></roDelete></mos>") ≡ reads_all ((codes "<mos><mosID>m</mosID><ncsID>n</ncsID><roDelete><roID>r</roID></roDelete></mos>") ∷ [])
unfolding answer answer_of stream_units unit_step lex_step may_grow reference_of begins_reference message_step step admission empty_admission role field_events reads end_fault seen_of arranged nested keys is_tail canonical
whole_message = refl

-- white space, U+FEFF, white space, a declaration, white space
with_prolog : answer (codes " " ++ (65279 ∷ []) ++ codes " <?xml &a; ?>\n<mos><mosID>m</mosID><ncsID>n</ncsID><roDelete><roID>r</roID></roDelete></mos>") ≡ reads_all ((codes "<mos><mosID>m</mosID><ncsID>n</ncsID><roDelete><roID>r</roID></roDelete></mos>") ∷ [])
unfolding answer answer_of stream_units unit_step lex_step may_grow reference_of begins_reference message_step step admission empty_admission role field_events reads end_fault seen_of arranged nested keys is_tail canonical
with_prolog = refl

two_messages : answer (codes "<mos><mosID>m</mosID><ncsID>n</ncsID><roDelete><roID>r</roID></roDelete></mos> <mos><mosID>m</mosID><ncsID>n</ncsID><roDelete><roID>r</roID></roDelete></mos>") ≡ reads_all ((codes "<mos><mosID>m</mosID><ncsID>n</ncsID><roDelete><roID>r</roID></roDelete></mos>") ∷ (codes "<mos><mosID>m</mosID><ncsID>n</ncsID><roDelete><roID>r</roID></roDelete></mos>") ∷ [])
unfolding answer answer_of stream_units unit_step lex_step may_grow reference_of begins_reference message_step step admission empty_admission role field_events reads end_fault seen_of arranged nested keys is_tail canonical
two_messages = refl

-- white space between elements and attributes that no table names are dropped
white_space_and_attributes : answer (codes "<mos a='1' a='2'>\n<mosID b = \"&lt;\">m</mosID >\t<ncsID>n</ncsID><roDelete><roID>r</roID></roDelete></mos>") ≡ reads_all ((codes "<mos><mosID>m</mosID><ncsID>n</ncsID><roDelete><roID>r</roID></roDelete></mos>") ∷ [])
unfolding answer answer_of stream_units unit_step lex_step may_grow reference_of begins_reference message_step step admission empty_admission role field_events reads end_fault seen_of arranged nested keys is_tail canonical
white_space_and_attributes = refl

-- references and `]]>` in a text
references : answer (codes "<mos><mosID>&#109;</mosID><ncsID>&#x6e;</ncsID><roDelete><roID>]]></roID></roDelete></mos>") ≡ reads_all ((codes "<mos><mosID>m</mosID><ncsID>n</ncsID><roDelete><roID>]]&gt;</roID></roDelete></mos>") ∷ [])
unfolding answer answer_of stream_units unit_step lex_step may_grow reference_of begins_reference message_step step admission empty_admission role field_events reads end_fault seen_of arranged nested keys is_tail canonical
references = refl

-- raw elements are kept character for character and stand behind mosExternalMetadata
raw_kept : answer (codes "<mos><mosID>m</mosID><ncsID>n</ncsID><roMetadataReplace><x>&zz;</x ></x><roID>r</roID><mosExternalMetadata a=\"1\"/></roMetadataReplace></mos>") ≡ reads_all ((codes "<mos><mosID>m</mosID><ncsID>n</ncsID><roMetadataReplace><roID>r</roID><mosExternalMetadata a=\"1\"/><x>&zz;</x ></x></roMetadataReplace></mos>") ∷ [])
unfolding answer answer_of stream_units unit_step lex_step may_grow reference_of begins_reference message_step step admission empty_admission role field_events reads end_fault seen_of arranged nested keys is_tail canonical
raw_kept = refl

-- in all other records elements of other names are dropped
others_dropped : answer (codes "<mos><mosID>m</mosID><ncsID>n</ncsID><roDelete><x>y</x><roID>r</roID><y/></roDelete></mos>") ≡ reads_all ((codes "<mos><mosID>m</mosID><ncsID>n</ncsID><roDelete><roID>r</roID></roDelete></mos>") ∷ [])
unfolding answer answer_of stream_units unit_step lex_step may_grow reference_of begins_reference message_step step admission empty_admission role field_events reads end_fault seen_of arranged nested keys is_tail canonical
others_dropped = refl

-- numbers lose white space and leading zeros
number_trimmed : answer (codes "<mos><mosID>m</mosID><ncsID>n</ncsID><mosReqAll><pause> 007 </pause></mosReqAll></mos>") ≡ reads_all ((codes "<mos><mosID>m</mosID><ncsID>n</ncsID><mosReqAll><pause>7</pause></mosReqAll></mos>") ∷ [])
unfolding answer answer_of stream_units unit_step lex_step may_grow reference_of begins_reference message_step step admission empty_admission role field_events reads end_fault seen_of arranged nested keys is_tail canonical
number_trimmed = refl

absent_number : answer (codes "<mos><mosID>m</mosID><ncsID>n</ncsID><roCreate><roID>r</roID><roSlug>x</roSlug><story><storyID>s</storyID><item><itemID>i</itemID><objID>o</objID><mosID>m</mosID><itemEdDur> </itemEdDur></item></story></roCreate></mos>") ≡ reads_all ((codes "<mos><mosID>m</mosID><ncsID>n</ncsID><roCreate><roID>r</roID><roSlug>x</roSlug><story><storyID>s</storyID><item><itemID>i</itemID><objID>o</objID><mosID>m</mosID></item></story></roCreate></mos>") ∷ [])
unfolding answer answer_of stream_units unit_step lex_step may_grow reference_of begins_reference message_step step admission empty_admission role field_events reads end_fault seen_of arranged nested keys is_tail canonical
absent_number = refl

-- IDs may repeat in a source
repeated_source : answer (codes "<mos><mosID>m</mosID><ncsID>n</ncsID><roElementAction operation=\"DELETE\"><roID>r</roID><element_source><storyID>a</storyID><storyID>a</storyID></element_source></roElementAction></mos>") ≡ reads_all ((codes "<mos><mosID>m</mosID><ncsID>n</ncsID><roElementAction operation=\"DELETE\"><roID>r</roID><element_source><storyID>a</storyID><storyID>a</storyID></element_source></roElementAction></mos>") ∷ [])
unfolding answer answer_of stream_units unit_step lex_step may_grow reference_of begins_reference message_step step admission empty_admission role field_events reads end_fault seen_of arranged nested keys is_tail canonical
repeated_source = refl

groups : answer (codes "<mos><mosID>m</mosID><ncsID>n</ncsID><roAck><roID>r</roID><roStatus>OK</roStatus><storyID>s</storyID><itemID>i</itemID><objID>o</objID><status>x</status><storyID>s</storyID><itemID>i</itemID><objID>o</objID><status>x</status></roAck></mos>") ≡ reads_all ((codes "<mos><mosID>m</mosID><ncsID>n</ncsID><roAck><roID>r</roID><roStatus>OK</roStatus><storyID>s</storyID><itemID>i</itemID><objID>o</objID><status>x</status><storyID>s</storyID><itemID>i</itemID><objID>o</objID><status>x</status></roAck></mos>") ∷ [])
unfolding answer answer_of stream_units unit_step lex_step may_grow reference_of begins_reference message_step step admission empty_admission role field_events reads end_fault seen_of arranged nested keys is_tail canonical
groups = refl

-- any other name is kept as it was written
other_message : answer (codes "<mos><mosID>m</mosID><ncsID>n</ncsID><roItemCue a=\"&lt;\"><b></c></roItemCue></mos>") ≡ reads_all ((codes "<mos><mosID>m</mosID><ncsID>n</ncsID><roItemCue a=\"&lt;\"><b></c></roItemCue></mos>") ∷ [])
unfolding answer answer_of stream_units unit_step lex_step may_grow reference_of begins_reference message_step step admission empty_admission role field_events reads end_fault seen_of arranged nested keys is_tail canonical
other_message = refl
