-- Messages and envelopes as their canonical encodings write them.
use Rattle.std.proofs.Common.{◌≡◌, true, false, List, [], ◌∷◌, ◌++◌, map, Some, None, refl, sym, ap, subst, ◌∙◌, append_assoc, arith, codes}
use Rattle.std.specs.List.{AllByRecursion, flat_map}
use Rattle.std.proofs.lemmas.List.{append-nil}
use Rattle.mos_fields.specs.Characters.{Text}
use Rattle.mos_fields.specs.Fields.{name_of, same}
use Rattle.mos_fields.specs.Forms.{among}
use Rattle.mos_fields.specs.Names.{may_grow, named}
use Rattle.mos_fields.specs.Raw.{IsRaw}
use Rattle.mos_fields.specs.Values.{samples_text, air_text, time_text, level_text, operation_text}
use Rattle.mos_fields.specs.declared.field.Field.{Field}
use Rattle.mos_fields.specs.declared.field.Field.TheVariants as fields
use Rattle.mos_fields.specs.declared.form.Form.{Form}
use Rattle.mos_fields.specs.declared.form.Form.TheVariants as forms
use Rattle.mos_fields.specs.declared.level.Level.{Level as StatLevel}
use Rattle.mos_fields.specs.declared.level.Level.TheVariants.{Ro, Story as AtStoryLevel, Item as AtItemLevel}
use Rattle.mos_fields.specs.declared.operation.Operation.{Operation}
use Rattle.mos_fields.specs.declared.operation.Operation.TheVariants.{Insert, Replace, Move, Delete, Swap}
use Rattle.mos_tables.specs.declared.column.Column.{Column}
use Rattle.mos_tables.specs.declared.column.Shape.TheVariants.{Record, Message as MessageShape}
use Rattle.mos_tables.specs.declared.column.Often.TheVariants.{Any, Count}
use Rattle.mos_tables.specs.declared.table.Table.{Table}
use Rattle.mos_tables.specs.declared.table.Table.TheVariants as tables
use Rattle.mos_tables.specs.Tables.{column, columns, required, optional, messages, table_of_name, attribute_of_table, words_of, is_ack}
use Rattle.mos_tables.specs.Events.{Attribute, Event, raw, opens, closes}
use Rattle.mos_grammar.specs.Records.{Child, column_of, message_of, keys, arranged, nested}
use Rattle.mos_grammar.proofs.Seen.{or_false}
use Rattle.mos_grammar.specs.Streams.{mos_name}
use Rattle.mos_cursor.specs.Accepted.{IsGiven}
use Rattle.mos_cursor.specs.Parts.{places}
use Rattle.mos_values.specs.declared.header.HeaderPatch.{HeaderPatch}
use Rattle.mos_values.specs.declared.mos_obj.MosObj.{MosObj}
use Rattle.mos_values.specs.declared.message.Envelope.{Envelope}
use Rattle.mos_values.specs.declared.message.Message.{Message}
use Rattle.mos_values.specs.declared.message.Message.TheVariants as variants
use Rattle.mos_values.specs.Parts.{must, maybe, must_raw, joined, attribute, element_with}
use Rattle.mos_values.specs.Sound.{IsSoundObject, IsSoundPatch, IsSound, taken_names}
use Rattle.mos_values.specs.Views.{body_events, patch_events, headers_events, element_stat_events, ro_ack_events, story_send_events, mos_obj_events, objects_events, mach_info_events, mos_ack_events}
use Rattle.mos_values.specs.MessageViews.{operation_of_action, action_events, message_events, envelope_events}
use Rattle.encoding_laws.specs.Fitting.{table_inside, or_no_fields, TextsFit, HasFittingTexts}
use Rattle.encoding_laws.specs.Identifiers.{HasDistinctIdentifiers}
use Rattle.encoding_laws.proofs.Admitted.{given_again, no_message, raw_of_message, message_admitted}
use Rattle.encoding_laws.proofs.Pieces.{Piece, raw_piece, Canonical, record_piece}
use Rattle.encoding_laws.proofs.Assembled.{ColumnPiece, Segment, assembled}
use Rattle.encoding_laws.proofs.KindSegments.{segment_of, records_hold, raw_tokens, records_segment}
use Rattle.encoding_laws.proofs.LevelTexts.{Level, level_none, level_both, splits, texts_inside, level_must, level_maybe, level_must_raw, level_element, level_elements, must_part, maybe_part, same_false}
use Rattle.encoding_laws.proofs.Keys.{no_keys, unkeyed_follow}
use Rattle.encoding_laws.proofs.StoryRecords.{each_inside, level_patch, patch_canonical, level_body, body_canonical}
use Rattle.encoding_laws.proofs.ObjectRecords.{level_mos_obj, mos_obj_canonical, level_mos_ack, mos_ack_canonical, level_element_stat, element_stat_canonical, level_story_send, story_send_canonical, level_mach_info, mach_info_canonical}
use Rattle.encoding_laws.proofs.Acks.{level_ro_ack, ro_ack_canonical}
use Rattle.encoding_laws.proofs.Actions.{one_column, level_action, action_canonical}

-- ---- records with one or two fields

one_text_canonical : (t : Table) (f : Field) (form : Form) (x : Text) → is_ack t ≡ false → places (columns t) ≡ required f form ∷ [] → Segment t [] [] (required f form) (must f x) → Canonical t [] (must f x)
one_text_canonical t f form x a p s = one_column t [] (required f form) (must f x) a p s

heartbeat_canonical : (x : Text) (ts : List Table) → TextsFit (tables.Heartbeat ∷ ts) (must fields.TimeTag x) → Canonical tables.Heartbeat [] (must fields.TimeTag x)
heartbeat_canonical x ts h = one_text_canonical tables.Heartbeat fields.TimeTag forms.Time x refl refl (must_part tables.Heartbeat [] [] ts fields.TimeTag forms.Time x ((refl, refl, refl, refl), refl, refl) h)

object_canonical : (x : Text) (ts : List Table) → TextsFit (tables.MosReqObj ∷ ts) (must fields.ObjID x) → Canonical tables.MosReqObj [] (must fields.ObjID x)
object_canonical x ts h = one_text_canonical tables.MosReqObj fields.ObjID forms.Id x refl refl (must_part tables.MosReqObj [] [] ts fields.ObjID forms.Id x ((refl, refl, refl, refl), refl, refl) h)

pause_canonical : (x : Text) (ts : List Table) → TextsFit (tables.MosReqAll ∷ ts) (must fields.Pause x) → Canonical tables.MosReqAll [] (must fields.Pause x)
pause_canonical x ts h = one_text_canonical tables.MosReqAll fields.Pause forms.Samples x refl refl (must_part tables.MosReqAll [] [] ts fields.Pause forms.Samples x ((refl, refl, refl, refl), refl, refl) h)

order_canonical : (x : Text) (ts : List Table) → TextsFit (tables.OneOrder ∷ ts) (must fields.RoID x) → Canonical tables.OneOrder [] (must fields.RoID x)
order_canonical x ts h = one_text_canonical tables.OneOrder fields.RoID forms.Id x refl refl (must_part tables.OneOrder [] [] ts fields.RoID forms.Id x ((refl, refl, refl, refl), refl, refl) h)

ready_canonical : (x y : Text) (ts : List Table) → TextsFit (tables.ReadyToAir ∷ ts) (must fields.RoID x ++ must fields.RoAir y) → Canonical tables.ReadyToAir [] (must fields.RoID x ++ must fields.RoAir y)
ready_canonical x y ts h =
    let q = splits (level_must fields.RoID x) tables.ReadyToAir ts (must fields.RoAir y) h in
    let z0 : Segment tables.ReadyToAir [] [] (required fields.RoID forms.Id) (must fields.RoID x) = must_part tables.ReadyToAir [] [] ts fields.RoID forms.Id x ((refl, refl, refl, refl), refl, refl) q.0 in
    let z1 : Segment tables.ReadyToAir [] ([] ++ z0.children) (required fields.RoAir forms.Air) (must fields.RoAir y) = must_part tables.ReadyToAir [] ([] ++ z0.children) ts fields.RoAir forms.Air y ((refl, refl, refl, refl), refl, refl) q.1 in
    subst (Canonical tables.ReadyToAir []) (ap (λ (z : List Event). must fields.RoID x ++ z) (append-nil (must fields.RoAir y))) (assembled tables.ReadyToAir [] (must fields.RoID x ∷ must fields.RoAir y ∷ []) refl (z0, (z1, tt)))

nothing_canonical : Canonical tables.NoFields [] []
nothing_canonical = assembled tables.NoFields [] [] refl tt

-- ---- records of records

objects_each : (ts : List Table) (xs : List MosObj) → AllByRecursion IsSoundObject xs → AllByRecursion (λ (x : MosObj). TextsFit (tables.MosObj ∷ ts) (mos_obj_events x)) xs → AllByRecursion (λ (x : MosObj). Canonical tables.MosObj [] (mos_obj_events x)) xs
objects_each ts [] s h = tt
objects_each ts (x ∷ xs) s h = (mos_obj_canonical x [] ts s.0 h.0, objects_each ts xs s.1 h.1)

level_objects : (xs : List MosObj) → Level (objects_events xs)
unfolding objects_events
level_objects xs = level_elements (name_of fields.MosObjTag) mos_obj_events xs level_mos_obj

objects_canonical : (xs : List MosObj) (ts : List Table) → AllByRecursion IsSoundObject xs → TextsFit (tables.MosListAll ∷ ts) (objects_events xs) → Canonical tables.MosListAll [] (objects_events xs)
unfolding objects_events
objects_canonical xs ts s h =
    let c = objects_each (tables.MosListAll ∷ ts) xs s (each_inside tables.MosListAll ts (name_of fields.MosObjTag) mos_obj_events level_mos_obj xs h) in
    one_column tables.MosListAll [] (column fields.MosObjTag (Record tables.MosObj) Any) (flat_map (λ (x : MosObj). element_with (name_of fields.MosObjTag) [] (mos_obj_events x)) xs) refl refl
    (records_segment tables.MosListAll [] [] fields.MosObjTag tables.MosObj Any mos_obj_events xs (refl, refl, refl) refl (unkeyed_follow tables.MosListAll [] fields.MosObjTag tables.MosObj mos_obj_events refl (λ b. refl) xs c []) tt (omega arith))

headers_each : (ts : List Table) (xs : List HeaderPatch) → AllByRecursion IsSoundPatch xs → AllByRecursion (λ (x : HeaderPatch). TextsFit (tables.HeaderPatch ∷ ts) (patch_events x)) xs → AllByRecursion (λ (x : HeaderPatch). Canonical tables.HeaderPatch [] (patch_events x)) xs
headers_each ts [] s h = tt
headers_each ts (x ∷ xs) s h = (patch_canonical x [] ts s.0 h.0, headers_each ts xs s.1 h.1)

level_headers : (xs : List HeaderPatch) → Level (headers_events xs)
unfolding headers_events
level_headers xs = level_elements (name_of fields.RoTag) patch_events xs level_patch

headers_canonical : (xs : List HeaderPatch) (ts : List Table) → AllByRecursion IsSoundPatch xs → TextsFit (tables.RoListAll ∷ ts) (headers_events xs) → Canonical tables.RoListAll [] (headers_events xs)
unfolding headers_events
headers_canonical xs ts s h =
    let c = headers_each (tables.RoListAll ∷ ts) xs s (each_inside tables.RoListAll ts (name_of fields.RoTag) patch_events level_patch xs h) in
    one_column tables.RoListAll [] (column fields.RoTag (Record tables.HeaderPatch) Any) (flat_map (λ (x : HeaderPatch). element_with (name_of fields.RoTag) [] (patch_events x)) xs) refl refl
    (records_segment tables.RoListAll [] [] fields.RoTag tables.HeaderPatch Any patch_events xs (refl, refl, refl) refl (unkeyed_follow tables.RoListAll [] fields.RoTag tables.HeaderPatch patch_events refl (λ b. refl) xs c []) tt (omega arith))

-- ---- a message's element

abbrev message_column : Column
message_column = column fields.Message MessageShape (Count 1)

message_segment : (b : List Child) (n : Text) (u : Table) (g : List Attribute) (es : List Event) → column_of (columns tables.Envelope) n ≡ Some message_column → message_of n g ≡ Some u → IsGiven (attribute_of_table u) g → named [] n ≡ true → Canonical u [] es → Segment tables.Envelope [] b message_column (element_with n g es)
unfolding nested
message_segment b n u g es k m i a c =
    let c2 : Canonical u (keys tables.Envelope b) (arranged u c.children) = subst (λ (z : List Text). Canonical u z (arranged u c.children)) (sym (no_keys tables.Envelope b refl)) (subst (Canonical u []) (sym c.value) c) in
    let p : Piece tables.Envelope [] b n (fields.Message, nested n g u c.children) = record_piece tables.Envelope [] b n fields.Message u g c.children (λ q v h. message_admitted tables.Envelope q n g message_column u k refl m i h) c2 a (given_again (attribute_of_table u) g i).names in
    let w : ColumnPiece tables.Envelope [] b message_column (fields.Message, element_with n g es) = record { name = n; named = k; place = refl; piece = subst (λ (z : List Event). Piece tables.Envelope [] b n (fields.Message, opens n g ∷ (z ++ closes n ∷ []))) c.value p } in
    subst (Segment tables.Envelope [] b message_column) (append-nil (element_with n g es)) (segment_of tables.Envelope [] b message_column ((fields.Message, element_with n g es) ∷ []) refl (w, tt) (omega arith) (omega arith) (λ e. records_hold e))

-- a message of another name
names_absent : (n : Text) (ms : List (Text × Table)) (rest : List Text) → among n (map (λ p. p.0) ms ++ rest) ≡ false → (table_of_name n ms ≡ None) × (among n rest ≡ false)
names_absent n [] rest h = (refl, h)
names_absent n (m ∷ ms) rest h =
    let q = or_false (same n m.0) (among n (map (λ p. p.0) ms ++ rest)) h in
    let r = names_absent n ms rest q.1 in
    (rw (same_false n m.0 q.0) r.0, r.1)

other_column : (n : Text) → among n (codes "mosID" ∷ codes "ncsID" ∷ codes "messageID" ∷ []) ≡ false → column_of (columns tables.Envelope) n ≡ Some message_column
other_column n h =
    let a = or_false (same n (codes "mosID")) (among n (codes "ncsID" ∷ codes "messageID" ∷ [])) h in
    let b = or_false (same n (codes "ncsID")) (among n (codes "messageID" ∷ [])) a.1 in
    let c = or_false (same n (codes "messageID")) (among n []) b.1 in
    rw (same_false n (codes "mosID") a.0, same_false n (codes "ncsID") b.0, same_false n (codes "messageID") c.0) refl

other_segment : (b : List Child) (n x : Text) → IsRaw n x → among n taken_names ≡ false → Segment tables.Envelope [] b message_column (must_raw fields.Message x)
unfolding must_raw
other_segment b n x r h =
    let q = names_absent n (messages Insert) (codes "mosID" ∷ codes "ncsID" ∷ codes "messageID" ∷ []) h in
    let k : column_of (columns tables.Envelope) n ≡ Some message_column = other_column n q.1 in
    let none : message_of n [] ≡ None = q.0 in
    let t = raw_tokens n x r in
    let w : ColumnPiece tables.Envelope [] b message_column (fields.Message, raw fields.Message x ∷ []) = record {
      name = n;
      named = k;
      place = refl;
      piece = raw_piece tables.Envelope [] b n fields.Message x t.0 (λ q g o. raw_of_message tables.Envelope q n g message_column k refl (no_message n [] g none) o) refl t.1;
    } in
    segment_of tables.Envelope [] b message_column ((fields.Message, raw fields.Message x ∷ []) ∷ []) refl (w, tt) (omega arith) (omega arith) (λ e. records_hold e)

level_word : (l : StatLevel) → among (level_text l) (words_of fields.ElementKind) ≡ true
level_word Ro = refl
level_word AtStoryLevel = refl
level_word AtItemLevel = refl

operation_word : (o : Operation) → among (operation_text o) (words_of fields.OperationKind) ≡ true
operation_word Insert = refl
operation_word Replace = refl
operation_word Move = refl
operation_word Delete = refl
operation_word Swap = refl

abbrev operation_given : Operation → List Attribute
operation_given o = attribute fields.OperationKind (operation_text o) ∷ []

action_message : (o : Operation) → message_of (codes "roElementAction") (operation_given o) ≡ Some (tables.Action o)
action_message Insert = refl
action_message Replace = refl
action_message Move = refl
action_message Delete = refl
action_message Swap = refl

action_table : (o : Operation) → table_inside tables.Envelope (codes "roElementAction") (operation_given o) ≡ tables.Action o
action_table o = ap or_no_fields (action_message o)

pub level_message : (m : Message) → Level (message_events m)
unfolding message_events
level_message (variants.Heartbeat time) = level_element (codes "heartbeat") [] (must fields.TimeTag (time_text time)) (level_must fields.TimeTag (time_text time))
level_message (variants.ListMachInfo info) = level_element (codes "listMachInfo") [] (mach_info_events info) (level_mach_info info)
level_message (variants.MosAck ack) = level_element (codes "mosAck") [] (mos_ack_events ack) (level_mos_ack ack)
level_message (variants.MosObj obj) = level_element (codes "mosObj") [] (mos_obj_events obj) (level_mos_obj obj)
level_message (variants.MosReqObj obj) = level_element (codes "mosReqObj") [] (must fields.ObjID obj) (level_must fields.ObjID obj)
level_message (variants.MosReqAll pause) = level_element (codes "mosReqAll") [] (must fields.Pause (samples_text pause)) (level_must fields.Pause (samples_text pause))
level_message (variants.MosListAll objs) = level_element (codes "mosListAll") [] (objects_events objs) (level_objects objs)
level_message (variants.RoCreate body) = level_element (codes "roCreate") [] (body_events body) (level_body body)
level_message (variants.RoReplace body) = level_element (codes "roReplace") [] (body_events body) (level_body body)
level_message (variants.RoList body) = level_element (codes "roList") [] (body_events body) (level_body body)
level_message (variants.RoMetadataReplace patch) = level_element (codes "roMetadataReplace") [] (patch_events patch) (level_patch patch)
level_message (variants.RoDelete ro) = level_element (codes "roDelete") [] (must fields.RoID ro) (level_must fields.RoID ro)
level_message (variants.RoReq ro) = level_element (codes "roReq") [] (must fields.RoID ro) (level_must fields.RoID ro)
level_message (variants.RoListAll headers) = level_element (codes "roListAll") [] (headers_events headers) (level_headers headers)
level_message (variants.RoReadyToAir ro air) = level_element (codes "roReadyToAir") [] (must fields.RoID ro ++ must fields.RoAir (air_text air)) (level_both (must fields.RoAir (air_text air)) (level_must fields.RoID ro) (level_must fields.RoAir (air_text air)))
level_message (variants.RoAck ack) = level_element (codes "roAck") [] (ro_ack_events ack) (level_ro_ack ack)
level_message (variants.RoStorySend story) = level_element (codes "roStorySend") [] (story_send_events story) (level_story_send story)
level_message variants.ReqMachInfo = level_element (codes "reqMachInfo") [] [] level_none
level_message variants.RoReqAll = level_element (codes "roReqAll") [] [] level_none
level_message (variants.RoElementStat stat) = level_element (codes "roElementStat") (attribute fields.ElementKind (level_text stat.level) ∷ []) (element_stat_events stat) (level_element_stat stat)
level_message (variants.RoElementAction ro action) = level_element (codes "roElementAction") (operation_given (operation_of_action action)) (must fields.RoID ro ++ action_events action) (level_both (action_events action) (level_must fields.RoID ro) (level_action action))
level_message (variants.Other name other) = level_must_raw fields.Message other

pub segment_of_message : (m : Message) (b : List Child) → IsSound m → HasDistinctIdentifiers m → TextsFit (tables.Envelope ∷ []) (message_events m) → Segment tables.Envelope [] b message_column (message_events m)
unfolding message_events may_grow IsSound
segment_of_message (variants.Heartbeat time) b s d texts =
    let h : TextsFit (tables.Heartbeat ∷ (tables.Envelope ∷ [])) (must fields.TimeTag (time_text time)) = texts_inside (codes "heartbeat") [] (must fields.TimeTag (time_text time)) tables.Envelope [] (level_must fields.TimeTag (time_text time)) texts in
    message_segment b (codes "heartbeat") tables.Heartbeat [] (must fields.TimeTag (time_text time)) refl refl refl refl (heartbeat_canonical (time_text time) (tables.Envelope ∷ []) h)
segment_of_message (variants.ListMachInfo info) b s d texts =
    let h : TextsFit (tables.ListMachInfo ∷ (tables.Envelope ∷ [])) (mach_info_events info) = texts_inside (codes "listMachInfo") [] (mach_info_events info) tables.Envelope [] (level_mach_info info) texts in
    message_segment b (codes "listMachInfo") tables.ListMachInfo [] (mach_info_events info) refl refl refl refl (mach_info_canonical info [] (tables.Envelope ∷ []) s h)
segment_of_message (variants.MosAck ack) b s d texts =
    let h : TextsFit (tables.MosAck ∷ (tables.Envelope ∷ [])) (mos_ack_events ack) = texts_inside (codes "mosAck") [] (mos_ack_events ack) tables.Envelope [] (level_mos_ack ack) texts in
    message_segment b (codes "mosAck") tables.MosAck [] (mos_ack_events ack) refl refl refl refl (mos_ack_canonical ack [] (tables.Envelope ∷ []) h)
segment_of_message (variants.MosObj obj) b s d texts =
    let h : TextsFit (tables.MosObj ∷ (tables.Envelope ∷ [])) (mos_obj_events obj) = texts_inside (codes "mosObj") [] (mos_obj_events obj) tables.Envelope [] (level_mos_obj obj) texts in
    message_segment b (codes "mosObj") tables.MosObj [] (mos_obj_events obj) refl refl refl refl (mos_obj_canonical obj [] (tables.Envelope ∷ []) s h)
segment_of_message (variants.MosReqObj obj) b s d texts =
    let h : TextsFit (tables.MosReqObj ∷ (tables.Envelope ∷ [])) (must fields.ObjID obj) = texts_inside (codes "mosReqObj") [] (must fields.ObjID obj) tables.Envelope [] (level_must fields.ObjID obj) texts in
    message_segment b (codes "mosReqObj") tables.MosReqObj [] (must fields.ObjID obj) refl refl refl refl (object_canonical obj (tables.Envelope ∷ []) h)
segment_of_message (variants.MosReqAll pause) b s d texts =
    let h : TextsFit (tables.MosReqAll ∷ (tables.Envelope ∷ [])) (must fields.Pause (samples_text pause)) = texts_inside (codes "mosReqAll") [] (must fields.Pause (samples_text pause)) tables.Envelope [] (level_must fields.Pause (samples_text pause)) texts in
    message_segment b (codes "mosReqAll") tables.MosReqAll [] (must fields.Pause (samples_text pause)) refl refl refl refl (pause_canonical (samples_text pause) (tables.Envelope ∷ []) h)
segment_of_message (variants.MosListAll objs) b s d texts =
    let h : TextsFit (tables.MosListAll ∷ (tables.Envelope ∷ [])) (objects_events objs) = texts_inside (codes "mosListAll") [] (objects_events objs) tables.Envelope [] (level_objects objs) texts in
    message_segment b (codes "mosListAll") tables.MosListAll [] (objects_events objs) refl refl refl refl (objects_canonical objs (tables.Envelope ∷ []) s h)
segment_of_message (variants.RoCreate body) b s d texts =
    let h : TextsFit (tables.Body ∷ (tables.Envelope ∷ [])) (body_events body) = texts_inside (codes "roCreate") [] (body_events body) tables.Envelope [] (level_body body) texts in
    message_segment b (codes "roCreate") tables.Body [] (body_events body) refl refl refl refl (body_canonical body [] (tables.Envelope ∷ []) s d.0 d.1 h)
segment_of_message (variants.RoReplace body) b s d texts =
    let h : TextsFit (tables.Body ∷ (tables.Envelope ∷ [])) (body_events body) = texts_inside (codes "roReplace") [] (body_events body) tables.Envelope [] (level_body body) texts in
    message_segment b (codes "roReplace") tables.Body [] (body_events body) refl refl refl refl (body_canonical body [] (tables.Envelope ∷ []) s d.0 d.1 h)
segment_of_message (variants.RoList body) b s d texts =
    let h : TextsFit (tables.Body ∷ (tables.Envelope ∷ [])) (body_events body) = texts_inside (codes "roList") [] (body_events body) tables.Envelope [] (level_body body) texts in
    message_segment b (codes "roList") tables.Body [] (body_events body) refl refl refl refl (body_canonical body [] (tables.Envelope ∷ []) s d.0 d.1 h)
segment_of_message (variants.RoMetadataReplace patch) b s d texts =
    let h : TextsFit (tables.HeaderPatch ∷ (tables.Envelope ∷ [])) (patch_events patch) = texts_inside (codes "roMetadataReplace") [] (patch_events patch) tables.Envelope [] (level_patch patch) texts in
    message_segment b (codes "roMetadataReplace") tables.HeaderPatch [] (patch_events patch) refl refl refl refl (patch_canonical patch [] (tables.Envelope ∷ []) s h)
segment_of_message (variants.RoDelete ro) b s d texts =
    let h : TextsFit (tables.OneOrder ∷ (tables.Envelope ∷ [])) (must fields.RoID ro) = texts_inside (codes "roDelete") [] (must fields.RoID ro) tables.Envelope [] (level_must fields.RoID ro) texts in
    message_segment b (codes "roDelete") tables.OneOrder [] (must fields.RoID ro) refl refl refl refl (order_canonical ro (tables.Envelope ∷ []) h)
segment_of_message (variants.RoReq ro) b s d texts =
    let h : TextsFit (tables.OneOrder ∷ (tables.Envelope ∷ [])) (must fields.RoID ro) = texts_inside (codes "roReq") [] (must fields.RoID ro) tables.Envelope [] (level_must fields.RoID ro) texts in
    message_segment b (codes "roReq") tables.OneOrder [] (must fields.RoID ro) refl refl refl refl (order_canonical ro (tables.Envelope ∷ []) h)
segment_of_message (variants.RoListAll headers) b s d texts =
    let h : TextsFit (tables.RoListAll ∷ (tables.Envelope ∷ [])) (headers_events headers) = texts_inside (codes "roListAll") [] (headers_events headers) tables.Envelope [] (level_headers headers) texts in
    message_segment b (codes "roListAll") tables.RoListAll [] (headers_events headers) refl refl refl refl (headers_canonical headers (tables.Envelope ∷ []) s h)
segment_of_message (variants.RoReadyToAir ro air) b s d texts =
    let h : TextsFit (tables.ReadyToAir ∷ (tables.Envelope ∷ [])) (must fields.RoID ro ++ must fields.RoAir (air_text air)) = texts_inside (codes "roReadyToAir") [] (must fields.RoID ro ++ must fields.RoAir (air_text air)) tables.Envelope [] (level_both (must fields.RoAir (air_text air)) (level_must fields.RoID ro) (level_must fields.RoAir (air_text air))) texts in
    message_segment b (codes "roReadyToAir") tables.ReadyToAir [] (must fields.RoID ro ++ must fields.RoAir (air_text air)) refl refl refl refl (ready_canonical ro (air_text air) (tables.Envelope ∷ []) h)
segment_of_message (variants.RoAck ack) b s d texts =
    let h : TextsFit (tables.RoAck ∷ (tables.Envelope ∷ [])) (ro_ack_events ack) = texts_inside (codes "roAck") [] (ro_ack_events ack) tables.Envelope [] (level_ro_ack ack) texts in
    message_segment b (codes "roAck") tables.RoAck [] (ro_ack_events ack) refl refl refl refl (ro_ack_canonical ack [] (tables.Envelope ∷ []) h)
segment_of_message (variants.RoStorySend story) b s d texts =
    let h : TextsFit (tables.StorySend ∷ (tables.Envelope ∷ [])) (story_send_events story) = texts_inside (codes "roStorySend") [] (story_send_events story) tables.Envelope [] (level_story_send story) texts in
    message_segment b (codes "roStorySend") tables.StorySend [] (story_send_events story) refl refl refl refl (story_send_canonical story [] (tables.Envelope ∷ []) s h)
segment_of_message variants.ReqMachInfo b s d texts = message_segment b (codes "reqMachInfo") tables.NoFields [] [] refl refl refl refl nothing_canonical
segment_of_message variants.RoReqAll b s d texts = message_segment b (codes "roReqAll") tables.NoFields [] [] refl refl refl refl nothing_canonical
segment_of_message (variants.RoElementStat stat) b s d texts =
    let h : TextsFit (tables.ElementStat ∷ (tables.Envelope ∷ [])) (element_stat_events stat) = texts_inside (codes "roElementStat") (attribute fields.ElementKind (level_text stat.level) ∷ []) (element_stat_events stat) tables.Envelope [] (level_element_stat stat) texts in
    message_segment b (codes "roElementStat") tables.ElementStat (attribute fields.ElementKind (level_text stat.level) ∷ []) (element_stat_events stat) refl refl (level_text stat.level, refl, level_word stat.level) refl (element_stat_canonical stat [] (tables.Envelope ∷ []) h)
segment_of_message (variants.RoElementAction ro action) b s d texts =
    let o : Operation = operation_of_action action in
    let h = texts_inside (codes "roElementAction") (operation_given (operation_of_action action)) (must fields.RoID ro ++ action_events action) tables.Envelope [] (level_both (action_events action) (level_must fields.RoID ro) (level_action action)) texts in
    let h2 : TextsFit (tables.Action o ∷ (tables.Envelope ∷ [])) (must fields.RoID ro ++ action_events action) = subst (λ (z : Table). TextsFit (z ∷ (tables.Envelope ∷ [])) (must fields.RoID ro ++ action_events action)) (action_table o) h in
    message_segment b (codes "roElementAction") (tables.Action o) (operation_given (operation_of_action action)) (must fields.RoID ro ++ action_events action) refl (action_message o) (operation_text o, refl, operation_word o) refl (action_canonical ro action [] (tables.Envelope ∷ []) s d h2)
segment_of_message (variants.Other name other) b s d texts = other_segment b name other s.0 s.1

-- ---- the envelope

abbrev inner_parts : Envelope → List (List Event)
inner_parts e = must fields.MosID e.mos ∷ must fields.NcsID e.ncs ∷ maybe fields.MessageID e.message_id ∷ message_events e.message ∷ []

pub inner_events : Envelope → List Event
inner_events e = must fields.MosID e.mos ++ must fields.NcsID e.ncs ++ maybe fields.MessageID e.message_id ++ message_events e.message

pub envelope_is : (e : Envelope) → envelope_events e ≡ opens mos_name [] ∷ (inner_events e ++ closes mos_name ∷ [])
unfolding envelope_events inner_events
envelope_is e = refl

inner_joined : (e : Envelope) → joined (inner_parts e) ≡ inner_events e
unfolding inner_events
inner_joined e =
    let a : List Event = must fields.MosID e.mos in
    let b : List Event = must fields.NcsID e.ncs in
    let c : List Event = maybe fields.MessageID e.message_id in
    let m : List Event = message_events e.message in
    ap (λ (z : List Event). a ++ (b ++ (c ++ z))) (append-nil m) ∙ sym (append_assoc a b (c ++ m)) ∙ sym (append_assoc (a ++ b) c m)

inner_level : (e : Envelope) → Level (inner_events e)
unfolding inner_events
inner_level e =
    level_both (message_events e.message) (level_both (maybe fields.MessageID e.message_id) (level_both (must fields.NcsID e.ncs) (level_must fields.MosID e.mos) (level_must fields.NcsID e.ncs)) (level_maybe fields.MessageID e.message_id)) (level_message e.message)

inner_texts : (e : Envelope) → HasFittingTexts (envelope_events e) → TextsFit (tables.Envelope ∷ []) (inner_events e)
inner_texts e h =
    let k : HasFittingTexts (opens mos_name [] ∷ (inner_events e ++ closes mos_name ∷ [])) = subst HasFittingTexts (envelope_is e) h in
    (splits (inner_level e) tables.Envelope [] (closes mos_name ∷ []) k).0

pub envelope_canonical : (e : Envelope) → IsSound e.message → HasDistinctIdentifiers e.message → HasFittingTexts (envelope_events e) → Canonical tables.Envelope [] (inner_events e)
envelope_canonical e s d texts =
    let h : TextsFit (tables.Envelope ∷ []) (joined (inner_parts e)) = subst (TextsFit (tables.Envelope ∷ [])) (sym (inner_joined e)) (inner_texts e texts) in
    let q0 = splits (level_must fields.MosID e.mos) tables.Envelope [] (must fields.NcsID e.ncs ++ (maybe fields.MessageID e.message_id ++ (message_events e.message ++ []))) h in
    let q1 = splits (level_must fields.NcsID e.ncs) tables.Envelope [] (maybe fields.MessageID e.message_id ++ (message_events e.message ++ [])) q0.1 in
    let q2 = splits (level_maybe fields.MessageID e.message_id) tables.Envelope [] (message_events e.message ++ []) q1.1 in
    let q3 = splits (level_message e.message) tables.Envelope [] [] q2.1 in
    let z0 : Segment tables.Envelope [] [] (required fields.MosID forms.Id) (must fields.MosID e.mos) = must_part tables.Envelope [] [] [] fields.MosID forms.Id e.mos ((refl, refl, refl, refl), refl, refl) q0.0 in
    let b1 : List Child = [] ++ z0.children in
    let z1 : Segment tables.Envelope [] b1 (required fields.NcsID forms.Id) (must fields.NcsID e.ncs) = must_part tables.Envelope [] b1 [] fields.NcsID forms.Id e.ncs ((refl, refl, refl, refl), refl, refl) q1.0 in
    let b2 : List Child = b1 ++ z1.children in
    let z2 : Segment tables.Envelope [] b2 (optional fields.MessageID forms.OptId) (maybe fields.MessageID e.message_id) = maybe_part tables.Envelope [] b2 [] fields.MessageID forms.OptId e.message_id ((refl, refl, refl, refl), refl, refl) q2.0 in
    let b3 : List Child = b2 ++ z2.children in
    let z3 : Segment tables.Envelope [] b3 message_column (message_events e.message) = segment_of_message e.message b3 s d q3.0 in
    subst (Canonical tables.Envelope []) (inner_joined e) (assembled tables.Envelope [] (inner_parts e) refl (z0, (z1, (z2, (z3, tt)))))
