-- Words and names are read back.
use Rattle.std.proofs.Common.{◌≡◌, false, Option, Some, None, refl, sym, ap, ◌∙◌}
use Rattle.mos_fields.specs.Characters.{Text}
use Rattle.mos_fields.specs.Fields.{name_of, named_fields}
use Rattle.mos_fields.specs.Forms.{trimmed, reads}
use Rattle.mos_fields.specs.Names.{is_empty}
use Rattle.mos_fields.specs.Faults.{text_fault, air_fault, obj_type_fault, operation_fault, level_fault}
use Rattle.mos_fields.specs.Values.{word_of, air_text, air_values, obj_type_text, obj_type_values, operation_text, operation_values, level_text, level_values}
use Rattle.mos_fields.specs.declared.air.Air.{Air}
use Rattle.mos_fields.specs.declared.air.Air.TheVariants as airs
use Rattle.mos_fields.specs.declared.field.Field.{Field}
use Rattle.mos_fields.specs.declared.field.Field.TheVariants as fields
use Rattle.mos_fields.specs.declared.level.Level.{Level}
use Rattle.mos_fields.specs.declared.level.Level.TheVariants as levels
use Rattle.mos_fields.specs.declared.obj_type.ObjType.{ObjType}
use Rattle.mos_fields.specs.declared.obj_type.ObjType.TheVariants as types
use Rattle.mos_fields.specs.declared.operation.Operation.{Operation}
use Rattle.mos_fields.specs.declared.operation.Operation.TheVariants as operations
use Rattle.mos_fields.proofs.WordLemmas.{field_fine}
use Rattle.encoding_laws.specs.FieldLaws.{AirsAreReadBack, ObjTypesAreReadBack, OperationsAreReadBack, LevelsAreReadBack, FieldsAreReadBack}

-- Words by which their values are found are those of one value.
same_value : {A : Type 0} (find : Text → Option A) (text : A → Text) → ((a : A) → find (text a) ≡ Some a) → (x : Text) (a b : A) → find x ≡ Some a → x ≡ text b → b ≡ a
same_value find text found x a b e f = let g = sym (found b) ∙ (ap find (sym f) ∙ e) in cc

air_found : (a : Air) → word_of air_text air_values (air_text a) ≡ Some a
air_found airs.Ready = refl
air_found airs.NotReady = refl

air_trimmed : (a : Air) → trimmed (air_text a) ≡ air_text a
air_trimmed airs.Ready = refl
air_trimmed airs.NotReady = refl

air_fine : (a : Air) → air_fault (air_text a) ≡ None
unfolding reads
air_fine airs.Ready = refl
air_fine airs.NotReady = refl

pub airs_back : AirsAreReadBack
airs_back a = (air_fine a, λ b e. same_value (word_of air_text air_values) air_text air_found (trimmed (air_text a)) a b (ap (word_of air_text air_values) (air_trimmed a) ∙ air_found a) e)

obj_type_found : (a : ObjType) → word_of obj_type_text obj_type_values (obj_type_text a) ≡ Some a
obj_type_found types.Still = refl
obj_type_found types.Audio = refl
obj_type_found types.Video = refl
obj_type_found types.Other = refl

obj_type_trimmed : (a : ObjType) → trimmed (obj_type_text a) ≡ obj_type_text a
obj_type_trimmed types.Still = refl
obj_type_trimmed types.Audio = refl
obj_type_trimmed types.Video = refl
obj_type_trimmed types.Other = refl

obj_type_fine : (a : ObjType) → obj_type_fault (obj_type_text a) ≡ None
unfolding reads
obj_type_fine types.Still = refl
obj_type_fine types.Audio = refl
obj_type_fine types.Video = refl
obj_type_fine types.Other = refl

pub obj_types_back : ObjTypesAreReadBack
obj_types_back a = (obj_type_fine a, λ b e. same_value (word_of obj_type_text obj_type_values) obj_type_text obj_type_found (trimmed (obj_type_text a)) a b (ap (word_of obj_type_text obj_type_values) (obj_type_trimmed a) ∙ obj_type_found a) e)

operation_found : (a : Operation) → word_of operation_text operation_values (operation_text a) ≡ Some a
operation_found operations.Insert = refl
operation_found operations.Replace = refl
operation_found operations.Move = refl
operation_found operations.Delete = refl
operation_found operations.Swap = refl

operation_trimmed : (a : Operation) → trimmed (operation_text a) ≡ operation_text a
operation_trimmed operations.Insert = refl
operation_trimmed operations.Replace = refl
operation_trimmed operations.Move = refl
operation_trimmed operations.Delete = refl
operation_trimmed operations.Swap = refl

operation_fine : (a : Operation) → operation_fault (operation_text a) ≡ None
operation_fine operations.Insert = refl
operation_fine operations.Replace = refl
operation_fine operations.Move = refl
operation_fine operations.Delete = refl
operation_fine operations.Swap = refl

pub operations_back : OperationsAreReadBack
operations_back a = (operation_fine a, λ b e. same_value (word_of operation_text operation_values) operation_text operation_found (trimmed (operation_text a)) a b (ap (word_of operation_text operation_values) (operation_trimmed a) ∙ operation_found a) e)

level_found : (a : Level) → word_of level_text level_values (level_text a) ≡ Some a
level_found levels.Ro = refl
level_found levels.Story = refl
level_found levels.Item = refl

level_trimmed : (a : Level) → trimmed (level_text a) ≡ level_text a
level_trimmed levels.Ro = refl
level_trimmed levels.Story = refl
level_trimmed levels.Item = refl

level_fine : (a : Level) → level_fault (level_text a) ≡ None
level_fine levels.Ro = refl
level_fine levels.Story = refl
level_fine levels.Item = refl

pub levels_back : LevelsAreReadBack
levels_back a = (level_fine a, λ b e. same_value (word_of level_text level_values) level_text level_found (trimmed (level_text a)) a b (ap (word_of level_text level_values) (level_trimmed a) ∙ level_found a) e)

-- ---- names of fields

field_found : (f : Field) → is_empty (name_of f) ≡ false → word_of name_of named_fields (name_of f) ≡ Some f
unfolding named_fields
field_found fields.MosID h = refl
field_found fields.NcsID h = refl
field_found fields.MessageID h = refl
field_found fields.RoID h = refl
field_found fields.RoSlug h = refl
field_found fields.RoChannel h = refl
field_found fields.RoEdStart h = refl
field_found fields.RoEdDur h = refl
field_found fields.RoTrigger h = refl
field_found fields.MacroIn h = refl
field_found fields.MacroOut h = refl
field_found fields.Metadata h = refl
field_found fields.StoryTag h = refl
field_found fields.StoryID h = refl
field_found fields.StorySlug h = refl
field_found fields.StoryNum h = refl
field_found fields.ItemTag h = refl
field_found fields.ItemID h = refl
field_found fields.ItemSlug h = refl
field_found fields.ObjID h = refl
field_found fields.MosAbstract h = refl
field_found fields.ObjPaths h = refl
field_found fields.ItemChannel h = refl
field_found fields.ItemEdStart h = refl
field_found fields.ItemEdDur h = refl
field_found fields.ItemUserTimingDur h = refl
field_found fields.ItemTrigger h = refl
field_found fields.MosObjTag h = refl
field_found fields.ObjSlug h = refl
field_found fields.ObjGroup h = refl
field_found fields.ObjType h = refl
field_found fields.ObjTB h = refl
field_found fields.ObjRev h = refl
field_found fields.ObjDur h = refl
field_found fields.Status h = refl
field_found fields.ObjAir h = refl
field_found fields.CreatedBy h = refl
field_found fields.Created h = refl
field_found fields.ChangedBy h = refl
field_found fields.Changed h = refl
field_found fields.Description h = refl
field_found fields.TimeTag h = refl
field_found fields.Manufacturer h = refl
field_found fields.ModelTag h = refl
field_found fields.HwRev h = refl
field_found fields.SwRev h = refl
field_found fields.Dom h = refl
field_found fields.SerialNumber h = refl
field_found fields.MachineID h = refl
field_found fields.OpTime h = refl
field_found fields.MosRev h = refl
field_found fields.SupportedProfilesTag h = refl
field_found fields.MosProfile h = refl
field_found fields.DefaultActiveX h = refl
field_found fields.StatusDescription h = refl
field_found fields.Pause h = refl
field_found fields.RoTag h = refl
field_found fields.ElementTarget h = refl
field_found fields.ElementSource h = refl
field_found fields.RoAir h = refl
field_found fields.RoStatus h = refl
field_found fields.StoryBody h = refl
field_found fields.DeviceType h = refl
field_found fields.Number h = refl
field_found fields.ElementKind h = refl
field_found fields.OperationKind h = refl
field_found fields.Message h = absurd cc
field_found fields.Kept h = absurd cc
field_found fields.Dropped h = absurd cc

field_text : (f : Field) → text_fault (name_of f) ≡ None
field_text fields.MosID = refl
field_text fields.NcsID = refl
field_text fields.MessageID = refl
field_text fields.RoID = refl
field_text fields.RoSlug = refl
field_text fields.RoChannel = refl
field_text fields.RoEdStart = refl
field_text fields.RoEdDur = refl
field_text fields.RoTrigger = refl
field_text fields.MacroIn = refl
field_text fields.MacroOut = refl
field_text fields.Metadata = refl
field_text fields.StoryTag = refl
field_text fields.StoryID = refl
field_text fields.StorySlug = refl
field_text fields.StoryNum = refl
field_text fields.ItemTag = refl
field_text fields.ItemID = refl
field_text fields.ItemSlug = refl
field_text fields.ObjID = refl
field_text fields.MosAbstract = refl
field_text fields.ObjPaths = refl
field_text fields.ItemChannel = refl
field_text fields.ItemEdStart = refl
field_text fields.ItemEdDur = refl
field_text fields.ItemUserTimingDur = refl
field_text fields.ItemTrigger = refl
field_text fields.MosObjTag = refl
field_text fields.ObjSlug = refl
field_text fields.ObjGroup = refl
field_text fields.ObjType = refl
field_text fields.ObjTB = refl
field_text fields.ObjRev = refl
field_text fields.ObjDur = refl
field_text fields.Status = refl
field_text fields.ObjAir = refl
field_text fields.CreatedBy = refl
field_text fields.Created = refl
field_text fields.ChangedBy = refl
field_text fields.Changed = refl
field_text fields.Description = refl
field_text fields.TimeTag = refl
field_text fields.Manufacturer = refl
field_text fields.ModelTag = refl
field_text fields.HwRev = refl
field_text fields.SwRev = refl
field_text fields.Dom = refl
field_text fields.SerialNumber = refl
field_text fields.MachineID = refl
field_text fields.OpTime = refl
field_text fields.MosRev = refl
field_text fields.SupportedProfilesTag = refl
field_text fields.MosProfile = refl
field_text fields.DefaultActiveX = refl
field_text fields.StatusDescription = refl
field_text fields.Pause = refl
field_text fields.RoTag = refl
field_text fields.ElementTarget = refl
field_text fields.ElementSource = refl
field_text fields.RoAir = refl
field_text fields.RoStatus = refl
field_text fields.StoryBody = refl
field_text fields.DeviceType = refl
field_text fields.Number = refl
field_text fields.ElementKind = refl
field_text fields.OperationKind = refl
field_text fields.Message = refl
field_text fields.Kept = refl
field_text fields.Dropped = refl

pub fields_back : FieldsAreReadBack
fields_back a h = (
  field_fine (name_of a) a (field_text a) (field_found a h),
  λ b e.
      let g = sym (field_found b (ap is_empty (sym e) ∙ h)) ∙ (ap (word_of name_of named_fields) (sym e) ∙ field_found a h) in cc,
)
