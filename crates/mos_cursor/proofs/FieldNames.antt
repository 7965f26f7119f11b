-- A field's number tells its name.
use Rattle.std.proofs.Common.{◌≡◌, ℕ, zero, suc, true, List, [], ◌∷◌, refl, sym, ap, subst, ◌∙◌}
use Rattle.std.proofs.lemmas.Bool.{eqb-true}
use Rattle.mos_fields.specs.Characters.{Text}
use Rattle.mos_fields.specs.Fields.{name_of, number_of, named_fields, same, same_field}
use Rattle.mos_fields.specs.declared.field.Field.{Field}
use Rattle.mos_fields.specs.declared.field.Field.TheVariants as fields
use Rattle.mos_fields.proofs.WordLemmas.{same_self}

name_at : List Field → ℕ → Text
name_at [] n = []
name_at (f ∷ fs) zero = name_of f
name_at (f ∷ fs) (suc n) = name_at fs n

-- the fields that have a name stand in the order of their numbers, and the others have the empty one
by_number : (f : Field) → name_at named_fields (number_of f) ≡ name_of f
unfolding name_at named_fields
by_number fields.MosID = refl
by_number fields.NcsID = refl
by_number fields.MessageID = refl
by_number fields.RoID = refl
by_number fields.RoSlug = refl
by_number fields.RoChannel = refl
by_number fields.RoEdStart = refl
by_number fields.RoEdDur = refl
by_number fields.RoTrigger = refl
by_number fields.MacroIn = refl
by_number fields.MacroOut = refl
by_number fields.Metadata = refl
by_number fields.StoryTag = refl
by_number fields.StoryID = refl
by_number fields.StorySlug = refl
by_number fields.StoryNum = refl
by_number fields.ItemTag = refl
by_number fields.ItemID = refl
by_number fields.ItemSlug = refl
by_number fields.ObjID = refl
by_number fields.MosAbstract = refl
by_number fields.ObjPaths = refl
by_number fields.ItemChannel = refl
by_number fields.ItemEdStart = refl
by_number fields.ItemEdDur = refl
by_number fields.ItemUserTimingDur = refl
by_number fields.ItemTrigger = refl
by_number fields.MosObjTag = refl
by_number fields.ObjSlug = refl
by_number fields.ObjGroup = refl
by_number fields.ObjType = refl
by_number fields.ObjTB = refl
by_number fields.ObjRev = refl
by_number fields.ObjDur = refl
by_number fields.Status = refl
by_number fields.ObjAir = refl
by_number fields.CreatedBy = refl
by_number fields.Created = refl
by_number fields.ChangedBy = refl
by_number fields.Changed = refl
by_number fields.Description = refl
by_number fields.TimeTag = refl
by_number fields.Manufacturer = refl
by_number fields.ModelTag = refl
by_number fields.HwRev = refl
by_number fields.SwRev = refl
by_number fields.Dom = refl
by_number fields.SerialNumber = refl
by_number fields.MachineID = refl
by_number fields.OpTime = refl
by_number fields.MosRev = refl
by_number fields.SupportedProfilesTag = refl
by_number fields.MosProfile = refl
by_number fields.DefaultActiveX = refl
by_number fields.StatusDescription = refl
by_number fields.Pause = refl
by_number fields.RoTag = refl
by_number fields.ElementTarget = refl
by_number fields.ElementSource = refl
by_number fields.RoAir = refl
by_number fields.RoStatus = refl
by_number fields.StoryBody = refl
by_number fields.DeviceType = refl
by_number fields.Number = refl
by_number fields.ElementKind = refl
by_number fields.OperationKind = refl
by_number fields.Message = refl
by_number fields.Kept = refl
by_number fields.Dropped = refl

pub own_name : (f g : Field) → same_field f g ≡ true → same (name_of f) (name_of g) ≡ true
own_name f g e = subst (λ (x : Text). same (name_of f) x ≡ true) (sym (by_number f) ∙ ap (name_at named_fields) (eqb-true (number_of f) (number_of g) e) ∙ by_number g) (same_self (name_of f))
