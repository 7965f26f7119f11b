-- What the attributes of a start tag give by their values.
use Rattle.std.proofs.Common.{◌≡◌, Bool, true, false, cond, List, [], ◌∷◌, map, Option, Some, None, refl, sym, ap, ◌∙◌}
use Rattle.mos_fields.specs.Characters.{Text}
use Rattle.mos_fields.specs.Fields.{name_of, same}
use Rattle.mos_fields.specs.Forms.{among}
use Rattle.mos_fields.specs.declared.field.Field.{Field}
use Rattle.mos_fields.specs.declared.field.Field.TheVariants as fields
use Rattle.mos_fields.proofs.WordLemmas.{word_found, word_lost}
use Rattle.mos_tables.specs.Events.{Attribute}
use Rattle.mos_tables.specs.Tables.{words_of}
use Rattle.mos_grammar.specs.declared.fault.Fault.TheVariants.{Value as wrong_value}
use Rattle.mos_grammar.specs.Records.{value_fault, values_of, first_value}
use Rattle.mos_events.specs.declared.known_attribute.KnownAttribute.{KnownAttribute}
use Rattle.mos_events.specs.EventView.{attribute_of}
use Rattle.mos_forms.specs.Known.{value_text, values_for, known_in, given_as, IsGiven}

-- the words of an attribute are the texts of its values
words_are : (f : Field) → words_of f ≡ map value_text (values_for f)
unfolding values_for
words_are fields.MosID = refl
words_are fields.NcsID = refl
words_are fields.MessageID = refl
words_are fields.RoID = refl
words_are fields.RoSlug = refl
words_are fields.RoChannel = refl
words_are fields.RoEdStart = refl
words_are fields.RoEdDur = refl
words_are fields.RoTrigger = refl
words_are fields.MacroIn = refl
words_are fields.MacroOut = refl
words_are fields.Metadata = refl
words_are fields.StoryTag = refl
words_are fields.StoryID = refl
words_are fields.StorySlug = refl
words_are fields.StoryNum = refl
words_are fields.ItemTag = refl
words_are fields.ItemID = refl
words_are fields.ItemSlug = refl
words_are fields.ObjID = refl
words_are fields.MosAbstract = refl
words_are fields.ObjPaths = refl
words_are fields.ItemChannel = refl
words_are fields.ItemEdStart = refl
words_are fields.ItemEdDur = refl
words_are fields.ItemUserTimingDur = refl
words_are fields.ItemTrigger = refl
words_are fields.MosObjTag = refl
words_are fields.ObjSlug = refl
words_are fields.ObjGroup = refl
words_are fields.ObjType = refl
words_are fields.ObjTB = refl
words_are fields.ObjRev = refl
words_are fields.ObjDur = refl
words_are fields.Status = refl
words_are fields.ObjAir = refl
words_are fields.CreatedBy = refl
words_are fields.Created = refl
words_are fields.ChangedBy = refl
words_are fields.Changed = refl
words_are fields.Description = refl
words_are fields.TimeTag = refl
words_are fields.Manufacturer = refl
words_are fields.ModelTag = refl
words_are fields.HwRev = refl
words_are fields.SwRev = refl
words_are fields.Dom = refl
words_are fields.SerialNumber = refl
words_are fields.MachineID = refl
words_are fields.OpTime = refl
words_are fields.MosRev = refl
words_are fields.SupportedProfilesTag = refl
words_are fields.MosProfile = refl
words_are fields.DefaultActiveX = refl
words_are fields.StatusDescription = refl
words_are fields.Pause = refl
words_are fields.RoTag = refl
words_are fields.ElementTarget = refl
words_are fields.ElementSource = refl
words_are fields.RoAir = refl
words_are fields.RoStatus = refl
words_are fields.StoryBody = refl
words_are fields.DeviceType = refl
words_are fields.Number = refl
words_are fields.ElementKind = refl
words_are fields.OperationKind = refl
words_are fields.Message = refl
words_are fields.Kept = refl
words_are fields.Dropped = refl

abbrev AreNamed : Text → List KnownAttribute → Type 0
AreNamed n [] = Unit {0}
AreNamed n (k ∷ ks) = ((attribute_of k).name ≡ n) × AreNamed n ks

values_named : (f : Field) → AreNamed (name_of f) (values_for f)
unfolding values_for
values_named fields.MosID = tt
values_named fields.NcsID = tt
values_named fields.MessageID = tt
values_named fields.RoID = tt
values_named fields.RoSlug = tt
values_named fields.RoChannel = tt
values_named fields.RoEdStart = tt
values_named fields.RoEdDur = tt
values_named fields.RoTrigger = tt
values_named fields.MacroIn = tt
values_named fields.MacroOut = tt
values_named fields.Metadata = tt
values_named fields.StoryTag = tt
values_named fields.StoryID = tt
values_named fields.StorySlug = tt
values_named fields.StoryNum = tt
values_named fields.ItemTag = tt
values_named fields.ItemID = tt
values_named fields.ItemSlug = tt
values_named fields.ObjID = tt
values_named fields.MosAbstract = tt
values_named fields.ObjPaths = tt
values_named fields.ItemChannel = tt
values_named fields.ItemEdStart = tt
values_named fields.ItemEdDur = tt
values_named fields.ItemUserTimingDur = tt
values_named fields.ItemTrigger = tt
values_named fields.MosObjTag = tt
values_named fields.ObjSlug = tt
values_named fields.ObjGroup = tt
values_named fields.ObjType = tt
values_named fields.ObjTB = tt
values_named fields.ObjRev = tt
values_named fields.ObjDur = tt
values_named fields.Status = tt
values_named fields.ObjAir = tt
values_named fields.CreatedBy = tt
values_named fields.Created = tt
values_named fields.ChangedBy = tt
values_named fields.Changed = tt
values_named fields.Description = tt
values_named fields.TimeTag = tt
values_named fields.Manufacturer = tt
values_named fields.ModelTag = tt
values_named fields.HwRev = tt
values_named fields.SwRev = tt
values_named fields.Dom = tt
values_named fields.SerialNumber = tt
values_named fields.MachineID = tt
values_named fields.OpTime = tt
values_named fields.MosRev = tt
values_named fields.SupportedProfilesTag = tt
values_named fields.MosProfile = tt
values_named fields.DefaultActiveX = tt
values_named fields.StatusDescription = tt
values_named fields.Pause = tt
values_named fields.RoTag = tt
values_named fields.ElementTarget = tt
values_named fields.ElementSource = tt
values_named fields.RoAir = tt
values_named fields.RoStatus = tt
values_named fields.StoryBody = tt
values_named fields.DeviceType = (refl, (refl, tt))
values_named fields.Number = (refl, (refl, (refl, (refl, (refl, (refl, (refl, (refl, (refl, (refl, tt))))))))))
values_named fields.ElementKind = (refl, (refl, (refl, tt)))
values_named fields.OperationKind = (refl, (refl, (refl, (refl, (refl, tt)))))
values_named fields.Message = tt
values_named fields.Kept = tt
values_named fields.Dropped = tt

found_named : (n : Text) (ks : List KnownAttribute) (x : Text) (k : KnownAttribute) → AreNamed n ks → known_in ks x ≡ Some k → (attribute_of k).name ≡ n
found_named n [] x k h e = absurd (cc)
found_named n (j ∷ ks) x k h e = go (same x (value_text j)) e (found_named n ks x k h.1)
  where
    go : (b : Bool) → cond b (Some j) (known_in ks x) ≡ Some k → (known_in ks x ≡ Some k → (attribute_of k).name ≡ n) → (attribute_of k).name ≡ n
    go true e next = (let i : j ≡ k = cc in ap (λ (z : KnownAttribute). (attribute_of z).name) (sym i)) ∙ h.0
    go false e next = next e

make : Text → Text → Attribute
make n v = record { name = n; value = v }

same_attribute : (a : Attribute) (n v : Text) → a.name ≡ n → a.value ≡ v → a ≡ record { name = n; value = v }
unfolding make
same_attribute a n v e f = ap (λ z. make z a.value) e ∙ ap (make n) f

pub once_given : (f : Field) (g : List Attribute) (v : Text) → values_of (name_of f) g ≡ v ∷ [] → IsGiven (Some f) g (given_as f (known_in (values_for f) v))
once_given f g v e = go (known_in (values_for f) v) refl
  where
    go : (o : Option KnownAttribute) → known_in (values_for f) v ≡ o → IsGiven (Some f) g (given_as f o)
    go None h = ap (value_fault f) e ∙ (let l = word_lost value_text (values_for f) v h in
        ap (λ b. cond b None (Some (wrong_value f))) (ap (among v) (words_are f) ∙ l))
    go (Some k) h =
        let p = word_found value_text (values_for f) v k h in
        record {
          fine = ap (value_fault f) e ∙ ap (λ b. cond b None (Some (wrong_value f))) (ap (among v) (words_are f) ∙ p.1);
          is = ap (λ a. a ∷ []) (same_attribute (attribute_of k) (name_of f) v (found_named (name_of f) (values_for f) v k (values_named f) h) (sym p.0)) ∙ sym (ap (first_value (name_of f)) e);
        }
