-- Names in code units.
use Rattle.std.proofs.Common.{◌≡◌, ℕ, Bool, true, false, cond, ◌&&◌, List, [], ◌∷◌, refl, sym, ap, ◌∙◌, arith, ne_eqb}
use Rattle.std.specs.Prelude.{◌==◌, nat_lt}
use Rattle.std.specs.List.{list_all}
use Rattle.std.proofs.lemmas.Bool.{and_parts, ltb-true}
use Rattle.std.proofs.lemmas.Bool.Decides.{nat_tests}
use Rattle.mos_fields.specs.Characters.{Text, are_allowed, chars_of, units_of, is_high, is_low, pair_char}
use Rattle.mos_fields.specs.Fields.{same, name_of}
use Rattle.mos_fields.specs.declared.field.Field.{Field}
use Rattle.mos_fields.specs.declared.field.Field.TheVariants as fields
use Rattle.mos_fields.proofs.CharacterLemmas.{chars_of-pair, chars_of-unpaired, chars_of-units_of}

abbrev pub is_ascii : ℕ → Bool
is_ascii u = nat_lt u 128

pub ascii_not_pair : (a u v : ℕ) → is_ascii a ≡ true → (a == pair_char u v) ≡ false
ascii_not_pair a u v h = ne_eqb a (pair_char u v) (λ e. let l = ltb-true a 128 h in omega (arith, l, e))

pub ascii_not_high : (a u : ℕ) → is_ascii a ≡ true → is_high u ≡ true → (a == u) ≡ false
ascii_not_high a u h i = grind (arith, nat_tests)

pub differs : (a u : ℕ) (x y : Text) → (a == u) ≡ false → same (a ∷ x) (u ∷ y) ≡ false
differs a u x y e = ap (λ z. z && same x y) e

pub same_chars : (e us : List ℕ) → list_all is_ascii e ≡ true → same e (chars_of us) ≡ same e us
unfolding chars_of
same_chars e [] h = refl
same_chars e (u ∷ []) h = refl
same_chars [] (u ∷ v ∷ us) h = empty (is_high u && is_low v)
  where
    empty : (b : Bool) → same [] (cond b (pair_char u v ∷ chars_of us) (u ∷ chars_of (v ∷ us))) ≡ false
    empty true = refl
    empty false = refl
same_chars (a ∷ e) (u ∷ v ∷ us) h = go (same_chars e (v ∷ us) (and_parts (is_ascii a) (list_all is_ascii e) h).1) (is_high u && is_low v) refl
  where
    go : same e (chars_of (v ∷ us)) ≡ same e (v ∷ us) → (b : Bool) → (is_high u && is_low v) ≡ b → same (a ∷ e) (chars_of (u ∷ v ∷ us)) ≡ same (a ∷ e) (u ∷ v ∷ us)
    go r true p =
        let q = and_parts (is_high u) (is_low v) p in
        let i = (and_parts (is_ascii a) (list_all is_ascii e) h).0 in
        ap (same (a ∷ e)) (chars_of-pair u v us q.0 q.1) ∙ (differs a (pair_char u v) e (chars_of us) (ascii_not_pair a u v i) ∙ sym (differs a u e (v ∷ us) (ascii_not_high a u i q.0)))
    go r false p = ap (same (a ∷ e)) (chars_of-unpaired u v us p) ∙ ap (λ z. (a == u) && z) r

eq_back : (a b : ℕ) → (a == b) ≡ (b == a)
eq_back a b = grind (arith, nat_tests)

pub same_back : (x y : Text) → same x y ≡ same y x
same_back [] [] = refl
same_back [] (d ∷ y) = refl
same_back (c ∷ x) [] = refl
same_back (c ∷ x) (d ∷ y) = rw (eq_back c d, same_back x y) refl

-- names are ASCII
name_is_ascii : (f : Field) → list_all is_ascii (name_of f) ≡ true
name_is_ascii fields.MosID = refl
name_is_ascii fields.NcsID = refl
name_is_ascii fields.MessageID = refl
name_is_ascii fields.RoID = refl
name_is_ascii fields.RoSlug = refl
name_is_ascii fields.RoChannel = refl
name_is_ascii fields.RoEdStart = refl
name_is_ascii fields.RoEdDur = refl
name_is_ascii fields.RoTrigger = refl
name_is_ascii fields.MacroIn = refl
name_is_ascii fields.MacroOut = refl
name_is_ascii fields.Metadata = refl
name_is_ascii fields.StoryTag = refl
name_is_ascii fields.StoryID = refl
name_is_ascii fields.StorySlug = refl
name_is_ascii fields.StoryNum = refl
name_is_ascii fields.ItemTag = refl
name_is_ascii fields.ItemID = refl
name_is_ascii fields.ItemSlug = refl
name_is_ascii fields.ObjID = refl
name_is_ascii fields.MosAbstract = refl
name_is_ascii fields.ObjPaths = refl
name_is_ascii fields.ItemChannel = refl
name_is_ascii fields.ItemEdStart = refl
name_is_ascii fields.ItemEdDur = refl
name_is_ascii fields.ItemUserTimingDur = refl
name_is_ascii fields.ItemTrigger = refl
name_is_ascii fields.MosObjTag = refl
name_is_ascii fields.ObjSlug = refl
name_is_ascii fields.ObjGroup = refl
name_is_ascii fields.ObjType = refl
name_is_ascii fields.ObjTB = refl
name_is_ascii fields.ObjRev = refl
name_is_ascii fields.ObjDur = refl
name_is_ascii fields.Status = refl
name_is_ascii fields.ObjAir = refl
name_is_ascii fields.CreatedBy = refl
name_is_ascii fields.Created = refl
name_is_ascii fields.ChangedBy = refl
name_is_ascii fields.Changed = refl
name_is_ascii fields.Description = refl
name_is_ascii fields.TimeTag = refl
name_is_ascii fields.Manufacturer = refl
name_is_ascii fields.ModelTag = refl
name_is_ascii fields.HwRev = refl
name_is_ascii fields.SwRev = refl
name_is_ascii fields.Dom = refl
name_is_ascii fields.SerialNumber = refl
name_is_ascii fields.MachineID = refl
name_is_ascii fields.OpTime = refl
name_is_ascii fields.MosRev = refl
name_is_ascii fields.SupportedProfilesTag = refl
name_is_ascii fields.MosProfile = refl
name_is_ascii fields.DefaultActiveX = refl
name_is_ascii fields.StatusDescription = refl
name_is_ascii fields.Pause = refl
name_is_ascii fields.RoTag = refl
name_is_ascii fields.ElementTarget = refl
name_is_ascii fields.ElementSource = refl
name_is_ascii fields.RoAir = refl
name_is_ascii fields.RoStatus = refl
name_is_ascii fields.StoryBody = refl
name_is_ascii fields.DeviceType = refl
name_is_ascii fields.Number = refl
name_is_ascii fields.ElementKind = refl
name_is_ascii fields.OperationKind = refl
name_is_ascii fields.Message = refl
name_is_ascii fields.Kept = refl
name_is_ascii fields.Dropped = refl

pub same_as_units : (x : Text) (f : Field) → are_allowed x ≡ true → same (name_of f) (units_of x) ≡ same x (name_of f)
same_as_units x f a = sym (same_chars (name_of f) (units_of x) (name_is_ascii f)) ∙ (ap (same (name_of f)) (chars_of-units_of x a) ∙ same_back (name_of f) x)
