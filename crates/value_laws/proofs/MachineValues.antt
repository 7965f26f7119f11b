-- What a machine says of itself is read off its events.
use Rattle.std.proofs.Common.{◌≡◌, ℕ, ◌≤◌, Bool, true, false, List, [], ◌∷◌, ◌++◌, Option, Some, None, refl, sym, ap, subst, ◌∙◌, arith}
use Rattle.std.specs.Fmt.{decimal}
use Rattle.std.specs.List.{AllByRecursion}
use Rattle.std.proofs.Math.Bridge.{le_prop}
use Rattle.std.proofs.lemmas.List.{append-nil, append_assoc}
use Rattle.mos_fields.specs.Characters.{Text}
use Rattle.mos_fields.specs.Fields.{name_of}
use Rattle.mos_fields.specs.Values.{time_text}
use Rattle.mos_fields.specs.declared.field.Field.{Field}
use Rattle.mos_fields.specs.declared.field.Field.TheVariants as fields
use Rattle.mos_tables.specs.Events.{Attribute, Event, leaf, closes}
use Rattle.mos_values.specs.Parts.{attribute}
use Rattle.mos_values.specs.Views.{device_type_text, answer_text, profile_events, profiles_events, supported_events, mach_head_events, mach_rest_events, mach_info_events}
use Rattle.mos_values.specs.declared.mach_info.MachInfo.{MachInfo}
use Rattle.mos_values.specs.declared.profile.Profile.{Profile}
use Rattle.mos_values.specs.declared.profile.SupportedProfiles.{SupportedProfiles}
use Rattle.value_laws.proofs.FieldParts.{Part, maybe_part, maybe_as_part, raws_part, events_of, texts_at, same_texts, flat_fields, an_option, an_option_as, a_list}
use Rattle.value_laws.proofs.FieldValues.{one_number, one_time, one_device, one_answer}
use Rattle.value_laws.proofs.FlatEvents.{Both, Ends, Pins, opened, tails, cut, ends_stops, listed_pins, all_fine}

-- ---- profiles

abbrev profile : (n : ℕ) → Bool → n ≤ 9 → Profile
profile n s h = record { number = n; supported = s; digit = h }

same_profile : (p q : Profile) → p.number ≡ q.number → p.supported ≡ q.supported → p ≡ q
same_profile p q e f =
    let P : ℕ → Type 0 = λ n. (h : n ≤ 9) → profile p.number p.supported p.digit ≡ profile n p.supported h in
    subst P e (λ h. ap (profile p.number p.supported) (le_prop p.digit h)) q.digit ∙ ap (λ s. profile q.number s q.digit) f

-- the value of the first attribute
pub value_in : List Attribute → Text
value_in [] = []
value_in (a ∷ more) = a.value

pub same_value : (f : Field) (x y : Text) → attribute f x ∷ [] ≡ attribute f y ∷ [] → x ≡ y
unfolding value_in
same_value f x y e = ap value_in e

attributes_in : List Event → List Attribute
attributes_in (leaf n g x ∷ es) = g
attributes_in es = []

text_in : List Event → Text
text_in (leaf n g x ∷ es) = x
text_in es = []

profile_front : (p q : Profile) (r s : List Event) → Unit {0} → Unit {0} → profile_events p ++ r ≡ profile_events q ++ s → Both p q r s
unfolding profile_events attributes_in text_in
profile_front p q r s f g h =
    let t = tails (leaf (name_of fields.MosProfile) (attribute fields.Number (decimal p.number) ∷ []) (answer_text p.supported)) (leaf (name_of fields.MosProfile) (attribute fields.Number (decimal q.number) ∷ []) (answer_text q.supported)) r s h in
    let m : p.number ≤ 9 = p.digit in
    let n : q.number ≤ 9 = q.digit in
    let number = one_number p.number q.number (omega (arith, m)) (omega (arith, n)) (same_value fields.Number (decimal p.number) (decimal q.number) (ap attributes_in h)) in
    (same_profile p q number (one_answer p.supported q.supported (ap text_in h)), t.1)

profiles_pins : Pins (AllByRecursion (λ (p : Profile). Unit {0})) profiles_events
unfolding profiles_events profile_events
profiles_pins = listed_pins (λ (p : Profile). Unit {0}) profile_events (λ a r h. h) profile_front

supported_front : (p q : SupportedProfiles) (r s : List Event) → supported_events (Some p) ++ r ≡ supported_events (Some q) ++ s → Both p q r s
unfolding supported_events
supported_front p q r s h =
    let n : Text = name_of fields.SupportedProfilesTag in
    let o = opened n n (attribute fields.DeviceType (device_type_text p.device_type) ∷ []) (attribute fields.DeviceType (device_type_text q.device_type) ∷ []) (profiles_events p.profiles) (profiles_events q.profiles) r s h in
    let d = one_device p.device_type q.device_type (same_value fields.DeviceType (device_type_text p.device_type) (device_type_text q.device_type) o.0) in
    let c = profiles_pins p.profiles q.profiles (closes n ∷ r) (closes n ∷ s) (all_fine p.profiles) (all_fine q.profiles) tt tt o.1 in
    (λ i. record { device_type = d i; profiles = c.0 i }, (tails (closes n) (closes n) r s c.1).1)

-- ---- fields before the profiles, and behind them

abbrev head_parts : MachInfo → List Part
head_parts a =
    maybe_part fields.Manufacturer a.manufacturer
    ∷ maybe_part fields.ModelTag a.model
    ∷ maybe_part fields.HwRev a.hw_rev
    ∷ maybe_part fields.SwRev a.sw_rev
    ∷ maybe_part fields.Dom a.dom
    ∷ maybe_part fields.SerialNumber a.serial_number
    ∷ maybe_part fields.MachineID a.id
    ∷ maybe_as_part time_text fields.TimeTag a.time
    ∷ maybe_part fields.OpTime a.op_time
    ∷ maybe_part fields.MosRev a.mos_rev
    ∷ []

abbrev rest_parts : MachInfo → List Part
rest_parts a =
    raws_part fields.DefaultActiveX a.default_active_x
    ∷ raws_part fields.Metadata a.metadata
    ∷ raws_part fields.Kept a.others
    ∷ []

-- all fields but the profiles
abbrev machine_parts : MachInfo → List Part
machine_parts a = head_parts a ++ rest_parts a

machine_only : (a b : MachInfo) → a.supported_profiles ≡ b.supported_profiles → events_of (machine_parts a) ≡ events_of (machine_parts b) → a ≡ b
machine_only a b same e = λ i. record {
  supported_profiles = same i;
  manufacturer = (an_option a.manufacturer b.manufacturer (leaf_of fields.Manufacturer)) i;
  model = (an_option a.model b.model (leaf_of fields.ModelTag)) i;
  hw_rev = (an_option a.hw_rev b.hw_rev (leaf_of fields.HwRev)) i;
  sw_rev = (an_option a.sw_rev b.sw_rev (leaf_of fields.SwRev)) i;
  dom = (an_option a.dom b.dom (leaf_of fields.Dom)) i;
  serial_number = (an_option a.serial_number b.serial_number (leaf_of fields.SerialNumber)) i;
  id = (an_option a.id b.id (leaf_of fields.MachineID)) i;
  time = (an_option_as time_text one_time a.time b.time (leaf_of fields.TimeTag)) i;
  op_time = (an_option a.op_time b.op_time (leaf_of fields.OpTime)) i;
  mos_rev = (an_option a.mos_rev b.mos_rev (leaf_of fields.MosRev)) i;
  default_active_x = (a_list a.default_active_x b.default_active_x (raw_of fields.DefaultActiveX)) i;
  metadata = (a_list a.metadata b.metadata (raw_of fields.Metadata)) i;
  others = (a_list a.others b.others (raw_of fields.Kept)) i;
}
  where
    leaf_of : (x : Field) → texts_at false x (machine_parts a) ≡ texts_at false x (machine_parts b)
    leaf_of x = same_texts false x (machine_parts a) (machine_parts b) e

    raw_of : (x : Field) → texts_at true x (machine_parts a) ≡ texts_at true x (machine_parts b)
    raw_of x = same_texts true x (machine_parts a) (machine_parts b) e

both_parts : (ps qs : List Part) → events_of (ps ++ qs) ≡ events_of ps ++ events_of qs
both_parts [] qs = refl
both_parts (p ∷ ps) qs = ap (λ es. p.events ++ es) (both_parts ps qs) ∙ sym (append_assoc p.events (events_of ps) (events_of qs))

-- there are no profiles
without : (ps qs : List Part) (r : List Event) → ((events_of ps ++ supported_events None) ++ events_of qs) ++ r ≡ events_of (ps ++ qs) ++ r
unfolding supported_events
without ps qs r = ap (λ es. (es ++ events_of qs) ++ r) (append-nil (events_of ps)) ∙ ap (λ es. es ++ r) (sym (both_parts ps qs))

-- there are
with_them : (ps qs : List Part) (p : SupportedProfiles) (r : List Event) → ((events_of ps ++ supported_events (Some p)) ++ events_of qs) ++ r ≡ events_of ps ++ (supported_events (Some p) ++ (events_of qs ++ r))
with_them ps qs p r =
    append_assoc (events_of ps ++ supported_events (Some p)) (events_of qs) r ∙ append_assoc (events_of ps) (supported_events (Some p)) (events_of qs ++ r)

not_end : (p : SupportedProfiles) (es r : List Event) → Ends r → r ≡ supported_events (Some p) ++ es → ⊥
unfolding supported_events
not_end p es r i e = subst Ends e i

-- the profiles of both, and the fields of both
middle : (p q : Option SupportedProfiles) (hs rs is ss : List Part) (r s : List Event) → Ends r → Ends s
    → ((events_of hs ++ supported_events p) ++ events_of rs) ++ r ≡ ((events_of is ++ supported_events q) ++ events_of ss) ++ s
    → (p ≡ q) × (events_of (hs ++ rs) ≡ events_of (is ++ ss)) × (r ≡ s)
unfolding supported_events
middle None None hs rs is ss r s i j h =
    let c = cut (events_of (hs ++ rs)) (events_of (is ++ ss)) r s (flat_fields (hs ++ rs)) (flat_fields (is ++ ss)) (ends_stops r i) (ends_stops s j) (sym (without hs rs r) ∙ (h ∙ without is ss s)) in
    (refl, c.0, c.1)
middle None (Some q) hs rs is ss r s i j h =
    let c = cut (events_of (hs ++ rs)) (events_of is) r (supported_events (Some q) ++ (events_of ss ++ s)) (flat_fields (hs ++ rs)) (flat_fields is) (ends_stops r i) tt (sym (without hs rs r) ∙ (h ∙ with_them is ss q s)) in
    absurd (not_end q (events_of ss ++ s) r i c.1)
middle (Some p) None hs rs is ss r s i j h =
    let c = cut (events_of hs) (events_of (is ++ ss)) (supported_events (Some p) ++ (events_of rs ++ r)) s (flat_fields hs) (flat_fields (is ++ ss)) tt (ends_stops s j) (sym (with_them hs rs p r) ∙ (h ∙ without is ss s)) in
    absurd (not_end p (events_of rs ++ r) s j (sym c.1))
middle (Some p) (Some q) hs rs is ss r s i j h =
    let c = cut (events_of hs) (events_of is) (supported_events (Some p) ++ (events_of rs ++ r)) (supported_events (Some q) ++ (events_of ss ++ s)) (flat_fields hs) (flat_fields is) tt tt (sym (with_them hs rs p r) ∙ (h ∙ with_them is ss q s)) in
    let d = supported_front p q (events_of rs ++ r) (events_of ss ++ s) c.1 in
    let e = cut (events_of rs) (events_of ss) r s (flat_fields rs) (flat_fields ss) (ends_stops r i) (ends_stops s j) d.1 in
    (ap (λ x. Some x) d.0, both_parts hs rs ∙ (ap (λ es. es ++ events_of rs) c.0 ∙ (ap (λ es. events_of is ++ es) e.0 ∙ sym (both_parts is ss))), e.1)

pub machine_pins : Pins (λ (a : MachInfo). Unit {0}) mach_info_events
unfolding mach_info_events mach_head_events mach_rest_events
machine_pins a b r s f g i j h =
    let m = middle a.supported_profiles b.supported_profiles (head_parts a) (rest_parts a) (head_parts b) (rest_parts b) r s i j h in
    (machine_only a b m.0 m.1, m.2)
