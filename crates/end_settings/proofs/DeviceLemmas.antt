-- The devices of tables are as many as these, and have distinct mosIDs.
use Rattle.std.proofs.Common.{◌≡◌, ◌≢◌, ℕ, zero, suc, ◌+◌, ◌<◌, Bool, true, false, cond, ◌&&◌, List, [], ◌∷◌, ◌++◌, length, get_or, Option, Some, None, Ok, Err, refl, sym, ap, subst, ◌∙◌, arith, length-append}
use Rattle.std.specs.Prelude.{IfOk, nat_le}
use Rattle.std.specs.List.{AllPairs}
use Rattle.std.proofs.lemmas.Bool.{false≢true, and_parts}
use Rattle.std.proofs.lemmas.Bool.Decides.{nat_tests}
use Rattle.std.proofs.lemmas.List.{map-append}
use Rattle.std.proofs.lemmas.List.Quantifiers.{all_pairs_push}
use Rattle.mos_fields.specs.Characters.{Text}
use Rattle.mos_fields.specs.Fields.{same}
use Rattle.mos_fields.specs.Forms.{among}
use Rattle.mos_fields.proofs.WordLemmas.{same_self}
use Rattle.toml.specs.Data.{Data, Items, no_items, item, table, array, string, integer, float, boolean, datetime, Members}
use Rattle.toml.specs.View.{items_view}
use Rattle.toml.specs.declared.value.Value.{Value}
use Rattle.end_settings.specs.declared.devices.DeviceSettings.{DeviceSettings}
use Rattle.end_settings.specs.declared.server.ServerSettings.{ServerSettings}
use Rattle.end_settings.specs.declared.key.Key.TheVariants as keys
use Rattle.end_settings.specs.declared.fault.SettingsFault.{SettingsFault}
use Rattle.end_settings.specs.declared.fault.SettingsFault.TheVariants.{BadValue}
use Rattle.end_settings.specs.Given.{Given, Gives, joined, joined3, made, and_then}
use Rattle.end_settings.specs.Values.{value_of, must, otherwise, id_in, filled_in, port_in}
use Rattle.end_settings.specs.Devices.{AreDevices, mos_ids, unless_taken, device_with, device_at, device_of, devices_from, devices_of, count, is_device_list, are_tables}
use Rattle.end_settings.specs.Ends.{server_of, server_with}

-- ---- one more device

abbrev Differ : Text → Text → Type 0
Differ x y = x ≢ y

cond_parts : (b c : Bool) → cond b true c ≡ false → (b ≡ false) × (c ≡ false)
cond_parts true c e = absurd (false≢true (sym e))
cond_parts false c e = (refl, e)

differ : (x y : Text) → same x y ≡ false → y ≢ x
differ x y e q = absurd (false≢true (sym e ∙ (ap (same x) q ∙ same_self x)))

other_than : (id : Text) (ids : List Text) → among id ids ≡ false → (k : ℕ) (d : Text) → k < length ids → Differ (get_or ids k d) id
other_than id [] e k d h = absurd (omega (arith, h))
other_than id (m ∷ ms) e zero d h = differ id m (cond_parts (same id m) (among id ms) e).0
other_than id (m ∷ ms) e (suc k) d h = other_than id ms (cond_parts (same id m) (among id ms) e).1 k d (omega (arith, h))

one_more : (before : List DeviceSettings) (device : DeviceSettings) → AllPairs Differ (mos_ids before) → among device.mos_id (mos_ids before) ≡ false → AllPairs Differ (mos_ids (before ++ device ∷ []))
one_more before device apart e =
    rw (map-append (λ (d : DeviceSettings). d.mos_id) before (device ∷ [])) (all_pairs_push Differ (mos_ids before) device.mos_id apart (other_than device.mos_id (mos_ids before) e))

-- ---- the device of a table has a new mosID

abbrev IsNew : List DeviceSettings → DeviceSettings → Type 0
IsNew before device = among device.mos_id (mos_ids before) ≡ false

new_at : (before : List DeviceSettings) (id : Text) (taken : Bool) (f : SettingsFault) (h : Given Text) (u l : Given ℕ) → among id (mos_ids before) ≡ taken
    → IfOk (made device_with (joined (joined (cond taken (Err f) (Ok id)) h) (joined u l))) (IsNew before)
new_at before id true f h u l e = tt
new_at before id false f (Err g) u l e = tt
new_at before id false f (Ok host) (Err g) l e = tt
new_at before id false f (Ok host) (Ok upper) (Err g) e = tt
new_at before id false f (Ok host) (Ok upper) (Ok lower) e = e

new_of : (before : List DeviceSettings) (g h : Given Text) (u l : Given ℕ) → IfOk (made device_with (joined (joined (unless_taken before g) h) (joined u l))) (IsNew before)
new_of before (Err f) h u l = tt
new_of before (Ok id) h u l = new_at before id (among id (mos_ids before)) (BadValue keys.DeviceMosId) h u l refl

new_device : (before : List DeviceSettings) (ms : Members) → IfOk (device_of before ms) (IsNew before)
unfolding device_of
new_device before ms = new_of before (must id_in keys.DeviceMosId (value_of keys.DeviceMosId ms)) (must filled_in keys.DeviceHost (value_of keys.DeviceHost ms)) (otherwise port_in 10541 keys.DeviceUpper (value_of keys.DeviceUpper ms)) (otherwise port_in 10540 keys.DeviceLower (value_of keys.DeviceLower ms))

-- ---- the devices of all tables

-- so many, with distinct mosIDs
abbrev AreMore : ℕ → List DeviceSettings → Type 0
AreMore n devices = (length devices ≡ n) × AllPairs Differ (mos_ids devices)

more_of : (before : List DeviceSettings) (n : ℕ) (g : Given DeviceSettings) (rest : DeviceSettings → Given (List DeviceSettings))
    → IfOk g (IsNew before) → ((device : DeviceSettings) → IsNew before device → IfOk (rest device) (AreMore n)) → IfOk (and_then g rest) (AreMore n)
more_of before n (Err f) rest new h = tt
more_of before n (Ok device) rest new h = h device new

counted : (before : List DeviceSettings) (device : DeviceSettings) (n k : ℕ) → n ≡ length before + suc k → n ≡ length (before ++ device ∷ []) + k
counted before device n k e = rw (length-append before (device ∷ [])) (omega (arith, e))

new_value : (before : List DeviceSettings) (d : Data) → IfOk (device_at before d) (IsNew before)
new_value before (table ms) = new_device before ms
new_value before (array x) = tt
new_value before (string x) = tt
new_value before (integer x) = tt
new_value before (float x) = tt
new_value before (boolean x) = tt
new_value before (datetime x) = tt

devices_more : (before : List DeviceSettings) (ds : Items) (n : ℕ) → AllPairs Differ (mos_ids before) → n ≡ length before + count ds → IfOk (devices_from before ds) (AreMore n)
unfolding devices_from
devices_more before no_items n apart e = (omega (arith, e), apart)
devices_more before (item d ds) n apart e =
    more_of before n (device_at before d) (λ device. devices_from (before ++ device ∷ []) ds) (new_value before d)
    (λ device new. devices_more (before ++ device ∷ []) ds n (one_more before device apart new) (counted before device n (count ds) e))

none_apart : AllPairs Differ []
none_apart i j d h k = absurd (omega (arith, h, k))

sized_devices : (n : ℕ) (g : Given (List DeviceSettings)) → nat_le 1 n ≡ true → nat_le n 64 ≡ true → IfOk g (AreMore n) → IfOk g AreDevices
sized_devices n (Err f) some few h = tt
sized_devices n (Ok devices) some few h =
    record { some = rw h.0 (grind (arith, nat_tests)); few = rw h.0 (grind (arith, nat_tests)); distinct = h.1 }

from_array : (ds : Items) (b : Bool) (f : SettingsFault) → is_device_list ds ≡ b → IfOk (cond b (devices_from [] ds) (Err f)) AreDevices
from_array ds false f e = tt
from_array ds true f e =
    let (sized, tables) = and_parts (nat_le 1 (count ds) && nat_le (count ds) 64) (are_tables ds) e in
    let (some, few) = and_parts (nat_le 1 (count ds)) (nat_le (count ds) 64) sized in
    sized_devices (count ds) (devices_from [] ds) some few (devices_more [] ds (count ds) none_apart (omega arith))

devices_are : (o : Option Data) → IfOk (devices_of o) AreDevices
devices_are None = tt
devices_are (Some (array ds)) = from_array ds (is_device_list ds) (BadValue keys.Devices) refl
devices_are (Some (table x)) = tt
devices_are (Some (string x)) = tt
devices_are (Some (integer x)) = tt
devices_are (Some (float x)) = tt
devices_are (Some (boolean x)) = tt
devices_are (Some (datetime x)) = tt

-- ---- the devices of the settings

third : {A B : Type 0} (a : Given A) (b : Given B) (c : Given (List DeviceSettings)) → IfOk c AreDevices → IfOk (joined3 a b c) (λ t. AreDevices t.2)
third (Err f) b c h = tt
third (Ok x) (Err f) c h = tt
third (Ok x) (Ok y) (Err f) h = tt
third (Ok x) (Ok y) (Ok z) h = h

first : (a : Given (Text × Text × List DeviceSettings)) (b : Given (ℕ × ℕ × ℕ)) (c : Given ℕ) → IfOk a (λ t. AreDevices t.2) → IfOk (made server_with (joined3 a b c)) (λ (s : ServerSettings). AreDevices s.devices)
first (Err f) b c h = tt
first (Ok x) (Err f) c h = tt
first (Ok x) (Ok y) (Err f) h = tt
first (Ok x) (Ok y) (Ok z) h = h

pub server_devices : (ms : Members) → IfOk (server_of ms) (λ (s : ServerSettings). AreDevices s.devices)
unfolding server_of
server_devices ms = first _ _ _ (third _ _ _ (devices_are (value_of keys.Devices ms)))

-- what is given has what is read
pub gives_if : {A : Type 0} (P : A → Type 0) (want got : Given A) → Gives want got → IfOk want P → IfOk got P
gives_if {A} P want (Ok x) g h =
    let Q : Given A → Type 0 = λ r. IfOk r P in
    subst Q g h
gives_if P want (Err f) g h = tt

-- ---- as many as the values

pub count_items : (vs : List Value) → count (items_view vs) ≡ length vs
count_items [] = refl
count_items (v ∷ vs) = ap suc (count_items vs)
