-- Texts of digits, letters and a few marks, which are written as they are.
use Rattle.std.proofs.Common.{◌≡◌, ℕ, ◌+◌, ◌-◌, ◌*◌, ◌/◌, ◌%◌, ◌^◌, ◌<◌, ◌≤◌, Bool, true, false, cond, List, [], ◌∷◌, ◌++◌, length, Option, Some, None, codes, refl, sym, ap, subst, ◌∙◌, arith}
use Rattle.std.specs.Prelude.{nat_lt, nat_le, ◌==◌, ◌&&◌, ◌||◌}
use Rattle.std.specs.Char.Escape.{encode_utf16}
use Rattle.std.specs.Fmt.{decimal}
use Rattle.std.specs.List.{flat_map, list_all}
use Rattle.std.proofs.lemmas.Bool.Decides.{nat_tests}
use Rattle.std.proofs.lemmas.Fmt.{decimal_by_steps}
use Rattle.std.proofs.lemmas.List.Folds.{list_all-append}
use Rattle.mos_fields.specs.Characters.{Text, units_of}
use Rattle.mos_fields.specs.Escapes.{escaped_char, escaped}
use Rattle.mos_fields.specs.Values.{two_digits, three_digits, four_digits, millis_text, zone_text, day_text, clock_text, time_text, air_text, obj_type_text}
use Rattle.mos_fields.specs.declared.air.Air.{Air}
use Rattle.mos_fields.specs.declared.air.Air.TheVariants as airs
use Rattle.mos_fields.specs.declared.obj_type.ObjType.{ObjType}
use Rattle.mos_fields.specs.declared.obj_type.ObjType.TheVariants as types
use Rattle.mos_fields.specs.declared.time.MosTime.{MosTime}
use Rattle.mos_fields.specs.declared.time.Zone.{Zone}
use Rattle.mos_fields.specs.declared.time.Zone.TheVariants as zones
use Rattle.mos_values.specs.declared.mos_ack.AckStatus.{AckStatus}
use Rattle.mos_values.specs.declared.mos_ack.AckStatus.TheVariants.{Ack, Nack}
use Rattle.mos_values.specs.Views.{ack_status_text}

-- a space, `+`, `,`, `-`, a digit, `:`, a letter
abbrev is_simple : ℕ → Bool
is_simple c = (c == 32) || (nat_le 43 c && nat_le c 58) || (nat_le 63 c && nat_le c 126)

unfoldable pub are_simple : Text → Bool
are_simple x = list_all is_simple x

isnt : (c k : ℕ) → is_simple c ≡ true → is_simple k ≡ false → (c == k) ≡ false
isnt c k h n = grind (arith, nat_tests)

itself : (c : ℕ) → is_simple c ≡ true → escaped_char c ≡ c ∷ []
itself c h =
    let a : (c == 60) ≡ false = isnt c 60 h refl in
    let b : (c == 62) ≡ false = isnt c 62 h refl in
    let d : (c == 38) ≡ false = isnt c 38 h refl in
    let e : (c == 34) ≡ false = isnt c 34 h refl in
    let f : (c == 39) ≡ false = isnt c 39 h refl in
    rw (a, b, d, e, f) refl

narrow : (c : ℕ) → is_simple c ≡ true → encode_utf16 c ≡ c ∷ []
narrow c h = let e : nat_lt c 65536 ≡ true = grind (arith, nat_tests) in rw e refl

both : (a b : Bool) → (a && b) ≡ true → (a ≡ true) × (b ≡ true)
both true b h = (refl, h)
both false b h = absurd cc

joins : {a b x y : List ℕ} → a ≡ b → x ≡ y → a ++ x ≡ b ++ y
joins p q = cc

pub units_of_simple : (x : Text) → are_simple x ≡ true → units_of x ≡ x
unfolding are_simple
units_of_simple [] h = refl
units_of_simple (c ∷ cs) h = let k = both (is_simple c) (list_all is_simple cs) h in joins (narrow c k.0) (units_of_simple cs k.1)

pub escaped_simple : (x : Text) → are_simple x ≡ true → escaped x ≡ x
unfolding are_simple
escaped_simple [] h = refl
escaped_simple (c ∷ cs) h = let k = both (is_simple c) (list_all is_simple cs) h in joins (itself c k.0) (escaped_simple cs k.1)

-- its code units, escaped, are itself
pub simple_is : (x : Text) → are_simple x ≡ true → escaped (units_of x) ≡ x
simple_is x h = ap escaped (units_of_simple x h) ∙ escaped_simple x h

-- ---- values

simple_digit : (n : ℕ) → is_simple (48 + n % 10) ≡ true
simple_digit n = grind (arith, nat_tests)

simple_one : (n : ℕ) → n < 10 → is_simple (48 + n) ≡ true
simple_one n h = grind (arith, nat_tests)

pub simple_decimal : (n : ℕ) → n < 2 ^ 64 → are_simple (decimal n) ≡ true
unfolding are_simple
simple_decimal n lt = decimal_by_steps (λ n ds. list_all is_simple ds ≡ true) (λ n h. rw (simple_one n h) refl) (λ n ds h e. list_all-append is_simple ds ((48 + n % 10) ∷ []) ∙ rw (e, simple_digit n) refl) n lt

append_simple : (x y : Text) → list_all is_simple x ≡ true → list_all is_simple y ≡ true → list_all is_simple (x ++ y) ≡ true
append_simple x y a b = list_all-append is_simple x y ∙ rw (a, b) refl

two : (n : ℕ) → list_all is_simple (two_digits n) ≡ true
two n = rw (simple_digit (n / 10), simple_digit n) refl

three : (n : ℕ) → list_all is_simple (three_digits n) ≡ true
three n = rw (simple_digit (n / 100)) (two n)

four : (n : ℕ) → list_all is_simple (four_digits n) ≡ true
four n = rw (simple_digit (n / 1000)) (three n)

millis : (m : Option ℕ) → list_all is_simple (millis_text m) ≡ true
millis None = refl
millis (Some n) = three n

zone : (z : Zone) → list_all is_simple (zone_text z) ≡ true
zone zones.None = refl
zone zones.Z = refl
zone (zones.Plus h m) = append_simple (two_digits h) (58 ∷ two_digits m) (two h) (two m)
zone (zones.Minus h m) = append_simple (two_digits h) (58 ∷ two_digits m) (two h) (two m)

pub simple_time : (t : MosTime) → are_simple (time_text t) ≡ true
unfolding are_simple
simple_time t =
    let day = append_simple (four_digits t.year) (45 ∷ (two_digits t.month ++ 45 ∷ two_digits t.day)) (four t.year) (append_simple (two_digits t.month) (45 ∷ two_digits t.day) (two t.month) (two t.day)) in
    let clock = append_simple (two_digits t.hour) (58 ∷ (two_digits t.minute ++ 58 ∷ two_digits t.second)) (two t.hour) (append_simple (two_digits t.minute) (58 ∷ two_digits t.second) (two t.minute) (two t.second)) in
    let ending = append_simple (millis_text t.millis) (zone_text t.zone) (millis t.millis) (zone t.zone) in
    append_simple (day_text t.year t.month t.day) (84 ∷ (clock_text t.hour t.minute t.second ++ (millis_text t.millis ++ zone_text t.zone))) day
    (append_simple (clock_text t.hour t.minute t.second) (millis_text t.millis ++ zone_text t.zone) clock ending)

pub simple_air : (a : Air) → are_simple (air_text a) ≡ true
unfolding are_simple
simple_air airs.Ready = refl
simple_air airs.NotReady = refl

pub simple_obj_type : (t : ObjType) → are_simple (obj_type_text t) ≡ true
unfolding are_simple
simple_obj_type types.Still = refl
simple_obj_type types.Audio = refl
simple_obj_type types.Video = refl
simple_obj_type types.Other = refl

pub simple_ack_status : (s : AckStatus) → are_simple (ack_status_text s) ≡ true
unfolding are_simple
simple_ack_status Ack = refl
simple_ack_status Nack = refl
