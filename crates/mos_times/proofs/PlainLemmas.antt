-- Texts of the pattern, and which of them are times.
use Rattle.std.proofs.Common.{◌≡◌, ℕ, true, false, ◌&&◌, ◌==◌, [], ◌∷◌, ◌++◌, length, take, drop, Some, None, codes, refl, sym, ap, ◌∙◌, arith}
use Rattle.std.proofs.lemmas.Bool.{and_parts, eqb-true}
use Rattle.mos_fields.specs.declared.time.Zone.TheVariants as zones
use Rattle.mos_fields.specs.Characters.{Text}
use Rattle.mos_fields.specs.Forms.{fits, is_time, number_at, behind_thousandths}
use Rattle.mos_fields.specs.Limits.{is_day, is_time_of_day}
use Rattle.mos_fields.specs.Times.{begins_as_time, millis_of, zone_of}
use Rattle.mos_fields.specs.Values.{day_text, clock_text, millis_text, zone_text}
use Rattle.mos_fields.proofs.TimeLemmas.{fits_length, day_lost, clock_lost, time_written, time_accepted}
use Rattle.mos_times.specs.Plain.{is_plain}
use Rattle.mos_times.proofs.PatternLemmas.{fits_parts}

pub long : (x : Text) → fits (codes "0000-00-00T00:00:00Z") x ≡ true → length x ≡ 20
long x e = fits_length (codes "0000-00-00T00:00:00Z") x e

parts : (x : Text) → fits (codes "0000-00-00T00:00:00Z") x ≡ true → (fits (codes "0000-00-00T00:00:00") (take 19 x) ≡ true) × (fits (codes "Z") (drop 19 x) ≡ true)
parts x e =
    let l : length x ≡ 20 = long x e in
    and_parts (fits (codes "0000-00-00T00:00:00") (take 19 x)) (fits (codes "Z") (drop 19 x)) (fits_parts (codes "0000-00-00T00:00:00") (codes "Z") x (omega arith) ∙ e)

-- a text of the pattern begins as a time
pub begins : (x : Text) → fits (codes "0000-00-00T00:00:00Z") x ≡ true → begins_as_time x ≡ true
unfolding begins_as_time
begins x e = (parts x e).0

zone_alone : (y : Text) → fits (codes "Z") y ≡ true → y ≡ codes "Z"
zone_alone [] e = absurd (cc)
zone_alone (c ∷ []) e = ap (λ k. k ∷ []) (sym (eqb-true 90 c (and_parts (90 == c) true e).0))
zone_alone (c ∷ d ∷ y) e = absurd (let no = (and_parts (90 == c) false e).1 in cc)

-- and has a zone, and no milliseconds, behind that
pub ends : (x : Text) → fits (codes "0000-00-00T00:00:00Z") x ≡ true → drop 19 x ≡ codes "Z"
ends x e = zone_alone (drop 19 x) (parts x e).1

no_millis : (x : Text) → fits (codes "0000-00-00T00:00:00Z") x ≡ true → None ≡ millis_of (drop 19 x)
no_millis x e = ap millis_of (sym (ends x e))

has_zone : (x : Text) → fits (codes "0000-00-00T00:00:00Z") x ≡ true → zone_of (behind_thousandths (drop 19 x)) ≡ Some zones.Z
has_zone x e = ap (λ y. zone_of (behind_thousandths y)) (ends x e)

-- what isn't of the pattern, and what is no time, is no plain time
pub no_pattern : (x : Text) → fits (codes "0000-00-00T00:00:00Z") x ≡ false → is_plain x ≡ false
unfolding is_plain
no_pattern x e = ap (λ b. b && is_time x) e

no_time : (x : Text) → fits (codes "0000-00-00T00:00:00Z") x ≡ true → is_time x ≡ false → is_plain x ≡ false
unfolding is_plain
no_time x e f = rw (e, f) refl

pub no_day : (x : Text) (y m d : ℕ) → fits (codes "0000-00-00T00:00:00Z") x ≡ true → y ≡ number_at 0 4 x → m ≡ number_at 5 2 x → d ≡ number_at 8 2 x → is_day y m d ≡ false → is_plain x ≡ false
no_day x y m d e p q r f = no_time x e (day_lost x y m d (begins x e) p q r f)

pub no_clock : (x : Text) (h m s : ℕ) → fits (codes "0000-00-00T00:00:00Z") x ≡ true → h ≡ number_at 11 2 x → m ≡ number_at 14 2 x → s ≡ number_at 17 2 x → is_time_of_day h m s ≡ false → is_plain x ≡ false
no_clock x h m s e p q r f = no_time x e (clock_lost x h m s (begins x e) p q r f)

-- where the day and the time of day exist, it is one
pub is_one : (x : Text) (y m d h n s : ℕ) → fits (codes "0000-00-00T00:00:00Z") x ≡ true → y ≡ number_at 0 4 x → m ≡ number_at 5 2 x → d ≡ number_at 8 2 x
    → h ≡ number_at 11 2 x → n ≡ number_at 14 2 x → s ≡ number_at 17 2 x → is_day y m d ≡ true → is_time_of_day h n s ≡ true → is_plain x ≡ true
unfolding is_plain
is_one x y m d h n s e p q r t u v i j = rw (e, time_accepted x y m d h n s zones.Z (begins x e) p q r t u v i j (has_zone x e)) refl

pub one_written : (x : Text) (y m d h n s : ℕ) → fits (codes "0000-00-00T00:00:00Z") x ≡ true → y ≡ number_at 0 4 x → m ≡ number_at 5 2 x → d ≡ number_at 8 2 x
    → h ≡ number_at 11 2 x → n ≡ number_at 14 2 x → s ≡ number_at 17 2 x → day_text y m d ++ 84 ∷ (clock_text h n s ++ (millis_text None ++ zone_text zones.Z)) ≡ x
one_written x y m d h n s e p q r t u v = time_written x y m d h n s None zones.Z (begins x e) p q r t u v (no_millis x e) (has_zone x e)
