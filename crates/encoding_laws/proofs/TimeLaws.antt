-- Times are read back.
use Rattle.std.proofs.Common.{◌≡◌, ℕ, zero, suc, ◌+◌, ◌-◌, ◌/◌, ◌%◌, ◌≤◌, Bool, true, false, cond, ◌&&◌, ◌||◌, [], ◌∷◌, ◌++◌, take, drop, Option, Some, None, codes, refl, sym, ap, ◌∙◌, subst, arith}
use Rattle.std.specs.List.{list_all}
use Rattle.std.specs.Prelude.{nat_le}
use Rattle.std.proofs.Math.Bool.{Bool-set}
use Rattle.std.proofs.lemmas.Bool.{and_parts, and_from, leb-true}
use Rattle.std.proofs.lemmas.Bool.Decides.{nat_tests}
use Rattle.mos_fields.specs.Characters.{Text, is_allowed}
use Rattle.mos_fields.specs.Faults.{text_fault, time_fault}
use Rattle.mos_fields.specs.Forms.{is_digit, number_in, number_at, fits, is_zone, is_time, is_date, days_of, is_leap, behind_thousandths, trimmed, only_if, reads}
use Rattle.mos_fields.specs.Limits.{is_hour_and_minute, is_day, is_time_of_day, are_millis}
use Rattle.mos_fields.specs.Times.{millis_of, zone_of, distance_of}
use Rattle.mos_fields.specs.Values.{two_digits, three_digits, four_digits, day_text, clock_text, millis_text, zone_text, time_text}
use Rattle.mos_fields.specs.Zones.{is_zone_of}
use Rattle.mos_fields.specs.declared.form.Form.TheVariants as forms
use Rattle.mos_fields.specs.declared.fault.FieldFault.TheVariants.{BadTime as bad_time}
use Rattle.mos_fields.specs.declared.time.MosTime.{MosTime}
use Rattle.mos_fields.specs.declared.time.Zone.{Zone}
use Rattle.mos_fields.specs.declared.time.Zone.TheVariants as zones
use Rattle.mos_fields.proofs.FaultLemmas.{form_fine}
use Rattle.mos_fields.proofs.TimeLemmas.{time_is}
use Rattle.encoding_laws.specs.FieldLaws.{TimesAreReadBack}
use Rattle.encoding_laws.proofs.TextLaws.{allowed_text}
use Rattle.encoding_laws.proofs.NumberLaws.{is_solid, solid_trimmed, digit_solid, digit_allowed}

-- ---- digits

digit_is : (k : ℕ) → is_digit (48 + k % 10) ≡ true
digit_is k = grind (arith, nat_tests)

two_back : (n : ℕ) → n ≤ 99 → number_in (two_digits n) ≡ n
two_back n h = omega arith

three_back : (n : ℕ) → n ≤ 999 → number_in (three_digits n) ≡ n
three_back n h = omega arith

four_back : (n : ℕ) → n ≤ 9999 → number_in (four_digits n) ≡ n
four_back n h = omega arith

-- ---- which characters a time has

module _ (p : ℕ → Bool) (digit : (k : ℕ) → p (48 + k % 10) ≡ true) (marks : list_all p (43 ∷ 44 ∷ 45 ∷ 58 ∷ 84 ∷ 90 ∷ []) ≡ true) where
  cons_all : (c : ℕ) (x : Text) → p c ≡ true → list_all p x ≡ true → list_all p (c ∷ x) ≡ true
  cons_all c x h i = and_from (p c) (list_all p x) h i

  plus_is : p 43 ≡ true
  plus_is = (and_parts (p 43) _ marks).0

  behind_plus : list_all p (44 ∷ 45 ∷ 58 ∷ 84 ∷ 90 ∷ []) ≡ true
  behind_plus = (and_parts (p 43) _ marks).1

  comma_is : p 44 ≡ true
  comma_is = (and_parts (p 44) _ behind_plus).0

  behind_comma : list_all p (45 ∷ 58 ∷ 84 ∷ 90 ∷ []) ≡ true
  behind_comma = (and_parts (p 44) _ behind_plus).1

  dash_is : p 45 ≡ true
  dash_is = (and_parts (p 45) _ behind_comma).0

  behind_dash : list_all p (58 ∷ 84 ∷ 90 ∷ []) ≡ true
  behind_dash = (and_parts (p 45) _ behind_comma).1

  colon_is : p 58 ≡ true
  colon_is = (and_parts (p 58) _ behind_dash).0

  behind_colon : list_all p (84 ∷ 90 ∷ []) ≡ true
  behind_colon = (and_parts (p 58) _ behind_dash).1

  middle_is : p 84 ≡ true
  middle_is = (and_parts (p 84) _ behind_colon).0

  utc_is : list_all p (90 ∷ []) ≡ true
  utc_is = (and_parts (p 84) _ behind_colon).1

  two_all : (n : ℕ) (x : Text) → list_all p x ≡ true → list_all p (two_digits n ++ x) ≡ true
  two_all n x h = cons_all (48 + n / 10 % 10) ((48 + n % 10) ∷ x) (digit (n / 10)) (cons_all (48 + n % 10) x (digit n) h)

  three_all : (n : ℕ) (x : Text) → list_all p x ≡ true → list_all p (three_digits n ++ x) ≡ true
  three_all n x h = cons_all (48 + n / 100 % 10) (two_digits n ++ x) (digit (n / 100)) (two_all n x h)

  four_all : (n : ℕ) (x : Text) → list_all p x ≡ true → list_all p (four_digits n ++ x) ≡ true
  four_all n x h = cons_all (48 + n / 1000 % 10) (three_digits n ++ x) (digit (n / 1000)) (three_all n x h)

  distance_all : (h m : ℕ) → list_all p (two_digits h ++ 58 ∷ two_digits m) ≡ true
  distance_all h m = two_all h (58 ∷ two_digits m) (cons_all 58 (two_digits m) colon_is (two_all m [] refl))

  zone_all : (z : Zone) → list_all p (zone_text z) ≡ true
  zone_all zones.None = refl
  zone_all zones.Z = utc_is
  zone_all (zones.Plus h m) = cons_all 43 (two_digits h ++ 58 ∷ two_digits m) plus_is (distance_all h m)
  zone_all (zones.Minus h m) = cons_all 45 (two_digits h ++ 58 ∷ two_digits m) dash_is (distance_all h m)

  tail_all : (k : Option ℕ) (z : Zone) → list_all p (millis_text k ++ zone_text z) ≡ true
  tail_all None z = zone_all z
  tail_all (Some n) z = cons_all 44 (three_digits n ++ zone_text z) comma_is (three_all n (zone_text z) (zone_all z))

  clock_all : (h m s : ℕ) (x : Text) → list_all p x ≡ true → list_all p (clock_text h m s ++ x) ≡ true
  clock_all h m s x i = two_all h (58 ∷ (two_digits m ++ 58 ∷ (two_digits s ++ x))) (cons_all 58 (two_digits m ++ 58 ∷ (two_digits s ++ x)) colon_is
      (two_all m (58 ∷ (two_digits s ++ x)) (cons_all 58 (two_digits s ++ x) colon_is (two_all s x i))))

  day_all : (y m d : ℕ) (x : Text) → list_all p x ≡ true → list_all p (day_text y m d ++ x) ≡ true
  day_all y m d x i = four_all y (45 ∷ (two_digits m ++ 45 ∷ (two_digits d ++ x))) (cons_all 45 (two_digits m ++ 45 ∷ (two_digits d ++ x)) dash_is
      (two_all m (45 ∷ (two_digits d ++ x)) (cons_all 45 (two_digits d ++ x) dash_is (two_all d x i))))

  pub time_all : (t : MosTime) → list_all p (time_text t) ≡ true
  time_all t = day_all t.year t.month t.day (84 ∷ (clock_text t.hour t.minute t.second ++ (millis_text t.millis ++ zone_text t.zone)))
      (cons_all 84 (clock_text t.hour t.minute t.second ++ (millis_text t.millis ++ zone_text t.zone)) middle_is
      (clock_all t.hour t.minute t.second (millis_text t.millis ++ zone_text t.zone) (tail_all t.millis t.zone)))

time_solid : (t : MosTime) → trimmed (time_text t) ≡ time_text t
time_solid t = solid_trimmed (time_text t) (time_all is_solid (λ k. digit_solid (48 + k % 10) (digit_is k)) refl t)

time_characters : (t : MosTime) → text_fault (time_text t) ≡ None
time_characters t = allowed_text (time_text t) (time_all is_allowed (λ k. digit_allowed (48 + k % 10) (digit_is k)) refl t)

-- ---- milliseconds and zones

abbrev thousandths : ℕ → Text
thousandths n = 44 ∷ three_digits n

fits_thousandths : (n : ℕ) → fits (codes ",000") (thousandths n) ≡ true
fits_thousandths n = rw (digit_is (n / 100), digit_is (n / 10), digit_is n) refl

no_thousandths : (z : Zone) → fits (codes ",000") (take 4 (zone_text z)) ≡ false
no_thousandths zones.None = refl
no_thousandths zones.Z = refl
no_thousandths (zones.Plus h m) = refl
no_thousandths (zones.Minus h m) = refl

millis_back : (k : Option ℕ) (z : Zone) → are_millis k ≡ true → millis_of (millis_text k ++ zone_text z) ≡ k
millis_back None z h = ap (λ b. cond b (Some (number_at 1 3 (zone_text z))) None) (no_thousandths z)
millis_back (Some n) z h = ap (λ b. cond b (Some (number_in (three_digits n))) None) (fits_thousandths n) ∙ ap (λ m. Some m) (three_back n (leb-true n 999 h))

zone_behind : (k : Option ℕ) (z : Zone) → behind_thousandths (millis_text k ++ zone_text z) ≡ zone_text z
zone_behind None z = ap (λ b. cond b (drop 4 (zone_text z)) (zone_text z)) (no_thousandths z)
zone_behind (Some n) z = ap (λ b. cond b (zone_text z) (thousandths n ++ zone_text z)) (fits_thousandths n)

abbrev distance : ℕ → ℕ → ℕ → Text
distance sign h m = sign ∷ (two_digits h ++ 58 ∷ two_digits m)

fits_plus : (h m : ℕ) → fits (codes "+00:00") (distance 43 h m) ≡ true
fits_plus h m = rw (digit_is (h / 10), digit_is h, digit_is (m / 10), digit_is m) refl

fits_minus : (h m : ℕ) → fits (codes "-00:00") (distance 45 h m) ≡ true
fits_minus h m = rw (digit_is (h / 10), digit_is h, digit_is (m / 10), digit_is m) refl

hour_small : (h m : ℕ) → is_hour_and_minute h m ≡ true → (h ≤ 23) × (m ≤ 59)
hour_small h m e = let p = and_parts (nat_le h 23) (nat_le m 59) e in (leb-true h 23 p.0, leb-true m 59 p.1)

distance_back : (zone : ℕ → ℕ → Zone) (sign h m : ℕ) → is_hour_and_minute h m ≡ true → distance_of zone (distance sign h m) ≡ Some (zone h m)
distance_back zone sign h m e =
    let s = hour_small h m e in
    let hours : number_in (two_digits h) ≡ h = two_back h (let k : h ≤ 99 = omega (arith, s.0) in k) in
    let minutes : number_in (two_digits m) ≡ m = two_back m (let k : m ≤ 99 = omega (arith, s.1) in k) in
    ap (λ k. cond (is_hour_and_minute k (number_in (two_digits m))) (Some (zone k (number_in (two_digits m)))) None) hours
    ∙ (ap (λ k. cond (is_hour_and_minute h k) (Some (zone h k)) None) minutes ∙ ap (λ b. cond b (Some (zone h m)) None) e)

zone_back : (z : Zone) → is_zone_of z ≡ true → zone_of (zone_text z) ≡ Some z
zone_back zones.None e = refl
zone_back zones.Z e = refl
zone_back (zones.Plus h m) e =
    ap (λ b. cond b (distance_of zones.Plus (distance 43 h m)) (cond (fits (codes "-00:00") (distance 43 h m)) (distance_of zones.Minus (distance 43 h m)) None)) (fits_plus h m)
    ∙ distance_back zones.Plus 43 h m e
zone_back (zones.Minus h m) e = ap (λ b. cond b (distance_of zones.Minus (distance 45 h m)) None) (fits_minus h m) ∙ distance_back zones.Minus 45 h m e

distance_such : (h m : ℕ) → is_hour_and_minute h m ≡ true → (nat_le (number_in (two_digits h)) 23 && nat_le (number_in (two_digits m)) 59) ≡ true
distance_such h m e =
    let s = hour_small h m e in
    let hours : number_in (two_digits h) ≡ h = two_back h (let k : h ≤ 99 = omega (arith, s.0) in k) in
    let minutes : number_in (two_digits m) ≡ m = two_back m (let k : m ≤ 99 = omega (arith, s.1) in k) in
    ap (λ k. nat_le k 23 && nat_le (number_in (two_digits m)) 59) hours ∙ (ap (λ k. nat_le h 23 && nat_le k 59) minutes ∙ e)

zone_accepted : (z : Zone) → is_zone_of z ≡ true → is_zone (zone_text z) ≡ true
zone_accepted zones.None e = refl
zone_accepted zones.Z e = refl
zone_accepted (zones.Plus h m) e = ap (λ b. (b || false) && nat_le (number_in (two_digits h)) 23 && nat_le (number_in (two_digits m)) 59) (fits_plus h m) ∙ distance_such h m e
zone_accepted (zones.Minus h m) e = ap (λ b. b && nat_le (number_in (two_digits h)) 23 && nat_le (number_in (two_digits m)) 59) (fits_minus h m) ∙ distance_such h m e

-- ---- times

-- the parts of a time are those of its text
record IsText (t : MosTime) (x : Text) : Type 0 where
  year : number_at 0 4 x ≡ t.year
  month : number_at 5 2 x ≡ t.month
  day : number_at 8 2 x ≡ t.day
  hour : number_at 11 2 x ≡ t.hour
  minute : number_at 14 2 x ≡ t.minute
  second : number_at 17 2 x ≡ t.second
  millis : millis_of (drop 19 x) ≡ t.millis
  zone : zone_of (behind_thousandths (drop 19 x)) ≡ Some t.zone

-- the days of a month are few
days_few : (y m : ℕ) → m ≤ 12 → days_of y m ≤ 31
days_few y zero l = omega arith
days_few y (suc zero) l = omega arith
days_few y (suc (suc zero)) l = february (is_leap y)
  where
    february : (b : Bool) → cond b 29 28 ≤ 31
    february true = omega arith
    february false = omega arith
days_few y (suc (suc (suc zero))) l = omega arith
days_few y (suc (suc (suc (suc zero)))) l = omega arith
days_few y (suc (suc (suc (suc (suc zero))))) l = omega arith
days_few y (suc (suc (suc (suc (suc (suc zero)))))) l = omega arith
days_few y (suc (suc (suc (suc (suc (suc (suc zero))))))) l = omega arith
days_few y (suc (suc (suc (suc (suc (suc (suc (suc zero)))))))) l = omega arith
days_few y (suc (suc (suc (suc (suc (suc (suc (suc (suc zero))))))))) l = omega arith
days_few y (suc (suc (suc (suc (suc (suc (suc (suc (suc (suc zero)))))))))) l = omega arith
days_few y (suc (suc (suc (suc (suc (suc (suc (suc (suc (suc (suc zero))))))))))) l = omega arith
days_few y (suc (suc (suc (suc (suc (suc (suc (suc (suc (suc (suc (suc zero)))))))))))) l = omega arith
days_few y (suc (suc (suc (suc (suc (suc (suc (suc (suc (suc (suc (suc (suc m))))))))))))) l = absurd (omega arith)

date_small : (y m d : ℕ) → is_date y m d ≡ true → (m ≤ 99) × (d ≤ 99)
date_small y m d e =
    let p = and_parts (nat_le 1 m && nat_le m 12 && nat_le 1 d) (nat_le d (days_of y m)) e in
    let q = and_parts (nat_le 1 m && nat_le m 12) (nat_le 1 d) p.0 in
    let r = leb-true m 12 (and_parts (nat_le 1 m) (nat_le m 12) q.0).1 in
    let s = leb-true d (days_of y m) p.1 in
    let few : days_of y m ≤ 31 = days_few y m r in
    (omega (arith, r), omega (arith, s, few))

day_small : (y m d : ℕ) → is_day y m d ≡ true → (y ≤ 9999) × (m ≤ 99) × (d ≤ 99)
day_small y m d e =
    let p = and_parts (nat_le y 9999) (is_date y m d) e in
    let q = date_small y m d p.1 in
    (leb-true y 9999 p.0, q.0, q.1)

clock_small : (h m s : ℕ) → is_time_of_day h m s ≡ true → (h ≤ 99) × (m ≤ 99) × (s ≤ 99)
clock_small h m s e =
    let p = and_parts (nat_le h 23 && nat_le m 59) (nat_le s 59) e in
    let q = hour_small h m p.0 in
    let r = leb-true s 59 p.1 in
    (omega (arith, q.0), omega (arith, q.1), omega (arith, r))

parts_of : (t : MosTime) → IsText t (time_text t)
parts_of t =
    let d = day_small t.year t.month t.day t.day_exists in
    let c = clock_small t.hour t.minute t.second t.time_exists in
    record {
      year = four_back t.year d.0;
      month = two_back t.month d.1;
      day = two_back t.day d.2;
      hour = two_back t.hour c.0;
      minute = two_back t.minute c.1;
      second = two_back t.second c.2;
      millis = millis_back t.millis t.zone t.millis_exist;
      zone = ap zone_of (zone_behind t.millis t.zone) ∙ zone_back t.zone t.zone_exists;
    }

front_fits : (t : MosTime) → fits (codes "0000-00-00T00:00:00") (take 19 (time_text t)) ≡ true
front_fits t = rw (
  digit_is (t.year / 1000),
  digit_is (t.year / 100),
  digit_is (t.year / 10),
  digit_is t.year,
  digit_is (t.month / 10),
  digit_is t.month,
  digit_is (t.day / 10),
  digit_is t.day,
  digit_is (t.hour / 10),
  digit_is t.hour,
  digit_is (t.minute / 10),
  digit_is t.minute,
  digit_is (t.second / 10),
  digit_is t.second,
) refl

three_tests : (a b c : Bool) → a ≡ true → b ≡ true → c ≡ true → (a && (b && c)) ≡ true
three_tests a b c p q r = rw (p, q, r) refl

time_accepted : (t : MosTime) → is_time (time_text t) ≡ true
time_accepted t =
    let x = time_text t in
    let p = parts_of t in
    time_is x (front_fits t) ∙ three_tests _ _ _
    (ap (λ k. is_day k (number_at 5 2 x) (number_at 8 2 x)) p.year ∙ (ap (λ k. is_day t.year k (number_at 8 2 x)) p.month ∙ (ap (λ k. is_day t.year t.month k) p.day ∙ t.day_exists)))
    (ap (λ k. is_time_of_day k (number_at 14 2 x) (number_at 17 2 x)) p.hour ∙ (ap (λ k. is_time_of_day t.hour k (number_at 17 2 x)) p.minute ∙ (ap (λ k. is_time_of_day t.hour t.minute k) p.second ∙ t.time_exists)))
    (ap is_zone (zone_behind t.millis t.zone) ∙ zone_accepted t.zone t.zone_exists)

time_fine : (t : MosTime) → time_fault (time_text t) ≡ None
unfolding reads
time_fine t = form_fine forms.Time bad_time (time_text t) (trimmed (time_text t)) (time_characters t) (ap (λ b. only_if b (trimmed (time_text t))) (ap is_time (time_solid t) ∙ time_accepted t))

-- two times with the same parts are the same, whatever shows that they exist
record Parts : Type 0 where
  year : ℕ
  month : ℕ
  day : ℕ
  hour : ℕ
  minute : ℕ
  second : ℕ
  millis : Option ℕ
  zone : Zone

abbrev parts : ℕ → ℕ → ℕ → ℕ → ℕ → ℕ → Option ℕ → Zone → Parts
parts y m d h n s k z = record { year = y; month = m; day = d; hour = h; minute = n; second = s; millis = k; zone = z }

abbrev parts_in : MosTime → Parts
parts_in t = parts t.year t.month t.day t.hour t.minute t.second t.millis t.zone

abbrev made : (v : Parts) → is_day v.year v.month v.day ≡ true → is_time_of_day v.hour v.minute v.second ≡ true → are_millis v.millis ≡ true → is_zone_of v.zone ≡ true → MosTime
made v a b c d = record { year = v.year; month = v.month; day = v.day; hour = v.hour; minute = v.minute; second = v.second; millis = v.millis; zone = v.zone; day_exists = a; time_exists = b; millis_exist = c; zone_exists = d }

abbrev Shown : Parts → Type 0
Shown v = (is_day v.year v.month v.day ≡ true) × (is_time_of_day v.hour v.minute v.second ≡ true) × (are_millis v.millis ≡ true) × (is_zone_of v.zone ≡ true)

shown_once : (v : Parts) (f g : Shown v) → made v f.0 f.1 f.2 f.3 ≡ made v g.0 g.1 g.2 g.3
shown_once v f g = ap (λ a. made v a f.1 f.2 f.3) (Bool-set _ _ f.0 g.0) ∙ (ap (λ a. made v g.0 a f.2 f.3) (Bool-set _ _ f.1 g.1)
    ∙ (ap (λ a. made v g.0 g.1 a f.3) (Bool-set _ _ f.2 g.2) ∙ ap (λ a. made v g.0 g.1 g.2 a) (Bool-set _ _ f.3 g.3)))

shown_same : (v w : Parts) → v ≡ w → (f : Shown v) (g : Shown w) → made v f.0 f.1 f.2 f.3 ≡ made w g.0 g.1 g.2 g.3
shown_same v w e f = let P : Parts → Type 0 = λ u. (g : Shown u) → made v f.0 f.1 f.2 f.3 ≡ made u g.0 g.1 g.2 g.3 in subst P e (shown_once v f)

abbrev shown : (t : MosTime) → Shown (parts_in t)
shown t = (t.day_exists, t.time_exists, t.millis_exist, t.zone_exists)

some_same : (z w : Zone) → Some z ≡ Some w → z ≡ w
some_same z w e = cc

same_parts : {y m d h n s y' m' d' h' n' s' : ℕ} {k k' : Option ℕ} {z z' : Zone} → y ≡ y' → m ≡ m' → d ≡ d' → h ≡ h' → n ≡ n' → s ≡ s' → k ≡ k' → z ≡ z'
    → parts y m d h n s k z ≡ parts y' m' d' h' n' s' k' z'
same_parts p q r t u v w i = cc

one_time : (t u : MosTime) (x : Text) → IsText t x → IsText u x → u ≡ t
one_time t u x p q = shown_same (parts_in u) (parts_in t)
    (same_parts (sym q.year ∙ p.year) (sym q.month ∙ p.month) (sym q.day ∙ p.day) (sym q.hour ∙ p.hour) (sym q.minute ∙ p.minute) (sym q.second ∙ p.second) (sym q.millis ∙ p.millis) (some_same u.zone t.zone (sym q.zone ∙ p.zone)))
    (shown u) (shown t)

pub times_back : TimesAreReadBack
times_back t = (time_fine t, λ u e. one_time t u (time_text t) (parts_of t) (let P : Text → Type 0 = λ v. IsText u v in subst P (e ∙ time_solid t) (parts_of u)))
