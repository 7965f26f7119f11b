-- The bytes of code units, part by part.
use Rattle.std.proofs.Common.{Ok, Err, Bool, true, false, ◌≡◌, ℕ, ◌+◌, ◌/◌, ◌%◌, ◌^◌, ◌<◌, ◌≤◌, List, [], ◌∷◌, ◌++◌, ◌-◌, length, take, drop, get_or, refl, sym, ap, ◌∙◌, append_assoc, arith}
use Rattle.std.specs.List.{flat_map}
use Rattle.std.proofs.lemmas.List.{append-nil, take_more, take_rest, drop_more}
use Rattle.std.proofs.lemmas.List.Concat.{flat_map-append}
use Rattle.std.specs.Prelude.{Result, OnOk}
use Rattle.std.specs.Fmt.{decimal}
use Rattle.std.proofs.lemmas.List.{map-append}
use Rattle.std.specs.declared.alloc.AllocError.{AllocError}
use Rattle.mos_values.specs.declared.piece.Piece.{Piece}
use Rattle.mos_values.specs.Pieces.{piece_events, pieces_events}
use Rattle.std.proofs.lemmas.Fmt.{decimal_digit, decimal_step}
use Rattle.mos_fields.specs.Values.{level_text, operation_text}
use Rattle.mos_fields.specs.declared.level.Level.{Level}
use Rattle.mos_fields.specs.declared.level.Level.TheVariants as levels
use Rattle.mos_fields.specs.declared.operation.Operation.{Operation}
use Rattle.mos_fields.specs.declared.operation.Operation.TheVariants as operations
use Rattle.mos_values.specs.Views.{answer_text, device_type_text}
use Rattle.mos_values.specs.declared.profile.DeviceType.{DeviceType}
use Rattle.mos_values.specs.declared.profile.DeviceType.TheVariants.{Ncs, Mos}
use Rattle.mos_values.proofs.Simple.{are_simple, simple_is, escaped_simple, units_of_simple}
use Rattle.mos_fields.specs.Characters.{Text, unit_bytes, bytes_of, units_of}
use Rattle.mos_fields.specs.Escapes.{escaped_char, escaped}
use Rattle.mos_fields.specs.Raw.{end_text}
use Rattle.mos_fields.specs.declared.field.Field.{Field}
use Rattle.mos_fields.specs.Fields.{name_of}
use Rattle.mos_tables.specs.Events.{Attribute, Event, leaf, raw, opens, closes}
use Rattle.mos_tables.specs.Canonical.{canonical, event_text, start_text}
use Rattle.mos_values.specs.Parts.{must, must_raw, raws, attribute, element, element_with}
use Rattle.mos_values.specs.Units.{canonical_units}
use Rattle.mos_values.proofs.Encoding.{canonical_units-append, canonical_units-nil, canonical_units-cons, units_of-append, end_units, leaf_is, element_is, raw_is, units_of_name}
use Rattle.mos_values.proofs.Counts.{flat_map_step}
use Rattle.mos_writer.specs.Encoded.{encoded, in_bytes, start_bytes, end_bytes, word_bytes, start_with_bytes}

pub in_bytes-append : (xs ys : List ℕ) → in_bytes (xs ++ ys) ≡ in_bytes xs ++ in_bytes ys
unfolding in_bytes
in_bytes-append xs ys = flat_map-append unit_bytes xs ys

pub in_bytes-nil : in_bytes [] ≡ []
unfolding in_bytes
in_bytes-nil = refl

pub units_start : (a : List ℕ) → a ≡ a ++ in_bytes []
units_start a = sym (ap (λ (ys : List ℕ). a ++ ys) in_bytes-nil ∙ append-nil a)

-- no code unit; one, or four, and the rest behind them
pub when_empty : (us a : List ℕ) → length us < 1 → a ≡ a ++ in_bytes us
when_empty [] a lt = units_start a
when_empty (u ∷ us) a lt = absurd (grind (arith))

pub one_and_rest : (us a m w : List ℕ) → 1 ≤ length us → m ≡ a ++ unit_bytes (get_or us 0 0) → w ≡ m ++ in_bytes (take (length us - 1) (drop 1 us)) → w ≡ a ++ in_bytes us
unfolding in_bytes
one_and_rest [] a m w le first then = absurd (grind (arith))
one_and_rest (u ∷ us) a m w le first then =
    then ∙ ap (λ ys. m ++ in_bytes ys) (take_rest (u ∷ us) 1) ∙ ap (λ ys. ys ++ in_bytes us) first ∙ append_assoc a (unit_bytes u) (in_bytes us)

pub four_and_rest : (us a m w : List ℕ) → 4 ≤ length us
    → m ≡ a ++ (unit_bytes (get_or us 0 0) ++ (unit_bytes (get_or us 1 0) ++ (unit_bytes (get_or us 2 0) ++ unit_bytes (get_or us 3 0))))
    → w ≡ m ++ in_bytes (take (length us - 4) (drop 4 us)) → w ≡ a ++ in_bytes us
unfolding in_bytes
four_and_rest [] a m w le first then = absurd (grind (arith))
four_and_rest (t ∷ []) a m w le first then = absurd (grind (arith))
four_and_rest (t ∷ u ∷ []) a m w le first then = absurd (grind (arith))
four_and_rest (t ∷ u ∷ v ∷ []) a m w le first then = absurd (grind (arith))
four_and_rest (t ∷ u ∷ v ∷ x ∷ us) a m w le first then =
    then ∙ ap (λ ys. m ++ in_bytes ys) (take_rest (t ∷ u ∷ v ∷ x ∷ us) 4) ∙ ap (λ ys. ys ++ in_bytes us) first
    ∙ append_assoc a (unit_bytes t ++ (unit_bytes u ++ (unit_bytes v ++ unit_bytes x))) (in_bytes us)

-- one code unit alone, or two
pub one_alone : (us a w : List ℕ) → 1 ≤ length us → length us < 2 → w ≡ a ++ unit_bytes (get_or us 0 0) → w ≡ a ++ in_bytes us
unfolding in_bytes
one_alone [] a w le lt h = absurd (grind (arith))
one_alone (u ∷ []) a w le lt h = h ∙ ap (λ ys. a ++ ys) (sym (append-nil (unit_bytes u)))
one_alone (u ∷ v ∷ us) a w le lt h = absurd (grind (arith))

pub two_alone : (us a w : List ℕ) → 2 ≤ length us → length us < 3 → w ≡ a ++ (unit_bytes (get_or us 0 0) ++ unit_bytes (get_or us 1 0)) → w ≡ a ++ in_bytes us
unfolding in_bytes
two_alone [] a w le lt h = absurd (grind (arith))
two_alone (u ∷ []) a w le lt h = absurd (grind (arith))
two_alone (u ∷ v ∷ []) a w le lt h = h ∙ ap (λ ys. a ++ (unit_bytes u ++ ys)) (sym (append-nil (unit_bytes v)))
two_alone (u ∷ v ∷ x ∷ us) a w le lt h = absurd (grind (arith))

pub on_ok_to : {P Q : Type 0} (r : Result (Unit {0}) AllocError) → (P → Q) → OnOk r P → OnOk r Q
on_ok_to (Ok v) go p = go p
on_ok_to (Err e) go p = p

pub joins : {a b x y : List ℕ} → a ≡ b → x ≡ y → a ++ x ≡ b ++ y
joins p q = cc

pub encoded_is : (es : List Event) → encoded es ≡ in_bytes (canonical_units es)
unfolding encoded in_bytes canonical_units
encoded_is es = refl

pub encoded-append : (es fs : List Event) → encoded (es ++ fs) ≡ encoded es ++ encoded fs
encoded-append es fs =
    encoded_is (es ++ fs) ∙ ap in_bytes (canonical_units-append es fs) ∙ in_bytes-append (canonical_units es) (canonical_units fs) ∙ joins (sym (encoded_is es)) (sym (encoded_is fs))

pub encoded-nil : encoded [] ≡ []
encoded-nil = encoded_is [] ∙ ap in_bytes canonical_units-nil ∙ in_bytes-nil

-- ---- loops

-- one more of a list, behind what was written
pub one_more : {X : Type 0} (g : X → List ℕ) (xs : List X) (i : ℕ) (x : X) (a l w : List ℕ) → i < length xs → x ≡ get_or xs i x
    → l ≡ a ++ flat_map g (take i xs) → w ≡ l ++ g x → w ≡ a ++ flat_map g (take (i + 1) xs)
one_more g xs i x a l w lt is before after =
    after ∙ ap (λ (ys : List ℕ). ys ++ g x) before ∙ append_assoc a (flat_map g (take i xs)) (g x) ∙ ap (λ (ys : List ℕ). a ++ ys) (sym (flat_map_step g xs i x lt is))

step_at : {X Y : Type 0} (g : X → List Y) (xs : List X) (i : ℕ) (d : X) → i < length xs → flat_map g (take (i + 1) xs) ≡ flat_map g (take i xs) ++ g (get_or xs i d)
step_at g xs i d lt = ap (flat_map g) (take_more xs i d lt) ∙ flat_map-append g (take i xs) (get_or xs i d ∷ []) ∙ ap (λ ys. flat_map g (take i xs) ++ ys) (append-nil (g (get_or xs i d)))

-- one more code unit
pub units_step : (us : List ℕ) (i : ℕ) (a l w : List ℕ) → i < length us → l ≡ a ++ in_bytes (take i us) → w ≡ l ++ unit_bytes (get_or us i 0) → w ≡ a ++ in_bytes (take (i + 1) us)
unfolding in_bytes
units_step us i a l w lt before after =
    after ∙ ap (λ (ys : List ℕ). ys ++ unit_bytes (get_or us i 0)) before ∙ append_assoc a (flat_map unit_bytes (take i us)) (unit_bytes (get_or us i 0))
    ∙ ap (λ (ys : List ℕ). a ++ ys) (sym (step_at unit_bytes us i 0 lt))

pub escaped_start : (a : List ℕ) → a ≡ a ++ in_bytes (escaped [])
escaped_start a = units_start a

-- one more, escaped
pub escaped_step : (us : List ℕ) (i : ℕ) (a l w : List ℕ) → i < length us → l ≡ a ++ in_bytes (escaped (take i us)) → w ≡ l ++ in_bytes (escaped_char (get_or us i 0)) → w ≡ a ++ in_bytes (escaped (take (i + 1) us))
escaped_step us i a l w lt before after =
    after ∙ ap (λ (ys : List ℕ). ys ++ in_bytes (escaped_char (get_or us i 0))) before ∙ append_assoc a (in_bytes (escaped (take i us))) (in_bytes (escaped_char (get_or us i 0)))
    ∙ ap (λ (ys : List ℕ). a ++ ys) (sym (ap in_bytes (step_at escaped_char us i 0 lt) ∙ in_bytes-append (escaped (take i us)) (escaped_char (get_or us i 0))))

-- four of a text, and what stands behind them
one_off : (us : List ℕ) (i j : ℕ) → j ≡ i + 1 → i < length us → drop i us ≡ get_or us i 0 ∷ drop j us
one_off us i j is lt = drop_more us i 0 lt ∙ ap (λ k. get_or us i 0 ∷ drop k us) (sym is)

four_off : (us : List ℕ) (i : ℕ) → i + 4 ≤ length us → drop i us ≡ get_or us i 0 ∷ get_or us (i + 1) 0 ∷ get_or us (i + 2) 0 ∷ get_or us (i + 3) 0 ∷ drop (i + 4) us
four_off us i le =
    one_off us i (i + 1) refl (omega (arith, le))
    ∙ ap (λ ys. get_or us i 0 ∷ ys) (one_off us (i + 1) (i + 2) (omega (arith)) (omega (arith, le)))
    ∙ ap (λ ys. get_or us i 0 ∷ get_or us (i + 1) 0 ∷ ys) (one_off us (i + 2) (i + 3) (omega (arith)) (omega (arith, le)))
    ∙ ap (λ ys. get_or us i 0 ∷ get_or us (i + 1) 0 ∷ get_or us (i + 2) 0 ∷ ys) (one_off us (i + 3) (i + 4) (omega (arith)) (omega (arith, le)))

escaped-append : (xs ys : List ℕ) → in_bytes (escaped (xs ++ ys)) ≡ in_bytes (escaped xs) ++ in_bytes (escaped ys)
escaped-append xs ys = ap in_bytes (flat_map-append escaped_char xs ys) ∙ in_bytes-append (escaped xs) (escaped ys)

pub four_escaped : (us : List ℕ) (i : ℕ) (l w t : List ℕ) → i + 4 ≤ length us → l ++ in_bytes (escaped (drop i us)) ≡ t
    → w ≡ l ++ in_bytes (escaped (get_or us i 0 ∷ get_or us (i + 1) 0 ∷ get_or us (i + 2) 0 ∷ get_or us (i + 3) 0 ∷ []))
    → w ++ in_bytes (escaped (drop (i + 4) us)) ≡ t
four_escaped us i l w t le before after =
    let four : List ℕ = get_or us i 0 ∷ get_or us (i + 1) 0 ∷ get_or us (i + 2) 0 ∷ get_or us (i + 3) 0 ∷ [] in
    ap (λ ys. ys ++ in_bytes (escaped (drop (i + 4) us))) after
    ∙ append_assoc l (in_bytes (escaped four)) (in_bytes (escaped (drop (i + 4) us)))
    ∙ ap (λ ys. l ++ ys) (sym (ap (λ ys. in_bytes (escaped ys)) (four_off us i le) ∙ escaped-append four (drop (i + 4) us)))
    ∙ before

pub four_as_they_are : (r : Result (Unit {0}) AllocError) (l w : List ℕ) (a b c d : ℕ) → escaped (a ∷ b ∷ c ∷ d ∷ []) ≡ a ∷ b ∷ c ∷ d ∷ []
    → OnOk r (w ≡ l ++ (unit_bytes a ++ (unit_bytes b ++ (unit_bytes c ++ unit_bytes d)))) → OnOk r (w ≡ l ++ in_bytes (escaped (a ∷ b ∷ c ∷ d ∷ [])))
unfolding in_bytes
four_as_they_are r l w a b c d e h = on_ok_to r (λ p. p ∙ ap (λ ys. l ++ in_bytes ys) (sym e)) h

-- nothing is appended
pub append_none : (a : List ℕ) → a ≡ a ++ in_bytes []
append_none a = units_start a

-- ---- parts, one behind the other

pub three : (a w1 w2 w3 x y z : List ℕ) → w1 ≡ a ++ x → w2 ≡ w1 ++ y → w3 ≡ w2 ++ z → w3 ≡ a ++ ((x ++ y) ++ z)
three a w1 w2 w3 x y z p q r =
    r ∙ ap (λ (ys : List ℕ). ys ++ z) (q ∙ ap (λ (ys : List ℕ). ys ++ y) p ∙ append_assoc a x y) ∙ append_assoc a (x ++ y) z

pub two : (a w1 w2 x y : List ℕ) → w1 ≡ a ++ x → w2 ≡ w1 ++ y → w2 ≡ a ++ (x ++ y)
two a w1 w2 x y p q = q ∙ ap (λ (ys : List ℕ). ys ++ y) p ∙ append_assoc a x y

tag : (n front : List ℕ) → (in_bytes front ++ in_bytes n) ++ in_bytes (62 ∷ []) ≡ in_bytes (front ++ (n ++ 62 ∷ []))
tag n front =
    ap (λ (ys : List ℕ). ys ++ in_bytes (62 ∷ [])) (sym (in_bytes-append front n)) ∙ sym (in_bytes-append (front ++ n) (62 ∷ [])) ∙ ap in_bytes (append_assoc front n (62 ∷ []))

pub start_is : (n : List ℕ) → (in_bytes (60 ∷ []) ++ in_bytes n) ++ in_bytes (62 ∷ []) ≡ start_bytes n
unfolding start_bytes in_bytes
start_is n = tag n (60 ∷ [])

pub end_is : (n : List ℕ) → (in_bytes (60 ∷ 47 ∷ []) ++ in_bytes n) ++ in_bytes (62 ∷ []) ≡ end_bytes n
unfolding end_bytes in_bytes
end_is n = tag n (60 ∷ 47 ∷ [])

-- a field with a text
pub must_is : (f : Field) (x : Text) → (start_bytes (name_of f) ++ in_bytes (escaped (units_of x))) ++ end_bytes (name_of f) ≡ encoded (must f x)
unfolding must start_bytes end_bytes in_bytes encoded canonical_units
must_is f x = sym (ap bytes_of (leaf_is (name_of f) x (units_of_name f)) ∙ flat_map-append unit_bytes (60 ∷ (name_of f ++ 62 ∷ []) ++ escaped (units_of x)) (60 ∷ 47 ∷ (name_of f ++ 62 ∷ [])) ∙ ap (λ (ys : List ℕ). ys ++ bytes_of (60 ∷ 47 ∷ (name_of f ++ 62 ∷ []))) (flat_map-append unit_bytes (60 ∷ (name_of f ++ 62 ∷ [])) (escaped (units_of x))))

-- with a text that is written as it is
pub simple_is_written : (f : Field) (x : Text) → are_simple x ≡ true → word_bytes (name_of f) x ≡ encoded (must f x)
unfolding word_bytes
simple_is_written f x h = ap (λ (us : List ℕ). (start_bytes (name_of f) ++ in_bytes us) ++ end_bytes (name_of f)) (sym (simple_is x h)) ∙ must_is f x

-- a number's digits
pub decimal_more : (n : ℕ) → 10 ≤ n → n < 2 ^ 32 → in_bytes (decimal (n / 10)) ++ in_bytes ((48 + n % 10) ∷ []) ≡ in_bytes (decimal n)
decimal_more n h lt = sym (in_bytes-append (decimal (n / 10)) ((48 + n % 10) ∷ [])) ∙ ap in_bytes (sym (decimal_step n h (omega arith)))

pub decimal_one : (n : ℕ) → n < 10 → in_bytes ((48 + n) ∷ []) ≡ in_bytes (decimal n)
decimal_one n h = ap in_bytes (sym (decimal_digit n h))

-- the front of a time, and what may stand behind it
pub time_parts : (a w1 w2 w3 d c m z : List ℕ) → w1 ≡ a ++ in_bytes (d ++ 84 ∷ c) → w2 ≡ w1 ++ in_bytes m → w3 ≡ w2 ++ in_bytes z
    → w3 ≡ a ++ in_bytes (d ++ 84 ∷ (c ++ (m ++ z)))
time_parts a w1 w2 w3 d c m z p q r =
    let whole : ((d ++ 84 ∷ c) ++ m) ++ z ≡ d ++ 84 ∷ (c ++ (m ++ z)) = simp append_assoc in
    three a w1 w2 w3 (in_bytes (d ++ 84 ∷ c)) (in_bytes m) (in_bytes z) p q r
    ∙ ap (λ (ys : List ℕ). a ++ ys) (ap (λ (ys : List ℕ). ys ++ in_bytes z) (sym (in_bytes-append (d ++ 84 ∷ c) m)) ∙ sym (in_bytes-append ((d ++ 84 ∷ c) ++ m) z) ∙ ap in_bytes whole)

-- an absent field appends nothing
pub appends_nothing : (a : List ℕ) → a ≡ a ++ encoded []
appends_nothing a = sym (ap (λ (ys : List ℕ). a ++ ys) encoded-nil ∙ append-nil a)

-- the same bytes under another name, where nothing failed
pub on_ok_as : (r : Result (Unit {0}) AllocError) (w a x y : List ℕ) → x ≡ y → OnOk r (w ≡ a ++ x) → OnOk r (w ≡ a ++ y)
on_ok_as (Ok u) w a x y e h = h ∙ ap (λ (ys : List ℕ). a ++ ys) e
on_ok_as (Err f) w a x y e h = h

-- a raw element
pub must_raw_is : (f : Field) (x : Text) → in_bytes (units_of x) ≡ encoded (must_raw f x)
unfolding must_raw
must_raw_is f x = sym (encoded_is (raw f x ∷ []) ∙ ap in_bytes (raw_is f x))

-- ---- lists of events

-- one more of a list of records
pub events_step : {X : Type 0} (g : X → List Event) (xs : List X) (i : ℕ) (x : X) (a l w : List ℕ) → i < length xs → x ≡ get_or xs i x
    → l ≡ a ++ encoded (flat_map g (take i xs)) → w ≡ l ++ encoded (g x) → w ≡ a ++ encoded (flat_map g (take (i + 1) xs))
events_step g xs i x a l w lt is before after =
    two a l w (encoded (flat_map g (take i xs))) (encoded (g x)) before after
    ∙ ap (λ (ys : List ℕ). a ++ ys) (sym (ap encoded (flat_map_step g xs i x lt is) ∙ encoded-append (flat_map g (take i xs)) (g x)))

pub raws_start : (f : Field) (a : List ℕ) → a ≡ a ++ encoded (raws f [])
unfolding raws
raws_start f a = appends_nothing a

pub raws_step : (f : Field) (xs : List Text) (i : ℕ) (x : Text) (a l w : List ℕ) → i < length xs → x ≡ get_or xs i x
    → l ≡ a ++ encoded (raws f (take i xs)) → w ≡ l ++ in_bytes (units_of x) → w ≡ a ++ encoded (raws f (take (i + 1) xs))
unfolding raws must_raw
raws_step f xs i x a l w lt is before after =
    let parts : raws f (take (i + 1) xs) ≡ raws f (take i xs) ++ raw f x ∷ [] = ap (raws f) (take_more xs i x lt) ∙ rw (← is) (map-append (raw f) (take i xs) (x ∷ [])) in
    two a l w (encoded (raws f (take i xs))) (in_bytes (units_of x)) before after
    ∙ ap (λ (ys : List ℕ). a ++ ys) (ap (λ (ys : List ℕ). encoded (raws f (take i xs)) ++ ys) (must_raw_is f x) ∙ sym (ap encoded parts ∙ encoded-append (raws f (take i xs)) (raw f x ∷ [])))

pub pieces_start : (a : List ℕ) → a ≡ a ++ encoded (pieces_events [])
unfolding pieces_events
pieces_start a = appends_nothing a

pub pieces_step : (ps : List Piece) (i : ℕ) (p : Piece) (a l w : List ℕ) → i < length ps → p ≡ get_or ps i p
    → l ≡ a ++ encoded (pieces_events (take i ps)) → w ≡ l ++ encoded (piece_events p) → w ≡ a ++ encoded (pieces_events (take (i + 1) ps))
unfolding pieces_events
pieces_step ps i p a l w lt is before after = events_step piece_events ps i p a l w lt is before after

-- ---- elements

-- tags round what stands in them
pub element_bytes : (n : Text) (es : List Event) → units_of n ≡ n → (start_bytes n ++ encoded es) ++ end_bytes n ≡ encoded (element n es)
unfolding start_bytes end_bytes encoded canonical_units
element_bytes n es e = sym (ap bytes_of (element_is n es e) ∙ flat_map-append unit_bytes (60 ∷ (n ++ 62 ∷ [])) (units_of (canonical es) ++ (60 ∷ 47 ∷ (n ++ 62 ∷ []))) ∙ ap (λ (ys : List ℕ). bytes_of (60 ∷ (n ++ 62 ∷ [])) ++ ys) (flat_map-append unit_bytes (units_of (canonical es)) (60 ∷ 47 ∷ (n ++ 62 ∷ [])))
    ∙ sym (append_assoc (bytes_of (60 ∷ (n ++ 62 ∷ []))) (bytes_of (units_of (canonical es))) (bytes_of (60 ∷ 47 ∷ (n ++ 62 ∷ [])))))

pub element_written : (n : Text) (es fs : List Event) (a w1 w2 w3 : List ℕ) → units_of n ≡ n → es ≡ fs → w1 ≡ a ++ start_bytes n → w2 ≡ w1 ++ encoded es → w3 ≡ w2 ++ end_bytes n → w3 ≡ a ++ encoded (element n fs)
element_written n es fs a w1 w2 w3 h same p q r =
    three a w1 w2 w3 (start_bytes n) (encoded es) (end_bytes n) p q r ∙ ap (λ (ys : List ℕ). a ++ ys) (element_bytes n es h ∙ ap (λ xs. encoded (element n xs)) same)

-- the element of a field
pub field_written : (f : Field) (es fs : List Event) (a w1 w2 w3 : List ℕ) → es ≡ fs → w1 ≡ a ++ start_bytes (name_of f) → w2 ≡ w1 ++ encoded es → w3 ≡ w2 ++ end_bytes (name_of f) → w3 ≡ a ++ encoded (element (name_of f) fs)
field_written f es fs a w1 w2 w3 same p q r = element_written (name_of f) es fs a w1 w2 w3 (units_of_name f) same p q r

-- two parts of a value
pub both_written : (es fs gs : List Event) (a w1 w2 : List ℕ) → gs ≡ es ++ fs → w1 ≡ a ++ encoded es → w2 ≡ w1 ++ encoded fs → w2 ≡ a ++ encoded gs
both_written es fs gs a w1 w2 e p q = two a w1 w2 (encoded es) (encoded fs) p q ∙ ap (λ (ys : List ℕ). a ++ ys) (sym (ap encoded e ∙ encoded-append es fs))

pub joined_events : {a b x y : List Event} → a ≡ b → x ≡ y → a ++ x ≡ b ++ y
joined_events p q = cc

-- ---- attributes

pub three_written : (es fs gs hs : List Event) (a w1 w2 w3 : List ℕ) → hs ≡ es ++ fs ++ gs → w1 ≡ a ++ encoded es → w2 ≡ w1 ++ encoded fs → w3 ≡ w2 ++ encoded gs → w3 ≡ a ++ encoded hs
three_written es fs gs hs a w1 w2 w3 e p q r = both_written (es ++ fs) gs hs a w2 w3 e (both_written es fs (es ++ fs) a w1 w2 refl p q) r

-- `<` and a name
pub opens_is : (n : List ℕ) → in_bytes (60 ∷ []) ++ in_bytes n ≡ in_bytes (60 ∷ n)
unfolding in_bytes
opens_is n = refl

pub attribute_is : (a : List ℕ) → (in_bytes (32 ∷ []) ++ in_bytes a) ++ in_bytes (61 ∷ 34 ∷ []) ≡ in_bytes (32 ∷ (a ++ 61 ∷ 34 ∷ []))
attribute_is a = ap (λ (ys : List ℕ). ys ++ in_bytes (61 ∷ 34 ∷ [])) (sym (in_bytes-append (32 ∷ []) a)) ∙ sym (in_bytes-append (32 ∷ a) (61 ∷ 34 ∷ []))

abbrev start_with : Text → Text → Text → Text
start_with n a y = 60 ∷ (n ++ ((32 ∷ (a ++ 61 ∷ 34 ∷ (y ++ 34 ∷ []))) ++ []) ++ 62 ∷ [])

shape : (n a x : Text) → start_with n a x ≡ ((60 ∷ n) ++ (32 ∷ (a ++ 61 ∷ 34 ∷ []))) ++ (x ++ (34 ∷ 62 ∷ []))
shape n a x = simp (append_assoc, append-nil)

attributed_text : (n a x : Text) → escaped x ≡ x → start_text n (record { name = a; value = x } ∷ []) ≡ ((60 ∷ n) ++ (32 ∷ (a ++ 61 ∷ 34 ∷ []))) ++ (x ++ (34 ∷ 62 ∷ []))
attributed_text n a x e = ap (λ (y : Text). start_with n a y) e ∙ shape n a x

-- a start tag with an attribute
pub attributed : (n x : Text) (f : Field) → units_of n ≡ n → are_simple x ≡ true → bytes_of (units_of (start_text n (attribute f x ∷ []))) ≡ start_with_bytes n (name_of f) x
unfolding start_with_bytes in_bytes
attributed n x f e h =
    let a : Text = name_of f in
    let text = attributed_text n a x (escaped_simple x h) in
    let u1 : units_of (60 ∷ n) ≡ 60 ∷ n = ap (λ (us : Text). 60 ∷ us) e in
    let u2 : units_of (32 ∷ (a ++ 61 ∷ 34 ∷ [])) ≡ 32 ∷ (a ++ 61 ∷ 34 ∷ []) = ap (λ (us : Text). 32 ∷ us) (units_of-append a (61 ∷ 34 ∷ []) ∙ ap (λ (us : Text). us ++ 61 ∷ 34 ∷ []) (units_of_name f)) in
    let u3 : units_of x ≡ x = units_of_simple x h in
    let front : units_of ((60 ∷ n) ++ (32 ∷ (a ++ 61 ∷ 34 ∷ []))) ≡ (60 ∷ n) ++ (32 ∷ (a ++ 61 ∷ 34 ∷ [])) = units_of-append (60 ∷ n) (32 ∷ (a ++ 61 ∷ 34 ∷ [])) ∙ joins u1 u2 in
    let behind : units_of (x ++ (34 ∷ 62 ∷ [])) ≡ x ++ (34 ∷ 62 ∷ []) = units_of-append x (34 ∷ 62 ∷ []) ∙ ap (λ (us : Text). us ++ (34 ∷ 62 ∷ [])) u3 in
    let whole : units_of (start_text n (attribute f x ∷ [])) ≡ ((60 ∷ n) ++ (32 ∷ (a ++ 61 ∷ 34 ∷ []))) ++ (x ++ (34 ∷ 62 ∷ [])) = ap units_of text ∙ units_of-append ((60 ∷ n) ++ (32 ∷ (a ++ 61 ∷ 34 ∷ []))) (x ++ (34 ∷ 62 ∷ [])) ∙ joins front behind in
    let b1 : bytes_of ((60 ∷ n) ++ (32 ∷ (a ++ 61 ∷ 34 ∷ []))) ≡ bytes_of (60 ∷ n) ++ bytes_of (32 ∷ (a ++ 61 ∷ 34 ∷ [])) = flat_map-append unit_bytes (60 ∷ n) (32 ∷ (a ++ 61 ∷ 34 ∷ [])) in
    let b2 : bytes_of (x ++ (34 ∷ 62 ∷ [])) ≡ bytes_of x ++ bytes_of (34 ∷ 62 ∷ []) = flat_map-append unit_bytes x (34 ∷ 62 ∷ []) in
    ap bytes_of whole ∙ flat_map-append unit_bytes ((60 ∷ n) ++ (32 ∷ (a ++ 61 ∷ 34 ∷ []))) (x ++ (34 ∷ 62 ∷ [])) ∙ joins b1 b2 ∙ sym (append_assoc (bytes_of (60 ∷ n) ++ bytes_of (32 ∷ (a ++ 61 ∷ 34 ∷ []))) (bytes_of x) (bytes_of (34 ∷ 62 ∷ [])))

-- a first event, and the others
pub encoded-cons : (e : Event) (es : List Event) → encoded (e ∷ es) ≡ bytes_of (units_of (event_text e)) ++ encoded es
unfolding encoded canonical_units
encoded-cons e es = ap bytes_of (canonical_units-cons e es) ∙ flat_map-append unit_bytes (units_of (event_text e)) (units_of (canonical es))

pub closing : (n : Text) → units_of n ≡ n → encoded (closes n ∷ []) ≡ end_bytes n
unfolding end_bytes
closing n e = encoded-cons (closes n) [] ∙ joins (ap bytes_of (end_units n e)) encoded-nil ∙ append-nil (bytes_of (60 ∷ 47 ∷ (n ++ 62 ∷ [])))

-- an element with an attribute round what stands in it
pub element_with_written : (n x : Text) (f : Field) (es fs : List Event) (a w1 w2 w3 : List ℕ) → units_of n ≡ n → are_simple x ≡ true → es ≡ fs
    → w1 ≡ a ++ start_with_bytes n (name_of f) x → w2 ≡ w1 ++ encoded es → w3 ≡ w2 ++ end_bytes n → w3 ≡ a ++ encoded (element_with n (attribute f x ∷ []) fs)
element_with_written n x f es fs a w1 w2 w3 e h same p q r =
    let whole : encoded (element_with n (attribute f x ∷ []) es) ≡ start_with_bytes n (name_of f) x ++ (encoded es ++ end_bytes n) =
    encoded-cons (opens n (attribute f x ∷ [])) (es ++ closes n ∷ []) ∙ joins (attributed n x f e h) (encoded-append es (closes n ∷ []) ∙ ap (λ (ys : List ℕ). encoded es ++ ys) (closing n e)) in
    three a w1 w2 w3 (start_with_bytes n (name_of f) x) (encoded es) (end_bytes n) p q r
    ∙ ap (λ (ys : List ℕ). a ++ ys) (append_assoc (start_with_bytes n (name_of f) x) (encoded es) (end_bytes n) ∙ sym whole ∙ ap (λ xs. encoded (element_with n (attribute f x ∷ []) xs)) same)

-- two parts, one behind the other
pub both_parts : (es fs : List Event) (a w1 w2 : List ℕ) → w1 ≡ a ++ encoded es → w2 ≡ w1 ++ encoded fs → w2 ≡ a ++ encoded (es ++ fs)
both_parts es fs a w1 w2 p q = both_written es fs (es ++ fs) a w1 w2 refl p q

-- ---- words of attributes

pub simple_level : (l : Level) → are_simple (level_text l) ≡ true
unfolding are_simple
simple_level levels.Ro = refl
simple_level levels.Story = refl
simple_level levels.Item = refl

pub simple_operation : (o : Operation) → are_simple (operation_text o) ≡ true
unfolding are_simple
simple_operation operations.Insert = refl
simple_operation operations.Replace = refl
simple_operation operations.Move = refl
simple_operation operations.Delete = refl
simple_operation operations.Swap = refl

-- the start tag, by what the names and words are
pub started : (w a : List ℕ) (n f v x y : Text) → f ≡ v → x ≡ y → w ≡ a ++ start_with_bytes n f x → w ≡ a ++ start_with_bytes n v y
started w a n f v x y p q r = cc

pub simple_answer : (b : Bool) → are_simple (answer_text b) ≡ true
unfolding are_simple
simple_answer true = refl
simple_answer false = refl

pub simple_device_type : (t : DeviceType) → are_simple (device_type_text t) ≡ true
unfolding are_simple
simple_device_type Ncs = refl
simple_device_type Mos = refl

-- a field with an attribute and a word
pub leaf_with_written : (n v x : Text) (f : Field) (a w1 w2 w3 : List ℕ) → units_of n ≡ n → are_simple v ≡ true → are_simple x ≡ true
    → w1 ≡ a ++ start_with_bytes n (name_of f) v → w2 ≡ w1 ++ in_bytes x → w3 ≡ w2 ++ end_bytes n → w3 ≡ a ++ encoded (leaf n (attribute f v ∷ []) x ∷ [])
unfolding in_bytes end_bytes
leaf_with_written n v x f a w1 w2 w3 e h k p q r =
    let g : List Attribute = attribute f v ∷ [] in
    let u : units_of (start_text n g ++ escaped x ++ end_text n) ≡ (units_of (start_text n g) ++ units_of (escaped x)) ++ units_of (end_text n) = units_of-append (start_text n g ++ escaped x) (end_text n) ∙ ap (λ (us : List ℕ). us ++ units_of (end_text n)) (units_of-append (start_text n g) (escaped x)) in
    let b : bytes_of ((units_of (start_text n g) ++ units_of (escaped x)) ++ units_of (end_text n)) ≡ (bytes_of (units_of (start_text n g)) ++ bytes_of (units_of (escaped x))) ++ bytes_of (units_of (end_text n)) = flat_map-append unit_bytes (units_of (start_text n g) ++ units_of (escaped x)) (units_of (end_text n)) ∙ ap (λ (ys : List ℕ). ys ++ bytes_of (units_of (end_text n))) (flat_map-append unit_bytes (units_of (start_text n g)) (units_of (escaped x))) in
    let middle : bytes_of (units_of (escaped x)) ≡ bytes_of x = ap bytes_of (ap units_of (escaped_simple x k) ∙ units_of_simple x k) in
    let whole : encoded (leaf n g x ∷ []) ≡ (start_with_bytes n (name_of f) v ++ bytes_of x) ++ bytes_of (60 ∷ 47 ∷ (n ++ 62 ∷ [])) =
    encoded-cons (leaf n g x) [] ∙ ap (λ (ys : List ℕ). bytes_of (units_of (start_text n g ++ escaped x ++ end_text n)) ++ ys) encoded-nil ∙ append-nil (bytes_of (units_of (start_text n g ++ escaped x ++ end_text n)))
    ∙ ap bytes_of u ∙ b ∙ joins (joins (attributed n v f e h) middle) (ap bytes_of (end_units n e)) in
    three a w1 w2 w3 (start_with_bytes n (name_of f) v) (bytes_of x) (bytes_of (60 ∷ 47 ∷ (n ++ 62 ∷ []))) p q r ∙ ap (λ (ys : List ℕ). a ++ ys) (sym whole)

-- the parts, by what the names and words are
pub worded : (w a : List ℕ) (x y : Text) → x ≡ y → w ≡ a ++ in_bytes x → w ≡ a ++ in_bytes y
worded w a x y p q = cc

pub ended : (w a : List ℕ) (n m : Text) → n ≡ m → w ≡ a ++ end_bytes n → w ≡ a ++ end_bytes m
ended w a n m p q = cc

pub started_named : (w a : List ℕ) (n m f v x y : Text) → n ≡ m → f ≡ v → x ≡ y → w ≡ a ++ start_with_bytes n f x → w ≡ a ++ start_with_bytes m v y
started_named w a n m f v x y o p q r = cc

-- the same events under another name
pub renamed : (w a : List ℕ) (es fs : List Event) → es ≡ fs → w ≡ a ++ encoded es → w ≡ a ++ encoded fs
renamed w a es fs p q = q ∙ ap (λ xs. a ++ encoded xs) p

-- an element round two parts
pub element_of_parts : (n : Text) (es fs : List Event) (a w1 w2 w3 w4 : List ℕ) → units_of n ≡ n → w1 ≡ a ++ start_bytes n → w2 ≡ w1 ++ encoded es → w3 ≡ w2 ++ encoded fs → w4 ≡ w3 ++ end_bytes n → w4 ≡ a ++ encoded (element n (es ++ fs))
element_of_parts n es fs a w1 w2 w3 w4 e p q r s = element_written n (es ++ fs) (es ++ fs) a w1 w3 w4 e refl p (both_parts es fs w1 w2 w3 q r) s
