-- Texts of lines.
use Rattle.std.proofs.Common.{◌≡◌, ℕ, ◌<◌, ◌≤◌, ◌-◌, Bool, true, false, cond, List, [], ◌∷◌, ◌++◌, length, take, drop, get_or, refl, sym, ap, ◌∙◌, arith, length-drop}
use Rattle.std.specs.Prelude.{slice_index}
use Rattle.std.proofs.lemmas.List.{append_assoc, take_rest, drop-map}
use Rattle.std.proofs.lemmas.Bool.Decides.{nat_tests}
use Rattle.mos_events.specs.EventView.{event_of, events_of}
use Rattle.mos_events.specs.declared.event.Event.{Event as Stored}
use Rattle.mos_fields.specs.Characters.{Text}
use Rattle.mos_fields.specs.Names.{is_further}
use Rattle.stream_commands.specs.Lines.{name_in_front, raw_name}

pub further_ascii : (c : ℕ) → is_further c ≡ true → c < 128
further_ascii c h = grind (arith, nat_tests)

-- the first of some characters is the one that was taken out
item_first : (x : List ℕ) (c : ℕ) → 1 ≤ length x → c ≡ get_or x 0 c → slice_index x 0 ≡ c
item_first [] c h e = absurd (omega (arith, h))
item_first (d ∷ x) c h e = sym e

-- a list of which the first element is known
pub first_rest : (x : List ℕ) → 1 ≤ length x → x ≡ slice_index x 0 ∷ take (length x - 1) (drop 1 x)
first_rest [] h = absurd (omega (arith, h))
first_rest (c ∷ cs) h = ap (λ z. c ∷ z) (sym (take_rest (c ∷ cs) 1))

pub none_left : (x : List ℕ) → length x < 1 → x ≡ []
none_left [] h = refl
none_left (c ∷ cs) h = absurd (omega (arith, h))

pub no_name : (x : Text) → length x < 1 → name_in_front x ≡ []
unfolding name_in_front
no_name x h = ap name_in_front (none_left x h)

-- the name goes on with the first character, or ends before it
pub further_name : (x : Text) (c : ℕ) → 1 ≤ length x → c ≡ get_or x 0 c → is_further c ≡ true → name_in_front x ≡ c ∷ name_in_front (take (length x - 1) (drop 1 x))
unfolding name_in_front
further_name x c h i e =
    ap name_in_front (first_rest x h ∙ ap (λ z. z ∷ take (length x - 1) (drop 1 x)) (item_first x c h i))
    ∙ ap (λ b. cond b (c ∷ name_in_front (take (length x - 1) (drop 1 x))) []) e

pub ended_name : (x : Text) (c : ℕ) → 1 ≤ length x → c ≡ get_or x 0 c → is_further c ≡ false → name_in_front x ≡ []
unfolding name_in_front
ended_name x c h i e =
    ap name_in_front (first_rest x h ∙ ap (λ z. z ∷ take (length x - 1) (drop 1 x)) (item_first x c h i))
    ∙ ap (λ b. cond b (c ∷ name_in_front (take (length x - 1) (drop 1 x))) []) e

pub no_raw_name : (x : Text) → length x < 1 → raw_name x ≡ []
unfolding raw_name
no_raw_name x h = ap raw_name (none_left x h)

pub some_raw_name : (x : Text) → 1 ≤ length x → raw_name x ≡ name_in_front (take (length x - 1) (drop 1 x))
unfolding raw_name
some_raw_name x h = ap raw_name (first_rest x h)

-- pieces that were appended one after the other
pub nine_pieces : (o a b c d z : List ℕ) → z ≡ (((((((((o ++ 32 ∷ []) ++ a) ++ 32 ∷ []) ++ b) ++ 32 ∷ []) ++ c) ++ 32 ∷ []) ++ d) ++ 10 ∷ [])
    → z ≡ o ++ ((32 ∷ a) ++ ((32 ∷ b) ++ ((32 ∷ c) ++ ((32 ∷ d) ++ 10 ∷ []))))
nine_pieces o a b c d z e =
    let s : List ℕ = 32 ∷ [] in
    let n : List ℕ = 10 ∷ [] in
    e
    ∙ (append_assoc _ d n
    ∙ (append_assoc _ s (d ++ n)
    ∙ (append_assoc _ c (s ++ (d ++ n))
    ∙ (append_assoc _ s (c ++ (s ++ (d ++ n)))
    ∙ (append_assoc _ b (s ++ (c ++ (s ++ (d ++ n))))
    ∙ (append_assoc _ s (b ++ (s ++ (c ++ (s ++ (d ++ n)))))
    ∙ (append_assoc _ a (s ++ (b ++ (s ++ (c ++ (s ++ (d ++ n))))))
    ∙ append_assoc o s (a ++ (s ++ (b ++ (s ++ (c ++ (s ++ (d ++ n))))))))))))))

-- the events behind some
pub events_behind : (es : List Stored) (n : ℕ) → events_of (take (length es - n) (drop n es)) ≡ drop n (events_of es)
events_behind es n = ap events_of (take_rest es n) ∙ sym (drop-map event_of n es)

pub no_events_behind : (es : List Stored) (n : ℕ) → length es < n → [] ≡ drop n (events_of es)
no_events_behind es n h = ap events_of (sym (none (drop n es) (let l = length-drop n es in omega (arith, l, h)))) ∙ sym (drop-map event_of n es)
  where
    none : (xs : List Stored) → length xs ≡ 0 → xs ≡ []
    none [] e = refl
    none (x ∷ xs) e = absurd (omega (arith, e))
