-- A storyBody that has a name for its text is the raw text of one element.
use Rattle.std.proofs.Common.{◌≡◌, ℕ, Bool, true, false, [], ◌∷◌, ◌++◌, ◌==◌, cond, codes, refl, arith, ap, ◌∙◌}
use Rattle.std.specs.List.{list_all}
use Rattle.std.proofs.lemmas.Bool.Decides.{nat_tests}
use Rattle.mos_fields.specs.Characters.{Text}
use Rattle.mos_fields.specs.Names.{may_grow, is_name as is_tag_name}
use Rattle.mos_fields.specs.Raw.{IsRaw, ends_start, raw_whole, end_text, ends_with, is_empty, is_tail, tail_from}
use Rattle.script_edits.specs.Words.{Word, is_name, is_name_char}
use Rattle.script_edits.specs.Stories.{named_body}
use Rattle.world_scripts.specs.PrintedCommands.{IsName}

abbrev tag : Text
tag = codes "storyBody"

-- an end tag doesn't begin with a name's character
not_first : (c : ℕ) → is_name_char c ≡ true → (60 == c) ≡ false
not_first c h = grind (arith, nat_tests, h)

no_front : (c : ℕ) (x : Text) → is_name_char c ≡ true → ends_with (end_text tag) (c ∷ x) ≡ ends_with (end_text tag) x
no_front c x h = let n = not_first c h in rw n refl

-- so such a character in front changes nothing
past_one : (c : ℕ) (x y : Text) → is_name_char c ≡ true → tail_from tag (c ∷ x) y ≡ tail_from tag x y
past_one c x [] h = refl
past_one c x (d ∷ y) h =
    ap (λ (b : Bool). cond b (is_empty y) (tail_from tag (c ∷ (x ++ d ∷ [])) y)) (no_front c (x ++ d ∷ []) h)
    ∙ ap (λ (b : Bool). cond (ends_with (end_text tag) (x ++ d ∷ [])) (is_empty y) b) (past_one c (x ++ d ∷ []) y h)

one_char : (c : ℕ) → is_name_char c ≡ true → ends_with (end_text tag) (c ∷ []) ≡ false
one_char c h = no_front c [] h

ends_once : (x : Text) → list_all is_name_char x ≡ true → tail_from tag [] (x ++ end_text tag) ≡ true
ends_once [] h = refl
ends_once (c ∷ x) h =
    let n : is_name_char c ≡ true = grind (arith, h) in
    let i = ends_once x (grind (arith, h)) in
    rw (one_char c n) (past_one c [] (x ++ end_text tag) n ∙ i)

name_chars : (w : Word) → IsName w → list_all is_name_char w ≡ true
unfolding is_name
name_chars w h = grind (arith, h)

tag_is_name : is_tag_name tag ≡ true
unfolding may_grow
tag_is_name = refl

pub named_raw : (x : Text) → IsName x → IsRaw tag (named_body x)
unfolding is_tail
named_raw x h = raw_whole {x = 62 ∷ (x ++ end_text tag)} {y = x ++ end_text tag} tag_is_name ends_start (ends_once x (name_chars x h))
