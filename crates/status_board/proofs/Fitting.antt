-- What is of one element or of one order has its number.
use Rattle.std.proofs.Common.{◌≡◌, ℕ, Bool, true, false, refl, sym, ap, ◌∙◌, ◌&&◌, arith}
use Rattle.std.specs.Prelude.{◌==◌}
use Rattle.std.proofs.lemmas.Bool.Decides.{nat_tests}
use Rattle.mos_fields.specs.Characters.{Text}
use Rattle.mos_fields.specs.declared.level.Level.{Level}
use Rattle.mos_fields.specs.declared.level.Level.TheVariants.{Ro, Story, Item}
use Rattle.mos_edits.specs.Texts.{same_id}
use Rattle.mos_edits.proofs.Identifiers.{same-true}
use Rattle.mos_values.specs.Names.{text_or_none}
use Rattle.status_board.specs.Board.{Report, is_of_element, is_of_order, level_number}
use Rattle.status_board.specs.Numbers.{element_number, element_of, order_number, order_of}

first : (a b : Bool) → a && b ≡ true → a ≡ true
first true b h = refl
first false b h = h

second : (a b : Bool) → a && b ≡ true → b ≡ true
second true b h = h
second false b h = absurd (grind (arith, h))

number-is : (n m : ℕ) → (n == m) ≡ true → n ≡ m
number-is n m h = grind (arith, nat_tests, h)

pub order-device : (d : ℕ) (ro : Text) (r : Report) → is_of_order d ro r ≡ true → d ≡ r.0
order-device d ro r h = number-is d r.0 (first (d == r.0) (same_id ro r.1.ro) h)

pub order-name : (d : ℕ) (ro : Text) (r : Report) → is_of_order d ro r ≡ true → ro ≡ r.1.ro
order-name d ro r h = same-true ro r.1.ro (second (d == r.0) (same_id ro r.1.ro) h)

pub order-fits : (d : ℕ) (ro : Text) (r : Report) → is_of_order d ro r ≡ true → order_of r ≡ order_number d ro
order-fits d ro r h = sym (ap (λ e. order_number e ro) (order-device d ro r h) ∙ ap (order_number r.0) (order-name d ro r h))

pub element-order : (d : ℕ) (ro : Text) (l : Level) (s i : Text) (r : Report) → is_of_element d ro l s i r ≡ true → is_of_order d ro r ≡ true
element-order d ro l s i r h = first (is_of_order d ro r) ((level_number l == level_number r.1.level) && (same_id s (text_or_none r.1.story) && same_id i (text_or_none r.1.item))) h

level-is : (l m : Level) → level_number l ≡ level_number m → l ≡ m
level-is Ro Ro e = refl
level-is Ro Story e = absurd (omega (arith, e))
level-is Ro Item e = absurd (omega (arith, e))
level-is Story Ro e = absurd (omega (arith, e))
level-is Story Story e = refl
level-is Story Item e = absurd (omega (arith, e))
level-is Item Ro e = absurd (omega (arith, e))
level-is Item Story e = absurd (omega (arith, e))
level-is Item Item e = refl

pub element-fits : (d : ℕ) (ro : Text) (l : Level) (s i : Text) (r : Report) → is_of_element d ro l s i r ≡ true → element_of r ≡ element_number d ro l s i
element-fits d ro l s i r h =
    let o = element-order d ro l s i r h in
    let rest = second (is_of_order d ro r) ((level_number l == level_number r.1.level) && (same_id s (text_or_none r.1.story) && same_id i (text_or_none r.1.item))) h in
    let lev = level-is l r.1.level (number-is (level_number l) (level_number r.1.level) (first (level_number l == level_number r.1.level) (same_id s (text_or_none r.1.story) && same_id i (text_or_none r.1.item)) rest)) in
    let ids = second (level_number l == level_number r.1.level) (same_id s (text_or_none r.1.story) && same_id i (text_or_none r.1.item)) rest in
    let story = same-true s (text_or_none r.1.story) (first (same_id s (text_or_none r.1.story)) (same_id i (text_or_none r.1.item)) ids) in
    let item = same-true i (text_or_none r.1.item) (second (same_id s (text_or_none r.1.story)) (same_id i (text_or_none r.1.item)) ids) in
    sym (ap (λ e. element_number e ro l s i) (order-device d ro r o) ∙ ap (λ t. element_number r.0 t l s i) (order-name d ro r o) ∙ ap (λ v. element_number r.0 r.1.ro v s i) lev ∙ ap (λ t. element_number r.0 r.1.ro r.1.level t i) story ∙ ap (element_number r.0 r.1.ro r.1.level (text_or_none r.1.story)) item)
