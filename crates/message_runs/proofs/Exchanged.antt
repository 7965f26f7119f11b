-- One more exchange behind those before it.
use Rattle.std.proofs.Common.{◌≡◌, ℕ, Bool, true, false, ◌&&◌, List, [], ◌∷◌, ◌++◌, refl, sym, ap, ◌∙◌}
use mathlib.Core.List.{map-append}
use Rattle.std.proofs.lemmas.List.{flat_map_more}
use Rattle.std.proofs.lemmas.List.Folds.{list_all-append}
use Rattle.mos_codec.specs.Codec.{encoding}
use Rattle.message_runs.specs.Exchanges.{Exchange, answers_of, are_good, is_good, messages_of, sent_of, told_of, told_text}

and_true : (b : Bool) → (b && true) ≡ b
and_true true = refl
and_true false = refl

module _ (xs : List Exchange) (x : Exchange) where
  pub messages_more : messages_of xs ++ x.sent ∷ [] ≡ messages_of (xs ++ x ∷ [])
  messages_more = sym (map-append (λ (y : Exchange). y.sent) xs (x ∷ []))

  pub answers_more : answers_of xs ++ x.answer ∷ [] ≡ answers_of (xs ++ x ∷ [])
  answers_more = sym (map-append (λ (y : Exchange). y.answer) xs (x ∷ []))

  pub sent_more : sent_of xs ++ encoding x.sent ≡ sent_of (xs ++ x ∷ [])
  sent_more = flat_map_more (λ (y : Exchange). encoding y.sent) [] xs x

  pub told_more : told_of xs ++ told_text x ≡ told_of (xs ++ x ∷ [])
  told_more = flat_map_more told_text [] xs x

  pub good_more : (are_good xs && is_good x) ≡ are_good (xs ++ x ∷ [])
  good_more = sym (list_all-append is_good xs (x ∷ []) ∙ ap (λ (b : Bool). are_good xs && b) (and_true (is_good x)))
