-- Parts of allowed characters are allowed.
use Rattle.std.proofs.Common.{◌≡◌, Bool, true, false, cond, not, ◌&&◌, [], ◌∷◌, reverse, Result, refl, ap, ◌∙◌}
use Rattle.std.specs.Prelude.{◌==◌, IsOkUnless}
use Rattle.std.proofs.lemmas.Bool.{and_parts, and_from}
use Rattle.std.proofs.lemmas.List.{reverse-append}
use Rattle.std.proofs.lemmas.List.Folds.{list_all-append}
use Rattle.mos_fields.specs.Characters.{Text, is_allowed, are_allowed}
use Rattle.mos_fields.specs.declared.fault.FieldFault.{FieldFault}
use Rattle.mos_fields.specs.declared.fault.FieldFault.TheVariants.{NoMemory as out_of_memory}
use Rattle.mos_fields.specs.Faults.{AnswersFault, text_fault}
use Rattle.mos_fields.specs.Forms.{behind_white, trimmed, shortest_digits}
use Rattle.mos_fields.specs.Raw.{is_empty, is_space}
use Rattle.mos_forms.proofs.FormLemmas.{allowed_from}

behind_allowed : (x : Text) → are_allowed x ≡ true → are_allowed (behind_white x) ≡ true
behind_allowed [] h = refl
behind_allowed (c ∷ cs) h = go (is_space c) (behind_allowed cs (and_parts (is_allowed c) (are_allowed cs) h).1)
  where
    go : (b : Bool) → are_allowed (behind_white cs) ≡ true → are_allowed (cond b (behind_white cs) (c ∷ cs)) ≡ true
    go true e = e
    go false e = h

reverse_allowed : (x : Text) → are_allowed x ≡ true → are_allowed (reverse x) ≡ true
reverse_allowed [] h = refl
reverse_allowed (c ∷ cs) h =
    let p = and_parts (is_allowed c) (are_allowed cs) h in
    ap are_allowed (reverse-append (c ∷ []) cs) ∙ (list_all-append is_allowed (reverse cs) (c ∷ []) ∙ and_from (are_allowed (reverse cs)) (is_allowed c && true) (reverse_allowed cs p.1) (and_from (is_allowed c) true p.0 refl))

pub trimmed_allowed : (x : Text) → are_allowed x ≡ true → are_allowed (trimmed x) ≡ true
trimmed_allowed x h = reverse_allowed (behind_white (reverse (behind_white x))) (behind_allowed (reverse (behind_white x)) (reverse_allowed (behind_white x) (behind_allowed x h)))

pub shortest_allowed : (x : Text) → are_allowed x ≡ true → are_allowed (shortest_digits x) ≡ true
shortest_allowed [] h = refl
shortest_allowed (c ∷ cs) h = go ((c == 48) && not (is_empty cs)) (shortest_allowed cs (and_parts (is_allowed c) (are_allowed cs) h).1)
  where
    go : (b : Bool) → are_allowed (shortest_digits cs) ≡ true → are_allowed (cond b (shortest_digits cs) (c ∷ cs)) ≡ true
    go true e = e
    go false e = h

-- only memory can lack for allowed characters
pub only_memory : {A : Type 0} (x : Text) (r : Result A FieldFault) → are_allowed x ≡ true → AnswersFault (text_fault x) r → IsOkUnless r out_of_memory
only_memory x r h a = rw (allowed_from 0 x h) at a
