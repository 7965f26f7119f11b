-- Canonical texts are texts of their types.
use Rattle.std.proofs.Common.{◌≡◌, ℕ, ◌+◌, ◌≤◌, true, List, [], ◌∷◌, ◌++◌, reverse, append_assoc, length, Some, None, refl, sym, subst, ◌∙◌, ap}
use Rattle.std.specs.Prelude.{◌&&◌, nat_le, codes}
use Rattle.std.specs.List.{AllByRecursion}
use Rattle.std.proofs.lemmas.List.{append-nil, reverse-append, reverse-reverse}
use Rattle.mos_fields.specs.Raw.{IsRawElement}
use Rattle.std.proofs.lemmas.Bool.{leb-true}
use Rattle.mos_fields.specs.Characters.{Text, is_allowed, are_allowed}
use Rattle.mos_fields.specs.declared.form.Form.TheVariants as forms
use Rattle.mos_fields.specs.Forms.{reads, at_most, trimmed, is_time, among}
use Rattle.mos_fields.specs.Faults.{bad_char_from, samples_fault, rev_fault, time_fault, air_fault, obj_type_fault}
use Rattle.mos_fields.specs.Limits.{IsId, id_limit, slug_limit}
use Rattle.mos_cursor.proofs.Forms.{both, only_if_some}

sized : (x : Text) → 1 ≤ length x → length x ≤ 128 → IsId x
sized x s h = record { some = s; short = h }

pub id_sized : (x : Text) → reads forms.Id [] x ≡ Some x → IsId x
unfolding reads
id_sized x h =
    let p = both (nat_le 1 (length x)) (at_most 128 x) (only_if_some (nat_le 1 (length x) && at_most 128 x) x x h).0 in
    sized x (leb-true 1 (length x) p.0) (leb-true (length x) 128 p.1)

pub key_sized : (x : Text) → reads forms.Key [] x ≡ Some x → IsId x
unfolding reads
key_sized x h =
    let q = both (nat_le 1 (length x) && at_most 128 x) true (only_if_some (nat_le 1 (length x) && at_most 128 x && true) x x h).0 in
    let p = both (nat_le 1 (length x)) (at_most 128 x) q.0 in
    sized x (leb-true 1 (length x) p.0) (leb-true (length x) 128 p.1)

pub opt_id_sized : (x : Text) → reads forms.OptId [] x ≡ Some x → length x ≤ id_limit
unfolding reads
opt_id_sized x h = leb-true (length x) 128 (only_if_some (at_most 128 x) x x h).0

pub slug_sized : (x : Text) → reads forms.Slug [] x ≡ Some x → length x ≤ slug_limit
unfolding reads
slug_sized x h = leb-true (length x) 1024 (only_if_some (at_most 1024 x) x x h).0

allowed_from : (k : ℕ) (x : Text) → are_allowed x ≡ true → bad_char_from k x ≡ None
allowed_from k [] h = refl
allowed_from k (c ∷ cs) h = let p = both (is_allowed c) (are_allowed cs) h in rw p.0 (allowed_from (k + 1) cs p.1)

pub samples_fine : (x : Text) → are_allowed x ≡ true → reads forms.Samples [] x ≡ Some x → samples_fault x ≡ None
samples_fine x a h = rw (allowed_from 0 x a, h) refl

pub rev_fine : (x : Text) → are_allowed x ≡ true → reads forms.Rev [] x ≡ Some x → rev_fault x ≡ None
rev_fine x a h = rw (allowed_from 0 x a, h) refl

pub time_fine : (x : Text) → are_allowed x ≡ true → reads forms.Time [] x ≡ Some x → time_fault x ≡ None
time_fine x a h = rw (allowed_from 0 x a, h) refl

pub air_fine : (x : Text) → are_allowed x ≡ true → reads forms.Air [] x ≡ Some x → air_fault x ≡ None
air_fine x a h = rw (allowed_from 0 x a, h) refl

pub obj_type_fine : (x : Text) → are_allowed x ≡ true → reads forms.ObjType [] x ≡ Some x → obj_type_fault x ≡ None
obj_type_fine x a h = rw (allowed_from 0 x a, h) refl

pub time_trimmed : (x : Text) → reads forms.Time [] x ≡ Some x → trimmed x ≡ x
unfolding reads
time_trimmed x h = (only_if_some (is_time (trimmed x)) (trimmed x) x h).1

pub air_trimmed : (x : Text) → reads forms.Air [] x ≡ Some x → trimmed x ≡ x
unfolding reads
air_trimmed x h = (only_if_some (among (trimmed x) (codes "READY" ∷ codes "NOT READY" ∷ [])) (trimmed x) x h).1

pub obj_type_trimmed : (x : Text) → reads forms.ObjType [] x ≡ Some x → trimmed x ≡ x
unfolding reads
obj_type_trimmed x h = (only_if_some (among (trimmed x) (codes "STILL" ∷ codes "AUDIO" ∷ codes "VIDEO" ∷ codes "OTHER" ∷ [])) (trimmed x) x h).1

pub some_same : (x y z : Text) → reads forms.Samples [] x ≡ Some x → reads forms.Samples [] x ≡ Some y → y ≡ x
some_same x y z h k = let p : Some y ≡ Some x = sym k ∙ h in cc

pub rev_same : (x y z : Text) → reads forms.Rev [] x ≡ Some x → reads forms.Rev [] x ≡ Some y → y ≡ x
rev_same x y z h k = let p : Some y ≡ Some x = sym k ∙ h in cc

-- raw elements, the next one last
pub record RawsLeft (all done left : List Text) : Type 0 where
  pub all_is : all ≡ done ++ reverse left
  pub fine : AllByRecursion IsRawElement (reverse left)

pub raws_start : (xs left : List Text) → left ≡ reverse xs → AllByRecursion IsRawElement xs → RawsLeft xs [] left
raws_start xs left e a = let p : reverse left ≡ xs = ap reverse e ∙ reverse-reverse xs in record { all_is = sym p; fine = subst (AllByRecursion IsRawElement) (sym p) a }

pushed : (left : List Text) (x : Text) → reverse (left ++ x ∷ []) ≡ x ∷ reverse left
pushed left x = reverse-append left (x ∷ [])

pub raw_next : (all done left more : List Text) (x : Text) → RawsLeft all done left → left ≡ more ++ x ∷ [] → IsRawElement x
raw_next all done left more x r e = (subst (AllByRecursion IsRawElement) (ap reverse e ∙ pushed more x) r.fine).0

pub raws_more : (all done left more : List Text) (x : Text) → RawsLeft all done left → left ≡ more ++ x ∷ [] → RawsLeft all (done ++ x ∷ []) more
raws_more all done left more x r e = record {
  all_is = r.all_is ∙ ap (λ (z : List Text). done ++ z) (ap reverse e ∙ pushed more x) ∙ sym (append_assoc done (x ∷ []) (reverse more));
  fine = (subst (AllByRecursion IsRawElement) (ap reverse e ∙ pushed more x) r.fine).1;
}

pub raws_end : (all done left : List Text) → RawsLeft all done left → left ≡ [] → done ≡ all
raws_end all done left r e = sym (r.all_is ∙ ap (λ (z : List Text). done ++ reverse z) e ∙ append-nil done)
