-- Texts that are the canonical ones of their forms.
use Rattle.std.proofs.Common.{◌≡◌, ◌≤◌, true, [], length, Some, refl, ap}
use Rattle.std.specs.Prelude.{nat_le, ◌&&◌}
use Rattle.std.proofs.lemmas.Bool.{and_from, le-leb}
use Rattle.mos_fields.specs.Characters.{Text}
use Rattle.mos_fields.specs.Forms.{only_if, reads}
use Rattle.mos_fields.specs.Limits.{IsId, id_limit, slug_limit}
use Rattle.mos_fields.specs.declared.form.Form.TheVariants as forms

pub reads_text : (x : Text) → reads forms.Text [] x ≡ Some x
unfolding reads
reads_text x = refl

id_sized : (x : Text) → IsId x → (nat_le 1 (length x) && nat_le (length x) 128) ≡ true
id_sized x i = and_from (nat_le 1 (length x)) (nat_le (length x) 128) (le-leb 1 (length x) i.some) (le-leb (length x) 128 i.short)

pub reads_id : (x : Text) → IsId x → reads forms.Id [] x ≡ Some x
unfolding reads
reads_id x i = ap (λ b. only_if b x) (id_sized x i)

pub reads_key : (x : Text) → IsId x → reads forms.Key [] x ≡ Some x
unfolding reads
reads_key x i = ap (λ b. only_if (b && true) x) (id_sized x i)

pub reads_opt_id : (x : Text) → length x ≤ id_limit → reads forms.OptId [] x ≡ Some x
unfolding reads
reads_opt_id x l = ap (λ b. only_if b x) (le-leb (length x) 128 l)

pub reads_slug : (x : Text) → length x ≤ slug_limit → reads forms.Slug [] x ≡ Some x
unfolding reads
reads_slug x l = ap (λ b. only_if b x) (le-leb (length x) 1024 l)
