-- Texts beside keys, and empty texts.
use Rattle.std.proofs.Common.{◌≡◌, true, false, cond, ◌&&◌, List, [], Option, Some, None, refl, ap}
use Rattle.std.specs.Prelude.{is_some}
use Rattle.mos_fields.specs.Characters.{Text}
use Rattle.mos_fields.specs.Forms.{reads}
use Rattle.mos_fields.specs.declared.form.Form.{Form}
use Rattle.mos_fields.specs.declared.form.Form.TheVariants as forms
use Rattle.mos_grammar.specs.Records.{field_events, leaf_event, OpenField}

-- keys do not matter to the empty text
pub reads_empty : (form : Form) (taken : List Text) → reads form taken [] ≡ reads form [] []
unfolding reads
reads_empty forms.Id taken = refl
reads_empty forms.Key taken = refl
reads_empty forms.OptId taken = refl
reads_empty forms.Slug taken = refl
reads_empty forms.Text taken = refl
reads_empty forms.Samples taken = refl
reads_empty forms.Rev taken = refl
reads_empty forms.Time taken = refl
reads_empty forms.Air taken = refl
reads_empty forms.ObjType taken = refl
reads_empty forms.AckWord taken = refl
reads_empty forms.Profile taken = refl

pub events_empty : (n : Text) (o : OpenField) (taken : List Text) → field_events n o taken [] ≡ field_events n o [] []
unfolding field_events
events_empty n o taken = ap (λ r. cond (o.may_lack && true) (Some []) (leaf_event n o r)) (reads_empty o.form taken)

pub empty_is : (form : Form) → is_some (reads form [] []) ≡ true → Some [] ≡ reads form [] []
unfolding reads
empty_is forms.Id e = absurd (cc)
empty_is forms.Key e = absurd (cc)
empty_is forms.OptId e = refl
empty_is forms.Slug e = refl
empty_is forms.Text e = refl
empty_is forms.Samples e = absurd (cc)
empty_is forms.Rev e = absurd (cc)
empty_is forms.Time e = absurd (cc)
empty_is forms.Air e = absurd (cc)
empty_is forms.ObjType e = absurd (cc)
empty_is forms.AckWord e = absurd (cc)
empty_is forms.Profile e = absurd (cc)

pub empty_is_none : (form : Form) → is_some (reads form [] []) ≡ false → None ≡ reads form [] []
empty_is_none form e = go (reads form [] []) e
  where
    go : (o : Option Text) → is_some o ≡ false → ◌≡◌ {A = Option Text} None o
    go None e = refl
    go (Some x) e = absurd (cc)
