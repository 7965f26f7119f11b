-- Texts that are identifiers.
use Rattle.mos_fields.specs.Characters.{Text}
use Rattle.mos_fields.specs.declared.form.Form.TheVariants as forms
use Rattle.mos_cursor.specs.Accepted.{LeafFits}
use Rattle.mos_cursor.specs.Slots.{leaf_of}
use Rattle.mos_cursor.specs.declared.slot.LeafText.{LeafText}

abbrev pub text_of : LeafText → Text
text_of l = l.text

-- an identifier that may be empty
abbrev pub HoldsId : LeafText → Type 0
HoldsId l = LeafFits forms.OptId (leaf_of l)
