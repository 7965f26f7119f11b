-- The canonical text of a text of a form, where it is known whether a record beside has this key.
use Rattle.std.specs.Prelude.{◌≡◌, Bool, true, false, List, [], length, Option, Some, nat_le, ◌&&◌, not}
use Rattle.mos_fields.specs.Characters.{Text}
use Rattle.mos_fields.specs.declared.form.Form.{Form}
use Rattle.mos_fields.specs.declared.form.Form.TheVariants as forms
use Rattle.mos_fields.specs.Forms.{among, only_if, at_most, reads}

-- 1 to 128 characters
abbrev pub is_id : Text → Bool
is_id x = nat_le 1 (length x) && at_most 128 x

-- a text that is kept as it is
abbrev pub is_kept : Form → Bool
is_kept forms.Id = true
is_kept forms.Key = true
is_kept forms.OptId = true
is_kept forms.Slug = true
is_kept forms.Text = true
is_kept form = false

-- whether a record beside has the key matters to keys alone
unfoldable pub reads_beside : Form → Bool → Text → Option Text
reads_beside forms.Id is_taken x = only_if (is_id x) x
reads_beside forms.Key is_taken x = only_if (is_id x && not is_taken) x
reads_beside forms.OptId is_taken x = only_if (at_most 128 x) x
reads_beside forms.Slug is_taken x = only_if (at_most 1024 x) x
reads_beside forms.Text is_taken x = Some x
reads_beside form is_taken x = reads form [] x

-- whether the text is a key that a record beside has
abbrev pub taken_for : Form → Text → List Text → Bool
taken_for forms.Key x taken = among x taken
taken_for form x taken = false

-- Beside records with keys a text is read as by the answer whether it is one of them.
abbrev pub TextsReadBeside : Type 0
TextsReadBeside = (form : Form) (taken : List Text) (x : Text) → reads form taken x ≡ reads_beside form (taken_for form x taken) x
