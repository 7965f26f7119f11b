-- The table of a text, in UTF-8 or not.
use Rattle.std.proofs.Common.{◌≡◌, ℕ, Bool, true, false, cond, List, Option, None, refl}
use Rattle.std.specs.Str.{IsUtf8, is_utf8}
use Rattle.std.proofs.lemmas.Str.{IsUtf8-from_is_utf8, is_utf8-from_IsUtf8}
use Rattle.toml.specs.Data.{Members}
use Rattle.toml.specs.Parse.{parse_document}
use Rattle.end_settings.specs.Ends.{table_in}

pub table_is : (text : List ℕ) (o : Option Members) → IsUtf8 text → parse_document text ≡ o → table_in text ≡ o
table_is text o u e = rw (is_utf8-from_IsUtf8 text u) e

refused_at : (text : List ℕ) (b : Bool) → is_utf8 text ≡ b → (IsUtf8 text → parse_document text ≡ None) → cond b (parse_document text) None ≡ None
refused_at text true e h = h (IsUtf8-from_is_utf8 text e)
refused_at text false e h = refl

pub table_refused : (text : List ℕ) → (IsUtf8 text → parse_document text ≡ None) → table_in text ≡ None
table_refused text h = refused_at text (is_utf8 text) refl h
