use Rattle.std.proofs.Common.{◌&&◌, sym, ap, ◌∙◌}
use Rattle.mos_fields.specs.Characters.{chars_of}
use Rattle.mos_fields.specs.Forms.{is_white}
use Rattle.mos_scanner.proofs.EndLemmas.{white_chars}
use Rattle.mos_scanner.proofs.chars.is_mark_behind_white.Goals as goal

pub returns-then-is_mark : goal.returns-then-is_mark
returns-then-is_mark c =
    c.is_white.ensures ∙ (sym (white_chars c.args.raw.now) ∙ sym (ap (λ b. b && is_white (chars_of c.args.raw.now)) (sym c.is_mark.ensures ∙ c.if-is_mark.true)))
