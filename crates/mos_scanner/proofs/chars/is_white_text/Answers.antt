use Rattle.std.proofs.Common.{sym, ◌∙◌}
use Rattle.mos_scanner.proofs.EndLemmas.{white_chars}
use Rattle.mos_scanner.proofs.chars.is_white_text.Goals as goal

pub returns : goal.returns
returns c = c.is_white.ensures ∙ sym (white_chars c.args.raw.now)
