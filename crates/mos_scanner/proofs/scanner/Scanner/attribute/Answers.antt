use Rattle.std.proofs.Common.{ap, ◌∙◌}
use Rattle.mos_fields.specs.Characters.{Text, chars_of}
use Rattle.mos_scanner.specs.ScannerView.{given_name}
use Rattle.mos_tables.specs.Events.{Attribute}
use Rattle.mos_scanner.proofs.PartLemmas.{name_chars, name_text}
use Rattle.mos_scanner.proofs.scanner.Scanner.attribute.Goals as goal

pub from_units-requires : goal.from_units-requires
from_units-requires c = name_text (given_name c.args.self.now c.args.held.now) c.requires.valued.given.name.name

pub returns : goal.returns
returns c =
    let with_name : Text → Attribute = λ n. record { name = n; value = c.in_ok-value.value } in
    let with_value : Text → Attribute = λ v. record { name = (given_name c.args.self.now c.args.held.now); value = v } in
    c.new.ensures ∙ (ap with_name (c.in_ok-name.ensures ∙ name_chars (given_name c.args.self.now c.args.held.now) c.requires.valued.given.name.name) ∙ ap with_value (c.in_ok-value.ensures ∙ ap chars_of c.resolved_units.ensures))
