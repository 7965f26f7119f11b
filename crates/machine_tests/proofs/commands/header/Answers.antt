-- A header without raw elements is sound.
use Rattle.std.proofs.Common.{◌≡◌, List, [], Some, None, sym, subst}
use Rattle.mos_fields.specs.Characters.{Text}
use Rattle.mos_tables.specs.declared.table.Table.TheVariants as tables
use Rattle.mos_values.specs.declared.header.Header.{Header}
use Rattle.mos_values.specs.Parts.{must, maybe, raws}
use Rattle.mos_values.specs.Sound.{AllFit}
use Rattle.mos_values.specs.Views.{header_events}
use Rattle.machine_tests.proofs.commands.header.Goals as goal

abbrev plain : Text → Text → Text → List Text → List Text → Header
plain ro slug channel metadata others = record { ro = ro; slug = slug; channel = Some channel; ed_start = None; ed_dur = None; trigger = None; macro_in = None; macro_out = None; metadata = metadata; others = others }

plain-header : (ro slug channel : Text) (metadata others : List Text) → metadata ≡ [] → others ≡ [] → AllFit tables.Body (header_events (plain ro slug channel metadata others))
unfolding header_events must maybe raws
plain-header ro slug channel metadata others m o =
    subst (λ (xs : List Text). AllFit tables.Body (header_events (plain ro slug channel xs others))) (sym m)
    (subst (λ (xs : List Text). AllFit tables.Body (header_events (plain ro slug channel [] xs))) (sym o) (tt, (tt, (tt, tt))))

pub returns : goal.returns
returns c = plain-header c.in_ok-ro.ro c.in_ok-slug.slug c.in_ok-channel.channel c.new.result c.new-2.result c.new.ensures c.new-2.ensures
