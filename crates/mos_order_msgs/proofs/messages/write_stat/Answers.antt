use Rattle.std.proofs.Common.{◌≡◌, codes, refl, ap, ◌∙◌}
use Rattle.mos_fields.specs.Values.{level_text}
use Rattle.mos_fields.specs.declared.field.Field.TheVariants as fields
use Rattle.mos_writer.proofs.EncodedLemmas.{element_with_written, simple_level, started}
use Rattle.mos_order_msgs.proofs.messages.write_stat.Goals as goal

pub returns : goal.returns
returns c = element_with_written (codes "roElementStat") (level_text c.args.stat.now.level) fields.ElementKind _ _ c.args.out.now.items _ _ _ refl (simple_level c.args.stat.now.level) c.element_stat_pieces.ensures
    (started _ _ (codes "roElementStat") _ _ _ _ c.name.ensures c.level_word.ensures c.in_ok-push_start_with.ensures) c.in_ok-write_pieces.ensures c.in_ok-push_end.ensures
