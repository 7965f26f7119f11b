use Rattle.std.proofs.Common.{◌≡◌, codes, refl, ap, ◌∙◌}
use Rattle.mos_fields.specs.Values.{operation_text}
use Rattle.mos_fields.specs.declared.field.Field.TheVariants as fields
use Rattle.mos_values.specs.MessageViews.{operation_of_action}
use Rattle.mos_writer.proofs.EncodedLemmas.{element_with_written, simple_operation, started}
use Rattle.mos_order_msgs.proofs.messages.write_element_action.Goals as goal

pub returns : goal.returns
returns c = element_with_written (codes "roElementAction") (operation_text (operation_of_action c.args.action.now)) fields.OperationKind _ _ c.args.out.now.items _ _ _ refl (simple_operation (operation_of_action c.args.action.now)) refl
    (started _ _ (codes "roElementAction") _ _ _ _ c.name.ensures (c.operation_word.ensures ∙ ap operation_text c.operation_of.ensures) c.in_ok-push_start_with.ensures) c.in_ok-write_action_inside.ensures c.in_ok-push_end.ensures
