use Rattle.std.proofs.Common.{codes, ap}
use Rattle.std.specs.Fmt.{decimal}
use Rattle.std.proofs.Common.{refl}
use Rattle.mos_fields.specs.declared.field.Field.TheVariants as fields
use Rattle.mos_values.specs.Parts.{must}
use Rattle.mos_writer.proofs.EncodedLemmas.{element_written}
use Rattle.mos_object_msgs.proofs.messages.write_request_all.Goals as goal

pub returns : goal.returns
returns c = element_written (codes "mosReqAll") _ _ c.args.out.now.items _ _ _ refl (ap (λ n. must fields.Pause (decimal n)) c.count.ensures.value) c.in_ok-push_start.ensures c.in_ok-write_number.ensures c.in_ok-push_end.ensures
