use Rattle.std.proofs.Common.{◌≡◌, ◌++◌, refl, sym, ap}
use Rattle.mos_values.specs.Views.{mach_info_events}
use Rattle.mos_writer.proofs.EncodedLemmas.{three_written, joined_events}
use Rattle.mos_object_msgs.proofs.machines.write_mach_info.Goals as goal

pub returns : goal.returns
unfolding mach_info_events
returns c = three_written _ _ _ (mach_info_events c.args.info.now) c.args.out.now.items _ _ _ (joined_events (joined_events (sym c.mach_head_pieces.ensures) refl) (sym c.mach_rest_pieces.ensures)) c.in_ok-write_pieces.ensures c.in_ok-write_supported.ensures c.in_ok-write_pieces-2.ensures
