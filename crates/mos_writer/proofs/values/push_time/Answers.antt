use Rattle.mos_fields.specs.Values.{day_text, clock_text, millis_text, zone_text}
use Rattle.mos_writer.proofs.EncodedLemmas.{time_parts}
use Rattle.mos_writer.proofs.values.push_time.Goals as goal

pub returns : goal.returns
returns c =
    let t = c.args.time.now in
    time_parts _ _ _ _ (day_text t.year t.month t.day) (clock_text t.hour t.minute t.second) (millis_text t.millis) (zone_text t.zone)
    c.in_ok-push_day_and_time.ensures c.in_ok-push_millis.ensures c.in_ok-push_zone.ensures
