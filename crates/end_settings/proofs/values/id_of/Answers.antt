use Rattle.std.proofs.Common.{◌≡◌, ◌∙◌}
use Rattle.std.specs.Str.{chars}
use Rattle.mos_fields.specs.Faults.{id_fault}
use Rattle.end_settings.proofs.values.id_of.Goals as goal

pub returns : goal.returns
returns c =
    let same : c.deref.result.now ≡ chars c.args.text.now = c.deref.ensures.value ∙ c.in_ok-chars.ensures in
    rw (← same) (c.faultless.ensures (id_fault c.deref.result.now) c.deref.result.now c.try_new.ensures.fault c.try_new.ensures.value)
