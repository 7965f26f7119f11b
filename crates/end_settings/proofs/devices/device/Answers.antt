use Rattle.end_settings.specs.Devices.{device_of, device_with}
use Rattle.end_settings.proofs.GivesLemmas.{gives_is, gives_joined, gives_made, gives_unless}
use Rattle.end_settings.proofs.devices.device.Goals as goal

pub returns : goal.returns
unfolding device_of
returns c =
    let names = gives_joined _ _ _ _ (gives_unless c.args.before.now _ _ c.required_id.ensures) c.required_text-host.ensures in
    let ports = gives_joined _ _ _ _ (gives_is _ _ c.port-upper.ensures) (gives_is _ _ c.port-lower.ensures) in
    rw (c.device_from.ensures, c.pair_given-3.ensures, c.pair_given.ensures, c.pair_given-2.ensures, c.new_mos_id-mos_id.ensures)
    (gives_made device_with _ _ (gives_joined _ _ _ _ names ports))
