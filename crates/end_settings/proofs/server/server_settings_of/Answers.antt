use Rattle.end_settings.specs.Ends.{server_of, server_with}
use Rattle.end_settings.proofs.GivesLemmas.{gives_is, gives_joined3, gives_made}
use Rattle.end_settings.proofs.server.server_settings_of.Goals as goal

pub returns : goal.returns
unfolding server_of
returns c =
    let names = gives_joined3 _ _ _ _ _ _ c.required_id-ncs_id.ensures c.required_text-log.ensures c.device_list-devices.ensures in
    let ports = gives_joined3 _ _ _ _ _ _ (gives_is _ _ c.port-upper.ensures) (gives_is _ _ c.port-lower.ensures) (gives_is _ _ c.port-editor.ensures) in
    rw (c.server_from.ensures, c.triple_given-3.ensures, c.triple_given.ensures, c.triple_given-2.ensures)
    (gives_made server_with _ _ (gives_joined3 _ _ _ _ _ _ names ports (gives_is _ _ c.budget-budget.ensures)))
