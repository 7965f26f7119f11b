use Rattle.toml.specs.View.{table_view}
use Rattle.end_settings.specs.declared.server.ServerSettings.{ServerSettings}
use Rattle.end_settings.specs.Devices.{AreDevices}
use Rattle.end_settings.specs.Ends.{server_of}
use Rattle.end_settings.proofs.DeviceLemmas.{gives_if, server_devices}
use Rattle.end_settings.proofs.server.read_server_settings.Goals as goal

pub returns-clause-devices : goal.returns-clause-devices
returns-clause-devices c =
    gives_if (λ (s : ServerSettings). AreDevices s.devices) (server_of (table_view c.in_ok-table.table)) c.server_settings_of.result c.server_settings_of.ensures (server_devices (table_view c.in_ok-table.table))
