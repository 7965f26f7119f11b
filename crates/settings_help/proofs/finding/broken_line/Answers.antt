use Rattle.end_settings.proofs.TableLemmas.{table_is}
use Rattle.settings_help.proofs.finding.broken_line.Goals as goal

pub returns-in-Ok : goal.returns-in-Ok
returns-in-Ok c = (_, table_is _ _ c.in-Ok.ensures.ok.0 c.in-Ok.ensures.ok.1)
