use Rattle.std.proofs.Common.{◌≤◌, length}
use Rattle.mos_scanner.specs.ScannerView.{IsSound}
use Rattle.text_tests.proofs.scanner.trace_units.Given as goal

abbrev pub invariant-characters : goal.invariant-characters
invariant-characters l = (l.here ≤ length l.held) × IsSound l.scanner l.held l.here
