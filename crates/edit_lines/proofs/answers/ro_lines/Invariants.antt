use Rattle.std.proofs.Common.{◌≡◌, ◌++◌, drop}
use Rattle.std.specs.List.{flat_map}
use Rattle.edit_lines.specs.Answers.{ro_line}
use Rattle.edit_lines.proofs.answers.ro_lines.Given as goal

abbrev pub invariant-headers : goal.invariant-headers
invariant-headers l = l.out.items ++ flat_map ro_line (drop l.header-index l.headers) ≡ flat_map ro_line l.headers
