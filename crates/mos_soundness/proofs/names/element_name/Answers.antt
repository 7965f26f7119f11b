use Rattle.mos_soundness.proofs.RawNames.{raw_some, raw_named, raw_only}
use Rattle.std.proofs.Common.{◌≤◌, ℕ, List, length, sym, subst}
use Rattle.mos_soundness.proofs.names.element_name.Goals as goal

pub behind_first-inside-requires : goal.behind_first-inside-requires
behind_first-inside-requires c = subst (λ (us : List ℕ). 1 ≤ length us) (sym c.units.ensures.value) (raw_some c.args.raw.now c.units.ensures.element)

pub returns-clause-named : goal.returns-clause-named
returns-clause-named c = raw_named c.args.raw.now c.units.result.now c.behind_first-inside.result.now c.name_count.result c.units.ensures.value c.behind_first-inside.ensures c.name_count.ensures.value c.units.ensures.element

pub returns-clause-only : goal.returns-clause-only
returns-clause-only c = raw_only c.args.raw.now c.units.result.now c.behind_first-inside.result.now c.name_count.result c.units.ensures.value c.behind_first-inside.ensures c.name_count.ensures.value
