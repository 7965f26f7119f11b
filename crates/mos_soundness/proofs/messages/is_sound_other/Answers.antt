use Rattle.std.proofs.lemmas.Bool.Decides.{Decides-eqb}
use Rattle.std.proofs.lemmas.Slice.Eq.{slice_eq-Decides}
use Rattle.mos_soundness.proofs.Taken.{other_name, no_name}
use Rattle.mos_soundness.proofs.messages.is_sound_other.Goals as goal

pub returns-then-eq : goal.returns-then-eq
returns-then-eq c =
    let d = slice_eq-Decides Decides-eqb c.units.result.now c.element_name-written.result.now c.eq.result c.eq.ensures in
    other_name c.args.name.now c.element_name-written.result.now c.args.raw.now c.units.result.now c.eq.result c.is_taken.result c.units.ensures.value c.units.ensures.named d c.if-eq.true c.element_name-written.ensures.named c.is_taken.ensures

pub returns-else-eq : goal.returns-else-eq
returns-else-eq c =
    let d = slice_eq-Decides Decides-eqb c.units.result.now c.element_name-written.result.now c.eq.result c.eq.ensures in
    no_name c.args.name.now c.element_name-written.result.now c.args.raw.now c.units.result.now c.eq.result c.units.ensures.value c.units.ensures.named d c.if-eq.false c.element_name-written.ensures.only
