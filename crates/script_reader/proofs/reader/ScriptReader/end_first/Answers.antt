use Rattle.std.proofs.Common.{subst, Err, ap, ◌∙◌}
use Rattle.std.proofs.Common.{◌≡◌}
use Rattle.std.specs.Prelude.{Some}
use Rattle.world_scripts.specs.Scripts.{devices_in}
use Rattle.script_reader.specs.Readers.{IsReader, IsFirstLine}
use Rattle.script_reader.proofs.ReaderLemmas.{first_refused, first_taken}
use Rattle.script_reader.proofs.reader.ScriptReader.end_first.Goals as goal

pub returns-in-Err : goal.returns-in-Err
returns-in-Err c = λ before h.
    let i = subst IsReader c.self.view_is c.self.invariant in
    first_refused c.args.self.now c.args.self.now before c.in-Err.fault h i.no_end c.requires (subst (λ z. IsFirstLine z (Err c.in-Err.fault)) (c.deref.ensures.value ∙ ap (λ z. z.line) c.self.view_is) c.in-Err.ensures)

pub returns-in-Ok : goal.returns-in-Ok
returns-in-Ok c = λ before h.
    let i = subst IsReader c.self.view_is c.self.invariant in
    let line = c.deref.ensures.value ∙ ap (λ z. z.line) c.self.view_is in
    let e = c.in-Ok.ensures in
    first_taken c.args.self.now before _ _ c.in-Ok.devices h i.no_end c.requires i.begun (subst (λ z. devices_in z ≡ Some c.in-Ok.devices) line e.0) c.clear.ensures.items (ap (λ z. z.events) c.self.view_is)
