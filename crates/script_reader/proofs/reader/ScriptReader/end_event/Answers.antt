use Rattle.std.proofs.Common.{subst, Err, Ok, ap, ◌∙◌, ◌++◌, ◌∷◌, []}
use Rattle.world_scripts.specs.WorldEvents.{event_of, events_of}
use Rattle.script_reader.specs.Readers.{IsReader, IsEventLine}
use Rattle.script_reader.proofs.ReaderLemmas.{event_refused, event_taken, events_one_more}
use Rattle.script_reader.proofs.reader.ScriptReader.end_event.Goals as goal

pub returns-in-Err : goal.returns-in-Err
returns-in-Err c = λ before h.
    let i = subst IsReader c.self.view_is c.self.invariant in
    let line = c.deref.ensures.value ∙ ap (λ z. z.line) c.self.view_is in
    event_refused c.args.self.now c.args.self.now before c.number.result c.in-Err.fault h i.no_end c.requires c.number.ensures (subst (λ z. IsEventLine z c.number.result (Err c.in-Err.fault)) line c.in-Err.ensures.read)

pub returns-in-Ok-push : goal.returns-in-Ok-push
returns-in-Ok-push c = λ before h.
    let i = subst IsReader c.self.view_is c.self.invariant in
    let line = c.deref.ensures.value ∙ ap (λ z. z.line) c.self.view_is in
    let events = ap events_of c.in-Ok-push.ensures.ok ∙ (events_one_more c.self.inside.events c.in-Ok.event ∙ ap (λ z. z.events ++ event_of c.in-Ok.event ∷ []) c.self.view_is) in
    event_taken c.args.self.now before _ _ _ c.number.result c.in-Ok.event h i.no_end c.requires c.number.ensures (subst (λ z. IsEventLine z c.number.result (Ok c.in-Ok.event)) line c.in-Ok.ensures.read) c.clear.ensures.items (ap (λ z. z.devices) c.self.view_is) events
