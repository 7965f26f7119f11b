use Rattle.std.proofs.Common.{subst, ap, sym, ◌∙◌, ◌≡◌, ◌<◌, length, vec_len, arith}
use Rattle.world_scripts.specs.Scripts.{Plays, RefusedAt}
use Rattle.script_reader.specs.Readers.{IsReader}
use Rattle.script_reader.proofs.ReaderLemmas.{ended_none, ended_whole, ended_inside, empty_line, full_line}
use Rattle.script_reader.proofs.reader.ScriptReader.end.Goals as goal

pub returns-in-None-clause-read : goal.returns-in-None-clause-read
returns-in-None-clause-read c = λ bytes h.
    let i = subst IsReader c.self.view_is c.self.invariant in
    ended_none c.args.self bytes h i.no_end (ap (λ z. z.devices) (sym c.self.view_is) ∙ c.in-None.is)

pub returns-then-is_empty-clause-read : goal.returns-then-is_empty-clause-read
returns-then-is_empty-clause-read c = λ bytes h.
    let i = subst IsReader c.self.view_is c.self.invariant in
    let v = sym c.self.view_is in
    let ok = c.self.inside.line.ok in
    let len : vec_len c.self.inside.line ≡ length c.self.inside.line.items = omega (arith, ok) in
    ended_whole c.args.self bytes h i.no_end c.in-Some.devices (ap (λ z. z.devices) v ∙ c.in-Some.is) (ap (λ z. z.line) v ∙ empty_line c.self.inside.line.items _ len c.if-is_empty.ensures) ∙ ap (λ z. Plays c.in-Some.devices z.events) (sym c.self.view_is)

pub returns-else-is_empty-clause-read : goal.returns-else-is_empty-clause-read
returns-else-is_empty-clause-read c = λ bytes h.
    let i = subst IsReader c.self.view_is c.self.invariant in
    let v = sym c.self.view_is in
    let ok = c.self.inside.line.ok in
    let len : vec_len c.self.inside.line ≡ length c.self.inside.line.items = omega (arith, ok) in
    ended_inside c.args.self bytes h i.no_end c.in-Some.devices (ap (λ z. z.devices) v ∙ c.in-Some.is) (subst (λ z. 0 < length z.line) c.self.view_is (full_line c.self.inside.line.items _ len c.if-is_empty.ensures)) ∙ ap RefusedAt (sym c.number.ensures)
