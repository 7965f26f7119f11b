use Rattle.std.proofs.Common.{ap, sym, subst, ◌∙◌, length, arith}
use Rattle.world_scripts.specs.Scripts.{RefusedAt}
use Rattle.script_reader.specs.Readers.{IsReader}
use Rattle.script_reader.proofs.ReaderLemmas.{held_refused}
use Rattle.script_reader.proofs.reader.ScriptReader.hold.Goals as goal

pub returns-then-bytes-len : goal.returns-then-bytes-len
returns-then-bytes-len c = λ before h rest.
    let i = subst IsReader c.self.view_is c.self.invariant in
    let t = c.if-bytes-len.true in
    let l = c.len.ensures in
    let k = ap (λ z. length z.line) c.self.view_is in
    held_refused c.args.self.now before c.args.bytes.now h i.no_end c.requires (omega (arith, t, l, k)) rest ∙ ap RefusedAt (sym c.number.ensures)
