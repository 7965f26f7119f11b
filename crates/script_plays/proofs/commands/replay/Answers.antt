use Rattle.std.proofs.Common.{◌≡◌, ℕ, List, Option, Err, inl, inr, refl, sym, ap, subst}
use Rattle.script_reader.specs.Reading.{IsFault, IsScriptRead}
use Rattle.script_reader.specs.declared.fault.ScriptFault.{ScriptFault}
use Rattle.world_scripts.specs.WorldEvents.{events_of}
use Rattle.script_plays.specs.Played.{refused_line}
use Rattle.script_plays.specs.declared.commands.Ending.{Ending}
use Rattle.script_plays.proofs.commands.replay.Goals as goal

pub returns-in-Ok-clause-broken_off : goal.returns-in-Ok-clause-broken_off
returns-in-Ok-clause-broken_off g c = λ w.
    let p = c.in-Err.ensures.part (ap (λ (e : Ending). Err e) w) in
    record {
      text = p.0;
      text_is = inl (c.in-Ok.script.devices, events_of c.as_slice.result.now, subst (λ es. IsScriptRead (g.S.Source.left c.args.source.now) (g.S.Source.left c.read_script.new.source) c.in-Ok.script.devices (events_of es)) (sym c.as_slice.ensures) c.in-Ok.ensures.read, p.1);
      writes_part = p.2;
    }

pub returns-in-Err-Refused-clause-broken_off : goal.returns-in-Err-Refused-clause-broken_off
returns-in-Err-Refused-clause-broken_off g c = λ w.
    let r = subst (λ (f : ScriptFault). IsFault (g.S.Source.left c.args.source.now) (g.S.Source.left c.read_script.new.source) (g.S.Source.faults c.args.source.now) (g.S.Source.faults c.read_script.new.source) f) c.in-Err-Refused.field-0-is c.in-Err-Refused.ensures.fault in
    record {
      text = refused_line c.in-Err-Refused.line;
      text_is = inr (c.in-Err-Refused.line, record { bytes = r.bytes; refused = r.reads }, refl);
      writes_part = c.in-Err-write_refusal.ensures.part (ap (λ (e : Ending). Err e) w);
    }
