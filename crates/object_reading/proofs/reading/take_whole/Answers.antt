use Rattle.std.proofs.Common.{Ok, Err, subst, sym}
use Rattle.mos_decoder.specs.Bytes.{HandsValue}
use Rattle.stream_commands.specs.Running.{TellsAt}
use Rattle.object_reading.specs.Progress.{TakesAll}
use Rattle.object_reading.proofs.TakingLemmas.{decoder_stopped, has_taken_all, has_taken_more, takes_fault}
use Rattle.object_reading.proofs.reading.take_whole.Goals as goal

pub message-preserved : goal.message-preserved
message-preserved c = λ bytes h.
    has_taken_more c.args.at_end bytes c.message.decoder c.ask.new.decoder c.in-Ok-Some.found c.message.table c.take_message.new.table
    (λ found k. subst (λ z. TellsAt c.args.at_end bytes found (Ok z) c.ask.new.decoder) c.in-Ok-Some.field-0-is (c.in-Ok-Some.ensures.tells bytes found k))
    (c.message.invariant bytes h) c.in-Ok.ensures

pub take_message-requires : goal.take_message-requires
take_message-requires c = subst (λ z. HandsValue (Ok z)) c.in-Ok-Some.field-0-is c.in-Ok-Some.ensures.value

pub returns-in-Err-take_message : goal.returns-in-Err-take_message
returns-in-Err-take_message c = λ bytes h.
    takes_fault c.args.at_end bytes c.message.decoder c.ask.new.decoder c.in-Ok-Some.found _ c.message.table c.take_message.new.table c.in-Err-take_message.fault
    (λ found k. subst (λ z. TellsAt c.args.at_end bytes found (Ok z) c.ask.new.decoder) c.in-Ok-Some.field-0-is (c.in-Ok-Some.ensures.tells bytes found k))
    (c.message.invariant bytes h) c.count-number.ensures c.in-Err-take_message.ensures

pub returns-in-Ok-None : goal.returns-in-Ok-None
returns-in-Ok-None c = λ bytes h.
    has_taken_all c.args.at_end bytes c.message.decoder c.ask.new.decoder c.message.table
    (λ found k. subst (λ z. TellsAt c.args.at_end bytes found (Ok z) c.ask.new.decoder) c.in-Ok-None.field-0-is (c.in-Ok-None.ensures.tells bytes found k)) (c.message.invariant bytes h)

pub returns-in-Err : goal.returns-in-Err
returns-in-Err c = λ bytes h.
    subst (λ z. TakesAll c.args.at_end bytes (Err z) c.ask.new.decoder c.message.table) (sym c.stopped_by.ensures)
    (decoder_stopped c.args.at_end bytes c.message.decoder c.ask.new.decoder c.message.table c.in-Err.fault (λ found k. c.in-Err.ensures.tells bytes found k) (c.message.invariant bytes h))
