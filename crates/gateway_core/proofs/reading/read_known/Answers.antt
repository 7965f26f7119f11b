use Rattle.std.proofs.Common.{◌≡◌, IsSome, sym, ap, ◌∙◌, subst}
use Rattle.mos_machines.specs.Tables.{put_row}
use Rattle.order_table.specs.Rows.{find_row}
use Rattle.order_table.proofs.Looked.{put-put}
use Rattle.gateway_core.specs.Parts.{decks_of}
use Rattle.gateway_core.specs.Reads.{entry_at, kept, known_result, acked}
use Rattle.gateway_core.proofs.TableSteps.{look-some, some-put, in-found, put-same, on-ok, on-err, if-ok-is}
use Rattle.gateway_core.proofs.reading.read_known.Goals as goal

pub exchange-requires : goal.exchange-requires
exchange-requires c = in-found c.args.ro.now c.args.orders.now c.requires

pub read_in_step-answer-requires : goal.read_in_step-answer-requires
read_in_step-answer-requires c = ap (λ k. k.phase) (sym (look-some c.args.ro.now c.args.orders.now c.exchange.new.value c.exchange.ensures.value)) ∙ c.requires

pub exchange-requires-2 : goal.exchange-requires-2
exchange-requires-2 c = subst (λ rows. IsSome (find_row c.args.ro.now rows)) (sym c.exchange.ensures.table) (some-put c.args.ro.now c.unknown-known.result c.args.orders.now)

pub returns-clause-rows : goal.returns-clause-rows
returns-clause-rows c =
    let ro = c.args.ro.now in
    let rows = c.args.orders.now in
    let e = entry_at ro c.args.change in
    let decks = decks_of c.args.decks in
    let v = c.exchange.new.value in
    let is = look-some ro rows v c.exchange.ensures.value in
    on-ok c.read_in_step-answer.result c.read_in_step-answer.ensures.rows (λ h.
    c.exchange-2.ensures.table
    ∙ (ap (λ k. put_row ro k c.exchange.new.self) h
    ∙ (ap (put_row ro (kept (known_result v decks e))) c.exchange.ensures.table
    ∙ (put-put ro c.unknown-known.result (kept (known_result v decks e)) rows
    ∙ ap (λ k. put_row ro (kept (known_result k decks e)) rows) (sym is)))))

pub returns-clause-answer : goal.returns-clause-answer
returns-clause-answer c =
    let ro = c.args.ro.now in
    let is = look-some ro c.args.orders.now c.exchange.new.value c.exchange.ensures.value in
    if-ok-is c.read_in_step-answer.result _ _ (ap (λ k. acked ro (known_result k (decks_of c.args.decks) (entry_at ro c.args.change)).status) (sym is)) c.read_in_step-answer.ensures.answer

pub returns-clause-err : goal.returns-clause-err
returns-clause-err c =
    let ro = c.args.ro.now in
    let rows = c.args.orders.now in
    let v = c.exchange.new.value in
    on-err c.read_in_step-answer.result c.read_in_step-answer.ensures.err (λ h.
    c.exchange-2.ensures.table
    ∙ (ap (λ k. put_row ro k c.exchange.new.self) h
    ∙ (ap (put_row ro v) c.exchange.ensures.table
    ∙ (put-put ro c.unknown-known.result v rows ∙ put-same ro v rows c.has_ascending_ids.ensures c.exchange.ensures.value))))
