use Rattle.std.proofs.Common.{◌≡◌, ◌<◌, ◌^◌, ◌++◌, ◌∙◌, refl, ap, subst, sym}
use Rattle.std.proofs.lemmas.List.{append-nil}
use Rattle.mos_text.specs.declared.fault.TextFault.TheVariants.{NoMemory as out_of_memory}
use Rattle.mos_text.specs.Reading.{without_memory}
use Rattle.mos_text.proofs.ReadingLemmas.{fault_behind, gained_behind, place_without}
use Rattle.mos_text.proofs.reader.pass.Goals as goal

pub read-requires-clause-place : goal.read-requires-clause-place
read-requires-clause-place c = subst (λ n. n < 18446744073709551616) (sym (place_without c.args.reading c.args.piece.now)) c.requires.place

pub returns-clause-fault : goal.returns-clause-fault
returns-clause-fault c = ap (λ q. q.fault) c.in-Ok.ensures.after ∙ fault_behind (without_memory c.args.reading) c.args.piece.now out_of_memory refl

pub returns-clause-chars : goal.returns-clause-chars
returns-clause-chars c = c.in-Ok.ensures.chars ∙ (ap (λ x. c.args.out.now.items ++ x) (gained_behind (without_memory c.args.reading) c.args.piece.now out_of_memory refl) ∙ append-nil c.args.out.now.items)
