use Rattle.mos_edits.proofs.Journals.{refused_fault, refused_over, accepted_within}
use Rattle.mos_edits.proofs.journal.refusals_have_their_cause.Goals as goal

pub returns : goal.returns
returns c = record { faulty = refused_fault; full = refused_over; accepted = accepted_within }
