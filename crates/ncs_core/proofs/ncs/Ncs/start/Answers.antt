use Rattle.std.proofs.Common.{sym, subst, List}
use Rattle.mos_edits.specs.Entries.{Entry}
use Rattle.ncs_core.specs.Starting.{IsLoadedFront}
use Rattle.ncs_core.proofs.KnownFronts.{empty-front}
use Rattle.ncs_core.proofs.ncs.Ncs.start.Goals as goal

pub begun-requires-clause-front : goal.begun-requires-clause-front
begun-requires-clause-front g c = subst (λ (j : List Entry). IsLoadedFront (g.K.Keeper.kept c.args.keeper) j) (sym c.new.ensures) (empty-front (g.K.Keeper.kept c.args.keeper))
