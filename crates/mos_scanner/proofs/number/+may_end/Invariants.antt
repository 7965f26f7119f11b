use Rattle.mos_scanner.proofs.number.+may_end.Given as goal

abbrev pub decreases-may_end : goal.decreases-may_end
decreases-may_end l = l.more
