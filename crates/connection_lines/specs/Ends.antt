-- Which ends are to be warned of.
use Rattle.std.specs.Prelude.{Bool, true, false}
use Rattle.port_session.specs.declared.end.End.{End}
use Rattle.port_session.specs.declared.end.End.TheVariants.{Closed}

-- whether a line that tells such an end warns
abbrev pub end_warns : End → Bool
end_warns Closed = false
end_warns end = true
