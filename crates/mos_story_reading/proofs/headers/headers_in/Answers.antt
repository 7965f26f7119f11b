use Rattle.std.proofs.Common.{[], sym}
use Rattle.mos_tables.specs.declared.table.Table.TheVariants as tables
use Rattle.mos_story_reading.proofs.Lists.{headers_hold, headers_read}
use Rattle.mos_story_reading.proofs.headers.headers_in.Goals as goal

pub read_headers-requires : goal.read_headers-requires
read_headers-requires c = headers_hold tables.RoListAll [] _ c.requires

pub returns : goal.returns
returns c = sym (headers_read tables.RoListAll [] _ _ c.requires c.in_ok-headers.ensures)
