use Rattle.std.proofs.Common.{◌≤◌, ◌<◌, length, arith}
use Rattle.std.proofs.lemmas.Bool.Decides.{nat_tests}
use Rattle.mos_codec.specs.Codec.{encoding_units}
use Rattle.mos_codec.proofs.ByteLemmas.{long_units, short_units}
use Rattle.mos_codec.proofs.encoding.encoded.Goals as goal

pub is_encoded_by-requires-clause-short : goal.is_encoded_by-requires-clause-short
is_encoded_by-requires-clause-short c =
    let n = c.len.ensures in
    let t = c.if-len-gt-MOST_BYTES.false in
    let l : length c.in-Ok.bytes.items ≤ 16777216 = grind (arith, nat_tests) in
    short_units c.in-Ok.bytes.items (encoding_units c.args.e.now) c.in-Ok.ensures l

pub returns-then-len-gt-MOST_BYTES-clause-too_long : goal.returns-then-len-gt-MOST_BYTES-clause-too_long
returns-then-len-gt-MOST_BYTES-clause-too_long c _ =
    let n = c.len.ensures in
    let t = c.if-len-gt-MOST_BYTES.true in
    let l : 16777216 < length c.in-Ok.bytes.items = grind (arith, nat_tests) in
    long_units c.in-Ok.bytes.items (encoding_units c.args.e.now) c.in-Ok.ensures l
