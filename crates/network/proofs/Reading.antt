-- What the proofs of reading a file need: its rows, the part that is a curve, the part that is a record.
use Rattle.std.proofs.lemmas.List.{drop_min, take_all}
use Rattle.laws.proofs.Lists.{span, rest_is}
use Rattle.laws.proofs.Refused.{number_above}
use Rattle.format.proofs.CurveCall.{curve_below, curve_ends, curve_bytes_none, curve_bytes_some}
use Rattle.format.proofs.File.{segment_part_lem}
use Rattle.network.proofs.NoneBefore.{followers_in}

pub ruleset rows = (number_above, followers_in)

pub ruleset curve_part = (span, curve_below, curve_ends, curve_bytes_none, curve_bytes_some)

pub ruleset record_part = (span, rest_is, drop_min, take_all, segment_part_lem)
