-- The marked case of the network file, computed.
use mathlib.Core.Path.{◌≡◌, refl}
use Rattle.laws.specs.First.{row, first, first_of, any_of, some_below}
use Rattle.laws.specs.Lists.{parts}
use Rattle.laws.specs.BigEndian.{u32_bytes}
use Rattle.format.specs.Network.{head_bad, rising, curve_number, segment_bad, chain, followers_bad, record_rows, has_before, origin_number, segment_number, rows_number}
use Rattle.format.proofs.Accepted.{network_number}
use Rattle.format.specs.File.{record_size, following_of, head_number, curves_number, record_number, records_number, file_number}
use Rattle.format.specs.Written.{head_bytes, record_bytes, file_of}
use Rattle.format.specs.Marked.{one_segment, SpeedLimitCase}
use Rattle.format.proofs.Reading.{file-accepted_of}

within : network_number (one_segment 18 100000) ≡ 0
unfolding one_segment rows_number head_bad curve_number rising segment_number segment_bad chain followers_bad record_rows has_before origin_number row first first_of any_of some_below
within = refl

too_fast_lem : file_number (file_of (one_segment 18 100001)) ≡ 8
unfolding one_segment file_of head_bytes u32_bytes record_bytes parts file_number head_number head_bad record_size curves_number curve_number rising records_number record_number following_of chain segment_bad followers_bad record_rows row first first_of any_of
too_fast_lem = refl

pub speed_limit : SpeedLimitCase
speed_limit = record { accepted = file-accepted_of _ within; refused = too_fast_lem }
