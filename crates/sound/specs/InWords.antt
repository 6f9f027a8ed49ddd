-- What judges a case in the words, as its functions say it.
use Rattle.std.specs.Prelude.{ℕ, ◌+◌, Bool, List, get_or}
use Rattle.laws.specs.First.{row}
use Rattle.format.specs.Words.{head_in, entry_in, segment_in}
use Rattle.metanet.specs.Step.{on_ramp}
use Rattle.metanet.specs.Sound.{totals_bad}

-- whether segment i of the network in these words may be metered
abbrev pub on_ramp_in : List ℕ → ℕ → Bool
on_ramp_in net i = on_ramp (head_in net) (entry_in net) (segment_in net) i

-- 12, of the totals from word e on and of vehicles, the mv in segments and queues
abbrev pub totals_number_in : List ℕ → ℕ → ℕ → ℕ
totals_number_in words e vehicles =
    row (totals_bad vehicles (get_or words e 0) (get_or words (e + 1) 0) (get_or words (e + 2) 0) (get_or words (e + 3) 0)) 12 0
