-- What the functions inside rest on.
use Rattle.std.specs.Prelude.{ℕ, ◌+◌, ◌*◌, List, ◌++◌, get_or, drop, replicate}
use Rattle.std.specs.Float.{nan}
use Rattle.laws.specs.Lists.{parts}
use Rattle.format.specs.File.{segment_on, network_of}
use Rattle.format.specs.Words.{kept_words}
use Rattle.metanet.specs.Case.{open_state}
use Rattle.metanet.proofs.InWords.{state_words}
use Rattle.book.specs.Arrangement.{start_marks}

-- ---- what Start writes, part by part

-- the 16 words of a state with a dark sign and an open ramp, flows 0
unfoldable pub open_words : ℕ → ℕ → ℕ → List ℕ
unfolding state_words
open_words mv queue most = state_words (open_state mv queue most nan)

abbrev pub open_words_on : List ℕ → List ℕ → List ℕ → ℕ → List ℕ
open_words_on b mvs queues i = open_words (get_or mvs i 0) (get_or queues i 0) (segment_on b i).most

-- the network, the 16 words of run count, marks and arrangement number, the states and 8 words of totals
unfoldable pub begin_words : List ℕ → List ℕ → List ℕ → ℕ → List ℕ → List ℕ
begin_words b mvs queues n words =
    (kept_words (network_of b) ++ start_marks) ++ (parts (open_words_on b mvs queues) n ++ (replicate 8 0 ++ drop (2584 + 16 * n) words))
