-- Where a study stands in the lent words and speeds (docs/ARRANGEMENT.md): the network in words 0..2,559, the run count, a mark for
-- each slot, the arrangement number, and the cases 0 (live) and 1..6 (slots).
use Rattle.std.specs.Prelude.{ℕ, ◌+◌, ◌*◌, Bool, ◌&&◌, List, [], ◌∷◌, ◌++◌, leb, eqb, get_or, replicate, Float}
use Rattle.format.specs.Network.{Network}
use Rattle.format.specs.Words.{network_words, head_in, network_in}
use Rattle.metanet.specs.Case.{Case}
use Rattle.metanet.specs.Words.{net_of, case_in}

-- ---- places

-- slots 1..6; case 0 is the live one
abbrev pub slots : ℕ
slots = 6

-- the run count's word, the first after the network's; then the marks of slots 1..6
abbrev pub run_word : ℕ
run_word = network_words

abbrev pub mark_word : ℕ → ℕ
mark_word k = run_word + k

-- the words of run count and marks, with some that are free, and last the arrangement number
abbrev pub marks_length : ℕ
marks_length = 16

-- the number of this arrangement: another one is another number
abbrev pub arrangement : ℕ
arrangement = 4

-- those words at the start of a study: run count 0, slots empty, the free words 0
unfoldable pub start_marks : List ℕ
start_marks = replicate 15 0 ++ (arrangement ∷ [])

-- a case of n segments: its words, and as case k its first word and first speed
abbrev pub case_length : ℕ → ℕ
case_length n = 16 * n + 8

abbrev pub case_word : ℕ → ℕ → ℕ
case_word n k = run_word + marks_length + k * case_length n

abbrev pub case_speed : ℕ → ℕ → ℕ
case_speed n k = k * n

-- at least 2,560 + 7 × (16n + 8) + 16 words and 7n speeds
abbrev pub words_for : ℕ → ℕ
words_for n = run_word + marks_length + (1 + slots) * case_length n

abbrev pub speeds_for : ℕ → ℕ
speeds_for n = (1 + slots) * n

-- ---- what stands there

abbrev pub network_at : List ℕ → Network
network_at words = network_in (net_of words)

abbrev pub size_at : List ℕ → ℕ
size_at words = (head_in (net_of words)).size

abbrev pub run_count_at : List ℕ → ℕ
run_count_at words = get_or words run_word 0

abbrev pub arrangement_at : List ℕ → ℕ
arrangement_at words = get_or words (run_word + 15) 0

abbrev pub mark_at : List ℕ → ℕ → ℕ
mark_at words k = get_or words (mark_word k) 0

-- slot k is filled: its mark is 1
abbrev pub filled_at : List ℕ → ℕ → Bool
filled_at words k = leb 1 k && leb k slots && eqb (mark_at words k) 1

abbrev pub case_at : List ℕ → List Float → ℕ → Case
case_at words speeds k = case_in words speeds (case_word (size_at words) k) (case_speed (size_at words) k) (size_at words)
