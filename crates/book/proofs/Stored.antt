-- What the arrays hold after a store, in records whose fields the laws of the calls read.
use Prim.Native.Nat.{ℕ, ◌≤◌, ◌<◌, ◌+◌}
use mathlib.Core.Path.{◌≡◌}
use lib.Dec.{eqb}
use lib.ListN.{length, drop, get_or}
use Rattle.format.specs.Network.{Network}
use Rattle.format.specs.Words.{kept_number}
use Rattle.metanet.specs.Case.{Case}
use Rattle.metanet.specs.Words.{net_of}
use Rattle.book.specs.Arrangement.{words_for, speeds_for, network_at, size_at, case_at, run_word, start_marks}
use Rattle.book.specs.Perform.{Arrays}
use mathlib.Core.List.{List}
use mathlib.Core.Bool.{cond}

-- word j of the 16 after the network: run count, marks and arrangement number
abbrev pub study_word : List ℕ → ℕ → ℕ
study_word words j = get_or words (run_word + j) 0

-- those words with x for word i
abbrev pub with_word : (ℕ → ℕ) → ℕ → ℕ → ℕ → ℕ
with_word word i x j = cond (eqb j i) x (word j)

-- both arrays are long enough for the network that is kept in them
pub record Fit (a : Arrays) : Type 0 where
  pub words_fit : words_for (size_at a.words) ≤ length a.words
  pub speeds_fit : speeds_for (size_at a.words) ≤ length a.speeds

-- z is a, but that case k is c and word j of the 16 is word j; words and speeds past the stated lengths stay
pub record Stored (a z : Arrays) (k : ℕ) (c : Case) (word : ℕ → ℕ) : Type 0 where
  pub words_long : length z.words ≡ length a.words
  pub speeds_long : length z.speeds ≡ length a.speeds
  -- hence the network, its size and whether it is kept whole and in range
  pub net : net_of z.words ≡ net_of a.words
  pub words_are : (j : ℕ) → j < 16 → study_word z.words j ≡ word j
  pub written : case_at z.words z.speeds k ≡ c
  pub others : (j : ℕ) → j ≤ 6 → (j ≡ k → ⊥) → case_at z.words z.speeds j ≡ case_at a.words a.speeds j
  pub words_past : (m : ℕ) → size_at a.words ≤ m → drop (words_for m) z.words ≡ drop (words_for m) a.words
  pub speeds_past : (m : ℕ) → size_at a.words ≤ m → drop (speeds_for m) z.speeds ≡ drop (speeds_for m) a.speeds

-- z holds the network w, the live case c and the 16 words of a study at its start; past the lengths for w it is a
pub record Begun (a z : Arrays) (w : Network) (c : Case) : Type 0 where
  pub words_long : length z.words ≡ length a.words
  pub speeds_long : length z.speeds ≡ length a.speeds
  pub kept : kept_number (net_of z.words) ≡ 0
  pub network : network_at z.words ≡ w
  pub words_are : (j : ℕ) → j < 16 → study_word z.words j ≡ get_or start_marks j 0
  pub live : case_at z.words z.speeds 0 ≡ c
  pub words_past : (m : ℕ) → w.head.size ≤ m → drop (words_for m) z.words ≡ drop (words_for m) a.words
  pub speeds_past : (m : ℕ) → w.head.size ≤ m → drop (speeds_for m) z.speeds ≡ drop (speeds_for m) a.speeds
