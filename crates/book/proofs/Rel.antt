-- The arrays hold what the book says: the relation that each call keeps.
use Prim.Native.Nat.{ℕ, ◌≤◌}
use mathlib.Core.Path.{◌≡◌}
use mathlib.Core.Option.{Option, none, some}
use lib.ListN.{length}
use Rattle.format.specs.Words.{kept_number}
use Rattle.metanet.specs.Words.{net_of}
use Rattle.book.specs.Arrangement.{words_for, speeds_for, network_at, run_count_at, mark_at, case_at, arrangement_at, arrangement}
use Rattle.book.specs.Perform.{Arrays}
use Rattle.metanet.specs.Line.{Line, case_of}
use Rattle.book.specs.Book.{Book}
use Rattle.metanet.proofs.Good.{Good}

-- the mark of a slot with a line, and of an empty one
abbrev pub mark_of : Option Line → ℕ
mark_of none = 0
mark_of (some l) = 1

-- case k of the arrays is the case of the line l
pub record Kept (a : Arrays) (b : Book) (k : ℕ) (l : Line) : Type 0 where
  pub good : Good b.network b.begun l
  pub is : case_at a.words a.speeds k ≡ case_of b.network b.begun l

pub record Rel (words speeds : ℕ) (a : Arrays) (b : Book) : Type 0 where
  pub words_long : length a.words ≡ words
  pub speeds_long : length a.speeds ≡ speeds
  pub words_fit : words_for b.network.head.size ≤ words
  pub speeds_fit : speeds_for b.network.head.size ≤ speeds
  pub kept : kept_number (net_of a.words) ≡ 0
  pub network : network_at a.words ≡ b.network
  pub runs : run_count_at a.words ≡ b.runs
  pub runs_le : b.runs ≤ 1000000
  pub arranged : arrangement_at a.words ≡ arrangement
  pub live : Kept a b 0 b.live
  pub slots : (k : ℕ) (l : Line) → b.slot k ≡ some l → Kept a b k l
  pub slot-number : (k : ℕ) (l : Line) → b.slot k ≡ some l → (1 ≤ k) × (k ≤ 6)
  pub marks : (k : ℕ) → 1 ≤ k → k ≤ 6 → mark_at a.words k ≡ mark_of (b.slot k)
