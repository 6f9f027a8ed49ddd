-- The book: fed the arguments of the calls in their order and the lengths of the two arrays, nothing out of the arrays.
use Rattle.std.specs.Prelude.{ℕ, zero, suc, ◌+◌, Bool, true, false, cond, [], ◌∷◌, ◌++◌, eqb}
use Rattle.std.proofs.Math.Option.{Option, none, some}
use Rattle.format.specs.Network.{Network}
use Rattle.format.specs.File.{network_of}
use Rattle.metanet.specs.Case.{Case}
use Rattle.metanet.specs.Start.{start_case}
use Rattle.metanet.specs.Line.{Line, case_of, steps_of, item_steps}
use Rattle.book.specs.Calls.{Call, start, item, hold, recall, drop_slot, question}
use Rattle.book.specs.Refusal.{Grounds, refusal}
use Rattle.book.specs.Perform.{Outcome, unless, answer_of}

-- the network and start case of the last accepted Start, a live line, for each slot a line or "empty", and the run count
pub record Book : Type 0 where
  pub network : Network
  pub begun : Case
  pub live : Line
  pub slot : ℕ → Option Line
  pub runs : ℕ

abbrev pub is_filled : Option Line → Bool
is_filled = elim [ none ↦ false | some l ↦ true ]

abbrev pub line_in : Option Line → Line
line_in = elim [ none ↦ [] | some l ↦ l ]

-- the line asked for: 0 is the live one
abbrev pub line_at : Book → ℕ → Option Line
line_at b zero = some b.live
line_at b (suc k) = b.slot (suc k)

abbrev pub book_case : Book → ℕ → Case
book_case b k = case_of b.network b.begun (line_in (line_at b k))

-- ---- what an accepted call makes of the book

abbrev pub started : Network → Case → Book
started w c = record { network = w; begun = c; live = []; slot = λ k. none; runs = 0 }

-- the same network and start case, with these lines and this run count
abbrev pub with_lines : Book → Line → (ℕ → Option Line) → ℕ → Book
with_lines b live slot runs = record { network = b.network; begun = b.begun; live = live; slot = slot; runs = runs }

-- the slots with o in slot k
abbrev pub with_slot : (ℕ → Option Line) → ℕ → Option Line → ℕ → Option Line
with_slot slot k o j = cond (eqb j k) o (slot j)

-- Sign, Meter and Step are appended to the live line; Step adds 1 to the run count
unfoldable pub entered : Call → Book → Book
entered (start file mvs speeds queues) b = started (network_of file) (start_case (network_of file) mvs speeds queues)
entered (item i) b = with_lines b (b.live ++ (i ∷ [])) b.slot (b.runs + item_steps i)
entered (hold k) b = with_lines b b.live (with_slot b.slot k (some b.live)) b.runs
entered (recall k) b = with_lines b (line_in (b.slot k)) b.slot b.runs
entered (drop_slot k) b = with_lines b b.live (with_slot b.slot k none) b.runs
entered (question q) b = b

-- ---- a call

-- judged on its arguments, the two lengths and the book; 12 never applies there
abbrev pub grounds_in : ℕ → ℕ → Book → Grounds
grounds_in words speeds b =
    record { words = words; speeds = speeds; network = b.network; steps = steps_of b.live; runs = b.runs; filled = λ k. is_filled (b.slot k) }

-- a refused call changes nothing
unfoldable pub enter : ℕ → ℕ → Call → Book → Outcome Book
unfolding entered unless
enter words speeds c b =
    unless (refusal c (grounds_in words speeds b)) b
    (record { state = entered c b; answer = answer_of c b.network (book_case b) b.runs })
