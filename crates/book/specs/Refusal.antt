-- The table of refusals, after 12. Arrays and book are judged by this one definition.
use Rattle.std.specs.Prelude.{ℕ, ◌-◌, Bool, ◌||◌, not, ltb, leb, eqb}
use Rattle.laws.specs.First.{outside, row, first}
use Rattle.format.specs.Network.{Network, entry_of, segment_of}
use Rattle.format.specs.File.{file_number, network_of}
use Rattle.metanet.specs.Sound.{step_number}
use Rattle.metanet.specs.Start.{start_number}
use Rattle.metanet.specs.Change.{sign_refused, setting_refused}
use Rattle.metanet.specs.Line.{Item, signed, metered, stepped}
use Rattle.book.specs.Arrangement.{slots, words_for, speeds_for}
use Rattle.book.specs.Sound.{runs_most}
use Rattle.book.specs.Question.{Question, of_case, run_count, segment_missing, ramp_missing, question_number}
use Rattle.book.specs.Calls.{Call, start, item, hold, recall, drop_slot, question}

-- what a call is judged on beside its arguments: the two lengths, the network, the steps of the live line, the run count, which slots
-- are filled
pub record Grounds : Type 0 where
  pub words : ℕ
  pub speeds : ℕ
  pub network : Network
  pub steps : ℕ
  pub runs : ℕ
  pub filled : ℕ → Bool

unfoldable pub item_number : Item → Grounds → ℕ
-- 17; 18
item_number (signed i limit compliance) g = row (segment_missing g.network i) 17 (row (sign_refused limit compliance) 18 0)
-- 17; 19; 20
item_number (metered i setting) g =
    let w = g.network in
    row (segment_missing w i) 17
    (row (ramp_missing w i) 19
    (row (setting_refused (segment_of w (i - 1)).most setting) 20 0))
-- 13 list length; 15; 16 20,000 steps on the line or run count 1,000,000
item_number (stepped arrivals) g =
    let w = g.network in
    first (step_number w.head (entry_of w) (segment_of w) g.steps arrivals) (row (leb runs_most g.runs) 16 0)

-- Recall and Drop: 21 no such slot; 23 an empty one
unfoldable pub slot_refusal : ℕ → Grounds → ℕ
slot_refusal k g = row (outside 1 k slots) 21 (row (not (g.filled k)) 23 0)

-- a question about a case: 21; 23; then its own rows. Case 0 is the live one
unfoldable pub question_refusal : Question → Grounds → ℕ
question_refusal (of_case k q) g = row (ltb slots k) 21 (row (not (eqb k 0 || g.filled k)) 23 (question_number g.network q))
question_refusal run_count g = 0

unfoldable pub refusal : Call → Grounds → ℕ
unfolding item_number slot_refusal question_refusal
-- after the file: 11 arrays too short; 13 list length; 14
refusal (start file mvs speeds queues) g =
    let w = network_of file in
    first (file_number file)
    (row (ltb g.words (words_for w.head.size) || ltb g.speeds (speeds_for w.head.size)) 11
    (start_number w mvs speeds queues))
refusal (item i) g = item_number i g
-- 21; 22 Hold into a filled slot
refusal (hold k) g = row (outside 1 k slots) 21 (row (g.filled k) 22 0)
refusal (recall k) g = slot_refusal k g
refusal (drop_slot k) g = slot_refusal k g
refusal (question q) g = question_refusal q g
