-- The agreed case: a case that is held stays what it was, whatever is tried on the live one afterwards.
use Rattle.std.specs.Prelude.{ℕ, ◌≡◌, true, List, ◌∷◌}
use Rattle.book.specs.Arrangement.{network_at, filled_at, case_at}
use Rattle.book.specs.Question.{CaseQuestion, of_case}
use Rattle.book.specs.Calls.{Call, start, hold, question, is_start, no_call, is_drop}
use Rattle.book.specs.Perform.{Arrays, refusal_at, perform, after, taken}
use Rattle.book.specs.Run.{CallOrRun, single, perform_any, singles}

-- the arrays x before a hold into slot k, y right after it and z after later calls
pub record StaysAgreed (k : ℕ) (x y z : Arrays) : Type 0 where
  -- what the slot holds is what the live case was, and stays
  pub agreed : case_at y.words y.speeds k ≡ case_at x.words x.speeds 0
  pub stays : case_at z.words z.speeds k ≡ case_at y.words y.speeds k
  pub filled : filled_at z.words k ≡ true
  pub network : network_at z.words ≡ network_at y.words
  -- every question about it is answered the same
  pub answered : (q : CaseQuestion) → (perform (question (of_case k q)) z).answer ≡ (perform (question (of_case k q)) y).answer

-- after any accepted Start, any calls and runs and an accepted hold into slot k: any calls and runs, of which no Start and no drop of that
-- slot is accepted
abbrev pub AgreedCase : Type 0
AgreedCase =
    (file mvs speeds queues : List ℕ) (before later : List CallOrRun) (k : ℕ) (a : Arrays)
    → (let begin : Call = start file mvs speeds queues in
    let x : Arrays = after perform_any (single begin ∷ before) a in
    let y : Arrays = (perform (hold k) x).state in
    let h : List Call = taken (singles later y) y in
    refusal_at begin a ≡ 0 → refusal_at (hold k) x ≡ 0 → no_call is_start h ≡ true → no_call (is_drop k) h ≡ true
    → StaysAgreed k x y (after perform_any later y))
