-- What taking a row of arrivals as a step comes to.
use Rattle.std.specs.Prelude.{ℕ, ◌≡◌, List, Float}
use Rattle.book.specs.Perform.{lent, refusal_at, perform}
use Rattle.book.specs.Run.{step_call}

-- the number that refuses the Step, or 0, and both arrays as the Step leaves them
pub record RowTaken (words : List ℕ) (speeds : List Float) (ds : List ℕ) (r : ℕ) (words' : List ℕ) (speeds' : List Float) : Type 0 where
  pub number : r ≡ refusal_at (step_call ds) (lent words speeds)
  pub words_are : words' ≡ (perform (step_call ds) (lent words speeds)).state.words
  pub speeds_are : speeds' ≡ (perform (step_call ds) (lent words speeds)).state.speeds
