-- What an answer says of the rows of the table, of the lent list and of the lent bytes.
use Rattle.std.proofs.Common.{◌≡◌, sym, ap, ◌∙◌, zero-add, ℕ, ◌+◌, ◌*◌, ◌/◌, List, ◌++◌, length, drop}
use Rattle.std.proofs.Math.Seq.{length-take-le}
use Rattle.laws.specs.Lists.{table, puts}
use Rattle.laws.proofs.First.{first_zero, when_accepted}
use Rattle.laws.proofs.Puts.{puts-after}
use Rattle.laws.proofs.Refused.{number_above, first_above, lent_stays}
use Rattle.survey_file.specs.File.{rows_on, arrival_on, arrivals_on, survey_number}
use Rattle.survey_file.specs.Read.{read_number, read_list}
use Rattle.survey_file.specs.Written.{head_bytes, write_number, written_survey, survey_of}
use Rattle.survey_file.proofs.Accepted.{survey_accepted}
use Rattle.survey_file.proofs.RoundTrip.{length-head, arrival_bytes, whole_rows, write_room}

pub ruleset answers = (number_above, first_above, first_zero, lent_stays, when_accepted)

-- the list after an accepted file of n segments was read over its first places, from arrival 0 on
pub read_over : (n : ℕ) (b list last : List ℕ) → survey_number n b ≡ 0 → read_number n b list ≡ 0
    → last ≡ table (λ i. arrival_on b (0 + i)) (rows_on b * n) ++ drop (rows_on b * n) list → last ≡ read_list n b list
unfolding read_list arrivals_on
read_over n b list last sound z is =
    let size = (survey_accepted n b sound).size_is in
    is
    ∙ ap (λ (m : ℕ). table (λ i. arrival_on b (0 + i)) m ++ drop m list) (ap (λ (m : ℕ). rows_on b * m) (sym size))
    ∙ (simp zero-add (sym (when_accepted _ _ _ z)))

-- what the proof of the reader needs
pub ruleset reading = (answers, survey_accepted, read_over, length-take-le)

-- next has the head, and last the arrivals after it
pub written : (n : ℕ) (list out next last : List ℕ) → write_number n list out ≡ 0 → next ≡ head_bytes n (length list / n) ++ drop 8 out
    → last ≡ puts 4 (arrival_bytes list) 8 (length list) next → last ≡ written_survey n list out
unfolding written_survey survey_of
written n list out next last z head is =
    is ∙ puts-after out next (head_bytes n (length list / n)) 8 4 (arrival_bytes list) (length list) (length-head n _) head ∙ sym (when_accepted _ _ _ z)

-- what the proof of the writer needs
pub ruleset writing = (answers, whole_rows, write_room, written)
