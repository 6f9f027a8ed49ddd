-- What the run count and Write rest on: the arrays of a sound study are long enough, and its network can be written.
use Rattle.std.proofs.Common.{◌≡◌, ◌<◌, ◌≤◌, ℕ, true, not, List, [], ◌∷◌, ◌++◌, length, get_or, drop, arith, sym, refl}
use Rattle.std.proofs.lemmas.Bool.{not-false}
use lib.Ieee.{Float}
use borrow.Author.Tests.{ltb-false}
use Rattle.laws.specs.declared.Refusal.{Refusal}
use Rattle.laws.specs.First.{row, if_accepted}
use Rattle.laws.specs.Refusal.{number}
use Rattle.laws.proofs.First.{row_passed, row_later}
use Rattle.laws.proofs.Refused.{number_above, lent_stays}
use Rattle.format.proofs.Accepted.{HeadWithin}
use Rattle.format.specs.File.{file_size}
use Rattle.format.specs.Network.{network_from}
use Rattle.format.specs.Words.{head_in, network_in, kept_number}
use Rattle.format.specs.Written.{file_of}
use Rattle.metanet.specs.Words.{net_of}
use Rattle.book.specs.Arrangement.{size_at}
use Rattle.book.specs.Calls.{question}
use Rattle.book.specs.Perform.{refusal_at, stored, answer_of, Performs}
use Rattle.book.specs.Question.{run_count, figures_asked, figures, refused}
use Rattle.book.specs.Refusal.{refusal, question_refusal}
use Rattle.book.specs.Sound.{sound}
use Rattle.book.specs.Write.{write_refusal, write_answer, written_bytes}
use Rattle.book.proofs.Laid.{Laid}
use Rattle.book.proofs.Performing.{refused_call, accepts}
use Rattle.book.proofs.Sounds.{laid, kept}

module _ (words : List ℕ) (speeds : List Float) where
  -- the row of soundness passed, whatever comes after it
  module _ (later : ℕ) (is : 0 ≡ row (not (sound words speeds)) 12 later) where
    fine : sound words speeds ≡ true
    fine = not-false _ (row_passed _ 11 later (sym is))

    judged : Laid words speeds (size_at words)
    judged = laid words speeds fine

    pub long : 2576 ≤ length words
    long = omega (arith, judged.room)

    pub head_within : HeadWithin (head_in (net_of words))
    head_within = judged.net.head

    network_kept : kept_number (net_of words) ≡ 0
    network_kept = kept words speeds fine

  pub count_answered : 0 ≡ row (not (sound words speeds)) 12 0 → Performs (question run_count) words speeds (figures (get_or words 2560 0 ∷ [])) words speeds
  unfolding refusal_at refusal question_refusal answer_of figures_asked stored
  count_answered is = accepts (question run_count) words speeds (sym is) refl refl refl

  pub count_refused : (why : Refusal) → number why ≡ row (not (sound words speeds)) 12 0 → Performs (question run_count) words speeds (refused (number why)) words speeds
  unfolding refusal_at refusal question_refusal
  count_refused why is = refused_call (question run_count) words speeds why is

  -- ---- Write

  module _ (out : List ℕ) where
    module _ (some : 0 < write_refusal words speeds out) where
      pub answer_refused : write_answer words speeds out ≡ refused (write_refusal words speeds out)
      unfolding write_answer
      answer_refused = lent_stays _ _ _ some

      pub bytes_stay : written_bytes words speeds out ≡ out
      unfolding written_bytes
      bytes_stay = lent_stays _ _ _ some

    -- what nothing refuses to write
    module _ (is : 0 ≡ write_refusal words speeds out) where
      pub writable : (2560 ≤ length words) × HeadWithin (head_in (net_of words)) × (kept_number (net_of words) ≡ 0) × (file_size (head_in (net_of words)) ≤ length out)
      unfolding write_refusal network_from
      writable = (omega (arith, long _ is), head_within _ is, network_kept _ is, ltb-false _ _ (row_passed _ _ _ (row_later _ _ _ (sym is))))

      pub answer_written : figures (file_size (head_in (net_of words)) ∷ []) ≡ write_answer words speeds out
      unfolding write_answer if_accepted network_from
      answer_written = rw (← is)

      pub bytes_written : file_of (network_in (net_of words)) ++ drop (file_size (head_in (net_of words))) out ≡ written_bytes words speeds out
      unfolding written_bytes if_accepted network_from
      bytes_written = rw (← is)

pub ruleset counts = (count_refused, long, count_answered)

pub ruleset rows = (long, head_within)

pub ruleset writes = (number_above, answer_refused, bytes_stay, writable, answer_written, bytes_written)
