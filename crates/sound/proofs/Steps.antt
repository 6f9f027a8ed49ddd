-- What judging a study takes, step by step, as rulesets that its functions name.
use Rattle.std.proofs.Common.{◌≡◌, ◌≤◌, ◌||◌, false, ℕ, List, Float, arith, length, length-take}
use Rattle.std.specs.Prelude.{ltb}
use borrow.Author.Tests.{ltb-false}
use Rattle.laws.proofs.First.{first_some, first_zero}
use Rattle.laws.proofs.Tests.{or_left, or_right}
use Rattle.laws.proofs.Lists.{rest_is}
use Rattle.laws.proofs.Refused.{number_some}
use Rattle.format.specs.Words.{head_in, kept_number}
use Rattle.format.proofs.Accepted.{SegmentsKept}
use Rattle.format.proofs.Keeping.{kept_within, segments_kept}
use Rattle.metanet.specs.Words.{net_of}
use Rattle.metanet.specs.declared.Ramp.{Ramp}
use Rattle.metanet.specs.Sound.{has_alinea, open_bad, fixed_bad, average_bad}
use Rattle.metanet.proofs.Settings.{none_averaged}
use Rattle.metanet.proofs.SoundLaws.{state_read}
use Rattle.metanet.proofs.Ready.{CaseAt}
use Rattle.book.specs.Arrangement.{words_for, speeds_for, size_at}
use Rattle.book.proofs.Laid.{Laid}
use Rattle.book.proofs.Network.{size_word}
use Rattle.book.proofs.Judging.{size_high, placed, case_judged, net_refused, words_short, lengths_refused, cases_judged}

-- a network that is accepted is small
pub size_small : (kept : List ℕ) → kept_number kept ≡ 0 → (head_in kept).size ≤ 40
size_small kept z = (kept_within kept z).head.size_high

-- it is laid out where the lengths are enough
pub study_laid : {words : List ℕ} {speeds : List Float} {n : ℕ} → kept_number (net_of words) ≡ 0 → n ≡ size_at words
    → (ltb (length words) (words_for n) || ltb (length speeds) (speeds_for n)) ≡ false → Laid words speeds n
study_laid {words} {speeds} {n} accepted size long =
    record {
      net = kept_within _ accepted;
      size = size;
      room = ltb-false _ _ (or_left (ltb (length words) (words_for n)) _ long);
      speed_room = ltb-false _ _ (or_right (ltb (length words) (words_for n)) _ long);
    }

-- the network, the lengths and then the cases
pub ruleset study_steps = (size_small, size_word, words_short, net_refused, lengths_refused, study_laid, cases_judged)

-- one case of a study that is laid out
pub ruleset case_steps = (size_high, placed, case_judged)

-- the network of a case
pub network_kept : {words : List ℕ} {speeds : List Float} {at from n : ℕ} → CaseAt words speeds at from n → SegmentsKept (net_of words) (head_in (net_of words))
network_kept {words} p = segments_kept _ (omega (arith, length-take {A = ℕ} 2560 words, p.past, p.room)) p.net

-- S and m of a ramp whose setting is open or fixed are within their bounds
module _ (most : ℕ) (r : Ramp) where
  pub open_averaged : open_bad most r ≡ false → average_bad r.sum r.summed ≡ false
  unfolding open_bad
  open_averaged z = none_averaged r (or_left (has_alinea r) _ z)

  pub fixed_averaged : fixed_bad most r ≡ false → average_bad r.sum r.summed ≡ false
  unfolding fixed_bad
  fixed_averaged z = none_averaged r (or_left (has_alinea r) _ z)

pub ruleset plain_ramps = (open_averaged, fixed_averaged)

-- a state, read from the words of its case
pub ruleset state_reads = (rest_is, state_read)

-- a judgement, and where it accepts another
pub ruleset then_next = (first_some, first_zero, number_some)
