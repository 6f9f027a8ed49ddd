-- Where a study's parts lie: the network, the run count and the marks before the cases, and the cases apart from one another. So a store
-- to one of them leaves the others.
use Prim.Native.Nat.{ℕ, suc, ◌+◌, ◌*◌, ◌≤◌, ◌<◌}
use mathlib.Core.Path.{◌≡◌, refl, ap, ◌∙◌}
use mathlib.Core.Bool.{Bool, true, false, cond}
use mathlib.Core.List.{List}
use native.Mathlib.Nat.{suc-mul, mul-le-mul_right}
use native.Mathlib.Decide.{dec_lt}
use native.Mathlib.Omega.{arith}
use lib.Dec.{eqb}
use lib.ListN.{length, set}
use lib.Seq.{get_or-set_same, get_or-set_other}
use lib.Ieee.{Float}
use borrow.Author.Tests.{eqb-true, eqb-false}
use Rattle.laws.specs.Lists.{part}
use Rattle.laws.proofs.Outside.{SameOutside, take_same, drop_same, get_or-before, part_before, part_after, set_same}
use Rattle.format.specs.Words.{head_in}
use Rattle.metanet.specs.Case.{Case}
use Rattle.metanet.specs.Words.{net_of, case_in}
use Rattle.book.specs.Arrangement.{run_word, case_length, case_word, case_speed, words_for, speeds_for, size_at, case_at}
use Rattle.book.specs.Perform.{Arrays, lent}
use Rattle.metanet.proofs.CaseParts.{case_same}
use Rattle.book.proofs.Stored.{Stored, study_word, with_word}

-- ---- places

-- places j and k of one width do not meet
gap : (j k w : ℕ) → j < k → j * w + w ≤ k * w
gap j k w h = omega (arith, suc-mul j w, mul-le-mul_right {m = suc j} {n = k} w h)

pub word_room : (n k : ℕ) → k ≤ 6 → case_word n k + case_length n ≤ words_for n
word_room n k h = omega (arith, gap k 7 (case_length n) (omega arith))

pub speed_room : (n k : ℕ) → k ≤ 6 → case_speed n k + n ≤ speeds_for n
speed_room n k h = omega (arith, gap k 7 n (omega arith))

-- places p and q, of width w, are those of two cases: a store to q leaves p
module _ {A : Type 0} {l z : List A} (j k p q w : ℕ) (s : SameOutside q (q + w) l z)
    (other : j ≡ k → ⊥) (below : j < k → p + w ≤ q) (above : k < j → q + w ≤ p) where
  part_apart : part p w z ≡ part p w l
  part_apart = go (dec_lt j k)
    where
      go : Dec (j < k) → part p w z ≡ part p w l
      go (yes h) = part_before s p w (below h)
      go (no h) = part_after s p w (above (omega (arith, other)))

-- ---- the case at a place, where the network is the same

size_same : (words words' : List ℕ) → net_of words' ≡ net_of words → size_at words' ≡ size_at words
size_same words words' e = ap (λ (w : List ℕ). (head_in w).size) e

pub case_sized : (words words' : List ℕ) (speeds : List Float) (k : ℕ) → net_of words' ≡ net_of words
    → let n = size_at words in case_at words' speeds k ≡ case_in words' speeds (case_word n k) (case_speed n k) n
case_sized words words' speeds k e = ap (λ (n : ℕ). case_in words' speeds (case_word n k) (case_speed n k) n) (size_same words words' e)

-- ---- a store to the words and speeds of case k

module _ {a z : Arrays} (k : ℕ) (high : k ≤ 6)
    (w : let n = size_at a.words in SameOutside (case_word n k) (case_word n k + case_length n) a.words z.words)
    (v : let n = size_at a.words in SameOutside (case_speed n k) (case_speed n k + n) a.speeds z.speeds) where
  abbrev n : ℕ
  n = size_at a.words

  net_same : net_of z.words ≡ net_of a.words
  net_same = take_same w 2560 (omega arith)

  other_same : (j : ℕ) → j ≤ 6 → (j ≡ k → ⊥) → case_at z.words z.speeds j ≡ case_at a.words a.speeds j
  other_same j h other =
      case_sized a.words z.words z.speeds j net_same
      ∙ case_same z.words a.words z.speeds a.speeds (case_word n j) (case_word n j) (case_speed n j) (case_speed n j) n
      (part_apart j k (case_word n j) (case_word n k) (case_length n) w other
      (λ l. omega (arith, gap j k (case_length n) l)) (λ l. omega (arith, gap k j (case_length n) l)))
      (part_apart j k (case_speed n j) (case_speed n k) n v other (gap j k n) (gap k j n))

  pub case_stored : (c : Case) → case_in z.words z.speeds (case_word n k) (case_speed n k) n ≡ c → Stored a z k c (study_word a.words)
  case_stored c is =
      record {
        words_long = w.long;
        speeds_long = v.long;
        net = net_same;
        words_are = λ j l. get_or-before w (run_word + j) 0 (omega arith);
        written = case_sized a.words z.words z.speeds k net_same ∙ is;
        others = other_same;
        words_past = λ m h. drop_same w (words_for m) (omega (arith, word_room n k high));
        speeds_past = λ m h. drop_same v (speeds_for m) (omega (arith, speed_room n k high));
      }

-- ---- a store to word i of the 16 between the network and the cases

module _ {a z : Arrays} {k : ℕ} {c : Case} {word : ℕ → ℕ} (s : Stored a z k c word) (long : 2576 ≤ length a.words) (i x : ℕ) (high : i < 16) where
  abbrev new : List ℕ
  new = set z.words (run_word + i) x

  abbrev same : SameOutside (run_word + i) (run_word + i + 1) z.words new
  same = set_same z.words (run_word + i) x

  word_net : net_of new ≡ net_of z.words
  word_net = take_same same 2560 (omega arith)

  word_case : (j : ℕ) → case_at new z.speeds j ≡ case_at z.words z.speeds j
  word_case j =
      let n = size_at z.words in
      case_sized z.words new z.speeds j word_net
      ∙ case_same new z.words z.speeds z.speeds (case_word n j) (case_word n j) (case_speed n j) (case_speed n j) n
      (part_after same (case_word n j) (case_length n) (omega arith)) refl

  word_is : (j : ℕ) → j < 16 → (t : Bool) → eqb j i ≡ t → study_word new j ≡ cond t x (word j)
  word_is j l true e =
      ap (study_word new) (eqb-true j i e) ∙ get_or-set_same z.words (run_word + i) x 0 (omega (arith, s.words_long))
  word_is j l false e =
      get_or-set_other z.words (run_word + i) (run_word + j) x 0 (λ q. eqb-false j i e (omega (arith, q))) ∙ s.words_are j l

  pub word_stored : Stored a (lent new z.speeds) k c (with_word word i x)
  word_stored =
      record {
        words_long = same.long ∙ s.words_long;
        speeds_long = s.speeds_long;
        net = word_net ∙ s.net;
        words_are = λ j l. word_is j l (eqb j i) refl;
        written = word_case k ∙ s.written;
        others = λ j h other. word_case j ∙ s.others j h other;
        words_past = λ m h. drop_same same (words_for m) (omega arith) ∙ s.words_past m h;
        speeds_past = s.speeds_past;
      }
