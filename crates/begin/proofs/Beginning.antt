-- Start: what it writes, part by part, and that this is what it stores.
use Prim.Native.Nat.{ℕ, suc, ◌-◌, ◌+◌, ◌*◌, ◌≤◌, ◌<◌}
use mathlib.Core.Path.{◌≡◌, refl, sym, ap, ◌∙◌}
use mathlib.Core.List.{List, ◌∷◌, ◌++◌, append_assoc}
use native.Mathlib.Nat.{zero-mul, zero-add}
use native.Mathlib.Omega.{arith}
use native.Mathlib.Numerals.{add-one}
use lib.ListN.{length, get_or, set, take, drop, replicate, length-append, length-take}
use lib.Seq.{drop-cons, drop-drop}
use lib.Ieee.{Float}
use borrow.Rule.Slice.PartMut.{put_mid}
use Rattle.std.proofs.lemmas.List.{set_at}
use Rattle.laws.specs.Lists.{table, part, put_part, parts, puts}
use Rattle.laws.specs.Real.{real}
use Rattle.laws.proofs.Lists.{get_or-table, table_ext, parts_ext, length-parts, length_part, span}
use Rattle.laws.proofs.Puts.{part_changed, puts_none, puts_more, put_after, puts-after}
use Rattle.format.specs.declared.Segment.{Segment}
use Rattle.format.specs.Network.{network_from, segment_of}
use Rattle.format.specs.File.{head_of, network_of, file_number}
use Rattle.format.specs.Words.{kept_words}
use Rattle.format.proofs.File.{network_within}
use Rattle.format.proofs.Kept.{length_kept}
use Rattle.metanet.specs.declared.SegmentState.{SegmentState}
use Rattle.metanet.specs.Case.{Case, no_state, state_of}
use Rattle.metanet.specs.Words.{put_case, put_case_speeds}
use Rattle.metanet.specs.Start.{start_state, start_case}
use Rattle.metanet.proofs.InWords.{state_words}
use Rattle.metanet.proofs.Written.{case_begun}
use Rattle.book.specs.Arrangement.{case_word, start_marks, arrangement}
use Rattle.book.specs.Calls.{start}
use Rattle.book.specs.Question.{accepted}
use Rattle.book.specs.Perform.{lent, refusal_at, Performs, answer_of, start_words, stored}
use Rattle.book.proofs.Performing.{refused_call, accepts}
use Rattle.refusal.specs.Ready.{Listed}
use Rattle.refusal.proofs.Starting.{same_segment, start-room, start-speeds-room, start_listed}
use Rattle.begin.specs.Ready.{open_words, open_words_on, begin_words}

-- ---- what is written, part by part

-- zeros were filled in, over a part whose place and length the code computed as p and k
pub zeros_are : (l : List ℕ) {ys : List ℕ} (at w : ℕ) {p k : ℕ} → p ≡ at → k ≡ w → at + w ≤ length l → ys ≡ replicate (length (part p k l)) 0
    → put_mid p k l ys ≡ put_part at w (replicate w 0) l
zeros_are l {ys} at w {p} {k} place is room e =
    ap (λ (m : ℕ). put_mid m k l ys) place
    ∙ part_changed l ys (λ (x : List ℕ). replicate w 0) at w k is (e ∙ ap (λ (m : ℕ). replicate m 0) (rw (place, is) (length_part l at w room)))

-- zeros in 15 places, and after them the arrangement number
pub marks_are : (words zeros : List ℕ) → 2576 ≤ length words → zeros ≡ replicate (length (part 2560 15 words)) 0
    → set (put_mid 2560 15 words zeros) 2575 arrangement ≡ put_part 2560 16 start_marks words
unfolding start_marks
marks_are words zeros room e =
    let front : length (take 2560 words ++ replicate 15 0) ≡ 2575 = simp (length-append, length-take) (omega arith) in
    ap (λ (l : List ℕ). set l 2575 arrangement) (zeros_are words 2560 15 refl refl (omega arith) e)
    ∙ ap (λ (l : List ℕ). set (take 2560 words ++ (replicate 15 0 ++ l)) 2575 arrangement) (drop-cons words 2575 0 (omega arith))
    ∙ ap (λ (l : List ℕ). set l 2575 arrangement) (sym (append_assoc (take 2560 words) (replicate 15 0) _))
    ∙ set_at (take 2560 words ++ replicate 15 0) (get_or words 2575 0) (drop 2576 words) arrangement 2575 front
    ∙ append_assoc (take 2560 words) (replicate 15 0) (arrangement ∷ drop 2576 words)

length_open : (mv queue most : ℕ) → length (open_words mv queue most) ≡ 16
unfolding open_words
length_open mv queue most = refl

-- the states, one by one, each over a part whose length the code computed from its two ends
module _ (b mvs queues words : List ℕ) where
  pub states_none : 2576 ≤ length words → words ≡ puts 16 (open_words_on b mvs queues) 2576 0 words
  states_none room = sym (puts_none 16 (open_words_on b mvs queues) 2576 0 words (λ k l. length_open _ _ _) (omega arith))

  pub states_more : (i : ℕ) → 2576 + 16 * (i + 1) ≤ length words
      → let at = 2576 + 16 * i in puts 16 (open_words_on b mvs queues) 2576 (i + 1) words
      ≡ put_mid at (at + 16 - at) (puts 16 (open_words_on b mvs queues) 2576 i words) (open_words_on b mvs queues i)
  states_more i room = rw (add-one i) (sym (puts_more 16 (open_words_on b mvs queues) 2576 (suc i) words (λ k l. length_open _ _ _) (omega arith) i (omega arith)) ∙ rw (span (2576 + 16 * i) 16, drop-drop) refl)

pub ruleset state_loop = (states_none, states_more)

module _ (b mvs queues words : List ℕ) (z : file_number b ≡ 0) where
  abbrev front : List ℕ
  front = kept_words (network_of b) ++ start_marks

  length_front : length front ≡ 2576
  unfolding network_from start_marks
  length_front =
      length-append (kept_words (network_of b)) start_marks
      ∙ ap (λ (m : ℕ). m + 16) (length_kept (network_of b) (network_within b z).head.curves_high (network_within b z).head.size_high)

  pub begun : {kept marked rowed last : List ℕ} → let n = (head_of b).size in kept ≡ kept_words (network_of b) ++ drop 2560 words → marked ≡ put_part 2560 16 start_marks kept
      → rowed ≡ puts 16 (open_words_on b mvs queues) 2576 n marked → last ≡ put_part (2576 + 16 * n) 8 (replicate 8 0) rowed
      → last ≡ begin_words b mvs queues n words
  unfolding begin_words network_from
  begun {kept} {marked} {rowed} k m r l =
      let n = (head_of b).size in
      let size_kept = length_kept (network_of b) (network_within b z).head.curves_high (network_within b z).head.size_high in
      let m' : marked ≡ front ++ drop 2576 words = m ∙ put_after words kept (kept_words (network_of b)) start_marks 2560 16 size_kept k in
      let r' : rowed ≡ (front ++ parts (open_words_on b mvs queues) n) ++ drop (2576 + 16 * n) words = r ∙ puts-after words marked front 2576 16 (open_words_on b mvs queues) n length_front m' in
      let long-states : length (front ++ parts (open_words_on b mvs queues) n) ≡ 2576 + 16 * n =
      length-append front (parts (open_words_on b mvs queues) n) ∙ (λ j. length_front j + length-parts 16 (open_words_on b mvs queues) n (λ i h. length_open _ _ _) j) in
      let place : 2576 + 16 * n + 8 ≡ 2584 + 16 * n = omega arith in
      l
      ∙ put_after words rowed (front ++ parts (open_words_on b mvs queues) n) (replicate 8 0) (2576 + 16 * n) 8 long-states r'
      ∙ append_assoc (front ++ parts (open_words_on b mvs queues) n) (replicate 8 0) (drop (2576 + 16 * n + 8) words)
      ∙ append_assoc front (parts (open_words_on b mvs queues) n) (replicate 8 0 ++ drop (2576 + 16 * n + 8) words)
      ∙ ap (λ (p : ℕ). front ++ (parts (open_words_on b mvs queues) n ++ (replicate 8 0 ++ drop p words))) place

-- ---- and that is what Start stores

module _ (b mvs speeds queues : List ℕ) (z : file_number b ≡ 0) where
  abbrev n : ℕ
  n = (head_of b).size

  abbrev c : Case
  c = start_case (network_of b) mvs speeds queues

  state_is : (i : ℕ) → i < n → state_of c.states i ≡ start_state (network_of b) mvs speeds queues i
  unfolding start_case network_from
  state_is i l = get_or-table (start_state (network_of b) mvs speeds queues) n i no_state l

  open_state_lem : (i : ℕ) → i < n → state_words (state_of c.states i) ≡ open_words_on b mvs queues i
  open_state_lem i l = ap state_words (state_is i l) ∙ made ∙ ap (λ (s : Segment). open_words (get_or mvs i 0) (get_or queues i 0) s.most) (same_segment b z i l)
    where
      made : state_words (start_state (network_of b) mvs speeds queues i) ≡ open_words (get_or mvs i 0) (get_or queues i 0) (segment_of (network_of b) i).most
      made = unfold state_words start_state open_words in refl

  pub start-words : (words : List ℕ) (lentSpeeds : List Float) → (stored (start b mvs speeds queues) (lent words lentSpeeds)).words ≡ begin_words b mvs queues n words
  unfolding stored start_words begin_words start_case network_from
  start-words words lentSpeeds =
      ap (put_case (case_word n 0) n c) (sym (append_assoc (kept_words (network_of b)) start_marks _))
      ∙ case_begun c n front (drop (case_word n 1) words) (case_word n 0) (length_front b mvs queues words z ∙ omega arith)
      ∙ (λ j. front ++ (parts_ext _ _ n open_state_lem j ++ (replicate 8 0 ++ drop (place j) words)))
    where
      front : List ℕ
      front = kept_words (network_of b) ++ start_marks

      place : case_word n 1 ≡ 2584 + 16 * n
      place = omega arith

  pub start-speeds : (words : List ℕ) (lentSpeeds : List Float) → (stored (start b mvs speeds queues) (lent words lentSpeeds)).speeds ≡ table (λ i. real (get_or speeds i 0)) n ++ drop n lentSpeeds
  unfolding stored put_case_speeds network_from
  start-speeds words lentSpeeds =
      ap (λ (m : ℕ). take m lentSpeeds ++ (table (λ i. (state_of c.states i).speed) n ++ drop (m + n) lentSpeeds)) (zero-mul n)
      ∙ (λ j. table_ext (λ i. (state_of c.states i).speed) (λ i. real (get_or speeds i 0)) n (λ i l. ap (λ (r : SegmentState). r.speed) (state_is i l) ∙ (unfold start_state in refl)) j ++ drop (zero-add n j) lentSpeeds)

-- ---- the call, answered

module _ (words : List ℕ) (lentSpeeds : List Float) (b mvs speeds queues : List ℕ) (taken : 0 ≡ refusal_at (start b mvs speeds queues) (lent words lentSpeeds)) where
  -- accepted, its lists are as long as the network, and what it writes has room
  pub told : Listed b mvs speeds queues
  told = start_listed words lentSpeeds b mvs speeds queues (sym taken)

  pub words_fit : 2584 + 16 * (head_of b).size ≤ length words
  words_fit = omega (arith, start-room words lentSpeeds b mvs speeds queues (sym taken))

  pub speeds_fit : (head_of b).size ≤ length lentSpeeds
  speeds_fit = omega (arith, start-speeds-room words lentSpeeds b mvs speeds queues (sym taken))

  pub start_accepted : {words' : List ℕ} {speeds' : List Float} → let n = (head_of b).size in words' ≡ begin_words b mvs queues n words
      → speeds' ≡ table (λ i. real (get_or speeds i 0)) n ++ drop n lentSpeeds
      → Performs (start b mvs speeds queues) words lentSpeeds accepted words' speeds'
  unfolding answer_of
  start_accepted p q =
      accepts (start b mvs speeds queues) words lentSpeeds (sym taken) refl
      (p ∙ sym (start-words b mvs speeds queues told.file words lentSpeeds))
      (q ∙ sym (start-speeds b mvs speeds queues told.file words lentSpeeds))

pub ruleset start_call = (refused_call, told, words_fit, speeds_fit, start_accepted)
