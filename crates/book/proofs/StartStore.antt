-- Start puts in the network and the start case, and leaves what is past the lengths that it needs.
use Prim.Native.Nat.{ℕ, ◌+◌, ◌*◌, ◌≤◌, ◌<◌}
use mathlib.Core.Path.{◌≡◌, refl, sym, ap, ◌∙◌}
use mathlib.Core.List.{List, ◌++◌, append_assoc}
use native.Mathlib.Omega.{arith}
use lib.ListN.{length, drop, get_or, replicate, length-append, length-drop, length-replicate, get_or-append}
use lib.Seq.{take_at, drop_at, get_or-drop}
use Rattle.laws.proofs.Lists.{length-table}
use Rattle.laws.proofs.Outside.{SameOutside, take_same, drop_same, get_or-before, same_within, same_then}
use Rattle.format.specs.Network.{Network, network_from}
use Rattle.format.specs.File.{file_number, network_of}
use Rattle.format.specs.Words.{head_in, network_in, kept_number, kept_words}
use Rattle.format.proofs.File.{network_within}
use Rattle.format.proofs.Kept.{length_kept}
use Rattle.format.proofs.KeptFile.{kept_file, kept_network}
use Rattle.metanet.specs.Case.{Case}
use Rattle.metanet.specs.Words.{net_of, case_in}
use Rattle.metanet.proofs.Put.{put_outside, put_speeds_outside, case_put}
use Rattle.book.specs.Arrangement.{run_word, case_length, case_word, case_speed, words_for, speeds_for, size_at, case_at, start_marks}
use Rattle.book.specs.Calls.{start}
use Rattle.metanet.specs.Start.{start_state, start_case}
use Rattle.book.specs.Perform.{Arrays, lent, with_live, start_words, stored}
use Rattle.book.proofs.Stored.{Begun, study_word}

marks-many : length start_marks ≡ 16
unfolding start_marks
marks-many = refl

-- ---- the arrays with the network w and the case c

module _ (a : Arrays) (w : Network) (c : Case) (many : length c.states ≡ w.head.size)
    (wide : length (kept_words w) ≡ 2560) (accepted : kept_number (kept_words w) ≡ 0) (back : network_in (kept_words w) ≡ w)
    (words_fit : words_for w.head.size ≤ length a.words) (speeds_fit : speeds_for w.head.size ≤ length a.speeds) where
  abbrev n : ℕ
  n = w.head.size

  -- the words before the live case is put in
  abbrev bare : List ℕ
  bare = start_words w a.words

  abbrev z : Arrays
  z = with_live n c (lent bare a.speeds)

  abbrev head : List ℕ
  head = kept_words w ++ (start_marks ++ replicate (case_length n) 0)

  head_long : length head ≡ case_word n 1
  head_long = simp (length-append, length-replicate) (omega (arith, wide, marks-many))

  bare_is : bare ≡ head ++ drop (case_word n 1) a.words
  unfolding start_words
  bare_is = simp append_assoc

  bare_same : SameOutside 0 (case_word n 1) a.words bare
  bare_same =
      record {
        long = ap length bare_is ∙ simp (length-append, length-drop, length-replicate) (omega (arith, wide, marks-many));
        before = refl;
        after = ap (drop (case_word n 1)) bare_is ∙ drop_at head (drop (case_word n 1) a.words) (case_word n 1) head_long;
      }

  room : case_word n 0 + 16 * n + 8 ≤ length bare
  room = omega (arith, bare_same.long, words_fit)

  speed_room : case_speed n 0 + n ≤ length a.speeds
  speed_room = omega (arith, speeds_fit)

  put_same : SameOutside (case_word n 0) (case_word n 0 + case_length n) bare z.words
  put_same = put_outside (case_word n 0) n c bare room

  words_same : SameOutside 0 (case_word n 1) a.words z.words
  words_same = same_then bare_same (same_within put_same 0 (case_word n 1) (omega arith) (omega arith))

  speeds_same : SameOutside 0 n a.speeds z.speeds
  speeds_same = same_within (put_speeds_outside (case_word n 0) n c bare room (case_speed n 0) a.speeds speed_room) 0 n (omega arith) (omega arith)

  net_is : net_of z.words ≡ kept_words w
  unfolding start_words
  net_is = take_same put_same 2560 (omega arith) ∙ take_at (kept_words w) _ 2560 wide

  -- the words after the network
  word_is : (j : ℕ) → j < 16 → study_word z.words j ≡ get_or start_marks j 0
  unfolding start_words
  word_is j l =
      get_or-before put_same (run_word + j) 0 (omega arith)
      ∙ sym (get_or-drop 2560 bare j 0)
      ∙ ap (λ (m : List ℕ). get_or m j 0) (drop_at (kept_words w) (start_marks ++ (replicate (case_length n) 0 ++ drop (case_word n 1) a.words)) 2560 wide)
      ∙ get_or-append start_marks (replicate (case_length n) 0 ++ drop (case_word n 1) a.words) 0 j (rw marks-many l)

  size_is : size_at z.words ≡ n
  unfolding network_from
  size_is = ap (λ (m : List ℕ). (head_in m).size) net_is ∙ ap (λ (m : Network). m.head.size) back

  live_is : case_at z.words z.speeds 0 ≡ c
  live_is =
      ap (λ (m : ℕ). case_in z.words z.speeds (case_word m 0) (case_speed m 0) m) size_is
      ∙ case_put (case_word n 0) n c bare room (case_speed n 0) a.speeds speed_room many

  begun : Begun a z w c
  begun =
      record {
        words_long = words_same.long;
        speeds_long = speeds_same.long;
        kept = ap kept_number net_is ∙ accepted;
        network = ap network_in net_is ∙ back;
        words_are = word_is;
        live = live_is;
        words_past = λ m h. drop_same words_same (words_for m) (omega arith);
        speeds_past = λ m h. drop_same speeds_same (speeds_for m) (omega arith);
      }

-- ---- the call

module _ (a : Arrays) (file mvs speeds queues : List ℕ) (ok : file_number file ≡ 0)
    (words_fit : words_for (network_of file).head.size ≤ length a.words)
    (speeds_fit : speeds_for (network_of file).head.size ≤ length a.speeds) where
  abbrev brought : Network
  brought = network_of file

  long : length (kept_words brought) ≡ 2560
  unfolding network_from
  long = let head = (network_within file ok).head in length_kept brought head.curves_high head.size_high

  states-many : length (start_case brought mvs speeds queues).states ≡ brought.head.size
  unfolding start_case
  states-many = length-table (start_state brought mvs speeds queues) brought.head.size

  pub start-stored : Begun a (stored (start file mvs speeds queues) a) (network_of file) (start_case (network_of file) mvs speeds queues)
  unfolding stored
  start-stored = begun a brought (start_case brought mvs speeds queues) states-many long (kept_file file ok) (kept_network file ok) words_fit speeds_fit
