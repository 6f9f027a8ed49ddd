-- A case that is put into words and speeds is read back as it was. Words and speeds that hold a case, and are else as they were, are those
-- with that case put in.
use Prim.Native.Nat.{ℕ, ◌+◌, ◌*◌, ◌≤◌, ◌<◌}
use mathlib.Core.Path.{◌≡◌, refl, sym, ap, ◌∙◌}
use mathlib.Core.List.{List, [], ◌∷◌, ◌++◌, append_assoc}
use native.Mathlib.Nat.{add-zero, add_assoc}
use native.Mathlib.Omega.{arith}
use lib.ListN.{length, take, drop, get_or, length-append, length-drop, take-append-drop}
use lib.Seq.{drop-drop, get_or-append-add}
use lib.Ieee.{Float, nan}
use Rattle.laws.specs.Lists.{table, part, put_part, parts}
use Rattle.laws.proofs.Lists.{length-table, get_or-table, table_of, length-parts, parts_at, parts_of, part_at, length_part, part_listed, listed, three_parts}
use Rattle.laws.proofs.Outside.{SameOutside, same_within, put_same, part_put, part_part}
use Rattle.metanet.specs.declared.SegmentState.{SegmentState}
use Rattle.metanet.specs.Case.{Case, no_state, state_of}
use Rattle.metanet.specs.Words.{state_in, state_at, states_in, case_in, put_state, put_case, put_case_speeds}
use Rattle.metanet.proofs.StateWords.{state-take}
use Rattle.metanet.proofs.SoundLaws.{state_read}
use Rattle.metanet.proofs.InWords.{words_used}

-- ---- the words of a state

length_put : (r : SegmentState) (w : List ℕ) → length w ≡ 16 → length (put_state r w) ≡ 16
unfolding put_state
length_put r w many = simp (length-drop, many)

state_put : (r : SegmentState) (w : List ℕ) → state_in (put_state r w) r.speed ≡ r
unfolding put_state state_in
state_put r w = refl

-- a state that is there, put over words with the same free ones
state_there : (w w' : List ℕ) (v : Float) → length w' ≡ 16 → drop words_used w' ≡ drop words_used w → put_state (state_in w' v) w ≡ w'
unfolding put_state state_in listed
state_there w w' v many free =
    (λ j. listed 0 w' 0 0 words_used ++ sym free j)
    ∙ ap (λ (l : List ℕ). l ++ drop words_used w') (sym (part_listed 0 w' 0 words_used (omega (arith, many))))
    ∙ take-append-drop words_used w'

-- ---- a case is put in

module _ (at n : ℕ) (c : Case) (words : List ℕ) (room : at + 16 * n + 8 ≤ length words) where
  abbrev own : ℕ → List ℕ
  own i = put_state (state_of c.states i) (part (at + 16 * i) 16 words)

  abbrev totals : List ℕ
  totals = c.steps ∷ c.arrivals ∷ c.exits ∷ c.time ∷ []

  abbrev written : List ℕ
  written = parts own n ++ totals

  abbrev put : List ℕ
  put = put_case at n c words

  own_many : (i : ℕ) → i < n → length (own i) ≡ 16
  own_many i l = length_put (state_of c.states i) _ (length_part words (at + 16 * i) 16 (omega (arith, room)))

  states-many : length (parts own n) ≡ 16 * n
  states-many = length-parts 16 own n own_many

  written_many : length written ≡ 16 * n + 4
  written_many = length-append (parts own n) totals ∙ ap (λ (m : ℕ). m + 4) states-many

  there : at + (16 * n + 4) ≤ length words
  there = omega (arith, room)

  put_is : put ≡ put_part at (16 * n + 4) written words
  unfolding put_case
  put_is =
      ap (λ (m : ℕ). take at words ++ (parts own n ++ (totals ++ drop m words))) (add_assoc at (16 * n) 4)
      ∙ ap (λ (l : List ℕ). take at words ++ l) (sym (append_assoc (parts own n) totals (drop (at + (16 * n + 4)) words)))

  put_part_lem : part at (16 * n + 4) put ≡ written
  put_part_lem = ap (part at (16 * n + 4)) put_is ∙ part_put at (16 * n + 4) written words written_many there

  -- nothing else is changed
  pub put_outside : SameOutside at (at + (16 * n + 8)) words put
  put_outside =
      let s : SameOutside at (at + (16 * n + 4)) words (put_part at (16 * n + 4) written words) = put_same at (16 * n + 4) written words written_many there in
      let t : SameOutside at (at + (16 * n + 8)) words (put_part at (16 * n + 4) written words) = same_within s at (at + (16 * n + 8)) (omega arith) (omega arith) in
      rw put_is t

  state-words : (i : ℕ) → i < n → part (at + 16 * i) 16 put ≡ own i
  state-words i l =
      sym (part_part at (16 * n + 4) (16 * i) 16 put (omega arith))
      ∙ ap (part (16 * i) 16) put_part_lem
      ∙ parts_at 16 own n i totals own_many l

  total_back : (k : ℕ) → k < 4 → get_or put (at + 16 * n + k) 0 ≡ get_or totals k 0
  total_back k l =
      ap (λ (m : ℕ). get_or put m 0) (add_assoc at (16 * n) k)
      ∙ sym (part_at put at (16 * n + 4) (16 * n + k) 0 (omega arith))
      ∙ ap (λ (w : List ℕ). get_or w (16 * n + k) 0) put_part_lem
      ∙ ap (λ (m : ℕ). get_or written (m + k) 0) (sym states-many)
      ∙ get_or-append-add (parts own n) totals k 0

  module _ (from : ℕ) (speeds : List Float) (speed_room : from + n ≤ length speeds) where
    abbrev made : List Float
    made = table (λ i. (state_of c.states i).speed) n

    abbrev put_speeds : List Float
    put_speeds = put_case_speeds from n c speeds

    made_many : length made ≡ n
    made_many = length-table (λ i. (state_of c.states i).speed) n

    pub put_speeds_outside : SameOutside from (from + n) speeds put_speeds
    unfolding put_case_speeds
    put_speeds_outside = put_same from n made speeds made_many speed_room

    speed_back : (i : ℕ) → i < n → get_or put_speeds (from + i) nan ≡ (state_of c.states i).speed
    unfolding put_case_speeds
    speed_back i l =
        sym (part_at put_speeds from n i nan l)
        ∙ ap (λ (v : List Float). get_or v i nan) (part_put from n made speeds made_many speed_room)
        ∙ get_or-table (λ i. (state_of c.states i).speed) n i nan l

    state_back : (i : ℕ) → i < n → state_at put put_speeds at from i ≡ state_of c.states i
    state_back i l =
        sym (state-take (drop (at + 16 * i) put) (get_or put_speeds (from + i) nan))
        ∙ (λ j. state_in (state-words i l j) (speed_back i l j))
        ∙ state_put (state_of c.states i) (part (at + 16 * i) 16 words)

    -- and the case is read back
    pub case_put : length c.states ≡ n → case_in put put_speeds at from n ≡ c
    unfolding case_in states_in
    case_put many =
        λ j. record {
          states = table_of (state_at put put_speeds at from) c.states n no_state many state_back j;
          steps = (ap (λ (m : ℕ). get_or put m 0) (sym (add-zero (at + 16 * n))) ∙ total_back 0 (omega arith)) j;
          arrivals = total_back 1 (omega arith) j;
          exits = total_back 2 (omega arith) j;
          time = total_back 3 (omega arith) j;
        }

-- ---- a case that is there

-- the words words' are words, but for the figures of a case of n segments at place at
pub record SameButCase (at n : ℕ) (words words' : List ℕ) : Type 0 where
  pub outside : SameOutside at (at + 16 * n + 4) words words'
  pub free : (i : ℕ) → i < n → drop words_used (part (at + 16 * i) 16 words') ≡ drop words_used (part (at + 16 * i) 16 words)

module _ (words' : List ℕ) (speeds' : List Float) (at from n : ℕ) {c : Case} (is : case_in words' speeds' at from n ≡ c) where
  module _ {words : List ℕ} (s : SameButCase at n words words') (room : at + 16 * n + 8 ≤ length words) where
    state_is : (i : ℕ) → i < n → put_state (state_of (case_in words' speeds' at from n).states i) (part (at + 16 * i) 16 words) ≡ part (at + 16 * i) 16 words'
    unfolding case_in
    state_is i l =
        ap (λ (r : SegmentState). put_state r (part (at + 16 * i) 16 words)) (state_read words' speeds' at from n i l ∙ sym (state-take (drop (at + 16 * i) words') _))
        ∙ state_there (part (at + 16 * i) 16 words) (part (at + 16 * i) 16 words') _ (length_part words' (at + 16 * i) 16 (omega (arith, room, s.outside.long))) (s.free i l)

    states_are : parts (λ i. put_state (state_of (case_in words' speeds' at from n).states i) (part (at + 16 * i) 16 words)) n ≡ part at (16 * n) words'
    states_are =
        parts_of _ 16 (drop at words') n (λ i l. state_is i l ∙ ap (take 16) (sym (drop-drop (16 * i) at words')))

    totals_are : get_or words' (at + 16 * n) 0 ∷ get_or words' (at + 16 * n + 1) 0 ∷ get_or words' (at + 16 * n + 2) 0 ∷ get_or words' (at + 16 * n + 3) 0 ∷ drop (at + 16 * n + 4) words ≡ drop (at + 16 * n) words'
    unfolding listed
    totals_are =
        (λ j. get_or words' (sym (add-zero (at + 16 * n)) j) 0 ∷ get_or words' (at + 16 * n + 1) 0 ∷ get_or words' (at + 16 * n + 2) 0 ∷ get_or words' (at + 16 * n + 3) 0 ∷ sym s.outside.after j)
        ∙ (λ j. sym (part_listed 0 words' (at + 16 * n) 4 (omega (arith, room, s.outside.long))) j ++ sym (drop-drop 4 (at + 16 * n) words') j)
        ∙ take-append-drop 4 (drop (at + 16 * n) words')

    pub put_there : put_case at n c words ≡ words'
    unfolding put_case case_in
    put_there =
        ap (λ (x : Case). put_case at n x words) (sym is)
        ∙ (λ j. sym s.outside.before j ++ (states_are j ++ totals_are j))
        ∙ three_parts words' at (16 * n)

  module _ {speeds : List Float} (s : SameOutside from (from + n) speeds speeds') (room : from + n ≤ length speeds) where
    speed_is : (i : ℕ) → i < n → (state_of (case_in words' speeds' at from n).states i).speed ≡ get_or (part from n speeds') i nan
    unfolding case_in state_in
    speed_is i l = ap (λ (r : SegmentState). r.speed) (state_read words' speeds' at from n i l) ∙ sym (part_at speeds' from n i nan l)

    pub put_speeds_there : put_case_speeds from n c speeds ≡ speeds'
    unfolding put_case_speeds
    put_speeds_there =
        ap (λ (x : Case). put_case_speeds from n x speeds) (sym is)
        ∙ (λ j. sym s.before j ++ (table_of _ (part from n speeds') n nan (length_part speeds' from n (omega (arith, room, s.long))) speed_is j ++ sym s.after j))
        ∙ three_parts speeds' from n
