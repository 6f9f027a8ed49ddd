-- Of a chain the sums over all segments have one term: that of the segment before.
use Prim.Native.Nat.{ℕ, zero, suc, ◌+◌, ◌-◌, ◌*◌, ◌/◌, ◌≤◌, ◌<◌}
use mathlib.Core.Path.{◌≡◌, refl, sym, ap, ◌∙◌}
use mathlib.Core.Bool.{Bool, true, false, not, ◌||◌}
use mathlib.Core.List.{List, [], ◌∷◌}
use native.Mathlib.Nat.{le_of_eq}
use native.Mathlib.Omega.{arith}
use lib.Dec.{eqb}
use borrow.Author.Tests.{lt-ltb, le-ltb, eq-eqb, ne_eqb}
use Rattle.laws.specs.First.{some_below}
use Rattle.laws.specs.Sums.{sum_of}
use Rattle.laws.proofs.Sums.{sum_ext}
use Rattle.format.specs.declared.Head.{Head}
use Rattle.format.specs.declared.Following.{Following}
use Rattle.format.specs.declared.Segment.{Segment}
use Rattle.laws.proofs.First.{row_passed, row_later, row_skipped, first_zero, first_of_all}
use Rattle.laws.proofs.Tests.{or_left}
use Rattle.format.specs.Network.{Network, entry_of, segment_of, chain, head_bad, segment_bad, followers_bad, record_rows, segment_number}
use Rattle.format.proofs.Accepted.{network_number, FollowingWithin}
use Rattle.format.proofs.Rows.{following_within, rows_rest, head_passed, curves_passed, segments_passed, origins_passed}
use Rattle.format.proofs.Chain.{chain_followers, chain-before}
use Rattle.format.proofs.Before.{before_below}
use Rattle.metanet.specs.declared.Entry.{Entry}
use Rattle.metanet.specs.declared.SegmentState.{SegmentState}
use Rattle.metanet.specs.Case.{Case, state_of}
use Rattle.metanet.specs.Junction.{gathered, entry_speed, density_ahead}
use Rattle.metanet.specs.Step.{density, through, first_way, second_way, out_at, first_at, second_at, entering, passed_to, inflow, upstream, downstream, mainstream, new_state, step_state, step_states, exit_now, step_on, step_case}
use Rattle.metanet.specs.Speed.{new_speed}
use Rattle.metanet.specs.Line.{signed, metered, stepped, Line, change, case_of}
use Rattle.metanet.specs.Chain.{ChainMeans, as_version2, VersionsAlike}
use Rattle.metanet.proofs.Sending.{sum_front, arrives_all}
use Rattle.metanet.proofs.Entries.{no_entry, joined, joined_if, gathered_none, gathered_more, gathered_all}

module _ (h : Head) (entry : ℕ → ℕ → ℕ) (segment : ℕ → Segment) (chained : (i : ℕ) → i < h.size → (segment i).following ≡ chain h.size i) (states : List SegmentState) where
  abbrev g : ℕ → ℕ → Entry
  g d k = entering h entry segment states d k

  -- ---- what a chain says of followers
  next_first : (k : ℕ) → k + 1 < h.size → first_way h entry segment k ≡ k + 2
  unfolding chain
  next_first k l = ap (λ (f : Following). f.first) (chained k (omega arith)) ∙ simp (lt-ltb _ _ l)

  last_first : (k : ℕ) → k + 1 ≡ h.size → first_way h entry segment k ≡ 0
  unfolding chain
  last_first k e = ap (λ (f : Following). f.first) (chained k (omega (arith, e))) ∙ simp (le-ltb (k + 1) h.size (le_of_eq (sym e)))

  no_second : (k : ℕ) → k < h.size → second_way h entry segment k ≡ 0
  unfolding chain
  no_second k l = ap (λ (f : Following). f.second) (chained k l)

  whole_share : (k : ℕ) → k < h.size → (segment k).following.share ≡ 1000
  unfolding chain
  whole_share k l = ap (λ (f : Following). f.share) (chained k l)

  onward : (i : ℕ) → i < h.size → FollowingWithin h.size i (segment i).following
  onward i l = rw (chained i l) (following_within h i (chain h.size i) (chain_followers h i))

  -- ---- which segments enter
  more : (k d : ℕ) → g d (suc k) ≡ joined_if (eqb (second_way h entry segment k) d) (joined_if (eqb (first_way h entry segment k) d) (g d k) (first_at h entry segment states k) (out_at h entry segment states k) (state_of states k).speed) (second_at h entry segment states k) (out_at h entry segment states k) (state_of states k).speed
  more k d = gathered_more (first_way h entry segment) (second_way h entry segment) (first_at h entry segment states) (second_at h entry segment states) (out_at h entry segment states) (λ i. (state_of states i).speed) k d

  none : (d : ℕ) → g d 0 ≡ no_entry
  none d = gathered_none (first_way h entry segment) (second_way h entry segment) (first_at h entry segment states) (second_at h entry segment states) (out_at h entry segment states) (λ i. (state_of states i).speed) d

  -- none from segment i on enters segment i
  complete : (i : ℕ) → i < h.size → g (suc i) h.size ≡ g (suc i) i
  complete i l =
      gathered_all (first_way h entry segment) (second_way h entry segment) (first_at h entry segment states) (second_at h entry segment states) (out_at h entry segment states) (λ k. (state_of states k).speed)
      (λ k. (segment k).following.share) onward i h.size (omega arith) (omega arith)

  -- and none before segment i enters segment i + 1
  skipped : (i k : ℕ) → k < i → i < h.size → g (suc (suc i)) (suc k) ≡ g (suc (suc i)) k
  unfolding joined_if
  skipped i k m l =
      let f : eqb (first_way h entry segment k) (suc (suc i)) ≡ false = ne_eqb (first_way h entry segment k) (suc (suc i)) (λ e. omega (arith, e, next_first k (omega arith), m)) in
      let s : eqb (second_way h entry segment k) (suc (suc i)) ≡ false = ne_eqb (second_way h entry segment k) (suc (suc i)) (λ e. omega (arith, e, no_second k (omega arith))) in
      more k (suc (suc i)) ∙ simp (f, s)

  empty : (i k : ℕ) → k ≤ i → i < h.size → g (suc (suc i)) k ≡ no_entry
  empty i zero m l = none (suc (suc i))
  empty i (suc k) m l = skipped i k m l ∙ empty i k (omega arith) l

  first_entry : 0 < h.size → g 1 h.size ≡ no_entry
  first_entry l = complete 0 l ∙ none 1

  next_entry : (i : ℕ) → suc i < h.size → g (suc (suc i)) h.size ≡ joined no_entry (first_at h entry segment states i) (out_at h entry segment states i) (state_of states i).speed
  unfolding joined_if
  next_entry i l =
      let f : eqb (first_way h entry segment i) (suc (suc i)) ≡ true = eq-eqb (first_way h entry segment i) (suc (suc i)) (omega (arith, next_first i (omega arith))) in
      let s : eqb (second_way h entry segment i) (suc (suc i)) ≡ false = ne_eqb (second_way h entry segment i) (suc (suc i)) (λ e. omega (arith, e, no_second i (omega arith))) in
      complete (suc i) l ∙ more i (suc (suc i)) ∙ simp (f, s, empty i i (omega arith) (omega arith))

  -- ---- the sentences

  -- all of it goes to the first
  to_first_lem : (i : ℕ) → i < h.size → first_at h entry segment states i ≡ through h (segment i) (state_of states i)
  to_first_lem i l = ap (λ (x : ℕ). through h (segment i) (state_of states i) * x / 1000) (whole_share i l) ∙ whole (through h (segment i) (state_of states i))
    where
      whole : (x : ℕ) → x * 1000 / 1000 ≡ x
      whole x = omega arith

  enters_first : 0 < h.size → inflow h entry segment states 0 ≡ 0
  unfolding inflow gathered
  enters_first l = ap (λ (e : Entry). e.passed) (first_entry l)

  enters_next : (i : ℕ) → suc i < h.size → inflow h entry segment states (suc i) ≡ through h (segment i) (state_of states i)
  unfolding inflow gathered
  enters_next i l = ap (λ (e : Entry). e.passed) (next_entry i l) ∙ omega (arith, to_first_lem i (omega arith))

  before_first : 0 < h.size → upstream h entry segment states 0 ≡ (state_of states 0).speed
  unfolding upstream entry_speed
  before_first l = ap (λ (e : Entry). entry_speed e (state_of states 0).speed) (first_entry l)

  before_next : (i : ℕ) → suc i < h.size → upstream h entry segment states (suc i) ≡ (state_of states i).speed
  unfolding upstream entry_speed
  before_next i l = ap (λ (e : Entry). entry_speed e (state_of states (suc i)).speed) (next_entry i l)

  ahead : (i : ℕ) → i + 1 < h.size → downstream h entry segment states i ≡ density (segment (i + 1)) (state_of states (i + 1))
  unfolding downstream density_ahead
  ahead i l =
      let f : eqb (i + 2) 0 ≡ false = ne_eqb (i + 2) 0 (λ e. omega (arith, e)) in
      let e : i + 2 - 1 ≡ i + 1 = omega arith in
      simp (next_first i l, no_second i (omega arith), f, e)

  begins : (i : ℕ) → i < h.size → mainstream h entry segment i ≡ eqb i 0
  unfolding some_below
  begins zero l = ap not (before_below segment h.size 0 onward l)
  begins (suc i) l = ap not (chain-before segment h.size chained i l) ∙ sym (ne_eqb (suc i) 0 (λ e. omega (arith, e)))

  -- what goes off the road is what the last segment passes on
  gone : (m : ℕ) → h.size ≡ suc m → passed_to h entry segment states 0 ≡ through h (segment m) (state_of states m)
  unfolding inflow sum_of
  gone m e =
      let into : ℕ → ℕ = inflow h entry segment states in
      let rest : ℕ → ℕ = λ i. through h (segment i) (state_of states i) in
      let all = arrives_all (first_way h entry segment) (second_way h entry segment) (first_at h entry segment states) (second_at h entry segment states) h.size (λ i l. (onward i l).first_high) (λ i l. (onward i l).second_high) in
      let sends : sum_of (λ i. first_at h entry segment states i + second_at h entry segment states i) h.size ≡ sum_of rest h.size =
      sum_ext _ rest h.size (λ i l. omega (arith, to_first_lem i l)) in
      let enters : sum_of into (suc m) ≡ into 0 + sum_of (λ i. into (suc i)) m = sum_front into m in
      let later : sum_of (λ i. into (suc i)) m ≡ sum_of rest m = sum_ext _ rest m (λ i l. enters_next i (omega (arith, e, l))) in
      let first : into 0 ≡ 0 = enters_first (omega (arith, e)) in
      let sized : sum_of into h.size ≡ sum_of into (suc m) = ap (sum_of into) e in
      let sized' : sum_of rest h.size ≡ sum_of rest m + rest m = ap (sum_of rest) e in
      omega (arith, all, sends, enters, later, first, sized, sized')

pub chain_means : ChainMeans
chain_means h entry segment chained states =
    record {
      enters_first = enters_first h entry segment chained states;
      enters_next = enters_next h entry segment chained states;
      leaves = λ m e. ap (λ (x : ℕ). sum_of (exit_now h entry segment states) h.size + x) (gone h entry segment chained states m e);
      before_first = before_first h entry segment chained states;
      before_next = before_next h entry segment chained states;
      ahead = ahead h entry segment chained states;
      begins = begins h entry segment chained states;
    }

-- ---- as version 2

-- a step looks at nothing of the version
step_alike : (w : Network) (c : Case) (ds : List ℕ) → step_case (as_version2 w) c ds ≡ step_case w c ds
unfolding step_on step_states step_state new_state new_speed
step_alike w c ds = refl

lines_alike : (w : Network) (c : Case) (l : Line) → case_of (as_version2 w) c l ≡ case_of w c l
unfolding case_of change
lines_alike w c [] = refl
lines_alike w c (signed i limit compliance ∷ l) = lines_alike w (change (as_version2 w) c (signed i limit compliance)) l
lines_alike w c (metered i setting ∷ l) = lines_alike w (change (as_version2 w) c (metered i setting)) l
lines_alike w c (stepped ds ∷ l) = ap (λ (d : Case). case_of (as_version2 w) d l) (step_alike w c ds) ∙ lines_alike w _ l

-- and no row but that of the chain does
module _ (w : Network) (z : network_number w ≡ 0) where
  abbrev h2 : Head
  h2 = (as_version2 w).head

  segment-alike : (i : ℕ) → i < w.head.size → segment_number h2 (entry_of w) (segment_of w) i ≡ 0
  unfolding segment_number record_rows segment_bad followers_bad
  segment-alike i l =
      let passed = segments_passed w.head (entry_of w) (segment_of w) z i l in
      row_skipped _ _ _ (ap (λ (t : Bool). t || false) (or_left (segment_bad w.head i (segment_of w i)) _ (row_passed _ _ _ passed))) ∙ row_later _ _ _ passed

  accepted-alike : network_number (as_version2 w) ≡ 0
  unfolding head_bad
  accepted-alike =
      rows_rest h2 (entry_of w) (segment_of w) refl (head_passed w.head (entry_of w) (segment_of w) z)
      (first_of_all _ _ (curves_passed w.head (entry_of w) (segment_of w) z))
      ∙ first_zero _ _ (first_of_all _ _ segment-alike)
      ∙ first_of_all _ _ (origins_passed w.head (entry_of w) (segment_of w) z)

pub versions_alike : VersionsAlike
versions_alike w z one = record { accepted = accepted-alike w z; alike = lines_alike w }
