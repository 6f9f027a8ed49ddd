-- A network, and the rows of the table that judge its numbers: 3, 4, 6, then 7, 27 and 8 segment by segment, then 28.
use Rattle.std.specs.Prelude.{ℕ, ◌+◌, ◌*◌, Bool, cond, not, ◌&&◌, ◌||◌, List, [], ◌∷◌, get_or, ltb, leb, eqb}
use Rattle.laws.specs.First.{any_of, some_below, outside, row, first, first_of}
use Rattle.laws.specs.Lists.{table}
use Rattle.format.specs.declared.Head.{Head}
use Rattle.format.specs.declared.Following.{Following}
use Rattle.format.specs.declared.Segment.{Segment}

-- Head, c curves of 201 entries each, n segments. A following segment has a higher number
pub record Network : Type 0 where
  pub head : Head
  pub curves : List (List ℕ)
  pub segments : List Segment

abbrev pub no_following : Following
no_following = record { first = 0; second = 0; share = 0 }

abbrev pub no_segment : Segment
no_segment = record { metres = 0; lanes = 0; curve = 0; critical = 0; jam = 0; origin = 0; exit = 0; most = 0; following = no_following }

-- the network with the head h, the entries entry k j and the segments segment i
unfoldable pub network_from : Head → (ℕ → ℕ → ℕ) → (ℕ → Segment) → Network
network_from h entry segment =
    record { head = h; curves = table (λ k. table (entry k) 201) h.curves; segments = table segment h.size }

-- entry j of curve k: the speed of equation 5 at density j, in whole m/h
abbrev pub entry_of : Network → ℕ → ℕ → ℕ
entry_of w k j = get_or (get_or w.curves k []) j 0

-- segment i, counted from 0
abbrev pub segment_of : Network → ℕ → Segment
segment_of w i = get_or w.segments i no_segment

-- ---- 3: version 1 or 2. A version 1 file means the chain: each segment, i counted from 0, is followed by the next, the last by none
abbrev pub version_bad : Head → Bool
version_bad h = outside 1 h.version 2

unfoldable pub chain : ℕ → ℕ → Following
chain n i = record { first = cond (ltb (i + 1) n) (i + 2) 0; second = 0; share = 1000 }

-- the same first, second and share
abbrev pub same_following : Following → Following → Bool
same_following f g = eqb f.first g.first && eqb f.second g.second && eqb f.share g.share

-- ---- 4: T 1..60; n 1..40; c 1..8; τ 1..120; ν 0..200; κ 1..200; δ 0..1000
abbrev pub head_tests : Head → List Bool
head_tests h =
    outside 1 h.step 60 ∷ outside 1 h.size 40 ∷ outside 1 h.curves 8 ∷ outside 1 h.tau 120
    ∷ ltb 200 h.nu ∷ outside 1 h.kappa 200 ∷ ltb 1000 h.delta ∷ []

unfoldable pub head_bad : Head → Bool
head_bad h = any_of (head_tests h)

-- ---- 6: 1,000 ≤ e0 ≤ 200,000, none above the one before. A curve is given by its entries e 0 .. e 200

-- 6 where the entry after entry j is above it
unfoldable pub rising : (ℕ → ℕ) → ℕ → ℕ
rising e j = row (ltb (e j) (e (j + 1))) 6 0

unfoldable pub curve_number : (ℕ → ℕ) → ℕ
curve_number e = row (outside 1000 (e 0) 200000) 6 (first_of (rising e) 200)

-- ---- 7: L 100..2000; H 1..8; curve 0..c−1; C 1..J−1; J 2..200; origin 0 or 1, 1 at segment 1;
-- X 0..1000, 0 with no following segment; Q 1..300,000 with an origin, else 0. Segment i is counted from 0
abbrev pub segment_tests : Head → ℕ → Segment → List Bool
segment_tests h i s =
    outside 100 s.metres 2000 ∷ outside 1 s.lanes 8 ∷ leb h.curves s.curve
    ∷ ltb s.critical 1 ∷ leb s.jam s.critical ∷ outside 2 s.jam 200
    ∷ ltb 1 s.origin ∷ (eqb i 0 && eqb s.origin 0)
    ∷ ltb 1000 s.exit ∷ (eqb s.following.first 0 && eqb s.following.second 0 && ltb 0 s.exit)
    ∷ (eqb s.origin 0 && ltb 0 s.most) ∷ (eqb s.origin 1 && outside 1 s.most 300000) ∷ []

-- the share to the first 0..1000, and 1000 where there is no second
abbrev pub share_tests : Segment → List Bool
share_tests s = ltb 1000 s.following.share ∷ (eqb s.following.second 0 && not (eqb s.following.share 1000)) ∷ []

unfoldable pub segment_bad : Head → ℕ → Segment → Bool
segment_bad h i s = any_of (segment_tests h i s) || any_of (share_tests s)

-- version 1, and not the chain: no file says so, but words could
abbrev pub off_chain : Head → ℕ → Segment → Bool
off_chain h i s = eqb h.version 1 && not (same_following s.following (chain h.size i))

-- ---- 27: a follower not higher, above n, a second without a first, or one segment named twice

-- a follower, by its number, not higher than segment i, which has number i + 1
abbrev pub not_higher : ℕ → ℕ → Bool
not_higher i k = ltb 0 k && leb k (i + 1)

abbrev pub follower_tests : Head → ℕ → Following → List Bool
follower_tests h i f =
    (not_higher i f.first || not_higher i f.second) ∷ (ltb h.size f.first || ltb h.size f.second)
    ∷ (eqb f.first 0 && ltb 0 f.second) ∷ (ltb 0 f.second && eqb f.first f.second) ∷ []

unfoldable pub followers_bad : Head → ℕ → Following → Bool
followers_bad h i f = any_of (follower_tests h i f)

-- ---- 8: F × T > 3600 × L, F being the first entry of the segment's curve
abbrev pub too_fast : Head → ℕ → Segment → Bool
too_fast h F s = ltb (3600 * s.metres) (F * h.step)

-- 7, where a field is bad, then 27, then 8
unfoldable pub record_rows : Bool → Head → ℕ → ℕ → Segment → ℕ
record_rows bad h i F s = row bad 7 (row (followers_bad h i s.following) 27 (row (too_fast h F s) 8 0))

-- ---- 28: a segment with neither a segment before it nor an origin. Segments are given by segment i, i counted from 0

-- a segment of this following goes on to segment i
abbrev pub goes_to : ℕ → Following → Bool
goes_to i f = eqb f.first (i + 1) || eqb f.second (i + 1)

-- one of the n segments goes on to segment i
unfoldable pub has_before : (ℕ → Segment) → ℕ → ℕ → Bool
unfolding some_below
has_before segment n i = some_below (λ k. goes_to i (segment k).following) n

unfoldable pub origin_number : (ℕ → Segment) → ℕ → ℕ → ℕ
origin_number segment n i = row (eqb (segment i).origin 0 && not (has_before segment n i)) 28 0

-- ---- all these rows of a network that is given by its head, its entries and its segments: curves in order, then segment by segment

unfoldable pub segment_number : Head → (ℕ → ℕ → ℕ) → (ℕ → Segment) → ℕ → ℕ
segment_number h entry segment i =
    let s = segment i in
    record_rows (segment_bad h i s || off_chain h i s) h i (entry s.curve 0) s

unfoldable pub rows_number : Head → (ℕ → ℕ → ℕ) → (ℕ → Segment) → ℕ
rows_number h entry segment =
    row (version_bad h) 3
    (row (head_bad h) 4
    (first (first_of (λ k. curve_number (entry k)) h.curves)
    (first (first_of (segment_number h entry segment) h.size)
    (first_of (origin_number segment h.size) h.size))))
