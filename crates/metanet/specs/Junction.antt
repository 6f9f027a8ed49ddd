-- Freeways that part and meet (F-3): where vehicles go, and what enters a segment. By numbers: number 0 is off the road, number i + 1 is
-- segment i, counted from 0. Every segment goes on to two numbers, first and second, so that one following segment and none are no cases
-- of their own: what goes to number 0 leaves.
use Rattle.std.specs.Prelude.{ℕ, zero, suc, ◌+◌, ◌-◌, ◌*◌, ◌/◌, Bool, cond, eqb, Float}
use Rattle.std.specs.Float.Ieee.{eq}
use Rattle.laws.specs.Real.{real, ◌⊕◌, ◌⊗◌, ◌⊘◌}
use Rattle.laws.specs.Sums.{sum_of}
use Rattle.format.specs.declared.Following.{Following}
use Rattle.metanet.specs.declared.Entry.{Entry}

-- ---- after the exit part, the whole part of rest × share ÷ 1000 goes to the first, what remains to the second
abbrev pub to_first : ℕ → ℕ → ℕ
to_first rest share = rest * share / 1000

abbrev pub to_second : ℕ → ℕ → ℕ
to_second rest share = rest - to_first rest share

-- what number d gets of an amount that goes to the number name
abbrev pub sent : ℕ → ℕ → ℕ → ℕ
sent name d amount = cond (eqb name d) amount 0

-- what number d gets from the segments below n, of which segment i lets a i go to its first and b i to its second
unfoldable pub reaching : (ℕ → ℕ) → (ℕ → ℕ) → (ℕ → ℕ) → (ℕ → ℕ) → ℕ → ℕ → ℕ
unfolding sum_of
reaching first second a b n d = sum_of (λ i. sent (first i) d (a i) + sent (second i) d (b i)) n

-- ---- what enters, from segments with the outflows out i and the speeds speed i

-- the sum with x more, where a segment enters
abbrev pub with_more : Bool → Float → Float → Float
with_more enters x sum = cond enters (sum ⊕ x) sum

module _ (first second : ℕ → ℕ) (a b out : ℕ → ℕ) (speed : ℕ → Float) where
  -- the sum of outflow × v of the segments below n that enter number d, added in segment order
  unfoldable pub weighted_to : ℕ → ℕ → Float
  weighted_to d zero = real 0
  weighted_to d (suc n) =
      with_more (eqb (second n) d) (real (out n) ⊗ speed n) (with_more (eqb (first n) d) (real (out n) ⊗ speed n) (weighted_to d n))

  -- v of the last of them: of the only one, where there is one
  unfoldable pub last_to : ℕ → ℕ → Float
  last_to d zero = real 0
  last_to d (suc n) = cond (eqb (second n) d) (speed n) (cond (eqb (first n) d) (speed n) (last_to d n))

  -- all that enters number d from the segments below n
  unfoldable pub gathered : ℕ → ℕ → Entry
  unfolding reaching weighted_to last_to
  gathered d n =
      record {
        passed = reaching first second a b n d;
        outflows = reaching first second out out n d;
        weighted = weighted_to d n;
        segments = reaching first second (λ _. 1) (λ _. 1) n d;
        last = last_to d n;
      }

-- u: v itself where none enters; v of the one that does; where several enter, the sum of outflow × v over the sum of outflows, or v itself
-- if that sum is 0
unfoldable pub entry_speed : Entry → Float → Float
entry_speed e v =
    cond (eqb e.segments 0) v
    (cond (eqb e.segments 1) e.last (cond (eqb e.outflows 0) v (e.weighted ⊘ real e.outflows)))

-- ---- ρ' with two followers: the sum of ρ² over the sum of ρ, first plus second, or 0 if that sum is 0
unfoldable pub two_after : Float → Float → Float
two_after x y = cond (eq (x ⊕ y) (real 0)) (real 0) ((x ⊗ x ⊕ y ⊗ y) ⊘ (x ⊕ y))

-- ρ': the boundary's where there is no follower, the only one's density, or that of both; density k is that of number k
unfoldable pub density_ahead : Following → Float → (ℕ → Float) → Float
density_ahead f boundary density =
    cond (eqb f.first 0) boundary (cond (eqb f.second 0) (density f.first) (two_after (density f.first) (density f.second)))
