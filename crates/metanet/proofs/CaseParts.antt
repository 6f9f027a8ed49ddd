-- A case is what its own words and speeds say, wherever they stand; and one state put into its words is that state of the case.
use Prim.Native.Nat.{ℕ, ◌+◌, ◌*◌, ◌≤◌, ◌<◌}
use mathlib.Core.Path.{◌≡◌, refl, sym, ap, subst, ◌∙◌}
use mathlib.Core.Bool.{Bool, true, false, cond, ◌&&◌}
use mathlib.Core.List.{List}
use native.Mathlib.Nat.{add-zero, zero-add, mul-le-mul_left, mul-suc}
use native.Mathlib.Decide.{dec_lt}
use native.Mathlib.Omega.{arith}
use lib.Dec.{eqb, ltb}
use lib.ListN.{length, drop, get_or, set}
use lib.Ieee.{Float, nan}
use borrow.Author.Tests.{eqb-true}
use Rattle.laws.specs.Lists.{table, part, put_part}
use Rattle.laws.proofs.Lists.{get_or-set_test, table_ext, table-set, part_at}
use Rattle.laws.proofs.Outside.{SameOutside, part_part, part_before, part_after, get_or-after, put_same, part_put}
use Rattle.metanet.specs.declared.SignSetting.{SignSetting}
use Rattle.metanet.specs.declared.Ramp.{Ramp}
use Rattle.metanet.specs.declared.SegmentState.{SegmentState}
use Rattle.metanet.specs.Case.{Case, no_state, state_of}
use Rattle.metanet.specs.Words.{state_in, state_at, states_in, case_in}
use Rattle.metanet.proofs.StateWords.{state-take}

-- the states with r at place k, which may be past them: what passes from the state that was there to r stays true of every state
pub set_keeps : (P : SegmentState → Type 0) (states : List SegmentState) (k j : ℕ) (r : SegmentState) → (P (state_of states k) → P r) → P (state_of states j) → P (state_of (set states k r) j)
set_keeps P states k j r same here = rw (get_or-set_test states k j r no_state) (go (eqb k j) (ltb k (length states)) refl)
  where
    go : (s t : Bool) → eqb k j ≡ s → P (cond (s && t) r (state_of states j))
    go true true e = same (subst (λ (i : ℕ). P (state_of states i)) (sym (eqb-true k j e)) here)
    go true false e = here
    go false t e = here

-- what a sign or a meter makes of a state
abbrev pub reset : SegmentState → SignSetting → Ramp → SegmentState
reset r sign ramp = record { count = r.count; queue = r.queue; sign = sign; ramp = ramp; flows = r.flows; speed = r.speed }

-- two places with the same 16 words have the same state
state_same : (words words' : List ℕ) (a b : ℕ) (v : Float) → part a 16 words ≡ part b 16 words' → state_in (drop a words) v ≡ state_in (drop b words') v
state_same words words' a b v e = sym (state-take (drop a words) v) ∙ ap (λ (w : List ℕ). state_in w v) e ∙ state-take (drop b words') v

-- state i ends within the states
state_within : (i n : ℕ) → i < n → 16 * i + 16 ≤ 16 * n
state_within i n h = omega (arith, mul-le-mul_left 16 h, mul-suc 16 i)

-- ---- a case, by its own parts

module _ (words : List ℕ) (speeds : List Float) (at from n : ℕ) where
  abbrev own : List ℕ
  own = part at (16 * n + 8) words

  abbrev own_speeds : List Float
  own_speeds = part from n speeds

  state_own : (i : ℕ) → i < n → state_at words speeds at from i ≡ state_at own own_speeds 0 0 i
  state_own i h =
      let room : 16 * i + 16 ≤ 16 * n + 8 = omega (arith, state_within i n h) in
      (λ j. state_in (drop (at + 16 * i) words) ((sym (part_at speeds from n i nan h) ∙ ap (λ (m : ℕ). get_or own_speeds m nan) (sym (zero-add i))) j))
      ∙ state_same words own (at + 16 * i) (0 + 16 * i) _
      (sym (part_part at (16 * n + 8) (16 * i) 16 words room) ∙ ap (λ (m : ℕ). part m 16 own) (sym (zero-add (16 * i))))

  total_own : (k : ℕ) → k < 8 → get_or words (at + 16 * n + k) 0 ≡ get_or own (0 + 16 * n + k) 0
  total_own k h =
      ap (λ (m : ℕ). get_or words m 0) (regroup at (16 * n) k)
      ∙ sym (part_at words at (16 * n + 8) (0 + 16 * n + k) 0 (omega arith))
    where
      regroup : (a b c : ℕ) → a + b + c ≡ a + (0 + b + c)
      regroup a b c = omega arith

  case_own : case_in words speeds at from n ≡ case_in own own_speeds 0 0 n
  unfolding case_in states_in
  case_own =
      λ j. record {
        states = table_ext (state_at words speeds at from) (state_at own own_speeds 0 0) n state_own j;
        steps = (ap (λ (m : ℕ). get_or words m 0) (sym (add-zero (at + 16 * n))) ∙ total_own 0 (omega arith) ∙ ap (λ (m : ℕ). get_or own m 0) (add-zero (0 + 16 * n))) j;
        arrivals = total_own 1 (omega arith) j;
        exits = total_own 2 (omega arith) j;
        time = total_own 3 (omega arith) j;
      }

-- two places with the same words and speeds have the same case
pub case_same : (words words' : List ℕ) (speeds speeds' : List Float) (at at' from from' n : ℕ)
    → part at (16 * n + 8) words ≡ part at' (16 * n + 8) words' → part from n speeds ≡ part from' n speeds'
    → case_in words speeds at from n ≡ case_in words' speeds' at' from' n
case_same words words' speeds speeds' at at' from from' n e f =
    case_own words speeds at from n ∙ (λ j. case_in (e j) (f j) 0 0 n) ∙ sym (case_own words' speeds' at' from' n)

-- ---- a state put into a case

module _ (words : List ℕ) (speeds : List Float) (at from n i : ℕ) (ys : List ℕ) (h : i < n) (many : length ys ≡ 16) (room : at + 16 * n ≤ length words) where
  abbrev place : ℕ
  place = at + 16 * i

  abbrev c : Case
  c = case_in words speeds at from n

  abbrev put : List ℕ
  put = put_part place 16 ys words

  there : place + 16 ≤ length words
  there = omega (arith, state_within i n h)

  pub state_put_same : SameOutside place (place + 16) words put
  state_put_same = put_same place 16 ys words many there

  state_new : state_at put speeds at from i ≡ state_in ys (get_or speeds (from + i) nan)
  state_new =
      sym (state-take (drop place put) _) ∙ ap (λ (w : List ℕ). state_in w (get_or speeds (from + i) nan)) (part_put place 16 ys words many there)

  pub words_other : (j : ℕ) → (j ≡ i → ⊥) → part (at + 16 * j) 16 put ≡ part (at + 16 * j) 16 words
  words_other j other = go (dec_lt j i)
    where
      go : Dec (j < i) → part (at + 16 * j) 16 put ≡ part (at + 16 * j) 16 words
      go (yes b) = part_before state_put_same (at + 16 * j) 16 (omega (arith, state_within j i b))
      go (no b) = part_after state_put_same (at + 16 * j) 16 (omega (arith, state_within i j (omega (arith, other))))

  state_other : (j : ℕ) → j < n → (j ≡ i → ⊥) → state_at put speeds at from j ≡ state_at words speeds at from j
  state_other j l other = state_same put words (at + 16 * j) (at + 16 * j) _ (words_other j other)

  total_kept : (m : ℕ) → at + 16 * n ≤ m → get_or put m 0 ≡ get_or words m 0
  total_kept m l = get_or-after state_put_same m 0 (omega (arith, state_within i n h))

  pub state_put : case_in put speeds at from n ≡ record { states = set c.states i (state_in ys (get_or speeds (from + i) nan)); steps = c.steps; arrivals = c.arrivals; exits = c.exits; time = c.time }
  unfolding case_in states_in
  state_put =
      λ j. record {
        states =
            (table-set (state_at words speeds at from) (state_at put speeds at from) n i h state_other
            ∙ ap (λ (r : SegmentState). set (table (state_at words speeds at from) n) i r) state_new) j;
        steps = total_kept (at + 16 * n) (omega arith) j;
        arrivals = total_kept (at + 16 * n + 1) (omega arith) j;
        exits = total_kept (at + 16 * n + 2) (omega arith) j;
        time = total_kept (at + 16 * n + 3) (omega arith) j;
      }
