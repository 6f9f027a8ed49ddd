-- The 16 words of a state: how many they are, and what is read back of them after each call that writes them.
use Prim.Native.Nat.{ℕ}
use mathlib.Core.Path.{◌≡◌, refl}
use mathlib.Core.Bool.{Bool, true, false}
use mathlib.Core.List.{List}
use lib.Dec.{eqb}
use lib.IntN.{ℤ}
use lib.ListN.{length, length-set}
use lib.Ieee.{Float}
use Rattle.laws.specs.Lists.{part}
use Rattle.laws.proofs.Lists.{get_or-set_test, get_or-take_test}
use Rattle.format.specs.declared.Head.{Head}
use Rattle.format.specs.declared.Segment.{Segment}
use Rattle.metanet.specs.declared.SegmentState.{SegmentState}
use Rattle.metanet.specs.declared.Neighbours.{Neighbours}
use Rattle.metanet.specs.declared.Setting.{Setting}
use Rattle.metanet.specs.Case.{alinea_kind}
use Rattle.metanet.specs.Change.{signed_state, metered_state}
use Rattle.metanet.specs.Step.{new_state}
use Rattle.metanet.specs.Words.{state_in}
use Rattle.metanet.proofs.InWords.{signed_words, metered_words, stepped_words}

-- a state stands in 16 words
pub state-take : (w : List ℕ) (v : Float) → state_in (part 0 16 w) v ≡ state_in w v
unfolding state_in
state-take w v = simp get_or-take_test

-- ---- how many

pub length-signed : (limit : ℕ) (compliance : ℤ) (w : List ℕ) → length (signed_words limit compliance w) ≡ length w
unfolding signed_words
length-signed limit compliance w = simp length-set

pub length-metered : (q : ℕ) (setting : Setting) (w : List ℕ) → length (metered_words q setting w) ≡ length w
unfolding metered_words
length-metered q setting w = simp length-set

pub length-stepped : (w : List ℕ) (r : SegmentState) → length (stepped_words w r) ≡ length w
unfolding stepped_words
length-stepped w r = go (eqb r.ramp.kind alinea_kind) refl
  where
    go : (b : Bool) → eqb r.ramp.kind alinea_kind ≡ b → length (stepped_words w r) ≡ length w
    go true e = simp (e, length-set)
    go false e = simp (e, length-set)

-- ---- what is read back

module _ (w : List ℕ) (v : Float) (many : length w ≡ 16) where
  pub state-signed : (limit : ℕ) (compliance : ℤ) → state_in (signed_words limit compliance w) v ≡ signed_state limit compliance (state_in w v)
  unfolding state_in signed_words
  state-signed limit compliance = simp (get_or-set_test, length-set, many)

  pub state-metered : (q : ℕ) (setting : Setting) → state_in (metered_words q setting w) v ≡ metered_state q setting (state_in w v)
  unfolding state_in metered_words
  state-metered q setting = simp (get_or-set_test, length-set, many)

  pub state-stepped : (h : Head) (s : Segment) (f t d : ℕ) (on_ramp : Bool) (o : Neighbours)
      → let r = new_state h s f (state_in w v) t d on_ramp o in state_in (stepped_words w r) r.speed ≡ r
  unfolding state_in stepped_words new_state
  state-stepped h s f t d on_ramp o = go (eqb (state_in w v).ramp.kind alinea_kind) refl
    where
      go : (b : Bool) → eqb (state_in w v).ramp.kind alinea_kind ≡ b
          → let r = new_state h s f (state_in w v) t d on_ramp o in state_in (stepped_words w r) r.speed ≡ r
      go true e = simp (e, get_or-set_test, length-set, many)
      go false e = simp (e, get_or-set_test, length-set, many)
