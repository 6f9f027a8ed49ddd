-- A sign or a setting that its call permits keeps what holds of the line.
use Prim.Native.Nat.{ℕ, zero, suc, ◌+◌, ◌-◌, ◌≤◌, ◌<◌}
use native.Mathlib.Omega.{arith}
use native.Mathlib.Nat.{suc-ne-zero, add-zero}
use mathlib.Core.Path.{◌≡◌, refl, sym, ap, subst}
use mathlib.Core.Bool.{Bool, true, false, not, ◌&&◌, ◌||◌}
use mathlib.Core.List.{List, [], ◌∷◌, ◌++◌}
use lib.Dec.{eqb}
use lib.IntN.{ℤ, pos, negsuc}
use lib.ListN.{length, set, length-set}
use lib.Seq.{get_or-set_same, get_or-set_other}
use borrow.Author.Tests.{ltb-false, eqb-true, eqb-false, le-ltb, eq-eqb, ne_eqb, not-false}
use Rattle.laws.specs.First.{any_of, outside}
use Rattle.laws.proofs.Sums.{sum_ext}
use Rattle.laws.proofs.Tests.{or_left, or_right, any_of_false, inside, inside_low, inside_high}
use Rattle.format.specs.declared.Segment.{Segment}
use Rattle.format.specs.Network.{Network, entry_of, segment_of}
use Rattle.metanet.specs.declared.SegmentState.{SegmentState}
use Rattle.metanet.specs.Case.{Case, no_state, state_of}
use Rattle.metanet.specs.Step.{vehicles_in, free_speed, on_ramp, ramp_at, total_of}
use Rattle.metanet.specs.Sound.{sign_bad, setting_bad}
use Rattle.metanet.specs.declared.Setting.{Setting}
use Rattle.metanet.specs.declared.Setting.TheVariants.{Open, Fixed, Alinea}
use Rattle.metanet.specs.Change.{compliance_bad, compliance_word, sign_refused, signed_state, setting_refused, metered_state, with_state, sign_for, ramp_for}
use Rattle.metanet.specs.Line.{Item, metered, Line, change, case_of, item_steps, steps_of, handed_in, let_out, signed}
use Rattle.metanet.proofs.Average.{since_item, since_meter, Averaged, averaged_none}
use Rattle.metanet.proofs.Good.{Good}
use Rattle.metanet.proofs.CaseSound.{StateSound, SoundAt, case_state}
use Rattle.metanet.proofs.Lines.{good_more}

-- ---- the states with r at place k: what holds of r there and of every state holds of every state afterwards

set-each : (P : ℕ → SegmentState → Type 0) (states : List SegmentState) (k j : ℕ) (r : SegmentState) → k < length states → P k r
    → (eqb k j ≡ false → P j (state_of states j)) → P j (state_of (set states k r) j)
set-each P states k j r l here there = go (eqb k j) refl
  where
    go : (b : Bool) → eqb k j ≡ b → P j (state_of (set states k r) j)
    go true e = subst (λ (j : ℕ). P j (state_of (set states k r) j)) (eqb-true k j e) (rw (get_or-set_same states k r no_state l) here)
    go false e = rw (get_or-set_other states k j r no_state (λ q. eqb-false k j e (sym q))) (there e)

-- ---- an item that puts a state in place of another, with as many vehicles

module _ {w : Network} {s : Case} {l : Line} (g : Good w s l) where
  abbrev c : Case
  c = case_of w s l

  old_state : (j : ℕ) → j < w.head.size → SoundAt w.head (entry_of w) (segment_of w) c.states j
  old_state = case_state w.head (entry_of w) (segment_of w) c g.is_sound

  module _ (k : ℕ) (r : SegmentState) (here : k < w.head.size) (same : r.count + r.queue ≡ vehicles_in c.states k)
      (ok : StateSound (on_ramp w.head (entry_of w) (segment_of w) k) (segment_of w k) (free_speed w.head (entry_of w) (segment_of w) k) r) where
    there : k < length c.states
    there = omega (arith, here, g.many)

    new_states : (j : ℕ) → j < w.head.size → SoundAt w.head (entry_of w) (segment_of w) (with_state c k r).states j
    new_states j m =
        set-each (λ j x. StateSound (on_ramp w.head (entry_of w) (segment_of w) j) (segment_of w j) (free_speed w.head (entry_of w) (segment_of w) j) x)
        c.states k j r there ok (λ _. old_state j m)

    same_total : total_of w (with_state c k r) ≡ total_of w c
    same_total =
        sum_ext (vehicles_in (set c.states k r)) (vehicles_in c.states) w.head.size
        (λ j m. set-each (λ j x. x.count + x.queue ≡ vehicles_in c.states j) c.states k j r there same (λ _. refl))

    -- the item has no steps, arrivals or exits; S and m are those of r, and elsewhere they and Meter's calls stay
    pub good_state : (i : Item) → change w c i ≡ with_state c k r → item_steps i ≡ 0 → handed_in w i ≡ 0 → let_out w c i ≡ 0
        → Averaged r.ramp (steps_of l) (since_item k (since_meter k l) i) → ((j : ℕ) → eqb k j ≡ false → since_item j (since_meter j l) i ≡ since_meter j l)
        → Good w s (l ++ (i ∷ []))
    good_state i q steps came out here elsewhere =
        good_more g i
        (record {
          many = rw q (length-set c.states k r);
          states = rw q new_states;
          steps = rw (q, steps) (omega arith);
          arrivals = rw (q, came) (omega arith);
          exits = rw (q, out) (omega arith);
          total = rw (q, out, came) (omega (arith, same_total));
          came = rw came (omega arith);
          time = rw q (omega arith);
        })
        (λ j m. rw (q, steps, add-zero)
        (set-each (λ j x. Averaged x.ramp (steps_of l) (since_item j (since_meter j l) i)) c.states k j r there here
        (λ e. rw (elsewhere j e) (g.averages j m))))
        (omega (arith, steps, g.few))

-- ---- a sign

raised_le : (compliance : ℤ) → compliance_bad compliance ≡ false → compliance_word compliance ≤ 1000
raised_le (pos a) e = omega (arith, ltb-false 500 a e)
raised_le (negsuc a) e = omega arith

sign_good : (limit : ℕ) (compliance : ℤ) → sign_refused limit compliance ≡ false → sign_bad (sign_for limit compliance) ≡ false
unfolding sign_bad
sign_good zero compliance e = refl
sign_good (suc limit) compliance e =
    let lit = ne_eqb (suc limit) 0 (suc-ne-zero limit) in
    let range : outside 20 (suc limit) 200 ≡ false = rw lit at (or_left (not (eqb (suc limit) 0) && outside 20 (suc limit) 200) (compliance_bad compliance) e) in
    let high = raised_le compliance (or_right (not (eqb (suc limit) 0) && outside 20 (suc limit) 200) (compliance_bad compliance) e) in
    rw (lit, range) (le-ltb 1000 (compliance_word compliance) high)

module _ {m : Bool} {s : Segment} {f : ℕ} {r : SegmentState} (ok : StateSound m s f r) where
  signed-sound : (limit : ℕ) (compliance : ℤ) → sign_refused limit compliance ≡ false → StateSound m s f (signed_state limit compliance r)
  signed-sound limit compliance e =
      record {
        count = ok.count;
        queue = ok.queue;
        flows = ok.flows;
        sign = sign_good limit compliance e;
        setting = ok.setting;
        speed = ok.speed;
      }

-- ---- a setting

least_le : (q target gain least interval : ℕ) → setting_refused q (Alinea target gain least interval) ≡ false → least ≤ q
least_le q target gain least interval e = ltb-false q least (any_of_false _ e 2)

-- Meter sets S and m to 0
none_added : (q t k : ℕ) (setting : Setting) → Averaged (ramp_for q setting) t k
none_added q t k Open = averaged_none _ t k refl refl
none_added q t k (Fixed rate) = averaged_none _ t k refl refl
none_added q t k (Alinea target gain least interval) = averaged_none _ t k refl refl

-- of a segment that may be metered
setting_good : (q : ℕ) (setting : Setting) → setting_refused q setting ≡ false → setting_bad true q (ramp_for q setting) ≡ false
unfolding setting_bad any_of
setting_good q Open e = ap not (eq-eqb q q refl)
setting_good q (Fixed rate) e = e
setting_good q (Alinea target gain least interval) e =
    let rate = inside least q q (least_le q target gain least interval e) (omega arith) in
    λ j. e j || rate j

module _ {m : Bool} {s : Segment} {f : ℕ} {r : SegmentState} (ok : StateSound m s f r) where
  metered-sound : (setting : Setting) → m ≡ true → setting_refused s.most setting ≡ false → StateSound m s f (metered_state s.most setting r)
  metered-sound setting may e =
      record {
        count = ok.count;
        queue = ok.queue;
        flows = ok.flows;
        sign = ok.sign;
        setting = rw may (setting_good s.most setting e);
        speed = ok.speed;
      }

-- ---- the line with the sign, and with the setting

module _ {w : Network} {s : Case} {l : Line} (g : Good w s l) (i : ℕ) (there : outside 1 i w.head.size ≡ false) where
  in_network : i - 1 < w.head.size
  in_network = omega (arith, inside_low 1 i w.head.size there, inside_high 1 i w.head.size there)

  pub good_sign : (limit : ℕ) (compliance : ℤ) → sign_refused limit compliance ≡ false → Good w s (l ++ (signed i limit compliance ∷ []))
  unfolding change handed_in let_out
  good_sign limit compliance e =
      good_state g (i - 1) (signed_state limit compliance (state_of (case_of w s l).states (i - 1))) in_network refl (signed-sound (old_state g (i - 1) in_network) limit compliance e)
      (signed i limit compliance) refl refl refl refl (g.averages (i - 1) in_network) (λ j e. refl)

  pub good_meter : (setting : Setting) → not (ramp_at w (i - 1)) ≡ false → setting_refused (segment_of w (i - 1)).most setting ≡ false
      → Good w s (l ++ (metered i setting ∷ []))
  unfolding change handed_in let_out
  good_meter setting may e =
      good_state g (i - 1) (metered_state (segment_of w (i - 1)).most setting (state_of (case_of w s l).states (i - 1))) in_network refl
      (metered-sound (old_state g (i - 1) in_network) setting (not-false _ may) e)
      (metered i setting) refl refl refl refl (none_added _ _ _ setting) (λ j e. rw e refl)
