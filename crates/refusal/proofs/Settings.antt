-- Sign and Meter: a compliance with 500 added, what acceptance says, and where segment i's state stands.
use Prim.Native.Nat.{ℕ, suc, ◌+◌, ◌-◌, ◌*◌, ◌≤◌}
use mathlib.Core.Path.{◌≡◌, refl, sym, ap, ◌∙◌}
use mathlib.Core.Bool.{Bool, true, false, cond, not, ◌&&◌, ◌||◌}
use mathlib.Core.List.{List}
use native.Mathlib.Omega.{arith}
use lib.Dec.{ltb, eqb}
use lib.IntN.{ℤ, pos, negsuc, ◌+ℤ◌}
use lib.Signed.{lt_z}
use lib.ListN.{length}
use lib.Ieee.{Float}
use borrow.Author.Tests.{ltb-false, le-ltb}
use Rattle.laws.specs.First.{outside}
use Rattle.laws.proofs.First.{row_passed, row_later}
use Rattle.laws.proofs.Tests.{or_right, inside_low, inside_high}
use Rattle.metanet.specs.declared.Setting.{Setting}
use Rattle.book.specs.Arrangement.{size_at}
use Rattle.book.specs.Sound.{sound}
use Rattle.metanet.specs.Change.{compliance_bad, compliance_word}
use Rattle.book.specs.Perform.{refusal_at, lent}
use Rattle.book.proofs.Judging.{size_high}
use Rattle.book.proofs.Sounds.{laid}
use Rattle.book.proofs.Performing.{accepted-sound}
use Rattle.refusal.proofs.Table.{sign_rows, meter_rows}
use Rattle.book.specs.Calls.{item}
use Rattle.metanet.specs.Line.{signed, metered}

-- ---- compliance

pub compliance_tested : (z : ℤ) → (lt_z z (negsuc 499) || lt_z (pos 500) z) ≡ compliance_bad z
compliance_tested (pos a) = refl
compliance_tested (negsuc a) = or_false (ltb 499 a)
  where
    or_false : (t : Bool) → (t || false) ≡ t
    or_false true = refl
    or_false false = refl

pub compliance_word_lem : (z : ℤ) → compliance_bad z ≡ false → z +ℤ pos 500 ≡ pos (compliance_word z)
compliance_word_lem (pos a) e = ap pos (omega arith)
compliance_word_lem (negsuc a) e =
    let l = ltb-false 499 a e in
    ap (λ (t : Bool). cond t (negsuc (suc a - suc 500)) (pos (500 - suc a))) (le-ltb 500 (suc a) (omega arith)) ∙ ap pos (omega arith)

-- ---- segment i's state in the live case, i from 1

-- its first word
abbrev pub state_word : ℕ → ℕ
state_word i = 2576 + 16 * (i - 1)

pub record StateWithin (words : List ℕ) (i : ℕ) : Type 0 where
  pub low : 1 ≤ i
  pub high : i ≤ size_at words
  pub small : i ≤ 40
  pub room : state_word i + 16 ≤ length words

module _ (words : List ℕ) (speeds : List Float) (i : ℕ) where
  module _ (s : sound words speeds ≡ true) where
    state_within : outside 1 i (size_at words) ≡ false → StateWithin words i
    state_within e =
        let l = laid words speeds s in
        let low = inside_low 1 i (size_at words) e in
        let high = inside_high 1 i (size_at words) e in
        record {
          low = low;
          high = high;
          small = omega (arith, high, size_high l);
          room = omega (arith, low, high, l.room);
        }

  -- ---- what acceptance says

  module _ (limit : ℕ) (z : ℤ) (e : refusal_at (item (signed i limit z)) (lent words speeds) ≡ 0) where
    sign_sound : sound words speeds ≡ true
    sign_sound = accepted-sound (item (signed i limit z)) words speeds refl e

    pub sign_within : StateWithin words i
    sign_within = state_within sign_sound (row_passed _ _ _ (row_later _ _ _ (sym (sign_rows words speeds i limit z) ∙ e)))

    pub sign_compliance : compliance_bad z ≡ false
    sign_compliance = or_right (not (eqb limit 0) && outside 20 limit 200) (compliance_bad z) (row_passed _ _ _ (row_later _ _ _ (row_later _ _ _ (sym (sign_rows words speeds i limit z) ∙ e))))

  pub meter_within : (m : Setting) → refusal_at (item (metered i m)) (lent words speeds) ≡ 0 → StateWithin words i
  meter_within m e =
      state_within (accepted-sound (item (metered i m)) words speeds refl e) (row_passed _ _ _ (row_later _ _ _ (sym (meter_rows words speeds i m) ∙ e)))
