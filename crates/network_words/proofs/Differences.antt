-- Row 6 from the OR of the differences of neighbours, each modulo 2^64: the loop that gathers them, and the tests of the code.
use Rattle.std.proofs.Common.{◌≡◌, ℕ, zero, suc, ◌+◌, ◌-◌, ◌*◌, ◌%◌, ◌^◌, ◌<◌, ◌≤◌, Bool, true, false, ◌⊎◌, sym, refl, ap, ◌∙◌, inl, inr, ⊎_elim, le_of_suc-le-suc, not-suc-le-zero, eq-or-lt_of_le, add-one, arith, le-ltb, List, get_or, slice_index, slice_index_or, take, drop}
use lib.Bits.{bit_or, or_lt}
use Rattle.std.proofs.lemmas.List.{get_or-drop, get_or-take}
use Rattle.std.proofs.lemmas.Nat.{le_or_l, le_or_r}
use Rattle.laws.specs.First.{outside, row, first, first_of}
use Rattle.laws.proofs.Tests.{inside_high}
use Rattle.laws.proofs.First.{row_applies, row_skipped, first_of_all}
use Rattle.format.specs.Network.{rising, curve_number}
use Rattle.format.proofs.Accepted.{CurveWithin}
use Rattle.format.proofs.Rows.{curve_starts_in, curve_within, entries_fall, entry_high}
use Rattle.network_words.specs.Differences.{Near, Differences}

-- ---- row 6 says 0 or 6

abbrev Six : ℕ → Type 0
Six k = (k ≡ 0) ⊎ (6 ≡ k)

row_six : (t : Bool) (k : ℕ) → Six k → Six (row t 6 k)
unfolding row
row_six true k s = inr refl
row_six false k s = s

first_six : (a b : ℕ) → Six a → Six b → Six (first a b)
unfolding first
first_six zero b p q = q
first_six (suc a) b p q = p

module _ (e : ℕ → ℕ) where
  rising_six : (n : ℕ) → Six (first_of (rising e) n)
  unfolding first_of rising
  rising_six zero = inl refl
  rising_six (suc n) = first_six _ _ (rising_six n) (row_six _ 0 (inl refl))

  -- so it is 6 where it is not 0
  curve_broken : (CurveWithin e → ⊥) → 6 ≡ curve_number e
  unfolding curve_number
  curve_broken broken = ⊎_elim (λ z. absurd (broken (curve_within e z))) (λ s. s) (row_six _ _ (rising_six 200))

  pub curve_starts_out : outside 1000 (e 0) 200000 ≡ true → 6 ≡ curve_number e
  unfolding curve_number
  curve_starts_out out = sym (row_applies _ _ _ out)

  -- where the last entry is above the first, one has risen
  pub curve_ends_high : e 0 < e 200 → 6 ≡ curve_number e
  curve_ends_high up = curve_broken (λ w. omega (arith, entries_fall e w 0 200 (omega arith) (omega arith)))

module _ {e : ℕ → ℕ} where
  -- ---- the loop over the differences: before the first, and one more of them

  pub differences_none : Differences e 0 0
  differences_none = record { small = λ all. omega arith; near = λ s j l. absurd (not-suc-le-zero l) }

  -- a and b are the two neighbours, as the code read them
  pub differences_more : {n r a b : ℕ} → Differences e n r → a ≡ e n → b ≡ e (n + 1) → a < 2 ^ 64 → b < 2 ^ 64 → Differences e (n + 1) (bit_or r ((a + (2 ^ 64 - b)) % 2 ^ 64))
  differences_more {n} {r} {a} {b} before p q high word =
      let d : ℕ = (a + (2 ^ 64 - b)) % 2 ^ 64 in
      let wraps : (d + e (n + 1)) % 2 ^ 64 ≡ e n = omega (arith, p, q) in
      record {
        small = λ all. let last = all n (omega arith) in or_lt 18 r d (before.small (λ j l. all j (omega (arith, l)))) (omega arith);
        near = λ s j l.
            ⊎_elim
            (λ p. rw p (record { by = d; small = omega (arith, le_or_r r d); wraps = wraps }))
            (λ m. before.near (omega (arith, le_or_l r d)) j m)
            (eq-or-lt_of_le (omega (arith, l)));
      }

  -- ---- what they say of the curve

  -- an entry that is above the one before, and near it modulo 2^64, is near 2^64; and those after it fall by less than 2^18 each
  risen : ((j : ℕ) → j < 200 → Near (e j) (e (j + 1))) → (n : ℕ) → n ≤ 200 → (j : ℕ) → j < n → e j < e (j + 1) → 2 ^ 64 ≤ e n + n * 262144
  risen near zero m j l up = absurd (not-suc-le-zero l)
  risen near (suc n) m j l up =
      let w = near n (omega (arith, m)) in
      let same : e (suc n) ≡ e (n + 1) = ap e (sym (add-one n)) in
      ⊎_elim
      (λ p. let here : e n < e (n + 1) = rw p at up in omega arith)
      (λ lt. let before = risen near n (omega (arith, m)) j lt up in omega arith)
      (eq-or-lt_of_le (le_of_suc-le-suc l))

  module _ {r : ℕ} (d : Differences e 200 r) where
    -- where no entry rises each difference is at most the first entry, which is below 2^18
    pub curve_wide : 262143 < r → 6 ≡ curve_number e
    curve_wide wide =
        curve_broken e (λ w.
        let few = d.small (λ j l. record { falls = w.falls j l; little = omega (arith, entry_high e w j (omega (arith, l))) }) in
        omega arith)

    -- where one has risen the last is near 2^64, so above the first
    pub curve_passes : outside 1000 (e 0) 200000 ≡ false → r ≤ 262143 → e 200 ≤ e 0 → 0 ≡ curve_number e
    unfolding rising
    curve_passes starts s ends =
        sym (curve_starts_in e starts ∙ first_of_all (rising e) 200 (λ j l. row_skipped _ _ _ (le-ltb _ _ (falls j l))))
      where
        falls : (j : ℕ) → j < 200 → e (j + 1) ≤ e j
        falls j l =
            let high = inside_high 1000 (e 0) 200000 starts in
            let none : e j < e (j + 1) → ⊥ = λ up. omega (arith, risen (d.near (omega (arith, s))) 200 (omega arith) j l up) in
            omega arith

-- the entry after entry j, in the list without the first
pub entry_after : (xs : List ℕ) (j : ℕ) → j < 200 → slice_index_or (take 200 (drop 1 xs)) j 0 ≡ slice_index xs (j + 1)
entry_after xs j l = get_or-take 200 (drop 1 xs) j 0 l ∙ get_or-drop 1 xs j 0 ∙ ap (λ (p : ℕ). get_or xs p 0) (omega arith)

-- what a proof of the loop over the differences needs, and what a proof of the tests
pub ruleset difference_loop = (differences_none, differences_more, entry_after)

pub ruleset difference_tests = (curve_wide, curve_ends_high, curve_passes, curve_starts_out)
