-- Which numbers a file can have, and which part of the file refuses it, by the number.
use Prim.Native.Nat.{ℕ, zero, suc, ◌<◌, ◌≤◌}
use mathlib.Core.Bool.{Bool, true, false}
use mathlib.Core.List.{List}
use mathlib.Core.Path.{◌≡◌, refl}
use native.Mathlib.Omega.{arith}
use Rattle.laws.specs.First.{row, first, first_of}
use Rattle.format.specs.Network.{rising, curve_number, record_rows, origin_number}
use Rattle.format.specs.File.{head_number, curve_in, curves_number, record_number, records_number, origins_number, file_number, head_of, segment_on}

-- ---- what holds of 0 and of the number of each row holds of a row, of the first of two and of the first of many

module _ (P : ℕ → Type 0) where
  row_is : (t : Bool) {k m : ℕ} → P k → P m → P (row t k m)
  unfolding row
  row_is true p q = p
  row_is false p q = q

  first_is : (x y : ℕ) → P x → P y → P (first x y)
  unfolding first
  first_is zero y p q = q
  first_is (suc x) y p q = p

  first_of_is : P 0 → (f : ℕ → ℕ) (n : ℕ) → ((i : ℕ) → P (f i)) → P (first_of f n)
  unfolding first_of
  first_of_is z f zero each = z
  first_of_is z f (suc n) each = first_is _ _ (first_of_is z f n each) (each n)

  module _ (b : List ℕ) (none : P 0) where
    head_is : P 1 → P 2 → P 3 → P 4 → P 5 → P (head_number b)
    unfolding head_number
    head_is one two three four five = row_is _ one (row_is _ two (row_is _ three (row_is _ four (row_is _ five none))))

    curves_are : P 6 → P (curves_number b)
    unfolding curves_number curve_number rising
    curves_are six = first_of_is none (curve_in b) _ (λ k. row_is _ six (first_of_is none _ 200 (λ j. row_is _ six none)))

    records_are : P 7 → P 27 → P 8 → P (records_number b)
    unfolding records_number record_number record_rows
    records_are field follower speed = first_of_is none (record_number b (head_of b)) _ (λ i. row_is _ field (row_is _ follower (row_is _ speed none)))

    origins_are : P 28 → P (origins_number b)
    unfolding origins_number origin_number
    origins_are origin = first_of_is none (origin_number (segment_on b) (head_of b).size) _ (λ i. row_is _ origin none)

    -- the number of a file is one of these
    pub number_is : P 1 → P 2 → P 3 → P 4 → P 5 → P 6 → P 7 → P 8 → P 27 → P 28 → P (file_number b)
    unfolding file_number
    number_is one two three four five six seven eight follower origin =
        first_is _ _ (head_is one two three four five) (first_is _ _ (curves_are six) (first_is _ _ (records_are seven follower eight) (origins_are origin)))

-- ---- the parts, with the numbers x, y, z and o: where the file's number is that of a later part, the earlier ones accept

pub record Parts (x y z o number : ℕ) : Type 0 where
  pub head : number ≤ 5 → (number ≡ 0 → ⊥) → x ≡ number
  pub after : 5 < number → x ≡ 0
  pub curves : number ≡ 6 → y ≡ 6
  pub records : 6 < number → number < 28 → z ≡ number
  pub origins : number ≡ 28 → o ≡ 28

-- 0, or from lo to hi
record Within (lo hi x : ℕ) : Type 0 where
  low : (x ≡ 0 → ⊥) → lo ≤ x
  high : x ≤ hi

none_within : {lo hi : ℕ} → Within lo hi 0
none_within = record { low = λ n. absurd (n refl); high = omega arith }

one_within : {lo hi : ℕ} (x : ℕ) → lo ≤ x → x ≤ hi → Within lo hi x
one_within x l h = record { low = λ n. l; high = h }

parts : (x y z o : ℕ) → Within 1 5 x → Within 6 6 y → Within 7 27 z → Within 28 28 o → Parts x y z o (first x (first y (first z o)))
unfolding first
parts zero zero zero o p q r s =
    record {
      head = λ l n. absurd (omega (arith, l, s.low n));
      after = λ l. refl;
      curves = λ e. absurd (omega (arith, e, s.low (λ k. omega (arith, e, k))));
      records = λ l h. absurd (omega (arith, h, s.low (λ k. omega (arith, l, k))));
      origins = λ e. e;
    }
parts zero zero (suc z) o p q r s =
    record {
      head = λ l n. absurd (omega (arith, l, r.low n));
      after = λ l. refl;
      curves = λ e. absurd (omega (arith, e, r.low (λ k. omega (arith, e, k))));
      records = λ l h. refl;
      origins = λ e. absurd (omega (arith, e, r.high));
    }
parts zero (suc y) z o p q r s =
    record {
      head = λ l n. absurd (omega (arith, l, q.low n));
      after = λ l. refl;
      curves = λ e. e;
      records = λ l h. absurd (omega (arith, l, q.high));
      origins = λ e. absurd (omega (arith, e, q.high));
    }
parts (suc x) y z o p q r s =
    record {
      head = λ l n. refl;
      after = λ l. absurd (omega (arith, l, p.high));
      curves = λ e. absurd (omega (arith, e, p.high));
      records = λ l h. absurd (omega (arith, l, p.high));
      origins = λ e. absurd (omega (arith, e, p.high));
    }

pub file-parts : (b : List ℕ) → Parts (head_number b) (curves_number b) (records_number b) (origins_number b) (file_number b)
unfolding file_number
file-parts b =
    parts _ _ _ _
    (head_is (Within 1 5) b none_within (one_within 1 (omega arith) (omega arith)) (one_within 2 (omega arith) (omega arith)) (one_within 3 (omega arith) (omega arith)) (one_within 4 (omega arith) (omega arith)) (one_within 5 (omega arith) (omega arith)))
    (curves_are (Within 6 6) b none_within (one_within 6 (omega arith) (omega arith)))
    (records_are (Within 7 27) b none_within (one_within 7 (omega arith) (omega arith)) (one_within 27 (omega arith) (omega arith)) (one_within 8 (omega arith) (omega arith)))
    (origins_are (Within 28 28) b none_within (one_within 28 (omega arith) (omega arith)))

pub number-most : (b : List ℕ) → file_number b ≤ 28
number-most b =
    number_is (λ n. n ≤ 28) b
    (omega arith) (omega arith) (omega arith) (omega arith) (omega arith) (omega arith) (omega arith) (omega arith) (omega arith) (omega arith) (omega arith)
