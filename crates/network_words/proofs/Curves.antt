-- The entries of the curves, 201 words each from word 16 on, as arrays.
use Rattle.std.proofs.Common.{◌≡◌, ℕ, zero, suc, ◌+◌, ◌*◌, ◌/◌, ◌<◌, ◌≤◌, List, [], length, get_or, slice_index, slice_index_or, take, drop, ap, ◌∙◌, not-suc-le-zero, le_of_suc-le-suc, arith, length-take-le, length-drop}
use Rattle.std.proofs.lemmas.List.{get_or-drop, get_or-take}
use Rattle.std.specs.Simd.{first_chunks}
use Rattle.format.specs.Network.{curve_number}
use Rattle.format.specs.Words.{entry_in}
use Rattle.format.proofs.From.{curve_same}
use Rattle.network_words.specs.Rows.{curve_row}

module _ {A : Type 0} (d : A) (n : ℕ) where
  chunk_at : (k : ℕ) (xs : List A) (i j : ℕ) → i < k → j < n → get_or (get_or (first_chunks n k xs) i []) j d ≡ get_or xs (n * i + j) d
  chunk_at zero xs i j l m = absurd (not-suc-le-zero l)
  chunk_at (suc k) xs zero j l m = get_or-take n xs j d m ∙ ap (λ (p : ℕ). get_or xs p d) (omega arith)
  chunk_at (suc k) xs (suc i) j l m =
      chunk_at k (drop n xs) i j (le_of_suc-le-suc l) m
      ∙ get_or-drop n xs (n * i + j) d
      ∙ ap (λ (p : ℕ). get_or xs p d) (omega arith)

-- the first c of eight chunks
module _ (ws part : List ℕ) (curves : List (List ℕ)) (c : ℕ) (long : 2560 ≤ length ws) (few : c ≤ 8) (from : part ≡ take 1608 (drop 16 ws))
    (are : curves ≡ take c (first_chunks 201 (length part / 201) part)) where
  pub curves_in : (k : ℕ) → k < c → curve_number (slice_index (slice_index_or curves k [])) ≡ curve_row ws k
  curves_in k l =
      let whole : length part ≡ 1608 = ap length from ∙ length-take-le 1608 (drop 16 ws) (omega (arith, long, length-drop 16 ws)) in
      let eight : length part / 201 ≡ 8 = ap (λ (x : ℕ). x / 201) whole in
      curve_same _ (entry_in ws k)
      (λ j m.
      ap (λ (cs : List (List ℕ)). get_or (get_or cs k []) j 0) (are ∙ ap (λ (n : ℕ). take c (first_chunks 201 n part)) eight)
      ∙ ap (λ (e : List ℕ). get_or e j 0) (get_or-take c (first_chunks 201 8 part) k [] l)
      ∙ chunk_at 0 201 8 part k j (omega (arith, few, l)) m
      ∙ ap (λ (xs : List ℕ). get_or xs (201 * k + j) 0) from
      ∙ get_or-take 1608 (drop 16 ws) (201 * k + j) 0 (omega (arith, few, l, m))
      ∙ get_or-drop 16 ws (201 * k + j) 0
      ∙ ap (λ (x : ℕ). get_or ws x 0) (omega arith))
