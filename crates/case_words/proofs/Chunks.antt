-- The words of n states, taken a state at a time.
use Rattle.std.proofs.Common.{◌≡◌, ℕ, ◌+◌, ◌*◌, ◌≤◌, ◌<◌, List, ◌++◌, length, drop, take, slice_index_or, sym, ap, ◌∙◌, arith, length-drop, length-take, length-append, get_or-take, get_or-drop}
use Rattle.std.proofs.Math.ListN.{get_or-append}
use Rattle.std.proofs.lemmas.List.{get_or-append-add}

-- k of the n states that start at word at are taken, and rest is left
pub record Chunked (words : List ℕ) (at n k : ℕ) (rest : List ℕ) (size : ℕ) : Type 0 where
  pub sixteen : size ≡ 16
  pub left : length rest + 16 * k ≡ 16 * n
  pub is : (j d : ℕ) → j < length rest → slice_index_or rest j d ≡ slice_index_or words (at + 16 * k + j) d

pub chunk_none : {words : List ℕ} {at n m : ℕ} {rest : List ℕ} {size : ℕ} → at + 16 * n ≤ length words → m ≡ 16 * n → rest ≡ take m (drop at words) → size ≡ 16
    → Chunked words at n 0 rest size
chunk_none {words} {at} {n} {m} {rest} room e is size =
    record {
      sixteen = size;
      left = long;
      is = λ j d l.
          ap (λ (xs : List ℕ). slice_index_or xs j d) is
          ∙ get_or-take _ _ j d (omega (arith, l, long))
          ∙ get_or-drop _ _ j d
          ∙ ap (λ (i : ℕ). slice_index_or words i d) (omega arith);
    }
  where
    long : length rest + 16 * 0 ≡ 16 * n
    long = omega (arith, ap length is, length-take m (drop at words), length-drop at words)

module _ {words : List ℕ} {at n k : ℕ} {rest : List ℕ} {size : ℕ} (c : Chunked words at n k rest size) where
  module _ (w rest' : List ℕ) (parts : rest ≡ w ++ rest') (len : length w ≡ size) where
    longer : length rest ≡ 16 + length rest'
    longer = omega (arith, c.sixteen, len, ap length parts, length-append w rest')

    pub chunk_more : k < n
    chunk_more = omega (arith, c.left, longer)

    pub chunk_word : (j d : ℕ) → j < 16 → slice_index_or w j d ≡ slice_index_or words (at + 16 * k + j) d
    chunk_word j d l =
        sym (get_or-append w rest' d j (omega (arith, l, len, c.sixteen)))
        ∙ ap (λ (xs : List ℕ). slice_index_or xs j d) (sym parts)
        ∙ c.is j d (omega (arith, l, longer))

    pub chunk_next : {size' : ℕ} → size' ≡ size → Chunked words at n (k + 1) rest' size'
    chunk_next e =
        record {
          sixteen = e ∙ c.sixteen;
          left = omega (arith, c.left, longer);
          is = λ j d l.
              sym (get_or-append-add w rest' j d)
              ∙ ap (λ (xs : List ℕ). slice_index_or xs (length w + j) d) (sym parts)
              ∙ c.is (length w + j) d (omega (arith, l, longer, len, c.sixteen))
              ∙ ap (λ (i : ℕ). slice_index_or words i d) (omega (arith, len, c.sixteen));
        }

  -- where less than a state is left, all are taken
  pub chunk_end : length rest < size → k ≡ n
  chunk_end l = omega (arith, l, c.left, c.sixteen)
