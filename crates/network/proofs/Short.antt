-- A record of which the file has only the first bytes.
use Rattle.std.proofs.Common.{◌≡◌, ℕ, zero, suc, ◌*◌, ◌+◌, List, [], ◌∷◌, ◌++◌, length, get_or, drop, replicate, ◌<◌, ◌≤◌, arith, length-append, length-drop, cond, eqb, refl, ◌∙◌}
use Rattle.std.proofs.lemmas.List.{get_or-drop}
use Rattle.format.specs.declared.Head.{Head}
use Rattle.format.specs.Network.{chain}
use Rattle.format.specs.File.{record_size, following_of, segment_at}
use Rattle.format.proofs.File.{record_high}

abbrev zeros_of : ℕ → List ℕ
zeros_of n = replicate n 0

zeros : (n k : ℕ) → get_or (zeros_of n) k 0 ≡ 0
zeros zero k = refl
zeros (suc n) zero = refl
zeros (suc n) (suc k) = zeros n k

-- zeros after a list read as what is past its end
padded : (l : List ℕ) (n k : ℕ) → get_or (l ++ drop (length l) (zeros_of n)) k 0 ≡ get_or l k 0
padded l n = after l _ (λ k. get_or-drop (length l) (zeros_of n) k 0 ∙ zeros n (length l + k))
  where
    after : (l zs : List ℕ) → ((k : ℕ) → get_or zs k 0 ≡ 0) → (k : ℕ) → get_or (l ++ zs) k 0 ≡ get_or l k 0
    after [] zs none k = none k
    after (x ∷ l) zs none zero = refl
    after (x ∷ l) zs none (suc k) = after l zs none k

-- a padded record is as long as any
pub padded_long : (l : List ℕ) (h : Head) → length l < 20 → record_size h ≤ length (l ++ drop (length l) (zeros_of 20))
padded_long l h n = simp (length-append, length-drop) (omega (arith, n, record_high h))

pub segment_padded : (l : List ℕ) (h : Head) (i : ℕ) → segment_at (l ++ drop (length l) (zeros_of 20)) h i 0 ≡ segment_at l h i 0
unfolding following_of
segment_padded l h i =
    let e : (k : ℕ) → get_or (l ++ drop (length l) (zeros_of 20)) k 0 ≡ get_or l k 0 = padded l 20 in
    λ j. record {
      metres = e 0 j * 256 + e 1 j;
      lanes = e 2 j;
      curve = e 3 j;
      critical = e 4 j;
      jam = e 5 j;
      origin = e 6 j;
      exit = e 8 j * 256 + e 9 j;
      most = e 10 j * 16777216 + e 11 j * 65536 + e 12 j * 256 + e 13 j;
      following = cond (eqb h.version 1) (chain h.size i) (record { first = e 16 j; second = e 17 j; share = e 18 j * 256 + e 19 j });
    }
