-- A turn of each of the two loops: one more arrival is put in the list, or written in the file.
use Rattle.std.proofs.Common.{◌≡◌, sym, ap, ◌∙◌, ℕ, zero, suc, ◌+◌, ◌*◌, ◌<◌, ◌≤◌, List, [], ◌++◌, ◌/◌, length, length-drop, get_or, set, take, drop, add-one, arith, w32, lit<}
use Rattle.std.proofs.lemmas.List.{drop-drop, get_or-drop, get_or-take}
use Rattle.std.specs.Int.{from_be_bytes}
use Rattle.std.specs.Simd.{first_chunks}
use borrow.Rule.Slice.PartMut.{put_mid}
use Rattle.laws.specs.BigEndian.{byte_at}
use Rattle.laws.specs.Lists.{table, part, puts}
use Rattle.laws.proofs.BigEndian.{length_u32}
use Rattle.laws.proofs.Puts.{table_none, table_more, puts_none, puts_more, part_back}
use Rattle.survey_file.specs.File.{arrival_on}
use Rattle.survey_file.proofs.RoundTrip.{arrival_bytes}

-- byte j of entry i, of the k entries of four bytes from place s on
pub entry_byte : (b : List ℕ) (k s i j : ℕ) → i < k → j < 4 → get_or (get_or (first_chunks 4 k (drop s b)) i []) j 0 ≡ byte_at b (s + 4 * i + j)
entry_byte b zero s i j h l = omega (arith, h)
entry_byte b (suc k) s zero j h l = get_or-take 4 (drop s b) j 0 l ∙ get_or-drop s b j 0 ∙ ap (byte_at b) (omega arith)
entry_byte b (suc k) s (suc i) j h l =
    ap (λ (xs : List ℕ). get_or (get_or (first_chunks 4 k xs) i []) j 0) (drop-drop 4 s b)
    ∙ entry_byte b k (s + 4) i j (omega (arith, h)) l
    ∙ ap (byte_at b) (omega arith)

-- arrival first + i is entry i of those from arrival first on, and joins the i before it
pub put_next : (b l out xs : List ℕ) (entries : List (List ℕ)) (first i x : ℕ) → entries ≡ first_chunks 4 (length xs / 4) xs
    → xs ≡ drop (8 + 4 * first) b → x ≡ from_be_bytes w32 (get_or entries i []) → i < length out → 8 + 4 * (first + i) + 4 ≤ length b
    → out ≡ table (λ k. arrival_on b (first + k)) i ++ drop i l
    → set out i x ≡ table (λ k. arrival_on b (first + k)) (i + 1) ++ drop (i + 1) l
put_next b l out xs entries first i x are at is h room e =
    table_more (λ k. arrival_on b (first + k)) l out i x h e (is ∙ rw are (grind (arith, byte 0 (lit< tt), byte 1 (lit< tt), byte 2 (lit< tt), byte 3 (lit< tt))))
  where
    byte : (j : ℕ) → j < 4 → get_or (get_or (first_chunks 4 (length xs / 4) xs) i []) j 0 ≡ byte_at b (8 + 4 * (first + i) + j)
    byte j l =
        ap (λ (ys : List ℕ). get_or (get_or (first_chunks 4 (length ys / 4) ys) i []) j 0) at
        ∙ entry_byte b (length (drop (8 + 4 * first) b) / 4) (8 + 4 * first) i j (simp length-drop (omega (arith, room))) l
        ∙ ap (byte_at b) (omega arith)

pub ruleset put_loop = (table_none, put_next)

module _ (list l : List ℕ) (room : 8 + 4 * length list ≤ length l) where
  pub puts_first : l ≡ puts 4 (arrival_bytes list) 8 0 l
  puts_first = sym (puts_none 4 (arrival_bytes list) 8 (length list) l (λ k h. length_u32 _) room)

  -- the part that was lent, k bytes as the code computes it, came back as ys
  pub puts_next : (out ys : List ℕ) (i k : ℕ) → i < length list → out ≡ puts 4 (arrival_bytes list) 8 i l → k ≡ 4
      → ys ≡ arrival_bytes list i ++ drop 4 (part (8 + 4 * i) k out) → put_mid (8 + 4 * i) k out ys ≡ puts 4 (arrival_bytes list) 8 (i + 1) l
  puts_next out ys i k h is four e =
      part_back out (arrival_bytes list i) ys (8 + 4 * i) 4 k four e
      ∙ (λ j. take (8 + 4 * i) (is j) ++ (arrival_bytes list i ++ drop (8 + 4 * i + 4) (is j)))
      ∙ puts_more 4 (arrival_bytes list) 8 (length list) l (λ k h. length_u32 _) room i h
      ∙ ap (λ (m : ℕ). puts 4 (arrival_bytes list) 8 m l) (sym (add-one i))

pub ruleset write_loop = (puts_first, puts_next)
