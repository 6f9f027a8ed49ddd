-- Where a refused file is wrong, as a function of its bytes: in which part, by which rule of the row that refuses it, at which byte.
use Rattle.std.specs.Prelude.{ℕ, zero, suc, ◌+◌, ◌*◌, ◌/◌, ◌%◌, min, Bool, cond, not, List, [], ◌∷◌, ◌++◌, length, get_or, ltb, eqb}
use Rattle.laws.specs.First.{outside, first_held}
use Rattle.laws.specs.Lists.{table}
use Rattle.laws.specs.BigEndian.{byte_at}
use Rattle.format.specs.declared.Head.{Head}
use Rattle.format.specs.declared.Following.{Following}
use Rattle.format.specs.Network.{head_tests, segment_tests, share_tests, not_higher, follower_tests, origin_number}
use Rattle.format.specs.File.{mark, head_of, file_size, entry_on, segment_on, record_start, record_number, file_number}

-- the number that refuses the file, or 0; the curve (6) or the record (7, 8, 27, 28); the rule of the row that is broken (4, 7, 27) or the
-- entry (6); each counted from 0; and the byte offset
pub record Place : Type 0 where
  pub number : ℕ
  pub part : ℕ
  pub rule : ℕ
  pub offset : ℕ

-- 4: the rules of the head, its fields as row 4 has them, then its bytes that are zero; and where the field of each stands
abbrev pub head_rules : List ℕ → List Bool
head_rules b = head_tests (head_of b) ++ (ltb 0 (byte_at b 11) ∷ ltb 0 (byte_at b 14) ∷ ltb 0 (byte_at b 15) ∷ [])

abbrev pub head_fields : List ℕ
head_fields = 5 ∷ 6 ∷ 7 ∷ 8 ∷ 9 ∷ 10 ∷ 12 ∷ 11 ∷ 14 ∷ 15 ∷ []

-- 6: the first entry of a curve is out of range, or another is above the one before it
unfoldable pub entry_bad : (ℕ → ℕ) → ℕ → Bool
entry_bad e zero = outside 1000 (e 0) 200000
entry_bad e (suc j) = ltb (e j) (e (suc j))

-- the first that is refused; curves stand one after the other, so entry m of all is entry m % 201 of curve m / 201
unfoldable pub bad_entry : List ℕ → ℕ
bad_entry b = first_held (table (λ m. entry_bad (entry_on b (m / 201)) (m % 201)) 1608)

-- 7: the rules of record i, as those of the head, then those of its share
abbrev pub record_rules : List ℕ → ℕ → List Bool
record_rules b i =
    let at = record_start (head_of b) i in
    segment_tests (head_of b) i (segment_on b i)
    ++ (ltb 0 (byte_at b (at + 7)) ∷ ltb 0 (byte_at b (at + 14)) ∷ ltb 0 (byte_at b (at + 15)) ∷ share_tests (segment_on b i))

abbrev pub record_fields : List ℕ
record_fields = 0 ∷ 2 ∷ 3 ∷ 4 ∷ 4 ∷ 5 ∷ 6 ∷ 6 ∷ 8 ∷ 8 ∷ 10 ∷ 10 ∷ 7 ∷ 14 ∷ 15 ∷ 18 ∷ 18 ∷ []

-- 27: the rules of its followers, and where the one stands that breaks each
abbrev pub follower_rules : List ℕ → ℕ → List Bool
follower_rules b i = follower_tests (head_of b) i (segment_on b i).following

abbrev pub follower_fields : Head → ℕ → Following → List ℕ
follower_fields h i f = cond (not_higher i f.first) 16 17 ∷ cond (ltb h.size f.first) 16 17 ∷ 17 ∷ 17 ∷ []

-- 7, 27 and 8: the first record that is refused
unfoldable pub bad_record : List ℕ → ℕ
bad_record b = first_held (table (λ i. ltb 0 (record_number b (head_of b) i)) 40)

-- 28: the first segment that is refused
unfoldable pub bad_origin : List ℕ → ℕ
bad_origin b = first_held (table (λ i. ltb 0 (origin_number (segment_on b) (head_of b).size i)) 40)

abbrev pub place : ℕ → ℕ → ℕ → ℕ → Place
place number part rule offset = record { number = number; part = part; rule = rule; offset = offset }

-- number, part, rule and byte: an accepted file; 1 where it ends; 2 the first byte that is not the mark's; 3 the version; 4 the first rule
-- that is broken, its field; 5 the first byte that is missing or too many; 6 curve and entry; 7 record and rule; 8 the record's length L
unfoldable pub place_to8 : List ℕ → Place
place_to8 b =
    let h = first_held (head_rules b) in
    let m = bad_entry b in
    let i = bad_record b in
    let r = first_held (record_rules b i) in
    get_or
    (place 0 0 0 0
    ∷ place 1 0 0 (length b)
    ∷ place 2 0 0 (first_held (table (λ k. not (eqb (byte_at b k) (get_or mark k 0))) 3))
    ∷ place 3 0 0 3
    ∷ place 4 0 h (get_or head_fields h 0)
    ∷ place 5 0 0 (min (length b) (file_size (head_of b)))
    ∷ place 6 (m / 201) (m % 201) (16 + 4 * m)
    ∷ place 7 i r (record_start (head_of b) i + get_or record_fields r 0)
    ∷ place 8 i 0 (record_start (head_of b) i)
    ∷ [])
    (file_number b) (place 0 0 0 0)

-- 27 record and rule, the follower's byte; 28 the segment, its origin
unfoldable pub place_of : List ℕ → Place
unfolding place_to8
place_of b =
    let i = bad_record b in
    let r = first_held (follower_rules b i) in
    cond (eqb (file_number b) 27)
    (place 27 i r (record_start (head_of b) i + get_or (follower_fields (head_of b) i (segment_on b i).following) r 0))
    (cond (eqb (file_number b) 28) (place 28 (bad_origin b) 0 (record_start (head_of b) (bad_origin b) + 6)) (place_to8 b))
