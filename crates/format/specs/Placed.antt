-- What is shown of the place of a refusal: it lies in the file's own parts, and what stands there is what the row refuses.
use Rattle.std.specs.Prelude.{ℕ, ◌<◌, ◌≡◌, Bool, true, false, not, eqb, List, get_or}
use Rattle.laws.specs.Lists.{table}
use Rattle.laws.specs.BigEndian.{byte_at}
use Rattle.format.specs.Network.{origin_number}
use Rattle.format.specs.File.{mark, head_of, entry_on, segment_on, record_number, file_number}
use Rattle.format.specs.Place.{head_rules, entry_bad, record_rules, follower_rules, place_of}

-- of each byte of the mark whether another stands there
abbrev pub mark_rules : List ℕ → List Bool
mark_rules b = table (λ k. not (eqb (byte_at b k) (get_or mark k 0))) 3

pub record Placed (b : List ℕ) : Type 0 where
  -- the number is the file's, 0 where it is accepted
  pub number : (place_of b).number ≡ file_number b
  -- 2: the byte is not the mark's
  pub mark : file_number b ≡ 2 → get_or (mark_rules b) (place_of b).offset false ≡ true
  -- 4: the rule is broken
  pub head : file_number b ≡ 4 → get_or (head_rules b) (place_of b).rule false ≡ true
  -- 6: there is such a curve, and its entry is refused
  pub curve : file_number b ≡ 6 → (place_of b).part < (head_of b).curves
  pub entry : file_number b ≡ 6 → entry_bad (entry_on b (place_of b).part) (place_of b).rule ≡ true
  -- 7, 8, 27 and 28: there is such a segment
  pub segment : 6 < file_number b → (place_of b).part < (head_of b).size
  -- 7, 8 and 27: its record is refused by this number
  pub refused : 6 < file_number b → file_number b < 28 → record_number b (head_of b) (place_of b).part ≡ file_number b
  -- 7 and 27: the rule is broken
  pub field : file_number b ≡ 7 → get_or (record_rules b (place_of b).part) (place_of b).rule false ≡ true
  pub follower : file_number b ≡ 27 → get_or (follower_rules b (place_of b).part) (place_of b).rule false ≡ true
  -- 28: this segment is refused
  pub origin : file_number b ≡ 28 → origin_number (segment_on b) (head_of b).size (place_of b).part ≡ 28
