-- The bytes of a record: those of version 1 are the first 16 of the 20 of version 2.
use Prim.Native.Nat.{ℕ, ◌/◌, ◌≤◌}
use mathlib.Core.Bool.{Bool, true, false, cond}
use mathlib.Core.List.{List, [], ◌∷◌, ◌++◌}
use mathlib.Core.Path.{◌≡◌, refl}
use lib.Dec.{eqb}
use lib.ListN.{length, take}
use lib.Seq.{length-take-le}
use Rattle.laws.specs.BigEndian.{low}
use Rattle.format.specs.declared.Head.{Head}
use Rattle.format.specs.declared.Following.{Following}
use Rattle.format.specs.declared.Segment.{Segment}
use Rattle.format.specs.File.{record_size}
use Rattle.format.specs.Written.{following_bytes, segment_bytes, record_bytes}

-- the four bytes of version 2
abbrev pub four_bytes : Following → List ℕ
four_bytes f = low f.first ∷ low f.second ∷ low (f.share / 256) ∷ low f.share ∷ []

unfoldable pub long_bytes : Segment → List ℕ
unfolding segment_bytes
long_bytes s = segment_bytes s ++ four_bytes s.following

pub length_long : (s : Segment) → length (long_bytes s) ≡ 20
unfolding long_bytes
length_long s = refl

pub length_long_part : (w : ℕ) (s : Segment) → w ≤ 20 → length (take w (long_bytes s)) ≡ w
length_long_part w s l = length-take-le w (long_bytes s) (rw (length_long s) l)

pub record_is : (h : Head) (s : Segment) → record_bytes h s ≡ take (record_size h) (long_bytes s)
unfolding record_bytes following_bytes long_bytes record_size
record_is h s = go (eqb h.version 1)
  where
    go : (t : Bool) → segment_bytes s ++ cond t [] (four_bytes s.following) ≡ take (cond t 16 20) (segment_bytes s ++ four_bytes s.following)
    go true = refl
    go false = refl
