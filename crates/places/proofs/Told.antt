-- The place of a file that is accepted, and of one that is refused, part by part.
use Rattle.std.proofs.Common.{◌≡◌, ℕ, List}
use Rattle.laws.specs.First.{row}
use Rattle.format.specs.File.{file_number}
use Rattle.format.specs.Place.{place, place_of}
use Rattle.format.proofs.PlaceParts.{part_of, rule_of, head_offset, offset_of, place-parts}

pub accepted : (b : List ℕ) → 0 ≡ file_number b → place 0 0 0 0 ≡ place_of b
unfolding part_of rule_of offset_of head_offset row
accepted b e = rw (place-parts b, ← e)

pub refused_at : (b : List ℕ) (n part rule offset : ℕ) → n ≡ file_number b → part ≡ part_of b n → rule ≡ rule_of b n part → offset ≡ offset_of b n part rule → place n part rule offset ≡ place_of b
refused_at b n part rule offset e p r o = rw (place-parts b, ← e) (rw (o, r, p))
