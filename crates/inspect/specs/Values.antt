-- The values that the rules of a row are about, in the order in which crates/format/specs/Place.antt lists the rules.
use Rattle.std.specs.Prelude.{ℕ, List, [], ◌∷◌}
use Rattle.laws.specs.BigEndian.{byte_at}
use Rattle.format.specs.declared.Segment.{Segment}
use Rattle.format.specs.File.{head_of}

-- row 4
abbrev pub head_values : List ℕ → List ℕ
head_values b =
    let h = head_of b in
    h.step ∷ h.size ∷ h.curves ∷ h.tau ∷ h.nu ∷ h.kappa ∷ h.delta
    ∷ byte_at b 11 ∷ byte_at b 14 ∷ byte_at b 15
    ∷ []

-- row 7, of the segment s, where byte is what stands at the refused place
abbrev pub record_values : Segment → ℕ → List ℕ
record_values s byte =
    s.metres ∷ s.lanes ∷ s.curve ∷ s.critical ∷ s.critical ∷ s.jam ∷ s.origin ∷ s.origin ∷ s.exit ∷ s.exit ∷ s.most ∷ s.most
    ∷ byte ∷ byte ∷ byte ∷ s.following.share ∷ s.following.share
    ∷ []
