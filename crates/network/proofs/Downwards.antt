-- A search downwards, of all numbers below n.
use Rattle.std.proofs.Common.{◌≡◌, ℕ, zero, suc, ◌+◌, ◌-◌, ◌<◌, Bool, ◌||◌, List, [], ◌∷◌, length, refl, subst, sym, ap, ◌∙◌, zero-add, arith}
use Rattle.std.proofs.Math.Bool.{or_comm}
use Rattle.std.proofs.lemmas.Iterator.{YieldsList}
use Rattle.std.proofs.lemmas.Iterator.Consumers.{YieldsList-from_shown}
use Rattle.std.specs.List.{list_any}
use Rattle.std.specs.Prelude.{Option, Some, None, MatchOption}
use Rattle.std.specs.declared.iter.Rev.{Rev}
use Rattle.std.specs.declared.ops.Range.{Range}
use Rattle.laws.specs.First.{some_below}

-- the n numbers from a on, the last first
abbrev pub down : ℕ → ℕ → List ℕ
down a zero = []
down a (suc n) = (a + n) ∷ down a n

-- a step of a range from its back
abbrev back : Rev (Range ℕ) → Option ℕ → Rev (Range ℕ) → Type 0
back s r t =
    (t.iter.start ≡ s.iter.start)
    × MatchOption r ((s.iter.end - s.iter.start ≡ 0) × (t.iter.end ≡ s.iter.end)) (λ x. (0 < s.iter.end - s.iter.start) × (x ≡ t.iter.end) × (s.iter.end ≡ t.iter.end + 1))

left : Rev (Range ℕ) → List ℕ
left s = down s.iter.start (s.iter.end - s.iter.start)

pub yields_down : {s : Rev (Range ℕ)} (n : ℕ) → s.iter ≡ record { start = 0; end = n } → YieldsList back (λ x. x) s (down 0 n)
unfolding left
yields_down {s} n is =
    let long : s.iter.end - s.iter.start ≡ n = omega (arith, ap (λ (r : Range ℕ). r.end) is, ap (λ (r : Range ℕ). r.start) is) in
    subst (λ (p : Range ℕ × ℕ). YieldsList back (λ x. x) s (down p.0.start p.1)) (λ j. (is j, long j)) (YieldsList-from_shown back (λ x. x) left none some s)
  where
    none : (s t : Rev (Range ℕ)) → back s None t → length (left s) ≡ 0
    none s t p = ap (λ n. length (down s.iter.start n)) p.1.0

    some : (s : Rev (Range ℕ)) (x : ℕ) (t : Rev (Range ℕ)) → back s (Some x) t → left s ≡ x ∷ left t
    some s x t p =
        let more : s.iter.end - s.iter.start ≡ suc (t.iter.end - t.iter.start) = omega (arith, p.0, p.1) in
        let last : s.iter.start + (t.iter.end - t.iter.start) ≡ x = omega (arith, p.0, p.1) in
        ap (down s.iter.start) more ∙ (λ j. last j ∷ down (sym p.0 j) (t.iter.end - t.iter.start))

pub some_down : (test : ℕ → Bool) (n : ℕ) → list_any test (down 0 n) ≡ some_below test n
unfolding some_below
some_down test zero = refl
some_down test (suc n) = (λ j. test (zero-add n j) || some_down test n j) ∙ or_comm (test n) (some_below test n)
