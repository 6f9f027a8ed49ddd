-- Laws of refusals: each has a number above 0, so that 0 says acceptance.
use Rattle.std.proofs.Common.{◌≡◌, ◌<◌, ◌+◌, ℕ, lit<, refl, sym, ◌∙◌, arith}
use Rattle.laws.specs.declared.Refusal.{Refusal}
use Rattle.laws.specs.declared.Refusal.TheVariants as refusal
use Rattle.laws.specs.First.{first, first_of, if_accepted}
use Rattle.laws.specs.Refusal.{number}
use Rattle.laws.proofs.First.{first_some, when_refused, first_of_none, first_of_found, first_of_passed}

pub number_above : (why : Refusal) → 0 < number why
number_above = elim [ refusal.NoHead ↦ lit< tt | refusal.NoMark ↦ lit< tt | refusal.Version ↦ lit< tt | refusal.Head ↦ lit< tt | refusal.Length ↦ lit< tt | refusal.Curve ↦ lit< tt | refusal.Record ↦ lit< tt | refusal.TooFast ↦ lit< tt | refusal.NoCurve ↦ lit< tt | refusal.ShortArrays ↦ lit< tt | refusal.NotSound ↦ lit< tt | refusal.ListLength ↦ lit< tt | refusal.StartFigure ↦ lit< tt | refusal.Arrival ↦ lit< tt | refusal.NoMoreSteps ↦ lit< tt | refusal.NoSegment ↦ lit< tt | refusal.Sign ↦ lit< tt | refusal.NoRamp ↦ lit< tt | refusal.Setting ↦ lit< tt | refusal.NoSlot ↦ lit< tt | refusal.SlotFilled ↦ lit< tt | refusal.SlotEmpty ↦ lit< tt | refusal.NoRoom ↦ lit< tt | refusal.NotASurvey ↦ lit< tt | refusal.SurveySize ↦ lit< tt | refusal.Followers ↦ lit< tt | refusal.NothingEnters ↦ lit< tt ]

pub number_some : (why : Refusal) → number why ≡ 0 → ⊥
number_some why e = omega (arith, number_above why)

-- ---- the first of two numbers is that of a refusal, and what was lent stays

pub first_above : (m later : ℕ) → 0 < m → first m later ≡ m
first_above m later some = first_some m later (λ z. omega (arith, z, some))

pub first_refused : (why : Refusal) (m later : ℕ) → number why ≡ m → number why ≡ first m later
first_refused why m later is = is ∙ sym (first_some m later (λ z. number_some why (is ∙ z)))

pub lent_stays : {A : Type 0} (m : ℕ) (accepted lent : A) → 0 < m → if_accepted m accepted lent ≡ lent
lent_stays m accepted lent some = when_refused m accepted lent (λ z. omega (arith, z, some))

-- ---- a loop that goes over the rows 0 .. n - 1 and stops at the first that is refused: none of those passed was

module _ (f : ℕ → ℕ) where
  -- row i is refused: so is the whole
  pub refused_at : (n i : ℕ) (why : Refusal) → i < n → first_of f i ≡ 0 → number why ≡ f i → number why ≡ first_of f n
  refused_at n i why more none is = first_of_found f n i more none is (number_some why)

  -- it is not: the loop goes on
  pub passed_on : (i : ℕ) → first_of f i ≡ 0 → 0 ≡ f i → first_of f (i + 1) ≡ 0
  passed_on i none is = first_of_passed f i none is refl

-- what a proof of such a loop needs
pub ruleset row_loop = (first_of_none, refused_at, passed_on)
