-- From the number that the table gives to what a contract promises.
use Prim.Native.Nat.{ℕ, zero, suc}
use mathlib.Core.Path.{◌≡◌, refl, sym, ap, ◌∙◌}
use mathlib.Core.Bool.{true, false, ◌||◌, not}
use mathlib.Core.List.{List}
use lib.Ieee.{Float}
use borrow.Author.Tests.{not-false}
use Rattle.laws.specs.declared.Refusal.{Refusal}
use Rattle.laws.specs.Refusal.{number}
use Rattle.laws.proofs.Refused.{number_some}
use Rattle.laws.proofs.First.{row_applies, row_skipped, row_passed}
use Rattle.book.specs.Arrangement.{network_at, run_count_at, case_at}
use Rattle.book.specs.Sound.{sound}
use Rattle.book.specs.Calls.{Call, is_start}
use Rattle.book.specs.Question.{refused, Answer, number_of}
use Rattle.book.specs.Refusal.{refusal}
use Rattle.book.specs.Perform.{Arrays, Outcome, unless, grounds_at, refusal_at, answer_of, perform, lent, Performs, stored}

pub unless-refused : {S : Type 0} (m : ℕ) (before : S) (after : Outcome S) → (m ≡ 0 → ⊥) → unless m before after ≡ record { state = before; answer = refused m }
unfolding unless
unless-refused zero before after some = absurd (some refl)
unless-refused (suc m) before after some = refl

pub unless-accepted : {S : Type 0} (m : ℕ) (before : S) (after : Outcome S) → m ≡ 0 → unless m before after ≡ after
unfolding unless
unless-accepted m before after z = rw z

-- the number that is said is the one that refused
pub unless-number : {S : Type 0} (m : ℕ) (before : S) (after : Outcome S) → number_of after.answer ≡ 0 → number_of (unless m before after).answer ≡ m
unfolding unless
unless-number zero before after e = e
unless-number (suc m) before after e = refl

module _ (c : Call) (words : List ℕ) (speeds : List Float) where
  abbrev a : Arrays
  a = lent words speeds

  -- a refused call leaves both arrays as they came
  pub refuses : {m : ℕ} → m ≡ refusal_at c a → (m ≡ 0 → ⊥) → Performs c words speeds (refused m) words speeds
  unfolding perform
  refuses e some =
      let is = unless-refused (refusal_at c a) a _ (λ z. some (e ∙ z)) in
      record {
        answers = ap refused e ∙ ap (λ (o : Outcome Arrays). o.answer) (sym is);
        words_are = ap (λ (o : Outcome Arrays). o.state.words) (sym is);
        speeds_are = ap (λ (o : Outcome Arrays). o.state.speeds) (sym is);
      }

  -- so does one whose refusal the code found
  pub refused_call : (why : Refusal) → number why ≡ refusal_at c a → Performs c words speeds (refused (number why)) words speeds
  refused_call why e = refuses e (number_some why)

  -- an accepted one stores and answers
  pub accepts : {answer : Answer} {words' : List ℕ} {speeds' : List Float} → refusal_at c a ≡ 0
      → answer ≡ answer_of c (network_at words) (case_at words speeds) (run_count_at words) → words' ≡ (stored c a).words → speeds' ≡ (stored c a).speeds
      → Performs c words speeds answer words' speeds'
  unfolding perform
  accepts z said words_are speeds_are =
      let is = unless-accepted (refusal_at c a) a _ z in
      record {
        answers = said ∙ ap (λ (o : Outcome Arrays). o.answer) (sym is);
        words_are = words_are ∙ ap (λ (o : Outcome Arrays). o.state.words) (sym is);
        speeds_are = speeds_are ∙ ap (λ (o : Outcome Arrays). o.state.speeds) (sym is);
      }

  -- 12, of a call that is no Start
  pub unsound : is_start c ≡ false → sound words speeds ≡ false → 12 ≡ refusal_at c a
  unfolding refusal_at
  unsound p e = sym (row_applies _ _ _ (λ j. not (p j || e j)))

  -- and the rows after it
  pub judged : is_start c ≡ false → sound words speeds ≡ true → refusal_at c a ≡ refusal c (grounds_at a)
  unfolding refusal_at
  judged p e = row_skipped _ _ _ (λ j. not (p j || e j))

  -- only a sound study is not refused
  pub accepted-sound : is_start c ≡ false → refusal_at c a ≡ 0 → sound words speeds ≡ true
  unfolding refusal_at
  accepted-sound p z = sym (λ j. p j || sound words speeds) ∙ not-false (is_start c || sound words speeds) (row_passed _ _ _ z)
