-- What acceptance of Hold, Recall and Drop says.
use Prim.Native.Nat.{ℕ, ◌+◌, ◌≤◌}
use mathlib.Core.Path.{◌≡◌, refl, sym, ap, ◌∙◌, subst}
use mathlib.Core.Bool.{true, false}
use mathlib.Core.List.{List}
use lib.ListN.{get_or, set}
use lib.Ieee.{Float}
use Rattle.laws.proofs.First.{row_passed, row_later}
use Rattle.laws.proofs.Tests.{inside_high}
use Rattle.book.specs.Arrangement.{slots, size_at}
use Rattle.book.specs.Sound.{sound}
use Rattle.book.specs.Calls.{hold, recall, drop_slot}
use Rattle.book.specs.Refusal.{refusal}
use Rattle.book.specs.Perform.{Arrays, refusal_at, copied_words, copied_speeds, answer_of, lent, Performs, stored}
use Rattle.book.proofs.Laid.{Laid}
use Rattle.book.proofs.Network.{size_word}
use Rattle.book.proofs.Sounds.{laid}
use Rattle.book.proofs.Performing.{accepts, accepted-sound}
use Rattle.book.specs.Question.{accepted}
use Rattle.laws.specs.First.{outside}
use Rattle.refusal.proofs.Table.{hold_rows, recall_rows}

module _ (words : List ℕ) (speeds : List Float) (k : ℕ) where
  abbrev a : Arrays
  a = lent words speeds

  -- the rows of Drop are those of Recall
  pub drop_as_recall : refusal_at (drop_slot k) a ≡ refusal_at (recall k) a
  unfolding refusal_at refusal
  drop_as_recall = refl

  -- ---- what acceptance says

  -- a slot of a sound study, whose n is read where the code reads it
  pub record SlotAt : Type 0 where
    pub laid : Laid words speeds (get_or words 1 0)
    pub high : k ≤ 6

  slot_at : sound words speeds ≡ true → outside 1 k slots ≡ false → SlotAt
  slot_at s there = record { laid = subst (Laid words speeds) (size_word words) (laid words speeds s); high = inside_high 1 k 6 there }

  pub hold-slot : refusal_at (hold k) a ≡ 0 → SlotAt
  hold-slot z = slot_at (accepted-sound (hold k) words speeds refl z) (row_passed _ _ _ (row_later _ _ _ (sym (hold_rows words speeds k) ∙ z)))

  pub recall-slot : refusal_at (recall k) a ≡ 0 → SlotAt
  recall-slot z = slot_at (accepted-sound (recall k) words speeds refl z) (row_passed _ _ _ (row_later _ _ _ (sym (recall_rows words speeds k) ∙ z)))

  -- ---- what an accepted call leaves

  module _ {words' : List ℕ} {speeds' : List Float} {n : ℕ} (size : n ≡ size_at words) where
    pub held : refusal_at (hold k) a ≡ 0 → words' ≡ copied_words n 0 k words → speeds' ≡ copied_speeds n 0 k speeds
        → Performs (hold k) words speeds accepted (set words' (2560 + k) 1) speeds'
    unfolding stored answer_of
    held z p q =
        accepts (hold k) words speeds z refl
        (ap (λ (l : List ℕ). set l (2560 + k) 1) (p ∙ ap (λ (m : ℕ). copied_words m 0 k words) size))
        (q ∙ ap (λ (m : ℕ). copied_speeds m 0 k speeds) size)

    pub recalled : refusal_at (recall k) a ≡ 0 → words' ≡ copied_words n k 0 words → speeds' ≡ copied_speeds n k 0 speeds
        → Performs (recall k) words speeds accepted words' speeds'
    unfolding stored answer_of
    recalled z p q =
        accepts (recall k) words speeds z refl
        (p ∙ ap (λ (m : ℕ). copied_words m k 0 words) size)
        (q ∙ ap (λ (m : ℕ). copied_speeds m k 0 speeds) size)

  pub dropped : refusal_at (recall k) a ≡ 0 → Performs (drop_slot k) words speeds accepted (set words (2560 + k) 0) speeds
  unfolding stored answer_of
  dropped z = accepts (drop_slot k) words speeds (drop_as_recall ∙ z) refl refl refl
