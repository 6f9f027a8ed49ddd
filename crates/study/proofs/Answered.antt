-- What each call answers, and what acceptance says before it changes anything. Each ruleset is what the proof of one function needs.
use Prim.Native.Nat.{ℕ, ◌+◌, ◌-◌, ◌≤◌}
use mathlib.Core.Path.{◌≡◌, refl, sym, ◌∙◌}
use mathlib.Core.Bool.{false}
use mathlib.Core.List.{List}
use lib.IntN.{ℤ}
use lib.ListN.{length, get_or, set, take, drop}
use lib.Ieee.{Float}
use borrow.Rule.Slice.PartMut.{put_mid}
use Rattle.std.specs.Prelude.{Err}
use Rattle.laws.specs.declared.Refusal.{Refusal}
use Rattle.laws.specs.Refusal.{number}
use Rattle.laws.proofs.Lists.{span}
use Rattle.laws.proofs.Puts.{part_changed}
use Rattle.format.specs.Network.{segment_of}
use Rattle.metanet.specs.declared.Setting.{Setting}
use Rattle.metanet.specs.Change.{compliance_bad}
use Rattle.metanet.specs.Line.{signed, metered}
use Rattle.metanet.proofs.InWords.{signed_words, metered_words}
use Rattle.book.specs.Arrangement.{network_at, size_at, words_for, speeds_for}
use Rattle.book.specs.Question.{accepted, verdict_says}
use Rattle.book.specs.Calls.{item, hold, recall, drop_slot}
use Rattle.book.specs.Perform.{lent, refusal_at, answer_of, copied_words, copied_speeds, Performs}
use Rattle.book.proofs.Judging.{size_high}
use Rattle.book.proofs.Performing.{refused_call, accepts}
use Rattle.refusal.proofs.Settings.{state_word, sign_within, sign_compliance, meter_within}
use Rattle.refusal.proofs.Slots.{drop_as_recall, hold-slot, recall-slot, held, recalled, dropped}
use Rattle.study.proofs.Changing.{sign_stored, sign_speeds_stay, meter_stored, meter_speeds_stay}

module _ (words : List ℕ) (speeds : List Float) where
  -- ---- Sign and Meter write the 16 words of segment i's state

  module _ (i : ℕ) where
    module _ (limit : ℕ) (z : ℤ) (taken : 0 ≡ refusal_at (item (signed i limit z)) (lent words speeds)) where
      pub sign_fits : (refusal_at (item (signed i limit z)) (lent words speeds) ≡ 0)
          × (1 ≤ i) × (i ≤ 40) × (state_word i + 16 ≤ length words) × (compliance_bad z ≡ false)
      sign_fits = let w = sign_within words speeds i limit z (sym taken) in (sym taken, w.low, w.small, w.room, sign_compliance words speeds i limit z (sym taken))

      pub sign_done : {ys : List ℕ} → let at = state_word i in let k = at + 16 - at in ys ≡ signed_words limit z (take k (drop at words))
          → Performs (item (signed i limit z)) words speeds accepted (put_mid at k words ys) speeds
      unfolding answer_of
      sign_done {ys} e =
          accepts (item (signed i limit z)) words speeds (sym taken) refl
          (part_changed words ys (signed_words limit z) (state_word i) 16 _ (span (state_word i) 16) e ∙ sym (sign_stored words speeds i limit z (sym taken)))
          (sym (sign_speeds_stay words speeds i limit z (sym taken)))

    module _ (m : Setting) (taken : 0 ≡ refusal_at (item (metered i m)) (lent words speeds)) where
      pub meter_fits : (refusal_at (item (metered i m)) (lent words speeds) ≡ 0)
          × (1 ≤ i) × (i ≤ 40) × (i ≤ size_at words) × (state_word i + 16 ≤ length words)
      meter_fits = let w = meter_within words speeds i m (sym taken) in (sym taken, w.low, w.small, w.high, w.room)

      pub meter_done : {ys : List ℕ} → let at = state_word i in let k = at + 16 - at in
          ys ≡ metered_words (segment_of (network_at words) (i - 1)).most m (take k (drop at words))
          → Performs (item (metered i m)) words speeds accepted (put_mid at k words ys) speeds
      unfolding answer_of
      meter_done {ys} e =
          accepts (item (metered i m)) words speeds (sym taken) refl
          (part_changed words ys (metered_words (segment_of (network_at words) (i - 1)).most m) (state_word i) 16 _ (span (state_word i) 16) e ∙ sym (meter_stored words speeds i m (sym taken)))
          (sym (meter_speeds_stay words speeds i m (sym taken)))

  -- ---- Hold, Recall and Drop

  module _ (k : ℕ) where
    module _ (taken : 0 ≡ refusal_at (hold k) (lent words speeds)) where
      pub hold_fits : let n = get_or words 1 0 in (refusal_at (hold k) (lent words speeds) ≡ 0)
          × (k ≤ 6) × (n ≤ 40) × (words_for n ≤ length words) × (speeds_for n ≤ length speeds)
      hold_fits = let t = hold-slot words speeds k (sym taken) in (sym taken, t.high, size_high t.laid, t.laid.room, t.laid.speed_room)

      pub hold_done : {words' : List ℕ} {speeds' : List Float} → let n = get_or words 1 0 in words' ≡ copied_words n 0 k words → speeds' ≡ copied_speeds n 0 k speeds
          → Performs (hold k) words speeds accepted (set words' (2560 + k) 1) speeds'
      hold_done p q = held words speeds k (hold-slot words speeds k (sym taken)).laid.size (sym taken) p q

    module _ (taken : 0 ≡ refusal_at (recall k) (lent words speeds)) where
      pub recall_fits : let n = get_or words 1 0 in (refusal_at (recall k) (lent words speeds) ≡ 0)
          × (k ≤ 6) × (n ≤ 40) × (words_for n ≤ length words) × (speeds_for n ≤ length speeds)
      recall_fits = let t = recall-slot words speeds k (sym taken) in (sym taken, t.high, size_high t.laid, t.laid.room, t.laid.speed_room)

      pub recall_done : {words' : List ℕ} {speeds' : List Float} → let n = get_or words 1 0 in words' ≡ copied_words n k 0 words → speeds' ≡ copied_speeds n k 0 speeds
          → Performs (recall k) words speeds accepted words' speeds'
      recall_done p q = recalled words speeds k (recall-slot words speeds k (sym taken)).laid.size (sym taken) p q

      pub drop_done : Performs (drop_slot k) words speeds accepted (set words (2560 + k) 0) speeds
      drop_done = dropped words speeds k (sym taken)

    -- Drop's rows are Recall's
    pub drop_refused : (why : Refusal) → number why ≡ refusal_at (recall k) (lent words speeds) → Performs (drop_slot k) words speeds (verdict_says (Err why)) words speeds
    drop_refused why e = refused_call (drop_slot k) words speeds why (e ∙ sym (drop_as_recall words speeds k))

pub ruleset sign_call = (refused_call, sign_fits, sign_done)

pub ruleset meter_call = (refused_call, meter_fits, meter_done)

pub ruleset hold_call = (refused_call, hold_fits, hold_done)

pub ruleset recall_call = (refused_call, recall_fits, recall_done)

pub ruleset drop_call = (drop_refused, recall_fits, drop_done)
