-- The words of the network that an accepted file holds: they are accepted, and they hold that network.
use Prim.Native.Nat.{ℕ}
use mathlib.Core.Path.{◌≡◌, ap, sym, ◌∙◌}
use mathlib.Core.List.{List}
use lib.ListN.{length}
use native.Mathlib.Nat.{le_of_eq}
use borrow.Author.Tests.{le-ltb}
use Rattle.laws.proofs.First.{row_skipped}
use Rattle.format.specs.Network.{network_from}
use Rattle.format.proofs.Accepted.{network_number, HeadWithin}
use Rattle.format.specs.File.{head_of, entry_on, segment_on, file_number, network_of}
use Rattle.format.specs.Words.{head_in, entry_in, segment_in, network_in, kept_number, kept_words}
use Rattle.format.proofs.From.{from_formed, from_number}
use Rattle.format.proofs.File.{file-accepted, network-accepted}
use Rattle.format.proofs.Kept.{length_kept, kept_back}

module _ (b : List ℕ) (z : file_number b ≡ 0) where
  abbrev ws : List ℕ
  ws = kept_words (network_of b)

  within : HeadWithin (head_of b)
  within = (file-accepted b z).head.sized.within

  length-words : length ws ≡ 2560
  unfolding network_from
  length-words = length_kept (network_of b) within.curves_high within.size_high

  pub kept_network : network_in ws ≡ network_of b
  unfolding network_from
  kept_network = kept_back (network_of b) (from_formed (head_of b) (entry_on b) (segment_on b)) within.curves_high

  pub kept_file : kept_number ws ≡ 0
  unfolding kept_number
  kept_file =
      row_skipped _ _ _ (le-ltb _ _ (le_of_eq (sym length-words)))
      ∙ sym (from_number (head_in ws) (entry_in ws) (segment_in ws))
      ∙ ap network_number kept_network
      ∙ network-accepted b z
