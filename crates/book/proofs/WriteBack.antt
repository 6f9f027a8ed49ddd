-- An accepted network writes back to the file's bytes, from demand 3: the last accepted Start of the list is its first call.
use Prim.Native.Nat.{ℕ, ◌≤◌}
use mathlib.Core.Path.{◌≡◌, refl, sym, ap, ◌∙◌}
use mathlib.Core.Bool.{true, not, false≢true}
use mathlib.Core.List.{List, [], ◌∷◌, ◌++◌, head-eq_of_cons-eq, tail-eq_of_cons-eq}
use lib.Dec.{ltb}
use lib.Ieee.{Float}
use lib.ListN.{length, drop}
use borrow.Author.Tests.{le-ltb}
use Rattle.laws.specs.First.{row}
use Rattle.laws.specs.BigEndian.{Bytes}
use Rattle.laws.proofs.First.{row_skipped, first_zero_left, when_accepted}
use Rattle.laws.proofs.Tests.{and_left, and_right}
use Rattle.format.specs.Network.{Network, network_from}
use Rattle.format.specs.File.{file_size, file_number, network_of}
use Rattle.format.specs.Written.{file_of}
use Rattle.format.proofs.File.{file-accepted}
use Rattle.format.proofs.RoundTrip.{round_trip}
use Rattle.book.specs.Arrangement.{network_at}
use Rattle.book.specs.Sound.{sound}
use Rattle.book.specs.Calls.{Call, start, hold, recall, drop_slot, is_start, item, question, no_call}
use Rattle.metanet.specs.Start.{start_case}
use Rattle.book.specs.Refusal.{refusal}
use Rattle.book.specs.Perform.{Arrays, refusal_at, after}
use Rattle.book.specs.Book.{Book, started}
use Rattle.book.specs.Run.{single, perform_any}
use Rattle.book.specs.Claim.{Since}
use Rattle.book.specs.Write.{write_refusal, written_bytes, StudyWritesBack}
use Rattle.book.proofs.Demand3.{demand_3, begin-taken}

-- ---- Write of a sound study that holds the network of an accepted file

module _ (file : List ℕ) (bs : Bytes file) (f : file_number file ≡ 0) where
  size_is : file_size (network_of file).head ≡ length file
  unfolding network_from
  size_is = sym (file-accepted file f).head.sized.long

  module _ (words : List ℕ) (speeds : List Float) (out : List ℕ) (s : sound words speeds ≡ true) (w : network_at words ≡ network_of file)
      (room : length file ≤ length out) where
    no_refusal : write_refusal words speeds out ≡ 0
    unfolding write_refusal
    no_refusal =
        row_skipped _ _ _ (ap not s)
        ∙ row_skipped _ _ _ (ap (λ (x : Network). ltb (length out) (file_size x.head)) w ∙ ap (ltb (length out)) size_is ∙ le-ltb _ _ room)

    written : written_bytes words speeds out ≡ file ++ drop (length file) out
    unfolding written_bytes
    written =
        when_accepted _ _ _ no_refusal
        ∙ (λ i. file_of (w i) ++ drop (file_size (w i).head) out)
        ∙ (λ i. round_trip file bs f i ++ drop (size_is i) out)

-- ---- the last accepted Start, where no accepted call after the first is one

has_start : (cs : List Call) (s : Call) (later : List Call) → is_start s ≡ true → no_call is_start (cs ++ (s ∷ later)) ≡ true → ⊥
unfolding no_call
has_start [] s later e n = false≢true (ap not (sym e) ∙ and_left (not (is_start s)) (no_call is_start later) n)
has_start (x ∷ cs) s later e n = has_start cs s later e (and_right (not (is_start x)) (no_call is_start (cs ++ (s ∷ later))) n)

-- a Start in such a list is its first call
only_start : (c : Call) (cs before : List Call) (s : Call) (later : List Call) → no_call is_start cs ≡ true → is_start s ≡ true
    → (c ∷ cs) ≡ before ++ (s ∷ later) → c ≡ s
only_start c cs [] s later n t p = head-eq_of_cons-eq p
only_start c cs (x ∷ before) s later n t p = absurd (has_start before s later t (ap (no_call is_start) (sym (tail-eq_of_cons-eq p)) ∙ n))

-- the file that a Start brings
abbrev file_in : Call → List ℕ
file_in = elim [ start file mvs speeds queues ↦ file | item i ↦ [] | hold k ↦ [] | recall k ↦ [] | drop_slot k ↦ [] | question q ↦ [] ]

-- ---- from demand 3

file-taken : (file mvs initial queues : List ℕ) (a : Arrays) → refusal_at (start file mvs initial queues) a ≡ 0 → file_number file ≡ 0
unfolding refusal_at row refusal
file-taken file mvs initial queues a e = first_zero_left _ _ e

file_is : (file mvs initial queues : List ℕ) (cs : List Call) (b : Book) → no_call is_start cs ≡ true → (s : Since (start file mvs initial queues ∷ cs) b) → s.file ≡ file
file_is file mvs initial queues cs b n s =
    sym (ap file_in
    (only_start (start file mvs initial queues) cs s.before (start s.file s.mvs s.speeds s.queues) s.later n refl s.split))

pub write_back : StudyWritesBack
write_back file mvs initial queues cs a out e n bs room =
    let z : Arrays = after perform_any (single (start file mvs initial queues) ∷ cs) a in
    let f : file_number file ≡ 0 = file-taken file mvs initial queues a e in
    let b : Book = started (network_of file) (start_case (network_of file) mvs initial queues) in
    let d = demand_3 file mvs initial queues cs a b e in
    let s = rw (begin-taken file mvs initial queues a e cs) at d.since in
    written file bs f z.words z.speeds out d.is_sound
    (d.network ∙ s.network ∙ ap network_of (file_is file mvs initial queues _ _ n s)) room
