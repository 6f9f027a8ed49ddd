-- A list of calls and runs that begins with a Start on the file of a network: its answers on arrays that are long enough are the book's.
use Prim.Native.Nat.{ℕ, ◌≤◌}
use mathlib.Core.Path.{◌≡◌, refl, sym, ap, ◌∙◌}
use mathlib.Core.Bool.{false, ◌||◌}
use mathlib.Core.List.{List, [], ◌∷◌}
use native.Mathlib.Omega.{arith}
use lib.Dec.{ltb}
use lib.ListN.{length, get_or}
use borrow.Author.Tests.{le-ltb}
use Rattle.laws.specs.First.{row}
use Rattle.laws.proofs.First.{row_skipped, first_zero}
use Rattle.format.specs.Network.{Network}
use Rattle.format.proofs.Accepted.{network_number, Formed}
use Rattle.format.specs.File.{network_of}
use Rattle.format.specs.Written.{file_of}
use Rattle.format.proofs.Reading.{read_back, file-accepted_of}
use Rattle.metanet.specs.Start.{start_case, start_number}
use Rattle.book.specs.Arrangement.{words_for, speeds_for}
use Rattle.book.specs.Calls.{start}
use Rattle.book.specs.Question.{accepted}
use Rattle.book.specs.Refusal.{refusal}
use Rattle.book.specs.Perform.{Arrays, refusal_at, answers}
use Rattle.book.specs.Book.{Book, started}
use Rattle.book.specs.Run.{CallOrRun, single, perform_any, enter_any}
use Rattle.book.proofs.Demand3.{demand_3, begin-entered}

module _ (w : Network) (within : network_number w ≡ 0) (formed : Formed w) (mvs speeds queues : List ℕ) (taken : start_number w mvs speeds queues ≡ 0) where
  network_is : network_of (file_of w) ≡ w
  network_is = read_back w within formed

  module _ (a : Arrays) (many : words_for w.head.size ≤ length a.words) (speeds_many : speeds_for w.head.size ≤ length a.speeds) where
    room : (ltb (length a.words) (words_for w.head.size) || ltb (length a.speeds) (speeds_for w.head.size)) ≡ false
    room = λ i. le-ltb (length a.words) (words_for w.head.size) many i || le-ltb (length a.speeds) (speeds_for w.head.size) speeds_many i

    start-taken : refusal_at (start (file_of w) mvs speeds queues) a ≡ 0
    unfolding refusal_at refusal row
    start-taken =
        first_zero _ _ (file-accepted_of w within)
        ∙ ap (λ (x : Network). row (ltb (length a.words) (words_for x.head.size) || ltb (length a.speeds) (speeds_for x.head.size)) 11 (start_number x mvs speeds queues)) network_is
        ∙ row_skipped _ _ _ room
        ∙ taken

    pub begun-answers : (cs : List CallOrRun)
        → answers perform_any (single (start (file_of w) mvs speeds queues) ∷ cs) a
        ≡ accepted ∷ answers (enter_any (length a.words) (length a.speeds)) cs (started w (start_case w mvs speeds queues))
    unfolding answers enter_any
    begun-answers cs =
        let b : Book = started w (start_case w mvs speeds queues) in
        (demand_3 (file_of w) mvs speeds queues cs a b start-taken).same_answers
        ∙ (rw (begin-entered (file_of w) mvs speeds queues a start-taken b, network_is) refl)

-- a network of one curve has lists as long as its head says
pub one_curve : (w : Network) → w.head.curves ≡ 1 → length w.curves ≡ 1 → length (get_or w.curves 0 []) ≡ 201 → length w.segments ≡ w.head.size → Formed w
one_curve w c l e s = record { curves = l ∙ sym c; entries = λ k h. ap (λ (j : ℕ). length (get_or w.curves j [])) (omega (arith, c, h)) ∙ e; segments = s }
