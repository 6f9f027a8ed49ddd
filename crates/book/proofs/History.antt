-- The accepted calls with one more, and what the book says of them: `Since`, kept by each call.
use Prim.Native.Nat.{ℕ, zero, suc, ◌+◌}
use mathlib.Core.Path.{◌≡◌, refl, sym, ap, ◌∙◌, subst}
use mathlib.Core.Bool.{Bool, true, false, cond, ◌&&◌, ◌||◌, not, and-true}
use mathlib.Core.List.{List, [], ◌∷◌, ◌++◌, append_assoc}
use mathlib.Core.Option.{Option, none, some}
use native.Mathlib.Omega.{arith}
use lib.Dec.{eqb}
use Rattle.laws.proofs.Tests.{and_left, and_right}
use Rattle.format.specs.File.{network_of}
use Rattle.book.specs.Calls.{Call, start, hold, recall, drop_slot, is_start, is_hold, is_drop, steps_in, held_in, steps_by, item, question, no_call}
use Rattle.metanet.specs.Start.{start_case}
use Rattle.book.specs.Refusal.{refusal}
use Rattle.book.specs.Perform.{Outcome, unless, answer_of}
use Rattle.metanet.specs.Line.{Line}
use Rattle.book.specs.Book.{Book, is_filled, started, entered, grounds_in, enter, book_case}
use Rattle.book.specs.Claim.{Since}
use Rattle.laws.specs.First.{if_accepted}

-- ---- a list of calls with one more

pub no_start_snoc : (es : List Call) (e : Call) → no_call is_start es ≡ true → is_start e ≡ false → no_call is_start (es ++ (e ∷ [])) ≡ true
unfolding no_call
no_start_snoc [] e h f = rw f
no_start_snoc (x ∷ es) e h f =
    rw (and_left (not (is_start x)) (no_call is_start es) h) (no_start_snoc es e (and_right (not (is_start x)) (no_call is_start es) h) f)

pub steps_in_snoc : (es : List Call) (e : Call) → steps_in (es ++ (e ∷ [])) ≡ steps_in es + steps_by e
unfolding steps_in
steps_in_snoc [] e = omega arith
steps_in_snoc (x ∷ es) e = omega (arith, steps_in_snoc es e)

pub no_drop_snoc : (k : ℕ) (es : List Call) (e : Call) → no_call (is_drop k) (es ++ (e ∷ [])) ≡ (no_call (is_drop k) es && not (is_drop k e))
unfolding no_call
no_drop_snoc k [] e = and-true (not (is_drop k e))
no_drop_snoc k (x ∷ es) e = go (not (is_drop k x)) (no_drop_snoc k es e)
  where
    go : (t : Bool) → no_call (is_drop k) (es ++ (e ∷ [])) ≡ (no_call (is_drop k) es && not (is_drop k e))
        → (t && no_call (is_drop k) (es ++ (e ∷ []))) ≡ (t && no_call (is_drop k) es && not (is_drop k e))
    go true ih = ih
    go false ih = refl

regroup : (H D q R y : Bool) → (H && (D && q) || (R && q || y)) ≡ ((H && D || R) && q || y)
regroup false D q R y = refl
regroup true false q R y = refl
regroup true true true R y = refl
regroup true true false true y = refl
regroup true true false false y = refl

-- a hold and its later drop: the new call drops what was held before it, or holds
pub held_in_snoc : (k : ℕ) (es : List Call) (e : Call)
    → held_in k (es ++ (e ∷ [])) ≡ (held_in k es && not (is_drop k e) || is_hold k e)
unfolding held_in no_call
held_in_snoc k [] e = go (is_hold k e)
  where
    go : (t : Bool) → (t && true || false) ≡ t
    go true = refl
    go false = refl
held_in_snoc k (x ∷ es) e =
    rw (no_drop_snoc k es e, held_in_snoc k es e)
    (regroup (is_hold k x) (no_call (is_drop k) es) (not (is_drop k e)) (held_in k es) (is_hold k e))

-- ---- the book after one more call

-- a call that is no Start
since_more : {h : List Call} {b b' : Book} → Since h b → (e : Call) → is_start e ≡ false
    → b'.network ≡ b.network → b'.begun ≡ b.begun → b'.runs ≡ b.runs + steps_by e
    → ((k : ℕ) → is_filled (b'.slot k) ≡ (is_filled (b.slot k) && not (is_drop k e) || is_hold k e))
    → Since (h ++ (e ∷ [])) b'
since_more {h} {b} {b'} S e f p q u s =
    record {
      before = S.before;
      file = S.file;
      mvs = S.mvs;
      speeds = S.speeds;
      queues = S.queues;
      later = S.later ++ (e ∷ []);
      split =
          ap (λ (x : List Call). x ++ (e ∷ [])) S.split
          ∙ append_assoc S.before (start S.file S.mvs S.speeds S.queues ∷ S.later) (e ∷ []);
      last = no_start_snoc S.later e S.last f;
      network = p ∙ S.network;
      begun = q ∙ S.begun;
      filled = λ k.
          s k
          ∙ ap (λ (t : Bool). t && not (is_drop k e) || is_hold k e) (S.filled k)
          ∙ sym (held_in_snoc k S.later e);
      runs = u ∙ ap (λ (n : ℕ). n + steps_by e) S.runs ∙ sym (steps_in_snoc S.later e);
    }

pub since-start : (h : List Call) (file mvs speeds queues : List ℕ)
    → Since (h ++ (start file mvs speeds queues ∷ [])) (started (network_of file) (start_case (network_of file) mvs speeds queues))
unfolding no_call held_in steps_in
since-start h file mvs speeds queues =
    record {
      before = h;
      file = file;
      mvs = mvs;
      speeds = speeds;
      queues = queues;
      later = [];
      split = refl;
      last = refl;
      network = refl;
      begun = refl;
      filled = λ k. refl;
      runs = refl;
    }

-- ---- one call, accepted or refused

same : (t : Bool) → t ≡ (t && true || false)
same true = refl
same false = refl

held_filled : (t : Bool) (l : Line) (o : Option Line) → is_filled (cond t (some l) o) ≡ (is_filled o && true || t)
held_filled true l none = refl
held_filled true l (some m) = refl
held_filled false l none = refl
held_filled false l (some m) = refl

dropped_filled : (t : Bool) (o : Option Line) → is_filled (cond t none o) ≡ (is_filled o && not t || false)
dropped_filled true none = refl
dropped_filled true (some m) = refl
dropped_filled false none = refl
dropped_filled false (some m) = refl

module _ {h : List Call} {b : Book} (S : Since h b) where
  since-accepted : (c : Call) → Since (h ++ (c ∷ [])) (entered c b)
  unfolding entered
  since-accepted (start file mvs speeds queues) = since-start h file mvs speeds queues
  since-accepted (item i) = since_more S (item i) refl refl refl refl (λ k. same (is_filled (b.slot k)))
  since-accepted (hold j) = since_more S (hold j) refl refl refl (omega arith) (λ k. held_filled (eqb k j) b.live (b.slot k))
  since-accepted (recall j) = since_more S (recall j) refl refl refl (omega arith) (λ k. same (is_filled (b.slot k)))
  since-accepted (drop_slot j) = since_more S (drop_slot j) refl refl refl (omega arith) (λ k. dropped_filled (eqb k j) (b.slot k))
  since-accepted (question q) = since_more S (question q) refl refl refl (omega arith) (λ k. same (is_filled (b.slot k)))

  -- later are the calls accepted after this one, and B is the book after them
  pub since_call : (words speeds : ℕ) (c : Call) (later : List Call) (B : Book)
      → ((x : List Call) → Since x (enter words speeds c b).state → Since (x ++ later) B)
      → Since (h ++ if_accepted (refusal c (grounds_in words speeds b)) (c ∷ later) later) B
  unfolding enter unless if_accepted
  since_call words speeds c later B more = go (refusal c (grounds_in words speeds b)) more
    where
      o : Outcome Book
      o = record { state = entered c b; answer = answer_of c b.network (book_case b) b.runs }

      go : (m : ℕ) → ((x : List Call) → Since x (unless m b o).state → Since (x ++ later) B) → Since (h ++ if_accepted m (c ∷ later) later) B
      go zero more =
          subst (λ (x : List Call). Since x B) (append_assoc h (c ∷ []) later) (more (h ++ (c ∷ [])) (since-accepted c))
      go (suc m) more = more h S
