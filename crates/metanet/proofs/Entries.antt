-- Laws of what enters: one segment more, how large it can be, and that a segment's entry is complete when its turn comes.
use Prim.Native.Nat.{ℕ, zero, suc, ◌+◌, ◌*◌, ◌≤◌, ◌<◌}
use mathlib.Core.Path.{◌≡◌, refl, sym, ap, ◌∙◌}
use mathlib.Core.Bool.{Bool, true, false, cond, not, ◌||◌}
use mathlib.Core.List.{List}
use mathlib.Core.Logic.{⊎_elim}
use native.Mathlib.Nat.{eq-or-lt_of_le, le_of_suc-le-suc, pos_of_ne-zero}
use native.Mathlib.Omega.{arith}
use lib.ListN.{length, get_or, set}
use lib.Seq.{get_or-set_same, get_or-set_other}
use lib.Dec.{eqb}
use lib.Ieee.{Float, nan}
use borrow.Author.Tests.{eqb-true, eqb-false, ne_eqb}
use Rattle.laws.specs.First.{some_below}
use Rattle.laws.specs.Real.{real, ◌⊕◌, ◌⊗◌}
use Rattle.laws.specs.Sums.{sum_of}
use Rattle.format.specs.declared.Following.{Following}
use Rattle.format.proofs.Accepted.{FollowingWithin}
use Rattle.metanet.specs.declared.Entry.{Entry}
use Rattle.metanet.specs.Junction.{reaching, with_more, weighted_to, last_to, gathered, two_after, density_ahead}

-- nothing has entered yet
abbrev pub no_entry : Entry
no_entry = record { passed = 0; outflows = 0; weighted = real 0; segments = 0; last = real 0 }

-- what stands past the end of a list of entries
abbrev pub blank : Entry
blank = record { passed = 0; outflows = 0; weighted = nan; segments = 0; last = nan }

-- one segment more: of its outflow out at speed v, amount enters
abbrev pub joined : Entry → ℕ → ℕ → Float → Entry
joined e amount out v =
    record { passed = e.passed + amount; outflows = e.outflows + out; weighted = e.weighted ⊕ (real out ⊗ v); segments = e.segments + 1; last = v }

-- what that asks, so that no sum wraps
pub record JoinOk (e : Entry) (amount out : ℕ) : Type 0 where
  pub amount_high : amount ≤ 1000000000000
  pub out_high : out ≤ 1000000000000
  pub passed_high : e.passed ≤ 100000000000000
  pub outflows_high : e.outflows ≤ 100000000000000
  pub segments_high : e.segments ≤ 100

-- one segment more, where it enters
unfoldable pub joined_if : Bool → Entry → ℕ → ℕ → Float → Entry
joined_if true e amount out v = joined e amount out v
joined_if false e amount out v = e

-- the same entry
entry_ext : {p q o r w x : ℕ} (s t : Float) → p ≡ q → o ≡ r → w ≡ x
    → ◌≡◌ {A = Entry} (record { passed = p; outflows = o; weighted = s; segments = w; last = t }) (record { passed = q; outflows = r; weighted = s; segments = x; last = t })
entry_ext s t e f g = λ j. record { passed = e j; outflows = f j; weighted = s; segments = g j; last = t }

-- no figure of e is above m ways' worth
pub record High (e : Entry) (m : ℕ) : Type 0 where
  pub passed_high : e.passed ≤ 1000000000000 * m
  pub outflows_high : e.outflows ≤ 1000000000000 * m
  pub segments_high : e.segments ≤ m

pub high_join : (e : Entry) (m x o : ℕ) → m ≤ 100 → High e m → x ≤ 1000000000000 → o ≤ 1000000000000 → JoinOk e x o
high_join e m x o l h p q =
    record { amount_high = p; out_high = q; passed_high = omega (arith, h.passed_high); outflows_high = omega (arith, h.outflows_high); segments_high = omega (arith, h.segments_high) }

pub high_more : (t : Bool) (e : Entry) (m x o : ℕ) (v : Float) → High e m → x ≤ 1000000000000 → o ≤ 1000000000000 → High (joined_if t e x o v) (m + 1)
unfolding joined_if
high_more true e m x o v h p q = record { passed_high = omega (arith, h.passed_high); outflows_high = omega (arith, h.outflows_high); segments_high = omega (arith, h.segments_high) }
high_more false e m x o v h p q = record { passed_high = omega (arith, h.passed_high); outflows_high = omega (arith, h.outflows_high); segments_high = omega (arith, h.segments_high) }

module _ (first second a b out : ℕ → ℕ) (speed : ℕ → Float) where
  abbrev g : ℕ → ℕ → Entry
  g d n = gathered first second a b out speed d n

  pub gathered_none : (d : ℕ) → g d 0 ≡ no_entry
  unfolding gathered reaching weighted_to last_to sum_of
  gathered_none d = refl

  -- what the turn of segment i makes of the entry of number d
  abbrev turned : ℕ → ℕ → Entry → Entry
  turned i d e = joined_if (eqb (second i) d) (joined_if (eqb (first i) d) e (a i) (out i) (speed i)) (b i) (out i) (speed i)

  pub gathered_more : (i d : ℕ) → g d (suc i) ≡ turned i d (g d i)
  unfolding gathered reaching weighted_to last_to sum_of joined_if
  gathered_more i d = go (eqb (first i) d) (eqb (second i) d) (reaching first second a b i d) (reaching first second out out i d) (reaching first second (λ _. 1) (λ _. 1) i d) (weighted_to first second a b out speed d i) (last_to first second a b out speed d i)
    where
      go : (s t : Bool) (p o w : ℕ) (f l : Float)
          → ◌≡◌ {A = Entry} (record {
            passed = p + (cond s (a i) 0 + cond t (b i) 0);
            outflows = o + (cond s (out i) 0 + cond t (out i) 0);
            weighted = with_more t (real (out i) ⊗ speed i) (with_more s (real (out i) ⊗ speed i) f);
            segments = w + (cond s 1 0 + cond t 1 0);
            last = cond t (speed i) (cond s (speed i) l);
          })
          (joined_if t (joined_if s (record { passed = p; outflows = o; weighted = f; segments = w; last = l }) (a i) (out i) (speed i)) (b i) (out i) (speed i))
      go true true p o w f l = entry_ext _ _ (omega arith) (omega arith) (omega arith)
      go true false p o w f l = entry_ext _ _ (omega arith) (omega arith) (omega arith)
      go false true p o w f l = entry_ext _ _ (omega arith) (omega arith) (omega arith)
      go false false p o w f l = entry_ext _ _ (omega arith) (omega arith) (omega arith)

  -- ---- followers have higher numbers

  module _ {n : ℕ} (share : ℕ → ℕ) (on : (i : ℕ) → i < n → FollowingWithin n i (record { first = first i; second = second i; share = share i })) where
    elsewhere : (i k f : ℕ) → i ≤ k → (0 < f → k + 1 < f) → eqb f (suc i) ≡ false
    elsewhere i k f l h = ne_eqb f (suc i) (λ e. omega (arith, e, l, h (omega (arith, e))))

    gathered_same : (i k : ℕ) → i ≤ k → k < n → g (suc i) (suc k) ≡ g (suc i) k
    unfolding joined_if
    gathered_same i k m h =
        let o = on k h in
        gathered_more k (suc i) ∙ rw (elsewhere i k (first k) m o.first_higher, elsewhere i k (second k) m o.second_higher)

    -- as the paper has it: a segment that enters segment k adds its product once
    pub weighted_once : (i k : ℕ) → i < n
        → weighted_to first second a b out speed (suc k) (suc i) ≡ with_more (eqb (first i) (suc k) || eqb (second i) (suc k)) (real (out i) ⊗ speed i) (weighted_to first second a b out speed (suc k) i)
    unfolding weighted_to
    weighted_once i k l = go (eqb (first i) (suc k)) (eqb (second i) (suc k)) refl refl
      where
        go : (s t : Bool) → eqb (first i) (suc k) ≡ s → eqb (second i) (suc k) ≡ t
            → with_more t (real (out i) ⊗ speed i) (with_more s (real (out i) ⊗ speed i) (weighted_to first second a b out speed (suc k) i)) ≡ with_more (s || t) (real (out i) ⊗ speed i) (weighted_to first second a b out speed (suc k) i)
        go true true e f = absurd (let x = eqb-true _ _ e in let y = eqb-true _ _ f in (on i l).apart (omega (arith, y)) (x ∙ sym y))
        go true false e f = refl
        go false true e f = refl
        go false false e f = refl

    -- no segment from i on enters segment i
    pub gathered_all : (i k : ℕ) → i ≤ k → k ≤ n → g (suc i) k ≡ g (suc i) i
    gathered_all i zero l h = ap (g (suc i)) (omega arith)
    gathered_all i (suc k) l h =
        ⊎_elim
        (λ e. ap (g (suc i)) (sym e))
        (λ lt. gathered_same i k (le_of_suc-le-suc lt) h ∙ gathered_all i k (le_of_suc-le-suc lt) (omega arith))
        (eq-or-lt_of_le l)

  -- ---- one enters exactly where there is a segment before

  -- whether the segments below n send anything to number d
  pub enter : (n d : ℕ) → some_below (λ i. eqb (first i) d || eqb (second i) d) n ≡ not (eqb (reaching first second (λ _. 1) (λ _. 1) n d) 0)
  unfolding some_below reaching sum_of
  enter zero d = refl
  enter (suc n) d = ap (λ (t : Bool). t || (eqb (first n) d || eqb (second n) d)) (enter n d) ∙ go (reaching first second (λ _. 1) (λ _. 1) n d) (eqb (first n) d) (eqb (second n) d)
    where
      go : (x : ℕ) (s t : Bool) → (not (eqb x 0) || (s || t)) ≡ not (eqb (x + (cond s 1 0 + cond t 1 0)) 0)
      go zero true true = refl
      go zero true false = refl
      go zero false true = refl
      go zero false false = refl
      go (suc x) s t = simp (ne_eqb (suc x) 0 (λ e. omega (arith, e)), ne_eqb (suc x + (cond s 1 0 + cond t 1 0)) 0 (λ e. omega (arith, e)))

-- what enters goes by the segments that are there
pub gathered_ext : (first first' second second' a a' b b' out out' : ℕ → ℕ) (speed : ℕ → Float) (n : ℕ)
    → ((i : ℕ) → i < n → first i ≡ first' i) → ((i : ℕ) → i < n → second i ≡ second' i) → ((i : ℕ) → i < n → a i ≡ a' i)
    → ((i : ℕ) → i < n → b i ≡ b' i) → ((i : ℕ) → i < n → out i ≡ out' i)
    → (d : ℕ) → gathered first second a b out speed d n ≡ gathered first' second' a' b' out' speed d n
gathered_ext first first' second second' a a' b b' out out' speed zero f s p q o d = gathered_none first second a b out speed d ∙ sym (gathered_none first' second' a' b' out' speed d)
gathered_ext first first' second second' a a' b b' out out' speed (suc n) f s p q o d =
    gathered_more first second a b out speed n d
    ∙ (λ j. joined_if (eqb (s n (omega arith) j) d) (joined_if (eqb (f n (omega arith) j) d)
    (gathered_ext first first' second second' a a' b b' out out' speed n (λ i l. f i (omega arith)) (λ i l. s i (omega arith)) (λ i l. p i (omega arith)) (λ i l. q i (omega arith)) (λ i l. o i (omega arith)) d j)
    (p n (omega arith) j) (o n (omega arith) j) (speed n)) (q n (omega arith) j) (o n (omega arith) j) (speed n))
    ∙ sym (gathered_more first' second' a' b' out' speed n d)

-- ---- an array of entries

-- what stands at number d for the entry g that was gathered, after m ways: g itself; off the road, at number 0, only what was passed counts
pub record Stands (m d : ℕ) (e g : Entry) : Type 0 where
  pub same : 0 < d → e ≡ g
  pub passed : e.passed ≡ g.passed
  pub high : High e m

pub stands_none : (d : ℕ) {e g : Entry} → e ≡ no_entry → g ≡ no_entry → Stands 0 d e g
stands_none d p q =
    record {
      same = λ l. p ∙ sym q;
      passed = ap (λ (e : Entry). e.passed) (p ∙ sym q);
      high = rw p (record { passed_high = omega arith; outflows_high = omega arith; segments_high = omega arith });
    }

-- one segment more in both
stands_join : (t : Bool) {m d : ℕ} {e g : Entry} (x o : ℕ) (v : Float) → Stands m d e g → x ≤ 1000000000000 → o ≤ 1000000000000 → Stands (m + 1) d (joined_if t e x o v) (joined_if t g x o v)
stands_join t {m = m} {e = e} {g = g} x o v s p q =
    record { same = λ l. ap (λ (y : Entry). joined_if t y x o v) (s.same l); passed = pass t; high = high_more t e m x o v s.high p q }
  where
    pass : (t : Bool) → (joined_if t e x o v).passed ≡ (joined_if t g x o v).passed
    pass true = unfold joined_if in ap (λ (y : ℕ). y + x) s.passed
    pass false = unfold joined_if in s.passed

-- a segment that passes nothing on to number 0 need not be counted there
pub stands_gone : {m d : ℕ} {e g : Entry} (k x o : ℕ) (v : Float) → Stands m d e g → k ≡ 0 → x ≡ 0 → Stands (m + 1) d e (joined_if (eqb k d) g x o v)
unfolding joined_if
stands_gone {m = m} {d = d} {e = e} {g = g} k x o v s z n =
    record {
      same = λ l. s.same l ∙ sym (ap (λ (t : Bool). joined_if t g x o v) (ne_eqb k d (λ q. omega (arith, q, z, l))));
      passed = s.passed ∙ pass (eqb k d);
      high = high_more false e m 0 0 v s.high (omega arith) (omega arith);
    }
  where
    pass : (t : Bool) → g.passed ≡ (joined_if t g x o v).passed
    pass true = omega (arith, n)
    pass false = refl

abbrev pub Are : ℕ → List Entry → (ℕ → Entry) → Type 0
Are m acc f = (d : ℕ) → d < 41 → Stands m d (get_or acc d blank) (f d)

pushed_at : (acc : List Entry) (k d x o : ℕ) (v : Float) → length acc ≡ 41 → k < 41
    → get_or (set acc k (joined (get_or acc k blank) x o v)) d blank ≡ joined_if (eqb k d) (get_or acc d blank) x o v
unfolding joined_if
pushed_at acc k d x o v long l = go (eqb k d) refl
  where
    go : (t : Bool) → eqb k d ≡ t → get_or (set acc k (joined (get_or acc k blank) x o v)) d blank ≡ joined_if t (get_or acc d blank) x o v
    go true e =
        let is = eqb-true k d e in
        ap (λ (m : ℕ). get_or (set acc k (joined (get_or acc k blank) x o v)) m blank) (sym is)
        ∙ get_or-set_same acc k (joined (get_or acc k blank) x o v) blank (omega arith)
        ∙ ap (λ (m : ℕ). joined (get_or acc m blank) x o v) is
    go false e = get_or-set_other acc k d (joined (get_or acc k blank) x o v) blank (λ q. eqb-false k d e (sym q))

pub pushed : {m : ℕ} (acc : List Entry) (f : ℕ → Entry) (k x o : ℕ) (v : Float) → length acc ≡ 41 → k < 41 → x ≤ 1000000000000 → o ≤ 1000000000000 → Are m acc f
    → Are (m + 1) (set acc k (joined (get_or acc k blank) x o v)) (λ d. joined_if (eqb k d) (f d) x o v)
pushed acc f k x o v long l p q are d h = rw (pushed_at acc k d x o v long l) (stands_join (eqb k d) x o v (are d h) p q)

-- ---- ρ' goes by the followers' densities alone

pub ahead_ext : (f : Following) (end : Float) (x y : ℕ → Float) → (0 < f.first → x f.first ≡ y f.first) → (0 < f.second → x f.second ≡ y f.second) → density_ahead f end x ≡ density_ahead f end y
unfolding density_ahead
ahead_ext f end x y p q = go (eqb f.first 0) refl (eqb f.second 0) refl
  where
    go : (s : Bool) → eqb f.first 0 ≡ s → (t : Bool) → eqb f.second 0 ≡ t
        → cond s end (cond t (x f.first) (two_after (x f.first) (x f.second))) ≡ cond s end (cond t (y f.first) (two_after (y f.first) (y f.second)))
    go true d t e = refl
    go false d true e = p (pos_of_ne-zero (eqb-false _ _ d))
    go false d false e = λ j. two_after (p (pos_of_ne-zero (eqb-false _ _ d)) j) (q (pos_of_ne-zero (eqb-false _ _ e)) j)
