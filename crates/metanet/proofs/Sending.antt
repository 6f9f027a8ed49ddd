-- Laws of what is sent: summed over all numbers with any weights, what arrives is what was sent.
use Prim.Native.Nat.{ℕ, zero, suc, ◌+◌, ◌-◌, ◌*◌, ◌/◌, ◌≤◌, ◌<◌}
use mathlib.Core.Path.{◌≡◌, refl, sym, ap, ◌∙◌}
use mathlib.Core.Logic.{⊎_elim}
use native.Mathlib.Nat.{eq-or-lt_of_le, le_of_suc-le-suc, add-mul, mul-one, zero-mul, mul_comm, mul-le-mul_left, le_trans, le_of_eq, div-le_of_le-mul}
use native.Mathlib.Omega.{arith}
use borrow.Author.Tests.{eq-eqb, ne_eqb}
use Rattle.laws.specs.Sums.{sum_of}
use Rattle.laws.proofs.Sums.{sum_ext, sum-add}
use Rattle.metanet.specs.Junction.{sent, reaching}

-- ---- sums

pub sum-zero : (f : ℕ → ℕ) (n : ℕ) → ((i : ℕ) → i < n → f i ≡ 0) → sum_of f n ≡ 0
unfolding sum_of
sum-zero f zero h = refl
sum-zero f (suc n) h = omega (arith, sum-zero f n (λ i k. h i (omega arith)), h n (omega arith))

pub sum-le : (f g : ℕ → ℕ) (n : ℕ) → ((i : ℕ) → i < n → f i ≤ g i) → sum_of f n ≤ sum_of g n
unfolding sum_of
sum-le f g zero h = omega arith
sum-le f g (suc n) h = omega (arith, sum-le f g n (λ i k. h i (omega arith)), h n (omega arith))

-- the first term apart
pub sum_front : (f : ℕ → ℕ) (n : ℕ) → sum_of f (suc n) ≡ f 0 + sum_of (λ i. f (suc i)) n
unfolding sum_of
sum_front f zero = omega arith
sum_front f (suc n) = omega (arith, sum_front f n)

-- a share in thousandths is at most the whole
pub thousandths : (x s : ℕ) → s ≤ 1000 → x * s / 1000 ≤ x
thousandths x s h = div-le_of_le-mul 1000 (le_trans (mul-le-mul_left x h) (le_of_eq (mul_comm x 1000)))

-- one step: of out i, which is at most count i, exit i leaves, a i goes to the first and b i to the second; came i comes from outside
pub record Moves (first second : ℕ → ℕ) (n : ℕ) (count came out exit a b after : ℕ → ℕ) : Type 0 where
  pub enough : (i : ℕ) → i < n → out i ≤ count i
  pub splits : (i : ℕ) → i < n → exit i + (a i + b i) ≡ out i
  pub becomes : (i : ℕ) → i < n → after i ≡ count i + came i + reaching first second a b n (suc i) - out i

-- ---- one amount

sent_here : (name d x : ℕ) → name ≡ d → sent name d x ≡ x
sent_here name d x e = simp (eq-eqb name d e)

sent_elsewhere : (name d x : ℕ) → (name ≡ d → ⊥) → sent name d x ≡ 0
sent_elsewhere name d x e = simp (ne_eqb name d e)

module _ (w : ℕ → ℕ) (name x : ℕ) where
  none_sent : (m : ℕ) → m ≤ name → sum_of (λ d. sent name d x * w d) m ≡ 0
  none_sent m l = sum-zero (λ d. sent name d x * w d) m (λ d h. ap (λ (y : ℕ). y * w d) (sent_elsewhere name d x (λ e. omega (arith, e, h, l))) ∙ zero-mul (w d))

  pub one_sent : (m : ℕ) → name < m → sum_of (λ d. sent name d x * w d) m ≡ x * w name
  unfolding sum_of
  one_sent zero l = absurd (omega arith)
  one_sent (suc m) l =
      ⊎_elim
      (λ e. let z = none_sent m (omega (arith, e)) in
      let t : sent name m x * w m ≡ x * w name = ap (λ (y : ℕ). y * w m) (sent_here name m x e) ∙ ap (λ (k : ℕ). x * w k) (sym e) in
      omega (arith, z, t))
      (λ lt. let z = one_sent m lt in
      let t : sent name m x * w m ≡ 0 = ap (λ (y : ℕ). y * w m) (sent_elsewhere name m x (λ e. omega (arith, e, lt))) ∙ zero-mul (w m) in
      omega (arith, z, t))
      (eq-or-lt_of_le (le_of_suc-le-suc l))

-- ---- all segments

module _ (first second : ℕ → ℕ) (a b : ℕ → ℕ) where
  -- the sum over all numbers of what each gets, by any weights of numbers, is the sum over all segments of what each sends
  pub arrives : (w : ℕ → ℕ) (m n : ℕ) → ((i : ℕ) → i < n → first i < m) → ((i : ℕ) → i < n → second i < m)
      → sum_of (λ d. reaching first second a b n d * w d) m ≡ sum_of (λ i. a i * w (first i) + b i * w (second i)) n
  unfolding sum_of reaching
  arrives w m zero f s = sum-zero (λ d. 0 * w d) m (λ d h. zero-mul (w d))
  arrives w m (suc n) f s =
      let before = arrives w m n (λ i h. f i (omega arith)) (λ i h. s i (omega arith)) in
      let one : (d : ℕ) → reaching first second a b (suc n) d * w d ≡ reaching first second a b n d * w d + (sent (first n) d (a n) * w d + sent (second n) d (b n) * w d) =
      λ d. add-mul (reaching first second a b n d) (sent (first n) d (a n) + sent (second n) d (b n)) (w d) ∙ ap (λ (y : ℕ). reaching first second a b n d * w d + y) (add-mul (sent (first n) d (a n)) (sent (second n) d (b n)) (w d)) in
      sum_ext _ (λ d. reaching first second a b n d * w d + (sent (first n) d (a n) * w d + sent (second n) d (b n) * w d)) m (λ d h. one d)
      ∙ sum-add (λ d. reaching first second a b n d * w d) (λ d. sent (first n) d (a n) * w d + sent (second n) d (b n) * w d) m
      ∙ (λ j. before j + (sum-add (λ d. sent (first n) d (a n) * w d) (λ d. sent (second n) d (b n) * w d) m
      ∙ (λ k. one_sent w (first n) (a n) m (f n (omega arith)) k + one_sent w (second n) (b n) m (s n (omega arith)) k)) j)

  -- off the road and into the segments
  pub arrives_all : (n : ℕ) → ((i : ℕ) → i < n → first i ≤ n) → ((i : ℕ) → i < n → second i ≤ n)
      → reaching first second a b n 0 + sum_of (λ k. reaching first second a b n (suc k)) n ≡ sum_of (λ i. a i + b i) n
  arrives_all n f s =
      sym (sum_front (λ d. reaching first second a b n d) n)
      ∙ sum_ext _ (λ d. reaching first second a b n d * 1) (suc n) (λ d h. sym (mul-one _))
      ∙ arrives (λ d. 1) (suc n) n (λ i h. omega (arith, f i h)) (λ i h. omega (arith, s i h))
      ∙ sum_ext _ (λ i. a i + b i) n (λ i h. omega arith)

-- ---- balance

module _ {first second : ℕ → ℕ} {n : ℕ} {count came out exit a b after : ℕ → ℕ} (m : Moves first second n count came out exit a b after) where
  one_balance : (i : ℕ) → i < n → after i + (exit i + (a i + b i)) ≡ count i + (came i + reaching first second a b n (suc i))
  one_balance i l = omega (arith, m.enough i l, m.splits i l, m.becomes i l)

  -- what is there afterwards and what left is what was there and came
  pub moves-balance : ((i : ℕ) → i < n → first i ≤ n) → ((i : ℕ) → i < n → second i ≤ n)
      → sum_of after n + (sum_of exit n + reaching first second a b n 0) ≡ sum_of count n + sum_of came n
  moves-balance f s =
      let each = sum_ext (λ i. after i + (exit i + (a i + b i))) (λ i. count i + (came i + reaching first second a b n (suc i))) n one_balance in
      omega (
        arith,
        each,
        arrives_all first second a b n f s,
        sum-add after (λ i. exit i + (a i + b i)) n,
        sum-add exit (λ i. a i + b i) n,
        sum-add count (λ i. came i + reaching first second a b n (suc i)) n,
        sum-add came (λ i. reaching first second a b n (suc i)) n,
      )

  -- with queues: what was handed in waits or came
  pub queues-balance : (queue given waiting : ℕ → ℕ) → ((i : ℕ) → i < n → first i ≤ n) → ((i : ℕ) → i < n → second i ≤ n)
      → ((i : ℕ) → i < n → waiting i + came i ≡ queue i + given i)
      → sum_of (λ i. after i + waiting i) n + (sum_of exit n + reaching first second a b n 0) ≡ sum_of (λ i. count i + queue i) n + sum_of given n
  queues-balance queue given waiting f s q =
      let each = sum_ext (λ i. waiting i + came i) (λ i. queue i + given i) n q in
      omega (arith, each, moves-balance f s, sum-add after waiting n, sum-add count queue n, sum-add waiting came n, sum-add queue given n)
