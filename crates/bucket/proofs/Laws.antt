-- Laws of `grown`, `ceiling` and `wait_for`: what meters, schedulers and the promise on bursts rest on.
use Rattle.std.specs.Prelude.{◌≡◌, ℕ, ◌+◌, ◌-◌, ◌*◌, ◌/◌, ◌%◌, ◌≤◌, ◌<◌, min}
use Rattle.std.proofs.Common.{ap, subst, ◌∙◌, mul-add, mul_comm, add-mul, one-mul, mul-le-mul_left, mul-le-mul_right, mul-zero, mod-lt, div-add-mod', div-lt_iff_lt-mul, le-div_iff_mul-le, arith}
use Rattle.std.proofs.Math.Nat.{div-eq_of_lt-le, div-eq_of_lt, div-zero}
use Rattle.bucket.specs.Meaning.{grown, ceiling, wait_for}

pub grown_cap : (l r c d : ℕ) → grown l r c d ≤ c
grown_cap l r c d = omega arith

pub grown_zero : (l r c : ℕ) → l ≤ c → grown l r c 0 ≡ l
grown_zero l r c h = omega (arith, mul-zero r)

pub grown_mono_time : (l r c d d' : ℕ) → d ≤ d' → grown l r c d ≤ grown l r c d'
grown_mono_time l r c d d' h = omega (arith, mul-le-mul_left r h)

pub grown_mono_level : (l l' r c d : ℕ) → l ≤ l' → grown l r c d ≤ grown l' r c d
grown_mono_level l l' r c d h = omega arith

pub grown_mono_cap : (l r c c' d : ℕ) → c ≤ c' → grown l r c d ≤ grown l r c' d
grown_mono_cap l r c c' d h = omega arith

-- growing twice is growing once for both times
pub grown_add : (l r c d₁ d₂ : ℕ) → grown (grown l r c d₁) r c d₂ ≡ grown l r c (d₁ + d₂)
grown_add l r c d₁ d₂ = omega (arith, mul-add r d₁ d₂)

-- `w` is at least the quotient rounded up exactly where `r * w` is at least `n`
pub ceiling_enough : (n r w : ℕ) → 0 < r → ceiling n r ≤ w → n ≤ r * w
ceiling_enough n r w pos h = omega (arith, (div-lt_iff_lt-mul {x = n + (r - 1)} {y = w + 1} pos).0 (omega arith), add-mul w 1 r, one-mul r, mul_comm w r)

pub ceiling_least : (n r w : ℕ) → 0 < r → n ≤ r * w → ceiling n r ≤ w
ceiling_least n r w pos h = omega (arith, (div-lt_iff_lt-mul {x = n + (r - 1)} {y = w + 1} pos).1 (omega (arith, add-mul w 1 r, one-mul r, mul_comm w r)))

-- by 0, 0
pub ceiling_by_none : (n r : ℕ) → r ≡ 0 → ceiling n r ≡ 0
ceiling_by_none n r none = ap (λ (q : ℕ). (n + (q - 1)) / q) none ∙ div-zero _

-- the quotient itself where nothing remains, and one more where something does
pub ceiling_whole : (n r : ℕ) → 0 < r → n % r ≡ 0 → ceiling n r ≡ n / r
ceiling_whole n r pos none = div-eq_of_lt-le {k = n / r} r {m = n + (r - 1)} (omega (arith, div-add-mod' n r)) (omega (arith, div-add-mod' n r, add-mul (n / r) 1 r, one-mul r))

pub ceiling_part : (n r : ℕ) → 0 < r → 0 < n % r → ceiling n r ≡ n / r + 1
ceiling_part n r pos some =
    div-eq_of_lt-le {k = n / r + 1} r {m = n + (r - 1)} (omega (arith, div-add-mod' n r, add-mul (n / r) 1 r, one-mul r))
    (omega (arith, mod-lt n pos, div-add-mod' n r, add-mul (n / r) 1 r, add-mul (n / r + 1) 1 r, one-mul r))

-- `w` ns are enough exactly where `w` is at least `wait_for`
pub wait_enough : (l r n w : ℕ) → 0 < r → wait_for l r n ≤ w → n ≤ l + r * w
wait_enough l r n w pos h = omega (arith, ceiling_enough (n - l) r w pos h)

pub wait_least : (l r n w : ℕ) → 0 < r → n ≤ l + r * w → wait_for l r n ≤ w
wait_least l r n w pos h = ceiling_least (n - l) r w pos (omega arith)

-- it suffices; and anything smaller does not
pub wait_suffices : (l r n : ℕ) → 0 < r → n ≤ l + r * wait_for l r n
wait_suffices l r n pos = wait_enough l r n (wait_for l r n) pos (omega arith)

pub wait_smaller : (l r n w : ℕ) → 0 < r → w < wait_for l r n → l + r * w < n
wait_smaller l r n w pos h = omega (arith, (le-div_iff_mul-le {x = w + 1} {y = n - l + (r - 1)} pos).0 (omega arith), add-mul w 1 r, one-mul r, mul_comm w r)

-- no wait where the level is enough
pub wait_none : (l r n : ℕ) → 0 < r → n ≤ l → wait_for l r n ≡ 0
wait_none l r n pos h = div-eq_of_lt (omega arith)

-- no longer than one ns a grain
pub wait_bound : (l r n : ℕ) → 0 < r → wait_for l r n ≤ n
wait_bound l r n pos = wait_least l r n n pos (omega (arith, mul-le-mul_right n pos, one-mul n))

-- Two buckets at one rate, the second at least as deep. `Above` says that from `t₀` on the second never holds less
abbrev pub Above : ℕ → ℕ → ℕ → ℕ → ℕ → ℕ → ℕ → Type 0
Above r l c t₀ l' c' t₀' = (t : ℕ) → t₀ ≤ t → grown l r c (t - t₀) ≤ grown l' r c' (t - t₀')

-- the second need not wait longer
pub above_wait : (r l c t₀ l' c' t₀' n : ℕ) → 0 < r → n ≤ c → t₀' ≤ t₀ → Above r l c t₀ l' c' t₀' → t₀' + wait_for l' r n ≤ t₀ + wait_for l r n
above_wait r l c t₀ l' c' t₀' n pos small before above =
    let w : ℕ = wait_for l r n in
    let e : t₀ + w - t₀ ≡ w = omega arith in
    let h : grown l r c w ≤ grown l' r c' (t₀ + w - t₀') = subst (λ (d : ℕ). grown l r c d ≤ grown l' r c' (t₀ + w - t₀')) e (above (t₀ + w) (omega arith)) in
    omega (arith, wait_least l' r n (t₀ + w - t₀') pos (omega (arith, wait_suffices l r n pos)))

-- the arithmetic of `above_taken`, on numbers that stand for the products: x grains come between the two times, y after both
taken_core : (L D n c c' x y : ℕ) → c ≤ c' → n ≤ D → L ≤ min c' (D + x) → min c (L - n + y) ≤ min c' (D - n + (x + y))
taken_core L D n c c' x y deep there h = omega arith

-- what is taken out of both, of the second no later, leaves the second above
pub above_taken : (r l c t₀ l' c' t₀' n e e' : ℕ) → c ≤ c' → t₀ ≤ e → t₀' ≤ e' → e' ≤ e → n ≤ grown l' r c' (e' - t₀') → Above r l c t₀ l' c' t₀'
    → Above r (grown l r c (e - t₀) - n) c e (grown l' r c' (e' - t₀') - n) c' e'
above_taken r l c t₀ l' c' t₀' n e e' deep h₀ h₀' sooner there above t h =
    let D : ℕ = grown l' r c' (e' - t₀') in
    let p : e - t₀' ≡ (e' - t₀') + (e - e') = between t₀' e' e h₀' sooner in
    let q : t - e' ≡ (e - e') + (t - e) = between e' e t sooner h in
    let k : grown l r c (e - t₀) ≤ grown D r c' (e - e') = rw (grown_add l' r c' (e' - t₀') (e - e'), ← p) (above e h₀) in
    rw (q, mul-add r (e - e') (t - e)) (taken_core (grown l r c (e - t₀)) D n c c' (r * (e - e')) (r * (t - e)) deep there k)
  where
    between : (a b c : ℕ) → a ≤ b → b ≤ c → c - a ≡ (b - a) + (c - b)
    between a b c h k = omega arith
