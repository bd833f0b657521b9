-- What `in_force_of` means: from the base time on exactly one entry is in force, the one in whose interval the time falls.
use Rattle.std.specs.Prelude.{ℕ, zero, suc, ◌+◌, ◌-◌, ◌*◌, ◌/◌, ◌%◌, ◌≤◌, ◌<◌, Bool, true, false, Some, None, List, [], ◌∷◌, ◌≡◌, refl, ltb, length, get_or}
use Rattle.std.proofs.Common.{inl, inr, sym, ap, ◌∙◌, arith, zero-add, add-zero, mod-lt, mod-eq_of_lt, div-add-mod', lt-ltb, le-ltb, ltb-true, ltb-false}
use Rattle.std.proofs.Math.Nat.{mul-add-mod_self_right}
use Rattle.std.proofs.lemmas.Bool.{cases_lt}
use Rattle.std.proofs.lemmas.Option.{same_Some, none-some}
use Rattle.gate.specs.declared.Entry.{Entry}
use Rattle.gate.specs.declared.Found.{Found}
use Rattle.gate.specs.Meaning.{entry_at, entries_from, entries_in, entries_of, cycle_of, found_of, in_force_of}
use Rattle.gate.proofs.Walk.{in_force_early, in_force_later}
use Rattle.sizes.specs.Meaning.{entry_octets}

abbrev pub no_entry : Entry
no_entry = record { opened = false; ipv = 0; interval = 0; maximum = 0 }

-- the k-th entry, and the sum of the intervals before it
abbrev pub entry_no : List Entry → ℕ → Entry
entry_no es k = get_or es k no_entry

unfoldable pub before_of : List Entry → ℕ → ℕ
before_of [] k = 0
before_of (e ∷ es) zero = 0
before_of (e ∷ es) (suc k) = e.interval + before_of es k

-- x, counted from the start of a cycle, falls in the k-th interval: it owns its first nanosecond, and not the one that follows its last
pub record Within (es : List Entry) (x k : ℕ) : Type 0 where
  pub there : k < length es
  pub begun : before_of es k ≤ x
  pub lasts : x < before_of es k + (entry_no es k).interval

-- when the k-th interval begins in the q-th cycle
abbrev pub begins_of : List Entry → ℕ → ℕ → ℕ → ℕ
begins_of es base q k = base + q * cycle_of es + before_of es k

-- t falls in the k-th interval of the q-th cycle
pub record Holds (es : List Entry) (base t q k : ℕ) : Type 0 where
  pub there : k < length es
  pub begun : begins_of es base q k ≤ t
  pub lasts : t < begins_of es base q k + (entry_no es k).interval

-- ---- within one cycle

-- an interval ends within the cycle
inside : (es : List Entry) (k : ℕ) → k < length es → before_of es k + (entry_no es k).interval ≤ cycle_of es
unfolding before_of cycle_of
inside [] k h = omega arith
inside (e ∷ es) zero h = omega arith
inside (e ∷ es) (suc k) h = omega (arith, inside es k (omega arith))

-- some interval has every x below the cycle
abbrev Somewhere : List Entry → ℕ → Type 0
Somewhere es x = (k : ℕ) × Within es x k

some_by : (e : Entry) (es : List Entry) (x : ℕ) → x < cycle_of (e ∷ es) → ((x' : ℕ) → x' < cycle_of es → Somewhere es x') → (b : Bool) → ltb x e.interval ≡ b → Somewhere (e ∷ es) x
unfolding cycle_of before_of
some_by e es x h more true q = (0, record { there = omega arith; begun = omega arith; lasts = omega (arith, ltb-true x e.interval q) })
some_by e es x h more false q =
    let l = ltb-false x e.interval q in
    let w = more (x - e.interval) (omega arith) in
    (suc w.0, record { there = omega (arith, w.1.there); begun = omega (arith, w.1.begun); lasts = omega (arith, w.1.begun, w.1.lasts) })

some_within : (es : List Entry) (x : ℕ) → x < cycle_of es → Somewhere es x
unfolding cycle_of
some_within [] x h = absurd (omega arith)
some_within (e ∷ es) x h = some_by e es x h (λ x' h'. some_within es x' h') (ltb x e.interval) refl

-- and the search finds it
found_at : (t : ℕ) (es : List Entry) (i k y : ℕ) → k < length es → y < (entry_no es k).interval
    → found_of t es i (before_of es k + y) ≡ Some (record { index = i + k; start = t - y; entry = entry_no es k })
unfolding found_of before_of
found_at t [] i k y h l = absurd (omega arith)
found_at t (e ∷ es) i zero y h l = rw (zero-add, add-zero, lt-ltb y e.interval l)
found_at t (e ∷ es) i (suc k) y h l =
    let far : ltb (e.interval + before_of es k + y) e.interval ≡ false = le-ltb (e.interval + before_of es k + y) e.interval (omega arith) in
    let left : e.interval + before_of es k + y - e.interval ≡ before_of es k + y = omega arith in
    rw (far, left, found_at t es (suc i) k y (omega arith) l)
    (ap (λ (n : ℕ). Some (record { index = n; start = t - y; entry = entry_no es k })) (omega arith))

-- where no interval has a length, nothing is found
found_zero : (t : ℕ) (es : List Entry) (i x : ℕ) → cycle_of es ≡ 0 → found_of t es i x ≡ None
unfolding found_of cycle_of
found_zero t [] i x h = refl
found_zero t (e ∷ es) i x h = rw (le-ltb x e.interval (omega arith)) (found_zero t es (suc i) (x - e.interval) (omega arith))

-- ---- over all cycles
module _ (es : List Entry) (base t : ℕ) where
  -- from the base time on, some entry is in force
  pub holds_some : base ≤ t → 0 < cycle_of es → (q : ℕ) × (k : ℕ) × Holds es base t q k
  holds_some b p =
      let c = cycle_of es in
      let w = some_within es ((t - base) % c) (mod-lt (t - base) p) in
      let d = div-add-mod' (t - base) c in
      ((t - base) / c, w.0, record { there = w.1.there; begun = omega (arith, d, w.1.begun); lasts = omega (arith, d, w.1.lasts) })

  -- and it is the one that is given, with the start of its interval
  pub holds_in_force : (q k : ℕ) → Holds es base t q k → in_force_of es base t ≡ Some (record { index = k; start = begins_of es base q k; entry = entry_no es k })
  holds_in_force q k h =
      let c = cycle_of es in
      let y = t - begins_of es base q k in
      let i = inside es k h.there in
      let split : t - base ≡ q * c + (before_of es k + y) = omega (arith, h.begun) in
      let small : before_of es k + y < c = omega (arith, i, h.begun, h.lasts) in
      let off : (t - base) % c ≡ before_of es k + y = rw split (mul-add-mod_self_right q c (before_of es k + y) ∙ mod-eq_of_lt small) in
      in_force_later es base t (omega (arith, h.begun)) ∙ rw (off, found_at t es 0 k y h.there (omega (arith, h.begun, h.lasts)), zero-add)
      (ap (λ (n : ℕ). Some (record { index = k; start = n; entry = entry_no es k })) (omega (arith, h.begun)))

  -- there is no other
  pub holds_once : (q k q' k' : ℕ) → Holds es base t q k → Holds es base t q' k' → (k ≡ k') × (begins_of es base q k ≡ begins_of es base q' k')
  holds_once q k q' k' h h' =
      let j = same_Some _ _ (sym (holds_in_force q k h) ∙ holds_in_force q' k' h') in
      (ap (λ (f : Found). f.index) j, ap (λ (f : Found). f.start) j)

  -- exactly one entry, in one interval of one cycle, is in force at each time from the base time on
  pub in_force_one : base ≤ t → 0 < cycle_of es
      → (f : Found) × (in_force_of es base t ≡ Some f) × ((q : ℕ) × Holds es base t q f.index) × ((q k : ℕ) → Holds es base t q k → (k ≡ f.index) × (begins_of es base q k ≡ f.start))
  in_force_one b p =
      let w = holds_some b p in
      (record { index = w.1; start = begins_of es base w.0 w.1; entry = entry_no es w.1 }, holds_in_force w.0 w.1 w.2, (w.0, w.2), λ q k h. holds_once q k w.0 w.1 h w.2)

  -- nothing is ever in force where no interval has a length
  pub in_force_empty : cycle_of es ≡ 0 → in_force_of es base t ≡ None
  in_force_empty h = elim (cases_lt t base) [ inl l ↦ in_force_early es base t l | inr l ↦ in_force_later es base t l ∙ found_zero t es 0 _ h ]

  -- what is given holds
  pub in_force_holds : (f : Found) → in_force_of es base t ≡ Some f → (q : ℕ) × (k : ℕ) × Holds es base t q k × (f ≡ record { index = k; start = begins_of es base q k; entry = entry_no es k })
  in_force_holds f e =
      let never : in_force_of es base t ≡ None → ⊥ = λ n. none-some f (sym n ∙ e) in
      let late : base ≤ t = elim (cases_lt t base) [ inl l ↦ absurd (never (in_force_early es base t l)) | inr l ↦ l ] in
      let long : 0 < cycle_of es = elim (cases_lt 0 (cycle_of es)) [ inl l ↦ l | inr l ↦ absurd (never (in_force_empty (omega arith))) ] in
      let w = holds_some late long in
      (w.0, w.1, w.2, same_Some _ _ (sym e ∙ holds_in_force w.0 w.1 w.2))

-- the interval has the time, and the answer is the same from its first nanosecond to its last
module _ (es : List Entry) (base t : ℕ) (f : Found) (e : in_force_of es base t ≡ Some f) where
  pub in_force_begun : f.start ≤ t
  in_force_begun = let w = in_force_holds es base t f e in rw w.3 w.2.begun

  pub in_force_lasts : t < f.start + f.entry.interval
  in_force_lasts = let w = in_force_holds es base t f e in rw w.3 w.2.lasts

  pub in_force_based : base ≤ f.start
  in_force_based = let w = in_force_holds es base t f e in rw w.3 (omega arith)

  pub in_force_constant : (u : ℕ) → f.start ≤ u → u < f.start + f.entry.interval → in_force_of es base u ≡ Some f
  in_force_constant u b l =
      let w = in_force_holds es base t f e in
      holds_in_force es base u w.0 w.1 (record { there = w.2.there; begun = rw w.3 at b; lasts = rw w.3 at l }) ∙ ap Some (sym w.3)

-- two intervals that share a nanosecond are the same
intervals_meet : (es : List Entry) (base t t' : ℕ) (f f' : Found) → in_force_of es base t ≡ Some f → in_force_of es base t' ≡ Some f'
    → (u : ℕ) → f.start ≤ u → u < f.start + f.entry.interval → f'.start ≤ u → u < f'.start + f'.entry.interval → f ≡ f'
intervals_meet es base t t' f f' e e' u b l b' l' = same_Some f f' (sym (in_force_constant es base t f e u b l) ∙ in_force_constant es base t' f' e' u b' l')

-- at an interval's last boundary the next one begins: what is in force changes there and, being constant within, only there
pub in_force_next : (es : List Entry) (base t : ℕ) (f : Found) → in_force_of es base t ≡ Some f
    → (f' : Found) × (in_force_of es base (f.start + f.entry.interval) ≡ Some f') × (f'.start ≡ f.start + f.entry.interval)
in_force_next es base t f e =
    let end = f.start + f.entry.interval in
    let w = in_force_holds es base t f e in
    let long : 0 < cycle_of es = omega (arith, inside es w.1 w.2.there, w.2.begun, w.2.lasts) in
    let begun = in_force_begun es base t f e in
    let lasts = in_force_lasts es base t f e in
    let n = in_force_one es base end (omega (arith, in_force_based es base t f e)) long in
    let f' = n.0 in
    let begun' = in_force_begun es base end f' n.1 in
    let lasts' = in_force_lasts es base end f' n.1 in
    let apart : f ≡ f' → ⊥ = λ j. let s = ap (λ (x : Found). x.start) j in let d = ap (λ (x : Found). x.entry.interval) j in omega arith in
    let at-end : end ≤ f'.start =
    elim (cases_lt f'.start end) [
      | inl h ↦ absurd (elim (cases_lt f'.start f.start) [
        | inl before ↦ apart (intervals_meet es base t end f f' e n.1 f.start (omega arith) (omega arith) (omega arith) (omega arith))
        | inr after ↦ apart (intervals_meet es base t end f f' e n.1 f'.start (omega arith) (omega arith) (omega arith) (omega arith))
      ])
      | inr h ↦ h
    ] in
    (f', n.1, omega arith)

-- ---- in the octets
entries_length : (s : List ℕ) (i n : ℕ) → length (entries_from s i n) ≡ n
unfolding entries_from
entries_length s i zero = refl
entries_length s i (suc n) = ap suc (entries_length s (suc i) n)

entries_no : (s : List ℕ) (i n k : ℕ) → k < n → entry_no (entries_from s i n) k ≡ entry_at s (i + k)
unfolding entries_from
entries_no s i zero k h = absurd (omega arith)
entries_no s i (suc n) zero h = ap (entry_at s) (sym (add-zero i))
entries_no s i (suc n) (suc k) h = entries_no s (suc i) n k (omega arith) ∙ ap (entry_at s) (omega arith)

-- the entry in force is a whole one of the list, and what its octets say
module _ (s : List ℕ) (base t : ℕ) (f : Found) (e : in_force_of (entries_of s) base t ≡ Some f) where
  pub in_force_whole : f.index * entry_octets + entry_octets ≤ length s
  in_force_whole =
      let w = in_force_holds (entries_of s) base t f e in
      let k = ap (λ (x : Found). x.index) w.3 in
      let h = w.2.there in
      let n = entries_length s 0 (entries_in s) in
      omega arith

  pub in_force_entry : f.entry ≡ entry_at s f.index
  in_force_entry =
      let w = in_force_holds (entries_of s) base t f e in
      let k = ap (λ (x : Found). x.index) w.3 in
      let h = w.2.there in
      let n = entries_length s 0 (entries_in s) in
      ap (λ (x : Found). x.entry) w.3 ∙ entries_no s 0 (entries_in s) w.1 (omega arith) ∙ ap (entry_at s) (zero-add w.1 ∙ sym k)
