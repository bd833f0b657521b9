-- What the tests of a row tell: of one that is a filter, of one that counts, and of what they look at in the bank.
use Rattle.std.specs.Prelude.{ℕ, ◌≤◌, Bool, true, false, ◌&&◌, ◌||◌, ◌≢◌, ◌≡◌, eqb, leb, ltb}
use Rattle.std.proofs.Math.Bool.{not}
use Rattle.std.proofs.Math.Path.{refl, ap}
use Rattle.std.proofs.Common.{◌∙◌}
use borrow.Author.Tests.{leb-true, ltb-false, eqb-true, eqb-false, ne_eqb, not-true, not-false}
use Rattle.sizes.specs.Meaning.{last_gate, last_meter, last_scheduler}
use Rattle.logic.specs.Laws.{and_left, and_right, and_false, neither_left, neither_right, conjuncts}
use Rattle.bucket.specs.declared.Octets.{Octets}
use Rattle.frame.specs.Meaning.{length_of}
use Rattle.bank.specs.Meaning.{Rows, gate_is_set, meter_is_set, scheduler_is_set, burst, component}
use Rattle.filter.specs.declared.Filter.{Filter}
use Rattle.filter.specs.Meaning.{no_row, row_in_range, is_filter_of, names_missing, exceeds_burst, counts_of, fits_of, Asks, Fits, Missing, ExceedsBurst, Any, Question, asked, row_answers}

-- a number that names something, and what is then tested of it
named : (n : ℕ) (t : Bool) → n ≢ 255 → (not (eqb n 255) && t) ≡ false → t ≡ false
named n t h = by_test (eqb n 255) (ne_eqb n 255 h)
  where
    by_test : (z : Bool) → z ≡ false → (not z && t) ≡ false → t ≡ false
    by_test true k e = cc
    by_test false k e = e

-- ---- a filter's fields are in range (01, kind 2)

pub record InRange (f : Filter) : Type 0 where
  pub any_handle_high : f.any_handle ≤ 1
  pub priority_high : f.priority ≤ 8
  pub gate_high : f.gate ≤ last_gate
  pub max_sdu_high : f.max_sdu ≤ 2000
  pub oversize_block_high : f.oversize_block ≤ 1
  pub meter_high : f.meter ≢ 255 → f.meter ≤ last_meter
  pub scheduler_high : f.scheduler ≢ 255 → f.scheduler ≤ last_scheduler

or_else : (n m : ℕ) → (leb n m || eqb n 255) ≡ true → n ≢ 255 → n ≤ m
or_else n m e h = by_test (leb n m) refl e
  where
    by_test : (t : Bool) → leb n m ≡ t → (t || eqb n 255) ≡ true → n ≤ m
    by_test true l k = leb-true n m l
    by_test false l k = absurd (h (eqb-true n 255 k))

pub filter_in_range : (f : Filter) → is_filter_of f ≡ true → InRange f
unfolding is_filter_of row_in_range
filter_in_range f e =
    record {
      any_handle_high = leb-true f.any_handle 1 (search conjuncts depth 10);
      priority_high = leb-true f.priority 8 (search conjuncts depth 10);
      gate_high = leb-true f.gate last_gate (search conjuncts depth 10);
      max_sdu_high = leb-true f.max_sdu 2000 (search conjuncts depth 10);
      oversize_block_high = leb-true f.oversize_block 1 (search conjuncts depth 10);
      meter_high = or_else f.meter last_meter (search conjuncts depth 10);
      scheduler_high = or_else f.scheduler last_scheduler (search conjuncts depth 10);
    }

-- ---- a row that counts is a filter, and all that it names is set up and large enough

module _ (s : Rows) (f : Filter) where
  pub counts_filter : counts_of s f ≡ true → is_filter_of f ≡ true
  unfolding counts_of
  counts_filter e = and_left (is_filter_of f) (not (names_missing s f)) (and_left (is_filter_of f && not (names_missing s f)) (not (exceeds_burst s f)) e)

  present : counts_of s f ≡ true → names_missing s f ≡ false
  unfolding counts_of
  present e = not-true (names_missing s f) (and_right (is_filter_of f) (not (names_missing s f)) (and_left (is_filter_of f && not (names_missing s f)) (not (exceeds_burst s f)) e))

  within_burst : counts_of s f ≡ true → exceeds_burst s f ≡ false
  unfolding counts_of
  within_burst e = not-true (exceeds_burst s f) (and_right (is_filter_of f && not (names_missing s f)) (not (exceeds_burst s f)) e)

  abbrev no_gate : Bool
  no_gate = not (gate_is_set s f.gate)

  abbrev no_meter : Bool
  no_meter = not (eqb f.meter 255) && not (meter_is_set s f.meter)

  abbrev no_scheduler : Bool
  no_scheduler = not (eqb f.scheduler 255) && not (scheduler_is_set s f.scheduler)

  pub counts_gate : counts_of s f ≡ true → gate_is_set s f.gate ≡ true
  unfolding names_missing
  counts_gate e = not-false (gate_is_set s f.gate) (neither_left no_gate no_meter (neither_left (no_gate || no_meter) no_scheduler (present e)))

  pub counts_meter : counts_of s f ≡ true → f.meter ≢ 255 → meter_is_set s f.meter ≡ true
  unfolding names_missing
  counts_meter e h = not-false (meter_is_set s f.meter) (named f.meter (not (meter_is_set s f.meter)) h (neither_right no_gate no_meter (neither_left (no_gate || no_meter) no_scheduler (present e))))

  pub counts_scheduler : counts_of s f ≡ true → f.scheduler ≢ 255 → scheduler_is_set s f.scheduler ≡ true
  unfolding names_missing
  counts_scheduler e h = not-false (scheduler_is_set s f.scheduler) (named f.scheduler (not (scheduler_is_set s f.scheduler)) h (neither_right (no_gate || no_meter) no_scheduler (present e)))

  abbrev none : Bool
  none = eqb f.max_sdu 0

  abbrev exceeding : Bool
  exceeding = ltb (burst s f.scheduler).0 (length_of f.max_sdu (component s).overhead)

  -- a row with a scheduler has a max SDU, and with the largest overhead the burst holds it
  pub counts_max_sdu : counts_of s f ≡ true → f.scheduler ≢ 255 → f.max_sdu ≢ 0
  unfolding exceeds_burst
  counts_max_sdu e h = eqb-false f.max_sdu 0 (neither_left none exceeding (named f.scheduler (none || exceeding) h (within_burst e)))

  pub counts_holds : counts_of s f ≡ true → f.scheduler ≢ 255 → length_of f.max_sdu (component s).overhead ≤ (burst s f.scheduler).0
  unfolding exceeds_burst
  counts_holds e h = ltb-false (burst s f.scheduler).0 (length_of f.max_sdu (component s).overhead) (neither_right none exceeding (named f.scheduler (none || exceeding) h (within_burst e)))

  -- what a question asks decides its answer
  pub answers_asked : (q : Question) (a : Asks) → q.asks ≡ a → row_answers s q f ≡ asked a s q.key f
  unfolding row_answers
  answers_asked q a e = ap (λ (k : Asks). asked k s q.key f) e

-- a question that asks something of a row
abbrev pub Asking : Asks → Type 0
Asking Fits = Unit {0}
Asking Missing = Unit {0}
Asking ExceedsBurst = Unit {0}
Asking Any = ⊥

-- a row that is no filter answers none, nor does the empty row
pub answers_no_filter : (s : Rows) (q : Question) (f : Filter) → Asking q.asks → is_filter_of f ≡ false → row_answers s q f ≡ false
unfolding row_answers counts_of
answers_no_filter s q f asks e = by_asks q.asks asks
  where
    by_asks : (a : Asks) → Asking a → asked a s q.key f ≡ false
    by_asks Fits h = ap (λ (t : Bool). fits_of q.key f && (t && not (names_missing s f) && not (exceeds_burst s f))) e ∙ and_false (fits_of q.key f)
    by_asks Missing h = ap (λ (t : Bool). t && names_missing s f) e
    by_asks ExceedsBurst h = ap (λ (t : Bool). t && exceeds_burst s f) e
    by_asks Any h = absurd h

pub answers_empty : (s : Rows) (q : Question) → Asking q.asks → row_answers s q no_row ≡ false
unfolding is_filter_of
answers_empty s q asks = answers_no_filter s q no_row asks refl

-- a row that doesn't count is used by no frame
pub answers_spoiled : (s : Rows) (q : Question) (f : Filter) → q.asks ≡ Fits → counts_of s f ≡ false → row_answers s q f ≡ false
answers_spoiled s q f a e = answers_asked s f q Fits a ∙ ap (λ (t : Bool). fits_of q.key f && t) e ∙ and_false (fits_of q.key f)

-- ---- what of the bank a row's tests look at

pub record SameParts (s s' : Rows) : Type 0 where
  pub gates : (i : ℕ) → gate_is_set s i ≡ gate_is_set s' i
  pub meters : (i : ℕ) → meter_is_set s i ≡ meter_is_set s' i
  pub schedulers : (i : ℕ) → scheduler_is_set s i ≡ scheduler_is_set s' i
  pub bursts : (i : ℕ) → burst s i ≡ burst s' i
  pub overhead : (component s).overhead ≡ (component s').overhead

module _ (s s' : Rows) (same : SameParts s s') (f : Filter) where
  missing_same : names_missing s f ≡ names_missing s' f
  unfolding names_missing
  missing_same = rw (same.gates f.gate, same.meters f.meter, same.schedulers f.scheduler) refl

  exceeds_burst_same : exceeds_burst s f ≡ exceeds_burst s' f
  unfolding exceeds_burst
  exceeds_burst_same = rw (ap (λ (b : Octets). b.0) (same.bursts f.scheduler), same.overhead) refl

  pub counts_same : counts_of s f ≡ counts_of s' f
  unfolding counts_of
  counts_same = rw (missing_same, exceeds_burst_same) refl

  pub answers_same : (q : Question) → row_answers s q f ≡ row_answers s' q f
  unfolding row_answers
  answers_same q = by_asks q.asks
    where
      by_asks : (a : Asks) → asked a s q.key f ≡ asked a s' q.key f
      by_asks Fits = ap (λ (t : Bool). fits_of q.key f && t) counts_same
      by_asks Missing = ap (λ (t : Bool). is_filter_of f && t) missing_same
      by_asks ExceedsBurst = ap (λ (t : Bool). is_filter_of f && t) exceeds_burst_same
      by_asks Any = refl
