-- Each test on the bridge, where the bridge agrees with what is known of a past, is the test on what is known.
use Rattle.std.specs.Prelude.{ℕ, zero, suc, ◌<◌, Bool, true, false, ◌&&◌, ◌||◌, List, ◌≢◌, ◌≡◌, refl, eqb, None, Some}
use Rattle.std.proofs.Math.Bool.{not}
use Rattle.std.proofs.Math.Option.{Option, none, some}
use Rattle.std.proofs.Common.{sym, ◌∙◌, arith}
use Rattle.std.proofs.Math.Path.{ap}
use Rattle.std.proofs.Math.Decide.{ℕ_discrete}
use Rattle.std.proofs.lemmas.Bool.{eqb-false}
use Rattle.sizes.specs.Meaning.{filter_count, gate_count, group_count, scheduler_count}
use Rattle.logic.specs.Laws.{by_test, contrary, or_left, neither_left}
use Rattle.record.specs.declared.FilterRecord.{FilterRecord}
use Rattle.record.specs.declared.SchedulerRecord.{SchedulerRecord}
use Rattle.bank.specs.Meaning.{Rows, component_row, meter_is_set, scheduler_is_set}
use Rattle.filter.specs.declared.Filter.{Filter}
use Rattle.filter.specs.Meaning.{Asks, no_key}
use Rattle.filter.specs.Meaning.{Missing, ExceedsBurst}
use Rattle.filter.specs.Meaning.{Question}
use Rattle.filter.specs.Meaning.{Found}
use Rattle.filter.specs.Meaning.{is_filter_of, names_missing, exceeds_burst, counts_of, row_of, row_answers, search_of, is_found}
use Rattle.filter.proofs.Laws.{filter_in_range, answers_asked}
use Rattle.filter.proofs.SearchLaws.{search_finds, search_nothing}
use Rattle.setup.specs.Meaning.{some_of, stray_of, groupless_of, incomplete_of}
use Rattle.stage.specs.Meaning.{Bridge, filter_of, first_row}
use Rattle.promises.specs.Past.Meaning.{of_it, is_there, Known, group_named, lacks_part, lacks_gate, lacks_group, lacks_any, over_burst}
use Rattle.promises.proofs.Past.Words.{gate_set, entry_count_lem, meter_set, group_set, scheduler_set, scheduler_group_lem, scheduler_burst}
use Rattle.promises.proofs.Past.Agrees.{Every, FilterSaid, Sound, BankSaid}

-- ---- some number below n passes a test

or_right : (a b : Bool) → b ≡ true → (a || b) ≡ true
or_right true b e = refl
or_right false b e = e

some_there : (test : ℕ → Bool) (n i : ℕ) → i < n → test i ≡ true → some_of test n ≡ true
unfolding some_of
some_there test zero i h e = absurd (omega arith)
some_there test (suc n) i h e = by_last (ℕ_discrete i n) (λ l. some_there test n i l e)
  where
    by_last : Dec (i ≡ n) → (i < n → some_of test n ≡ true) → (some_of test n || test n) ≡ true
    by_last (yes p) more = or_right (some_of test n) (test n) (ap test (sym p) ∙ e)
    by_last (no p) more = or_left (some_of test n) (test n) (more (omega (arith, h, p)))

pub some_none : (test : ℕ → Bool) (n : ℕ) → some_of test n ≡ false → (i : ℕ) → i < n → test i ≡ false
some_none test n e i h = by_test (test i) (λ t. contrary (some_of test n) (some_there test n i h t) e) (λ t. t)

none_some : (test : ℕ → Bool) (n : ℕ) → ((i : ℕ) → i < n → test i ≡ false) → some_of test n ≡ false
unfolding some_of
none_some test zero h = refl
none_some test (suc n) h = rw (none_some test n (λ i l. h i (omega (arith, l))), h n (omega arith))

some_alike : (test test' : ℕ → Bool) (n : ℕ) → ((i : ℕ) → i < n → test i ≡ test' i) → some_of test n ≡ some_of test' n
unfolding some_of
some_alike test test' zero h = refl
some_alike test test' (suc n) h = rw (some_alike test test' n (λ i l. h i (omega (arith, l))), h n (omega arith))

-- a search of the whole table finds a row exactly where some place below its end answers
found_some : (s : Rows) (q : Question) (rows : List Filter) → q.from ≡ 0 → is_found (search_of s q rows) ≡ some_of (λ i. row_answers s q (row_of rows i)) q.to
found_some s q rows z = by_found (search_of s q rows) refl
  where
    by_found : (f : Found) → search_of s q rows ≡ f → is_found f ≡ some_of (λ i. row_answers s q (row_of rows i)) q.to
    by_found None e = sym (none_some _ q.to (λ i h. search_nothing s q rows e i (omega (arith, z)) h))
    by_found (Some (i, row)) e =
        let f = search_finds s q rows i row e in
        sym (some_there _ q.to i f.high (ap (row_answers s q) (sym f.there) ∙ f.passes))

-- the question of a start: of every row, and of no frame
abbrev all_rows : Asks → Question
all_rows asks = record { from = 0; to = filter_count; asks = asks; key = no_key }

-- ---- refusals 7 and 8

module _ (k : Known) (s : Rows) (all : BankSaid k s) where
  named_alike : (n : ℕ) (t t' : Bool) → (n ≢ 255 → t ≡ t') → (not (eqb n 255) && t) ≡ (not (eqb n 255) && t')
  named_alike n t t' h = by_test (eqb n 255) (λ e. rw e) (λ e. ap (λ (u : Bool). not (eqb n 255) && u) (h (eqb-false n 255 e)))

  module _ (r : FilterRecord) (filters : is_filter_of (filter_of r) ≡ true) where
    missing_said : names_missing s (filter_of r) ≡ lacks_part k r
    unfolding names_missing
    missing_said =
        let in_range = filter_in_range (filter_of r) filters in
        rw (
          gate_set k s all r.gate (omega (arith, in_range.gate_high)),
          named_alike r.meter (not (meter_is_set s r.meter)) (not (is_there (k.meter r.meter))) (λ n. ap not (meter_set k s all r.meter (omega (arith, in_range.meter_high n)))),
          named_alike r.scheduler (not (scheduler_is_set s r.scheduler)) (not (is_there (k.scheduler r.scheduler))) (λ n. ap not (scheduler_set k s all r.scheduler (omega (arith, in_range.scheduler_high n)))),
        )

    exceeds_said : exceeds_burst s (filter_of r) ≡ over_burst k r
    unfolding exceeds_burst
    exceeds_said =
        let in_range = filter_in_range (filter_of r) filters in
        named_alike r.scheduler _ _ (λ n. rw (scheduler_burst k s all r.scheduler (omega (arith, in_range.scheduler_high n)), ((all component_row).stage refl).overheads))

  missing_row : (o : Option FilterRecord) (row : Filter) → FilterSaid o row → (is_filter_of row && names_missing s row) ≡ of_it (lacks_part k) false o
  unfolding is_filter_of
  missing_row none row a = ap (λ (f : Filter). is_filter_of f && names_missing s f) a.is
  missing_row (some r) row a = ap (λ (f : Filter). is_filter_of f && names_missing s f) a.is ∙ ap (λ (t : Bool). t && names_missing s (filter_of r)) a.filters ∙ missing_said r a.filters

  exceeds_row : (o : Option FilterRecord) (row : Filter) → FilterSaid o row → (is_filter_of row && exceeds_burst s row) ≡ of_it (over_burst k) false o
  unfolding is_filter_of
  exceeds_row none row a = ap (λ (f : Filter). is_filter_of f && exceeds_burst s f) a.is
  exceeds_row (some r) row a = ap (λ (f : Filter). is_filter_of f && exceeds_burst s f) a.is ∙ ap (λ (t : Bool). t && exceeds_burst s (filter_of r)) a.filters ∙ exceeds_said r a.filters

  stray_said : (i : ℕ) → i < gate_count → stray_of s i ≡ lacks_gate k i
  stray_said i h = rw (gate_set k s all i h, entry_count_lem k s all i h)

  group_said : (o : Option SchedulerRecord) → (is_there o && not (is_there (k.group (of_it (λ r. r.group) 0 o)))) ≡ of_it (lacks_group k) false o
  group_said none = refl
  group_said (some r) = refl

  groupless_said : (i : ℕ) → i < scheduler_count → groupless_of s i ≡ of_it (lacks_group k) false (k.scheduler i)
  groupless_said i h =
      let named = scheduler_group_lem k s all i h in
      let low : group_named k i < group_count = omega (arith, named) in
      rw (scheduler_set k s all i h, named, group_set k s all (group_named k i) low) (group_said (k.scheduler i))

  -- a filter that start does not refuse counts, and nothing else does
  pub counts_said : (o : Option FilterRecord) (row : Filter) → FilterSaid o row → Every (Sound k) o → counts_of s row ≡ is_there o
  unfolding counts_of is_filter_of
  counts_said none row a sound = ap (counts_of s) a.is
  counts_said (some r) row a sound =
      ap (counts_of s) a.is ∙ ap (λ (t : Bool). t && not (names_missing s (filter_of r)) && not (exceeds_burst s (filter_of r))) a.filters
      ∙ ap (λ (t : Bool). not t && not (exceeds_burst s (filter_of r))) (missing_said r a.filters ∙ sound.0)
      ∙ ap not (exceeds_said r a.filters ∙ sound.1)

module _ (k : Known) (b : Bridge) (all : BankSaid k b.bank) (filters : (i : ℕ) → FilterSaid (k.filter i) (row_of b.table i)) where
  abbrev s : Rows
  s = b.bank

  missing_found : is_found (first_row b Missing no_key) ≡ some_of (λ i. of_it (lacks_part k) false (k.filter i)) filter_count
  missing_found =
      found_some s (all_rows Missing) b.table refl
      ∙ some_alike _ _ filter_count (λ i h. answers_asked s (row_of b.table i) (all_rows Missing) Missing refl ∙ missing_row k s all (k.filter i) (row_of b.table i) (filters i))

  pub exceeds_found : is_found (first_row b ExceedsBurst no_key) ≡ some_of (λ i. of_it (over_burst k) false (k.filter i)) filter_count
  exceeds_found =
      found_some s (all_rows ExceedsBurst) b.table refl
      ∙ some_alike _ _ filter_count (λ i h. answers_asked s (row_of b.table i) (all_rows ExceedsBurst) ExceedsBurst refl ∙ exceeds_row k s all (k.filter i) (row_of b.table i) (filters i))

  pub incomplete_said : incomplete_of s (first_row b Missing no_key) ≡ lacks_any k
  incomplete_said = rw (missing_found, some_alike (stray_of s) (lacks_gate k) gate_count (stray_said k s all), some_alike (groupless_of s) (λ i. of_it (lacks_group k) false (k.scheduler i)) scheduler_count (groupless_said k s all))

  -- a start that is not refused finds every filter sound
  pub start_sound : incomplete_of s (first_row b Missing no_key) ≡ false → is_found (first_row b ExceedsBurst no_key) ≡ false → (i : ℕ) → i < filter_count → Every (Sound k) (k.filter i)
  start_sound e e' i h =
      let lacks = neither_left _ _ (neither_left _ _ (sym incomplete_said ∙ e)) in
      sound (k.filter i) (some_none _ filter_count lacks i h) (some_none _ filter_count (sym exceeds_found ∙ e') i h)
    where
      sound : (o : Option FilterRecord) → of_it (lacks_part k) false o ≡ false → of_it (over_burst k) false o ≡ false → Every (Sound k) o
      sound none p q = tt
      sound (some r) p q = (p, q)
