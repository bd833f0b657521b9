-- The two banks find the same rows of the filter table. Of the bursts a search asks only whether a row exceeds one: a table that passed the start of the first run has no such row, nor then for a larger burst.
use Rattle.std.specs.Prelude.{ℕ, ◌+◌, ◌≤◌, Bool, ◌&&◌, ◌||◌, List, ◌≡◌, eqb, length, None, Some}
use Rattle.std.proofs.Math.Bool.{true, false, not}
use Rattle.std.proofs.Common.{true≢false, sym, ap, ◌∙◌, arith, ltb-true, ltb-false, le-ltb}
use Rattle.std.proofs.Math.Path.{refl, subst}
use Rattle.std.proofs.Math.Decide.{ℕ_discrete}
use Rattle.std.proofs.Math.Dec.{ltb}
use Rattle.std.proofs.Math.ListN.{get_or-eq_default}
use Rattle.frame.specs.Meaning.{length_of}
use Rattle.sizes.specs.Meaning.{filter_count}
use Rattle.bank.specs.declared.Component.{Component}
use Rattle.bank.specs.Meaning.{Rows, word, is_set, component_row, scheduler_row, scheduler_in, gate_is_set, meter_is_set, scheduler_is_set, burst, component}
use Rattle.filter.specs.declared.Filter.{Filter}
use Rattle.filter.specs.Meaning.{Asks, no_key}
use Rattle.filter.specs.Meaning.{Fits, Missing, ExceedsBurst}
use Rattle.filter.specs.declared.Key.{Key}
use Rattle.filter.specs.Meaning.{Question}
use Rattle.filter.specs.Meaning.{Found}
use Rattle.filter.specs.Meaning.{no_row, is_filter_of, names_missing, exceeds_burst, counts_of, fits_of, row_of, search_of, is_found}
use Rattle.filter.proofs.Laws.{answers_asked}
use Rattle.filter.proofs.SearchLaws.{search_alike, search_nothing}
use Rattle.promises.proofs.Bursts.Pairs.{group_named, Constants, Fixed, Over, apart}
use Rattle.promises.proofs.Bursts.Frames.{gate_row_both, meter_row_both, component_both}

-- no filter of the table exceeds its scheduler's burst
abbrev pub Checked : List Filter → Rows → Type 0
Checked table s = (j : ℕ) → is_filter_of (row_of table j) ≡ true → exceeds_burst s (row_of table j) ≡ false

smaller : (b c : Bool) (n m m' : ℕ) → m ≤ m' → (not b && (c || ltb m n)) ≡ false → (not b && (c || ltb m' n)) ≡ false
smaller true c n m m' h e = refl
smaller false true n m m' h e = e
smaller false false n m m' h e = le-ltb m' n (omega (arith, ltb-false m n e))

module _ (z : Constants) (g : ℕ) (s s' : Rows) (o : Over apart z g s s') where
  gates_set : (i : ℕ) → gate_is_set s i ≡ gate_is_set s' i
  gates_set i = ap (λ (u : List ℕ). is_set (word u 0)) (gate_row_both apart z g s s' o i)

  meters_set : (i : ℕ) → meter_is_set s i ≡ meter_is_set s' i
  meters_set i = ap (λ (u : List ℕ). is_set (word u 0)) (meter_row_both apart z g s s' o i)

  schedulers_set : (i : ℕ) → scheduler_is_set s i ≡ scheduler_is_set s' i
  schedulers_set i = (o (scheduler_row i)).pair.set (omega arith)

  bursts_larger : (i : ℕ) → (burst s i).0 ≤ (burst s' i).0
  bursts_larger i = by_group (ℕ_discrete (group_named (s (scheduler_row i))) g)
    where
      by_group : Dec (group_named (s (scheduler_row i)) ≡ g) → (burst s i).0 ≤ (burst s' i).0
      by_group (yes e) = ((o (scheduler_row i)).pair.scheduler (omega arith) e).burst
      by_group (no n) = omega (arith, ap (λ (u : List ℕ). (scheduler_in u).burst.0) ((o (scheduler_row i)).pair.schedulers (omega arith) n))

  module _ (f : Filter) where
    missing_both : names_missing s f ≡ names_missing s' f
    unfolding names_missing
    missing_both = rw (gates_set f.gate, meters_set f.meter, schedulers_set f.scheduler) refl

    small_both : exceeds_burst s f ≡ false → exceeds_burst s' f ≡ false
    unfolding exceeds_burst
    small_both e =
        subst (λ (x : Component). (not (eqb f.scheduler 255) && (eqb f.max_sdu 0 || ltb (burst s' f.scheduler).0 (length_of f.max_sdu x.overhead))) ≡ false) (component_both apart z g s s' o)
        (smaller (eqb f.scheduler 255) (eqb f.max_sdu 0) (f.max_sdu + (component s).overhead) (burst s f.scheduler).0 (burst s' f.scheduler).0 (bursts_larger f.scheduler) e)

    pub counts_both : (is_filter_of f ≡ true → exceeds_burst s f ≡ false) → counts_of s f ≡ counts_of s' f
    unfolding counts_of
    counts_both h = by_filter (is_filter_of f) h
      where
        by_filter : (t : Bool) → (t ≡ true → exceeds_burst s f ≡ false) → (t && not (names_missing s f) && not (exceeds_burst s f)) ≡ (t && not (names_missing s' f) && not (exceeds_burst s' f))
        by_filter false k = refl
        by_filter true k = rw (missing_both, k refl, small_both (k refl)) refl

  module _ (table : List Filter) (key : Key) where
    abbrev asking : Asks → Question
    asking asks = record { from = 0; to = filter_count; asks = asks; key = key }

    pub fits_both : Checked table s → search_of s (asking Fits) table ≡ search_of s' (asking Fits) table
    fits_both checked =
        search_alike s s' (asking Fits) table
        (λ j. answers_asked s (row_of table j) (asking Fits) Fits refl ∙ ap (λ (t : Bool). fits_of key (row_of table j) && t) (counts_both (row_of table j) (checked j)) ∙ sym (answers_asked s' (row_of table j) (asking Fits) Fits refl))

    pub missing_found_both : search_of s (asking Missing) table ≡ search_of s' (asking Missing) table
    missing_found_both =
        search_alike s s' (asking Missing) table
        (λ j. answers_asked s (row_of table j) (asking Missing) Missing refl ∙ ap (λ (t : Bool). is_filter_of (row_of table j) && t) (missing_both (row_of table j)) ∙ sym (answers_asked s' (row_of table j) (asking Missing) Missing refl))

-- ---- what passes the start is checked, and stays so while the bursts and the largest overhead stay

no_filter : is_filter_of no_row ≡ false
unfolding is_filter_of
no_filter = refl

both_false : (t e : Bool) → (t && e) ≡ false → t ≡ true → e ≡ false
both_false true e h k = h
both_false false e h k = absurd (true≢false (sym k))

nothing_found : (f : Found) → is_found f ≡ false → f ≡ None
nothing_found None e = refl
nothing_found (Some (i, row)) e = absurd (true≢false e)

abbrev exceeding : Question
exceeding = record { from = 0; to = filter_count; asks = ExceedsBurst; key = no_key }

pub start_checks : (table : List Filter) (s : Rows) → length table ≡ filter_count → is_found (search_of s exceeding table) ≡ false → Checked table s
start_checks table s whole none j h = by_place (ltb j filter_count) refl
  where
    by_place : (t : Bool) → ltb j filter_count ≡ t → exceeds_burst s (row_of table j) ≡ false
    by_place true l =
        both_false (is_filter_of (row_of table j)) (exceeds_burst s (row_of table j))
        (sym (answers_asked s (row_of table j) exceeding ExceedsBurst refl) ∙ search_nothing s exceeding table (nothing_found _ none) j (omega arith) (ltb-true j filter_count l)) h
    by_place false l = absurd (true≢false (sym h ∙ ap is_filter_of (get_or-eq_default table no_row (omega (arith, ltb-false j filter_count l, whole))) ∙ no_filter))

pub checked_stays : (table : List Filter) (s t : Rows) → ((i : ℕ) → (burst t i).0 ≡ (burst s i).0) → (component t).overhead ≡ (component s).overhead → Checked table s → Checked table t
unfolding exceeds_burst
checked_stays table s t b v checked j h = rw (b (row_of table j).scheduler, v) (checked j h)

pub checked_fixed : (z : Constants) (table : List Filter) (s t : Rows) → ((q : ℕ) → Fixed z q (s q)) → ((q : ℕ) → Fixed z q (t q)) → Checked table s → Checked table t
checked_fixed z table s t f f' =
    checked_stays table s t (λ i. (f' (scheduler_row i)).bursts (omega arith) ∙ sym ((f (scheduler_row i)).bursts (omega arith))) ((f' component_row).overhead (omega arith) ∙ sym ((f component_row).overhead (omega arith)))
