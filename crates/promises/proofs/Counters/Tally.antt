-- One call and the counters of one filter: each moves by its own predicate, and no other way.
use Rattle.std.specs.Prelude.{ℕ, ◌<◌, Bool, true, false, not, ◌||◌, List, ◌≢◌, ◌≡◌, eqb, None, Some}
use Rattle.std.proofs.Math.Path.{refl, ap, subst}
use Rattle.std.proofs.Common.{sym, ◌∙◌, arith, eq-eqb, ne_eqb}
use Rattle.std.proofs.Math.Decide.{ℕ_discrete}
use Rattle.sizes.specs.Meaning.{filter_count}
use Rattle.bank.specs.declared.Counter.TheVariants.{Matching, PassingSdu, NotPassingSdu, Passing, NotPassing, Red as RedFrames}
use Rattle.bank.specs.declared.Counter.{Counter}
use Rattle.bank.proofs.Laws.{bump_same, is_set_back}
use Rattle.record.specs.declared.Record.{Record}
use Rattle.record.specs.declared.ArrivalRecord.{ArrivalRecord}
use Rattle.record.specs.declared.ClearRecord.{ClearRecord}
use Rattle.record.specs.declared.Refusal.{Refusal}
use Rattle.record.specs.declared.Refusal.TheVariants.{NotSetUp}
use Rattle.record.proofs.Sorts.{Sort, setup, arrival, clear, sort_of, setup_arrival}
use Rattle.bank.specs.Meaning.{Rows, with_row, word, counters_row, gate_state_row, meter_state_row, counters_in, counters, gate_is_set, meter_is_set, row_with, counter_place, one_more, bump, with_oversize, component_row, scheduler_row, group_row, port_row}
use Rattle.bank.proofs.Rows.{row_other, row_kept, row_same}
use Rattle.bank.specs.declared.Counters.{Counters}
use Rattle.filter.specs.declared.Filter.{Filter}
use Rattle.filter.specs.Meaning.{Found}
use Rattle.filter.specs.Meaning.{Fits}
use Rattle.filter.specs.Meaning.{counts_of}
use Rattle.filter.proofs.SearchLaws.{search_finds}
use Rattle.verdict.specs.Meaning.{Verdict}
use Rattle.verdict.specs.Meaning.{Refused, Taken, Passed, Dropped}
use Rattle.verdict.specs.Meaning.{Told, told}
use Rattle.setup.specs.Meaning.{clear_oversize_of, clear_invalid_receive_of, clear_octets_of, clear_red_of, clear_of}
use Rattle.setup.proofs.Cases.{refused_by, clear_by_lem}
use Rattle.setup.proofs.Laws.{meter_other}
use Rattle.path.specs.Meaning.{sdu_passed, sdu_failed, gate_passed, gate_failed, red_counted, arrival_of, sdu_filtered_of, discard_counted}
use Rattle.stage.specs.Meaning.{Bridge, Took, key_of, first_row, taken_of, take_of}
use Rattle.promises.specs.Meaning.{Call, used_by, filter_in, reading_of, event_of}
use Rattle.promises.proofs.Refusals.Keeps.{answered_verdict}
use Rattle.promises.proofs.Untouched.{setup_row}
use Rattle.promises.proofs.Ways.{ticked, ByGate, blocked, closed, exceeded, ByMeter, yellow, red, frame_along, Kept, frame_keeps, arrived_along, Called, unread, read, called_way}
use Rattle.promises.specs.Counters.Meaning.{uses_of, matching_in, passing_sdu_in, not_passing_sdu_in, passing_in, not_passing_in, red_in}
use Rattle.verdict.specs.declared.Drop.{Drop}
use Rattle.verdict.specs.declared.Drop.TheVariants as drop

-- one more where it counts; after 2^64 - 1 comes 0
abbrev pub counted : Bool → ℕ → ℕ
counted true n = one_more n
counted false n = n

-- the counters c' are c, moved as the predicates say for this verdict
pub record Tallied (m : Bool) (v : Verdict) (c c' : Counters) : Type 0 where
  pub by_matching : c'.matching ≡ counted (matching_in m v) c.matching
  pub by_passing_sdu : c'.passing_sdu ≡ counted (passing_sdu_in m v) c.passing_sdu
  pub by_not_passing_sdu : c'.not_passing_sdu ≡ counted (not_passing_sdu_in m v) c.not_passing_sdu
  pub by_passing : c'.passing ≡ counted (passing_in m v) c.passing
  pub by_not_passing : c'.not_passing ≡ counted (not_passing_in m v) c.not_passing
  pub by_red : c'.red ≡ counted (red_in m v) c.red

-- ---- what each step writes

abbrev is_counter : Counter → Counter → Bool
is_counter j k = eqb (counter_place j) (counter_place k)

abbrev with_flag : Counters → Bool → Counters
with_flag c flag = record { matching = c.matching; passing_sdu = c.passing_sdu; not_passing_sdu = c.not_passing_sdu; passing = c.passing; not_passing = c.not_passing; red = c.red; oversize = flag }

-- one more of one counter
abbrev more : Counter → Counters → Counters
more k c = record {
  matching = counted (is_counter Matching k) c.matching;
  passing_sdu = counted (is_counter PassingSdu k) c.passing_sdu;
  not_passing_sdu = counted (is_counter NotPassingSdu k) c.not_passing_sdu;
  passing = counted (is_counter Passing k) c.passing;
  not_passing = counted (is_counter NotPassing k) c.not_passing;
  red = counted (is_counter RedFrames k) c.red;
  oversize = c.oversize;
}

bump_is : (s : Rows) (f : ℕ) (k : Counter) → counters (bump s f k) f ≡ more k (counters s f)
bump_is s f Matching = ap counters_in (bump_same s f Matching)
bump_is s f PassingSdu = ap counters_in (bump_same s f PassingSdu)
bump_is s f NotPassingSdu = ap counters_in (bump_same s f NotPassingSdu)
bump_is s f Passing = ap counters_in (bump_same s f Passing)
bump_is s f NotPassing = ap counters_in (bump_same s f NotPassing)
bump_is s f RedFrames = ap counters_in (bump_same s f RedFrames)

oversize_is : (s : Rows) (f : ℕ) (flag : Bool) → counters (with_oversize s f flag) f ≡ with_flag (counters s f) flag
oversize_is s f flag = ap counters_in (row_same s (counters_row f) _) ∙ ap (with_flag (counters s f)) (is_set_back flag)

abbrev sdu_passed_of : Counters → Counters
sdu_passed_of c = more PassingSdu (more Matching c)

abbrev sdu_failed_of : Counters → Bool → Counters
sdu_failed_of c flag = with_flag (more NotPassingSdu (more Matching c)) flag

abbrev gate_passed_of : Counters → Counters
gate_passed_of c = more Passing c

abbrev gate_failed_of : Counters → Counters
gate_failed_of c = more NotPassing c

abbrev red_of_counters : Counters → Counters
red_of_counters c = more RedFrames c

module _ (s : Rows) (f : ℕ) where
  sdu_passed_is : counters (sdu_passed s f) f ≡ sdu_passed_of (counters s f)
  unfolding sdu_passed
  sdu_passed_is = bump_is (bump s f Matching) f PassingSdu ∙ ap (more PassingSdu) (bump_is s f Matching)

  sdu_failed_is : (flag : Bool) → counters (sdu_failed s f flag) f ≡ sdu_failed_of (counters s f) flag
  unfolding sdu_failed
  sdu_failed_is flag = oversize_is (bump (bump s f Matching) f NotPassingSdu) f flag ∙ ap (λ (c : Counters). with_flag c flag) (bump_is (bump s f Matching) f NotPassingSdu ∙ ap (more NotPassingSdu) (bump_is s f Matching))

  gate_passed_is : counters (gate_passed s f) f ≡ gate_passed_of (counters s f)
  unfolding gate_passed
  gate_passed_is = bump_is s f Passing

  gate_failed_is : counters (gate_failed s f) f ≡ gate_failed_of (counters s f)
  unfolding gate_failed
  gate_failed_is = bump_is s f NotPassing

  red_counted_is : counters (red_counted s f) f ≡ red_of_counters (counters s f)
  unfolding red_counted
  red_counted_is = bump_is s f RedFrames

counters_kept : (s t : Rows) (f : ℕ) → t (counters_row f) ≡ s (counters_row f) → counters t f ≡ counters s f
counters_kept s t f e = ap counters_in e

-- ---- the filter that the frame matched. `c` are its counters before the frame

abbrev Moved : Counters → ℕ → Told → Type 0
Moved c f t = Tallied true t.verdict c (counters t.bank f)

tallied_by : (v : Verdict) (c x c' : Counters) → c' ≡ x → Tallied true v c x → Tallied true v c c'
tallied_by v c x c' e = subst (Tallied true v c) (sym e)

-- step 2 comes to the filter with its counters as they were, the gate with two of them moved, the meter with three
module _ (c : Counters) (lists : List ℕ) (a : ArrivalRecord) (f : ℕ) (row : Filter) where
  abbrev Counts : Counters → Rows → Type 0
  Counts x s = counters s f ≡ x

  beside : (x : Counters) (s : Rows) (r : ℕ) (vs : List ℕ) → counters_row f ≢ r → Counts x s → Counts x (with_row s r vs)
  beside x s r vs n h = ap counters_in (row_other s r vs (counters_row f) n) ∙ h

  shut_tally : (s : Rows) (d : Drop) → ByGate d → Counts (sdu_passed_of c) s → Moved c f (told (gate_failed s f) (Dropped d))
  shut_tally s d blocked h = tallied_by (Dropped d) c _ _ (gate_failed_is s f ∙ ap gate_failed_of h) (record { by_matching = refl; by_passing_sdu = refl; by_not_passing_sdu = refl; by_passing = refl; by_not_passing = refl; by_red = refl })
  shut_tally s d closed h = tallied_by (Dropped d) c _ _ (gate_failed_is s f ∙ ap gate_failed_of h) (record { by_matching = refl; by_passing_sdu = refl; by_not_passing_sdu = refl; by_passing = refl; by_not_passing = refl; by_red = refl })
  shut_tally s d exceeded h = tallied_by (Dropped d) c _ _ (gate_failed_is s f ∙ ap gate_failed_of h) (record { by_matching = refl; by_passing_sdu = refl; by_not_passing_sdu = refl; by_passing = refl; by_not_passing = refl; by_red = refl })

  red_tally : (s : Rows) (d : Drop) → ByMeter d → Counts (gate_passed_of (sdu_passed_of c)) s → Moved c f (told (red_counted s f) (Dropped d))
  red_tally s d yellow h = tallied_by (Dropped d) c _ _ (red_counted_is s f ∙ ap red_of_counters h) (record { by_matching = refl; by_passing_sdu = refl; by_not_passing_sdu = refl; by_passing = refl; by_not_passing = refl; by_red = refl })
  red_tally s d red h = tallied_by (Dropped d) c _ _ (red_counted_is s f ∙ ap red_of_counters h) (record { by_matching = refl; by_passing_sdu = refl; by_not_passing_sdu = refl; by_passing = refl; by_not_passing = refl; by_red = refl })

  late_tally : (s : Rows) → Counts (gate_passed_of (sdu_passed_of c)) s → Moved c f (told (discard_counted s a.port) (Dropped drop.Residence))
  unfolding discard_counted
  late_tally s h = tallied_by (Dropped drop.Residence) c _ _ (beside _ s (port_row a.port) _ (omega arith) h) (record { by_matching = refl; by_passing_sdu = refl; by_not_passing_sdu = refl; by_passing = refl; by_not_passing = refl; by_red = refl })

  frame_tally : (s : Rows) → Counts c s → Moved c f (sdu_filtered_of s lists a f row)
  frame_tally =
      frame_along lists a f row (Counts c) (Counts (sdu_passed_of c)) (Counts (gate_passed_of (sdu_passed_of c))) (Moved c f)
      (record {
        stopped = λ s h. tallied_by (Dropped drop.OversizeBlocked) c _ _ (sdu_failed_is s f _ ∙ ap (λ (x : Counters). sdu_failed_of x (counters s f).oversize) h) (record { by_matching = refl; by_passing_sdu = refl; by_not_passing_sdu = refl; by_passing = refl; by_not_passing = refl; by_red = refl });
        oversize = λ s set h. tallied_by (Dropped drop.Oversize) c _ _ (sdu_failed_is s f _ ∙ ap (λ (x : Counters). sdu_failed_of x ((counters s f).oversize || set)) h) (record { by_matching = refl; by_passing_sdu = refl; by_not_passing_sdu = refl; by_passing = refl; by_not_passing = refl; by_red = refl });
        fits = λ s h. sdu_passed_is s f ∙ ap sdu_passed_of h;
        gates = λ s. beside _ s (gate_state_row row.gate) _ (omega arith);
        shut = shut_tally;
        opens = λ s h. gate_passed_is s f ∙ ap gate_passed_of h;
        meters = λ s e. beside _ s (meter_state_row row.meter) _ (omega arith);
        exceeds = red_tally;
        passes = λ s p h. tallied_by (Passed p) c _ _ h (record { by_matching = refl; by_passing_sdu = refl; by_not_passing_sdu = refl; by_passing = refl; by_not_passing = refl; by_red = refl });
        admits = λ s i j at x p h. tallied_by (Passed p) c _ _ (beside _ _ (group_row j) _ (omega arith) (beside _ s (scheduler_row i) _ (omega arith) h)) (record { by_matching = refl; by_passing_sdu = refl; by_not_passing_sdu = refl; by_passing = refl; by_not_passing = refl; by_red = refl });
        late = late_tally;
      })

-- ---- any other filter: its row is untouched

module _ (v : List ℕ) (lists : List ℕ) (a : ArrivalRecord) (f : ℕ) (row : Filter) (g : ℕ) (apart : counters_row g ≢ counters_row f) where
  other_kept : Kept lists a f row (λ s. s (counters_row g) ≡ v)
  other_kept = record {
    counts = λ s k h. row_other s (counters_row f) _ (counters_row g) apart ∙ h;
    marks = λ s flag own h. row_other s (counters_row f) _ (counters_row g) apart ∙ h;
    gates = λ s h. row_other s (gate_state_row row.gate) _ (counters_row g) (omega arith) ∙ h;
    meters = λ s e h. row_other s (meter_state_row row.meter) _ (counters_row g) (omega arith) ∙ h;
    schedulers = λ s i x h. row_other s (scheduler_row i) _ (counters_row g) (omega arith) ∙ h;
    groups = λ s j at h. row_other s (group_row j) _ (counters_row g) (omega arith) ∙ h;
    ports = λ s n h. row_other s (port_row a.port) _ (counters_row g) (omega arith) ∙ h;
  }

-- no counter moves where the frame matched another filter, or none, and where a call is refused
unmatched_tally : (m : Bool) (v : Verdict) (c c' : Counters) → m ≡ false → c' ≡ c → Tallied m v c c'
unmatched_tally m v c c' e e' =
    subst (λ (n : Bool). Tallied n v c c') (sym e)
    (subst (Tallied false v c) (sym e') (record { by_matching = refl; by_passing_sdu = refl; by_not_passing_sdu = refl; by_passing = refl; by_not_passing = refl; by_red = refl }))

refused_tally : (m : Bool) (why : Refusal) (c : Counters) → Tallied m (Refused why) c c
refused_tally true why c = record { by_matching = refl; by_passing_sdu = refl; by_not_passing_sdu = refl; by_passing = refl; by_not_passing = refl; by_red = refl }
refused_tally false why c = record { by_matching = refl; by_passing_sdu = refl; by_not_passing_sdu = refl; by_passing = refl; by_not_passing = refl; by_red = refl }

-- ---- an arrival

module _ (s : Rows) (lists : List ℕ) (a : ArrivalRecord) (g : ℕ) (small : g < filter_count) where
  ticked_kept : ticked s a (counters_row g) ≡ s (counters_row g)
  ticked_kept = row_other s component_row _ (counters_row g) (omega arith)

  matched_tally : (f : ℕ) (row : Filter) → f < filter_count → Dec (f ≡ g) → Tallied (eqb f g) (sdu_filtered_of (ticked s a) lists a f row).verdict (counters s g) (counters (sdu_filtered_of (ticked s a) lists a f row).bank g)
  matched_tally f row l (yes e) =
      let t = sdu_filtered_of (ticked s a) lists a f row in
      subst (λ (m : Bool). Tallied m t.verdict (counters s g) (counters t.bank g)) (sym (eq-eqb f g e))
      (subst (λ (k : ℕ). Tallied true t.verdict (counters s g) (counters t.bank k)) e (frame_tally (counters s g) lists a f row (ticked s a) (ap (counters (ticked s a)) e ∙ ap counters_in ticked_kept)))
  matched_tally f row l (no n) =
      unmatched_tally _ _ _ _ (ne_eqb f g n) (ap counters_in (frame_keeps lists a f row _ (other_kept (s (counters_row g)) lists a f row g (omega (arith, n))) (ticked s a) ticked_kept))

  arrived_tally : (found : Found) → ((f : ℕ) (row : Filter) → found ≡ Some (f, row) → f < filter_count) → Tallied (uses_of g found) (arrival_of s lists a found).verdict (counters s g) (counters (arrival_of s lists a found).bank g)
  arrived_tally found low =
      arrived_along s lists a found (λ t. Tallied (uses_of g found) t.verdict (counters s g) (counters t.bank g))
      (record {
        back = λ e. refused_tally _ _ _;
        unmatched = λ e p n. unmatched_tally _ _ _ _ (ap (uses_of g) n) (ap counters_in ticked_kept);
        matched = λ e f row n. subst (λ (x : Found). Tallied (uses_of g x) (sdu_filtered_of (ticked s a) lists a f row).verdict (counters s g) (counters (sdu_filtered_of (ticked s a) lists a f row).bank g)) (sym n) (matched_tally f row (low f row n) (ℕ_discrete f g));
      })

-- ---- a clear moves the flag alone

module _ (s : Rows) (g : ℕ) where
  abbrev SameNumbers : Told → Type 0
  SameNumbers t = (v : Verdict) → Tallied false v (counters s g) (counters t.bank g)

  none_moved : SameNumbers (told s (Refused NotSetUp))
  none_moved v = unmatched_tally false v _ _ refl refl

  away_moved : (r : ℕ) (vs : List ℕ) → counters_row g ≢ r → SameNumbers (told (with_row s r vs) Taken)
  away_moved r vs n v = unmatched_tally false v _ _ refl (counters_kept s (with_row s r vs) g (row_other s r vs (counters_row g) n))

  word_kept : (i k : ℕ) (vs : List ℕ) → word vs k ≡ word (s (counters_row i)) k → word (with_row s (counters_row i) vs (counters_row g)) k ≡ word (s (counters_row g)) k
  word_kept i k vs e = row_kept (λ (row : List ℕ). word row k) s (counters_row i) vs e (counters_row g)

  clear_1_tally : (i : ℕ) (row : Filter) → SameNumbers (clear_oversize_of s i row)
  unfolding clear_oversize_of
  clear_1_tally i row =
      let vs = row_with (s (counters_row i)) 6 0 in
      refused_by SameNumbers (not (counts_of s row)) NotSetUp s _ none_moved
      (λ v. record { by_matching = word_kept i 0 vs refl; by_passing_sdu = word_kept i 1 vs refl; by_not_passing_sdu = word_kept i 2 vs refl; by_passing = word_kept i 3 vs refl; by_not_passing = word_kept i 4 vs refl; by_red = word_kept i 5 vs refl })

  clear_2_tally : (i : ℕ) → SameNumbers (clear_invalid_receive_of s i)
  unfolding clear_invalid_receive_of
  clear_2_tally i = refused_by SameNumbers (not (gate_is_set s i)) NotSetUp s _ none_moved (away_moved (gate_state_row i) _ (omega arith))

  clear_3_tally : (i : ℕ) → SameNumbers (clear_octets_of s i)
  unfolding clear_octets_of
  clear_3_tally i = refused_by SameNumbers (not (gate_is_set s i)) NotSetUp s _ none_moved (away_moved (gate_state_row i) _ (omega arith))

  clear_4_tally : (i : ℕ) → SameNumbers (clear_red_of s i)
  unfolding clear_red_of
  clear_4_tally i = refused_by SameNumbers (not (meter_is_set s i)) NotSetUp s _ none_moved (away_moved (meter_state_row i) _ (omega arith))

  clear_tally : (r : ClearRecord) (row : Filter) → SameNumbers (clear_of s r row)
  clear_tally r row = clear_by_lem SameNumbers s r row (λ _. clear_1_tally r.id row) (λ _. clear_2_tally r.id) (λ _. clear_3_tally r.id) (λ _. clear_4_tally r.id) none_moved

-- ---- one call

module _ (b : Bridge) (c : Call) (g : ℕ) (small : g < filter_count) where
  record_tally : (r : Record) (used : ℕ) → Sort r → Tallied (uses_of g (used_by b r)) (taken_of b c r used).answer.verdict (counters b.bank g) (counters (taken_of b c r used).after.bank g)
  unfolding taken_of
  record_tally r used (setup h) =
      unmatched_tally _ (taken_of b c r used).answer.verdict _ _ (ap (uses_of g) (setup_arrival (λ a. first_row b Fits (key_of a)) None r h))
      (counters_kept b.bank (taken_of b c r used).after.bank g (setup_row b c (counters_row g) (omega arith) (λ j. omega arith) (λ x. meter_other b.bank (counters_row g) x (omega arith) (omega arith)) r used h))
  record_tally r used (arrival a) =
      let found = first_row b Fits (key_of a) in
      let t = arrival_of b.bank b.lists a found in
      subst (λ (v : Verdict). Tallied (uses_of g found) v (counters b.bank g) (counters t.bank g)) (sym (answered_verdict used t.verdict))
      (arrived_tally b.bank b.lists a g small found (λ f row e. (search_finds b.bank _ b.table f row e).high))
  record_tally r used (clear x) = clear_tally b.bank g x _ _

  called_tally : (o : Took) → Called b c o → Tallied (uses_of g (filter_in b (reading_of b c))) o.answer.verdict (counters b.bank g) (counters o.after.bank g)
  called_tally o (unread why) = refused_tally _ why _
  called_tally o (read r used full e) =
      subst (λ (k : Found). Tallied (uses_of g k) (taken_of b c r used).answer.verdict (counters b.bank g) (counters (taken_of b c r used).after.bank g)) (ap (filter_in b) (sym e)) (record_tally r used (sort_of r))

  -- the counters of filter g after the call are those before it, moved by their predicates on what the call did
  pub call_tally : Tallied (uses_of g (event_of b c).filter) (event_of b c).verdict (counters b.bank g) (counters (take_of b c).after.bank g)
  call_tally = called_tally (take_of b c) (called_way b c)
