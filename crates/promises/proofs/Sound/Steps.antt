-- What the steps of a frame compute, where the bank is sound: the meter and the scheduler that a frame reaches never refuse it, and its class is that of the table.
use Rattle.std.specs.Prelude.{ℕ, ◌%◌, ◌≤◌, ◌^◌, Bool, true, not, ◌≡◌, refl, leb, eqb}
use Rattle.std.specs.Prelude.{Option}
use Rattle.std.proofs.Common.{sym, ap, ◌∙◌, arith, le-leb, leb-true}
use Rattle.std.proofs.lemmas.Bool.{eqb-false}
use Rattle.logic.specs.Laws.{both, if_by, by_test, contrary}
use Rattle.bucket.specs.Meaning.{grains}
use Rattle.class.specs.Meaning.{in_table, traffic_class_of}
use Rattle.meter.specs.Meaning.{filled_of, painted_of}
use Rattle.meter.specs.Range.{InRange, in_range_back}
use Rattle.meter.proofs.Cases.{colour_painted}
use Rattle.scheduler.proofs.Range.{Ranged}
use Rattle.record.specs.declared.ArrivalRecord.{ArrivalRecord}
use Rattle.bank.specs.Meaning.{Rows, is_set, component, meter, scheduler, scheduler_group, group, burst}
use Rattle.filter.specs.declared.Filter.{Filter}
use Rattle.filter.specs.Meaning.{Fits}
use Rattle.filter.specs.Meaning.{counts_of, fits_of}
use Rattle.filter.proofs.Laws.{answers_asked, counts_scheduler, counts_max_sdu, counts_holds}
use Rattle.filter.proofs.SearchLaws.{search_finds}
use Rattle.verdict.specs.Meaning.{Passed}
use Rattle.path.specs.Meaning.{internal_of, pass_of, charged_of, coloured_of}
use Rattle.stage.specs.Meaning.{Bridge, key_of, started_of}
use Rattle.promises.specs.Sound.Meaning.{Matched, AtScheduler, pass_at}
use Rattle.promises.proofs.Sound.Bounds.{Sound}

-- ---- an arrival that is read in its turn, at a bridge whose numbers are sound

pub record Ready (b : Bridge) (a : ArrivalRecord) : Type 0 where
  pub sound : Sound b.bank
  pub begun : started_of b.bank ≡ true
  pub time_high : a.time ≤ 2 ^ 62
  pub priority_high : a.priority ≤ 7
  pub mark_high : a.drop_eligible ≤ 1
  pub msdu_high : a.msdu ≤ 2000

module _ (b : Bridge) (a : ArrivalRecord) (ready : Ready b a) where
  abbrev s : Rows
  s = b.bank

  -- ---- the class

  pub classes_low : 1 ≤ (component s).classes
  classes_low = by_test (eqb (component s).classes 0) (λ e. contrary _ ready.begun (ap not e)) (λ e. let n = eqb-false (component s).classes 0 e in omega (arith, n))

  pub in_table_lem : (priority : ℕ) → priority ≤ 7 → in_table priority (component s).classes ≡ true
  in_table_lem priority h = simp (le-leb _ _ h, le-leb _ _ classes_low, le-leb _ _ ready.sound.classes)

  pub internal_high : (ipv : ℕ) → internal_of ipv a.priority ≤ 7
  internal_high ipv = if_by (λ n. n ≤ 7) (leb ipv 7) _ _ (leb-true ipv 7) (λ e. ready.priority_high)

  -- in any bank that has the same number of classes
  pub pass_is : (t : Rows) → (component t).classes ≡ (component s).classes → (priority mark : ℕ) (eligible : Option ℕ) → priority ≤ 7 → pass_of t priority mark eligible ≡ Passed (pass_at b priority mark eligible)
  unfolding pass_of traffic_class_of
  pass_is t e priority mark eligible h =
      let few : (component s).classes % 2 ^ 8 ≡ (component s).classes = omega (arith, ready.sound.classes) in
      rw (e, few, in_table_lem priority h)

  -- ---- the filter that is used counts

  pub row_counts : (f : ℕ) (row : Filter) → Matched b a f row → counts_of s row ≡ true
  row_counts f row m = (both (fits_of (key_of a) row) (counts_of s row) (sym (answers_asked s row _ Fits refl) ∙ (search_finds s _ b.table f row m.first).passes)).1

  -- ---- the meter

  pub meter_in_range_lem : (i : ℕ) → InRange (meter s i) a.time (record { 0 = a.msdu })
  meter_in_range_lem i = record { sound = (ready.sound.meters i).sound; time_high = ready.time_high; msdu_high = ready.msdu_high }

  pub coloured_is : (component s).clock ≤ a.time → (i : ℕ) → coloured_of s a i ≡ painted_of (filled_of (meter s i) a.time) (grains a.msdu) (is_set a.drop_eligible)
  coloured_is timely i = colour_painted (meter s i) a.time _ _ (in_range_back _ _ _ (meter_in_range_lem i)) (omega (arith, timely, (ready.sound.meters i).last_high))

  -- ---- the scheduler

  module _ (f : ℕ) (row : Filter) (ipv mark : ℕ) (there : AtScheduler b a f row ipv mark) where
    abbrev i : ℕ
    i = row.scheduler

    abbrev j : ℕ
    j = scheduler_group s i

    counts : counts_of s row ≡ true
    counts = row_counts f row there.past_meter.at_meter.at_gate.matched

    -- the max SDU holds the MSDU, the burst the max SDU with the largest overhead
    pub length_high : (charged_of s a).0 ≤ (burst s i).0
    length_high =
        let msdu = there.past_meter.at_meter.at_gate.within (counts_max_sdu s row counts there.named) in
        omega (arith, msdu, ready.sound.ports a.port, counts_holds s row counts there.named)

    pub scheduler_in_range_lem : Ranged (scheduler s i) (group s j).last (group s j).residence a.time (charged_of s a)
    scheduler_in_range_lem =
        let set = counts_scheduler s row counts there.named in
        let x = ready.sound.schedulers i in
        let g = ready.sound.groups j in
        record {
          burst_low = x.burst_low set;
          burst_high = x.burst_high;
          level_high = x.level_high;
          length_high = length_high;
          rate_low = x.rate_low set;
          rate_high = x.rate_high;
          last_high = x.last_high;
          group_high = g.last_high;
          arrival_high = ready.time_high;
          residence_low = g.residence_low (ready.sound.complete ready.begun i set);
          residence_high = g.residence_high;
        }
