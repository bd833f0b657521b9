-- Every frame is in one of document 01's cases.
use Rattle.std.specs.Prelude.{ℕ, ◌≤◌, false, ◌≢◌, ◌≡◌, refl, leb, ltb, eqb, None, Some, Bool}
use Rattle.std.proofs.Common.{leb-true, leb-false, ltb-true, ltb-false, eqb-true}
use Rattle.std.proofs.lemmas.Bool.{eqb-false}
use Rattle.logic.specs.Laws.{by_test}
use Rattle.gate.specs.declared.Outcome.{Outcome as GateOutcome}
use Rattle.gate.specs.declared.Outcome.TheVariants.{Passed as Open, Blocked, Closed, TooManyOctets}
use Rattle.meter.specs.declared.Outcome.{Outcome}
use Rattle.meter.proofs.Laws.{Colour, green, yellow, yellow_dropped, red, painted_colour}
use Rattle.record.specs.declared.ArrivalRecord.{ArrivalRecord}
use Rattle.bank.specs.Meaning.{component, counters}
use Rattle.filter.specs.declared.Filter.{Filter}
use Rattle.filter.specs.Meaning.{Found}
use Rattle.filter.specs.Meaning.{Fits}
use Rattle.verdict.specs.Meaning.{Verdict}
use Rattle.path.specs.Meaning.{reached_of}
use Rattle.stage.specs.Meaning.{Bridge, key_of, first_row}
use Rattle.promises.specs.Sound.Meaning.{colour_at, eligible_at, latest_at, Matched, AtGate, AtMeter, unmetered, PastMeter, AtScheduler, Given, goes_back, unmatched, drop_1, drop_2, drop_3, drop_4, drop_5, drop_6, drop_7, unscheduled, scheduled, drop_8, green as marks-green, yellow as marks-yellow}

module _ (b : Bridge) (a : ArrivalRecord) where
  abbrev pub Told : Type 0
  Told = (v : Verdict) × Given b a v

  module _ (f : ℕ) (row : Filter) where
    at_scheduler : (ipv mark : ℕ) → AtScheduler b a f row ipv mark → Told
    at_scheduler ipv mark h =
        by_test (leb (eligible_at b a row.scheduler) (latest_at b a row.scheduler))
        (λ e. (_, scheduled f row ipv mark h (leb-true _ _ e)))
        (λ e. (_, drop_8 (record { filter = f; row = row; ipv = ipv; mark = mark; at_scheduler = h; exceeds = leb-false _ _ e })))

    past_meter : (ipv mark : ℕ) → PastMeter b a f row ipv mark → Told
    past_meter ipv mark h =
        by_test (eqb row.scheduler 255)
        (λ e. (_, unscheduled f row ipv mark h (eqb-true _ _ e)))
        (λ e. at_scheduler ipv mark (record { past_meter = h; named = eqb-false _ _ e }))

    by_colour : (ipv : ℕ) → AtMeter b a f row ipv → row.meter ≢ 255 → (o : Outcome) → colour_at b a row.meter ≡ o → Colour o → Told
    by_colour ipv h n o e green = past_meter ipv _ (record { at_meter = h; marked = marks-green n e })
    by_colour ipv h n o e yellow = past_meter ipv _ (record { at_meter = h; marked = marks-yellow n e })
    by_colour ipv h n o e yellow_dropped = (_, drop_6 (record { filter = f; row = row; ipv = ipv; at_meter = h; named = n; coloured = e }))
    by_colour ipv h n o e red = (_, drop_7 (record { filter = f; row = row; ipv = ipv; at_meter = h; named = n; coloured = e }))

    at_meter : (ipv : ℕ) → AtMeter b a f row ipv → Told
    at_meter ipv h =
        by_test (eqb row.meter 255)
        (λ e. past_meter ipv _ (record { at_meter = h; marked = unmetered (eqb-true _ _ e) }))
        (λ e. by_colour ipv h (eqb-false _ _ e) _ refl (painted_colour _ _ _))

    by_gate : AtGate b a f row → (o : GateOutcome) → (reached_of b.bank b.lists a row.gate).outcome ≡ o → Told
    by_gate h (Open ipv) e = at_meter ipv (record { at_gate = h; opens = e })
    by_gate h Blocked e = (_, drop_3 f row h e)
    by_gate h Closed e = (_, drop_4 f row h e)
    by_gate h TooManyOctets e = (_, drop_5 f row h e)

    by_size : Matched b a f row → (row.oversize_block ≡ 1 → (counters b.bank f).oversize ≡ false) → Told
    by_size m free =
        by_test (eqb row.max_sdu 0) (λ e. by_gate (record { matched = m; unblocked = free; within = λ n. absurd (n (eqb-true _ _ e)) }) _ refl)
        (λ n. by_test (ltb row.max_sdu a.msdu) (λ e. (_, drop_2 f row m free (eqb-false _ _ n) (ltb-true _ _ e)))
        (λ e. by_gate (record { matched = m; unblocked = free; within = λ _. ltb-false _ _ e }) _ refl))

    by_block : Matched b a f row → Told
    by_block m =
        by_test (counters b.bank f).oversize
        (λ flag. by_test (eqb row.oversize_block 1) (λ e. (_, drop_1 f row m (eqb-true _ _ e) flag)) (λ n. by_size m (λ e. absurd (eqb-false _ _ n e))))
        (λ flag. by_size m (λ _. flag))

  by_found : (component b.bank).clock ≤ a.time → (found : Found) → first_row b Fits (key_of a) ≡ found → Told
  by_found timely None e = (_, unmatched timely e)
  by_found timely (Some (f, row)) e = by_block f row (record { timely = timely; first = e })

  pub some_given : Told
  some_given = by_test (ltb a.time (component b.bank).clock) (λ e. (_, goes_back (ltb-true _ _ e))) (λ e. by_found (ltb-false _ _ e) _ refl)
