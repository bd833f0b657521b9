-- Every call keeps the numbers of the bank sound, and so does a spoiled table: they are sound in every bridge that calls can reach.
use Rattle.std.specs.Prelude.{ℕ, ◌≡◌, Ok}
use Rattle.std.proofs.Common.{arith}
use Rattle.logic.specs.Laws.{never}
use Rattle.record.specs.declared.Record.{Record}
use Rattle.record.specs.declared.ArrivalRecord.{ArrivalRecord}
use Rattle.record.specs.Meaning.{read_of}
use Rattle.record.proofs.Laws.{read_in_turn, read_setup}
use Rattle.record.proofs.Sorts.{Sort, setup, arrival, clear, sort_of}
use Rattle.record.proofs.Ranges.{read_ranges}
use Rattle.filter.specs.Meaning.{row_of}
use Rattle.stage.specs.Meaning.{Bridge, Took, started_of, taken_of, take_of}
use Rattle.promises.specs.Meaning.{Call, fresh}
use Rattle.promises.proofs.Ways.{Called, unread, read, called_way}
use Rattle.promises.specs.Sound.Meaning.{Reached, begins, calls, spoils}
use Rattle.promises.proofs.Sound.Bounds.{Sound}
use Rattle.promises.proofs.Sound.Setups.{setup_sound, clear_sound}
use Rattle.promises.proofs.Sound.Steps.{Ready}
use Rattle.promises.proofs.Sound.Every.{some_given}
use Rattle.promises.proofs.Sound.Frames.{told_given}
use Rattle.record.specs.declared.Record.TheVariants as kind

module _ (b : Bridge) (c : Call) (k : Sound b.bank) where
  pub arrival_ready : (a : ArrivalRecord) (used : ℕ) → read_of c (started_of b.bank) ≡ Ok (kind.Arrival a, used) → Ready b a
  arrival_ready a used e =
      let h = read_ranges c (started_of b.bank) (kind.Arrival a) used e in
      record { sound = k; begun = read_in_turn c (started_of b.bank) (kind.Arrival a) used e; time_high = h.2; priority_high = h.3; mark_high = h.4; msdu_high = h.5 }

  record_sound : (r : Record) (used : ℕ) → read_of c (started_of b.bank) ≡ Ok (r, used) → Sort r → Sound (taken_of b c r used).after.bank
  unfolding taken_of
  record_sound r used e (setup h) = setup_sound b c k (read_setup c (started_of b.bank) r used e h) r used h (read_ranges c (started_of b.bank) r used e)
  record_sound r used e (arrival a) = let some = some_given b a in (told_given b a (arrival_ready a used e) some.0 some.1).1
  record_sound r used e (clear x) = clear_sound b.bank k x (row_of b.table x.id)

  called_sound : (o : Took) → Called b c o → Sound o.after.bank
  called_sound o (unread why) = k
  called_sound o (read r used full e) = record_sound r used e (sort_of r)

  pub call_sound : Sound (take_of b c).after.bank
  call_sound = called_sound (take_of b c) (called_way b c)

fresh_sound : Sound fresh.bank
unfolding fresh
fresh_sound = record {
  classes = omega arith;
  clock = omega arith;
  ports = λ i. omega arith;
  meters = λ i. record {
    sound = record { cbs_high = omega arith; ebs_high = omega arith; committed_high = omega arith; excess_high = omega arith; cir_high = omega arith; eir_high = omega arith; last_high = omega arith };
    last_high = omega arith;
  };
  groups = λ i. record { residence_low = λ e. never e; residence_high = omega arith; last_high = omega arith };
  schedulers = λ i. record { rate_low = λ e. never e; rate_high = omega arith; burst_low = λ e. never e; burst_high = omega arith; level_high = omega arith; last_high = omega arith };
  complete = λ e. never e;
}

pub reached_sound : {b : Bridge} → Reached b → Sound b.bank
reached_sound begins = fresh_sound
reached_sound (calls {b = b} h c) = call_sound b c (reached_sound h)
reached_sound (spoils h table) = reached_sound h
