-- A gate, a meter and a scheduler are what their records say, but for what frames and clears change: flags and counts, buckets and times.
use Rattle.std.specs.Prelude.{ℕ, ◌%◌, ◌^◌, ◌<◌, false, List, ◌≡◌, refl}
use Rattle.std.proofs.Math.Option.{Option, some}
use Rattle.std.proofs.Common.{ap, subst, ◌∙◌, arith}
use Rattle.sizes.specs.Meaning.{gate_count, meter_count, scheduler_count}
use Rattle.meter.specs.Meaning.{meter_holding}
use Rattle.record.specs.declared.GateRecord.{GateRecord}
use Rattle.record.specs.declared.MeterRecord.{MeterRecord}
use Rattle.record.specs.declared.SchedulerRecord.{SchedulerRecord}
use Rattle.bank.specs.Meaning.{Rows, word, is_set, gate_row, gate_state_row, meter_row, meter_state_row, scheduler_row, gate_in, gate, meter_in, meter, scheduler}
use Rattle.bank.proofs.Laws.{is_set_back, gate_set_up}
use Rattle.promises.specs.Past.Meaning.{of_it, Known}
use Rattle.promises.proofs.Past.Agrees.{meter_said, GateSaid, MeterSaid, SchedulerSaid, BankSaid}

module _ (k : Known) (s : Rows) (all : BankSaid k s) (i : ℕ) where
  pub gate_is : i < gate_count → (r : GateRecord) → k.gate i ≡ some r
      → gate s i ≡ gate_set_up (gate s i) (is_set r.state) r.ipv (is_set r.invalid_receive_block) (is_set r.octets_block) r.base_time
  gate_is h r e =
      let a = subst (λ (o : Option GateRecord). GateSaid o (k.entries i) (s (gate_row i))) e ((all (gate_row i)).gates i h refl) in
      let g = gate s i in
      let octet : r.ipv % 2 ^ 8 ≡ r.ipv = omega (arith, a.ranged.ranges) in
      ap (λ (row : List ℕ). gate_in row (s (gate_state_row i))) a.words
      ∙ (λ j. gate_set_up g (is_set_back (is_set r.state) j) (octet j) (is_set_back (is_set r.invalid_receive_block) j) (is_set_back (is_set r.octets_block) j) r.base_time)

  pub meter_is : i < meter_count → (r : MeterRecord) → k.meter i ≡ some r → meter s i ≡ meter_holding (meter_said r) (meter s i).committed (meter s i).excess (meter s i).last (meter s i).red_flag
  meter_is h r e =
      let a = subst (λ (o : Option MeterRecord). MeterSaid o (s (meter_row i))) e ((all (meter_row i)).meters i h refl) in
      let block = subst (λ (o : Option MeterRecord). is_set (word (s (meter_state_row i)) 4) ≡ of_it (λ x. is_set x.red_block) false o) e ((all (meter_state_row i)).meter_states i h refl) in
      let m = meter s i in
      let cbs : r.cbs.0 % 2 ^ 32 ≡ r.cbs.0 = omega (arith, a.ranged.ranges) in
      let ebs : r.ebs.0 % 2 ^ 32 ≡ r.ebs.0 = omega (arith, a.ranged.ranges) in
      ap (λ (row : List ℕ). meter_in row (s (meter_state_row i))) a.words
      ∙ (λ j. record {
        cir = r.cir;
        cbs = record { 0 = cbs j };
        eir = r.eir;
        ebs = record { 0 = ebs j };
        coupling = is_set_back (is_set r.coupling) j;
        colour_aware = is_set_back (is_set r.colour_aware) j;
        drop_on_yellow = is_set_back (is_set r.drop_on_yellow) j;
        red_block = block j;
        red_flag = m.red_flag;
        committed = m.committed;
        excess = m.excess;
        last = m.last;
      })

  pub scheduler_is_lem : i < scheduler_count → (r : SchedulerRecord) → k.scheduler i ≡ some r → scheduler s i ≡ record { rate = r.cir; burst = r.cbs; level = (scheduler s i).level; last = (scheduler s i).last }
  scheduler_is_lem h r e =
      let row = s (scheduler_row i) in
      let a = subst (λ (o : Option SchedulerRecord). SchedulerSaid o (word row 0) (word row 1) (word row 2) (word row 3)) e ((all (scheduler_row i)).schedulers i h refl) in
      let cbs : r.cbs.0 % 2 ^ 32 ≡ r.cbs.0 = omega (arith, a.ranged.ranges) in
      let burst : word row 3 % 2 ^ 32 ≡ r.cbs.0 = ap (λ w. w % 2 ^ 32) a.bursts ∙ cbs in
      λ j. record { rate = record { 0 = a.rates j }; burst = record { 0 = burst j }; level = (scheduler s i).level; last = (scheduler s i).last }
