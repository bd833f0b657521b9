-- A clear on the two banks: one verdict, and the banks stay equal outside the group.
use Rattle.std.specs.Prelude.{ℕ, ◌<◌, Bool, true, cond, ◌≡◌, refl, eqb}
use Rattle.std.proofs.Math.Bool.{false, not}
use mathlib.Core.List.{List}
use Rattle.std.proofs.Common.{ap, arith}
use Rattle.gate.specs.declared.Gate.{Gate}
use Rattle.meter.specs.declared.Meter.{Meter}
use Rattle.record.specs.declared.ClearRecord.{ClearRecord}
use Rattle.record.specs.declared.Refusal.{Refusal}
use Rattle.record.specs.declared.Refusal.TheVariants.{NotSetUp}
use Rattle.bank.specs.Meaning.{Rows, with_row, word, is_set, gate_state_row, meter_state_row, row_of_gate_state, row_of_meter_state, gate_is_set, component_row}
use Rattle.filter.specs.declared.Filter.{Filter}
use Rattle.filter.specs.Meaning.{counts_of}
use Rattle.verdict.specs.Meaning.{Refused, Taken}
use Rattle.verdict.specs.Meaning.{Told, told}
use Rattle.setup.specs.Meaning.{refused_if, with_flags, red_low, clear_oversize_of, clear_invalid_receive_of, clear_octets_of, clear_red_of, clear_of}
use Rattle.promises.proofs.Bursts.Pairs.{Asked, Constants, At, Over, put, outer_same, Outer}
use Rattle.promises.proofs.Bursts.Frames.{gate_row_both, meter_row_both, gate_both, meter_both, oversized}
use Rattle.promises.proofs.Bursts.Outside.{Alike, alike_stop}

cond_both : (Q : Told → Told → Type 0) (b : Bool) (t u t' u' : Told) → Q t t' → Q u u' → Q (cond b t u) (cond b t' u')
cond_both Q true t u t' u' h k = h
cond_both Q false t u t' u' h k = k

pub refused_both : (Q : Told → Told → Type 0) (b b' : Bool) (why : Refusal) (s s' : Rows) (t t' : Told) → b ≡ b' → Q (told s (Refused why)) (told s' (Refused why)) → Q t t' → Q (refused_if b why s t) (refused_if b' why s' t')
unfolding refused_if
refused_both Q true true why s s' t t' e h k = h
refused_both Q false false why s s' t t' e h k = k
refused_both Q true false why s s' t t' e h k = absurd (let w : ◌≡◌ {A = ℕ} 0 1 = cc in omega arith)
refused_both Q false true why s s' t t' e h k = absurd (let w : ◌≡◌ {A = ℕ} 0 1 = cc in omega arith)

module _ (k : Asked) (z : Constants) (g : ℕ) (s s' : Rows) (o : Over k z g s s') where
  stored : (q : ℕ) → component_row < q → Outer q → (vs vs' : List ℕ) → vs ≡ vs' → Alike k z g (told (with_row s q vs) Taken) (told (with_row s' q vs') Taken)
  stored q low out vs vs' e = record { verdicts = refl; banks = put (At k z g) s s' o q vs vs' (outer_same k z g q vs vs' low out e) }

  oversize_both : (i : ℕ) (row : Filter) → counts_of s row ≡ counts_of s' row → Alike k z g (clear_oversize_of s i row) (clear_oversize_of s' i row)
  unfolding clear_oversize_of
  oversize_both i row e = refused_both (Alike k z g) _ _ NotSetUp s s' _ _ (ap not e) (alike_stop k z g s s' _ o) (record { verdicts = refl; banks = oversized k z g s s' o i false })

  no_gate : (i : ℕ) → not (gate_is_set s i) ≡ not (gate_is_set s' i)
  no_gate i = ap (λ (u : List ℕ). not (is_set (word u 0))) (gate_row_both k z g s s' o i)

  invalid_receive_both : (i : ℕ) → Alike k z g (clear_invalid_receive_of s i) (clear_invalid_receive_of s' i)
  unfolding clear_invalid_receive_of
  invalid_receive_both i =
      refused_both (Alike k z g) _ _ NotSetUp s s' _ _ (no_gate i) (alike_stop k z g s s' _ o)
      (stored (gate_state_row i) (omega arith) (omega arith) _ _ (ap (λ (x : Gate). row_of_gate_state (with_flags x false x.octets_flag)) (gate_both k z g s s' o i)))

  octets_both : (i : ℕ) → Alike k z g (clear_octets_of s i) (clear_octets_of s' i)
  unfolding clear_octets_of
  octets_both i =
      refused_both (Alike k z g) _ _ NotSetUp s s' _ _ (no_gate i) (alike_stop k z g s s' _ o)
      (stored (gate_state_row i) (omega arith) (omega arith) _ _ (ap (λ (x : Gate). row_of_gate_state (with_flags x x.invalid_receive_flag false)) (gate_both k z g s s' o i)))

  red_both : (i : ℕ) → Alike k z g (clear_red_of s i) (clear_red_of s' i)
  unfolding clear_red_of
  red_both i =
      refused_both (Alike k z g) _ _ NotSetUp s s' _ _ (ap (λ (u : List ℕ). not (is_set (word u 0))) (meter_row_both k z g s s' o i)) (alike_stop k z g s s' _ o)
      (stored (meter_state_row i) (omega arith) (omega arith) _ _ (ap (λ (x : Meter). row_of_meter_state (red_low x)) (meter_both k z g s s' o i)))

  pub clear_both : (r : ClearRecord) (row : Filter) → counts_of s row ≡ counts_of s' row → Alike k z g (clear_of s r row) (clear_of s' r row)
  unfolding clear_of
  clear_both r row e =
      cond_both (Alike k z g) (eqb r.flag 1) _ _ _ _ (oversize_both r.id row e)
      (cond_both (Alike k z g) (eqb r.flag 2) _ _ _ _ (invalid_receive_both r.id)
      (cond_both (Alike k z g) (eqb r.flag 3) _ _ _ _ (octets_both r.id)
      (cond_both (Alike k z g) (eqb r.flag 4) _ _ _ _ (red_both r.id)
      (alike_stop k z g s s' _ o))))
