-- The other half of the flags: a taken clear of a flag and id does put that flag down.
use Rattle.std.specs.Prelude.{ℕ, Bool, true, ◌&&◌, ◌≡◌, Ok, Err}
use Rattle.std.proofs.Math.Bool.{false}
use Rattle.std.proofs.Math.Path.{refl, sym, ap}
use Rattle.std.proofs.Common.{◌∙◌, arith}
use borrow.Author.Tests.{eqb-true, not-false}
use Rattle.std.proofs.Math.Dec.{eqb}
use Rattle.logic.specs.Laws.{never, both}
use Rattle.gate.specs.declared.Gate.{Gate}
use Rattle.meter.specs.declared.Meter.{Meter}
use Rattle.record.specs.declared.Record.{Record}
use Rattle.record.specs.declared.ClearRecord.{ClearRecord}
use Rattle.record.specs.declared.Refusal.{Refusal}
use Rattle.record.specs.declared.Refusal.TheVariants.{NotSetUp}
use Rattle.record.specs.Meaning.{Reading}
use Rattle.record.proofs.Sorts.{Sort, setup, arrival, clear, sort_of, setup_clear}
use Rattle.bank.specs.Meaning.{Rows, counters, gate, gate_is_set, meter, meter_is_set}
use Rattle.filter.specs.declared.Filter.{Filter}
use Rattle.filter.specs.Meaning.{row_of, counts_of}
use Rattle.verdict.specs.Meaning.{Verdict}
use Rattle.verdict.specs.Meaning.{Refused, Taken, Passed, Dropped}
use Rattle.verdict.specs.Meaning.{Told}
use Rattle.setup.specs.Meaning.{refused_if, clear_oversize_of, clear_invalid_receive_of, clear_octets_of, clear_red_of, clear_of}
use Rattle.setup.proofs.Cases.{clear_oversize, clear_invalid_receive, clear_octets, clear_red}
use Rattle.setup.proofs.Laws.{oversize_clears, invalid_receive_clears, octets_clears, red_clears}
use Rattle.stage.specs.Meaning.{Bridge, Took, taken_of, take_of}
use Rattle.promises.specs.Meaning.{Call, reading_of, event_of}
use Rattle.promises.proofs.Ways.{Called, unread, read, called_way}
use Rattle.promises.proofs.Refusals.Keeps.{answered_verdict}
use Rattle.promises.specs.Flags.Meaning.{taken_in, clear_in, clear_by, clears}
use Rattle.record.specs.declared.Record.TheVariants as kind

taken : (v : Verdict) → taken_in v ≡ true → v ≡ Taken
taken (Refused why) e = never e
taken Taken e = refl
taken (Passed p) e = never e
taken (Dropped d) e = never e

refused_clears_none : (flag i : ℕ) (rd : Reading) (why : Refusal) → clear_by flag i rd (Refused why) ≡ true → ⊥
refused_clears_none flag i (Err w) why e = never e
refused_clears_none flag i (Ok (r, used)) why e = never (both (clear_in flag i r) false e).1

-- ---- a call that clears is a clear that is taken

module _ (b : Bridge) (c : Call) (flag i : ℕ) where
  record Cleared (o : Took) : Type 0 where
    says : ClearRecord
    of_flag : says.flag ≡ flag
    of_id : says.id ≡ i
    is_taken : (clear_of b.bank says (row_of b.table says.id)).verdict ≡ Taken
    leaves : o.after.bank ≡ (clear_of b.bank says (row_of b.table says.id)).bank

  record_clears : (r : Record) (used : ℕ) → Sort r → (clear_in flag i r && taken_in (taken_of b c r used).answer.verdict) ≡ true → Cleared (taken_of b c r used)
  unfolding taken_of
  record_clears r used (setup h) e = never (sym (setup_clear (λ x. eqb x.flag flag && eqb x.id i) false r h) ∙ (both (clear_in flag i r) (taken_in (taken_of b c r used).answer.verdict) e).0)
  record_clears r used (arrival a) e = never e
  record_clears r used (clear x) e =
      let t = clear_of b.bank x (row_of b.table x.id) in
      let p = both (eqb x.flag flag && eqb x.id i) (taken_in (taken_of b c (kind.Clear x) used).answer.verdict) e in
      let q = both (eqb x.flag flag) (eqb x.id i) p.0 in
      record { says = x; of_flag = eqb-true _ _ q.0; of_id = eqb-true _ _ q.1; is_taken = sym (answered_verdict used t.verdict) ∙ taken _ p.1; leaves = refl }

  called_clears : (o : Took) → Called b c o → clear_by flag i (reading_of b c) o.answer.verdict ≡ true → Cleared o
  called_clears o (unread why) e = absurd (refused_clears_none flag i (reading_of b c) why e)
  called_clears o (read r used full said) e = record_clears r used (sort_of r) (ap (λ (rd : Reading). clear_by flag i rd (taken_of b c r used).answer.verdict) (sym said) ∙ e)

  call_clears : clears flag i (event_of b c) ≡ true → Cleared (take_of b c)
  call_clears = called_clears (take_of b c) (called_way b c)

-- ---- what it leaves

goes_on : (t : Bool) (why : Refusal) (s : Rows) (x : Told) → (refused_if t why s x).verdict ≡ Taken → t ≡ false
unfolding refused_if
goes_on true why s x e = absurd (let z : ◌≡◌ {A = ℕ} 0 1 = cc in omega arith)
goes_on false why s x e = refl

module _ (s : Rows) (i : ℕ) where
  oversize_down : (row : Filter) → (clear_oversize_of s i row).verdict ≡ Taken → (counters (clear_oversize_of s i row).bank i).oversize ≡ false
  unfolding clear_oversize_of
  oversize_down row e = oversize_clears s i row (not-false (counts_of s row) (goes_on _ NotSetUp s _ e))

  invalid_receive_down : (clear_invalid_receive_of s i).verdict ≡ Taken → (gate (clear_invalid_receive_of s i).bank i).invalid_receive_flag ≡ false
  unfolding clear_invalid_receive_of
  invalid_receive_down e = ap (λ (g : Gate). g.invalid_receive_flag) (invalid_receive_clears s i (not-false (gate_is_set s i) (goes_on _ NotSetUp s _ e)))

  octets_down : (clear_octets_of s i).verdict ≡ Taken → (gate (clear_octets_of s i).bank i).octets_flag ≡ false
  unfolding clear_octets_of
  octets_down e = ap (λ (g : Gate). g.octets_flag) (octets_clears s i (not-false (gate_is_set s i) (goes_on _ NotSetUp s _ e)))

  red_down : (clear_red_of s i).verdict ≡ Taken → (meter (clear_red_of s i).bank i).red_flag ≡ false
  unfolding clear_red_of
  red_down e = ap (λ (m : Meter). m.red_flag) (red_clears s i (not-false (meter_is_set s i) (goes_on _ NotSetUp s _ e)))

-- a flag by id, after a clear that is `r'` by its flag
down_after : (down : Rows → ℕ → Bool) (t : Rows) (i k : ℕ) (r r' : Told) → k ≡ i → t ≡ r.bank → r ≡ r' → r.verdict ≡ Taken → (r'.verdict ≡ Taken → down r'.bank k ≡ false) → down t i ≡ false
down_after down t i k r r' ids et er ev lift =
    ap (λ (j : ℕ). down t j) (sym ids) ∙ ap (λ (x : Rows). down x k) (et ∙ ap (λ (x : Told). x.bank) er) ∙ lift (sym (ap (λ (x : Told). x.verdict) er) ∙ ev)

module _ (b : Bridge) (c : Call) (i : ℕ) where
  pub oversize_lifted : clears 1 i (event_of b c) ≡ true → (counters (take_of b c).after.bank i).oversize ≡ false
  oversize_lifted e =
      let y = call_clears b c 1 i e in
      let row = row_of b.table y.says.id in
      down_after (λ s j. (counters s j).oversize) _ i y.says.id _ _ y.of_id y.leaves (clear_oversize b.bank y.says row y.of_flag) y.is_taken (oversize_down b.bank y.says.id row)

  pub invalid_receive_lifted : clears 2 i (event_of b c) ≡ true → (gate (take_of b c).after.bank i).invalid_receive_flag ≡ false
  invalid_receive_lifted e =
      let y = call_clears b c 2 i e in
      let row = row_of b.table y.says.id in
      down_after (λ s j. (gate s j).invalid_receive_flag) _ i y.says.id _ _ y.of_id y.leaves (clear_invalid_receive b.bank y.says row y.of_flag) y.is_taken (invalid_receive_down b.bank y.says.id)

  pub octets_lifted : clears 3 i (event_of b c) ≡ true → (gate (take_of b c).after.bank i).octets_flag ≡ false
  octets_lifted e =
      let y = call_clears b c 3 i e in
      let row = row_of b.table y.says.id in
      down_after (λ s j. (gate s j).octets_flag) _ i y.says.id _ _ y.of_id y.leaves (clear_octets b.bank y.says row y.of_flag) y.is_taken (octets_down b.bank y.says.id)

  pub red_lifted : clears 4 i (event_of b c) ≡ true → (meter (take_of b c).after.bank i).red_flag ≡ false
  red_lifted e =
      let y = call_clears b c 4 i e in
      let row = row_of b.table y.says.id in
      down_after (λ s j. (meter s j).red_flag) _ i y.says.id _ _ y.of_id y.leaves (clear_red b.bank y.says row y.of_flag) y.is_taken (red_down b.bank y.says.id)
