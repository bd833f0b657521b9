-- A setup record or a start on two near bridges: one answer, and the bridges stay near; and once the first has taken its start, its table is checked.
use Rattle.std.specs.Prelude.{ℕ, Bool, cond, ◌≡◌, ltb, length}
use Rattle.std.proofs.Math.Bool.{true, false}
use Rattle.std.proofs.Common.{true≢false, sym, subst, ◌∙◌, arith}
use mathlib.Core.List.{List}
use Rattle.std.proofs.Math.Path.{refl, ap}
use Rattle.sizes.specs.Meaning.{filter_count, entry_count}
use Rattle.record.specs.declared.Record.{Record}
use Rattle.record.specs.declared.Record.TheVariants as kind
use Rattle.record.specs.declared.PortRecord.{PortRecord}
use Rattle.record.specs.declared.GateEntryRecord.{GateEntryRecord}
use Rattle.record.specs.declared.StartRecord.{StartRecord}
use Rattle.record.specs.declared.Refusal.TheVariants.{SetUpAlready, Missing, BurstTooSmall}
use Rattle.record.specs.Meaning.{body_in}
use Rattle.record.proofs.Sorts.{Setup, never_setup}
use Rattle.record.proofs.Ranges.{Ranged}
use Rattle.bank.specs.Meaning.{Rows, word, is_set, component_row, port_row, scheduler_row, component, entries, scheduler_in, with_classes}
use Rattle.bank.proofs.Rows.{row_same, row_other}
use Rattle.filter.specs.declared.Filter.{Filter}
use Rattle.filter.specs.Meaning.{Found, no_key}
use Rattle.filter.specs.Meaning as asks
use Rattle.filter.specs.Meaning.{is_filter_of, row_of, is_found}
use Rattle.verdict.specs.Meaning.{Taken}
use Rattle.verdict.specs.Meaning.{Answer}
use Rattle.verdict.specs.Meaning.{Told, told}
use Rattle.setup.specs.Meaning.{Listed, refused_if, set_port_of, set_gate_of, add_entry_of, set_meter_of, set_group_of, set_scheduler_of, incomplete_of, start_of}
use Rattle.setup.proofs.Cases.{refused_by}
use Rattle.setup.proofs.Laws.{gate_other, meter_other, group_other, scheduler_other}
use Rattle.stage.specs.Meaning.{Bridge, Took, bridge, answered, refused_of, bank_took, first_row, taken_of, started_of}
use Rattle.promises.proofs.Bursts.Pairs.{apart, Near, near_apart, with_constants, constants_in}
use Rattle.promises.proofs.Bursts.Found.{Checked, missing_found_both, start_checks, checked_stays}
use Rattle.promises.proofs.Bursts.Setups.{Together, port_together, gate_together, entry_together, meter_together, group_together, scheduler_together, start_together}
use Rattle.promises.proofs.Untouched.{setup_holds}

pub record Kept (g : ℕ) (o o' : Took) : Type 0 where
  pub answers : o.answer ≡ o'.answer
  pub tables : o.after.table ≡ o'.after.table
  pub lists : o.after.lists ≡ o'.after.lists
  pub banks : Near g o.after.bank o'.after.bank

module _ (g : ℕ) (b : Bridge) (s' : Rows) (o : Near g b.bank s') where
  abbrev b' : Bridge
  b' = bridge b.table s' b.lists

  banked_kept : (used : ℕ) (t t' : Told) → Together g t t' → Kept g (bank_took b used t) (bank_took b' used t')
  banked_kept used t t' h = record { answers = ap (answered used) h.verdicts; tables = refl; lists = refl; banks = h.banks }

  place_kept : (t : Bool) (x : List Filter) (a : Answer) → Kept g (cond t (refused_of b SetUpAlready) (record { after = bridge x b.bank b.lists; answer = a })) (cond t (refused_of b' SetUpAlready) (record { after = bridge x s' b.lists; answer = a }))
  place_kept true x a = record { answers = refl; tables = refl; lists = refl; banks = o }
  place_kept false x a = record { answers = refl; tables = refl; lists = refl; banks = o }

  module _ (input : List ℕ) (before : started_of b.bank ≡ false) where
    pub early_kept : (r : Record) (used : ℕ) → Setup r → Ranged r used → started_of (taken_of b input r used).after.bank ≡ started_of (taken_of b' input r used).after.bank → Kept g (taken_of b input r used) (taken_of b' input r used)
    unfolding taken_of
    early_kept (kind.Port r) used h k e = banked_kept used _ _ (port_together g b.bank s' o r)
    early_kept (kind.Filter r) used h k e = place_kept (is_filter_of (row_of b.table r.id)) _ _
    early_kept (kind.Gate r) used h k e = banked_kept used _ _ (gate_together g b.bank s' o r)
    early_kept (kind.GateEntry r) used h k e =
        let t = entry_together g b.bank s' o b.lists (body_in input used) r in
        record { answers = ap (answered used) t.0; tables = refl; lists = t.1; banks = t.2 }
    early_kept (kind.Meter r) used h k e = banked_kept used _ _ (meter_together g b.bank s' o r)
    early_kept (kind.Group r) used h k e = banked_kept used _ _ (group_together g b.bank s' o r)
    early_kept (kind.Scheduler r) used h k e = banked_kept used _ _ (scheduler_together g b.bank s' o r k.6)
    early_kept (kind.Start r) used h k e =
        banked_kept used _ _
        (subst (λ (miss : Found). is_set (component (start_of b.bank r (first_row b asks.Missing no_key) (first_row b asks.ExceedsBurst no_key)).bank).classes ≡ is_set (component (start_of s' r miss (first_row b' asks.ExceedsBurst no_key)).bank).classes
        → Together g (start_of b.bank r (first_row b asks.Missing no_key) (first_row b asks.ExceedsBurst no_key)) (start_of s' r miss (first_row b' asks.ExceedsBurst no_key)))
        (missing_found_both (constants_in b.bank) g b.bank s' (with_constants apart g b.bank s' (near_apart g b.bank s' o)) b.table no_key)
        (start_together g b.bank s' o r (first_row b asks.Missing no_key) (first_row b asks.ExceedsBurst no_key) (first_row b' asks.ExceedsBurst no_key) k.1 before) e)
    early_kept (kind.Arrival a) used h k e = never_setup h
    early_kept (kind.Clear r) used h k e = never_setup h

-- ---- the table is checked by the start that is taken

abbrev classes_kept : Rows → Told → Type 0
classes_kept s t = word (t.bank 0) 0 ≡ word (s 0) 0

port_classes : (s : Rows) (r : PortRecord) → classes_kept s (set_port_of s r)
unfolding set_port_of
port_classes s r = refused_by (classes_kept s) _ SetUpAlready s _ refl (ap (λ (u : List ℕ). word u 0) (row_other _ (port_row r.port) _ 0 (omega arith) ∙ row_same s 0 _))

entry_classes : (s : Rows) (lists body : List ℕ) (r : GateEntryRecord) → word ((add_entry_of s lists body r).bank 0) 0 ≡ word (s 0) 0
unfolding add_entry_of
entry_classes s lists input r = by_room (ltb (entries s r.gate) entry_count) _ _ (ap (λ (u : List ℕ). word u 0) (row_other s _ _ 0 (omega arith))) refl
  where
    by_room : (t : Bool) (x y : Listed) → word (x.bank 0) 0 ≡ word (s 0) 0 → word (y.bank 0) 0 ≡ word (s 0) 0 → word ((cond t x y).bank 0) 0 ≡ word (s 0) 0
    by_room true x y p q = p
    by_room false x y p q = q

module _ (b : Bridge) (input : List ℕ) (whole : length b.table ≡ filter_count) (before : started_of b.bank ≡ false) where
  still : (s : Rows) → word (s 0) 0 ≡ word (b.bank 0) 0 → {A : Type 0} → started_of s ≡ true → A
  still s e h = absurd (true≢false (sym h ∙ ap is_set e ∙ before))

  start_checked : (r : StartRecord) → started_of (start_of b.bank r (first_row b asks.Missing no_key) (first_row b asks.ExceedsBurst no_key)).bank ≡ true
      → Checked b.table (start_of b.bank r (first_row b asks.Missing no_key) (first_row b asks.ExceedsBurst no_key)).bank
  unfolding start_of refused_if
  start_checked r = by_tests (incomplete_of b.bank (first_row b asks.Missing no_key)) (is_found (first_row b asks.ExceedsBurst no_key)) refl
    where
      by_tests : (x y : Bool) → is_found (first_row b asks.ExceedsBurst no_key) ≡ y → started_of (refused_if x Missing b.bank (refused_if y BurstTooSmall b.bank (told (with_classes b.bank r.classes) Taken))).bank ≡ true
          → Checked b.table (refused_if x Missing b.bank (refused_if y BurstTooSmall b.bank (told (with_classes b.bank r.classes) Taken))).bank
      by_tests true y e h = still b.bank refl h
      by_tests false true e h = still b.bank refl h
      by_tests false false e h =
          checked_stays b.table b.bank (with_classes b.bank r.classes) (λ i. ap (λ (u : List ℕ). (scheduler_in u).burst.0) (row_other b.bank component_row _ (scheduler_row i) (omega arith))) (ap (λ (u : List ℕ). word u 2) (row_same b.bank component_row _))
          (start_checks b.table b.bank whole e)

  pub early_checked : (r : Record) (used : ℕ) → Setup r → started_of (taken_of b input r used).after.bank ≡ true → Checked (taken_of b input r used).after.table (taken_of b input r used).after.bank
  early_checked =
      setup_holds b input (λ x. started_of x.bank ≡ true → Checked x.table x.bank)
      (record {
        now = still b.bank refl;
        ports = λ r. still (set_port_of b.bank r).bank (port_classes b.bank r);
        filters = λ r. still b.bank refl;
        gates = λ r. still (set_gate_of b.bank r).bank (ap (λ (u : List ℕ). word u 0) (gate_other b.bank 0 r (omega arith)));
        entries = λ r used. still (add_entry_of b.bank b.lists (body_in input used) r).bank (entry_classes b.bank b.lists (body_in input used) r);
        meters = λ r. still (set_meter_of b.bank r).bank (ap (λ (u : List ℕ). word u 0) (meter_other b.bank 0 r (omega arith) (omega arith)));
        groups = λ r. still (set_group_of b.bank r).bank (ap (λ (u : List ℕ). word u 0) (group_other b.bank 0 r (omega arith)));
        schedulers = λ r. still (set_scheduler_of b.bank r).bank (ap (λ (u : List ℕ). word u 0) (scheduler_other b.bank 0 r (omega arith)));
        starts = start_checked;
      })
