-- Setup records and start on the two banks, before a start is taken: the same answer, and the banks stay near. And the record in which the two runs differ: it brings two equal banks near.
use Prim.Native.Nat.{ℕ, ◌+◌, ◌-◌, ◌*◌, ◌%◌, ◌≤◌, ◌<◌, min, max}
use Rattle.std.specs.Prelude.{Bool, true, not, cond, ◌&&◌, ◌||◌, ◌≡◌, ltb}
use Rattle.std.proofs.Math.Bool.{false}
use Rattle.std.proofs.Common.{true≢false, ap, ◌∙◌, ne_eqb}
use mathlib.Core.List.{List}
use Rattle.std.proofs.Math.Path.{refl, sym, subst, fun_ext}
use native.Mathlib.Omega.{arith}
use Rattle.std.proofs.Math.Decide.{ℕ_discrete}
use Rattle.sizes.specs.Meaning.{group_count, entry_count, gate_count, scheduler_count}
use Rattle.bucket.specs.declared.Rate.{Rate}
use Rattle.bucket.specs.declared.Octets.{Octets}
use Rattle.bucket.specs.Meaning.{grains}
use Rattle.record.specs.declared.PortRecord.{PortRecord}
use Rattle.record.specs.declared.GateRecord.{GateRecord}
use Rattle.record.specs.declared.GateEntryRecord.{GateEntryRecord}
use Rattle.record.specs.declared.MeterRecord.{MeterRecord}
use Rattle.record.specs.declared.GroupRecord.{GroupRecord}
use Rattle.record.specs.declared.SchedulerRecord.{SchedulerRecord}
use Rattle.record.specs.declared.StartRecord.{StartRecord}
use Rattle.record.specs.declared.Refusal.TheVariants.{SetUpAlready, NinthEntry, Missing, BurstTooSmall}
use Rattle.bank.specs.Meaning.{Rows, with_row, word, is_set, component_row, port_row, gate_row, meter_row, meter_state_row, group_row, scheduler_row, row_of_port, row_of_gate, row_of_scheduler, component, entries, with_entries, group, scheduler_is_set, scheduler_group, groups_from, row_with, with_classes}
use Rattle.bank.proofs.Rows.{row_same}
use Rattle.verdict.specs.Meaning.{Verdict}
use Rattle.verdict.specs.Meaning.{Refused, Taken}
use Rattle.verdict.specs.Meaning.{Told, told}
use Rattle.filter.specs.Meaning.{Found}
use Rattle.filter.specs.Meaning.{is_found}
use Rattle.setup.specs.Meaning.{Listed, listed, refused_if, set_port_of, set_gate_of, add_entry_of, entry_kept, set_meter_of, set_group_of, fresh_scheduler_of, set_scheduler_of, stray_of, groupless_of, some_of, incomplete_of, start_of, entry_place}
use Rattle.promises.proofs.Bursts.Pairs.{Constants, Pair, constants_in, put, outer_same, component_pair, near, Near, SchedulerNear, Outer}
use Rattle.promises.proofs.Bursts.Outside.{port_at, group_at, scheduler_pair}
use Rattle.promises.proofs.Bursts.Clears.{refused_both}

-- the two tell one verdict, and stay near
pub record Together (g : ℕ) (t t' : Told) : Type 0 where
  pub verdicts : t.verdict ≡ t'.verdict
  pub banks : Near g t.bank t'.bank

-- ---- a fresh scheduler with a larger burst is ahead

deeper : (l l' c c' x : ℕ) → l ≤ l' → c ≤ c' → min c (l + x) ≤ min c' (l' + x)
deeper l l' c c' x h k = omega arith

pub fresh_near : (i : ℕ) (cir : Rate) (cbs cbs' : Octets) → cbs.0 ≤ cbs'.0 → cbs'.0 ≤ 1_000_000 → SchedulerNear (row_of_scheduler i (fresh_scheduler_of cir cbs)) (row_of_scheduler i (fresh_scheduler_of cir cbs'))
fresh_near i cir cbs cbs' h small =
    let a : grains (min cbs.0 1_000_000) ≤ grains (min cbs'.0 1_000_000) = omega arith in
    let b : grains (cbs.0 % 4_294_967_296) ≤ grains (cbs'.0 % 4_294_967_296) = omega arith in
    record {
      ahead = record {
        rates = refl;
        bursts = omega arith;
        lasts = omega arith;
        levels = λ t _. deeper (grains (min cbs.0 1_000_000)) (grains (min cbs'.0 1_000_000)) (grains (cbs.0 % 4_294_967_296)) (grains (cbs'.0 % 4_294_967_296)) (cir.0 * (t - 0)) a b;
      };
      burst = omega arith;
      level = omega arith;
    }

module _ (g : ℕ) (s s' : Rows) (o : Near g s s') where
  abbrev z : Constants
  z = constants_in s

  remade : (q : ℕ) → component_row < q → Outer q → (make : List ℕ → List ℕ) → Near g (with_row s q (make (s q))) (with_row s' q (make (s' q)))
  remade q low out make = put (Pair near g) s s' o q _ _ (outer_same near z g q _ _ low out (ap make ((o q).outer out))).pair

  stop : (v : Verdict) → Together g (told s v) (told s' v)
  stop v = record { verdicts = refl; banks = o }

  port_row_both : (i : ℕ) → s (port_row i) ≡ s' (port_row i)
  port_row_both i = (o (port_row i)).ports (omega arith) (omega arith)

  component_row_lem : s component_row ≡ s' component_row
  component_row_lem = (o component_row).outer (omega arith)

  gate_row_lem : (i : ℕ) → s (gate_row i) ≡ s' (gate_row i)
  gate_row_lem i = (o (gate_row i)).outer (omega arith)

  -- a store into the component's row of what is made from it
  renewed : (make : List ℕ → List ℕ) → Near g (with_row s component_row (make (s component_row))) (with_row s' component_row (make (s' component_row)))
  renewed make = put (Pair near g) s s' o component_row _ _ (component_pair near g _ _ (ap make component_row_lem))

  pub gate_together : (r : GateRecord) → Together g (set_gate_of s r) (set_gate_of s' r)
  unfolding set_gate_of
  gate_together r =
      refused_both (Together g) _ _ SetUpAlready s s' _ _ (ap (λ (u : List ℕ). is_set (word u 0)) (gate_row_lem r.id)) (stop _)
      (record { verdicts = refl; banks = remade (gate_row r.id) (omega arith) (omega arith) (λ u. row_of_gate u (is_set r.state) r.ipv (is_set r.invalid_receive_block) (is_set r.octets_block) r.base_time) })

  group_set_both : (j : ℕ) → (group s j).set ≡ (group s' j).set
  group_set_both j = by_group (ℕ_discrete (group_row j) (groups_from + g))
    where
      by_group : Dec (group_row j ≡ groups_from + g) → (group s j).set ≡ (group s' j).set
      by_group (yes e) = ((o (group_row j)).group e (omega (arith, e))).set
      by_group (no n) = ap (λ (u : List ℕ). is_set (word u 0)) ((o (group_row j)).groups (omega arith) (omega arith) n)

  pub group_together : (r : GroupRecord) → Together g (set_group_of s r) (set_group_of s' r)
  unfolding set_group_of
  group_together r =
      refused_both (Together g) _ _ SetUpAlready s s' _ _ (group_set_both r.id) (stop _)
      (record { verdicts = refl; banks = put (Pair near g) s s' o (group_row r.id) _ _ (group_at near z g (group_row r.id) _ _ (omega arith) (omega arith) (λ _. refl) (λ _. record { set = refl; residence = refl; last = omega arith })).pair })

  pub scheduler_together : (r : SchedulerRecord) → r.cbs.0 ≤ 1_000_000 → Together g (set_scheduler_of s r) (set_scheduler_of s' r)
  unfolding set_scheduler_of
  scheduler_together r small =
      refused_both (Together g) _ _ SetUpAlready s s' _ _ ((o (scheduler_row r.id)).set (omega arith)) (stop _)
      (record {
        verdicts = refl;
        banks = put (Pair near g) s s' o (scheduler_row r.id) (row_of_scheduler r.group (fresh_scheduler_of r.cir r.cbs)) (row_of_scheduler r.group (fresh_scheduler_of r.cir r.cbs)) (
            scheduler_pair near z g (scheduler_row r.id) _ _ (omega arith) refl refl (λ _. refl) (λ _. fresh_near r.group r.cir r.cbs r.cbs (omega arith) small));
      })

  -- the record in which the runs differ, of a scheduler of the group
  pub scheduler_differs : (r r' : SchedulerRecord) → r.group ≡ g → g < group_count → r'.id ≡ r.id → r'.group ≡ r.group → r'.cir ≡ r.cir → r.cbs.0 ≤ r'.cbs.0 → r'.cbs.0 ≤ 1_000_000
      → Together g (set_scheduler_of s r) (set_scheduler_of s' r')
  unfolding set_scheduler_of
  scheduler_differs r r' in_group low same_id same-group same-rate h small =
      rw (same_id, same-group, same-rate)
      (refused_both (Together g) _ _ SetUpAlready s s' _ _ ((o (scheduler_row r.id)).set (omega arith)) (stop _)
      (record {
        verdicts = refl;
        banks = put (Pair near g) s s' o (scheduler_row r.id) (row_of_scheduler r.group (fresh_scheduler_of r.cir r.cbs)) (row_of_scheduler r.group (fresh_scheduler_of r.cir r'.cbs)) (
            scheduler_pair near z g (scheduler_row r.id) _ _ (omega arith) refl refl (λ n. absurd (n (omega (arith, in_group, low)))) (λ _. fresh_near r.group r.cir r.cbs r'.cbs h small));
      }))

  pub meter_together : (r : MeterRecord) → Together g (set_meter_of s r) (set_meter_of s' r)
  unfolding set_meter_of
  meter_together r =
      refused_both (Together g) _ _ SetUpAlready s s' _ _ (ap (λ (u : List ℕ). is_set (word u 0)) ((o (meter_row r.id)).outer ((λ h. omega arith), omega arith))) (stop _)
      (record {
        verdicts = refl;
        banks = put (Pair near g) _ _ (put (Pair near g) s s' o (meter_row r.id) _ _ (outer_same near z g (meter_row r.id) _ _ (omega arith) (omega arith) refl).pair) (meter_state_row r.id) _ _ (outer_same near z g (meter_state_row r.id) _ _ (omega arith) (omega arith) refl).pair;
      })

  pub port_together : (r : PortRecord) → Together g (set_port_of s r) (set_port_of s' r)
  unfolding set_port_of
  port_together r =
      refused_both (Together g) _ _ SetUpAlready s s' _ _ (ap (λ (u : List ℕ). is_set (word u 0)) (port_row_both r.port)) (stop _)
      (record {
        verdicts = refl;
        banks = put (Pair near g) _ _ (renewed (λ u. row_with u 2 (max (word u 2) r.overhead))) (port_row r.port) _ _
            (port_at near z g (port_row r.port) _ _ (omega arith) (omega arith) (ap (λ (u : List ℕ). row_of_port (record { set = true; overhead = r.overhead; discarded = word u 2 })) (port_row_both r.port))).pair;
      })

  -- an entry's octets go to the same place
  pub entry_together : (lists body : List ℕ) (r : GateEntryRecord) → ((add_entry_of s lists body r).verdict ≡ (add_entry_of s' lists body r).verdict) × ((add_entry_of s lists body r).lists ≡ (add_entry_of s' lists body r).lists) × Near g (add_entry_of s lists body r).bank (add_entry_of s' lists body r).bank
  unfolding add_entry_of
  entry_together lists body r =
      subst (λ (n : ℕ). Same (add_entry_of s lists body r) (cond (ltb n entry_count) (listed (with_entries s' r.gate (n + 1)) (entry_kept lists (entry_place r.gate n) body) Taken) (listed s' lists (Refused NinthEntry))))
      (ap (λ (u : List ℕ). min (word u 6) entry_count) (gate_row_lem r.gate))
      (by_room (ltb (entries s r.gate) entry_count) (entries s r.gate))
    where
      Same : Listed → Listed → Type 0
      Same t t' = (t.verdict ≡ t'.verdict) × (t.lists ≡ t'.lists) × Near g t.bank t'.bank

      by_room : (b : Bool) (n : ℕ) → Same (cond b (listed (with_entries s r.gate (n + 1)) (entry_kept lists (entry_place r.gate n) body) Taken) (listed s lists (Refused NinthEntry))) (cond b (listed (with_entries s' r.gate (n + 1)) (entry_kept lists (entry_place r.gate n) body) Taken) (listed s' lists (Refused NinthEntry)))
      by_room true n = (refl, refl, remade (gate_row r.gate) (omega arith) (omega arith) (λ u. row_with u 6 (n + 1)))
      by_room false n = (refl, refl, o)

  -- ---- start

  stray_both : (i : ℕ) → stray_of s i ≡ stray_of s' i
  stray_both i = ap (λ (u : List ℕ). not (is_set (word u 0)) && ltb 0 (min (word u 6) entry_count)) (gate_row_lem i)

  groupless_both : (i : ℕ) → groupless_of s i ≡ groupless_of s' i
  groupless_both i =
      ap (λ (t : Bool). t && not (group s (scheduler_group s i)).set) ((o (scheduler_row i)).set (omega arith))
      ∙ ap (λ (j : ℕ). scheduler_is_set s' i && not (group s j).set) ((o (scheduler_row i)).named (omega arith))
      ∙ ap (λ (t : Bool). scheduler_is_set s' i && not t) (group_set_both (scheduler_group s' i))

  incomplete_both : (miss : Found) → incomplete_of s miss ≡ incomplete_of s' miss
  incomplete_both miss =
      ap (λ (test : ℕ → Bool). is_found miss || some_of test gate_count || some_of (groupless_of s) scheduler_count) (fun_ext stray_both)
      ∙ ap (λ (test : ℕ → Bool). is_found miss || some_of (stray_of s') gate_count || some_of test scheduler_count) (fun_ext groupless_both)

  -- both runs take the start, or neither
  pub start_together : (r : StartRecord) (miss hit hit' : Found) → 1 ≤ r.classes → is_set (component s).classes ≡ false
      → is_set (component (start_of s r miss hit).bank).classes ≡ is_set (component (start_of s' r miss hit').bank).classes
      → Together g (start_of s r miss hit) (start_of s' r miss hit')
  unfolding start_of refused_if
  start_together r miss hit hit' some before e =
      subst (λ (t : Bool). is_set (component (start_of s r miss hit).bank).classes ≡ is_set (component (refused_if t Missing s' (refused_if (is_found hit') BurstTooSmall s' (told (with_classes s' r.classes) Taken))).bank).classes
      → Together g (start_of s r miss hit) (refused_if t Missing s' (refused_if (is_found hit') BurstTooSmall s' (told (with_classes s' r.classes) Taken))))
      (incomplete_both miss) (by_tests (incomplete_of s miss) (is_found hit) (is_found hit')) e
    where
      before' : is_set (component s').classes ≡ false
      before' = sym (ap (λ (u : List ℕ). is_set (word u 0)) component_row_lem) ∙ before

      after_start : (t : Rows) → is_set (component (with_classes t r.classes)).classes ≡ true
      after_start t = ap (λ (u : List ℕ). is_set (word u 0)) (row_same t component_row _) ∙ ap not (ne_eqb r.classes 0 (omega (arith, some)))

      by_tests : (a b b' : Bool)
          → is_set (component (refused_if a Missing s (refused_if b BurstTooSmall s (told (with_classes s r.classes) Taken))).bank).classes ≡ is_set (component (refused_if a Missing s' (refused_if b' BurstTooSmall s' (told (with_classes s' r.classes) Taken))).bank).classes
          → Together g (refused_if a Missing s (refused_if b BurstTooSmall s (told (with_classes s r.classes) Taken))) (refused_if a Missing s' (refused_if b' BurstTooSmall s' (told (with_classes s' r.classes) Taken)))
      by_tests true b b' e = stop _
      by_tests false true true e = stop _
      by_tests false false false e = record { verdicts = refl; banks = renewed (λ u. row_with u 0 r.classes) }
      by_tests false true false e = absurd (true≢false (sym (after_start s') ∙ sym e ∙ before))
      by_tests false false true e = absurd (true≢false (sym (after_start s) ∙ e ∙ before'))
