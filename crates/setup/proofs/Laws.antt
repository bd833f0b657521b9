-- What holds of every record taken here: a refusal leaves all as it was, a record that is taken changes only the rows it names, and a
-- clear moves just its flag.
use Rattle.std.specs.Prelude.{ℕ, ◌+◌, ◌*◌, ◌%◌, ◌<◌, Bool, true, cond, List, ◌≢◌, ◌≡◌, refl, ltb, length, get_or}
use Rattle.std.proofs.Math.Bool.{false, not}
use Rattle.std.proofs.Common.{sym, ◌∙◌, zero-add, arith, ext_get_or}
use Rattle.std.proofs.Math.Path.{ap}
use Rattle.sizes.specs.Meaning.{gate_count, entry_count, entry_octets, list_octets, lists_octets}
use Rattle.record.specs.declared.PortRecord.{PortRecord}
use Rattle.record.specs.declared.GateRecord.{GateRecord}
use Rattle.record.specs.declared.GateEntryRecord.{GateEntryRecord}
use Rattle.record.specs.declared.MeterRecord.{MeterRecord}
use Rattle.record.specs.declared.GroupRecord.{GroupRecord}
use Rattle.record.specs.declared.SchedulerRecord.{SchedulerRecord}
use Rattle.record.specs.declared.StartRecord.{StartRecord}
use Rattle.record.specs.declared.ClearRecord.{ClearRecord}
use Rattle.record.specs.declared.Refusal.{Refusal}
use Rattle.record.specs.declared.Refusal.TheVariants.{NinthEntry}
use Rattle.bank.specs.Meaning.{Rows, load, component_row, port_row, counters_row, gate_row, gate_state_row, meter_row, meter_state_row, group_row, scheduler_row, counters, gate, gate_is_set, entries, meter, meter_is_set}
use Rattle.bank.proofs.Rows.{row_other}
use Rattle.bank.proofs.Store.{load_same, load_apart, get_d_load}
use Rattle.bank.proofs.Laws.{oversize_same, gate_state_same, meter_state_same}
use Rattle.filter.specs.declared.Filter.{Filter}
use Rattle.filter.specs.Meaning.{Found, counts_of}
use Rattle.verdict.specs.Meaning.{Refused, Taken, Told, told}
use Rattle.setup.specs.Meaning.{Listed, listed, refused_if, set_port_of, set_gate_of, add_entry_of, entry_body_of, entry_place, set_meter_of, set_group_of, set_scheduler_of, start_of, with_flags, red_low, clear_oversize_of, clear_invalid_receive_of, clear_octets_of, clear_red_of, clear_of}
use Rattle.setup.proofs.Cases.{if_goes_on, refused_by, entry_taken, clear_by_lem}

-- ---- a refusal leaves the rows as they were

abbrev pub Keeps : Rows → Told → Type 0
Keeps s t = (why : Refusal) → t.verdict ≡ Refused why → t.bank ≡ s

no_refusal : (why : Refusal) → Taken ≡ Refused why → ⊥
no_refusal why e = let z : ◌≡◌ {A = ℕ} 0 1 = cc in omega arith

taken_keeps : (s s' : Rows) → Keeps s (told s' Taken)
taken_keeps s s' why e = absurd (no_refusal why e)

refusal_keeps : (b : Bool) (why : Refusal) (s : Rows) (t : Told) → Keeps s t → Keeps s (refused_if b why s t)
refusal_keeps b why s t h = refused_by (Keeps s) b why s t (λ _ _. refl) h

module _ (s : Rows) where
  pub port_keeps : (r : PortRecord) → Keeps s (set_port_of s r)
  unfolding set_port_of
  port_keeps r = refusal_keeps _ _ s _ (taken_keeps s _)

  pub gate_keeps : (r : GateRecord) → Keeps s (set_gate_of s r)
  unfolding set_gate_of
  gate_keeps r = refusal_keeps _ _ s _ (taken_keeps s _)

  pub meter_keeps : (r : MeterRecord) → Keeps s (set_meter_of s r)
  unfolding set_meter_of
  meter_keeps r = refusal_keeps _ _ s _ (taken_keeps s _)

  pub group_keeps : (r : GroupRecord) → Keeps s (set_group_of s r)
  unfolding set_group_of
  group_keeps r = refusal_keeps _ _ s _ (taken_keeps s _)

  pub scheduler_keeps : (r : SchedulerRecord) → Keeps s (set_scheduler_of s r)
  unfolding set_scheduler_of
  scheduler_keeps r = refusal_keeps _ _ s _ (taken_keeps s _)

  pub start_keeps : (r : StartRecord) (missing exceeding : Found) → Keeps s (start_of s r missing exceeding)
  unfolding start_of
  start_keeps r missing exceeding = refusal_keeps _ _ s _ (refusal_keeps _ _ s _ (taken_keeps s _))

  oversize_keeps : (i : ℕ) (row : Filter) → Keeps s (clear_oversize_of s i row)
  unfolding clear_oversize_of
  oversize_keeps i row = refusal_keeps _ _ s _ (taken_keeps s _)

  invalid_receive_keeps : (i : ℕ) → Keeps s (clear_invalid_receive_of s i)
  unfolding clear_invalid_receive_of
  invalid_receive_keeps i = refusal_keeps _ _ s _ (taken_keeps s _)

  octets_keeps : (i : ℕ) → Keeps s (clear_octets_of s i)
  unfolding clear_octets_of
  octets_keeps i = refusal_keeps _ _ s _ (taken_keeps s _)

  red_keeps : (i : ℕ) → Keeps s (clear_red_of s i)
  unfolding clear_red_of
  red_keeps i = refusal_keeps _ _ s _ (taken_keeps s _)

  pub clear_keeps : (r : ClearRecord) (row : Filter) → Keeps s (clear_of s r row)
  clear_keeps r row = clear_by_lem (Keeps s) s r row (λ _. oversize_keeps r.id row) (λ _. invalid_receive_keeps r.id) (λ _. octets_keeps r.id) (λ _. red_keeps r.id) (λ _ _. refl)

-- the octets of the lists stay, too
pub entry_keeps : (s : Rows) (lists body : List ℕ) (r : GateEntryRecord) (why : Refusal) → (add_entry_of s lists body r).verdict ≡ Refused why
    → add_entry_of s lists body r ≡ listed s lists (Refused why)
unfolding add_entry_of
entry_keeps s lists body r why = by_room (ltb (entries s r.gate) entry_count) _ _
  where
    by_room : (b : Bool) (s' : Rows) (lists' : List ℕ) → (cond b (listed s' lists' Taken) (listed s lists (Refused NinthEntry))).verdict ≡ Refused why
        → cond b (listed s' lists' Taken) (listed s lists (Refused NinthEntry)) ≡ listed s lists (Refused why)
    by_room true s' lists' e = absurd (no_refusal why e)
    by_room false s' lists' e = ap (listed s lists) e

-- ---- every row that the record doesn't name is as it was

refusal_other : (b : Bool) (why : Refusal) (s : Rows) (t : Told) (q : ℕ) → t.bank q ≡ s q → (refused_if b why s t).bank q ≡ s q
refusal_other b why s t q h = refused_by (λ t. t.bank q ≡ s q) b why s t refl h

module _ (s : Rows) (q : ℕ) where
  pub port_other : (r : PortRecord) → q ≢ component_row → q ≢ port_row r.port → (set_port_of s r).bank q ≡ s q
  unfolding set_port_of
  port_other r h k = refusal_other _ _ s _ q (row_other _ _ _ q k ∙ row_other _ _ _ q h)

  pub gate_other : (r : GateRecord) → q ≢ gate_row r.id → (set_gate_of s r).bank q ≡ s q
  unfolding set_gate_of
  gate_other r h = refusal_other _ _ s _ q (row_other _ _ _ q h)

  pub meter_other : (r : MeterRecord) → q ≢ meter_row r.id → q ≢ meter_state_row r.id → (set_meter_of s r).bank q ≡ s q
  unfolding set_meter_of
  meter_other r h k = refusal_other _ _ s _ q (row_other _ _ _ q k ∙ row_other _ _ _ q h)

  pub group_other : (r : GroupRecord) → q ≢ group_row r.id → (set_group_of s r).bank q ≡ s q
  unfolding set_group_of
  group_other r h = refusal_other _ _ s _ q (row_other _ _ _ q h)

  pub scheduler_other : (r : SchedulerRecord) → q ≢ scheduler_row r.id → (set_scheduler_of s r).bank q ≡ s q
  unfolding set_scheduler_of
  scheduler_other r h = refusal_other _ _ s _ q (row_other _ _ _ q h)

  pub start_other : (r : StartRecord) (missing exceeding : Found) → q ≢ component_row → (start_of s r missing exceeding).bank q ≡ s q
  unfolding start_of
  start_other r missing exceeding h = refusal_other _ _ s _ q (refusal_other _ _ s _ q (row_other _ _ _ q h))

  oversize_other : (i : ℕ) (row : Filter) → q ≢ counters_row i → (clear_oversize_of s i row).bank q ≡ s q
  unfolding clear_oversize_of
  oversize_other i row h = refusal_other _ _ s _ q (row_other _ _ _ q h)

  invalid_receive_other : (i : ℕ) → q ≢ gate_state_row i → (clear_invalid_receive_of s i).bank q ≡ s q
  unfolding clear_invalid_receive_of
  invalid_receive_other i h = refusal_other _ _ s _ q (row_other _ _ _ q h)

  octets_other : (i : ℕ) → q ≢ gate_state_row i → (clear_octets_of s i).bank q ≡ s q
  unfolding clear_octets_of
  octets_other i h = refusal_other _ _ s _ q (row_other _ _ _ q h)

  red_other : (i : ℕ) → q ≢ meter_state_row i → (clear_red_of s i).bank q ≡ s q
  unfolding clear_red_of
  red_other i h = refusal_other _ _ s _ q (row_other _ _ _ q h)

  pub clear_other : (r : ClearRecord) (row : Filter) → q ≢ counters_row r.id → q ≢ gate_state_row r.id → q ≢ meter_state_row r.id → (clear_of s r row).bank q ≡ s q
  clear_other r row h k l =
      clear_by_lem (λ t. t.bank q ≡ s q) s r row (λ _. oversize_other r.id row h) (λ _. invalid_receive_other r.id k) (λ _. octets_other r.id k) (λ _. red_other r.id l) refl

-- ---- a clear that is taken moves its flag and nothing else of that filter, gate or meter

module _ (s : Rows) (i : ℕ) where
  pub oversize_clears : (row : Filter) → counts_of s row ≡ true → (counters (clear_oversize_of s i row).bank i).oversize ≡ false
  unfolding clear_oversize_of
  oversize_clears row e = ap (λ (t : Told). (counters t.bank i).oversize) (if_goes_on _ _ _ _ (ap not e)) ∙ oversize_same s i false

  module _ (e : gate_is_set s i ≡ true) where
    pub invalid_receive_clears : gate (clear_invalid_receive_of s i).bank i ≡ with_flags (gate s i) false (gate s i).octets_flag
    unfolding clear_invalid_receive_of
    invalid_receive_clears = ap (λ (t : Told). gate t.bank i) (if_goes_on _ _ _ _ (ap not e)) ∙ gate_state_same s i (with_flags (gate s i) false (gate s i).octets_flag)

    pub octets_clears : gate (clear_octets_of s i).bank i ≡ with_flags (gate s i) (gate s i).invalid_receive_flag false
    unfolding clear_octets_of
    octets_clears = ap (λ (t : Told). gate t.bank i) (if_goes_on _ _ _ _ (ap not e)) ∙ gate_state_same s i (with_flags (gate s i) (gate s i).invalid_receive_flag false)

  pub red_clears : meter_is_set s i ≡ true → meter (clear_red_of s i).bank i ≡ red_low (meter s i)
  unfolding clear_red_of
  red_clears e = ap (λ (t : Told). meter t.bank i) (if_goes_on _ _ _ _ (ap not e)) ∙ meter_state_same s i (red_low (meter s i))

-- ---- an entry that is taken: its body stands behind the entries before it, and the list of every other gate is as it was

-- of a body that has an entry's octets, all are kept
pub body_whole : (body : List ℕ) → length body ≡ entry_octets → entry_body_of body ≡ body
body_whole body e = ext_get_or 0 (entry_body_of body) body (sym e) (λ i h. get_d_load body 0 0 entry_octets i h ∙ ap (λ (k : ℕ). get_or body k 0) (zero-add (0 + i) ∙ zero-add i))

module _ (s : Rows) (lists body : List ℕ) (r : GateEntryRecord) (room : entries s r.gate < entry_count) where
  pub entry_body : length lists ≡ lists_octets → load (add_entry_of s lists body r).lists (entry_place r.gate (entries s r.gate)) 0 entry_octets ≡ entry_body_of body
  entry_body whole =
      ap (λ (t : Listed). load t.lists (entry_place r.gate (entries s r.gate)) 0 entry_octets) (entry_taken s lists body r _ refl room)
      ∙ load_same lists (entry_place r.gate (entries s r.gate)) 0 (entry_body_of body) (omega arith)

  pub entry_other : (q : ℕ) → q ≢ gate_row r.gate → (add_entry_of s lists body r).bank q ≡ s q
  entry_other q h = ap (λ (t : Listed). t.bank q) (entry_taken s lists body r _ refl room) ∙ row_other _ _ _ q h

  pub entry_list_other : (i : ℕ) → i % gate_count ≢ r.gate % gate_count → load (add_entry_of s lists body r).lists (i % gate_count * list_octets) 0 list_octets ≡ load lists (i % gate_count * list_octets) 0 list_octets
  entry_list_other i h =
      ap (λ (t : Listed). load t.lists (i % gate_count * list_octets) 0 list_octets) (entry_taken s lists body r _ refl room)
      ∙ load_apart lists (entry_place r.gate (entries s r.gate)) (entry_body_of body) (i % gate_count * list_octets) list_octets (omega arith)

  pub entry_before : load (add_entry_of s lists body r).lists (r.gate % gate_count * list_octets) 0 (entries s r.gate * entry_octets) ≡ load lists (r.gate % gate_count * list_octets) 0 (entries s r.gate * entry_octets)
  entry_before =
      ap (λ (t : Listed). load t.lists (r.gate % gate_count * list_octets) 0 (entries s r.gate * entry_octets)) (entry_taken s lists body r _ refl room)
      ∙ load_apart lists (entry_place r.gate (entries s r.gate)) (entry_body_of body) (r.gate % gate_count * list_octets) (entries s r.gate * entry_octets) (omega arith)
