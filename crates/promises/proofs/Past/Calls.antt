-- A call keeps the agreement of the bridge with what is known: what it takes is noted, and a refusal adds nothing and changes nothing.
use Rattle.std.specs.Prelude.{ℕ, suc, ◌*◌, ◌<◌, Bool, true, false, cond, List, [], ◌∷◌, ◌++◌, map, ◌≡◌, ltb, length, drop, set, Ok}
use Rattle.std.proofs.Common.{append-nil, sym, ap, subst, ◌∙◌, arith, eq-eqb, ne_eqb, ltb-true, ltb-false, length-set, length-append, get_or-set_same, get_or-set_other}
use Rattle.std.proofs.Math.Option.{Option}
use Rattle.std.proofs.Math.Path.{refl}
use Rattle.std.proofs.Math.Decide.{ℕ_discrete}
use Rattle.sizes.specs.Meaning.{gate_count, entry_count, list_octets}
use Rattle.logic.specs.Laws.{by_test, if_by, contrary}
use Rattle.gate.specs.declared.Entry.{Entry}
use Rattle.gate.specs.Meaning.{entries_from}
use Rattle.record.specs.declared.Record.{Record}
use Rattle.record.specs.declared.PortRecord.{PortRecord}
use Rattle.record.specs.declared.FilterRecord.{FilterRecord}
use Rattle.record.specs.declared.GateRecord.{GateRecord}
use Rattle.record.specs.declared.GateEntryRecord.{GateEntryRecord}
use Rattle.record.specs.declared.MeterRecord.{MeterRecord}
use Rattle.record.specs.declared.GroupRecord.{GroupRecord}
use Rattle.record.specs.declared.SchedulerRecord.{SchedulerRecord}
use Rattle.record.specs.declared.StartRecord.{StartRecord}
use Rattle.record.specs.declared.ArrivalRecord.{ArrivalRecord}
use Rattle.record.specs.declared.ClearRecord.{ClearRecord}
use Rattle.record.specs.declared.Refusal.{Refusal}
use Rattle.record.specs.declared.Refusal.TheVariants.{SetUpAlready, Missing, BurstTooSmall}
use Rattle.record.specs.Meaning.{body_in, read_of}
use Rattle.record.proofs.Laws.{read_setup}
use Rattle.record.proofs.Sorts.{Setup}
use Rattle.record.proofs.Ranges.{read_ranges}
use Rattle.bank.specs.Meaning.{Rows, component_row, gate_row, port, gate_is_set, entries, meter_is_set, group, scheduler_is_set}
use Rattle.filter.specs.Meaning.{no_row, is_filter_of, row_of, is_found, no_key}
use Rattle.verdict.specs.Meaning.{Verdict}
use Rattle.verdict.specs.Meaning.{Refused, Taken, Passed, Dropped}
use Rattle.verdict.specs.Meaning.{Told, told}
use Rattle.setup.specs.Meaning.{Listed, refused_if, set_port_of, set_gate_of, add_entry_of, set_meter_of, set_group_of, set_scheduler_of, start_of, clear_of, incomplete_of}
use Rattle.setup.proofs.Cases.{entry_taken, entry_ninth}
use Rattle.stage.specs.Meaning.{Bridge, Took, bridge, took, answered, refused_of, bank_took, lists_took, filter_of, key_of, first_row, started_of, taken_of, take_of}
use Rattle.path.specs.Meaning.{arrival_of}
use Rattle.promises.specs.Meaning.{Call, reading_of, event_of}
use Rattle.promises.proofs.Ways.{Called, unread, read, called_way}
use Rattle.promises.proofs.Refusals.Keeps.{answered_verdict}
use Rattle.promises.specs.Past.Meaning.{Past, record_added, added_by, entry_of, Known, known_of, started_in}
use Rattle.promises.proofs.Past.Grows.{noted, noted_by, known_added}
use Rattle.promises.proofs.Past.Entries.{map_more}
use Rattle.promises.proofs.Past.Agrees.{InRange, FilterSaid, Agrees, BankSaid}
use Rattle.promises.proofs.Past.Filters.{filter_ranged}
use Rattle.promises.proofs.Past.Lists.{lists_whole, other_list, own_list}
use Rattle.promises.proofs.Past.Setups.{own_record, other_record, port_said, gate_said, entry_said, meter_said_lem, group_said, scheduler_said, start_said}
use Rattle.promises.proofs.Past.Frames.{arrived_said, cleared_said}
use Rattle.promises.proofs.Past.Words.{entry_count_lem}
use Rattle.promises.proofs.Past.Tests.{start_sound}
use Rattle.record.specs.declared.Record.TheVariants as kind
use Rattle.filter.specs.Meaning as asks

-- by whether the test of a refusal holds
refusal_cases : (P : Told → Type 0) (t : Bool) (why : Refusal) (s : Rows) (x : Told) → P (told s (Refused why)) → (t ≡ false → P x) → P (refused_if t why s x)
unfolding refused_if
refusal_cases P true why s x h f = h
refusal_cases P false why s x h f = f refl

module _ (k : Known) (b : Bridge) (a : Agrees k b) where
  abbrev s : Rows
  s = b.bank

  -- the bridge agrees after a record that was read, whatever the verdict
  abbrev After : Record → Took → Type 0
  After r o = Agrees (noted_by o.answer.verdict k r) o.after

  abbrev ToldAfter : Record → Told → Type 0
  ToldAfter r t = Agrees (noted_by t.verdict k r) (bridge b.table t.bank b.lists)

  banked : (r : Record) (used : ℕ) (t : Told) → ToldAfter r t → After r (bank_took b used t)
  banked r used t h = rw (answered_verdict used t.verdict) h

  -- ---- before a start

  module _ (early : started_in k ≡ false) where
    -- a record that sets up an object of the bank leaves the filters and the lists
    set_agrees : (k' : Known) → k'.filter ≡ k.filter → k'.entries ≡ k.entries → started_in k' ≡ started_in k → (s' : Rows) → BankSaid k' s' → Agrees k' (bridge b.table s' b.lists)
    set_agrees k' filters entries starts s' said = record {
      places = a.places;
      octets = a.octets;
      bank = said;
      filters = λ i. subst (λ (f : ℕ → Option FilterRecord). FilterSaid (f i) (row_of b.table i)) (sym filters) (a.filters i);
      lists = λ i h. subst (λ (es : ℕ → List GateEntryRecord). entries_from (drop (i * list_octets) b.lists) 0 (length (es i)) ≡ map entry_of (es i)) (sym entries) (a.lists i h);
      complete = λ e. contrary _ e (starts ∙ early);
    }

    module _ (used : ℕ) where
      port_after : (x : PortRecord) → InRange (kind.Port x) → After (kind.Port x) (bank_took b used (set_port_of s x))
      unfolding set_port_of
      port_after x ranged =
          banked (kind.Port x) used (set_port_of s x)
          (refusal_cases (ToldAfter (kind.Port x)) (port s x.port).set SetUpAlready s _ a
          (λ free. set_agrees (noted k (kind.Port x)) refl refl refl _ (port_said k s a.bank x ranged free _)))

      gate_after_lem : (x : GateRecord) → InRange (kind.Gate x) → After (kind.Gate x) (bank_took b used (set_gate_of s x))
      unfolding set_gate_of
      gate_after_lem x ranged =
          banked (kind.Gate x) used (set_gate_of s x)
          (refusal_cases (ToldAfter (kind.Gate x)) (gate_is_set s x.id) SetUpAlready s _ a
          (λ free. set_agrees (noted k (kind.Gate x)) refl refl refl _ (gate_said k s a.bank x ranged)))

      meter_after : (x : MeterRecord) → InRange (kind.Meter x) → After (kind.Meter x) (bank_took b used (set_meter_of s x))
      unfolding set_meter_of
      meter_after x ranged =
          banked (kind.Meter x) used (set_meter_of s x)
          (refusal_cases (ToldAfter (kind.Meter x)) (meter_is_set s x.id) SetUpAlready s _ a
          (λ free. set_agrees (noted k (kind.Meter x)) refl refl refl _ (meter_said_lem k s a.bank x ranged)))

      group_after_lem : (x : GroupRecord) → InRange (kind.Group x) → After (kind.Group x) (bank_took b used (set_group_of s x))
      unfolding set_group_of
      group_after_lem x ranged =
          banked (kind.Group x) used (set_group_of s x)
          (refusal_cases (ToldAfter (kind.Group x)) (group s x.id).set SetUpAlready s _ a
          (λ free. set_agrees (noted k (kind.Group x)) refl refl refl _ (group_said k s a.bank x ranged)))

      scheduler_after : (x : SchedulerRecord) → InRange (kind.Scheduler x) → After (kind.Scheduler x) (bank_took b used (set_scheduler_of s x))
      unfolding set_scheduler_of
      scheduler_after x ranged =
          banked (kind.Scheduler x) used (set_scheduler_of s x)
          (refusal_cases (ToldAfter (kind.Scheduler x)) (scheduler_is_set s x.id) SetUpAlready s _ a
          (λ free. set_agrees (noted k (kind.Scheduler x)) refl refl refl _ (scheduler_said k s a.bank x ranged)))

      start_after : (x : StartRecord) → InRange (kind.Start x) → After (kind.Start x) (bank_took b used (start_of s x (first_row b asks.Missing no_key) (first_row b asks.ExceedsBurst no_key)))
      unfolding start_of
      start_after x ranged =
          banked (kind.Start x) used (start_of s x (first_row b asks.Missing no_key) (first_row b asks.ExceedsBurst no_key))
          (refusal_cases (ToldAfter (kind.Start x)) (incomplete_of s (first_row b asks.Missing no_key)) Missing s _ a
          (λ whole. refusal_cases (ToldAfter (kind.Start x)) (is_found (first_row b asks.ExceedsBurst no_key)) BurstTooSmall s _ a
          (λ small. record { places = a.places; octets = a.octets; bank = start_said k s a.bank x ranged; filters = a.filters; lists = a.lists; complete = λ e. start_sound k b a.bank a.filters whole small })))

      -- a filter's record goes to its place
      filter_after : (x : FilterRecord) → InRange (kind.Filter x) → After (kind.Filter x) (cond (is_filter_of (row_of b.table x.id)) (refused_of b SetUpAlready) (took (set b.table x.id (filter_of x)) s b.lists (answered used Taken)))
      filter_after x ranged =
          if_by (After (kind.Filter x)) (is_filter_of (row_of b.table x.id)) _ _ (λ e. a)
          (λ e. record {
            places = length-set b.table x.id (filter_of x) ∙ a.places;
            octets = a.octets;
            bank = λ q. let h = a.bank q in record { stage = h.stage; ports = h.ports; gates = h.gates; meters = h.meters; meter_states = h.meter_states; groups = h.groups; schedulers = h.schedulers };
            filters = λ i. by_place i (ℕ_discrete i x.id);
            lists = a.lists;
            complete = λ e. contrary _ e early;
          })
        where
          by_place : (i : ℕ) → Dec (i ≡ x.id) → FilterSaid ((noted k (kind.Filter x)).filter i) (row_of (set b.table x.id (filter_of x)) i)
          by_place i (yes e) =
              rw (own_record x (k.filter i) x.id i (sym e))
              (record { is = ap (row_of (set b.table x.id (filter_of x))) e ∙ get_or-set_same b.table x.id (filter_of x) no_row (omega (arith, a.places, ranged.ranges)); filters = filter_ranged x ranged })
          by_place i (no n) =
              rw (other_record x (k.filter i) x.id i (λ e. n (sym e)))
              (let h = a.filters i in record { is = get_or-set_other b.table x.id i (filter_of x) no_row n ∙ h.is; filters = h.filters })

      -- an entry goes behind those of its gate
      module _ (c : Call) (x : GateEntryRecord) (said : read_of c (started_of s) ≡ Ok (kind.GateEntry x, used)) where
        entry_ranged : InRange (kind.GateEntry x)
        entry_ranged = record { used = used; ranges = read_ranges c (started_of s) (kind.GateEntry x) used said }

        abbrev ListedAfter : Listed → Type 0
        ListedAfter t = Agrees (noted_by t.verdict k (kind.GateEntry x)) (bridge b.table t.bank t.lists)

        entry_lists : (room : entries s x.gate < entry_count) (i : ℕ) → i < gate_count
            → let es = (noted k (kind.GateEntry x)).entries i in
            entries_from (drop (i * list_octets) (add_entry_of s b.lists (body_in c used) x).lists) 0 (length es) ≡ map entry_of es
        entry_lists room i h = by_gate (ℕ_discrete x.gate i)
          where
            by_gate : Dec (x.gate ≡ i) → let es = (noted k (kind.GateEntry x)).entries i in entries_from (drop (i * list_octets) (add_entry_of s b.lists (body_in c used) x).lists) 0 (length es) ≡ map entry_of es
            by_gate (yes e) =
                let count : entries s x.gate ≡ length (k.entries i) = ap (entries s) e ∙ entry_count_lem k s a.bank i h in
                let more : length (k.entries i ++ (x ∷ [])) ≡ suc (entries s x.gate) = omega (arith, count, length-append (k.entries i) (x ∷ [])) in
                let own : entries_from (drop (i * list_octets) (add_entry_of s b.lists (body_in c used) x).lists) 0 (suc (entries s x.gate)) ≡ entries_from (drop (i * list_octets) b.lists) 0 (entries s x.gate) ++ (entry_of x ∷ [])
                = subst (λ (g : ℕ). entries_from (drop (g * list_octets) (add_entry_of s b.lists (body_in c used) x).lists) 0 (suc (entries s x.gate)) ≡ entries_from (drop (g * list_octets) b.lists) 0 (entries s x.gate) ++ (entry_of x ∷ [])) e
                (own_list s b.lists (body_in c used) x a.octets entry_ranged room c (started_of s) used refl said) in
                let before : entries_from (drop (i * list_octets) b.lists) 0 (entries s x.gate) ≡ map entry_of (k.entries i) = ap (entries_from (drop (i * list_octets) b.lists) 0) count ∙ a.lists i h in
                rw (eq-eqb x.gate i e, more) (own ∙ ap (λ (l : List Entry). l ++ (entry_of x ∷ [])) before ∙ sym (map_more entry_of (k.entries i) x))
            by_gate (no n) =
                rw (ne_eqb x.gate i n) (other_list s b.lists (body_in c used) x a.octets entry_ranged room i (length (k.entries i)) h ((a.bank (gate_row i)).gates i h refl).room n ∙ a.lists i h)

        entry_after : After (kind.GateEntry x) (lists_took b used (add_entry_of s b.lists (body_in c used) x))
        entry_after = rw (answered_verdict used (add_entry_of s b.lists (body_in c used) x).verdict) (by_test (ltb (entries s x.gate) entry_count) (λ t. taken (ltb-true _ _ t)) (λ t. rw (entry_ninth s b.lists (body_in c used) x _ refl (ltb-false _ _ t)) a))
          where
            taken : entries s x.gate < entry_count → ListedAfter (add_entry_of s b.lists (body_in c used) x)
            taken room =
                let is = entry_taken s b.lists (body_in c used) x _ refl room in
                subst ListedAfter (sym is)
                (record {
                  places = a.places;
                  octets = ap (λ (t : Listed). length t.lists) (sym is) ∙ lists_whole s b.lists (body_in c used) x a.octets entry_ranged room;
                  bank = entry_said k s a.bank x entry_ranged room;
                  filters = a.filters;
                  lists = λ i h. ap (λ (t : Listed). entries_from (drop (i * list_octets) t.lists) 0 (length ((noted k (kind.GateEntry x)).entries i))) (sym is) ∙ entry_lists room i h;
                  complete = λ e. contrary _ e early;
                })

  -- ---- after it

  -- an arrival leaves all but the bank, and of what is known all but the last arrival
  still : (s' : Rows) → BankSaid k s' → Agrees k (bridge b.table s' b.lists)
  still s' said = record { places = a.places; octets = a.octets; bank = said; filters = a.filters; lists = a.lists; complete = a.complete }

  moved : (x : ArrivalRecord) (s' : Rows) → BankSaid (noted k (kind.Arrival x)) s' → Agrees (noted k (kind.Arrival x)) (bridge b.table s' b.lists)
  moved x s' said = record { places = a.places; octets = a.octets; bank = said; filters = a.filters; lists = a.lists; complete = a.complete }

  arrival_after : (x : ArrivalRecord) (v : Verdict) (s' : Rows) → BankSaid (noted_by v k (kind.Arrival x)) s' → Agrees (noted_by v k (kind.Arrival x)) (bridge b.table s' b.lists)
  arrival_after x (Refused why) = still
  arrival_after x Taken = moved x
  arrival_after x (Passed p) = moved x
  arrival_after x (Dropped d) = moved x

  -- a clear is noted, and says nothing of what is kept
  clear_noted : (x : ClearRecord) (v : Verdict) → noted_by v k (kind.Clear x) ≡ k
  clear_noted x (Refused why) = refl
  clear_noted x Taken = refl
  clear_noted x (Passed p) = refl
  clear_noted x (Dropped d) = refl

  clear_after : (x : ClearRecord) (v : Verdict) (s' : Rows) → BankSaid k s' → Agrees (noted_by v k (kind.Clear x)) (bridge b.table s' b.lists)
  clear_after x v s' said = rw (clear_noted x v) (still s' said)

  -- ---- a record that is read, and a call

  module _ (c : Call) where
    record_after : (r : Record) (used : ℕ) → (Setup r → started_in k ≡ false) → read_of c (started_of s) ≡ Ok (r, used) → InRange r → After r (taken_of b c r used)
    unfolding taken_of
    record_after (kind.Port x) used early said ranged = port_after (early refl) used x ranged
    record_after (kind.Filter x) used early said ranged = filter_after (early refl) used x ranged
    record_after (kind.Gate x) used early said ranged = gate_after_lem (early refl) used x ranged
    record_after (kind.GateEntry x) used early said ranged = entry_after (early refl) used c x said
    record_after (kind.Meter x) used early said ranged = meter_after (early refl) used x ranged
    record_after (kind.Group x) used early said ranged = group_after_lem (early refl) used x ranged
    record_after (kind.Scheduler x) used early said ranged = scheduler_after (early refl) used x ranged
    record_after (kind.Start x) used early said ranged = start_after (early refl) used x ranged
    record_after (kind.Arrival x) used early said ranged =
        let t = arrival_of s b.lists x (first_row b asks.Fits (key_of x)) in
        banked (kind.Arrival x) used t (arrival_after x t.verdict t.bank (arrived_said k s a.bank x b.lists (first_row b asks.Fits (key_of x))))
    record_after (kind.Clear x) used early said ranged =
        let t = clear_of s x (row_of b.table x.id) in
        banked (kind.Clear x) used t (clear_after x t.verdict t.bank (cleared_said k s a.bank x (row_of b.table x.id)))

-- what is known after a call
abbrev pub NotedAfter : Past → Bridge → Call → Took → Type 0
NotedAfter past b c o = Agrees (known_of (past ++ record_added o.answer.verdict (reading_of b c))) o.after

module _ (past : Past) (b : Bridge) (a : Agrees (known_of past) b) (c : Call) where
  called_after : (o : Took) → Called b c o → NotedAfter past b c o
  called_after o (unread why) = rw (append-nil past) a
  called_after o (read r used full said) =
      let early : Setup r → started_in (known_of past) ≡ false = λ h. sym ((a.bank component_row).stage refl).starts ∙ read_setup c (started_of b.bank) r used said h in
      let after = record_after (known_of past) b a c r used early said (record { used = used; ranges = read_ranges c (started_of b.bank) r used said }) in
      rw said (rw (known_added past (taken_of b c r used).answer.verdict r used) after)

  -- a call adds what it took to the past, and the bridge agrees with it
  pub call_agrees : Agrees (known_of (past ++ added_by (event_of b c))) (take_of b c).after
  call_agrees = called_after (take_of b c) (called_way b c)
