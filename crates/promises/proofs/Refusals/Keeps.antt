-- Demand 1: each refusal number is given exactly when document 01's table says, in its order; a refusal uses nothing and changes nothing; a
-- record that is taken uses its whole length.
use Rattle.std.specs.Prelude.{ℕ, Bool, true, false, cond, List, ◌∷◌, ◌≡◌, refl, get_or, Ok}
use Rattle.std.proofs.Math.Option.{some}
use Rattle.std.proofs.Common.{sym, ap, ◌∙◌, arith}
use Rattle.record.specs.declared.Record.{Record}
use Rattle.record.specs.declared.ArrivalRecord.{ArrivalRecord}
use Rattle.record.specs.declared.GateEntryRecord.{GateEntryRecord}
use Rattle.record.specs.declared.Refusal.{Refusal}
use Rattle.record.specs.declared.Refusal.TheVariants.{SetUpAlready}
use Rattle.record.specs.declared.Kind.{Kind}
use Rattle.record.specs.Meaning.{body_in, kind_of, record_length}
use Rattle.record.proofs.Laws.{read_says}
use Rattle.bank.specs.Meaning.{Rows}
use Rattle.filter.specs.declared.Filter.{Filter}
use Rattle.filter.specs.Meaning.{Found}
use Rattle.filter.specs.Meaning.{is_filter_of, row_of}
use Rattle.verdict.specs.declared.Drop.{Drop}
use Rattle.verdict.specs.declared.Pass.{Pass}
use Rattle.verdict.specs.Meaning.{Verdict}
use Rattle.verdict.specs.Meaning.{Refused, Taken, Passed, Dropped}
use Rattle.verdict.specs.Meaning.{Told}
use Rattle.setup.specs.Meaning.{Listed, add_entry_of, listed as listedTold}
use Rattle.setup.proofs.Laws.{Keeps, port_keeps, gate_keeps, entry_keeps, meter_keeps, group_keeps, scheduler_keeps, start_keeps, clear_keeps}
use Rattle.stage.specs.Meaning.{Bridge, Took, took, answered, refused_of, bank_took, lists_took, taken_of, started_of, take_of}
use Rattle.promises.specs.Meaning.{Call, run_of, reading_of}
use Rattle.promises.proofs.Ways.{frame_along, arrived_along, Called, unread, read, called_way}
use Rattle.promises.specs.Refusals.Meaning.{refusal_in}
use Rattle.path.specs.Meaning.{sdu_filtered_of, arrival_of}
use Rattle.run.specs.Input.Meaning.{NoRefusal}
use Rattle.record.specs.declared.Record.TheVariants as kind

-- ---- a frame that is taken passes or is dropped

pub data Framed : Verdict → Type 0 where
  passed : (p : Pass) → Framed (Passed p)
  dropped : (d : Drop) → Framed (Dropped d)

-- nothing has to be known of the bank
abbrev Any : Rows → Type 0
Any s = s ≡ s

pub frame_framed : (s : Rows) (lists : List ℕ) (a : ArrivalRecord) (f : ℕ) (row : Filter) → Framed (sdu_filtered_of s lists a f row).verdict
frame_framed s lists a f row =
    frame_along lists a f row Any Any Any (λ t. Framed t.verdict)
    (record {
      stopped = λ s h. dropped _;
      oversize = λ s set h. dropped _;
      fits = λ s h. refl;
      gates = λ s h. refl;
      shut = λ s d k h. dropped d;
      opens = λ s h. refl;
      meters = λ s e h. refl;
      exceeds = λ s d k h. dropped d;
      passes = λ s p h. passed p;
      admits = λ s i j at x p h. passed p;
      late = λ s h. dropped _;
    })
    s refl

never_refused : (v : Verdict) (why : Refusal) → Framed v → v ≡ Refused why → ⊥
never_refused v why (passed p) e = let z : ◌≡◌ {A = ℕ} 0 1 = cc in omega arith
never_refused v why (dropped d) e = let z : ◌≡◌ {A = ℕ} 0 1 = cc in omega arith

pub framed_number : {v : Verdict} → Framed v → refusal_in v ≡ 0
framed_number (passed p) = refl
framed_number (dropped d) = refl

-- ---- a refusal changes nothing and uses nothing

pub answered_verdict : (used : ℕ) (v : Verdict) → (answered used v).verdict ≡ v
answered_verdict used (Refused why) = refl
answered_verdict used Taken = refl
answered_verdict used (Passed p) = refl
answered_verdict used (Dropped d) = refl

arrived_refused : (s : Rows) (lists : List ℕ) (a : ArrivalRecord) (found : Found) → Keeps s (arrival_of s lists a found)
arrived_refused s lists a found =
    arrived_along s lists a found (Keeps s)
    (record {
      back = λ e why h. refl;
      unmatched = λ e p n why h. absurd (never_refused _ why (passed p) h);
      matched = λ e f row n why h. absurd (never_refused _ why (frame_framed _ lists a f row) h);
    })

-- the ways to do a record, whatever octets it was read from: to the bank, to the bank and the lists, or to the table
pub data Done (b : Bridge) (used : ℕ) : Record → (Call → Took) → Type 0 where
  banks : {r : Record} (t : Told) → Keeps b.bank t → Done b used r (λ c. bank_took b used t)
  lists : (r : GateEntryRecord) → Done b used (kind.GateEntry r) (λ c. lists_took b used (add_entry_of b.bank b.lists (body_in c used) r))
  places : {r : Record} (full : Bool) (table : List Filter) → Done b used r (λ c. cond full (refused_of b SetUpAlready) (took table b.bank b.lists (answered used Taken)))

pub done_way : (b : Bridge) (r : Record) (used : ℕ) → Done b used r (λ c. taken_of b c r used)
unfolding taken_of
done_way b (kind.Port r) used = banks _ (port_keeps b.bank r)
done_way b (kind.Filter r) used = places (is_filter_of (row_of b.table r.id)) _
done_way b (kind.Gate r) used = banks _ (gate_keeps b.bank r)
done_way b (kind.GateEntry r) used = lists r
done_way b (kind.Meter r) used = banks _ (meter_keeps b.bank r)
done_way b (kind.Group r) used = banks _ (group_keeps b.bank r)
done_way b (kind.Scheduler r) used = banks _ (scheduler_keeps b.bank r)
done_way b (kind.Start r) used = banks _ (start_keeps b.bank r _ _)
done_way b (kind.Arrival a) used = banks _ (arrived_refused b.bank b.lists a _)
done_way b (kind.Clear r) used = banks _ (clear_keeps b.bank r _)

module _ (b : Bridge) (why : Refusal) where
  banked_keeps : (used : ℕ) (t : Told) → Keeps b.bank t → (bank_took b used t).answer.verdict ≡ Refused why → bank_took b used t ≡ refused_of b why
  banked_keeps used t keeps e =
      let v : t.verdict ≡ Refused why = sym (answered_verdict used t.verdict) ∙ e in
      ap (λ (s : Rows). took b.table s b.lists (answered used t.verdict)) (keeps why v) ∙ ap (λ (u : Verdict). took b.table b.bank b.lists (answered used u)) v

  listed_keeps : (used : ℕ) (t : Listed) → (t.verdict ≡ Refused why → t ≡ listedTold b.bank b.lists (Refused why)) → (lists_took b used t).answer.verdict ≡ Refused why → lists_took b used t ≡ refused_of b why
  listed_keeps used t keeps e = ap (lists_took b used) (keeps (sym (answered_verdict used t.verdict) ∙ e))

  placed_keeps : (full : Bool) (why' : Refusal) (t : Took) → t.answer.verdict ≡ Taken → (cond full (refused_of b why') t).answer.verdict ≡ Refused why → cond full (refused_of b why') t ≡ refused_of b why
  placed_keeps true why' t taken e = let w : why' ≡ why = cc in ap (refused_of b) w
  placed_keeps false why' t taken e = absurd (let z : ◌≡◌ {A = ℕ} 0 1 = cc in omega arith)

  done_keeps : (c : Call) (r : Record) (used : ℕ) (o : Call → Took) → Done b used r o → (o c).answer.verdict ≡ Refused why → o c ≡ refused_of b why
  done_keeps c r used o (banks t keeps) = banked_keeps used t keeps
  done_keeps c r used o (lists x) = listed_keeps used _ (entry_keeps b.bank b.lists (body_in c used) x why)
  done_keeps c r used o (places full t) = placed_keeps full SetUpAlready _ refl

  call_keeps : (c : Call) (o : Took) → Called b c o → o.answer.verdict ≡ Refused why → o ≡ refused_of b why
  call_keeps c o (unread w) e = let same : w ≡ why = cc in ap (refused_of b) same
  call_keeps c o (read r used full said) e = done_keeps c r used _ (done_way b r used) e

-- a call that answers a refusal uses 0 octets and leaves table, bank and lists exactly as they were
pub refused_changes_nothing : (b : Bridge) (c : Call) (why : Refusal) → (take_of b c).answer.verdict ≡ Refused why → ((take_of b c).after ≡ b) × ((take_of b c).answer.used ≡ 0)
refused_changes_nothing b c why e =
    let all : take_of b c ≡ refused_of b why = call_keeps b why c (take_of b c) (called_way b c) e in
    (ap (λ (o : Took). o.after) all, ap (λ (o : Took). o.answer.used) all)

-- so that a call that is refused leaves no trace in any history
pub refused_leaves_no_trace : (b : Bridge) (c : Call) (cs : List Call) (why : Refusal) → (take_of b c).answer.verdict ≡ Refused why → run_of b (c ∷ cs) ≡ run_of b cs
unfolding run_of
refused_leaves_no_trace b c cs why e = ap (λ (x : Bridge). run_of x cs) (refused_changes_nothing b c why e).0

-- ---- a record that is taken uses its whole length

answered_used : (used : ℕ) (v : Verdict) → NoRefusal v → (answered used v).used ≡ used
answered_used used (Refused why) h = absurd (h why refl)
answered_used used Taken h = refl
answered_used used (Passed p) h = refl
answered_used used (Dropped d) h = refl

placed_used : (full : Bool) (b : Bridge) (why' : Refusal) (t : Took) (used : ℕ) → t.answer.used ≡ used → NoRefusal (cond full (refused_of b why') t).answer.verdict
    → (cond full (refused_of b why') t).answer.used ≡ used
placed_used true b why' t used e h = absurd (h why' refl)
placed_used false b why' t used e h = e

module _ (b : Bridge) (c : Call) where
  given_back : (used : ℕ) (v : Verdict) → NoRefusal (answered used v).verdict → (answered used v).used ≡ used
  given_back used v h = answered_used used v (λ why e. h why (answered_verdict used v ∙ e))

  done_uses : (r : Record) (used : ℕ) (o : Call → Took) → Done b used r o → NoRefusal (o c).answer.verdict → (o c).answer.used ≡ used
  done_uses r used o (banks t keeps) = given_back used t.verdict
  done_uses r used o (lists x) = given_back used (add_entry_of b.bank b.lists (body_in c used) x).verdict
  done_uses r used o (places full table) = placed_used full b SetUpAlready _ used refl

  -- what was read and by which kind, and that all of it was used: the kind's octet and the octets of its fields
  pub record Uses (o : Took) : Type 0 where
    pub said : Record
    pub length_said : ℕ
    pub reads : reading_of b c ≡ Ok (said, length_said)
    pub kind_said : Kind
    pub first : kind_of (get_or c 0 0) ≡ some kind_said
    pub whole_said : length_said ≡ record_length kind_said
    pub whole : o.answer.used ≡ record_length kind_said

  call_uses : (o : Took) → Called b c o → NoRefusal o.answer.verdict → Uses o
  call_uses o (unread why) h = absurd (h why refl)
  call_uses o (read r used full e) h =
      let y = read_says c (started_of b.bank) r used e in
      record { said = r; length_said = used; reads = e; kind_said = y.kind; first = y.said; whole_said = sym y.uses; whole = done_uses r used _ (done_way b r used) h ∙ sym y.uses }

  -- a call that answers no refusal read a record, and uses that record's whole length
  pub taken_uses_whole : NoRefusal (take_of b c).answer.verdict → Uses (take_of b c)
  taken_uses_whole = call_uses (take_of b c) (called_way b c)
