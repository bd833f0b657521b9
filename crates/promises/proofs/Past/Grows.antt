-- What is known of a past grows with each record that is taken: at the end of the past, one object at a time.
use Rattle.std.specs.Prelude.{ℕ, Bool, true, false, cond, List, [], ◌∷◌, ◌++◌, ◌≡◌, refl, eqb, Ok}
use Rattle.std.proofs.Common.{append-nil, append_assoc, sym, ap, ◌∙◌}
use Rattle.std.proofs.Math.Option.{Option, none, some}
use Rattle.record.specs.declared.Record.{Record}
use Rattle.record.specs.declared.GateEntryRecord.{GateEntryRecord}
use Rattle.record.specs.Meaning.{Sought, another, an_entry, a_start, an_arrival, a_clear, sought_in, by_entry, of_entry}
use Rattle.verdict.specs.Meaning.{Verdict}
use Rattle.verdict.specs.Meaning.{Refused, Taken, Passed, Dropped}
use Rattle.promises.specs.Past.Meaning.{Past, or_else, last_in, all_in, seek_port, seek_filter, seek_gate, seek_meter, seek_group, seek_scheduler, seek_entry, seek_start, seek_arrival, Known, known_of, record_added}

-- what is known after one record more
abbrev pub noted : Known → Record → Known
noted k r = record {
  port = λ i. or_else (seek_port i r) (k.port i);
  filter = λ i. or_else (seek_filter i r) (k.filter i);
  gate = λ i. or_else (seek_gate i r) (k.gate i);
  entries = λ i. of_entry (λ e. cond (eqb e.gate i) (k.entries i ++ (e ∷ [])) (k.entries i)) (k.entries i) r;
  meter = λ i. or_else (seek_meter i r) (k.meter i);
  group = λ i. or_else (seek_group i r) (k.group i);
  scheduler = λ i. or_else (seek_scheduler i r) (k.scheduler i);
  start = or_else (seek_start r) k.start;
  arrival = or_else (seek_arrival r) k.arrival;
}

else_else : {A : Type 0} (x y z : Option A) → or_else (or_else x y) z ≡ or_else x (or_else y z)
else_else none y z = refl
else_else (some a) y z = refl

last_grown : {A : Type 0} (seek : Record → Option A) (past : Past) (r : Record) → last_in seek (past ++ (r ∷ [])) ≡ or_else (seek r) (last_in seek past)
unfolding last_in
last_grown seek [] r = none_else (seek r)
  where
    none_else : {A : Type 0} (o : Option A) → o ≡ or_else o none
    none_else none = refl
    none_else (some a) = refl
last_grown seek (p ∷ past) r = ap (λ o. or_else o (seek p)) (last_grown seek past r) ∙ else_else (seek r) (last_in seek past) (seek p)

all_grown : {A : Type 0} (seek : Record → List A) (past : Past) (r : Record) → all_in seek (past ++ (r ∷ [])) ≡ all_in seek past ++ seek r
unfolding all_in
all_grown seek [] r = append-nil (seek r)
all_grown seek (p ∷ past) r = ap (λ l. seek p ++ l) (all_grown seek past r) ∙ sym (append_assoc (seek p) (all_in seek past) (seek r))

-- an entry stands behind those of its gate
behind : {A : Type 0} (t : Bool) (l : List A) (x : A) → l ++ cond t (x ∷ []) [] ≡ cond t (l ++ (x ∷ [])) l
behind true l x = refl
behind false l x = append-nil l

entry_behind : (i : ℕ) (l : List GateEntryRecord) (z : Sought) → l ++ by_entry (λ e. cond (eqb e.gate i) (e ∷ []) []) [] z ≡ by_entry (λ e. cond (eqb e.gate i) (l ++ (e ∷ [])) l) l z
entry_behind i l another = append-nil l
entry_behind i l (an_entry e) = behind (eqb e.gate i) l e
entry_behind i l (a_start r) = append-nil l
entry_behind i l (an_arrival a) = append-nil l
entry_behind i l (a_clear r) = append-nil l

pub known_grown : (past : Past) (r : Record) → known_of (past ++ (r ∷ [])) ≡ noted (known_of past) r
known_grown past r = λ j. record {
  port = λ i. last_grown (seek_port i) past r j;
  filter = λ i. last_grown (seek_filter i) past r j;
  gate = λ i. last_grown (seek_gate i) past r j;
  entries = λ i. (all_grown (seek_entry i) past r ∙ entry_behind i (all_in (seek_entry i) past) (sought_in r)) j;
  meter = λ i. last_grown (seek_meter i) past r j;
  group = λ i. last_grown (seek_group i) past r j;
  scheduler = λ i. last_grown (seek_scheduler i) past r j;
  start = last_grown seek_start past r j;
  arrival = last_grown seek_arrival past r j;
}

-- what is known after a call that reads r and answers v
abbrev pub noted_by : Verdict → Known → Record → Known
noted_by (Refused why) k r = k
noted_by Taken k r = noted k r
noted_by (Passed p) k r = noted k r
noted_by (Dropped d) k r = noted k r

pub known_added : (past : Past) (v : Verdict) (r : Record) (used : ℕ) → known_of (past ++ record_added v (Ok (r, used))) ≡ noted_by v (known_of past) r
known_added past (Refused why) r used = ap known_of (append-nil past)
known_added past Taken r used = known_grown past r
known_added past (Passed p) r used = known_grown past r
known_added past (Dropped d) r used = known_grown past r
