-- The promise on bursts: what it says of two histories from the fresh bridge that are equal but for one call, which sets up one scheduler with a larger burst in the second, and that take their start at the same call.
-- As long as the first drops no frame of that scheduler's group with 8, the second drops none either, no frame is eligible later in it, and every other part of every answer, every counter and every flag is equal.
-- And what is no frame of the group gets the very same answers, whatever happens inside it. That it holds is `larger_burst` in `Theorem.antt`.
use Rattle.std.specs.Prelude.{ℕ, ◌≤◌, ◌<◌, true, false, List, [], ◌∷◌, ◌≢◌, ◌≡◌, Ok, Some}
use Rattle.record.specs.declared.ArrivalRecord.{ArrivalRecord}
use Rattle.record.specs.declared.SchedulerRecord.{SchedulerRecord}
use Rattle.record.specs.Meaning.{read_of}
use Rattle.bank.specs.Meaning.{group_row, scheduler_row, scheduler_group, component_row, port_row, counters_row, gate_row, gate_state_row, meter_row, meter_state_row}
use Rattle.filter.specs.declared.Filter.{Filter}
use Rattle.filter.specs.Meaning.{Found}
use Rattle.filter.specs.Meaning.{Fits}
use Rattle.verdict.specs.declared.Pass.{Pass}
use Rattle.verdict.specs.Meaning.{Verdict}
use Rattle.verdict.specs.Meaning.{Passed, Dropped}
use Rattle.stage.specs.Meaning.{Bridge, Took, key_of, first_row, started_of, take_of}
use Rattle.promises.specs.Meaning.{Call, run_of}
use Rattle.record.specs.declared.Record.TheVariants as kind
use Rattle.verdict.specs.declared.Drop.TheVariants as drop

-- ---- frames of the group: their matched filter names a scheduler of it (whether or not they get that far)

abbrev pub match_of : Bridge → ArrivalRecord → Found
match_of b a = first_row b Fits (key_of a)

pub record Grouped (g : ℕ) (b : Bridge) (a : ArrivalRecord) : Type 0 where
  pub place : ℕ
  pub row : Filter
  pub matched : match_of b a ≡ Some (place, row)
  pub scheduled : row.scheduler ≢ 255
  pub in_group : scheduler_group b.bank row.scheduler ≡ g

-- the call is a frame of the group
pub record Framed (g : ℕ) (b : Bridge) (c : Call) : Type 0 where
  pub frame : ArrivalRecord
  pub used : ℕ
  pub reads : read_of c (started_of b.bank) ≡ Ok (kind.Arrival frame, used)
  pub grouped : Grouped g b frame

-- ---- verdicts that differ in nothing but an eligibility time, which is no later in the second

pub data NotLater : Verdict → Verdict → Type 0 where
  same : {v v' : Verdict} → v ≡ v' → NotLater v v'
  earlier : (p : Pass) (at : ℕ) → p.timed ≡ true → at ≤ p.eligible → NotLater (Passed p) (Passed (record { priority = p.priority; class = p.class; drop_mark = p.drop_mark; timed = p.timed; eligible = at }))

-- drop 8
abbrev pub Eight : Verdict → Type 0
Eight v = v ≡ Dropped drop.Residence

-- ---- what is said of two runs of the same calls

-- after each call, both have taken a start or neither has
abbrev pub StartTogether : Bridge → Bridge → List Call → Type 0
StartTogether b b' [] = Unit {0}
StartTogether b b' (c ∷ cs) = (started_of (take_of b c).after.bank ≡ started_of (take_of b' c).after.bank) × StartTogether (take_of b c).after (take_of b' c).after cs

-- no call drops a frame of the group with 8
abbrev pub Spared : ℕ → Bridge → List Call → Type 0
Spared g b [] = Unit {0}
Spared g b (c ∷ cs) = (Framed g b c → Eight (take_of b c).answer.verdict → ⊥) × Spared g (take_of b c).after cs

-- each answer uses as many octets and has the same verdict, but for an eligibility time that is no later in the second
abbrev pub NoLater : Bridge → Bridge → List Call → Type 0
NoLater b b' [] = Unit {0}
NoLater b b' (c ∷ cs) = (((take_of b c).answer.used ≡ (take_of b' c).answer.used) × NotLater (take_of b c).answer.verdict (take_of b' c).answer.verdict) × NoLater (take_of b c).after (take_of b' c).after cs

-- each call that is no frame of the group has the same answer; and a frame of the group in the first is one in the second
abbrev pub SameOutside : ℕ → Bridge → Bridge → List Call → Type 0
SameOutside g b b' [] = Unit {0}
SameOutside g b b' (c ∷ cs) = (((Framed g b c → ⊥) → (take_of b c).answer ≡ (take_of b' c).answer) × (Framed g b c → Framed g b' c)) × SameOutside g (take_of b c).after (take_of b' c).after cs

-- the filter table, the gate lists, and every row of the bank but those of the group and of its schedulers, table by table
pub record SameBesides (g : ℕ) (b b' : Bridge) : Type 0 where
  pub tables : b.table ≡ b'.table
  pub lists : b.lists ≡ b'.lists
  pub component : b.bank component_row ≡ b'.bank component_row
  pub ports : (i : ℕ) → b.bank (port_row i) ≡ b'.bank (port_row i)
  pub counters : (i : ℕ) → b.bank (counters_row i) ≡ b'.bank (counters_row i)
  pub gates : (i : ℕ) → b.bank (gate_row i) ≡ b'.bank (gate_row i)
  pub gate_states : (i : ℕ) → b.bank (gate_state_row i) ≡ b'.bank (gate_state_row i)
  pub meters : (i : ℕ) → b.bank (meter_row i) ≡ b'.bank (meter_row i)
  pub meter_states : (i : ℕ) → b.bank (meter_state_row i) ≡ b'.bank (meter_state_row i)
  pub groups : (j : ℕ) → group_row j ≢ group_row g → b.bank (group_row j) ≡ b'.bank (group_row j)
  pub schedulers : (i : ℕ) → scheduler_group b.bank i ≢ g → b.bank (scheduler_row i) ≡ b'.bank (scheduler_row i)

-- ---- the call in which the two histories differ

-- both say a record of one scheduler, in range, equal but for the burst, which is larger in the second
pub record Larger (c c' : Call) : Type 0 where
  pub first : SchedulerRecord
  pub second : SchedulerRecord
  pub used : ℕ
  pub used' : ℕ
  pub says : read_of c false ≡ Ok (kind.Scheduler first, used)
  pub says' : read_of c' false ≡ Ok (kind.Scheduler second, used')
  pub ids : second.id ≡ first.id
  pub groups : second.group ≡ first.group
  pub rates : second.cir ≡ first.cir
  pub bursts : first.cbs.0 < second.cbs.0

-- ---- the promise

-- `o` and `o'` are what the differing call did, `cs` the calls after it
pub record Promise (g : ℕ) (o o' : Took) (cs : List Call) : Type 0 where
  pub answers : o.answer ≡ o'.answer
  pub no_later : Spared g o.after cs → NoLater o.after o'.after cs
  pub spared : Spared g o.after cs → Spared g o'.after cs
  pub besides : Spared g o.after cs → SameBesides g (run_of o.after cs) (run_of o'.after cs)
  pub outside : SameOutside g o.after o'.after cs
