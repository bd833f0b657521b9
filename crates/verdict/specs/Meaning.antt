-- What a call answers (01, Refusal numbers; 01, A frame's path): the verdict and the octets that it uses, the number of each reason to drop a frame,
-- and what the handling of a record leaves of the bank with its verdict. (The numbers of refusals are `refusal_number_of` of the crate record.)
use Rattle.std.specs.Prelude.{ℕ, Result, Ok, Err}
use Rattle.record.specs.declared.Refusal.{Refusal}
use Rattle.verdict.specs.declared.Drop.{Drop}
use Rattle.verdict.specs.declared.Drop.TheVariants.{OversizeBlocked, Oversize, GateBlocked, GateClosed, GateOctets, Yellow, Red, Residence}
use Rattle.verdict.specs.declared.Pass.{Pass}
use Rattle.verdict.specs.declared.Outcome.{Outcome}
use Rattle.verdict.specs.declared.Outcome.TheVariants.{Done, Passed as passed, Dropped as dropped}
use Rattle.verdict.specs.declared.Taken.{Taken as TakenRecord}
use Rattle.bank.specs.Meaning.{Rows}

abbrev pub drop_number_of : Drop → ℕ
drop_number_of OversizeBlocked = 1
drop_number_of Oversize = 2
drop_number_of GateBlocked = 3
drop_number_of GateClosed = 4
drop_number_of GateOctets = 5
drop_number_of Yellow = 6
drop_number_of Red = 7
drop_number_of Residence = 8

pub data Verdict : Type 0 where
  Refused : Refusal → Verdict
  -- a record that is no arrival
  Taken : Verdict
  Passed : Pass → Verdict
  Dropped : Drop → Verdict

-- a refusal uses 0 octets, a taken record its whole length
pub record Answer : Type 0 where
  pub used : ℕ
  pub verdict : Verdict

pub record Told : Type 0 where
  pub bank : Rows
  pub verdict : Verdict

abbrev pub told : Rows → Verdict → Told
told s v = record { bank = s; verdict = v }

-- ---- what the code gives, as verdicts and answers

abbrev pub verdict_of : Outcome → Verdict
verdict_of Done = Taken
verdict_of (passed p) = Passed p
verdict_of (dropped d) = Dropped d

abbrev pub said : Result Outcome Refusal → Verdict
said (Ok o) = verdict_of o
said (Err r) = Refused r

abbrev pub set_up : Result (Unit {0}) Refusal → Verdict
set_up (Ok u) = Taken
set_up (Err r) = Refused r

abbrev pub answer_of : Result TakenRecord Refusal → Answer
answer_of (Ok t) = record { used = t.used; verdict = verdict_of t.outcome }
answer_of (Err r) = record { used = 0; verdict = Refused r }
