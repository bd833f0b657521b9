-- Worked cases: a row of frames through one scheduler that is alone in its group, computed.
use Rattle.std.specs.Prelude.{ℕ, List, [], ◌∷◌, ◌≡◌}
use Rattle.scheduler.specs.declared.Scheduler.{Scheduler}
use Rattle.scheduler.specs.declared.Outcome.{Outcome}
use Rattle.scheduler.specs.declared.Outcome.TheVariants.{Admitted, Dropped, Refused}
use Rattle.bucket.specs.Meaning.{grains}
use Rattle.scheduler.specs.Meaning.{scheduler_step_of}

-- a scheduler with a full bucket
abbrev pub full : ℕ → ℕ → Scheduler
full rate burst = record { rate = record { 0 = rate }; burst = record { 0 = burst }; level = grains burst; last = 0 }

-- a group's last time, which was `g`, after an outcome: an admitted frame's eligibility time becomes it
abbrev pub group_after : ℕ → Outcome → ℕ
group_after g (Admitted at) = at
group_after g Dropped = g
group_after g Refused = g

-- the outcomes of frames of `length` octets that arrive at the times of a list
unfoldable pub outcomes_after : Scheduler → ℕ → ℕ → ℕ → List ℕ → List Outcome
outcomes_after s g residence length [] = []
outcomes_after s g residence length (t ∷ ts) =
    let r = scheduler_step_of s g residence t (record { 0 = length }) in
    r.outcome ∷ outcomes_after r.scheduler (group_after g r.outcome) residence length ts

-- a scheduler, and its group's last time beside it
pub record Alone : Type 0 where
  pub scheduler : Scheduler
  pub group : ℕ

-- both after the frames of a list
unfoldable pub last_of : Scheduler → ℕ → ℕ → ℕ → List ℕ → Alone
last_of s g residence length [] = record { scheduler = s; group = g }
last_of s g residence length (t ∷ ts) =
    let r = scheduler_step_of s g residence t (record { 0 = length }) in
    last_of r.scheduler (group_after g r.outcome) residence length ts

-- document 01's scheduler S: a rate of 10^9 and a burst of 1000
abbrev pub S : Scheduler
S = full 1_000_000_000 1000

-- ★A four at 0, ★B a fifth, dropped, ★C the next at 2000, at the limit exactly
abbrev pub CaseABC : Type 0
CaseABC = outcomes_after S 0 10_000 500 (0 ∷ 0 ∷ 0 ∷ 0 ∷ 0 ∷ 2000 ∷ []) ≡ Admitted 0 ∷ Admitted 0 ∷ Admitted 4000 ∷ Admitted 8000 ∷ Dropped ∷ Admitted 12_000 ∷ []

-- ★D a wait that is no whole number of ns is rounded up once, and the rest stays in the bucket
abbrev pub CaseD : Type 0
CaseD = outcomes_after (full 3_000_000_000 1000) 0 10_000 500 (0 ∷ 0 ∷ 0 ∷ 0 ∷ 0 ∷ []) ≡ Admitted 0 ∷ Admitted 0 ∷ Admitted 1334 ∷ Admitted 2667 ∷ Admitted 4000 ∷ []

-- ★E a full scheduler of the same group, after A's third
abbrev pub CaseE : Type 0
CaseE = outcomes_after S (last_of S 0 10_000 500 (0 ∷ 0 ∷ 0 ∷ [])).group 10_000 500 (0 ∷ []) ≡ Admitted 4000 ∷ []
