-- What one step of a scheduler answers (01, Schedulers).
use Rattle.std.specs.Prelude.{ℕ, ◌+◌, ◌-◌, ◌^◌, max, Bool, cond, ◌&&◌, leb}
use Rattle.bucket.specs.Meaning.{grains, grown, wait_for}
use Rattle.bucket.specs.declared.Octets.{Octets}
use Rattle.scheduler.specs.declared.Scheduler.{Scheduler}
use Rattle.scheduler.specs.declared.Stepped.{Stepped}
use Rattle.scheduler.specs.declared.Outcome.{Outcome}
use Rattle.scheduler.specs.declared.Outcome.TheVariants.{Admitted, Dropped, Refused}

-- the numbers that a step takes; any other is refused
unfoldable pub scheduler_in_range : Scheduler → ℕ → ℕ → ℕ → Octets → Bool
scheduler_in_range s group residence arrival length =
    leb s.burst.0 1_000_000
    && (leb 1 s.burst.0 && leb s.level (grains s.burst.0) && leb length.0 s.burst.0 && leb 1 s.rate.0 && leb s.rate.0 10_000_000_000
    && leb s.last (2 ^ 62 + 1_000_000_000)
    && leb group (2 ^ 62 + 1_000_000_000)
    && leb arrival (2 ^ 62)
    && leb 1 residence
    && leb residence 1_000_000_000)

-- when a frame of `length` octets is eligible: not before it arrives, nor before the group's last one, nor before the bucket holds it
abbrev pub eligible_of : Scheduler → ℕ → ℕ → ℕ → ℕ
eligible_of s group arrival length = max arrival (max group (s.last + wait_for s.level s.rate.0 (grains length)))

-- the scheduler after a frame of `length` octets was admitted at `at`
abbrev pub spent : Scheduler → ℕ → ℕ → Scheduler
spent s length at = record { rate = s.rate; burst = s.burst; level = grown s.level s.rate.0 (grains s.burst.0) (at - s.last) - grains length; last = at }

-- "If it is at most arrival + residence", the frame is admitted, and its time "becomes the group's last time", which who keeps the group stores.
-- "Otherwise drop, and scheduler and group stay as they were"
abbrev pub decided : Scheduler → ℕ → ℕ → ℕ → Stepped
decided s length at limit =
    cond (leb at limit) (record { scheduler = spent s length at; outcome = Admitted at })
    (record { scheduler = s; outcome = Dropped })

unfoldable pub scheduler_step_of : Scheduler → ℕ → ℕ → ℕ → Octets → Stepped
scheduler_step_of s group residence arrival length =
    cond (scheduler_in_range s group residence arrival length)
    (decided s length.0 (eligible_of s group arrival length.0) (arrival + residence))
    (record { scheduler = s; outcome = Refused })

-- document 01's number for an outcome: drop 8, refusal 3; 0 where the frame is admitted
abbrev pub scheduler_number_of : Outcome → ℕ
scheduler_number_of (Admitted at) = 0
scheduler_number_of Dropped = 8
scheduler_number_of Refused = 3
