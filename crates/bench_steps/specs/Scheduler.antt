-- A scheduler kept in eight words, its group's last time beside it, and what one step leaves there.
use Rattle.std.specs.Prelude.{ℕ, ◌%◌, List, get_or, set}
use Rattle.scheduler.specs.declared.Scheduler.{Scheduler}
use Rattle.scheduler.specs.declared.Stepped.{Stepped as Offered}
use Rattle.scheduler.specs.Meaning.{scheduler_number_of, scheduler_step_of}
use Rattle.scheduler.specs.Worked.{group_after}
use Rattle.bench_steps.specs.Words.{Stepped}

abbrev pub scheduler_of : List ℕ → Scheduler
scheduler_of words = record {
  rate = record { 0 = get_or words 0 0 };
  burst = record { 0 = get_or words 1 0 % 4_294_967_296 };
  level = get_or words 2 0;
  last = get_or words 3 0;
}

-- what a step changes: the level, and both last times
abbrev pub put_of : List ℕ → Offered → List ℕ
put_of words r = set (set (set words 2 r.scheduler.level) 3 r.scheduler.last) 4 (group_after (get_or words 4 0) r.outcome)

abbrev pub told_by : List ℕ → Offered → Stepped
told_by words r = record { words = put_of words r; answer = scheduler_number_of r.outcome }

unfoldable pub offered_of : List ℕ → ℕ → ℕ → ℕ → Stepped
offered_of words residence arrival length = told_by words (scheduler_step_of (scheduler_of words) (get_or words 4 0) residence arrival (record { 0 = length }))
