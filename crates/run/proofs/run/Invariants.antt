-- At a turn, the run of the turns that are left, from the bridge, the page and the progress of now, is the whole run.
use Rattle.std.proofs.Common.{◌≡◌, ◌-◌, length}
use Rattle.bank.specs.Meaning.{rows_of}
use Rattle.stage.specs.Meaning.{bridge}
use Rattle.run.specs.Meaning.{piece_run_of}
use Rattle.run.proofs.run.Given as goal

abbrev pub invariant-loop : goal.invariant-loop
invariant-loop g l =
    piece_run_of (length l.input - l.counter) l.input (bridge l.table (rows_of l.bank) l.lists) l.page l.p
    ≡ piece_run_of (length l.fn.input) l.fn.input (bridge l.fn.table (rows_of l.fn.bank) l.fn.lists) l.fn.page l.fn.from
