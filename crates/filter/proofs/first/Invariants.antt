-- No row before the loop's place passes, whatever test the closure is.
use Rattle.std.proofs.Common.{◌≡◌, ℕ, Bool, false, ◌<◌, ◌≤◌}
use Rattle.std.specs.Fn.{FnReturnsAt}
use Rattle.filter.specs.declared.Filter.{Filter}
use Rattle.filter.specs.Meaning.{row_of}
use Rattle.filter.proofs.first.Given as goal

abbrev pub invariant-loop-i : goal.invariant-loop-i
invariant-loop-i g l =
    (test : Filter → Bool) → ((row : Filter) (b : Bool) → FnReturnsAt g.F.Fn l.passes row b → b ≡ test row)
    → (k : ℕ) → l.from ≤ k → k < l.i → test (row_of l.table k) ≡ false
