-- `filter::first` meets its contract: the row of the table that the closure passes is the first that does (`first_at`); past the table's end the
-- empty row is the first (`first_past_end`), or no place passes (`first_nowhere`).
use Rattle.std.proofs.Common.{◌≡◌, ◌<◌, false, max, length, sym, ◌∙◌, ap, arith, rules}
use Rattle.filter.specs.Meaning.{no_row}
use Rattle.filter.proofs.SearchLaws.{first_at, first_nowhere, first_past_end, all_before}
use Rattle.filter.proofs.first.Goals as goal
use Rattle.filter.proofs.first.Goals.{else-past-to-via-then-past-to+else-passes-2, else-past-to-via-else-past-to}

pub returns-then-passes : goal.returns-then-passes
returns-then-passes g c test says =
    sym (first_at test c.args.table.now c.args.from c.args.to c.loop-i.i (omega arith) (omega arith) (sym (says _ _ (search rules)) ∙ c.if-passes.true) (c.loop-i.invariant test says))

pub loop-i-preserved : goal.loop-i-preserved
loop-i-preserved g c test says =
    all_before test c.args.table.now c.args.from c.loop-i.i (c.loop-i.invariant test says) (sym (says _ _ (search rules)) ∙ c.if-passes.false)

pub returns-then-passes-2 : goal.returns-then-passes-2
returns-then-passes-2 g c test says =
    let passed = ap test (sym c.default-empty.ensures) ∙ sym (says _ _ (search rules)) ∙ c.if-passes-2.true in
    let found = first_past_end test c.args.table.now c.args.from c.args.to c.loop-i.i (omega arith) (c.loop-i.invariant test says) (omega arith) passed in
    cc

pub returns : goal.returns
returns g c test says =
    sym (first_nowhere test c.args.table.now c.args.from c.args.to c.loop-i.i (omega arith) (c.loop-i.invariant test says) failed)
  where
    failed : max (length c.args.table.now) c.args.from < c.args.to → test no_row ≡ false
    failed within = elim c.else-past-to.branch [
      | else-past-to-via-then-past-to+else-passes-2 w ↦ ap test (sym c.default-empty.ensures) ∙ sym (says _ _ (search rules)) ∙ w.if-passes-2.false
      | else-past-to-via-else-past-to w ↦ absurd (omega arith)
    ]
