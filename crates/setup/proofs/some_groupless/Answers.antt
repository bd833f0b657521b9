-- `any` over the numbers below scheduler_count is `some_of`.
use Rattle.std.proofs.Common.{◌∙◌, refl, rules, tests}
use Rattle.std.proofs.lemmas.Iterator.{YieldsList-from_range}
use Rattle.std.proofs.lemmas.Iterator.Search.{any_from_yields_List}
use Rattle.sizes.specs.Meaning.{scheduler_count}
use Rattle.bank.specs.Meaning.{rows_of}
use Rattle.setup.specs.Meaning.{groupless_of}
use Rattle.setup.proofs.Cases.{some_of_any}
use Rattle.setup.proofs.some_groupless.Goals as goal

pub returns : goal.returns
returns c =
    let test = groupless_of (rows_of c.args.bank.now) in
    any_from_yields_List test _ _ _ c.any.ensures.ran (YieldsList-from_range 0 scheduler_count scheduler_count refl refl) (λ x b q k. search (rules, tests)) ∙ some_of_any test scheduler_count
