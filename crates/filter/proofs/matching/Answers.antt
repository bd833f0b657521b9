-- `filter::matching` meets its contract: no row that `seek` passes over answers (`sought`), and the rest is searched.
use Rattle.std.proofs.Common.{◌∙◌, ap}
use Rattle.bank.specs.Meaning.{rows_of}
use Rattle.filter.specs.declared.Question.{Question}
use Rattle.filter.specs.Meaning.{Fits, of_every_place, question_of, search_from, search_of}
use Rattle.filter.proofs.SearchLaws.{search_begins, search_rest}
use Rattle.filter.proofs.SeekLaws.{sought}
use Rattle.filter.proofs.matching.Goals as goal

pub returns : goal.returns
returns c =
    let q = of_every_place Fits c.args.key in
    let s = rows_of c.args.bank.now in
    let rows = c.args.table.now in
    c.search.ensures
    ∙ ap (λ (asked : Question). search_of s (question_of asked) rows) c.of_rest.ensures
    ∙ search_rest s rows Fits c.args.key c.seek.result
    ∙ ap (search_from s q rows) c.seek.ensures
    ∙ sought q rows s 0
    ∙ search_begins s q rows
