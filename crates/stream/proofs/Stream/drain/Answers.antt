-- Where the stream stands after its last piece is what it comes to.
use Rattle.std.proofs.Common.{sym, ◌∙◌, refl}
use Rattle.bank.specs.Meaning.{rows_of}
use Rattle.stage.specs.Meaning.{bridge}
use Rattle.stream.specs.Meaning.{empty_table}
use Rattle.stream.proofs.Laws.{stands_first, stands_drains, well}
use Rattle.stream.proofs.Stream.drain.Goals as goal

pub returns : goal.returns
returns g c =
    let bank = rows_of c.args.bank.now in
    let lists = c.args.lists.now in
    stands_drains bank lists c.pieces-end.new.self _ _ (c.pieces-end.ensures.stands (bridge empty_table bank lists) (stands_first bank lists _ _ c.args.quiet _ _ c.default.ensures c.fresh.ensures)) _ c.ended.ensures refl refl
    (λ none. c.pieces-end.ensures.over (well c.pieces-end.result (sym c.last_failure.ensures ∙ none)))
