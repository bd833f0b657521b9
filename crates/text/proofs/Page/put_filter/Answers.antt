-- `text::Page::put_filter` meets its contract. Assumes nothing.
use Rattle.text.proofs.Laws.{written_append}
use Rattle.text.specs.Meaning.{filter_items_of}
use Rattle.text.proofs.Page.put_filter.Goals as goal

pub returns : goal.returns
unfolding filter_items_of
returns g c = simp written_append cc
