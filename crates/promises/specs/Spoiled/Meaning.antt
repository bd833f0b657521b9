-- A spoiled row (01, the filter table's paragraph): which places count as empty, and what a call leaves but for such a place.
use Rattle.std.specs.Prelude.{ℕ, Bool, not, cond, set}
use Rattle.filter.specs.Meaning.{no_row, is_filter_of, counts_of, row_of}
use Rattle.stage.specs.Meaning.{Bridge, Took, bridge, took, started_of}

-- place i counts as empty: before start, its row has a field out of range or isn't used; after it, besides, it names what isn't set up or is one
-- that start refuses with 8
abbrev pub spoiled_at : Bridge → ℕ → Bool
spoiled_at b i = not (cond (started_of b.bank) (counts_of b.bank (row_of b.table i)) (is_filter_of (row_of b.table i)))

-- the bridge with that place emptied
abbrev pub emptied : ℕ → Bridge → Bridge
emptied i b = bridge (set b.table i no_row) b.bank b.lists

-- what a call leaves, but for that place
abbrev pub but_for : ℕ → Took → Took
but_for i o = took (set o.after.table i no_row) o.after.bank o.after.lists o.answer
