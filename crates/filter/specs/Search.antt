-- The search that start's two questions share: the first row of the whole table that passes a test. Not part of what document 01 says.
use Rattle.std.specs.Prelude.{Bool, List}
use Rattle.sizes.specs.Meaning.{filter_count}
use Rattle.filter.specs.declared.Filter.{Filter}
use Rattle.filter.specs.Meaning.{Found, first_found}

unfoldable pub first_of_all : (Filter → Bool) → List Filter → Found
first_of_all test rows = first_found test rows 0 filter_count
