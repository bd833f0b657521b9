-- What is kept is what the records taken say, and each refusal is given exactly when they say so. `Meaning.antt` has the definitions, `Kept.antt` and `Table.antt` the theorems.
pub mod Grows
pub mod Entries
pub mod Agrees
pub mod Filters
pub mod Lists
pub mod Words
pub mod Setups
pub mod Frames
pub mod Tests
pub mod Settings
pub mod Calls
pub mod Kept
pub mod Table
