-- What is kept is what the records taken say, and each refusal is given exactly when they say so. `Meaning.antt` has the definitions, `Kept.antt` and `Table.antt` the theorems.
pub mod Meaning
