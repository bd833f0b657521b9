-- Demand 3: what a larger burst of one scheduler does to a whole history. `Meaning.antt` has the definitions, `Theorem.antt` the theorem.
pub mod Meaning
