-- Demand 3: what a larger burst of one scheduler does to a whole history. `Meaning.antt` has the definitions, `Theorem.antt` the theorem.
pub mod Pairs
pub mod Frames
pub mod Outside
pub mod Inside
pub mod Found
pub mod Clears
pub mod Setups
pub mod Early
pub mod Later
pub mod Loose
pub mod Calls
pub mod Theorem
pub mod Worked
