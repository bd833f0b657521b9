-- Only document 01's cases happen: the verdict of every frame, in every bridge that calls can reach, is the one that document 01 gives. `Meaning.antt` has that
-- in its words, `Theorem.antt` the theorems.
pub mod Bounds
pub mod Stores
pub mod Setups
pub mod Steps
pub mod Every
pub mod Frames
pub mod Calls
pub mod Theorem
