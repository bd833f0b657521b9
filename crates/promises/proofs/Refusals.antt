-- The refusals: a refusal leaves no trace, a record that is taken uses its whole length, and each number is given exactly when the table says.
pub mod Keeps
pub mod Numbers
