-- What an answer says, and what each side of a step is given and leaves.
pub mod Zero
pub mod Sides
