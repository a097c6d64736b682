-- What the price tables are after steps 1 and 3, and that this is the model's effect.
pub mod Words
pub mod Effect
