-- Places of steps, marks of steps done, orders of steps, and words of messages.
pub mod Places
pub mod Marks
pub mod Order
pub mod Message
