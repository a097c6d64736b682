-- Laws of local lists and of places.
pub mod Gathered
pub mod Listing
pub mod Local
pub mod Modelled
pub mod Groups
pub mod Starts
pub mod Putting
pub mod Joined
pub mod Taking
pub mod Boxes
pub mod Messages
