pub mod WalkPlaces
pub mod LineBoxes
pub mod Boxes
pub mod Opening
