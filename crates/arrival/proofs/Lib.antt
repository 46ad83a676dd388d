pub mod Flights
pub mod Pair
