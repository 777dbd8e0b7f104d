pub mod Distance
pub mod Stops
pub mod Changes
pub mod Breaks
pub mod PartLaws
pub mod TownLaws
pub mod SameStops
pub mod GoodTrips
