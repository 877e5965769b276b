pub mod Putting
pub mod PutNodes
pub mod ReadBack
pub mod WithoutNames
pub mod PlacedEvents
pub mod ReadSlots
pub mod FirstOccurrences
