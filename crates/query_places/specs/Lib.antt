pub mod QueryPlaces
pub mod QueryPlaceLaws
