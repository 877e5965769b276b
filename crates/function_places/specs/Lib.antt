pub mod NodePlaces
pub mod TokenPlaces
pub mod LimitPlaces
pub mod StuckPlaces
pub mod Hints
pub mod HintEntries
pub mod PlaceLaws
