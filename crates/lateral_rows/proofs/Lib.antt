pub mod PlaceRules
pub mod RowRules
pub mod RowLaws
pub mod AggregateRules
pub mod SumRules
pub mod ValueOrders
pub mod StableSorts
