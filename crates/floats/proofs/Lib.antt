pub mod Laws
pub mod Decides
pub mod FloatStops
pub mod Bounded
