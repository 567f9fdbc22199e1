pub mod StateLaws
pub mod StoreLaws
pub mod Bounds
pub mod RoundTrip
