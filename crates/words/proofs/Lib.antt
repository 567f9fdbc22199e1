pub mod Dashes
pub mod Decimals
pub mod Pairs
pub mod Items
pub mod SaidLaws
pub mod DecidedLaws
