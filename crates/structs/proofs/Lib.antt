pub mod PassLaws
pub mod StepLaws
pub mod ScanLaws
pub mod TypeLaws
pub mod Worked
