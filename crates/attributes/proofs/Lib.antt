pub mod StepLaws
pub mod Bounds
pub mod ListLaws
pub mod Stopping
pub mod Closes
pub mod AttributeLaws
pub mod Worked
