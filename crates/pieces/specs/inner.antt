-- What no call's promise rests on: the contracts of inner functions.
pub mod Scans
pub mod Judges
pub mod Waiting
pub mod Turns
pub mod Runs
pub mod Comes
pub mod Limits
pub mod Steps
pub mod Lasts
