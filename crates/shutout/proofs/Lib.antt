pub mod ShutReaders
pub mod ShutRepairs
pub mod ShutOut
