-- What no call's promise rests on: the contracts of inner functions.
pub mod Bits
