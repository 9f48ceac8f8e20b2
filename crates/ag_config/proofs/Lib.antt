mod Faults
mod Keys
mod Modes
mod Ranges
