pub mod Forks
mod Examples
