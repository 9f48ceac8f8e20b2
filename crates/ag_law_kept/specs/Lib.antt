pub mod Known
pub mod Past
pub mod Tells
pub mod Holds
pub mod Laws
pub mod Local
