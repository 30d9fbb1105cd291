pub mod formers
pub mod PortName
pub mod Ports
pub mod Inputs
pub mod Names
pub mod Fixed
pub mod Faults
