pub mod Bits
pub mod BitsLaws
pub mod Members
pub mod MembersLaws
pub mod CubesLaws
pub mod OfCube
pub mod OfPattern
