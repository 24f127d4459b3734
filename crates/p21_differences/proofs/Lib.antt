pub mod EntityLists
pub mod SideBySide
pub mod Sets
pub mod Handing
pub mod Naming
pub mod FileLines
