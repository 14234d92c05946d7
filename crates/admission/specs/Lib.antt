pub mod Kinds
pub mod Admission
pub mod Laws
pub mod Memory
pub mod Results
