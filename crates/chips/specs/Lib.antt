pub mod NestedChip
pub mod PairedChip
pub mod ChipLaws
pub mod Wiring
pub mod ChipParts
