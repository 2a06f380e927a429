pub mod Hex
pub mod BytesBack
pub mod NumberBack
pub mod Fresh
