pub mod Codes
pub mod Goods
