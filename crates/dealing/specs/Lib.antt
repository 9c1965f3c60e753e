pub mod Model
pub mod Going
