pub mod Field
pub mod Kind
