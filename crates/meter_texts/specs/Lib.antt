pub mod MadeOf
pub mod Common
