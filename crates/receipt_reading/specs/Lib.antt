pub mod FieldTexts
pub mod Front
pub mod Printed
pub mod Reading
pub mod ReceiptRows
pub mod ReceiptSearch
pub mod Roll
pub mod Common
