pub mod Bodies
pub mod BytesAt
pub mod Codec
pub mod ReadBack
