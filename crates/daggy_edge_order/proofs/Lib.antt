pub mod ParentsAsked
pub mod KeptBefore
