pub mod Days
pub mod Fields
pub mod MomentLaws
pub mod Order
pub mod Table
