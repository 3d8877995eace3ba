pub mod Asking
pub mod Calls
pub mod Finishing
pub mod Forms
pub mod Opening
pub mod Reached
pub mod Stepping
