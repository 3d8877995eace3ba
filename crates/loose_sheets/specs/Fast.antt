pub mod Frame
pub mod Framed
pub mod Laying
pub mod Matching
pub mod Plain
