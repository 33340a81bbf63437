pub mod Rising
pub mod Laying
pub mod Answers
