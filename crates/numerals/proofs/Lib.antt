pub mod Numbers
pub mod BigEndian
pub mod Laying
pub mod Pages
pub mod Going
