-- names as texts show them
pub mod Shown
-- the word of a gate's kind
pub mod GateWords
