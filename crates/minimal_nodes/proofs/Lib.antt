pub mod GateSteps
pub mod NodeLaws
