pub mod Answers
pub mod Folding
pub mod LeastProducts
pub mod Staying
pub mod NodeParts
pub mod NodeAnswers
