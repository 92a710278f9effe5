-- which units may be out together
pub mod FreeLemmas
-- the cut sets that hold a unit decide whether it may go out
pub mod OwnLemmas
-- lists without repeats, and what a filter keeps of them
pub mod KeptLemmas
-- how one wave is filled
pub mod TakenLemmas
-- first-fit waves, one more in front, and that there is one list of them
pub mod FirstFitLemmas
-- the steps of the loops
pub mod StepLemmas
-- takes that are granted in any order
pub mod GrantLemmas
-- a wave that is taken and returned, and histories that ask for waves
pub mod RoundLemmas
-- what the text of waves says
pub mod ReadLemmas
