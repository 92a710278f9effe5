-- the number of a cut set that is said
mod Numbers
-- the picture that the words ask for, or the cause of its refusal
mod Causes
-- what a run told
mod ToldLemmas
