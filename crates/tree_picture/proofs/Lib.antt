-- what a label shows of the text that is written in it
pub mod LabelLemmas
-- which line begins with the head of which node
pub mod HeadLemmas
-- the lines of a text, and those that belong to one number
pub mod LineLemmas
-- what the labels of a picture show
mod ShownLemmas
-- a line that is put behind its head
mod PutLemmas
-- the lines of a picture, and which of them belong to a node
mod OnceLemmas
